-- What is printed of a bundle (document 01, "The program's listing"): `refused` and the number of the first question that says no, 13, one of
-- opening's or 23; or the lines of the plain listing, under a setting, which holds the reading (document 02, note 12), each m row with the mark
-- for the ranges that the bundle gives (note 11).
use Rattle.std.specs.Prelude.{ℕ, ◌+◌, ◌*◌, Some, replicate}
use mathlib.Core.List.{List, [], flat_map}
use Rattle.reads.specs.Outcome.{Outcome, value, absent, refused, and_then}
use Rattle.pointers.specs.Open.{opened_index}
use Rattle.pointers.specs.Tables.{Tables, chains, under, with_index}
use Rattle.pointers.specs.declared.setting.Setting.{Setting}
use Rattle.listing.specs.Bundle.{counts_of, ranges_of, bundle_counts, bundled}
use Rattle.listing.specs.declared.bundle.Counts.{Counts}
use Rattle.listing.specs.declared.line.Line.{Line}
use Rattle.marking.specs.Framed.{framed_opening}
use Rattle.marking.specs.Marked.{marked_listing}
use Rattle.marking.specs.declared.framed.Framed.{Framed}
use Rattle.printing.specs.LineText.{line_text, refused_text}
use Rattle.reads.specs.declared.answer.Question.TheVariants.{SegmentTable, SectionTable, NameInside, BundleLength, NameUtf8, FileLent, RangeOrder}

-- The words of a bundle's index: as many as question IndexLength asks.
abbrev pub index_words : Counts → ℕ
index_words c = 2 * chains + c.rebases + c.binds

-- The tables that a bundle says, with an index of zeros.
abbrev pub bundle_tables : List ℕ → Tables
bundle_tables bytes = bundled bytes (counts_of bytes) (replicate (index_words (counts_of bytes)) 0)

-- Question 13, then opening, then 23.
unfoldable pub bundle_opening : List ℕ → Outcome Framed
bundle_opening bytes = and_then (bundle_counts bytes) (λ _. framed_opening (Some (ranges_of bytes)) (bundle_tables bytes))

-- What a bundle can meet (proofs/BundleOpens.antt: every bundle does): it is opened, or one of these numbers refuses it.
pub data Met : Outcome Framed → Type 0 where
  opens : (f : Framed) → Met (value f)
  refused_13 : Met (refused BundleLength)
  refused_2 : Met (refused SegmentTable)
  refused_18 : Met (refused FileLent)
  refused_3 : Met (refused SectionTable)
  refused_7 : Met (refused NameInside)
  refused_14 : Met (refused NameUtf8)
  refused_23 : Met (refused RangeOrder)

-- The text of lines, one after the other; over opened tables the plain listing is a value (listing/proofs/PlainThere.antt).
abbrev pub listing_text : List (List ℕ) → Outcome (List Line) → List ℕ
listing_text files (value xs) = flat_map (line_text files) xs
listing_text files (absent r) = []
listing_text files (refused k) = refused_text k

-- The text of tables, by what opening gave.
abbrev pub opened_text : Tables → Outcome Framed → List ℕ
opened_text t (value f) = listing_text t.files (marked_listing f.frames t)
opened_text t (absent r) = []
opened_text t (refused k) = refused_text k

unfoldable pub bundle_text : Setting → List ℕ → List ℕ
bundle_text u bytes = opened_text (under u (with_index (bundle_tables bytes) (opened_index (bundle_tables bytes)))) (bundle_opening bytes)
