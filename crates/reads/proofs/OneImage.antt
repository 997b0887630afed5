-- The definitions of lookups, reads and texts as they were before images could span files (document 02, note 6): one image, four words a
-- segment, a place an offset. No contract cites them: OneFile.antt says that one file with number 0 gives what they gave.
use Rattle.std.proofs.Common.{ℕ, ◌+◌, ◌-◌, ◌^◌, Bool, ◌&&◌, ltb, leb, List, [], ◌∷◌, length, drop}
use Rattle.reads.specs.Outcome.{Outcome, value, absent, and_then, because, choose, or_else, sum64, nonzero}
use Rattle.reads.specs.Table.{records, word_of, tabulate}
use Rattle.reads.specs.Place.{le, part}
use Rattle.reads.specs.Address.{data_arm64e, data64}
use Rattle.reads.specs.Text.{scan_of, if_good, ended, if_ended}
use Rattle.reads.specs.declared.answer.Reason.TheVariants.{Unmapped, PastEnd, NoData, Unreadable}
use Rattle.reads.specs.declared.text.Reading.{Reading}
use Rattle.reads.specs.declared.text.Scan.{Scan}

pub record Segment : Type 0 where
  pub vmaddr : ℕ
  pub vmsize : ℕ
  pub fileoff : ℕ
  pub filesize : ℕ

abbrev pub segment_at : List ℕ → ℕ → Segment
segment_at ws i = record { vmaddr = word_of 4 ws i 0; vmsize = word_of 4 ws i 1; fileoff = word_of 4 ws i 2; filesize = word_of 4 ws i 3 }

unfoldable pub rows : List ℕ → List Segment
rows ws = tabulate (segment_at ws) 0 (records 4 ws)

abbrev pub ends : Segment → Bool
ends s = leb (2 ^ 64) (s.vmaddr + s.vmsize)

abbrev pub holds : Segment → ℕ → Bool
holds s va = ltb 0 s.filesize && (leb s.vmaddr va && ltb va (s.vmaddr + s.vmsize))

abbrev pub placed : Segment → ℕ → Outcome ℕ
placed s va = choose (leb s.filesize (va - s.vmaddr)) (absent Unmapped) (because Unmapped (sum64 s.fileoff (va - s.vmaddr)))

unfoldable pub lookup : List Segment → ℕ → Outcome ℕ
lookup [] va = absent Unmapped
lookup (s ∷ ss) va = choose (ends s) (absent Unmapped) (choose (holds s va) (placed s va) (lookup ss va))

pub record Image : Type 0 where
  pub bytes : List ℕ
  pub words : List ℕ

abbrev pub readable_at : List ℕ → ℕ → ℕ → Outcome ℕ
readable_at bytes offset k = choose (leb (offset + k) (length bytes)) (value offset) (absent Unreadable)

unfoldable pub readable : Image → ℕ → ℕ → Outcome ℕ
readable m va k = and_then (because Unreadable (lookup (rows m.words) va)) (λ offset. readable_at m.bytes offset k)

unfoldable pub word : Image → ℕ → ℕ → Outcome ℕ
word m k va = and_then (readable m va k) (λ offset. value (le (part m.bytes offset k)))

pub record Text : Type 0 where
  pub offset : ℕ
  pub len : ℕ

abbrev pub good_text : ℕ → Scan → Outcome Text
good_text offset c = and_then (if_good c.verdict c.len) (λ n. value (record { offset = offset; len = n }))

abbrev pub text_at : Reading → List ℕ → ℕ → Outcome Text
text_at r bytes offset =
    let c = scan_of (drop offset bytes) in choose (leb offset (length bytes)) (if_ended r (ended c) (good_text offset c)) (absent PastEnd)

unfoldable pub text_in : Reading → Image → ℕ → Outcome Text
text_in r m va = and_then (nonzero va) (λ a. and_then (lookup (rows m.words) a) (text_at r m.bytes))

-- The pick of a word.
abbrev pub mapped : List ℕ → ℕ → Outcome ℕ
mapped words va = and_then (lookup (rows words) va) (λ offset. value va)

unfoldable pub picked : List ℕ → ℕ → Outcome ℕ
picked words w = because NoData (or_else (and_then (nonzero (data_arm64e w)) (mapped words)) (nonzero (data64 w)))
