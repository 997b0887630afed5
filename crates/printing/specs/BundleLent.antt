-- What the calls over a bundle are lent and leave: words that its tables are decoded into, and an index.
use Rattle.std.specs.Prelude.{ℕ, ◌+◌, Some, List, [], ◌∷◌, ◌++◌, take, drop, replicate}
use Rattle.reads.specs.Outcome.{Outcome, value, absent, refused, and_then}
use Rattle.reads.specs.Place.{part}
use Rattle.pointers.specs.Tables.{Tables, tables_of}
use Rattle.listing.specs.Bundle.{words_from, segment_table_words, rebase_table_words, bind_table_words, info_at, segments_at, bundled_files, ranges_of, bundle_counts}
use Rattle.pointers.specs.Tables.{section_table_words}
use Rattle.listing.specs.declared.bundle.Counts.{Counts}
use Rattle.marking.specs.Framed.{framed_opening, framed_index}
use Rattle.marking.specs.declared.framed.Framed.{Framed}
use Rattle.printing.specs.BundleText.{index_words}
use Rattle.printing.specs.declared.bundle.Buffers.{Buffers}

-- The buffers' sizes, for a bundle of at most 32,768 bytes: words of the tables, of which there are at most 4,084; of the index, at most 8,192 +
-- 2,034; of the ledger, at most 8,138; bytes of a piece of the text; bytes of the input, one more than the longest bundle has.
abbrev pub words_size : ℕ
words_size = 4096

abbrev pub index_size : ℕ
index_size = 10240

abbrev pub ledger_size : ℕ
ledger_size = 8192

abbrev pub piece_size : ℕ
piece_size = 4096

abbrev pub input_size : ℕ
input_size = 32769

-- The buffers of a whole listing, all zeros.
abbrev pub cleared : Buffers
cleared = record { words = replicate words_size 0; index = replicate index_size 0; ledger = replicate ledger_size 0; out = replicate piece_size 0 }

-- The words of a bundle's four tables.
abbrev pub table_words : Counts → ℕ
table_words c = segment_table_words c + section_table_words + rebase_table_words c + bind_table_words c

-- The words lent, after the tables were decoded into them; with 13 they are as they were.
abbrev pub words_by : List ℕ → Outcome Counts → List ℕ → List ℕ
words_by bytes (value c) words = words_from bytes segments_at (table_words c) ++ drop (table_words c) words
words_by bytes (absent r) words = words
words_by bytes (refused k) words = words

abbrev pub words_after : List ℕ → List ℕ → List ℕ
words_after bytes words = words_by bytes (bundle_counts bytes) words

-- The tables of a bundle of these counts over files: each is its part of the words, and the index has as many words as question IndexLength asks.
abbrev pub tables_over : List (List ℕ) → List ℕ → Counts → List ℕ → List ℕ → Tables
tables_over files bytes c words index =
    tables_of
    files
    (part words 0 (segment_table_words c))
    (part words (segment_table_words c) section_table_words)
    (part bytes info_at 8)
    (part words (segment_table_words c + section_table_words) (rebase_table_words c))
    (part words (segment_table_words c + section_table_words + rebase_table_words c) (bind_table_words c))
    (take (index_words c) index)

-- The same over the bundle's own files.
abbrev pub tables_in : List ℕ → Counts → List ℕ → List ℕ → Tables
tables_in bytes c words index = tables_over (bundled_files bytes c) bytes c words index

-- Question 13, then opening, then 23.
abbrev pub opening_by : List ℕ → Outcome Counts → List ℕ → List ℕ → Outcome Framed
opening_by bytes o words index = and_then o (λ c. framed_opening (Some (ranges_of bytes)) (tables_in bytes c words index))

abbrev pub opening_in : List ℕ → List ℕ → List ℕ → Outcome Framed
opening_in bytes words index = opening_by bytes (bundle_counts bytes) words index

-- The index lent, after opening; with a number it is as it was (proofs/Unwritten.antt).
abbrev pub index_by : List ℕ → Outcome Counts → List ℕ → List ℕ → List ℕ
index_by bytes (value c) words index = framed_index (Some (ranges_of bytes)) (tables_in bytes c words index) ++ drop (index_words c) index
index_by bytes (absent r) words index = index
index_by bytes (refused k) words index = index

abbrev pub index_after : List ℕ → List ℕ → List ℕ → List ℕ
index_after bytes words index = index_by bytes (bundle_counts bytes) words index

-- The tables that a listing reads; a bundle that is not accepted has none, and an empty file.
abbrev pub tables_by : List ℕ → Outcome Counts → List ℕ → List ℕ → Tables
tables_by bytes (value c) words index = tables_in bytes c words index
tables_by bytes (absent r) words index = tables_of ([] ∷ []) [] [] [] [] [] []
tables_by bytes (refused k) words index = tables_of ([] ∷ []) [] [] [] [] [] []

abbrev pub tables_lent : List ℕ → List ℕ → List ℕ → Tables
tables_lent bytes words index = tables_by bytes (bundle_counts bytes) words index
