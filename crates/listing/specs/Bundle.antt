-- The bundle (document 01, "The program's listing"; document 02, notes 6 and 11) and question BundleLength. Its words are little-endian: S (segments),
-- rebases, binds, and the lengths of four files; the four ends of note 11's ranges; then 8 bytes of image info; the segment, section, rebase and
-- bind tables; the four files.
use Rattle.std.specs.Prelude.{◌≡◌, ℕ, zero, suc, ◌+◌, ◌*◌, ◌≤◌, Bool, ◌&&◌, List, [], ◌∷◌, length, ◌==◌, nat_le}
use Rattle.reads.specs.Outcome.{Outcome, value, refused, choose}
use Rattle.reads.specs.Segment.{segment_words}
use Rattle.reads.specs.Place.{part, le_in}
use Rattle.pointers.specs.Question.{every}
use Rattle.pointers.specs.Tables.{Tables, tables_of, section_table_words, rebase_words, bind_words}
use Rattle.frames.specs.declared.frames.Ranges.{Ranges}
use Rattle.listing.specs.declared.bundle.Counts.{Counts}
use Rattle.reads.specs.declared.answer.Question.TheVariants.{BundleLength}

-- Document 01's outcome of each case of the code's answer.
-- The word at an offset; 0 where its eight bytes do not lie in the bundle.
abbrev pub word_from : List ℕ → ℕ → ℕ
word_from bytes offset = le_in bytes 8 offset

-- k words, one after the other from an offset on.
unfoldable pub words_from : List ℕ → ℕ → ℕ → List ℕ
words_from bytes offset zero = []
words_from bytes offset (suc k) = word_from bytes offset ∷ words_from bytes (offset + 8) k

-- The first seven words.
abbrev pub counts_of : List ℕ → Counts
counts_of bytes =
    record {
      segments = word_from bytes 0;
      rebases = word_from bytes 8;
      binds = word_from bytes 16;
      image0 = word_from bytes 24;
      image1 = word_from bytes 32;
      image2 = word_from bytes 40;
      image3 = word_from bytes 48;
    }

-- The next four: the first and the last frame, the first and the last slide.
abbrev pub ranges_of : List ℕ → Ranges
ranges_of bytes =
    record {
      first_frame = word_from bytes 56;
      last_frame = word_from bytes 64;
      first_slide = word_from bytes 72;
      last_slide = word_from bytes 80;
    }

-- Count k of the seven is at most 32,768. One that is not makes the bundle longer; of those that are no sum passes 64 bits.
unfoldable pub count_fits : List ℕ → ℕ → Bool
count_fits bytes k = nat_le (word_from bytes (8 * k)) 32768

abbrev pub counts_fit : List ℕ → Bool
counts_fit bytes = every (count_fits bytes) 7

-- The words of each table (document 01, "Tables lent by the caller").
abbrev pub segment_table_words : Counts → ℕ
segment_table_words c = segment_words * c.segments

abbrev pub rebase_table_words : Counts → ℕ
rebase_table_words c = rebase_words * c.rebases

abbrev pub bind_table_words : Counts → ℕ
bind_table_words c = bind_words * c.binds

-- Where each part stands: after the seven counts and the four ends the image info, then each table after the one before, then each file.
abbrev pub info_at : ℕ
info_at = 88

abbrev pub segments_at : ℕ
segments_at = 96

abbrev pub sections_at : Counts → ℕ
sections_at c = segments_at + 8 * segment_table_words c

abbrev pub rebases_at : Counts → ℕ
rebases_at c = sections_at c + 8 * section_table_words

abbrev pub binds_at : Counts → ℕ
binds_at c = rebases_at c + 8 * rebase_table_words c

abbrev pub image0_at : Counts → ℕ
image0_at c = binds_at c + 8 * bind_table_words c

abbrev pub image1_at : Counts → ℕ
image1_at c = image0_at c + c.image0

abbrev pub image2_at : Counts → ℕ
image2_at c = image1_at c + c.image1

abbrev pub image3_at : Counts → ℕ
image3_at c = image2_at c + c.image2

-- How long the counts say that the bundle is: 96 + 8 x (5 x S + 15 + 2 x rebases + 4 x binds), and the four files.
abbrev pub said_length : Counts → ℕ
said_length c = image3_at c + c.image3

-- 13: bundle at most 32,768 bytes and exactly as long as its counts say?
unfoldable pub bundle_fits : ℕ → Counts → Bool
bundle_fits n c = nat_le n 32768 && n == said_length c

-- The counts of a bundle, or 13.
unfoldable pub bundle_counts : List ℕ → Outcome Counts
bundle_counts bytes = choose (bundle_fits (length bytes) (counts_of bytes)) (value (counts_of bytes)) (refused BundleLength)

-- An accepted bundle: its length, and the counts that it was accepted with.
pub record Accepted (bytes : List ℕ) (c : Counts) : Type 0 where
  pub short : length bytes ≤ 32768
  pub exact : length bytes ≡ said_length c
  pub counts : c ≡ counts_of bytes

-- The four files of a bundle of these counts; all are lent, also those without a byte.
abbrev pub bundled_files : List ℕ → Counts → List (List ℕ)
bundled_files bytes c =
    part bytes (image0_at c) c.image0
    ∷ part bytes (image1_at c) c.image1
    ∷ part bytes (image2_at c) c.image2
    ∷ part bytes (image3_at c) c.image3
    ∷ []

-- What a bundle of these counts says for each table lent, beside an index.
abbrev pub bundled : List ℕ → Counts → List ℕ → Tables
bundled bytes c index =
    tables_of
    (bundled_files bytes c)
    (words_from bytes segments_at (segment_table_words c))
    (words_from bytes (sections_at c) section_table_words)
    (part bytes info_at 8)
    (words_from bytes (rebases_at c) (rebase_table_words c))
    (words_from bytes (binds_at c) (bind_table_words c))
    index
