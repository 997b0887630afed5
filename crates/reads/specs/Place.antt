-- Numbers in the files of an image, at a place and at an address (document 01, Reading rules, second point; document 02, note 6; util.rs,
-- mod.rs).
use Rattle.std.specs.Prelude.{ℕ, ◌+◌, ◌*◌, List, [], ◌∷◌, reverse, length, take, drop, nat_le}
use Rattle.reads.specs.Reference.{Slice, Slices, before}
use Rattle.reads.specs.Outcome.{Outcome, value, absent, and_then, because, choose}
use Rattle.reads.specs.Files.{files_of, file_of}
use Rattle.reads.specs.Segment.{rows, lookup, place_at}
use Rattle.reads.specs.declared.answer.Reason.TheVariants.{Unreadable}
use Rattle.reads.specs.declared.place.Place.{Place}

-- What the reads are lent: the bytes of the image's files, and the segment table's words.
pub record Image : Type 0 where
  pub files : List (List ℕ)
  pub words : List ℕ

abbrev pub image_of : List (List ℕ) → List ℕ → Image
image_of files words = record { files = files; words = words }

-- The same, of the slices that a function takes.
abbrev pub lent_image : Slices → Slice → Image
lent_image files segments = image_of (files_of files) (before segments)

-- The number of bytes in little-endian order, and in big-endian order.
unfoldable pub le : List ℕ → ℕ
le [] = 0
le (b ∷ bs) = b + 256 * le bs

abbrev pub be : List ℕ → ℕ
be bs = le (reverse bs)

-- The k bytes from an offset on.
abbrev pub part : List ℕ → ℕ → ℕ → List ℕ
part bytes offset k = take k (drop offset bytes)

-- A place, if k bytes from it lie in its file of n bytes.
unfoldable pub readable_at : ℕ → Place → ℕ → Outcome Place
readable_at n p k = choose (nat_le (p.offset + k) n) (value p) (absent Unreadable)

-- The place of an address, if k bytes can be read there: only the first byte is looked up. Unmapped is a reason of strings alone.
unfoldable pub readable : Image → ℕ → ℕ → Outcome Place
readable m va k =
    and_then (because Unreadable (lookup (rows m.words) va)) (λ p. readable_at (length (file_of m.files p.file)) p k)

-- The number of k bytes at an offset of one slice, in either order.
unfoldable pub le_at : List ℕ → ℕ → ℕ → Outcome ℕ
le_at bytes k offset = and_then (readable_at (length bytes) (place_at 0 offset) k) (λ p. value (le (part bytes p.offset k)))

unfoldable pub be_at : List ℕ → ℕ → ℕ → Outcome ℕ
be_at bytes k offset = and_then (readable_at (length bytes) (place_at 0 offset) k) (λ p. value (be (part bytes p.offset k)))

-- The number of k bytes at an address.
unfoldable pub word : Image → ℕ → ℕ → Outcome ℕ
word m k va = and_then (readable m va k) (λ p. value (le (part (file_of m.files p.file) p.offset k)))

-- The number of k bytes at an offset of one slice; 0 where they do not lie in it.
unfoldable pub le_in : List ℕ → ℕ → ℕ → ℕ
le_in bytes k offset = choose (nat_le (offset + k) (length bytes)) (le (part bytes offset k)) 0

-- The number of k bytes at i bytes from a place; 0 where they do not lie in its file.
unfoldable pub word_in : List (List ℕ) → ℕ → Place → ℕ → ℕ
word_in files k p i = le_in (file_of files p.file) k (p.offset + i)
