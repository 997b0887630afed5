-- One file with number 0 everywhere, beside files without a byte, gives what one image gave (document 02, note 6): every answer, and so, by the
-- cases of definitions, every record, row and name.
use Prim.Native.Nat.{ℕ, zero, suc, ◌+◌}
use mathlib.Core.Path.{◌≡◌, refl, ap}
use mathlib.Core.List.{List, [], ◌∷◌}
use lib.ListN.{get_or, replicate}
use Rattle.reads.specs.Outcome as outcomes
use Rattle.reads.specs.Outcome.{Outcome, value, and_then, or_else, or_first, choose}
use Rattle.reads.specs.Files.{file_of}
use Rattle.reads.specs.Place.{le_in, word_in}
use Rattle.reads.specs.Relative.{signed32, signed_in}
use Rattle.reads.specs.declared.place.Place.{Place}
use Rattle.reads.proofs.OneImage as image
use Rattle.reads.proofs.Outcomes.{then_alike}
use Rattle.reads.proofs.OneFile.{Widened, in_file, texts_in_file, readable_one, word_one, picked_one, text_one}
use Rattle.pointers.specs.ImageInfo.{image_info}
use Rattle.pointers.specs.Slot.{rebase_at}
use Rattle.pointers.specs.Tables.{Tables, under, tables_of}
use Rattle.pointers.specs.declared.setting.Setting.{Setting}
use Rattle.pointers.proofs.OneImage as one
use Rattle.pointers.proofs.OneFile.{resolve_one, pointer_one, pointer_or_0_one, symbol_one}
use Rattle.records.specs.Ask.{even_list, entry_size, Ask, Answer, answer, sum64, nonzero, even, at_least, readable, u32_in, u64_in, i32_in, u64_at, picked, picked_at, slot, rebase, pointer, pointer_or0, string, symbol, info}
use Rattle.records.specs.Decode.{Decode, made, asked, after, either, either_first, chosen, trial, tried_of, run}

-- What a caller lent: the image, and tables with four words a segment and three a bind.
pub record Lent : Type 0 where
  pub image : List ℕ
  pub segments : List ℕ
  pub sections : List ℕ
  pub info : List ℕ
  pub rebases : List ℕ
  pub binds : List ℕ
  pub index : List ℕ
  pub setting : Setting

abbrev pub image_of_lent : Lent → image.Image
image_of_lent b = record { bytes = b.image; words = b.segments }

-- Bytes at a place: those of the image, which is file 0. There is no other.
abbrev bytes_at : Lent → Place → List ℕ
bytes_at b p = file_of (b.image ∷ []) p.file

-- The answers as they were, with 0 as the file of each place and text.
abbrev pub answer_before : Lent → (q : Ask) → Outcome (Answer q)
answer_before b (sum64 va k) = outcomes.sum64 va k
answer_before b (nonzero x) = outcomes.nonzero x
answer_before b (even va) = even_list va
answer_before b (at_least least size) = entry_size least size
answer_before b (readable va k) = in_file (image.readable (image_of_lent b) va k)
answer_before b (u32_in p i) = value (le_in (bytes_at b p) 4 (p.offset + i))
answer_before b (u64_in p i) = value (le_in (bytes_at b p) 8 (p.offset + i))
answer_before b (i32_in p i) = value (signed32 (le_in (bytes_at b p) 4 (p.offset + i)))
answer_before b (u64_at va) = image.word (image_of_lent b) 8 va
answer_before b (picked w) = image.picked b.segments w
answer_before b (picked_at a) = and_then (image.word (image_of_lent b) 8 a) (image.picked b.segments)
answer_before b (slot a) = one.resolve (image_of_lent b) b.rebases b.index b.setting a
answer_before b (rebase a) = rebase_at b.rebases b.index b.setting a
answer_before b (pointer va k) = one.pointer_at (image_of_lent b) b.rebases b.index b.setting va k
answer_before b (pointer_or0 va k) = one.pointer_or0_at (image_of_lent b) b.rebases b.index b.setting va k
answer_before b (string va) = texts_in_file (image.text_in b.setting.reading (image_of_lent b) va)
answer_before b (symbol a) = texts_in_file (one.symbol_of b.image b.rebases b.binds b.index a)
answer_before b info = image_info b.info

abbrev pub run_before : {A : Type 0} → Lent → Decode A → Outcome A
run_before b (made a) = value a
run_before b (asked q) = answer_before b q
run_before b (after d f) = and_then (run_before b d) (λ a. run_before b (f a))
run_before b (either d e) = or_else (run_before b d) (run_before b e)
run_before b (either_first d e) = or_first (run_before b d) (run_before b e)
run_before b (chosen c d e) = choose c (run_before b d) (run_before b e)
run_before b (trial d) = tried_of (run_before b d)

-- The same as one file with number 0 everywhere, with the tables rewritten; n other files are lent, without a byte.
abbrev pub as_file : Lent → List ℕ → List ℕ → ℕ → Tables
as_file b segments binds n =
    under b.setting (tables_of (b.image ∷ replicate n []) segments b.sections b.info b.rebases binds b.index)

no_bytes : (n f : ℕ) → get_or (replicate n []) f [] ≡ get_or {A = List ℕ} [] f []
no_bytes zero f = refl
no_bytes (suc n) zero = refl
no_bytes (suc n) (suc f) = no_bytes n f

file_same : (file : List ℕ) (n f : ℕ) → file_of (file ∷ replicate n []) f ≡ file_of (file ∷ []) f
unfolding file_of
file_same file n zero = refl
file_same file n (suc f) = no_bytes n f

module _ (b : Lent) (segments binds : List ℕ) (n : ℕ) (s : Widened 4 b.segments segments) (w : Widened 3 b.binds binds) where
  abbrev over : Tables
  over = as_file b segments binds n

  abbrev empties : List (List ℕ)
  empties = replicate n []

  answer_one : (q : Ask) → answer over q ≡ answer_before b q
  unfolding word_in signed_in
  answer_one (sum64 va k) = refl
  answer_one (nonzero x) = refl
  answer_one (even va) = refl
  answer_one (at_least least size) = refl
  answer_one (readable va k) = readable_one s b.image empties va k
  answer_one (u32_in p i) = rw (file_same b.image n p.file)
  answer_one (u64_in p i) = rw (file_same b.image n p.file)
  answer_one (i32_in p i) = rw (file_same b.image n p.file)
  answer_one (u64_at va) = word_one s b.image empties 8 va
  answer_one (picked x) = picked_one s x
  answer_one (picked_at a) = rw (word_one s b.image empties 8 a) (then_alike (image.word (image_of_lent b) 8 a) (picked_one s))
  answer_one (slot a) = resolve_one s b.image empties b.rebases b.index b.setting a
  answer_one (rebase a) = refl
  answer_one (pointer va k) = pointer_one s b.image empties b.rebases b.index b.setting va k
  answer_one (pointer_or0 va k) = pointer_or_0_one s b.image empties b.rebases b.index b.setting va k
  answer_one (string va) = text_one s b.image empties b.setting.reading va
  answer_one (symbol a) = symbol_one w b.image empties b.rebases b.index a
  answer_one info = refl

  -- Every definition of a record, a row or a name gives what it gave.
  pub one_file_decodes : {A : Type 0} (d : Decode A) → run over d ≡ run_before b d
  one_file_decodes (made a) = refl
  one_file_decodes (asked q) = answer_one q
  one_file_decodes (after d f) = rw (one_file_decodes d) (then_alike (run_before b d) (λ a. one_file_decodes (f a)))
  one_file_decodes (either d e) = rw (one_file_decodes d, one_file_decodes e)
  one_file_decodes (either_first d e) = rw (one_file_decodes d, one_file_decodes e)
  one_file_decodes (chosen c d e) = rw (one_file_decodes d, one_file_decodes e)
  one_file_decodes (trial d) = ap tried_of (one_file_decodes d)
