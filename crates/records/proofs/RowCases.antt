-- Worked records and rows, from the definitions.
use Rattle.std.specs.Prelude.{Option, Bool, true, false}
use Prim.Native.Nat.{ℕ, ◌-◌, ◌^◌}
use mathlib.Core.Path.{◌≡◌, refl}
use mathlib.Core.List.{List, [], ◌∷◌, ◌++◌, map}
use lib.Count.{count_trailing_zeros}
use lib.ListN.{length, replicate}
use Rattle.reads.specs.Address.{stripped}
use Rattle.reads.specs.Outcome.{value, absent, choose, nonzero, sum64, text_of}
use Rattle.reads.specs.declared.answer.Reason.TheVariants.{Unreadable}
use Rattle.reads.specs.Files.{file_of}
use Rattle.reads.specs.Place.{le, readable_at, readable, word}
use Rattle.reads.specs.Relative.{signed32, modulo64, relative}
use Rattle.reads.specs.Segment.{rows, ends, holds, placed, lookup}
use Rattle.reads.specs.Signed.{twos}
use Rattle.reads.specs.Table.{tabulate}
use Rattle.reads.specs.Text.{text, text_from, text_in}
use Rattle.reads.specs.Utf8.{judge, utf8}
use Rattle.pointers.specs.Chain.{follow_from, follow}
use Rattle.pointers.specs.ImageInfo.{image_info, bit}
use Rattle.pointers.specs.Slot.{rebase_at, stored, resolve, pointer_or0_at}
use Rattle.pointers.specs.Tables.{Tables, tables_of}
use Rattle.records.specs.Category.{category_at, decode_category_properties, decode_category_lists, decode_category_of, decode_category}
use Rattle.records.specs.Row.{small_imp, alignment_of, aligned_of}
use Rattle.records.specs.declared.category.ObjcCategory.{ObjcCategory}
use Rattle.std.specs.Prelude.{Some, None}

-- A small method's imp is none exactly if its offset is 0: one that is masked to 0 is there.
pub small_imps : map (λ raw. small_imp raw (2 ^ 48 - 8)) (0 ∷ 8 ∷ []) ≡ None ∷ Some 0 ∷ []
unfolding small_imp stripped relative signed32 twos modulo64 choose
small_imps = refl

-- Alignment words on both sides of each bound.
pub alignment_words : map alignment_of (0 ∷ 63 ∷ 64 ∷ 255 ∷ 0x100 ∷ 0xFFFFFFFE ∷ 0xFFFFFFFF ∷ [])
    ≡ Some 0
    ∷ Some 63
    ∷ None
    ∷ None
    ∷ None
    ∷ None
    ∷ Some 3
    ∷ []
unfolding alignment_of choose
alignment_words = refl

-- The offsets 0, 1, 8 and 0x80000000, which have 32, 0, 3 and 31 trailing zero bits.
abbrev offsets_under : ℕ → List (Option Bool)
offsets_under k = map (λ n. aligned_of (Some n) (Some k)) (0 ∷ 1 ∷ 8 ∷ 0x80000000 ∷ [])

pub aligned_offsets : map offsets_under (0 ∷ 3 ∷ 31 ∷ 32 ∷ 40 ∷ 63 ∷ [])
    ≡ ((Some true) ∷ (Some true) ∷ (Some true) ∷ (Some true) ∷ [])
    ∷ ((Some true) ∷ (Some false) ∷ (Some true) ∷ (Some true) ∷ [])
    ∷ ((Some true) ∷ (Some false) ∷ (Some false) ∷ (Some true) ∷ [])
    ∷ ((Some true) ∷ (Some false) ∷ (Some false) ∷ (Some false) ∷ [])
    ∷ ((Some true) ∷ (Some false) ∷ (Some false) ∷ (Some false) ∷ [])
    ∷ ((Some true) ∷ (Some false) ∷ (Some false) ∷ (Some false) ∷ [])
    ∷ []
unfolding aligned_of count_trailing_zeros choose
aligned_offsets = refl

-- Without the one or the other it is unknown.
pub unknown_aligned :
    aligned_of (Some 8) None ∷ aligned_of None (Some 3) ∷ [] ≡ None ∷ None ∷ []
unfolding aligned_of
unknown_aligned = refl

-- A category of 48 bytes at the file's end, its name `C` in front of it; no rebase.
abbrev narrow : List ℕ
narrow = (67 ∷ replicate 7 0) ++ ((0 ∷ 16 ∷ replicate 6 0) ++ replicate 40 0)

abbrev flagged : ℕ → Tables
flagged flags =
    tables_of (narrow ∷ []) (0x1000 ∷ length narrow ∷ 0 ∷ length narrow ∷ 0 ∷ []) (replicate 15 0) (replicate 4 0 ++ (flags ∷ 0 ∷ 0 ∷ 0 ∷ [])) [] [] []

abbrev category : ObjcCategory
category =
    record {
      address = 0x1008;
      name = text_of 0 0 1;
      class_address = 0;
      instance_methods = 0;
      class_methods = 0;
      protocols = 0;
      instance_properties = 0;
      class_properties = 0;
    }

-- Without bit 6 it is whole; with it 56 bytes are asked for.
pub narrow_category : map (λ flags. category_at (flagged flags) 0x1008) (0 ∷ 64 ∷ []) ≡ value category ∷ absent Unreadable ∷ []
unfolding file_of decode_category decode_category_of decode_category_lists decode_category_properties image_info bit readable readable_at lookup rows tabulate ends holds placed sum64 resolve rebase_at follow follow_from stored stripped word le pointer_or0_at text_in nonzero text_from text utf8 judge choose
narrow_category = refl
