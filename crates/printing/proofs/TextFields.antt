-- A text's field, by where the text lies.
use Prim.Native.Nat.{ℕ}
use mathlib.Core.Path.{◌≡◌, refl, sym}
use mathlib.Core.Bool.{Bool, true, false}
use mathlib.Core.List.{List}
use Rattle.std.specs.Int.{from_bool}
use Rattle.std.specs.Prelude.{Option, Some, None}
use Rattle.std.specs.Option.{option_map}
use Rattle.pointers.specs.Question.{name_inside}
use Rattle.reads.specs.Files.{file_of}
use Rattle.reads.specs.Place.{part}
use Rattle.reads.specs.declared.text.Text.{Text}
use Rattle.reads.proofs.Tests.{choose_true, choose_false}
use Rattle.printing.specs.LineText.{none_field, string_field, part_field, text_field, optional_field, aligned_field}

module _ (files : List (List ℕ)) (t : Text) where
  pub text_outside : name_inside files t ≡ false → none_field ≡ text_field files t
  unfolding name_inside text_field part_field
  text_outside h = sym (choose_false _ _ h)

  pub text_inside : name_inside files t ≡ true → (s : List ℕ) → s ≡ part (file_of files t.file) t.offset t.len → string_field s ≡ text_field files t
  unfolding name_inside text_field part_field
  text_inside h s e = rw e (sym (choose_true _ _ h))

-- Whether an offset is aligned, as a number.
pub aligned_number : (a : Option Bool) → optional_field (option_map from_bool a) ≡ aligned_field a
aligned_number (Some true) = refl
aligned_number (Some false) = refl
aligned_number None = refl
