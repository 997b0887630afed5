-- Laws of the bytes of a field, by where it lies.
use Prim.Native.Nat.{ℕ, ◌+◌, ◌≤◌, ◌<◌}
use mathlib.Core.Path.{◌≡◌, refl}
use mathlib.Core.List.{List, [], ◌∷◌}
use native.Mathlib.Omega.{arith}
use lib.ListN.{length}
use borrow.Author.Tests.{le-leb, lt-leb}
use Rattle.reads.specs.Files.{file_of}
use Rattle.reads.specs.declared.place.Place.{Place}
use Rattle.reads.proofs.Tests.{choose_true, choose_false}
use Rattle.ranges.specs.Range.{range}
use Rattle.ranges.specs.Sheet.{noted, noted_all}
use Rattle.used.specs.Used.{uses_field}

module _ (files : List (List ℕ)) (k : ℕ) (p : Place) (i n : ℕ) (size : n ≡ length (file_of files p.file)) (m : List ℕ) where
  pub field_outside : n < p.offset + i + k → m ≡ noted_all (uses_field files k p i) m
  unfolding uses_field noted_all
  field_outside h = rw (choose_false (range p.file (p.offset + i) k ∷ []) [] (lt-leb (p.offset + i + k) (length (file_of files p.file)) (omega (arith, size)))) refl

  pub field_inside : {s : List ℕ} → p.offset + i + k ≤ n → s ≡ noted (range p.file (p.offset + i) k) m → s ≡ noted_all (uses_field files k p i) m
  unfolding uses_field noted_all
  field_inside {s} h e = rw (choose_true (range p.file (p.offset + i) k ∷ []) [] (le-leb (p.offset + i + k) (length (file_of files p.file)) (omega (arith, size)))) e
