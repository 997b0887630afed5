-- A slot at the first of bytes that can be read resolves, unless question ChainOrder refuses it: no name at +0 of a record is Unresolved.
use Prim.Native.Nat.{ℕ, ◌+◌, ◌≤◌}
use mathlib.Core.Path.{◌≡◌, refl}
use mathlib.Core.Bool.{Bool, true, false}
use mathlib.Core.List.{List}
use native.Mathlib.Omega.{arith}
use lib.Dec.{leb}
use lib.ListN.{length}
use borrow.Author.Tests.{leb-true}
use Rattle.reads.specs.Outcome.{Outcome, value, absent, refused, because, or_else, choose}
use Rattle.reads.specs.Files.{file_of}
use Rattle.reads.specs.Segment.{rows, lookup}
use Rattle.reads.specs.Place.{Image, le, part, readable_at, readable, word}
use Rattle.reads.specs.Address.{stripped}
use Rattle.reads.specs.declared.answer.Reason.{Reason}
use Rattle.reads.specs.declared.answer.Reason.TheVariants.{Unresolved, Unreadable}
use Rattle.reads.specs.declared.place.Place.{Place}
use Rattle.reads.proofs.Numbers.{readable_in}
use Rattle.reads.proofs.Outcomes.{then_came}
use Rattle.pointers.specs.declared.setting.Setting.{Setting}
use Rattle.pointers.specs.Slot.{rebase_at, stored, resolve}

-- Fewer bytes can be read where more can.
fewer_at : (n : ℕ) (q : Place) (j k : ℕ) (p : Place) → j ≤ k → readable_at n q k ≡ value p → value q ≡ readable_at n q j
unfolding readable_at
fewer_at n q j k p l e = go (leb (q.offset + k) n) refl e
  where
    go : (x : Bool) → leb (q.offset + k) n ≡ x → choose x (value q) (absent Unreadable) ≡ value p → value q ≡ readable_at n q j
    go true h r = let room = leb-true (q.offset + k) n h in readable_in n q j (omega arith)
    go false h r = let z : ◌≡◌ {A = ℕ} 0 1 = unfold choose in cc in absurd (omega arith)

-- The bytes of a place's file.
abbrev bytes_at : Image → Place → List ℕ
bytes_at m p = file_of m.files p.file

stored_by : (m : Image) (va : ℕ) (q : Place) → because Unreadable (lookup (rows m.words) va) ≡ value q
    → value q ≡ readable_at (length (bytes_at m q)) q 8 → stored m va ≡ value (stripped (le (part (bytes_at m q) q.offset 8)))
unfolding stored word readable
stored_by m va q e f = rw (e, ← f)

stored_there : (m : Image) (va k : ℕ) (p : Place) → 8 ≤ k → readable m va k ≡ value p → (w : ℕ) × (stored m va ≡ value w)
unfolding readable
stored_there m va k p l e =
    let q = then_came (because Unreadable (lookup (rows m.words) va)) _ p e in
    (stripped (le (part (bytes_at m q.0) q.0.offset 8)), stored_by m va q.0 q.1 (fewer_at (length (bytes_at m q.0)) q.0 8 k p l q.2))

pub slot_read_resolves : (m : Image) (rebases index : List ℕ) (setting : Setting) (va k : ℕ) (p : Place) → 8 ≤ k → readable m va k ≡ value p
    → (r : Reason) → resolve m rebases index setting va ≡ absent r → ⊥
unfolding resolve
slot_read_resolves m rebases index setting va k p l e r = go (rebase_at rebases index setting va) (stored m va) (stored_there m va k p l e)
  where
    go : (o s : Outcome ℕ) → (w : ℕ) × (s ≡ value w) → because Unresolved (or_else o s) ≡ absent r → ⊥
    go (value a) s w q = let z : ◌≡◌ {A = ℕ} 0 1 = cc in omega arith
    go (absent why) (value a) w q = let z : ◌≡◌ {A = ℕ} 0 1 = cc in omega arith
    go (absent why) (absent a) w q = let t = w.1 in let z : ◌≡◌ {A = ℕ} 0 1 = cc in omega arith
    go (absent why) (refused a) w q = let z : ◌≡◌ {A = ℕ} 0 1 = cc in omega arith
    go (refused n) s w q = let z : ◌≡◌ {A = ℕ} 0 1 = cc in omega arith
