-- The pointer in a slot beside the spot of bytes that can be read is the one that a lookup gives.
use Prim.Native.Nat.{ℕ, ◌+◌, ◌*◌, ◌≤◌, ◌<◌}
use mathlib.Core.Path.{◌≡◌, sym, ap, ◌∙◌}
use mathlib.Core.Bool.{true}
use mathlib.Core.List.{List}
use native.Mathlib.Omega.{arith}
use lib.Dec.{ltb}
use lib.ListN.{get_or}
use borrow.Author.Tests.{ltb-true, eqb-true}
use Rattle.reads.specs.Outcome.{value, absent, because}
use Rattle.reads.specs.declared.answer.Reason.TheVariants.{Unresolved, NoRecord}
use Rattle.reads.specs.Table.{records}
use Rattle.reads.specs.Address.{stripped}
use Rattle.reads.specs.Place.{Image, word_in}
use Rattle.reads.specs.Spot.{readable_spot}
use Rattle.reads.specs.declared.spot.Spot.{Spot}
use Rattle.reads.proofs.Spots.{near_word_in}
use Rattle.reads.proofs.Tests.{both_true}
use Rattle.pointers.specs.Tables.{rebase_words, chains}
use Rattle.pointers.specs.Chain.{no_rebase, follow, row_of}
use Rattle.pointers.specs.Sorted.{sorted_record}
use Rattle.pointers.specs.Index.{chain_of}
use Rattle.pointers.specs.Slot.{rebase_number, rebase_at, stored, resolve, unrebased, is_near}
use Rattle.pointers.specs.declared.setting.Lookup.{Lookup}
use Rattle.pointers.specs.declared.setting.Lookup.TheVariants.{Chained, Sorted}
use Rattle.pointers.specs.declared.setting.Setting.{Setting}
use Rattle.pointers.proofs.Chains.{follow_end, found_row, row_within}
use Rattle.pointers.proofs.SortedLookups.{sorted_value}
use Rattle.std.specs.Prelude.{Result, Ok}
use Rattle.reads.specs.Answer.{outcome}
use Rattle.reads.specs.declared.answer.Missing.{Missing}

-- A rebase that is found is one of the table.
pub rebase_found : (rebases index : List ℕ) (slot : ℕ) (l : Lookup) {w : (Result ℕ Missing)} {i : ℕ}
    → outcome w ≡ row_of (rebase_number l rebases index slot) → w ≡ Ok i → i < records rebase_words rebases
rebase_found rebases index slot Chained e g = found_row rebase_words rebases 0 (2 * chains) slot index e g
rebase_found rebases index slot Sorted {i = i} e g =
    row_within (records rebase_words rebases) i (sorted_record rebases slot) (λ n h. sorted_value rebases slot _ n h) (sym e ∙ ap outcome g)

-- Without a rebase in its chain a slot holds the word there.
no_record : (rebases index : List ℕ) (slot : ℕ) (l : Lookup) → unrebased l index slot ≡ true → rebase_number l rebases index slot ≡ absent NoRecord
unfolding no_rebase follow
no_record rebases index slot Chained e =
    let first : 0 + chain_of slot ≡ chain_of slot = omega arith in
    let z : get_or index (chain_of slot) 0 ≡ 0 = eqb-true (get_or index (chain_of slot) 0) 0 e in
    rw (first, z, follow_end rebase_words rebases (2 * chains) slot index _)
no_record rebases index slot Sorted e = let z : ◌≡◌ {A = ℕ} 0 1 = cc in absurd (omega arith)

unrebased_stored : (m : Image) (rebases index : List ℕ) (setting : Setting) (slot : ℕ) → unrebased setting.lookup index slot ≡ true
    → resolve m rebases index setting slot ≡ because Unresolved (stored m slot)
unfolding resolve rebase_at
unrebased_stored m rebases index setting slot e = rw (no_record rebases index slot setting.lookup e)

pub near_resolved : (m : Image) (rebases index : List ℕ) (setting : Setting) (va size : ℕ) (s : Spot) → readable_spot m va size ≡ value s
    → (i : ℕ) → i + 8 ≤ size → is_near index setting s i (va + i) ≡ true
    → value (stripped (word_in m.files 8 s.place i)) ≡ resolve m rebases index setting (va + i)
unfolding is_near stored
near_resolved m rebases index setting va size s is i h e =
    let u = both_true (ltb i s.room) (unrebased setting.lookup index (va + i)) e in
    sym (unrebased_stored m rebases index setting (va + i) u.1 ∙ rw (← near_word_in m va size s is i h (ltb-true i s.room u.0)))
