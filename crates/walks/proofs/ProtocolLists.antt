-- What the code's tests on a list of protocols come to.
use Prim.Native.Nat.{ℕ, suc, ◌+◌, ◌-◌, ◌*◌, ◌/◌, ◌^◌, ◌≤◌, ◌<◌}
use mathlib.Core.Path.{◌≡◌}
use mathlib.Core.Bool.{true, false}
use native.Mathlib.Omega.{arith}
use lib.Dec.{leb, ltb}
use borrow.Author.Tests.{lt-ltb, le-ltb, ltb-true}
use Rattle.reads.proofs.Tests.{le_same, both_true}
use Rattle.walks.specs.declared.protocol_names.ProtocolList.{ProtocolList}
use Rattle.walks.specs.ProtocolNames.{has_slot}

module _ (l : ProtocolList) (i : ℕ) where
  pub no_slot_from_count : l.count ≤ i → has_slot l i ≡ false
  unfolding has_slot
  no_slot_from_count h = rw (le-ltb i l.count h)

  -- The code divides rather than multiply.
  pub has_slot_by_division : l.base < 2 ^ 64 → i < l.count → leb i ((2 ^ 64 - 1 - l.base) / 8) ≡ has_slot l i
  unfolding has_slot
  has_slot_by_division b h =
      rw (lt-ltb i l.count h) (le_same i ((2 ^ 64 - 1 - l.base) / 8) (suc (l.base + 8 * i)) (2 ^ 64) (λ f. omega arith) (λ f. omega arith))

  pub slot_below : has_slot l i ≡ true → (i < l.count) × (l.base + 8 * i < 2 ^ 64)
  unfolding has_slot
  slot_below e =
      let h = both_true (ltb i l.count) (ltb (l.base + 8 * i) (2 ^ 64)) e in
      (ltb-true i l.count h.0, ltb-true (l.base + 8 * i) (2 ^ 64) h.1)
