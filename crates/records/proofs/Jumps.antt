-- Why the search may go from one breakpoint to the next, and why its budget suffices. Nothing is assumed of the segments' order.
use Prim.Native.Nat.{ℕ, ◌+◌, ◌-◌, ◌*◌, ◌/◌, ◌^◌, ◌≤◌, ◌<◌}
use mathlib.Core.Path.{◌≡◌, refl, sym, ◌∙◌}
use mathlib.Core.Bool.{true, false, and-false}
use native.Mathlib.Nat.{mul-zero, mul-le-mul, le_dest, mul-le-mul_right, div-mul-le_self, lt-div-mul-add}
use native.Mathlib.Omega.{arith}
use borrow.Author.Tests.{lt-ltb, le-ltb}
use Rattle.reads.specs.Breaks.{can_read, breaks_of, next_break}
use Rattle.reads.specs.Answer.{outcome}
use Rattle.reads.specs.Outcome.{value}
use Rattle.reads.specs.Place.{Image}
use Rattle.reads.specs.Spot.{readable_spot, spot_behind}
use Rattle.reads.specs.declared.answer.Missing.{Missing}
use Rattle.reads.specs.declared.spot.Spot.{Spot}
use Rattle.reads.proofs.CanRead.{can_read_value, can_read_missing}
use Rattle.reads.proofs.Spots.{spot_behind_is}
use Rattle.reads.proofs.Breakpoints.{can_read_until_break, unreadable_past_breaks, above_few}
use Rattle.reads.proofs.LeastAbove.{next_break_above, above_falls}
use Rattle.records.specs.List.{least, entry_address, entry}
use Rattle.records.specs.Search.{first_readable, search_budget}
use Rattle.records.specs.Tries.{Entry, Finds, ahead, Leads}
use Rattle.records.specs.declared.list.Found.{Found}
use Rattle.records.specs.declared.list.Layout.{Layout}
use Rattle.std.specs.Prelude.{Option}
use Rattle.std.specs.declared.ops.ControlFlow.{ControlFlow}
use Rattle.std.specs.declared.ops.ControlFlow.TheVariants.{Break, Continue}
use Rattle.records.proofs.NearFields.{place_found, place_unreadable, near_readable}
use Rattle.records.proofs.Firsts.{first_skip, first_past, first_here, first_none}
use Rattle.std.specs.Prelude.{Some, None, Result, Ok, Err}

-- An index times an entry size fits 64 bits.
pub product_fits : (a b : ℕ) → a < 2 ^ 32 → b < 2 ^ 32 → a * b < 2 ^ 64
product_fits a b p q = omega (arith, mul-le-mul {n₁ = a} {m₁ = b} {n₂ = 2 ^ 32 - 1} {m₂ = 2 ^ 32 - 1} (omega arith) (omega arith))

-- How many entries after i start below b.
abbrev pub gap : Layout → ℕ → ℕ → ℕ
gap h i b = (b - entry_address h i - 1) / h.size

pub addresses_rise : (h : Layout) (i x : ℕ) → i ≤ x → entry_address h i ≤ entry_address h x
addresses_rise h i x l = omega (arith, mul-le-mul_right h.size l)

-- Entry i, by its address.
module _ (m : Image) (h : Layout) (i : ℕ) where
  pub entry_over : 2 ^ 64 ≤ entry_address h i → entry m h i ≡ false
  unfolding entry
  entry_over w = simp (le-ltb (entry_address h i) (2 ^ 64) w)

  pub entry_unreadable : can_read m (least h.kind) (entry_address h i) ≡ false → entry m h i ≡ false
  unfolding entry
  entry_unreadable e = rw (e, and-false)

  pub entry_readable : entry_address h i < 2 ^ 64 → can_read m (least h.kind) (entry_address h i) ≡ true → entry m h i ≡ true
  unfolding entry
  entry_readable l e = rw (lt-ltb (entry_address h i) (2 ^ 64) l, e)

module _ (m : Image) (h : Layout) (i : ℕ) where
  pub search_past : h.count ≤ i → None ≡ first_readable m h i
  unfolding first_readable
  search_past l = sym (first_past (entry m h) h.count i l)

  -- No entry from i on can be read.
  nowhere : i < h.count → ((x : ℕ) → i ≤ x → x < h.count → entry m h x ≡ false) → None ≡ first_readable m h i
  unfolding first_readable
  nowhere l f = sym (first_none (entry m h) h.count i f (omega arith))

  -- The address of entry i is over 64 bits, and so is each later one.
  pub search_over : i < h.count → 2 ^ 64 ≤ entry_address h i → None ≡ first_readable m h i
  search_over l w = nowhere l (λ x p q. entry_over m h x (omega (arith, addresses_rise h i x p)))

  pub search_here : i < h.count → entry_address h i < 2 ^ 64 → can_read m (least h.kind) (entry_address h i) ≡ true → Some i ≡ first_readable m h i
  unfolding first_readable
  search_here l f e = sym (first_here (entry m h) h.count i l (entry_readable m h i f e))

  -- No breakpoint is left above entry i, so no entry from there on can be read.
  pub entries_past_breaks : next_break (breaks_of m (least h.kind)) (entry_address h i) ≡ None → (x : ℕ) → i ≤ x → entry m h x ≡ false
  entries_past_breaks e x l =
      entry_unreadable m h x (unreadable_past_breaks m (least h.kind) (entry_address h i) (entry_address h x) e (addresses_rise h i x l))

  pub search_past_breaks : i < h.count → next_break (breaks_of m (least h.kind)) (entry_address h i) ≡ None → None ≡ first_readable m h i
  search_past_breaks l e = nowhere l (λ x p q. entries_past_breaks e x p)

  module _ (low : i < h.count) (not : can_read m (least h.kind) (entry_address h i) ≡ false) where
    -- Entries of size 0 all have one address.
    pub search_flat : h.size ≡ 0 → None ≡ first_readable m h i
    search_flat z = nowhere low (λ x p q. entry_unreadable m h x (rw (one_place x) not))
      where
        one_place : (x : ℕ) → entry_address h x ≡ entry_address h i
        one_place x = simp (z, mul-zero)

    -- The next breakpoint is b.
    module _ (sized : h.size ≡ 0 → ⊥) (b : ℕ) (next : next_break (breaks_of m (least h.kind)) (entry_address h i) ≡ Some b) where
      entry_under : entry_address h i < b
      entry_under = next_break_above (breaks_of m (least h.kind)) (entry_address h i) b next

      below : (x : ℕ) → i ≤ x → x ≤ i + gap h i b → entry_address h x < b
      below x l u =
          let d = le_dest l in
          let s : d.0 * h.size ≤ gap h i b * h.size = mul-le-mul_right h.size (omega arith) in
          rw (← d.1) (omega (arith, entry_under, div-mul-le_self (b - entry_address h i - 1) h.size))

      fails : (x : ℕ) → i ≤ x → x ≤ i + gap h i b → entry m h x ≡ false
      fails x l u =
          entry_unreadable m h x (can_read_until_break m (least h.kind) (entry_address h i) b (entry_address h x) next (addresses_rise h i x l) (below x l u) ∙ not)

      pub jump_out : h.count - i - 1 ≤ gap h i b → None ≡ first_readable m h i
      jump_out g = nowhere low (λ x p q. fails x p (omega arith))

      pub jump_same : gap h i b < h.count - i - 1 → first_readable m h (i + gap h i b + 1) ≡ first_readable m h i
      unfolding first_readable
      jump_same g = sym (first_skip (entry m h) h.count i (i + gap h i b + 1) (omega arith) (omega arith) (λ x p q. fails x p (omega arith)))

      pub jump_fewer : ahead m h (i + gap h i b + 1) < ahead m h i
      unfolding ahead
      jump_fewer =
          above_falls (breaks_of m (least h.kind)) (entry_address h i) b (entry_address h (i + gap h i b + 1)) next
          (omega (arith, entry_under, lt-div-mul-add {a = b - entry_address h i - 1} {b = h.size} (omega arith)))

  -- The budget of 3 x S + 1 covers the breakpoints ahead of any entry.
  pub ahead_few : ahead m h i < search_budget m.words
  unfolding ahead
  ahead_few = omega (arith, above_few m (least h.kind) (entry_address h i))

-- Whether bytes can be read, by what the lookup of their spot gave.
module _ (m : Image) (k va : ℕ) (r : Result Spot Missing) (e : outcome r ≡ readable_spot m va k) where
  pub can_read_found : (s : Spot) → r ≡ Ok s → can_read m k va ≡ true
  can_read_found s o = can_read_value m k va s.place (sym (place_found m va k r e s o))

  pub can_read_not : (x : Missing) → r ≡ Err x → can_read m k va ≡ false
  can_read_not x o = can_read_missing m k va x (place_unreadable m va k r e x o)

-- The entry whose bytes lie in the room of the header's spot.
module _ (m : Image) (h : Layout) (va size : ℕ) (s : Spot) (is : readable_spot m va size ≡ value s) (base : h.base ≡ va + 8) (i : ℕ) (t : Spot)
    (there : spot_behind m s (8 + i * h.size) (least h.kind) ≡ Some t) where
  behind_is : (entry_address h i < 2 ^ 64) × (readable_spot m (entry_address h i) (least h.kind) ≡ value t)
  behind_is = let at : va + (8 + i * h.size) ≡ entry_address h i = omega arith in rw (← at) (spot_behind_is m va size s is (8 + i * h.size) (least h.kind) t there)

  pub behind_fits : entry_address h i < 2 ^ 64
  behind_fits = behind_is.0

  pub behind_found : i < h.count → Entry m h i (record { index = i; va = entry_address h i; spot = t })
  behind_found l =
      let reads = can_read_value m (least h.kind) (entry_address h i) t.place (sym (near_readable m (entry_address h i) (least h.kind) t behind_is.1)) in
      record { first = search_here m h i l behind_fits reads; address = refl; spot = behind_is.1 }

-- What is found from one index on is found from another with the same answer.
pub finds_from : (m : Image) (h : Layout) (i j : ℕ) (o : Option Found) → first_readable m h i ≡ first_readable m h j → Finds m h i o → Finds m h j o
finds_from m h i j None e f = f ∙ e
finds_from m h i j (Some x) e f = record { first = f.first ∙ e; address = f.address; spot = f.spot }

-- What trying an index leaves, by the case that came.
module _ (m : Image) (h : Layout) (i : ℕ) (r : ControlFlow (Option Found) ℕ) (tried : Leads m h i r) where
  pub stopped : (from : ℕ) → first_readable m h i ≡ first_readable m h from → (entry : Option Found) → r ≡ Break entry → Finds m h from entry
  stopped from same entry e = finds_from m h i from entry same (rw e at tried)

  pub went : (j : ℕ) → r ≡ Continue j → (first_readable m h j ≡ first_readable m h i) × (ahead m h j < ahead m h i)
  went j e = rw e at tried
