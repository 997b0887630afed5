-- A list's header as the code reads it, and what holds of every list that is there.
use Prim.Native.Nat.{ℕ, ◌+◌, ◌-◌, ◌%◌, ◌^◌, ◌≤◌}
use mathlib.Core.Path.{◌≡◌, ap, sym, ◌∙◌}
use mathlib.Core.Bool.{true, false, not}
use native.Mathlib.Omega.{arith}
use borrow.Author.Tests.{leb-true, ne_eqb}
use lib.Bits.{bit_and, and_high}
use lib.Dec.{eqb}
use Rattle.reads.specs.Outcome.{Outcome, value, Unrefused, a_value, an_absence, and_then, choose, sum64, nonzero}
use Rattle.reads.specs.declared.answer.Reason.TheVariants.{OddList, ShortEntry}
use Rattle.reads.specs.Place.{readable}
use Rattle.reads.specs.declared.place.Place.{Place}
use Rattle.reads.proofs.Outcomes.{then_came}
use Rattle.reads.proofs.Tests.{by_choose}
use Rattle.reads.proofs.Unrefused.{unrefused_then, unrefused_choose, nonzero_unrefused, sum_unrefused, readable_unrefused}
use Rattle.pointers.specs.ImageInfo.{bit}
use Rattle.pointers.specs.Tables.{Tables, image_in}
use Rattle.pointers.specs.Bytes.{u32_in}
use Rattle.pointers.proofs.Flags.{bit_by}
use Rattle.records.specs.Ask.{even_list, entry_size}
use Rattle.records.specs.List.{least, rows_of, size_of, layout, must_be_even, layout_at, list_at, decode_list}
use Rattle.records.specs.declared.list.Layout.{Layout}
use Rattle.records.specs.declared.list.ListKind.{ListKind}
use Rattle.records.specs.declared.list.RowKind.{RowKind}
use Rattle.records.specs.declared.list.RowKind.TheVariants as row
use Rattle.records.proofs.NearFields.{sum_is}

pub bit_clear : (k flags : ℕ) → bit_and flags (2 ^ k) ≡ 0 → bit k flags ≡ false
bit_clear k flags e = sym (bit_by k flags) ∙ ap (λ (n : ℕ). not (eqb n 0)) e

pub bit_set : (k flags : ℕ) → (bit_and flags (2 ^ k) ≡ 0 → ⊥) → bit k flags ≡ true
bit_set k flags f = sym (bit_by k flags) ∙ ap not (ne_eqb (bit_and flags (2 ^ k)) 0 f)

-- The word & 0xFFFC.
pub size_mask : (w : ℕ) → bit_and w 0xFFFC ≡ w % 2 ^ 16 - w % 4
size_mask w = and_high w 14 2 ∙ omega arith

-- An entry size that passes is the size, and no smaller than the least.
size_least : (least size s : ℕ) → entry_size least size ≡ value s → least ≤ size
unfolding entry_size
size_least least size s =
    by_choose (λ o. o ≡ value s → least ≤ size) (λ t e. leb-true least size t) (λ t e. let z : ◌≡◌ {A = ℕ} 0 1 = cc in absurd (omega arith))

module _ (t : Tables) (k : ListKind) (va : ℕ) where
  abbrev based : Place → ℕ → Outcome Layout
  based p w = and_then (sum64 va 8) (λ base. value (layout k base w (u32_in t p 4)))

  abbrev sized : Place → Outcome Layout
  sized p = and_then (entry_size (least (rows_of k (u32_in t p 0))) (size_of k (u32_in t p 0))) (λ _. based p (u32_in t p 0))

  -- The entries are no smaller than their least size, and begin behind the header.
  pub layout_is : (h : Layout) → layout_at t k va ≡ value h → (least h.kind ≤ h.size) × (h.base ≡ va + 8)
  layout_is h e =
      let p = then_came (readable (image_in t) va 8) sized h e in
      let s = then_came (entry_size (least (rows_of k (u32_in t p.0 0))) (size_of k (u32_in t p.0 0))) (λ _. based p.0 (u32_in t p.0 0)) h p.2 in
      let base = then_came (sum64 va 8) (λ base. value (layout k base (u32_in t p.0 0) (u32_in t p.0 4))) h s.2 in
      of_layout base.0 (u32_in t p.0 0) (u32_in t p.0 4) (size_least _ _ _ s.1) (sum_is va 8 base.0 (sym base.1)) base.2
    where
      of_layout : (base w count : ℕ) → least (rows_of k w) ≤ size_of k w → base ≡ va + 8 → value (layout k base w count) ≡ value h
          → (least h.kind ≤ h.size) × (h.base ≡ va + 8)
      of_layout base w count l b e = let same : layout k base w count ≡ h = cc in rw (← same) (l, b)

  pub list_least : (h : Layout) → list_at t k va ≡ value h → least h.kind ≤ h.size
  unfolding decode_list
  list_least h e =
      let a = then_came (nonzero va) (λ _. and_then (choose (must_be_even k) (even_list va) (value va)) (λ _. and_then (readable (image_in t) va 8) sized)) h e in
      let b = then_came (choose (must_be_even k) (even_list va) (value va)) (λ _. and_then (readable (image_in t) va 8) sized) h a.2 in
      (layout_is h b.2).0

-- No question is asked of a list.
pub even_unrefused : (va : ℕ) → Unrefused (even_list va)
unfolding even_list
even_unrefused va = by_choose Unrefused (λ e. a_value va) (λ e. an_absence OddList)

pub size_unrefused : (least size : ℕ) → Unrefused (entry_size least size)
unfolding entry_size
size_unrefused least size = by_choose Unrefused (λ e. a_value size) (λ e. an_absence ShortEntry)

pub list_unrefused : (t : Tables) (k : ListKind) (va : ℕ) → Unrefused (list_at t k va)
unfolding decode_list
list_unrefused t k va =
    unrefused_then _ (nonzero_unrefused va) (λ _.
    unrefused_then _ (unrefused_choose (must_be_even k) (even_unrefused va) (a_value va)) (λ _.
    unrefused_then (sized t k va) (readable_unrefused (image_in t) va 8) (λ p.
    unrefused_then (λ _. based t k va p (u32_in t p 0)) (size_unrefused (least (rows_of k (u32_in t p 0))) (size_of k (u32_in t p 0))) (λ _.
    unrefused_then (λ base. value (layout k base (u32_in t p 0) (u32_in t p 4))) (sum_unrefused va 8) (λ base. a_value (layout k base (u32_in t p 0) (u32_in t p 4)))))))

-- No least size is below 12.
pub least_12 : (r : RowKind) → 12 ≤ least r
least_12 row.Legacy = omega arith
least_12 row.SmallIndirect = omega arith
least_12 row.SmallDirect = omega arith
least_12 row.Ivar = omega arith
least_12 row.Property = omega arith
