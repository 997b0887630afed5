-- Laws of the entries of a list that are noted one by one.
use Prim.Native.Nat.{ℕ, suc, ◌+◌, ◌-◌, ◌≤◌, ◌<◌, ◌^◌}
use mathlib.Core.Path.{◌≡◌, sym, ap, ◌∙◌}
use mathlib.Core.Bool.{true}
use mathlib.Core.List.{[], ◌∷◌, map}
use native.Mathlib.Omega.{arith}
use borrow.Author.Tests.{ltb-true}
use lib.Dec.{ltb}
use Rattle.reads.proofs.Tests.{both_true}
use Rattle.reads.specs.Breaks.{can_read}
use Rattle.reads.specs.Place.{Image}
use Rattle.records.specs.List.{entry, entry_address, least}
use Rattle.records.specs.Search.{first, all_from, first_readable, readables}
use Rattle.records.specs.declared.list.Layout.{Layout}
use Rattle.records.proofs.Firsts.{first_some, all_of_some, all_of_first_none}
use Rattle.std.specs.Prelude.{Option, Some, None}

module _ (m : Image) (h : Layout) (i j : ℕ) (e : Option ℕ) (said : e ≡ first_readable m h i) (is : e ≡ Some j) where
  found : first (entry m h) (h.count - i) i ≡ Some j
  unfolding first_readable
  found = sym said ∙ is

  pub below_count : j < h.count
  below_count = let f = first_some (entry m h) (h.count - i) i j found in let a = f.from in let b = f.below in omega arith

  pub not_before : i ≤ j
  not_before = (first_some (entry m h) (h.count - i) i j found).from

  pub in_64 : entry_address h j < 2 ^ 64
  in_64 = low (first_some (entry m h) (h.count - i) i j found).passes
    where
      low : entry m h j ≡ true → entry_address h j < 2 ^ 64
      low = unfold entry in (λ q. ltb-true (entry_address h j) (2 ^ 64) (both_true (ltb (entry_address h j) (2 ^ 64)) (can_read m (least h.kind) (entry_address h j)) q).0)

  -- The entries from i on are entry j and those after it.
  pub entries_first : all_from (entry m h) (h.count - i) i ≡ j ∷ all_from (entry m h) (h.count - (j + 1)) (j + 1)
  entries_first =
      let b = below_count in
      let a = not_before in
      let left : h.count - i - (suc j - i) ≡ h.count - (j + 1) = omega arith in
      let next : suc j ≡ j + 1 = omega arith in
      all_of_some (entry m h) (h.count - i) i j found
      ∙ ap (λ k. j ∷ all_from (entry m h) k (suc j)) left ∙ ap (λ k. j ∷ all_from (entry m h) (h.count - (j + 1)) k) next

pub entries_none : (m : Image) (h : Layout) (i : ℕ) (e : Option ℕ) → e ≡ first_readable m h i → e ≡ None → all_from (entry m h) (h.count - i) i ≡ []
unfolding first_readable
entries_none m h i e said is = all_of_first_none (entry m h) (h.count - i) i (sym said ∙ is)

-- All of them are left at first.
pub entries_all : (m : Image) (h : Layout) → map (entry_address h) (all_from (entry m h) (h.count - 0) 0) ≡ map (entry_address h) (readables m h)
unfolding readables
entries_all m h = let all : h.count - 0 ≡ h.count = omega arith in ap (λ k. map (entry_address h) (all_from (entry m h) k 0)) all
