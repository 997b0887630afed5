-- The readable entries of a list: how many there can be, and how those of a list of any count are computed.
use Prim.Native.Nat.{ℕ, suc, ◌-◌, ◌*◌, ◌/◌, ◌^◌, ◌≤◌, ◌<◌}
use mathlib.Core.Path.{◌≡◌, ◌∙◌}
use mathlib.Core.Bool.{true, false}
use mathlib.Core.List.{List, [], ◌∷◌}
use native.Mathlib.Nat.{sub-zero, sub_self}
use native.Mathlib.Omega.{arith}
use lib.Dec.{ltb}
use lib.ListN.{length}
use Rattle.reads.specs.Breaks.{can_read, breaks_of, next_break}
use Rattle.reads.specs.Files.{longest}
use Rattle.reads.specs.Place.{Image}
use Rattle.reads.specs.Segment.{segment_words}
use Rattle.reads.specs.Table.{records}
use Rattle.reads.proofs.Tests.{both_true}
use Rattle.records.specs.List.{least, entry_address, entry}
use Rattle.records.specs.Search.{all_from, first_readable, readables}
use Rattle.records.specs.declared.list.Layout.{Layout}
use Rattle.records.proofs.Firsts.{FirstOf, first_some, first_is_none, all_of_some, all_of_first_none, all_of_less}
use Rattle.records.proofs.Headers.{least_12}
use Rattle.records.proofs.Jumps.{entries_past_breaks}
use Rattle.records.proofs.Windows.{passing_within, reads_few}
use Rattle.std.specs.Prelude.{None, Some}

-- The readable entries from index i on.
abbrev pub rest_from : Image → Layout → ℕ → List ℕ
rest_from m h i = all_from (entry m h) (h.count - i) i

module _ (m : Image) (h : Layout) where
  -- The bytes of a readable entry can be read.
  pub entry_can_read : (j : ℕ) → entry m h j ≡ true → can_read m (least h.kind) (entry_address h j) ≡ true
  unfolding entry
  entry_can_read j e = (both_true (ltb (entry_address h j) (2 ^ 64)) (can_read m (least h.kind) (entry_address h j)) e).1

  -- What a search from i on finds, and what is then left of the readable entries from there on.
  module _ (i : ℕ) where
    pub found : (j : ℕ) → first_readable m h i ≡ Some j → FirstOf (entry m h) (h.count - i) i j
    unfolding first_readable
    found j e = first_some (entry m h) (h.count - i) i j e

    pub found_below_count : (j : ℕ) → first_readable m h i ≡ Some j → j < h.count
    found_below_count j e = let f = found j e in omega (arith, f.from, f.below)

    pub not_found : first_readable m h i ≡ None → (x : ℕ) → i ≤ x → x < h.count → entry m h x ≡ false
    unfolding first_readable
    not_found e x l u = first_is_none (entry m h) (h.count - i) i e x l (omega arith)

    pub rest_of_some : (j : ℕ) → first_readable m h i ≡ Some j → rest_from m h i ≡ j ∷ rest_from m h (suc j)
    unfolding first_readable
    rest_of_some j e =
        let f = found j e in
        let n : h.count - i - (suc j - i) ≡ h.count - suc j = omega (arith, f.from, f.below) in
        all_of_some (entry m h) (h.count - i) i j e ∙ rw n

    pub rest_of_none : first_readable m h i ≡ None → rest_from m h i ≡ []
    unfolding first_readable
    rest_of_none e = all_of_first_none (entry m h) (h.count - i) i e

  -- From 0 on they are all, and from the count on none.
  pub rest_from_0 : readables m h ≡ rest_from m h 0
  unfolding readables
  rest_from_0 = rw sub-zero

  pub rest_from_count : rest_from m h h.count ≡ []
  unfolding all_from
  rest_from_count = rw sub_self

  -- At most S x floor(n / 12): S the rows of the segment table, n the length of the longest file.
  pub readables_few : least h.kind ≤ h.size → length (readables m h) ≤ records segment_words m.words * (longest m.files / 12)
  unfolding readables
  readables_few sized =
      let a = passing_within (entry m h) (λ j. can_read m (least h.kind) (entry_address h j)) (λ j e. entry_can_read j e) h.count 0 in
      let b = reads_few m (least h.kind) h.base h.size (omega (arith, least_12 h.kind)) (least_12 h.kind) h.count 0 in
      omega arith

  -- Where every entry from d on fails, the first d are all.
  pub readables_below : (d : ℕ) → d ≤ h.count → ((x : ℕ) → d ≤ x → x < h.count → entry m h x ≡ false) → readables m h ≡ all_from (entry m h) d 0
  unfolding readables
  readables_below d l f = all_of_less (entry m h) h.count d l f

  -- So where no breakpoint lies above entry d.
  pub readables_before_breaks_end : (d : ℕ) → d ≤ h.count → next_break (breaks_of m (least h.kind)) (entry_address h d) ≡ None
      → readables m h ≡ all_from (entry m h) d 0
  readables_before_breaks_end d l e = readables_below d l (λ x p q. entries_past_breaks m h d e x p)
