-- The invariant of the pass that writes items.
use Prim.Native.Nat.{ℕ, ◌+◌, ◌-◌, ◌*◌, ◌≤◌}
use mathlib.Core.Path.{◌≡◌, refl, ap, sym, ◌∙◌}
use mathlib.Core.List.{List, [], ◌∷◌, ◌++◌}
use native.Mathlib.Omega.{arith}
use lib.ListN.{length, drop}
use lib.Seq.{sets, sets-eq, length-sets}
use borrow.Rule.Slice.PartMut.{put_mid}
use Rattle.attributes.specs.Attributes.{words, filled}
use Rattle.attributes.specs.declared.items.Item.{Item}
use Rattle.reads.proofs.Parts.{sets_append}
use Rattle.attributes.proofs.Puts.{part_put}

pub length_words : (is : List Item) → length (words is) ≡ 3 * length is
unfolding words
length_words [] = refl
length_words (i ∷ is) = omega (arith, length_words is)

-- k items are stored, and the words of `rest` are due: with them stored, the buffer is the old one with the words of all.
pub record Filling (all : List Item) (old : List ℕ) (rest : List Item) (k : ℕ) (buffer : List ℕ) : Type 0 where
  left : sets buffer (3 * k) (words rest) ≡ sets old 0 (words all)
  pub room : 3 * k + 3 * length rest ≤ length buffer
  pub same : length buffer ≡ length old

module _ (all : List Item) (old : List ℕ) (h : 3 * length all ≤ length old) where
  pub filling_start : {rest : List Item} {k : ℕ} → rest ≡ all → k ≡ 0 → Filling all old rest k old
  filling_start e z = rw (e, z) (record { left = refl; room = omega arith; same = refl })

  pub filling_end : {rest : List Item} {k : ℕ} {buffer : List ℕ} → Filling all old rest k buffer → rest ≡ [] → buffer ≡ filled all old
  unfolding filled words
  filling_end {rest} {k} {buffer} at g =
      let size : 0 + length (words all) ≡ 3 * length all = omega (arith, length_words all) in
      (rw g at at.left) ∙ sets-eq (words all) old 0 (omega (arith, length_words all))
      ∙ ap (λ (n : ℕ). words all ++ drop n old) size

module _ {all : List Item} {old : List ℕ} {i : Item} {rest more : List Item} {k : ℕ} {buffer : List ℕ}
    (at : Filling all old rest k buffer) (e : rest ≡ i ∷ more) where
  pub filling_room : 3 * k + 3 ≤ length buffer
  filling_room = omega (arith, ap length e, at.room)

  pub filling_next : {j n : ℕ} {part : List ℕ} → j ≡ k → n ≡ k + 1 → part ≡ i.key ∷ i.value.start ∷ i.value.len ∷ []
      → Filling all old more n (put_mid (3 * j) (3 * j + 3 - 3 * j) buffer part)
  unfolding words
  filling_next {j} {n} {part} z u p =
      let row = i.key ∷ i.value.start ∷ i.value.len ∷ [] in
      let put : put_mid (3 * k) (3 * k + 3 - 3 * k) buffer part ≡ sets buffer (3 * k) row = part_put buffer row (3 * k) (3 * k + 3) refl filling_room p in
      let next : 3 * (k + 1) ≡ 3 * k + 3 = omega arith in
      rw (z, u, put)
      (record {
        left = rw next (sym (sets_append buffer row (words more) (3 * k)) ∙ (rw e at at.left));
        room = omega (arith, ap length e, at.room, length-sets buffer (3 * k) row);
        same = length-sets buffer (3 * k) row ∙ at.same;
      })
