-- How many addresses, size bytes apart, can be read: at most floor(n / 12) for each segment, n the longest file, since those in one
-- segment's room lie in n bytes (reads/proofs/SegmentRooms.antt). Nothing is assumed of the segments' order, and they may overlap.
use Prim.Native.Nat.{ℕ, zero, suc, ◌+◌, ◌*◌, ◌/◌, ◌≤◌}
use mathlib.Core.Path.{◌≡◌, refl, sym, ◌∙◌}
use mathlib.Core.Bool.{Bool, true, false, true≢false}
use mathlib.Core.List.{List, [], ◌∷◌}
use mathlib.Core.Logic.{◌⊎◌, inl, inr, ⊎_elim}
use native.Mathlib.Nat.{le_trans}
use native.Mathlib.Omega.{arith}
use lib.Dec.{leb}
use lib.ListN.{length}
use borrow.Author.Tests.{leb-true}
use Rattle.reads.specs.Breaks.{can_read}
use Rattle.reads.specs.Files.{longest}
use Rattle.reads.specs.Outcome.{choose}
use Rattle.reads.specs.Place.{Image}
use Rattle.reads.specs.Segment.{segment_words, rows}
use Rattle.reads.specs.Table.{records}
use Rattle.reads.specs.declared.segment.Segment.{Segment}
use Rattle.reads.proofs.SegmentRooms.{in_room, in_some_room, can_read_room}
use Rattle.reads.proofs.SegmentRows.{rows_length}
use Rattle.reads.proofs.Tests.{by_choose, both_true}
use Rattle.records.specs.Search.{all_from}
use Rattle.records.proofs.Firsts.{all_of_none}

-- How many of the k indices from i on pass a test.
abbrev passing : (ℕ → Bool) → ℕ → ℕ → ℕ
passing test k i = length (all_from test k i)

-- A test that passes only where one of two does passes no oftener than both.
pub passing_either : (t u v : ℕ → Bool) → ((j : ℕ) → t j ≡ true → (u j ≡ true) ⊎ (v j ≡ true)) → (k i : ℕ) → passing t k i ≤ passing u k i + passing v k i
unfolding all_from choose
passing_either t u v f zero i = omega arith
passing_either t u v f (suc k) i = go (t i) (u i) (v i) refl refl refl (passing_either t u v f k (suc i))
  where
    either : (a b c : Bool) → t i ≡ a → u i ≡ b → v i ≡ c → a ≡ true → b ≡ false → c ≡ false → ⊥
    either a b c p q r x y z = ⊎_elim (λ e. true≢false (sym e ∙ q ∙ y)) (λ e. true≢false (sym e ∙ r ∙ z)) (f i (p ∙ x))

    more : Bool → (ℕ → Bool) → List ℕ
    more b s = choose b (i ∷ all_from s k (suc i)) (all_from s k (suc i))

    go : (a b c : Bool) → t i ≡ a → u i ≡ b → v i ≡ c → passing t k (suc i) ≤ passing u k (suc i) + passing v k (suc i)
        → length (more a t) ≤ length (more b u) + length (more c v)
    go true true true p q r ih = omega arith
    go true true false p q r ih = omega arith
    go true false true p q r ih = omega arith
    go true false false p q r ih = absurd (either true false false p q r refl refl refl)
    go false true true p q r ih = omega arith
    go false true false p q r ih = omega arith
    go false false true p q r ih = omega arith
    go false false false p q r ih = ih

-- One that passes only where another does passes no oftener.
pub passing_within : (t u : ℕ → Bool) → ((j : ℕ) → t j ≡ true → u j ≡ true) → (k i : ℕ) → passing t k i ≤ passing u k i
passing_within t u f k i =
    let a = passing_either t u (λ j. false) (λ j e. inl (f j e)) k i in
    let z : passing (λ j. false) k i ≡ 0 = rw (all_of_none (λ j. false) k i (λ x l u. refl)) in
    omega arith

-- A test that passes only where `least` bytes at base + j x size lie in the n bytes from a on.
module _ (test : ℕ → Bool) (base size least a n : ℕ) (apart : 12 ≤ size) (wide : 12 ≤ least)
    (window : (j : ℕ) → test j ≡ true → (a ≤ base + j * size) × (base + j * size + least ≤ a + n)) where
  -- Each of them takes 12 bytes at the least, and all lie from the first on.
  Fits : ℕ → ℕ → Type 0
  Fits p i = (p ≡ 0) ⊎ ((p * 12 + (base + i * size) ≤ a + n) × (p * 12 ≤ n))

  passing_fits : (k i : ℕ) → Fits (passing test k i) i
  unfolding all_from Fits
  passing_fits zero i = inl refl
  passing_fits (suc k) i = by_choose (λ (js : List ℕ). Fits (length js) i) (λ t. with_one t (passing_fits k (suc i))) (λ t. without (passing_fits k (suc i)))
    where
      with_one : test i ≡ true → Fits (passing test k (suc i)) (suc i) → Fits (suc (passing test k (suc i))) i
      with_one t (inl z) = let w = window i t in inr (omega arith, omega arith)
      with_one t (inr r) = let w = window i t in inr (omega arith, omega arith)

      without : Fits (passing test k (suc i)) (suc i) → Fits (passing test k (suc i)) i
      without (inl z) = inl z
      without (inr r) = inr (omega arith, omega arith)

  pub passing_window : (k i : ℕ) → passing test k i ≤ n / 12
  unfolding Fits
  passing_window k i = ⊎_elim (λ z. omega arith) (λ r. omega arith) (passing_fits k i)

-- Addresses, size bytes apart, whose k bytes lie in the room of a segment.
module _ (n k base size : ℕ) (apart : 12 ≤ size) (wide : 12 ≤ k) where
  room_window : (s : Segment) (va : ℕ) → in_room n k s va ≡ true → (s.vmaddr ≤ va) × (va + k ≤ s.vmaddr + n)
  room_window s va e =
      let p = both_true (leb s.vmaddr va) (leb (va + k) (s.vmaddr + n)) e in
      (leb-true _ _ p.0, leb-true _ _ p.1)

  in_either : (s : Segment) (ss : List Segment) (va : ℕ) → in_some_room n k (s ∷ ss) va ≡ true → (in_room n k s va ≡ true) ⊎ (in_some_room n k ss va ≡ true)
  unfolding in_some_room
  in_either s ss va = by_choose (λ (b : Bool). b ≡ true → (in_room n k s va ≡ true) ⊎ (in_some_room n k ss va ≡ true)) (λ e z. inl e) (λ e z. inr z)

  rooms_few : (ss : List Segment) (count i : ℕ) → passing (λ j. in_some_room n k ss (base + j * size)) count i ≤ length ss * (n / 12)
  unfolding in_some_room
  rooms_few [] count i = let z = all_of_none (λ j. false) count i (λ x l u. refl) in rw z (omega arith)
  rooms_few (s ∷ ss) count i =
      le_trans
      (passing_either (λ j. in_some_room n k (s ∷ ss) (base + j * size)) (λ j. in_room n k s (base + j * size)) (λ j. in_some_room n k ss (base + j * size))
      (λ j e. in_either s ss (base + j * size) e) count i)
      (both (passing_window (λ j. in_room n k s (base + j * size)) base size k s.vmaddr n apart wide (λ j e. room_window s (base + j * size) e) count i)
      (rooms_few ss count i))
    where
      both : {x y : ℕ} → x ≤ n / 12 → y ≤ length ss * (n / 12) → x + y ≤ suc (length ss) * (n / 12)
      both p q = omega arith

-- Addresses 12 bytes apart or more at which 12 bytes or more can be read.
pub reads_few : (m : Image) (k base size : ℕ) → 12 ≤ size → 12 ≤ k → (count i : ℕ)
    → length (all_from (λ j. can_read m k (base + j * size)) count i) ≤ records segment_words m.words * (longest m.files / 12)
reads_few m k base size apart wide count i =
    rw (← rows_length m.words)
    (le_trans
    (passing_within (λ j. can_read m k (base + j * size)) (λ j. in_some_room (longest m.files) k (rows m.words) (base + j * size))
    (λ j e. can_read_room m k (base + j * size) e) count i)
    (rooms_few (longest m.files) k base size apart wide (rows m.words) count i))
