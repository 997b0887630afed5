-- Rows whose chains are followed as far as can be become the records.
use Prim.Native.Nat.{ℕ, zero, suc, ◌+◌, ◌*◌, ◌≤◌, ◌<◌}
use mathlib.Core.Path.{◌≡◌, refl, sym, ◌∙◌}
use mathlib.Core.Bool.{false}
use mathlib.Core.List.{List, [], ◌∷◌, ◌++◌, flat_map}
use native.Mathlib.Omega.{arith}
use native.Mathlib.Decide.{ℕ_discrete}
use lib.ListN.{length, get_or, set, take, drop, length-set, take-append-drop}
use lib.Seq.{get_or-set_same, get_or-set_other, drop-set-lt}
use Rattle.reads.specs.Outcome.{value}
use Rattle.pointers.specs.Tables.{Tables}
use Rattle.records.specs.Class.{class_at}
use Rattle.records.specs.declared.class.ObjcClass.{ObjcClass}
use Rattle.ancestry.specs.Chain.{looping, climb}
use Rattle.ancestry.specs.Ancestry.{up_in, limit, ancestry_of, row_of, words_of}
use Rattle.ancestry.specs.Doubling.{state_at, node_at, told_by, finished_at, finished_to, Following}
use Rattle.ancestry.specs.Following.{ground_of, Unfollowed}
use Rattle.ancestry.specs.declared.class_chain.Ancestry.{Ancestry}
use Rattle.ancestry.proofs.Fillings.{put_sets}
use Rattle.ancestry.proofs.Rows.{row_told}
use Rattle.ancestry.proofs.Rounds.{length_finished}

-- The three words of row i are those of a record.
pub record Words (out : List ℕ) (i : ℕ) (x : Ancestry) : Type 0 where
  pub first : get_or out (i * 3) 0 ≡ (row_of x).first
  pub second : get_or out (i * 3 + 1) 0 ≡ (row_of x).second
  pub third : get_or out (i * 3 + 2) 0 ≡ (row_of x).third

-- Rows that hold records are the records.
rows_records : (out : List ℕ) (xs : List Ancestry) → length xs * 3 ≤ length out → ((i : ℕ) → i < length xs → Words out i (get_or xs i looping))
    → take (length xs * 3) out ≡ flat_map words_of xs
unfolding flat_map
rows_records out [] room all = refl
rows_records [] (x ∷ xs) room all = absurd (omega arith)
rows_records (a ∷ []) (x ∷ xs) room all = absurd (omega arith)
rows_records (a ∷ b ∷ []) (x ∷ xs) room all = absurd (omega arith)
rows_records (a ∷ b ∷ d ∷ out) (x ∷ xs) room all =
    let more : suc (length xs) * 3 ≡ suc (suc (suc (length xs * 3))) = omega arith in
    let w = all 0 (omega arith) in
    let rest = rows_records out xs (omega arith) (λ i h. later i (all (suc i) (omega arith))) in
    rw more (joined w.first w.second w.third rest)
  where
    later : (i : ℕ) → Words (a ∷ b ∷ d ∷ out) (suc i) (get_or xs i looping) → Words out i (get_or xs i looping)
    later i w =
        let e : suc i * 3 ≡ suc (suc (suc (i * 3))) = omega arith in
        let f : suc i * 3 + 1 ≡ suc (suc (suc (i * 3 + 1))) = omega arith in
        let g : suc i * 3 + 2 ≡ suc (suc (suc (i * 3 + 2))) = omega arith in
        record { first = rw e at w.first; second = rw f at w.second; third = rw g at w.third }

    joined : a ≡ (row_of x).first → b ≡ (row_of x).second → d ≡ (row_of x).third → take (length xs * 3) out ≡ flat_map words_of xs
        → a ∷ b ∷ d ∷ take (length xs * 3) out ≡ (row_of x).first ∷ (row_of x).second ∷ (row_of x).third ∷ flat_map words_of xs
    joined p q r s = rw (p, q, r, s)

abbrev record_at : List ℕ → ℕ → Ancestry
record_at out i = told_by (state_at out i)

-- What finishing row i changes.
module _ (out : List ℕ) (i : ℕ) where
  abbrev told : Ancestry
  told = record_at out i

  abbrev one : List ℕ
  one = set out (i * 3) (row_of told).first

  abbrev two : List ℕ
  two = set one (i * 3 + 1) (row_of told).second

  finished_other : (k : ℕ) → (k ≡ i * 3 → ⊥) → (k ≡ i * 3 + 1 → ⊥) → (k ≡ i * 3 + 2 → ⊥) → get_or (finished_at out i) k 0 ≡ get_or out k 0
  unfolding finished_at
  finished_other k a b c =
      rw (put_sets out (i * 3) (row_of told))
      (get_or-set_other two (i * 3 + 2) k (row_of told).third 0 c ∙ get_or-set_other one (i * 3 + 1) k (row_of told).second 0 b ∙ get_or-set_other out (i * 3) k (row_of told).first 0 a)

  drop_finished : (n : ℕ) → i < n → drop (n * 3) (finished_at out i) ≡ drop (n * 3) out
  unfolding finished_at
  drop_finished n h =
      rw (put_sets out (i * 3) (row_of told))
      (drop-set-lt (n * 3) two (i * 3 + 2) (row_of told).third (omega arith) ∙ drop-set-lt (n * 3) one (i * 3 + 1) (row_of told).second (omega arith)
      ∙ drop-set-lt (n * 3) out (i * 3) (row_of told).first (omega arith))

  finished_words : i * 3 + 2 < length out → Words (finished_at out i) i told
  unfolding finished_at
  finished_words room =
      rw (put_sets out (i * 3) (row_of told))
      (record {
        first =
            get_or-set_other two (i * 3 + 2) (i * 3) (row_of told).third 0 (omega arith) ∙ get_or-set_other one (i * 3 + 1) (i * 3) (row_of told).second 0 (omega arith)
            ∙ get_or-set_same out (i * 3) (row_of told).first 0 (omega arith);
        second = get_or-set_other two (i * 3 + 2) (i * 3 + 1) (row_of told).third 0 (omega arith) ∙ get_or-set_same one (i * 3 + 1) (row_of told).second 0 (simp length-set (omega arith));
        third = get_or-set_same two (i * 3 + 2) (row_of told).third 0 (simp length-set (omega arith));
      })

-- The first i rows are finished.
record Finished (out : List ℕ) (i : ℕ) (now : List ℕ) : Type 0 where
  done : (j : ℕ) → j < i → Words now j (record_at out j)
  rest : (k : ℕ) → i * 3 ≤ k → get_or now k 0 ≡ get_or out k 0
  size : length now ≡ length out

module _ (out : List ℕ) where
  finished_next : (i : ℕ) (now : List ℕ) → i * 3 + 2 < length out → Finished out i now → Finished out (suc i) (finished_at now i)
  finished_next i now room f =
      record {
        done = λ j h. elim (ℕ_discrete j i) [ yes same ↦ rw same here | no different ↦ before j (omega arith) different ];
        rest = λ k h. finished_other now i k (λ e. omega arith) (λ e. omega arith) (λ e. omega arith) ∙ f.rest k (omega arith);
        size = length_finished now i ∙ f.size;
      }
    where
      fits : i * 3 + 2 < length now
      fits = rw f.size room

      here : Words (finished_at now i) i (record_at out i)
      here = rw (← f.rest (i * 3) (omega arith), ← f.rest (i * 3 + 1) (omega arith)) (finished_words now i fits)

      before : (j : ℕ) → j < i → (j ≡ i → ⊥) → Words (finished_at now i) j (record_at out j)
      before j h n =
          let w = f.done j h in
          record {
            first = finished_other now i (j * 3) (λ e. omega arith) (λ e. omega arith) (λ e. omega arith) ∙ w.first;
            second = finished_other now i (j * 3 + 1) (λ e. omega arith) (λ e. omega arith) (λ e. omega arith) ∙ w.second;
            third = finished_other now i (j * 3 + 2) (λ e. omega arith) (λ e. omega arith) (λ e. omega arith) ∙ w.third;
          }

  finished_to_lem : (i : ℕ) → i * 3 ≤ length out → Finished out i (finished_to out i)
  unfolding finished_to
  finished_to_lem zero h = record { done = λ j u. absurd (omega arith); rest = λ k u. refl; size = refl }
  finished_to_lem (suc i) h = finished_next i (finished_to out i) (omega arith) (finished_to_lem i (omega arith))

  finished_tail : (i n : ℕ) → i ≤ n → drop (n * 3) (finished_to out i) ≡ drop (n * 3) out
  unfolding finished_to
  finished_tail zero n h = refl
  finished_tail (suc i) n h = drop_finished (finished_to out i) i n h ∙ finished_tail i n (omega arith)

-- All rows.
module _ (t : Tables) (listed : ℕ) (out₀ out : List ℕ) (s : Unfollowed t listed out₀) (f : Following (ground_of t out₀ listed) (limit t) out₀ out) where
  alone : (i : ℕ) → i < listed → get_or s.told i looping ≡ record_at out i
  alone i h =
      let r = f.rows i (omega arith) h in
      let c = s.class i h in
      let told = row_told (ground_of t out₀ listed) (limit t) i (state_at out i) (omega arith) r in
      same c.1 (s.alone i h) told
    where
      same : {c : ObjcClass} {x y : Ancestry} → class_at t (node_at out₀ i) false ≡ value c → ancestry_of t (node_at out₀ i) ≡ value x
          → climb (up_in t) (limit t) (node_at out₀ i) 0 0 ≡ value y → x ≡ y
      same e p q =
          let k : ancestry_of t (node_at out₀ i) ≡ climb (up_in t) (limit t) (node_at out₀ i) 0 0 = unfold ancestry_of in rw e in
          inside (sym p ∙ k ∙ q)
        where
          inside : {x y : Ancestry} → value x ≡ value y → x ≡ y
          inside m = cc

  pub followed_records : finished_to out listed ≡ flat_map words_of s.told ++ drop (listed * 3) out₀
  followed_records =
      let room : listed * 3 ≤ length out = omega (arith, s.room, f.size) in
      let d = finished_to_lem out listed room in
      let all : (i : ℕ) → i < length s.told → Words (finished_to out listed) i (get_or s.told i looping)
      = λ i h. rw (alone i (omega (arith, s.size))) (d.done i (omega (arith, s.size))) in
      let front = rows_records (finished_to out listed) s.told (omega (arith, s.size, d.size)) all in
      sym (take-append-drop (listed * 3) (finished_to out listed))
      ∙ rw (finished_tail out listed listed (omega arith), f.tail, ← front, s.size)
