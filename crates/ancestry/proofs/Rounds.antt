-- What writing a row changes, what a round of jumps comes to, and that followed rows hold the records.
use Prim.Native.Nat.{ℕ, zero, suc, ◌+◌, ◌*◌, ◌/◌, ◌%◌, ◌≤◌, ◌<◌}
use mathlib.Core.Path.{◌≡◌, refl, sym, ap, ◌∙◌}
use mathlib.Core.Bool.{true, false}
use mathlib.Core.List.{List}
use native.Mathlib.Omega.{arith}
use native.Mathlib.Numerals.{add-one}
use native.Mathlib.Decide.{ℕ_discrete, dec_lt}
use lib.ListN.{length, get_or, set, drop, length-set}
use lib.Seq.{get_or-set_same, get_or-set_other, drop-set-lt}
use borrow.Author.Tests.{lt-ltb, le-ltb, leb-false}
use Rattle.reads.proofs.Tests.{by_choose, choose_true, choose_false}
use Rattle.ancestry.specs.Doubling.{state_of, count_of, place_of, mark_of, state_at, node_at, put_at, joined_of, jumped_by, jumped_at, jumped_to, told_by, finished_at, finished_to, Ground, Followed, KnownRow, Rows, Nodes, Following}
use Rattle.ancestry.specs.Ancestry.{row_of}
use Rattle.ancestry.specs.declared.doubling.State.{State}
use Rattle.ancestry.specs.declared.doubling.State.TheVariants as state
use Rattle.ancestry.proofs.Fillings.{length_put}
use Rattle.ancestry.proofs.Rows.{row_less, row_joined}

mark_small : (s : State) → mark_of s ≤ 2
mark_small (state.Ended count last) = omega arith
mark_small state.Looping = omega arith
mark_small (state.Followed count row) = omega arith

again : (s : State) → state_of (mark_of s) (count_of s) (place_of s) ≡ s
again (state.Ended count last) = refl
again state.Looping = refl
again (state.Followed count row) = refl

module _ (out : List ℕ) (i : ℕ) (s : State) where
  pub length_put_at : length (put_at out i s) ≡ length out
  length_put_at = simp length-set

  pub drop_put : (n : ℕ) → i < n → drop (n * 3) (put_at out i s) ≡ drop (n * 3) out
  drop_put n h =
      drop-set-lt (n * 3) (set out (i * 3) (count_of s * 4 + mark_of s)) (i * 3 + 1) (place_of s) (omega arith)
      ∙ drop-set-lt (n * 3) out (i * 3) (count_of s * 4 + mark_of s) (omega arith)

  put_word : (k : ℕ) → (k ≡ i * 3 → ⊥) → (k ≡ i * 3 + 1 → ⊥) → get_or (put_at out i s) k 0 ≡ get_or out k 0
  put_word k a b =
      get_or-set_other (set out (i * 3) (count_of s * 4 + mark_of s)) (i * 3 + 1) k (place_of s) 0 b
      ∙ get_or-set_other out (i * 3) k (count_of s * 4 + mark_of s) 0 a

  pub put_other : (j : ℕ) → (j ≡ i → ⊥) → state_at (put_at out i s) j ≡ state_at out j
  put_other j n =
      rw (put_word (j * 3) (λ e. omega arith) (λ e. omega arith), put_word (j * 3 + 1) (λ e. omega arith) (λ e. omega arith))

  pub put_node : (j : ℕ) → node_at (put_at out i s) j ≡ node_at out j
  put_node j = put_word (j * 3 + 2) (λ e. omega arith) (λ e. omega arith)

  module _ (room : i * 3 + 2 < length out) where
    first_put : get_or (put_at out i s) (i * 3) 0 ≡ count_of s * 4 + mark_of s
    first_put =
        get_or-set_other (set out (i * 3) (count_of s * 4 + mark_of s)) (i * 3 + 1) (i * 3) (place_of s) 0 (omega arith)
        ∙ get_or-set_same out (i * 3) (count_of s * 4 + mark_of s) 0 (omega arith)

    place_put : get_or (put_at out i s) (i * 3 + 1) 0 ≡ place_of s
    place_put = get_or-set_same (set out (i * 3) (count_of s * 4 + mark_of s)) (i * 3 + 1) (place_of s) 0 (simp length-set (omega arith))

    pub put_same : state_at (put_at out i s) i ≡ s
    put_same =
        let count : (count_of s * 4 + mark_of s) / 4 ≡ count_of s = omega (arith, mark_small s) in
        let mark : (count_of s * 4 + mark_of s) % 4 ≡ mark_of s = omega (arith, mark_small s) in
        rw (first_put, place_put, count, mark) (again s)

module _ (g : Ground) where
  -- A row written beside rows that are not touched.
  pub rows_put : (reach from to i : ℕ) (out : List ℕ) (s : State) → i * 3 + 2 < length out
      → ((j : ℕ) → from ≤ j → j < to → (j ≡ i → ⊥) → KnownRow g reach j (state_at out j)) → KnownRow g reach i s
      → Rows g reach from to (put_at out i s)
  rows_put reach from to i out s room others r j low high =
      elim (ℕ_discrete j i) [
        | yes same ↦ rw (same, put_same out i s room) r
        | no different ↦ rw (put_other out i s j different) (others j low high different)
      ]

  pub rows_more : (reach i : ℕ) (out : List ℕ) (s : State) → i * 3 + 2 < length out → Rows g reach 0 i out → KnownRow g reach i s
      → Rows g reach 0 (i + 1) (put_at out i s)
  rows_more reach i out s room rows r =
      rows_put reach 0 (i + 1) i out s room (λ j low high different. rows j low (omega arith)) r

  -- A round of jumps up to row i.
  pub record Halfway (reach i : ℕ) (out : List ℕ) : Type 0 where
    pub done : Rows g (reach * 2) 0 i out
    pub left : Rows g reach i g.listed out

  all_rows : (reach i : ℕ) (out : List ℕ) → Halfway reach i out → Rows g reach 0 g.listed out
  all_rows reach i out h j low high =
      elim (dec_lt j i) [
        | yes less ↦ row_less g reach (reach * 2) j (state_at out j) (omega arith) (h.done j low less)
        | no more ↦ h.left j (omega arith) high
      ]

  -- A jump of row i takes the round one row further.
  module _ (reach i : ℕ) (out : List ℕ) (some-reach : 0 < reach) (row : i < g.listed) (room : g.listed * 3 ≤ length out) (nodes : Nodes g out)
      (h : Halfway reach i out) where
    stays : KnownRow g (reach * 2) i (state_at out i) → Halfway reach (i + 1) out
    stays r =
        record {
          done = λ j low high.
              elim (ℕ_discrete j i) [
                | yes same ↦ rw same r
                | no different ↦ h.done j low (omega arith)
              ];
          left = λ j low high. h.left j (omega arith) high;
        }

    module _ (count place : ℕ) (fewer : count < g.limit) (f : Followed g reach i count place) where
      abbrev new : State
      new = joined_of g.limit count (node_at out place) (state_at out place)

      jumps : Halfway reach (i + 1) (put_at out i new)
      jumps =
          let next = all_rows reach i out h place (omega arith) f.row in
          let r : KnownRow g (reach * 2) i new = rw (nodes place f.row) (row_joined g reach i count place some-reach fewer f (state_at out place) next) in
          record {
            done = rows_put (reach * 2) 0 (i + 1) i out new (omega arith) (λ j low high different. h.done j low (omega arith)) r;
            left =
                rows_put reach (i + 1) g.listed i out new (omega arith) (λ j low high different. h.left j (omega arith) high)
                (row_less g reach (reach * 2) i new (omega arith) r);
          }

    pub jumped_halfway : Halfway reach (i + 1) (jumped_at g.listed g.limit out i)
    unfolding jumped_at
    jumped_halfway = go (state_at out i) (h.left i (omega arith) row) stays
      where
        go : (s : State) → KnownRow g reach i s → (KnownRow g (reach * 2) i s → Halfway reach (i + 1) out) → Halfway reach (i + 1) (jumped_by g.listed g.limit out i s)
        go (state.Ended count last) r f = f (record { known = r.known })
        go state.Looping r f = f (record { known = r.known })
        go (state.Followed count place) r f =
            by_choose (Halfway reach (i + 1)) (λ b. jumps count place r.known.0 r.known.1)
            (λ b. let z : true ≡ false = sym (lt-ltb place g.listed r.known.1.row) ∙ b in let y : ◌≡◌ {A = ℕ} 0 1 = cc in absurd (omega arith))

-- What a jump leaves as it was.
module _ (listed limit : ℕ) (out : List ℕ) (i : ℕ) where
  -- What holds of the buffer with a row put, whatever is put, and of the buffer as it was.
  either : (P : List ℕ → Type 0) → ((s : State) → P (put_at out i s)) → P out → P (jumped_at listed limit out i)
  unfolding jumped_at
  either P f h = go (state_at out i)
    where
      go : (s : State) → P (jumped_by listed limit out i s)
      go (state.Ended count last) = h
      go state.Looping = h
      go (state.Followed count row) = by_choose P (λ b. f (joined_of limit count (node_at out row) (state_at out row))) (λ b. h)

  pub length_jumped : length (jumped_at listed limit out i) ≡ length out
  length_jumped = either (λ o. length o ≡ length out) (λ s. simp length-set) refl

  drop_jumped : (n : ℕ) → i < n → drop (n * 3) (jumped_at listed limit out i) ≡ drop (n * 3) out
  drop_jumped n h = either (λ o. drop (n * 3) o ≡ drop (n * 3) out) (λ s. drop_put out i s n h) refl

  node_jumped : (j : ℕ) → node_at (jumped_at listed limit out i) j ≡ node_at out j
  node_jumped j = either (λ o. node_at o j ≡ node_at out j) (λ s. put_node out i s j) refl

-- A whole round.
module _ (g : Ground) (reach : ℕ) (some-reach : 0 < reach) (out₀ out : List ℕ) (room : g.listed * 3 ≤ length out) (f : Following g reach out₀ out) where
  pub record Round (i : ℕ) (now : List ℕ) : Type 0 where
    pub half : Halfway g reach i now
    pub nodes : Nodes g now
    pub tail : drop (g.listed * 3) now ≡ drop (g.listed * 3) out
    pub size : length now ≡ length out

  round_more : (i : ℕ) → i < g.listed → (now : List ℕ) → Round i now → Round (i + 1) (jumped_at g.listed g.limit now i)
  round_more i h now r =
      record {
        half = jumped_halfway g reach i now some-reach h (rw r.size room) r.nodes r.half;
        nodes = λ j u. node_jumped g.listed g.limit now i j ∙ r.nodes j u;
        tail = drop_jumped g.listed g.limit now i g.listed h ∙ r.tail;
        size = length_jumped g.listed g.limit now i ∙ r.size;
      }

  round_none : Round 0 out
  round_none =
      record {
        half = record { done = λ j low high. absurd (omega arith); left = λ j low high. f.rows j low high };
        nodes = f.nodes;
        tail = refl;
        size = refl;
      }

  one_more : (i : ℕ) (now : List ℕ) → Round (i + 1) now → Round (suc i) now
  one_more i now r = rw add-one at r

  round_to : (i : ℕ) → i ≤ g.listed → Round i (jumped_to g.listed g.limit out i)
  unfolding jumped_to
  round_to zero h = round_none
  round_to (suc i) h = one_more i _ (round_more i h _ (round_to i (omega arith)))

  -- Every chain is followed at least twice as far.
  pub round_follows : Following g (reach * 2) out₀ (jumped_to g.listed g.limit out g.listed)
  round_follows =
      let r = round_to g.listed (omega arith) in
      record { rows = r.half.done; nodes = r.nodes; tail = r.tail ∙ f.tail; size = r.size ∙ f.size }

-- The same, as the code has it.
pub round_by : (g : Ground) (limit listed reach : ℕ) (base out new : List ℕ) → 0 < reach → listed * 3 ≤ length out → g.limit ≡ limit → g.listed ≡ listed
    → new ≡ jumped_to listed limit out listed → Following g reach base out → Following g (reach * 2) base new
round_by g limit listed reach base out new some-reach room e f n w =
    let r : g.listed * 3 ≤ length out = rw f room in
    let v = round_follows g reach some-reach base out r w in
    rw (n, ← e, ← f) v

module _ (listed limit : ℕ) (out : List ℕ) where
  pub jumped_more : (i : ℕ) → jumped_to listed limit out (i + 1) ≡ jumped_at listed limit (jumped_to listed limit out i) i
  jumped_more i = rw add-one (unfold jumped_to in refl)

  pub jumped_none : jumped_to listed limit out 0 ≡ out
  unfolding jumped_to
  jumped_none = refl

  module _ (i : ℕ) {s : State} (e : s ≡ state_at out i) where
    pub jump_stays : ((count row : ℕ) → s ≡ state.Followed count row → ⊥) → out ≡ jumped_at listed limit out i
    unfolding jumped_at
    jump_stays n = rw (← e) (go s n)
      where
        go : (s : State) → ((count row : ℕ) → s ≡ state.Followed count row → ⊥) → out ≡ jumped_by listed limit out i s
        go (state.Ended count last) n = refl
        go state.Looping n = refl
        go (state.Followed count row) n = absurd (n count row refl)

    module _ {count row : ℕ} (q : s ≡ state.Followed count row) where
      pub jump_past : listed ≤ row → out ≡ jumped_at listed limit out i
      unfolding jumped_at
      jump_past h = rw (← e, q) (sym (choose_false _ _ (le-ltb row listed h)))

      pub jump_puts : (next new : State) → row < listed → next ≡ state_at out row → new ≡ joined_of limit count (node_at out row) next
          → put_at out i new ≡ jumped_at listed limit out i
      unfolding jumped_at
      jump_puts next new h f j =
          rw (← e, q) (ap (put_at out i) (j ∙ ap (joined_of limit count (node_at out row)) f) ∙ sym (choose_true _ _ (lt-ltb row listed h)))

-- The counts fit.
pub state_small : (out : List ℕ) (i : ℕ) {s : State} → s ≡ state_at out i → count_of s ≤ get_or out (i * 3) 0 / 4
state_small out i {s} e = rw e (go (get_or out (i * 3) 0 % 4))
  where
    go : (m : ℕ) → count_of (state_of m (get_or out (i * 3) 0 / 4) (get_or out (i * 3 + 1) 0)) ≤ get_or out (i * 3) 0 / 4
    go zero = omega arith
    go (suc zero) = omega arith
    go (suc (suc zero)) = omega arith
    go (suc (suc (suc m))) = omega arith

pub joined_small : (limit count address : ℕ) (next : State) → count_of (joined_of limit count address next) ≤ limit
unfolding joined_of
joined_small limit count address state.Looping = omega arith
joined_small limit count address (state.Ended more last) =
    by_choose (λ (s : State). count_of s ≤ limit) (λ a. omega arith)
    (λ b. by_choose (λ (s : State). count_of s ≤ limit) (λ d. omega (arith, leb-false limit (count + more) b))
    (λ d. omega (arith, leb-false limit (count + more) b)))
joined_small limit count address (state.Followed more row) =
    by_choose (λ (s : State). count_of s ≤ limit) (λ a. omega arith)
    (λ b. by_choose (λ (s : State). count_of s ≤ limit) (λ d. omega (arith, leb-false limit (count + more) b))
    (λ d. omega (arith, leb-false limit (count + more) b)))

-- Finished rows, one more.
pub finished_more : (out : List ℕ) (i : ℕ) → finished_to out (i + 1) ≡ finished_at (finished_to out i) i
finished_more out i = rw add-one (unfold finished_to in refl)

pub finished_none : (out : List ℕ) → finished_to out 0 ≡ out
unfolding finished_to
finished_none out = refl

pub length_finished : (out : List ℕ) (i : ℕ) → length (finished_at out i) ≡ length out
unfolding finished_at
length_finished out i = length_put out (i * 3) (row_of (told_by (state_at out i)))
