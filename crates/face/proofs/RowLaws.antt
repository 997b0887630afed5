-- Laws of the rows of a call.
use Prim.Native.Nat.{ℕ, zero, suc, ◌+◌, ◌*◌, ◌-◌, ◌^◌, ◌<◌}
use mathlib.Core.Bool.{Bool, true, false}
use mathlib.Core.Path.{◌≡◌, refl}
use mathlib.Core.List.{List}
use native.Mathlib.Omega.{arith}
use native.Mathlib.Numerals.{add-one}
use lib.Dec.{ltb}
use lib.Seq.{sets}
use Rattle.reads.specs.Outcome.{value, refused, choose}
use Rattle.pointers.specs.Tables.{Tables}
use Rattle.pointers.specs.Question.{asked}
use Rattle.records.specs.declared.list.ListKind.{ListKind}
use Rattle.walks.specs.Handed.{unless_refused}
use Rattle.walks.specs.Walk.{next_under, next_of}
use Rattle.walks.specs.ProtocolNames.{next_name_under, next_name}
use Rattle.face.specs.Status.{says_more}
use Rattle.face.specs.Rows.{listed, refused_turn, list_turn, name_turn, turn_by, list_over, names_over, turn_over, row_turn, filled, row_or, gather}
use Rattle.face.specs.declared.status.Status.{Status}
use Rattle.face.specs.declared.rows.Listed.{Listed}
use Rattle.face.specs.declared.rows.Listed.TheVariants.{Rows, Names}
use Rattle.std.specs.Prelude.{Option, Some, None, Result, Ok, Err}
use Rattle.face.specs.declared.rows.RowWalk.{RowWalk}
use Rattle.face.specs.declared.rows.RowTurn.{RowTurn}
use Rattle.reads.specs.declared.answer.Question.{Question}
use Rattle.reads.specs.declared.answer.Question.TheVariants.{WalkState}

-- A step, by what is listed.
module _ (t : Tables) (w : RowWalk) where
  pub turn_listed : (k : ListKind) → listed w.kind ≡ Some (Rows k)
      → choose (ltb w.cursor (2 ^ 32)) (list_turn (list_over t) w k) (refused_turn w WalkState) ≡ turn_over t w
  unfolding turn_over
  turn_listed k e = rw e

  pub turn_names : listed w.kind ≡ Some Names → name_turn (names_over t) w ≡ turn_over t w
  unfolding turn_over
  turn_names e = rw e

  pub turn_nothing : listed w.kind ≡ None → refused_turn w WalkState ≡ turn_over t w
  unfolding turn_over
  turn_nothing e = rw e

-- Where the questions say yes, a step that asks them is one that does not.
module _ (t : Tables) (e : asked t ≡ value tt) (w : RowWalk) where
  asked_by : (l : Option Listed) → turn_by (list_over t) (names_over t) (refused_turn w WalkState) w l
      ≡ turn_by (next_of t) (next_name t) (unless_refused (asked t) (refused_turn w) (refused_turn w WalkState)) w l
  unfolding next_under next_name_under
  asked_by (Some (Rows k)) = rw e
  asked_by (Some Names) = rw e
  asked_by None = rw e

  pub asked_turn : turn_over t w ≡ row_turn t w
  unfolding turn_over row_turn
  asked_turn = asked_by (listed w.kind)

-- Where one says no, so does the step.
module _ (t : Tables) {j : Question} (e : asked t ≡ refused j) (w : RowWalk) where
  either : (b : Bool) → refused_turn w j ≡ choose b (refused_turn w j) (refused_turn w j)
  unfolding choose
  either true = refl
  either false = refl

  refused_by : (l : Option Listed) → refused_turn w j ≡ turn_by (next_of t) (next_name t) (unless_refused (asked t) (refused_turn w) (refused_turn w WalkState)) w l
  unfolding next_under next_name_under
  refused_by (Some (Rows k)) = rw e (either (ltb w.cursor (2 ^ 32)))
  refused_by (Some Names) = rw e
  refused_by None = rw e

  pub refused_turn_lem : refused_turn w j ≡ row_turn t w
  unfolding row_turn
  refused_turn_lem = refused_by (listed w.kind)

row_or_same : {A : Type 0} {f g : List ℕ → A} (e : Status → A) → ((ws : List ℕ) → f ws ≡ g ws) → (x : Result (List ℕ) Status) → row_or f e x ≡ row_or g e x
row_or_same e p (Ok ws) = p ws
row_or_same e p (Err s) = refl

-- The steps of a call by another form of the step.
pub gather_same : {f g : RowWalk → RowTurn} → ((w : RowWalk) → f w ≡ g w) → (k : ℕ) (w : RowWalk) (n : ℕ) (table : List ℕ) → gather f k w n table ≡ gather g k w n table
unfolding gather
gather_same h zero w n table = refl
gather_same {f} {g} h (suc k) w n table =
    rw (h w) (row_or_same (λ s. filled s n (g w).walk table) (λ ws. gather_same h k (g w).walk (suc n) (sets table (15 * n) ws)) (g w).said)

module _ (turn : RowWalk → RowTurn) where
  pub gather_start : (room : ℕ) (w : RowWalk) (table : List ℕ) → gather turn (room - 0) w 0 table ≡ gather turn room w 0 table
  gather_start room w table = let e : room - 0 ≡ room = omega arith in rw e

  module _ (w : RowWalk) (n : ℕ) (table : List ℕ) where
    pub gather_none : {k : ℕ} → k ≡ 0 → filled says_more n w table ≡ gather turn k w n table
    unfolding gather
    gather_none e = rw e

    pub gather_all : {room : ℕ} → n ≡ room → filled says_more room w table ≡ gather turn (room - n) w n table
    gather_all e = rw (← e) (gather_none (omega arith))

    module _ (x : RowTurn) (e : x ≡ turn w) where
      pub gather_first : {s : Status} → x.said ≡ Err s → (k : ℕ) → (k ≡ 0 → ⊥) → filled s n x.walk table ≡ gather turn k w n table
      unfolding gather
      gather_first b zero h = absurd (h refl)
      gather_first b (suc k) h = rw (← e, b)

      module _ {room : ℕ} (h : n < room) where
        pub gather_ends : {s : Status} → x.said ≡ Err s → filled s n x.walk table ≡ gather turn (room - n) w n table
        gather_ends b = gather_first b (room - n) (λ z. omega (arith, z))

        pub gather_on : {ws : List ℕ} → x.said ≡ Ok ws
            → gather turn (room - (n + 1)) x.walk (n + 1) (sets table (15 * n) ws) ≡ gather turn (room - n) w n table
        unfolding gather
        gather_on b =
            let s : room - n ≡ suc (room - (n + 1)) = omega arith in
            rw (s, ← e, b, add-one)
