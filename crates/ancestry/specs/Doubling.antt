-- The result buffer while the chains of all classes are followed together (note 9): three words for each class. The first is a count and
-- a mark, count * 4 + mark; the last is the class's address. Mark 0: the chain ended `count` classes up, at the address `place` (0 if the
-- count is 0). Mark 1: it loops. Mark 2: it was followed `count` classes up, to the class in row `place`.
use Rattle.std.specs.Prelude.{ℕ, zero, suc, ◌+◌, ◌*◌, ◌/◌, ◌%◌, ◌≤◌, ◌<◌, ◌≡◌, List, [], ◌∷◌, eqb, leb, ltb, length, get_or, set, drop}
use Rattle.reads.specs.Outcome.{Outcome, value, choose}
use Rattle.ancestry.specs.Chain.{above, Ends, last_at, ended, looping}
use Rattle.ancestry.specs.Ancestry.{row_of}
use Rattle.ancestry.specs.Filling.{put}
use Rattle.ancestry.specs.declared.class_chain.Ancestry.{Ancestry}
use Rattle.ancestry.specs.declared.doubling.State.{State}
use Rattle.ancestry.specs.declared.doubling.State.TheVariants as state

-- What the mark, the count and the place say. A mark of 3 is never written; a row with it stays as it is until the end, as one that loops.
abbrev pub state_of : ℕ → ℕ → ℕ → State
state_of zero count place = state.Ended count place
state_of (suc zero) count place = state.Looping
state_of (suc (suc zero)) count place = state.Followed count place
state_of (suc (suc (suc mark))) count place = state.Looping

abbrev pub count_of : State → ℕ
count_of (state.Ended count last) = count
count_of state.Looping = 0
count_of (state.Followed count row) = count

abbrev pub place_of : State → ℕ
place_of (state.Ended count last) = last
place_of state.Looping = 0
place_of (state.Followed count row) = row

abbrev pub mark_of : State → ℕ
mark_of (state.Ended count last) = 0
mark_of state.Looping = 1
mark_of (state.Followed count row) = 2

abbrev pub parts_of : State → List ℕ
parts_of s = count_of s ∷ place_of s ∷ mark_of s ∷ []

abbrev pub state_at : List ℕ → ℕ → State
state_at out i = state_of (get_or out (i * 3) 0 % 4) (get_or out (i * 3) 0 / 4) (get_or out (i * 3 + 1) 0)

abbrev pub node_at : List ℕ → ℕ → ℕ
node_at out i = get_or out (i * 3 + 2) 0

abbrev pub put_at : List ℕ → ℕ → State → List ℕ
put_at out i s = set (set out (i * 3) (count_of s * 4 + mark_of s)) (i * 3 + 1) (place_of s)

abbrev pub ended_state : ℕ → ℕ → State
ended_state count top = state.Ended count (last_at count 0 top)

-- A class followed `count` classes up to the one at `address` goes on from what is known of that one.
unfoldable pub joined_of : ℕ → ℕ → ℕ → State → State
joined_of limit count address state.Looping = state.Looping
joined_of limit count address (state.Ended more last) =
    choose (leb limit (count + more)) state.Looping (choose (eqb more 0) (state.Ended count address) (state.Ended (count + more) last))
joined_of limit count address (state.Followed more row) =
    choose (leb limit (count + more)) state.Looping (choose (eqb more 0) (state.Ended count address) (state.Followed (count + more) row))

-- A jump of the class in row i, of which this is known.
abbrev pub jumped_by : ℕ → ℕ → List ℕ → ℕ → State → List ℕ
jumped_by listed limit out i (state.Ended count last) = out
jumped_by listed limit out i state.Looping = out
jumped_by listed limit out i (state.Followed count row) =
    choose (ltb row listed) (put_at out i (joined_of limit count (node_at out row) (state_at out row))) out

unfoldable pub jumped_at : ℕ → ℕ → List ℕ → ℕ → List ℕ
jumped_at listed limit out i = jumped_by listed limit out i (state_at out i)

-- Jumps of the first i rows, in order.
unfoldable pub jumped_to : ℕ → ℕ → List ℕ → ℕ → List ℕ
jumped_to listed limit out zero = out
jumped_to listed limit out (suc i) = jumped_at listed limit (jumped_to listed limit out i) i

-- What a class is told of which this is known.
abbrev pub told_by : State → Ancestry
told_by (state.Ended count last) = ended count last
told_by state.Looping = looping
told_by (state.Followed count row) = looping

-- The record of the class in row i, once its chain is followed.
unfoldable pub finished_at : List ℕ → ℕ → List ℕ
finished_at out i = put out (i * 3) (row_of (told_by (state_at out i)))

unfoldable pub finished_to : List ℕ → ℕ → List ℕ
finished_to out zero = out
finished_to out (suc i) = finished_at (finished_to out i) i

-- What chains are followed over: the step up, the class of each row, a number of steps that is enough, and how many rows there are.
pub record Ground : Type 0 where
  pub up : ℕ → Outcome ℕ
  pub node : ℕ → ℕ
  pub limit : ℕ
  pub listed : ℕ

pub record Ended (g : Ground) (i count place : ℕ) : Type 0 where
  pub top : ℕ
  pub ends : Ends g.up (g.node i) count top
  pub last : place ≡ last_at count 0 top

pub record Endless (g : Ground) (i : ℕ) : Type 0 where
  pub top : ℕ
  pub leads : above g.up g.limit (g.node i) ≡ value top

pub record Followed (g : Ground) (reach i count place : ℕ) : Type 0 where
  pub leads : above g.up count (g.node i) ≡ value (g.node place)
  pub far : reach ≤ count
  pub row : place < g.listed

-- What is known of the class in row i, followed at least `reach` classes up.
abbrev pub Known : Ground → ℕ → ℕ → State → Type 0
Known g reach i (state.Ended count last) = (count < g.limit) × Ended g i count last
Known g reach i state.Looping = Endless g i
Known g reach i (state.Followed count row) = (count < g.limit) × Followed g reach i count row

pub record KnownRow (g : Ground) (reach i : ℕ) (s : State) : Type 0 where
  pub known : Known g reach i s

abbrev pub Rows : Ground → ℕ → ℕ → ℕ → List ℕ → Type 0
Rows g reach from to out = (i : ℕ) → from ≤ i → i < to → KnownRow g reach i (state_at out i)

-- The addresses stand in their rows.
abbrev pub Nodes : Ground → List ℕ → Type 0
Nodes g out = (i : ℕ) → i < g.listed → node_at out i ≡ g.node i

-- The rows of a buffer, and what is left of it as it was.
pub record Following (g : Ground) (reach : ℕ) (out₀ out : List ℕ) : Type 0 where
  pub rows : Rows g reach 0 g.listed out
  pub nodes : Nodes g out
  pub tail : drop (g.listed * 3) out ≡ drop (g.listed * 3) out₀
  pub size : length out ≡ length out₀
