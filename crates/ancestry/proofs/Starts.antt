-- Rows whose first step is known, one by one.
use Prim.Native.Nat.{ℕ, ◌+◌, ◌*◌, ◌^◌, ◌<◌}
use mathlib.Core.Path.{◌≡◌, ◌∙◌}
use mathlib.Core.Bool.{true}
use mathlib.Core.List.{List}
use native.Mathlib.Omega.{arith}
use lib.ListN.{length, drop}
use Rattle.ancestry.specs.Asked.{passes}
use Rattle.pointers.specs.Tables.{Tables}
use Rattle.pointers.specs.Question.{asked}
use Rattle.ancestry.specs.Doubling.{count_of, node_at, put_at, KnownRow, Rows}
use Rattle.ancestry.specs.Following.{ground_of, Ready, Unfollowed}
use Rattle.ancestry.specs.declared.doubling.State.{State}
use Rattle.ancestry.specs.declared.doubling.State.TheVariants as state
use Rattle.ancestry.proofs.Climbs.{limit_small}
use Rattle.ancestry.proofs.Rounds.{rows_more, put_node, drop_put, length_put_at}

-- The first i rows.
pub record Starting (t : Tables) (listed : ℕ) (out₀ : List ℕ) (i : ℕ) (out : List ℕ) : Type 0 where
  pub rows : Rows (ground_of t out₀ listed) 1 0 i out
  pub nodes : (j : ℕ) → node_at out j ≡ node_at out₀ j
  pub tail : drop (listed * 3) out ≡ drop (listed * 3) out₀
  pub size : length out ≡ length out₀

-- A row is told of the same classes by any buffer that has their addresses.
row_same : (t : Tables) (listed i : ℕ) (out out₀ : List ℕ) (s : State) → ((j : ℕ) → node_at out j ≡ node_at out₀ j)
    → KnownRow (ground_of t out listed) 1 i s → KnownRow (ground_of t out₀ listed) 1 i s
row_same t listed i out out₀ (state.Ended count last) same r =
    let e = r.known.1 in
    record { known = (r.known.0, record { top = e.top; ends = record { leads = rw (← same i) e.ends.leads; why = e.ends.why; stops = e.ends.stops }; last = e.last }) }
row_same t listed i out out₀ state.Looping same r = record { known = record { top = r.known.top; leads = rw (← same i) r.known.leads } }
row_same t listed i out out₀ (state.Followed count row) same r =
    let f = r.known.1 in record { known = (r.known.0, record { leads = rw (← same i, ← same row) f.leads; far = f.far; row = f.row }) }

module _ (t : Tables) (listed : ℕ) (out₀ : List ℕ) where
  pub starting_ready : Unfollowed t listed out₀ → (i : ℕ) (out : List ℕ)
      → Starting t listed out₀ i out → i < listed → Ready t out listed i
  starting_ready s i out w h =
      let c = s.class i h in
      record { row = h; class = c.0; decoded = rw (w.nodes i) c.1 }

  pub starting_small : passes (asked t) ≡ true → (i : ℕ) (out : List ℕ) (s : State) → KnownRow (ground_of t out listed) 1 i s → count_of s < 2 ^ 60
  starting_small passes i out (state.Ended count last) r = omega (arith, limit_small t passes, r.known.0)
  starting_small passes i out state.Looping r = omega arith
  starting_small passes i out (state.Followed count row) r = omega (arith, limit_small t passes, r.known.0)

  pub starting_more : Unfollowed t listed out₀ → (i : ℕ) (out : List ℕ) → Starting t listed out₀ i out → i < listed → (s : State)
      → KnownRow (ground_of t out listed) 1 i s → Starting t listed out₀ (i + 1) (put_at out i s)
  starting_more together i out w h s r =
      record {
        rows = rows_more (ground_of t out₀ listed) 1 i out s (omega (arith, together.room, w.size)) w.rows (row_same t listed i out out₀ s w.nodes r);
        nodes = λ j. put_node out i s j ∙ w.nodes j;
        tail = drop_put out i s listed h ∙ w.tail;
        size = length_put_at out i s ∙ w.size;
      }
