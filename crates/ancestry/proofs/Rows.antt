-- The laws of following: what a row knows at first, what it knows after a jump, and what the last rows tell.
use Prim.Native.Nat.{ℕ, zero, suc, ◌+◌, ◌-◌, ◌*◌, ◌≤◌, ◌<◌}
use mathlib.Core.Path.{◌≡◌, sym, ap, ◌∙◌}
use native.Mathlib.Omega.{arith}
use borrow.Author.Tests.{leb-true, leb-false, eqb-true, eqb-false}
use Rattle.reads.specs.Outcome.{value}
use Rattle.reads.proofs.Tests.{by_choose}
use Rattle.ancestry.specs.Chain.{above, Loops, ended, last_at, climb}
use Rattle.ancestry.specs.Doubling.{Ground, Ended, Endless, Followed, KnownRow, joined_of, told_by}
use Rattle.ancestry.specs.declared.doubling.State.{State}
use Rattle.ancestry.specs.declared.doubling.State.TheVariants as state
use Rattle.ancestry.proofs.Chain.{last_some, above_then, above_before, Way, ends, refusing, goes, way, ends_halts, refused_halts, climb_ends, climb_loops}
use Rattle.ancestry.proofs.Meaning.{halts_not_loops}

module _ (g : Ground) where
  -- Followed as far as there are classes: it does not end.
  pub far_endless : (i k b : ℕ) → above g.up k (g.node i) ≡ value b → g.limit ≤ k → Endless g i
  far_endless i k b e h =
      let whole : g.limit + (k - g.limit) ≡ k = omega arith in
      let r = above_before g.up g.limit (k - g.limit) (g.node i) b (rw whole e) in
      record { top = r.0; leads = r.1 }

  -- A chain that loops goes on for any number of steps.
  pub loops_endless : (i : ℕ) → Loops g.up (g.node i) → Endless g i
  loops_endless i l = go (way g.up g.limit (g.node i))
    where
      go : Way g.up g.limit (g.node i) → Endless g i
      go (ends k top h w) = absurd (halts_not_loops g.up k (g.node i) top (ends_halts g.up w) l)
      go (refusing k top j h e r) = absurd (halts_not_loops g.up k (g.node i) top (refused_halts g.up e r) l)
      go (goes b e) = record { top = b; leads = e }

  -- What a class knows after a walk up from it to one that has a row.
  pub walk_listed : (i count j : ℕ) → 0 < count → count < g.limit → j < g.listed → above g.up count (g.node i) ≡ value (g.node j)
      → KnownRow g 1 i (state.Followed count j)
  walk_listed i count j some-count fewer row leads = record { known = (fewer, record { leads = leads; far = some-count; row = row }) }

  pub row_less : (less reach i : ℕ) (s : State) → less ≤ reach → KnownRow g reach i s → KnownRow g less i s
  row_less less reach i (state.Ended count last) h r = record { known = r.known }
  row_less less reach i state.Looping h r = record { known = r.known }
  row_less less reach i (state.Followed count row) h r =
      let f = r.known.1 in record { known = (r.known.0, record { leads = f.leads; far = omega (arith, f.far); row = f.row }) }

  last_joined : (count more last place : ℕ) → 0 < more → place ≡ last_at more 0 last → place ≡ last_at (count + more) 0 last
  last_joined count zero last place h e = absurd (omega arith)
  last_joined count (suc more) last place h e = let whole : count + suc more ≡ suc (count + more) = omega arith in rw whole e

  -- A class followed to another, which is not known to loop, goes on from what is known of that one.
  module _ (reach i count place : ℕ) (some-reach : 0 < reach) (fewer : count < g.limit) (f : Followed g reach i count place) where
    abbrev Joined : State → Type 0
    Joined s = KnownRow g (reach * 2) i s

    joined_endless : Endless g place → Joined state.Looping
    joined_endless e = record {
      known = far_endless i (count + g.limit) e.top (above_then g.up count g.limit (g.node i) (g.node place) f.leads ∙ e.leads) (omega arith);
    }

    joined_far : (more b : ℕ) → above g.up more (g.node place) ≡ value b → g.limit ≤ count + more → Joined state.Looping
    joined_far more b e far = record { known = far_endless i (count + more) b (above_then g.up count more (g.node i) (g.node place) f.leads ∙ e) far }

    top_there : (more top : ℕ) → more ≡ 0 → above g.up more (g.node place) ≡ value top → g.node place ≡ top
    unfolding above
    top_there more top z e = let f : value (g.node place) ≡ value top = rw z at e in cc

    module _ (more last : ℕ) (e : Ended g place more last) where
      joined_top : more ≡ 0 → Joined (state.Ended count (g.node place))
      joined_top nought = record {
        known = (
          fewer,
          record {
            top = g.node place;
            ends = record { leads = f.leads; why = e.ends.why; stops = rw (top_there more e.top nought e.ends.leads) e.ends.stops };
            last = sym (last_some count (g.node place) (λ z. absurd (omega (arith, f.far))));
          },
        );
      }

      joined_ended : (more ≡ 0 → ⊥) → count + more < g.limit → Joined (state.Ended (count + more) last)
      joined_ended some_more near = record {
        known = (
          near,
          record {
            top = e.top;
            ends = record { leads = above_then g.up count more (g.node i) (g.node place) f.leads ∙ e.ends.leads; why = e.ends.why; stops = e.ends.stops };
            last = last_joined count more e.top last (omega arith) e.last;
          },
        );
      }

    joined_followed : (more row : ℕ) → Followed g reach place more row → count + more < g.limit → Joined (state.Followed (count + more) row)
    joined_followed more row r near = record {
      known = (near, record { leads = above_then g.up count more (g.node i) (g.node place) f.leads ∙ r.leads; far = omega (arith, f.far, r.far); row = r.row });
    }

    -- It is then followed at least twice as far.
    pub row_joined : (next : State) → KnownRow g reach place next → Joined (joined_of g.limit count (g.node place) next)
    unfolding joined_of
    row_joined state.Looping r = joined_endless r.known
    row_joined (state.Ended more last) r =
        let e = r.known.1 in
        by_choose Joined (λ far. joined_far more e.top e.ends.leads (leb-true g.limit (count + more) far))
        (λ near.
        by_choose Joined (λ nought. joined_top more last e (eqb-true more 0 nought))
        (λ some. joined_ended more last e (eqb-false more 0 some) (leb-false g.limit (count + more) near)))
    row_joined (state.Followed more row) r =
        let e = r.known.1 in
        by_choose Joined (λ far. joined_far more (g.node row) e.leads (leb-true g.limit (count + more) far))
        (λ near.
        by_choose Joined (λ nought. absurd (omega (arith, eqb-true more 0 nought, e.far)))
        (λ some. joined_followed more row e (leb-false g.limit (count + more) near)))

  -- Followed as far as can be, a row tells what the class alone is told.
  pub row_told : (reach i : ℕ) (s : State) → g.limit ≤ reach → KnownRow g reach i s → climb g.up g.limit (g.node i) 0 0 ≡ value (told_by s)
  row_told reach i (state.Ended count last) far r =
      let e = r.known.1 in
      let nought : 0 + count ≡ count = omega arith in
      rw nought at (climb_ends g.up g.limit count (g.node i) 0 0 e.top e.ends.leads e.ends.stops r.known.0) ∙ ap (λ l. value (ended count l)) (sym e.last)
  row_told reach i state.Looping far r = climb_loops g.up g.limit (g.node i) 0 0 r.known.top r.known.leads
  row_told reach i (state.Followed count row) far r = absurd (omega (arith, r.known.0, r.known.1.far))
