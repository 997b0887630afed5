-- The walk up from a row to the next class that has a row.
use Prim.Native.Nat.{ℕ, ◌+◌, ◌≤◌, ◌<◌}
use mathlib.Core.Path.{◌≡◌, refl, sym, ap, ◌∙◌}
use mathlib.Core.Bool.{true, false}
use mathlib.Core.List.{List}
use native.Mathlib.Omega.{arith}
use Rattle.reads.specs.Outcome.{value, absent, refused, Unrefused}
use Rattle.std.specs.Prelude.{Result, Ok, Err}
use Rattle.reads.specs.Answer.{missed, outcome}
use Rattle.reads.specs.declared.answer.Reason.{Reason}
use Rattle.reads.specs.declared.answer.Missing.{Missing}
use Rattle.reads.specs.declared.answer.Missing.TheVariants.{Absent, Refused}
use Rattle.pointers.specs.Tables.{Tables}
use Rattle.records.specs.declared.class.ObjcClass.{ObjcClass}
use Rattle.ancestry.specs.Chain.{above}
use Rattle.ancestry.specs.Ancestry.{super_at, up_in, limit}
use Rattle.ancestry.specs.Doubling.{node_at, ended_state, Ground, KnownRow}
use Rattle.ancestry.specs.Following.{ground_of}
use Rattle.ancestry.specs.Rebases.{chains_fall}
use Rattle.records.specs.Class.{class_at}
use Rattle.ancestry.specs.declared.doubling.State.{State}
use Rattle.ancestry.specs.declared.doubling.State.TheVariants as state
use Rattle.ancestry.proofs.Known.{class_of}
use Rattle.ancestry.proofs.Loops.{up_of, at_address}
use Rattle.ancestry.proofs.Meaning.{comes_back}
use Rattle.ancestry.proofs.Climbs.{Climbing, climbing_next}
use Rattle.ancestry.proofs.Rows.{far_endless, loops_endless, walk_listed}
use Rattle.ancestry.proofs.Falling.{super_falls}
use Rattle.reads.specs.declared.answer.Question.{Question}

number_refused : {A : Type 0} {k : Question} → Unrefused {A = A} (refused k) → ⊥
number_refused u = elim u [ ]

module _ (t : Tables) (out : List ℕ) (listed i : ℕ) (c : ObjcClass) (d : class_at t (node_at out i) false ≡ value c) where
  abbrev g : Ground
  g = ground_of t out listed

  abbrev a : ℕ
  a = node_at out i

  pub first_starts : Climbing t a c 0 c.address
  unfolding above
  first_starts =
      let same : a ≡ c.address = sym (class_of t a false c d).address in
      let start : above (up_in t) 0 a ≡ value c.address = ap value same in
      record { leads = start; decoded = at_address t a false c refl d; passed = 0; behind = omega arith; holds = start }

  pub first_far : (at : ObjcClass) (count held : ℕ) → Climbing t a at count held → limit t ≤ count → KnownRow g 1 i state.Looping
  first_far at count held w far = record { known = far_endless g i count at.address w.leads far }

  module _ (at : ObjcClass) (count held : ℕ) (w : Climbing t a at count held) where
    first_stops : {r : Reason} → super_at t at ≡ absent r → count < limit t → KnownRow g 1 i (ended_state count at.address)
    first_stops {r} e h =
        let s : up_in t at.address ≡ absent r = up_of t at.address at w.decoded ∙ rw e in
        record { known = (h, record { top = at.address; ends = record { leads = w.leads; why = r; stops = s }; last = refl }) }

    -- By what the code found above.
    module _ {r : Result ObjcClass Missing} (o : outcome r ≡ super_at t at) where
      pub first_ended : chains_fall t.rebases t.index ≡ true → {m : Missing} → r ≡ Err m → count < limit t → {s : State} → s ≡ ended_state count at.address → KnownRow g 1 i s
      first_ended falls {m} q h {s} n = go m (sym o ∙ ap outcome q)
        where
          go : (m : Missing) → super_at t at ≡ missed m → KnownRow g 1 i s
          go (Absent why) e = rw n (first_stops e h)
          go (Refused k) e = absurd (number_refused (rw e at (super_falls t falls at)))

      module _ {up : ObjcClass} (q : r ≡ Ok up) where
        v : Climbing t a up (count + 1) held
        v = climbing_next t a at count held w (sym o ∙ ap outcome q) refl

        pub first_listed : (row : ℕ) → row < listed → node_at out row ≡ up.address → count + 1 < limit t
            → KnownRow g 1 i (state.Followed (count + 1) row)
        first_listed row h n less = walk_listed g i (count + 1) row (omega arith) less h (v.leads ∙ ap value (sym n))

        pub first_back : up.address ≡ held → KnownRow g 1 i state.Looping
        first_back same =
            record { known = loops_endless g i (comes_back (up_in t) a w.passed (count + 1) held (omega (arith, w.behind)) w.holds (v.leads ∙ ap value same)) }
