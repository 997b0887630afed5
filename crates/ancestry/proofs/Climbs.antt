-- A climb under way: where it has come to, and a class that it passed.
use Prim.Native.Nat.{ℕ, ◌+◌, ◌*◌, ◌^◌, ◌≤◌, ◌<◌}
use mathlib.Core.Path.{◌≡◌, refl, sym, ap, ◌∙◌}
use mathlib.Core.Bool.{true, false}
use native.Mathlib.Omega.{arith}
use native.Mathlib.Numerals.{add-one}
use native.Mathlib.Nat.{mul-le-mul}
use Rattle.std.specs.Prelude.{cond}
use Rattle.reads.specs.Outcome.{Outcome, value, absent, refused}
use Rattle.reads.specs.declared.answer.Question.{Question}
use Rattle.reads.specs.declared.answer.Reason.{Reason}
use Rattle.reads.specs.Table.{records}
use Rattle.reads.specs.Files.{longest}
use Rattle.reads.specs.Segment.{segment_words}
use Rattle.pointers.specs.Tables.{Tables}
use Rattle.pointers.specs.Question.{asked}
use Rattle.pointers.proofs.Rooms.{tables_room, asked_tables_lem}
use Rattle.records.specs.Class.{class_at}
use Rattle.records.specs.declared.class.ObjcClass.{ObjcClass}
use Rattle.ancestry.specs.Asked.{passes}
use Rattle.ancestry.specs.Chain.{above, ended, looping, last_at, climb}
use Rattle.ancestry.specs.Ancestry.{super_at, up_in, limit_of, limit}
use Rattle.ancestry.proofs.Chain.{above_more, climb_ends, climb_refused, climb_loops}
use Rattle.ancestry.proofs.Meaning.{comes_back, loops_told}
use Rattle.ancestry.proofs.Loops.{up_of, super_class}

-- From the class at `a` the climb has come to `at`, `count` classes up, and passed the class at `held` no later.
pub record Climbing (t : Tables) (a : ℕ) (at : ObjcClass) (count held : ℕ) : Type 0 where
  pub leads : above (up_in t) count a ≡ value at.address
  pub decoded : class_at t at.address false ≡ value at
  pub passed : ℕ
  pub behind : passed ≤ count
  pub holds : above (up_in t) passed a ≡ value held

module _ (t : Tables) where
  pub climbing_starts : (c : ObjcClass) → class_at t c.address false ≡ value c → Climbing t c.address c 0 c.address
  unfolding above
  climbing_starts c e = record { leads = refl; decoded = e; passed = 0; behind = omega arith; holds = refl }

  module _ (a : ℕ) (at : ObjcClass) (count held : ℕ) (w : Climbing t a at count held) where
    pub climbing_up : (up : ObjcClass) → super_at t at ≡ value up → Climbing t a up (count + 1) held
    climbing_up up e =
        let s : up_in t at.address ≡ value up.address = up_of t at.address at w.decoded ∙ rw e in
        record {
          leads = rw add-one (above_more (up_in t) count a at.address up.address w.leads s);
          decoded = super_class t at.address at up w.decoded e;
          passed = w.passed;
          behind = omega (arith, w.behind);
          holds = w.holds;
        }

    -- By what is above: a class, which may be held from there on; the class that was held; or none.
    module _ {up : ObjcClass} (e : super_at t at ≡ value up) where
      pub climbing_next : {kept : ℕ} → kept ≡ held → Climbing t a up (count + 1) kept
      climbing_next k = rw k (climbing_up up e)

      pub climbing_hold : {kept : ℕ} → kept ≡ up.address → Climbing t a up (count + 1) kept
      climbing_hold k = let v = climbing_up up e in rw k (record { leads = v.leads; decoded = v.decoded; passed = count + 1; behind = omega arith; holds = v.leads })

      pub climbing_back : up.address ≡ held → value looping ≡ climb (up_in t) (limit t) a 0 0
      climbing_back same =
          let v = climbing_up up e in
          let f : above (up_in t) (count + 1) a ≡ value held = v.leads ∙ ap value same in
          sym (loops_told (up_in t) (limit t) a (comes_back (up_in t) a w.passed (count + 1) held (omega (arith, w.behind)) w.holds f))

    pub climbing_ended : {why : Reason} → super_at t at ≡ absent why → count < limit t
        → value (ended count (last_at count 0 at.address)) ≡ climb (up_in t) (limit t) a 0 0
    climbing_ended {why} e h =
        let s : up_in t at.address ≡ absent why = up_of t at.address at w.decoded ∙ rw e in
        let nought : 0 + count ≡ count = omega arith in
        sym (rw nought at (climb_ends (up_in t) (limit t) count a 0 0 at.address w.leads s h))

    pub climbing_refused : {k : Question} → super_at t at ≡ refused k → count < limit t → refused k ≡ climb (up_in t) (limit t) a 0 0
    climbing_refused {k} e h =
        let s : up_in t at.address ≡ refused k = up_of t at.address at w.decoded ∙ rw e in
        sym (climb_refused (up_in t) (limit t) count a 0 0 at.address k w.leads s h)

    -- As many steps as can be.
    pub climbing_far : limit t ≤ count → count ≤ limit t → value looping ≡ climb (up_in t) (limit t) a 0 0
    climbing_far low high =
        let same : count ≡ limit t = omega arith in
        sym (climb_loops (up_in t) (limit t) a 0 0 at.address (rw same at w.leads))

-- The limit fits a word.
pub limit_fits : (x y : ℕ) → x ≤ 64 → y < 2 ^ 32 → x * y ≤ 64 * 4294967296
limit_fits x y h l = let m : y ≤ 4294967296 = omega arith in mul-le-mul h m

pub passed : (o : Outcome (Unit {0})) → passes o ≡ true → o ≡ value tt
passed (value u) e = refl
passed (absent why) e = let z : ◌≡◌ {A = ℕ} 0 1 = ap (λ b. cond b 1 0) e in absurd (omega arith)
passed (refused k) e = let z : ◌≡◌ {A = ℕ} 0 1 = ap (λ b. cond b 1 0) e in absurd (omega arith)

module _ (t : Tables) (yes : passes (asked t) ≡ true) where
  pub limit_room : (longest t.files < 2 ^ 32) × (records segment_words t.segments ≤ 64)
  limit_room = let room = tables_room t tt (asked_tables_lem t tt (passed (asked t) yes)) in (room.image_length, room.segment_count)

  pub limit_small : limit t ≤ 64 * 4294967296
  unfolding limit_of
  limit_small = limit_fits (records segment_words t.segments) (longest t.files) limit_room.1 limit_room.0
