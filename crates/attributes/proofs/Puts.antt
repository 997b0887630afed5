-- Bytes put into a buffer, and parts one behind another.
use Prim.Native.Nat.{ℕ, zero, suc, ◌+◌, ◌-◌, ◌≤◌, ◌<◌, ◌^◌, min}
use mathlib.Core.Path.{◌≡◌, refl, ap, sym, ◌∙◌}
use mathlib.Core.List.{List, [], ◌∷◌, ◌++◌, append_assoc, append-nil}
use native.Mathlib.Omega.{arith}
use lib.ListN.{length, length-append}
use borrow.Rule.Slice.PartMut.{put_mid, Post-is}
use lib.Seq.{sets-eq, sets, length-sets}
use Rattle.reads.proofs.Parts.{sets_append}
use Rattle.attributes.specs.Written.{Part, following, joined}
use Rattle.attributes.specs.Puts.{Put, comma_at, behind}

-- A part of a list written over.
pub part_put : (out bytes : List ℕ) (at to : ℕ) → to ≡ at + length bytes → to ≤ length out → {part : List ℕ} → part ≡ bytes
    → put_mid at (to - at) out part ≡ sets out at bytes
part_put out bytes at to e h p =
    rw (p, Post-is at to out (omega arith), e, ← append_assoc) (sym (sets-eq bytes out at (omega arith)))

-- Bytes at a place: where they do not fit, and where they do.
module _ {bytes : List ℕ} {at : ℕ} {out : List ℕ} {to : ℕ} (e : to ≡ min (at + length bytes) 0xFFFFFFFFFFFFFFFF) (b : at < 2 ^ 64) where
  pub put_not : length out < to → Put bytes at out to out
  put_not h = record { ends = omega arith; holds = λ f. absurd (omega arith); same = refl }

  pub put_there : to ≤ length out → length out < 2 ^ 63 → {part : List ℕ} → part ≡ bytes → Put bytes at out to (put_mid at (to - at) out part)
  put_there h small p =
      let w = part_put out bytes at to (omega arith) h p in
      record { ends = omega arith; holds = λ f. w; same = ap length w ∙ length-sets out at bytes }

pub put_nothing : (at : ℕ) (out : List ℕ) → Put [] at out at out
put_nothing at out = record { ends = omega arith; holds = λ f. refl; same = refl }

-- Bytes, and then others behind them.
pub put_then : {xs ys : List ℕ} {at mid to : ℕ} {out between left : List ℕ} → length out < 2 ^ 63
    → Put xs at out mid between → Put ys mid between to left → Put (xs ++ ys) at out to left
put_then {xs} {ys} {at} {mid} {to} {out} {between} {left} small p q =
    let size = length-append xs ys in
    let first = p.ends in
    let second = q.ends in
    let same = p.same in
    record {
      ends = omega arith;
      holds = λ f.
          let here : mid ≡ at + length xs = omega arith in
          q.holds (omega arith) ∙ rw (p.holds (omega arith), here) (sym (sets_append out xs ys at));
      same = q.same ∙ p.same;
    }

-- A comma in front of all but the first item.
pub no_comma : (at : ℕ) (out : List ℕ) → at ≡ 0 → Put (comma_at at) at out at out
no_comma zero out e = put_nothing 0 out
no_comma (suc at) out e = absurd (omega arith)

pub comma : (at : ℕ) → (at ≡ 0 → ⊥) → {out left : List ℕ} {to : ℕ} → Put (0x2C ∷ []) at out to left → Put (comma_at at) at out to left
comma zero h p = absurd (h refl)
comma (suc at) h p = p

-- The text of parts behind others.
following_append : (ps qs : List Part) → following (ps ++ qs) ≡ following ps ++ following qs
unfolding following
following_append [] qs = refl
following_append (p ∷ ps) qs = rw (following_append ps qs, append_assoc)

behind_more : (at : ℕ) (ps : List Part) → 0 < at → behind at ps ≡ following ps
behind_more zero ps h = absurd (omega arith)
behind_more (suc at) ps h = refl

pub behind_one : (at : ℕ) (p : Part) → behind at (p ∷ []) ≡ comma_at at ++ (p.key ∷ p.value)
unfolding joined following
behind_one zero p = rw append-nil
behind_one (suc at) p = rw append-nil

behind_none : (at : ℕ) → behind at [] ≡ []
unfolding joined following
behind_none zero = refl
behind_none (suc at) = refl

behind_append : (at to : ℕ) (ps qs : List Part) → to ≡ at + min (length (behind at ps)) (0xFFFFFFFFFFFFFFFF - at)
    → behind at (ps ++ qs) ≡ behind at ps ++ behind to qs
unfolding joined following
behind_append at to [] qs e =
    let same : at ≡ to = omega (arith, ap length (behind_none at)) in
    rw (behind_none at) (ap (λ (n : ℕ). behind n qs) same)
behind_append zero to (p ∷ ps) qs e = rw (behind_more to qs (omega arith), following_append ps qs, append_assoc p.value (following ps) (following qs))
behind_append (suc at) to (p ∷ ps) qs e = rw (behind_more to qs (omega arith), following_append ps qs, append_assoc p.value (following ps) (following qs))

pub put_parts : (ps qs : List Part) {at mid to : ℕ} {out between left : List ℕ} → length out < 2 ^ 63
    → Put (behind at ps) at out mid between → Put (behind mid qs) mid between to left → Put (behind at (ps ++ qs)) at out to left
put_parts ps qs {at} {mid} small p q = rw (behind_append at mid ps qs p.ends) (put_then small p q)

pub put_no_part : (at : ℕ) (out : List ℕ) → Put (behind at []) at out at out
put_no_part at out = rw (behind_none at) (put_nothing at out)
