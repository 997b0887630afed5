-- The load commands, by the tests that the code makes.
use Prim.Native.Nat.{ℕ, zero, suc, ◌+◌, ◌-◌, ◌*◌, ◌≤◌, ◌<◌}
use mathlib.Core.Path.{◌≡◌, refl, ◌∙◌, ap, subst}
use mathlib.Core.Bool.{Bool, true, false, ◌&&◌}
use mathlib.Core.List.{List, [], ◌∷◌, ◌++◌}
use native.Mathlib.Omega.{arith}
use lib.Dec.{eqb, leb}
use lib.ListN.{length}
use borrow.Author.Tests.{lt-leb, leb-true, eq-eqb, ne_eqb, eqb-true}
use Rattle.reads.specs.Outcome.{choose}
use Rattle.reads.proofs.Tests.{both_true, choose_true, choose_false}
use Rattle.macho.specs.Loader.{cmd, cmdsize, nsects}
use Rattle.macho.specs.Commands.{sectioned, fits, all_fit, of_kind}

-- One command.
module _ (cmds : List ℕ) (a : ℕ) where
  pub fits_short : length cmds < a + 8 → false ≡ fits cmds a
  unfolding fits
  fits_short h = simp (lt-leb (a + 8) (length cmds) h)

-- What a command that fits has room for.
pub record Room (cmds : List ℕ) (a : ℕ) : Type 0 where
  pub least : 8 ≤ cmdsize cmds a
  pub all : a + cmdsize cmds a ≤ length cmds
  pub sections : cmd cmds a ≡ 0x19 → 72 + 80 * nsects cmds a ≤ cmdsize cmds a

sections_in : (cmds : List ℕ) (a : ℕ) → sectioned cmds a ≡ true → cmd cmds a ≡ 0x19 → 72 + 80 * nsects cmds a ≤ cmdsize cmds a
unfolding sectioned choose
sections_in cmds a s e = leb-true (72 + 80 * nsects cmds a) (cmdsize cmds a) (simp (eq-eqb (cmd cmds a) 0x19 e) at s)

pub room : (cmds : List ℕ) (a : ℕ) → fits cmds a ≡ true → Room cmds a
unfolding fits
room cmds a e =
    let p = both_true (leb (a + 8) (length cmds)) (leb 8 (cmdsize cmds a) && (leb (a + cmdsize cmds a) (length cmds) && sectioned cmds a)) e in
    let q = both_true (leb 8 (cmdsize cmds a)) (leb (a + cmdsize cmds a) (length cmds) && sectioned cmds a) p.1 in
    let r = both_true (leb (a + cmdsize cmds a) (length cmds)) (sectioned cmds a) q.1 in
    record {
      least = leb-true 8 (cmdsize cmds a) q.0;
      all = leb-true (a + cmdsize cmds a) (length cmds) r.0;
      sections = sections_in cmds a r.1;
    }

-- All commands, from the k that are left.
pub all_end : (cmds : List ℕ) (k a : ℕ) → k ≤ 0 → true ≡ all_fit cmds k a
unfolding all_fit
all_end cmds k a h = let e : k ≡ 0 = omega arith in rw e

module _ (cmds : List ℕ) (k a : ℕ) (h : 0 < k) where
  all_more : all_fit cmds k a ≡ (fits cmds a && all_fit cmds (k - 1) (a + cmdsize cmds a))
  unfolding all_fit
  all_more = let e : k ≡ suc (k - 1) = omega arith in ap (λ n. all_fit cmds n a) e

  pub all_not : fits cmds a ≡ false → false ≡ all_fit cmds k a
  all_not e = rw (all_more, e)

  pub all_on : (n : ℕ) → fits cmds a ≡ true → n ≡ cmdsize cmds a → all_fit cmds k a ≡ all_fit cmds (k - 1) (a + n)
  all_on n e g = rw (all_more, e, g)

-- The commands of a kind from a on, by the first of the k that are left.
module _ (kind : ℕ) (cmds : List ℕ) (k a : ℕ) where
  pub kinds_none : fits cmds a ≡ false → of_kind kind cmds k a ≡ []
  unfolding of_kind
  kinds_none e = none k
    where
      none : (n : ℕ) → of_kind kind cmds n a ≡ []
      none zero = refl
      none (suc n) = choose_false _ _ e

  pub kinds_end : k ≤ 0 → of_kind kind cmds k a ≡ []
  unfolding of_kind
  kinds_end h = let e : k ≡ 0 = omega arith in rw e

  module _ (n : ℕ) (h : 0 < k) (e : fits cmds a ≡ true) (g : n ≡ cmdsize cmds a) where
    kinds_more : of_kind kind cmds k a ≡ choose (eqb (cmd cmds a) kind) (a ∷ []) [] ++ of_kind kind cmds (k - 1) (a + n)
    unfolding of_kind
    kinds_more = let p : k ≡ suc (k - 1) = omega arith in ap (λ m. of_kind kind cmds m a) p ∙ choose_true _ _ e ∙ rw g

    pub kinds_here : cmd cmds a ≡ kind → of_kind kind cmds k a ≡ a ∷ of_kind kind cmds (k - 1) (a + n)
    kinds_here f = kinds_more ∙ rw (choose_true (a ∷ []) [] (eq-eqb (cmd cmds a) kind f))

    pub kinds_next : (cmd cmds a ≡ kind → ⊥) → of_kind kind cmds k a ≡ of_kind kind cmds (k - 1) (a + n)
    kinds_next f = kinds_more ∙ rw (choose_false (a ∷ []) [] (ne_eqb (cmd cmds a) kind f))

-- What is known of the commands of a kind that stand at the offsets given: each fits, and is of the kind.
pub data AllGood (kind : ℕ) (cmds : List ℕ) : List ℕ → Type 0 where
  none : AllGood kind cmds []
  good : {a : ℕ} {others : List ℕ} → Room cmds a → cmd cmds a ≡ kind → AllGood kind cmds others → AllGood kind cmds (a ∷ others)

pub all_good : (kind : ℕ) (cmds : List ℕ) (k a : ℕ) → AllGood kind cmds (of_kind kind cmds k a)
unfolding of_kind choose
all_good kind cmds zero a = none
all_good kind cmds (suc k) a = go (fits cmds a) (eqb (cmd cmds a) kind) refl refl (all_good kind cmds k (a + cmdsize cmds a))
  where
    go : (f s : Bool) → fits cmds a ≡ f → eqb (cmd cmds a) kind ≡ s → AllGood kind cmds (of_kind kind cmds k (a + cmdsize cmds a))
        → AllGood kind cmds (of_kind kind cmds (suc k) a)
    go false s e g later = rw e none
    go true true e g later = rw (e, g) (good (room cmds a e) (eqb-true (cmd cmds a) kind g) later)
    go true false e g later = rw (e, g) later

-- The first of them, and the others.
pub record First (kind : ℕ) (cmds : List ℕ) (a : ℕ) (others : List ℕ) : Type 0 where
  pub here : Room cmds a
  pub kinded : cmd cmds a ≡ kind
  pub later : AllGood kind cmds others

split : (kind : ℕ) (cmds : List ℕ) (a : ℕ) (others : List ℕ) → AllGood kind cmds (a ∷ others) → First kind cmds a others
split kind cmds a others (good r e h) = record { here = r; kinded = e; later = h }

pub first_good : (kind : ℕ) (cmds segs : List ℕ) (a : ℕ) (others : List ℕ) → AllGood kind cmds segs → segs ≡ a ∷ others → First kind cmds a others
first_good kind cmds segs a others h e = split kind cmds a others (subst (AllGood kind cmds) e h)

-- No more of a kind than there are commands.
pub few : (kind : ℕ) (cmds : List ℕ) (k a : ℕ) → length (of_kind kind cmds k a) ≤ k
unfolding of_kind choose
few kind cmds zero a = omega arith
few kind cmds (suc k) a = go (fits cmds a) (eqb (cmd cmds a) kind) refl refl (few kind cmds k (a + cmdsize cmds a))
  where
    go : (f s : Bool) → fits cmds a ≡ f → eqb (cmd cmds a) kind ≡ s → length (of_kind kind cmds k (a + cmdsize cmds a)) ≤ k
        → length (of_kind kind cmds (suc k) a) ≤ suc k
    go false s e g later = rw e (omega arith)
    go true true e g later = rw (e, g) (omega arith)
    go true false e g later = rw (e, g) (omega arith)
