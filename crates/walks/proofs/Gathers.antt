-- Laws of lists that outcomes give, one after the other.
use Prim.Native.Nat.{ℕ}
use mathlib.Core.Path.{◌≡◌, refl, sym, ap, ◌∙◌}
use mathlib.Core.List.{List, [], ◌∷◌, ◌++◌, map, append_assoc}
use native.Mathlib.Omega.{arith}
use Rattle.reads.specs.Outcome.{Outcome, value, absent, refused, and_then, Unrefused, a_value, an_absence}
use Rattle.reads.specs.declared.answer.Reason.{Reason}
use Rattle.walks.specs.Gather.{joined, gather, of_value, present, as_each}

-- What was joined, where it is a value.
pub record Parts {A : Type 0} (o p : Outcome (List A)) (zs : List A) : Type 0 where
  pub first : List A
  pub second : List A
  pub of_first : o ≡ value first
  pub of_second : p ≡ value second
  pub whole : zs ≡ first ++ second

pub joined_parts : {A : Type 0} (o p : Outcome (List A)) {zs : List A} → joined o p ≡ value zs → Parts o p zs
joined_parts (value xs) (value ys) e = record { first = xs; second = ys; of_first = refl; of_second = refl; whole = cc }
joined_parts (value xs) (absent r) e = let z : ◌≡◌ {A = ℕ} 0 1 = cc in absurd (omega arith)
joined_parts (value xs) (refused k) e = let z : ◌≡◌ {A = ℕ} 0 1 = cc in absurd (omega arith)
joined_parts (absent r) p e = let z : ◌≡◌ {A = ℕ} 0 1 = cc in absurd (omega arith)
joined_parts (refused k) p e = let z : ◌≡◌ {A = ℕ} 0 1 = cc in absurd (omega arith)

-- Joining groups either way.
pub joined_joined : {A : Type 0} (o p q : Outcome (List A)) → joined (joined o p) q ≡ joined o (joined p q)
joined_joined (value xs) (value ys) (value zs) = ap value (append_assoc xs ys zs)
joined_joined (value xs) (value ys) (absent r) = refl
joined_joined (value xs) (value ys) (refused k) = refl
joined_joined (value xs) (absent r) q = refl
joined_joined (value xs) (refused k) q = refl
joined_joined (absent r) p q = refl
joined_joined (refused k) p q = refl

pub joined_none : {A : Type 0} (o : Outcome (List A)) → joined (value []) o ≡ o
joined_none (value xs) = refl
joined_none (absent r) = refl
joined_none (refused k) = refl

module _ {A B : Type 0} (f : A → Outcome (List B)) where
  pub gather_none : {zs : List B} → gather f [] ≡ value zs → zs ≡ []
  unfolding gather
  gather_none e = cc

  pub gather_parts : (a : A) (rest : List A) {zs : List B} → gather f (a ∷ rest) ≡ value zs → Parts (f a) (gather f rest) zs
  unfolding gather
  gather_parts a rest e = joined_parts (f a) (gather f rest) e

  pub gather_append : (first second : List A) → gather f (first ++ second) ≡ joined (gather f first) (gather f second)
  unfolding gather
  gather_append [] second = sym (joined_none (gather f second))
  gather_append (a ∷ first) second = ap (joined (f a)) (gather_append first second) ∙ sym (joined_joined (f a) (gather f first) (gather f second))

  pub gather_same : (g : A → Outcome (List B)) → ((a : A) → f a ≡ g a) → (xs : List A) → gather f xs ≡ gather g xs
  unfolding gather
  gather_same g e [] = refl
  gather_same g e (a ∷ rest) = rw (e a, gather_same g e rest)

-- What `present` gave, where it is a list: the value alone, or none of what is absent.
pub data Held {A : Type 0} : Outcome A → List A → Type 0 where
  held_one : (a : A) → Held (value a) (a ∷ [])
  held_none : (r : Reason) → Held (absent r) []

pub present_held : {A : Type 0} (o : Outcome A) {xs : List A} → present o ≡ value xs → Held o xs
present_held (value a) {xs} e = let one : xs ≡ a ∷ [] = cc in rw one (held_one a)
present_held (absent r) {xs} e = let none : xs ≡ [] = cc in rw none (held_none r)
present_held (refused k) e = let z : ◌≡◌ {A = ℕ} 0 1 = cc in absurd (omega arith)

-- What each was taken of, where that gave a list.
pub each_came : {A B : Type 0} (f : A → B) (o : Outcome (List A)) {ys : List B} → as_each f o ≡ value ys → (xs : List A) × (o ≡ value xs) × (ys ≡ map f xs)
each_came f (value xs) e = (xs, refl, cc)
each_came f (absent r) e = let z : ◌≡◌ {A = ℕ} 0 1 = cc in absurd (omega arith)
each_came f (refused k) e = let z : ◌≡◌ {A = ℕ} 0 1 = cc in absurd (omega arith)

-- A value.
pub data There {A : Type 0} : Outcome A → Type 0 where
  is_there : (a : A) → There (value a)

pub there_then : {A B : Type 0} {o : Outcome A} (f : A → Outcome B) → There o → ((a : A) → There (f a)) → There (and_then o f)
there_then f (is_there a) h = h a

pub there_joined : {A : Type 0} {o p : Outcome (List A)} → There o → There p → There (joined o p)
there_joined (is_there xs) (is_there ys) = is_there (xs ++ ys)

pub there_of : {A B : Type 0} {o : Outcome A} (f : A → Outcome (List B)) → Unrefused o → ((a : A) → There (f a)) → There (of_value o f)
there_of f (a_value a) h = h a
there_of f (an_absence r) h = is_there []

pub there_present : {A : Type 0} {o : Outcome A} → Unrefused o → There (present o)
there_present u = there_of _ u (λ a. is_there (a ∷ []))

pub there_gather : {A B : Type 0} (f : A → Outcome (List B)) → ((a : A) → There (f a)) → (xs : List A) → There (gather f xs)
unfolding gather
there_gather f h [] = is_there []
there_gather f h (a ∷ rest) = there_joined (h a) (there_gather f h rest)

-- The value that is there.
pub record Known {A : Type 0} (o : Outcome A) : Type 0 where
  pub known : A
  pub is : o ≡ value known

pub there_known : {A : Type 0} {o : Outcome A} → There o → Known o
there_known (is_there a) = record { known = a; is = refl }
