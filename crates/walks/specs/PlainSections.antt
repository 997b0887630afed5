-- The records of the section lists, with no ledger and no state (document 01, Section walk); and what a walk of many steps gives. The first
-- number that a lookup gives is the outcome, in the Rust's order: of classes and categories all slots come before the records, of protocols
-- each record comes after its slot.
use Rattle.std.specs.Prelude.{ℕ, zero, suc, ◌≤◌, ◌≡◌, Bool, true, false, List, [], ◌∷◌, eqb}
use Rattle.reads.specs.Outcome.{Outcome, value, and_then, nonzero}
use Rattle.reads.specs.declared.answer.Reason.{Reason}
use Rattle.pointers.specs.Tables.{Tables}
use Rattle.records.specs.Class.{class_at}
use Rattle.records.specs.Category.{category_at}
use Rattle.records.specs.Protocol.{protocol_at}
use Rattle.walks.specs.Gather.{joined, gather, of_value, present}
use Rattle.walks.specs.Slots.{slots_of, address_in}
use Rattle.walks.specs.Sections.{Walk, at_start, met_in, found, passed, dropped, finished, Left, leaves, meta_of}
use Rattle.walks.specs.declared.slots.Lists.{Lists}
use Rattle.walks.specs.declared.slots.Lists.TheVariants.{Classes, Categories, Protocols}
use Rattle.records.specs.declared.class.ObjcClass.{ObjcClass}
use Rattle.records.specs.declared.category.ObjcCategory.{ObjcCategory}
use Rattle.records.specs.declared.protocol.ObjcProtocol.{ObjcProtocol}

-- The addresses in slots, in order; 0 is dropped.
unfoldable pub addresses_in : Tables → List ℕ → Outcome (List ℕ)
addresses_in t slots = gather (λ a. present (address_in t a)) slots

-- Each at its first place only.
abbrev pub unless : Bool → ℕ → List ℕ → List ℕ
unless true a rest = rest
unless false a rest = a ∷ rest

unfoldable pub without : ℕ → List ℕ → List ℕ
without a [] = []
without a (b ∷ bs) = unless (eqb b a) b (without a bs)

unfoldable pub once : List ℕ → List ℕ
once [] = []
once (a ∷ rest) = a ∷ without a (once rest)

-- The addresses that the lists hold, each once.
unfoldable pub listed : Tables → Lists → Outcome (List ℕ)
listed t lists = and_then (addresses_in t (slots_of lists t.sections)) (λ addresses. value (once addresses))

-- A class, and its metaclass at isa, if isa is neither 0 nor the class and decodes.
unfoldable pub with_meta : Tables → ObjcClass → Outcome (List ObjcClass)
with_meta t c = joined (value (c ∷ [])) (present (and_then (nonzero (meta_of c)) (λ a. class_at t a true)))

-- class_list, then nlclslist.
unfoldable pub plain_classes : Tables → Outcome (List ObjcClass)
plain_classes t = and_then (listed t Classes) (gather (λ a. of_value (class_at t a false) (with_meta t)))

-- cat_list, then nlcat_list.
unfoldable pub plain_categories : Tables → Outcome (List ObjcCategory)
plain_categories t = and_then (listed t Categories) (gather (λ a. present (category_at t a)))

-- proto_list; a protocol listed twice comes twice.
unfoldable pub plain_protocols : Tables → Outcome (List ObjcProtocol)
plain_protocols t = gather (λ a. of_value (address_in t a) (λ p. present (protocol_at t p))) (slots_of Protocols t.sections)

-- Steps of a walk, each given the walk and the ledger that the last left: n that give a record, pass an absent one or drop a slot, none
-- refused, and then finished, which leaves walk and ledger as they are, so that every later step says finished too. The records given, in
-- order.
pub data Gives {A : Type 0} (step : Walk → List ℕ → Left A) : ℕ → Walk → List ℕ → List A → Type 0 where
  ended : {w : Walk} {l : List ℕ} → step w l ≡ leaves (value finished) w l → Gives step 0 w l []
  passing : {n : ℕ} {w v : Walk} {l m : List ℕ} {r : Reason} {rs : List A} → step w l ≡ leaves (value (passed r)) v m → Gives step n v m rs → Gives step (suc n) w l rs
  dropping : {n : ℕ} {w v : Walk} {l m : List ℕ} {rs : List A} → step w l ≡ leaves (value dropped) v m → Gives step n v m rs → Gives step (suc n) w l rs
  giving : {n : ℕ} {w v : Walk} {l m : List ℕ} {a : A} {rs : List A}
      → step w l ≡ leaves (value (found a)) v m → Gives step n v m rs → Gives step (suc n) w l (a ∷ rs)

-- A run from the first slot, of at most so many steps before finished.
abbrev pub Run : {A : Type 0} → (Walk → List ℕ → Left A) → ℕ → List ℕ → List A → Type 0
Run step most l rs = (n : ℕ) × (n ≤ most) × Gives step n at_start l rs

-- What step n gives and leaves, counted from 0.
unfoldable pub left_after : {A : Type 0} → (Walk → List ℕ → Left A) → ℕ → Walk → List ℕ → Left A
left_after step zero w l = step w l
left_after step (suc n) w l = left_after step n (step w l).walk (step w l).ledger

-- Where a step says that the walk has finished, the words of the ledger in use are what the lists hold, each address once.
abbrev pub Met : {A : Type 0} → Left A → Outcome (List ℕ) → Type 0
Met x addresses = x.answer ≡ value finished → addresses ≡ value (met_in x.walk x.ledger)

-- A plain definition gives records, no number, and the walk with a ledger gives exactly these.
pub record Walked {A : Type 0} (step : Walk → List ℕ → Left A) (most : ℕ) (l : List ℕ) (plain : Outcome (List A)) : Type 0 where
  pub records : List A
  pub of_plain : plain ≡ value records
  pub gives : Run step most l records
