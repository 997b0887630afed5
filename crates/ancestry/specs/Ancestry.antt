-- The ancestry of the classes of an image (note 9): the count of decoded classes above a class, the address of the last, and if it loops.
use Rattle.std.specs.Prelude.{ℕ, zero, suc, ◌*◌, ◌≡◌, false, leb, length, drop}
use mathlib.Core.List.{List, [], ◌∷◌, ◌++◌, flat_map}
use Rattle.reads.specs.Outcome.{Outcome, value, absent, refused, and_then, choose, nonzero}
use Rattle.reads.specs.Table.{records}
use Rattle.reads.specs.Files.{longest}
use Rattle.reads.specs.Segment.{segment_words}
use Rattle.pointers.specs.Tables.{Tables}
use Rattle.pointers.specs.Question.{question, guarded}
use Rattle.records.specs.Class.{class_at}
use Rattle.walks.specs.Gather.{gather, present}
use Rattle.walks.specs.PlainSections.{plain_classes}
use Rattle.records.specs.declared.class.ObjcClass.{ObjcClass}
use Rattle.ancestry.specs.Chain.{climb}
use Rattle.ancestry.specs.declared.class_chain.Ancestry.{Ancestry}
use Rattle.ancestry.specs.declared.class_chain.Ancestry.TheVariants as ancestry
use Rattle.ancestry.specs.declared.class_chain.Row.{Row}
use Rattle.reads.specs.declared.answer.Question.TheVariants.{AncestryRoom}

-- The superclass of a class, if its address is not 0 and it decodes; a bind is not looked at. It is a metaclass as the class is one.
unfoldable pub super_at : Tables → ObjcClass → Outcome ObjcClass
super_at t c = and_then (nonzero c.superclass_address) (λ a. class_at t a c.is_meta)

-- One step up, from the address of a class to that of its superclass.
unfoldable pub up_in : Tables → ℕ → Outcome ℕ
up_in t a = and_then (class_at t a false) (λ c. and_then (super_at t c) (λ d. value d.address))

-- The class k steps up, step by step as a page shows it.
unfoldable pub class_above : Tables → ℕ → ObjcClass → Outcome ObjcClass
class_above t zero c = value c
class_above t (suc k) c = and_then (super_at t c) (class_above t k)

-- More steps than this no chain takes that ends: S segments of at most as many readable addresses as the longest file has bytes.
unfoldable pub limit_of : List (List ℕ) → List ℕ → ℕ
limit_of files segments = records segment_words segments * longest files

abbrev pub limit : Tables → ℕ
limit t = limit_of t.files t.segments

-- One class alone; absent where it does not decode.
unfoldable pub ancestry_of : Tables → ℕ → Outcome Ancestry
ancestry_of t a = and_then (class_at t a false) (λ _. climb (up_in t) (limit t) a 0 0)

-- The classes at addresses, each alone, in their order; those that do not decode have no record.
abbrev pub ancestries : Tables → List ℕ → Outcome (List Ancestry)
ancestries t = gather (λ a. present (ancestry_of t a))

-- The record of a class: the count, the address of the last, 1 if it loops.
abbrev pub row_of : Ancestry → Row
row_of (ancestry.Ended count last) = record { first = count; second = last; third = 0 }
row_of ancestry.Looping = record { first = 0; second = 0; third = 1 }

-- Three words a class.
abbrev pub row_words : Row → List ℕ
row_words r = r.first ∷ r.second ∷ r.third ∷ []

abbrev pub words_of : Ancestry → List ℕ
words_of a = row_words (row_of a)

-- 21: the result buffer is at least one record per class.
unfoldable pub fitting : ℕ → List Ancestry → Outcome (List Ancestry)
fitting room xs = and_then (question AncestryRoom (leb (length xs * 3) room)) (λ _. value xs)

-- An answer, and the result buffer as it is left.
pub record Written : Type 0 where
  pub answer : Outcome ℕ
  pub result : List ℕ

abbrev pub written : Outcome ℕ → List ℕ → Written
written o out = record { answer = o; result = out }

-- The records, then the rest of the buffer as it was; refused, nothing is written.
abbrev pub written_by : Outcome (List Ancestry) → List ℕ → Written
written_by (value xs) out = written (value (length xs)) (flat_map words_of xs ++ drop (length xs * 3) out)
written_by (absent r) out = written (absent r) out
written_by (refused k) out = written (refused k) out

unfoldable pub ancestries_left : Tables → List ℕ → List ℕ → Written
ancestries_left t addresses out = written_by (guarded t (and_then (ancestries t addresses) (fitting (length out)))) out

-- The classes of C lines: those of the class walk that are no metaclasses.
unfoldable pub no_meta : ObjcClass → List ObjcClass
no_meta c = choose c.is_meta [] (c ∷ [])

unfoldable pub line_classes : Tables → Outcome (List ObjcClass)
line_classes t = and_then (plain_classes t) (λ cs. value (flat_map no_meta cs))

-- A record for each class, in their order: what that class alone is told.
pub data Each (t : Tables) : List ObjcClass → List Ancestry → Type 0 where
  none : Each t [] []
  more : {c : ObjcClass} {x : Ancestry} {cs : List ObjcClass} {xs : List Ancestry}
      → ancestry_of t c.address ≡ value x → Each t cs xs → Each t (c ∷ cs) (x ∷ xs)
