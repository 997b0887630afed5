-- The categories by their slots, as the code goes over them: it keeps no ledger, and looks again at the earlier slots of a category of the
-- class. Where the categories are listed these are the sources of the categories of the class (proofs/Plain.antt).
use Rattle.std.specs.Prelude.{ℕ, zero, suc, Bool, Option, None, Some, List, [], ◌∷◌, eqb, length, get_or, take}
use Rattle.reads.specs.Outcome.{Outcome, value, and_then, choose}
use Rattle.reads.specs.Text.{or_none}
use Rattle.pointers.specs.Tables.{Tables}
use Rattle.records.specs.Category.{category_at}
use Rattle.records.specs.declared.category.ObjcCategory.{ObjcCategory}
use Rattle.records.specs.declared.class.ObjcClass.{ObjcClass}
use Rattle.walks.specs.Gather.{gather, of_value, present}
use Rattle.walks.specs.Slots.{slots_of, address_in, among}
use Rattle.walks.specs.declared.slots.Lists.TheVariants.{Categories}
use Rattle.dispatch.specs.declared.sources.Side.{Side}
use Rattle.dispatch.specs.declared.sources.Source.{Source}
use Rattle.dispatch.specs.Sources.{own_source, category_source}
use Rattle.dispatch.specs.Appearances.{Rows, ended, source_rows, part_rows}

-- The slots of cat_list, then of nlcat_list.
abbrev pub category_slots : List ℕ → List ℕ
category_slots ws = slots_of Categories ws

-- The address in slot k.
unfoldable pub listed_at : Tables → ℕ → Outcome ℕ
listed_at t k = address_in t (get_or (category_slots t.sections) k 0)

-- The addresses in slots, 0 in one that holds none.
unfoldable pub held_in : Tables → List ℕ → List ℕ
held_in t [] = []
held_in t (a ∷ slots) = or_none (address_in t a) ∷ held_in t slots

abbrev pub held : Tables → List ℕ
held t = held_in t (category_slots t.sections)

-- Some slot before k holds an address.
unfoldable pub held_before : Tables → ℕ → ℕ → Bool
held_before t k va = among va (take k (held t))

-- The list of a category of the class that no slot before k holds; another takes no part.
unfoldable pub taking : Tables → Side → ℕ → ℕ → ℕ → ObjcCategory → Option Source
taking t s class k va c = choose (eqb c.class_address class) (choose (held_before t k va) None (Some (category_source s c))) None

unfoldable pub slot_source : Tables → Side → ℕ → ℕ → Outcome (Option Source)
slot_source t s class k = and_then (listed_at t k) (λ va. and_then (category_at t va) (λ c. value (taking t s class k va c)))

-- The rows of the categories in n slots from slot k on.
unfoldable pub slot_rows : Tables → Side → ℕ → ℕ → ℕ → Rows
slot_rows t s class k zero = ended
slot_rows t s class k (suc n) = part_rows t (suc k) (slot_source t s class k) (slot_rows t s class (suc k) n)

abbrev pub slot_total : Tables → ℕ
slot_total t = length (category_slots t.sections)

-- All rows, the sources numbered by slots: source 0 is the class's own list, source k + 1 that of the category in slot k.
unfoldable pub slot_appearances : Tables → Side → ObjcClass → Rows
slot_appearances t s c = source_rows t 0 (own_source t s c) (slot_rows t s c.address 0 (slot_total t))

-- No lookup is refused, or the first question that refuses one.
abbrev pub settled : {A : Type 0} → Outcome A → Outcome (Unit {0})
settled o = and_then o (λ _. value tt)

-- The categories in slots, each as often as it is listed.
unfoldable pub records_in : Tables → List ℕ → Outcome (List ObjcCategory)
records_in t slots = gather (λ a. of_value (address_in t a) (λ va. present (category_at t va))) slots
