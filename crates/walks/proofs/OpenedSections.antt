-- D2e. Over tables that opening accepted, with the index as opening left it, the plain definitions of the section lists give records, no
-- number; and with a ledger long enough, whatever it holds, no step of a section walk is refused, the walk ends, and the records that it
-- gives are these, in order.
use Prim.Native.Nat.{ℕ, ◌*◌, ◌≤◌}
use mathlib.Core.List.{List, ◌∷◌, []}
use mathlib.Core.Path.{◌≡◌}
use lib.ListN.{length}
use Rattle.reads.specs.Outcome.{Outcome, value, Unrefused}
use Rattle.reads.proofs.Unrefused.{unrefused_then, nonzero_unrefused}
use Rattle.pointers.specs.Open.{Opened}
use Rattle.pointers.specs.Tables.{Tables}
use Rattle.pointers.proofs.OpenedTables.{opened_asked}
use Rattle.walks.specs.Slots.{slot_count, protocol_count, address_in, decode_address}
use Rattle.walks.specs.Sections.{Walk, Left, classes, categories, step_of, protocol_step_of}
use Rattle.walks.specs.PlainSections.{addresses_in, listed, with_meta, plain_classes, plain_categories, plain_protocols, Run, Walked}
use Rattle.walks.specs.declared.slots.Lists.{Lists}
use Rattle.records.proofs.Decodes.{unrefused, category_unrefused, protocol_unrefused, class_unrefused}
use Rattle.walks.proofs.Gathers.{There, is_there, there_then, there_joined, there_of, there_present, there_gather, there_known}
use Rattle.walks.proofs.PlainWalks.{class_run, category_run, protocol_run}

module _ (t : Tables) (opened : Opened t) where
  address_unrefused : (a : ℕ) → Unrefused (address_in t a)
  address_unrefused a = unrefused t opened (decode_address a)

  addresses_there : (slots : List ℕ) → There (addresses_in t slots)
  unfolding addresses_in
  addresses_there slots = there_gather _ (λ a. there_present (address_unrefused a)) slots

  listed_there : (lists : Lists) → There (listed t lists)
  unfolding listed
  listed_there lists = there_then _ (addresses_there _) (λ addresses. is_there _)

  pub classes_there : There (plain_classes t)
  unfolding plain_classes with_meta
  classes_there =
      there_then _ (listed_there _)
      (there_gather _ (λ a. there_of _ (class_unrefused t opened a _) (λ c.
      there_joined (is_there (c ∷ [])) (there_present (unrefused_then _ (nonzero_unrefused _) (λ b. class_unrefused t opened b _))))))

  pub categories_there : There (plain_categories t)
  unfolding plain_categories
  categories_there = there_then _ (listed_there _) (there_gather _ (λ a. there_present (category_unrefused t opened a)))

  pub protocols_there : There (plain_protocols t)
  unfolding plain_protocols
  protocols_there = there_gather _ (λ a. there_of _ (address_unrefused a) (λ p. there_present (protocol_unrefused t opened p))) _

  walked : {A : Type 0} {step : Walk → List ℕ → Left A} {most : ℕ} {ledger : List ℕ} {plain : Outcome (List A)}
      → There plain → ((rs : List A) → plain ≡ value rs → Run step most ledger rs) → Walked step most ledger plain
  walked h run = let all = there_known h in record { records = all.known; of_plain = all.is; gives = run all.known all.is }

  module _ (ledger : List ℕ) where
    pub classes_walked : slot_count t.sections 0 1 ≤ length ledger → Walked (step_of classes t) (2 * slot_count t.sections 0 1) ledger (plain_classes t)
    classes_walked r = walked classes_there (class_run t (opened_asked t opened) ledger r)

    pub categories_walked : slot_count t.sections 2 3 ≤ length ledger → Walked (step_of categories t) (2 * slot_count t.sections 2 3) ledger (plain_categories t)
    categories_walked r = walked categories_there (category_run t (opened_asked t opened) ledger r)

    pub protocols_walked : Walked (protocol_step_of t) (protocol_count t.sections) ledger (plain_protocols t)
    protocols_walked = walked protocols_there (protocol_run t (opened_asked t opened) ledger)
