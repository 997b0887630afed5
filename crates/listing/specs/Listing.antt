-- The listing, step by step (document 01, "The program's listing" and Steps): its state, and what a step says, hands back and leaves in the
-- ledger.
use Rattle.std.specs.Prelude.{ℕ, zero, suc, ◌+◌, ◌%◌, ◌^◌, List, [], ◌∷◌, drop, Option, None, Some}
use Rattle.reads.specs.Outcome.{Outcome, value, absent, refused}
use Rattle.reads.specs.declared.answer.Reason.{Reason}
use Rattle.pointers.specs.Question.{asked, guarded}
use Rattle.pointers.specs.Tables.{Tables, under}
use Rattle.pointers.specs.declared.setting.Setting.{Setting}
use Rattle.records.specs.Category.{category_class_name}
use Rattle.records.specs.Class.{ro_of, superclass_name}
use Rattle.records.specs.declared.category.ObjcCategory.{ObjcCategory}
use Rattle.records.specs.declared.class.ClassRo.{ClassRo}
use Rattle.records.specs.declared.class.ObjcClass.{ObjcClass}
use Rattle.records.specs.declared.protocol.ObjcProtocol.{ObjcProtocol}
use Rattle.walks.specs.ProtocolNames.{walk_at, ReachedName, name_reached, name_passed, names_finished, NameLeft, next_name}
use Rattle.walks.specs.Sections as sections
use Rattle.walks.specs.Sections.{Walk, at_start, Step, found, passed, dropped, finished, step_of, protocol_step_of}
use Rattle.walks.specs.Walk.{walk_of, ReachedRow, row_reached, row_skipped, rows_finished, RowLeft, next_of}
use Rattle.walks.specs.declared.list_walk.ListWalk.{ListWalk}
use Rattle.walks.specs.declared.protocol_names.ProtocolNameWalk.{ProtocolNameWalk}
use Rattle.listing.specs.PlainListing.{Field, row_list, name_list, ro_fields, protocol_fields, category_fields, version_and_flags, info_line, name_or_none, class_line, category_line, row_line, name_line, end_line}
use Rattle.listing.specs.declared.absence.Absence.{Absence}
use Rattle.listing.specs.declared.absence.Absence.TheVariants as absence
use Rattle.listing.specs.declared.at.At.{At}
use Rattle.listing.specs.declared.at.At.TheVariants as place
use Rattle.listing.specs.declared.at.Field as declared
use Rattle.listing.specs.declared.at.Field.TheVariants as a_field
use Rattle.listing.specs.declared.at.FieldWalk.{FieldWalk}
use Rattle.listing.specs.declared.at.FieldWalk.TheVariants as field_walk
use Rattle.listing.specs.declared.at.Owner.{Owner}
use Rattle.listing.specs.declared.at.Owner.TheVariants as an_owner
use Rattle.listing.specs.declared.at.Record.{Record}
use Rattle.listing.specs.declared.at.Record.TheVariants as a_record
use Rattle.listing.specs.declared.line.Line.{Line}
use Rattle.listing.specs.declared.line.Line.TheVariants as line
use Rattle.reads.specs.declared.text.Text.{Text}

-- The fields of a record that name lists.
abbrev pub owner_fields : Owner → List Field
owner_fields (an_owner.Class r) = ro_fields r
owner_fields (an_owner.Protocol p) = protocol_fields p
owner_fields (an_owner.Category c) = category_fields c

-- In list n of a record, with a walk over it.
abbrev pub in_list : Owner → ℕ → FieldWalk → At
in_list o n w = place.List n (record { walk = w; owner = o })

-- In list n of a record where there is a walk over it; the section goes on where there is none.
abbrev pub in_walk : Owner → ℕ → Option FieldWalk → At
in_walk o n None = place.Section
in_walk o n (Some w) = in_list o n w

-- The field that the code finds.
abbrev pub field_of : declared.Field → Field
field_of (a_field.Rows k va) = row_list k va
field_of (a_field.Names va) = name_list va

-- The walk over the list that a field names, begun under a setting.
abbrev pub started : Setting → Field → FieldWalk
started u (row_list k va) = field_walk.Rows (walk_of u va k 0)
started u (name_list va) = field_walk.Names (walk_at u va 0)

-- At the start of list n, which a field names.
abbrev pub at_field : Setting → Owner → ℕ → Field → At
at_field u o n f = in_list o n (started u f)

-- At the first of the fields from list n on; with none left the section goes on.
abbrev pub at_first : Setting → Owner → ℕ → List Field → At
at_first u o n [] = place.Section
at_first u o n (f ∷ fs) = at_field u o n f

-- At the start of list n of a record.
abbrev pub enter : Setting → Owner → ℕ → At
enter u o n = at_first u o n (drop n (owner_fields o))

-- A section walk under way: where it stands, and the setting that it began with.
pub record Begun : Type 0 where
  pub walk : Walk
  pub setting : Setting

abbrev pub begun : Setting → Walk → Begun
begun u w = record { walk = w; setting = u }

-- Which section walk is under way, first classes (0), then protocols (1), then categories; and where each of them stands.
pub record SectionWalk : Type 0 where
  pub stage : ℕ
  pub classes_at : Begun
  pub protocols_at : Begun
  pub categories_at : Begun

abbrev pub walks : ℕ → Begun → Begun → Begun → SectionWalk
walks n c p k = record { stage = n; classes_at = c; protocols_at = p; categories_at = k }

-- A stage with every walk at its start; another of the walks.
abbrev pub stage_start : Setting → ℕ → SectionWalk
stage_start u n = walks n (begun u at_start) (begun u at_start) (begun u at_start)

abbrev pub with_classes : SectionWalk → Begun → SectionWalk
with_classes x b = walks x.stage b x.protocols_at x.categories_at

abbrev pub with_protocols : SectionWalk → Begun → SectionWalk
with_protocols x b = walks x.stage x.classes_at b x.categories_at

abbrev pub with_categories : SectionWalk → Begun → SectionWalk
with_categories x b = walks x.stage x.classes_at x.protocols_at b

-- One of the walks elsewhere, under the setting that it began with.
abbrev pub moved_classes : SectionWalk → Walk → SectionWalk
moved_classes x w = with_classes x (begun x.classes_at.setting w)

abbrev pub moved_protocols : SectionWalk → Walk → SectionWalk
moved_protocols x w = with_protocols x (begun x.protocols_at.setting w)

abbrev pub moved_categories : SectionWalk → Walk → SectionWalk
moved_categories x w = with_categories x (begun x.categories_at.setting w)

-- One walk under way, the others at their starts.
abbrev pub classes : Setting → Walk → SectionWalk
classes u w = moved_classes (stage_start u 0) w

abbrev pub protocols : Setting → Walk → SectionWalk
protocols u w = moved_protocols (stage_start u 1) w

abbrev pub categories : Setting → Walk → SectionWalk
categories u w = moved_categories (stage_start u 2) w

-- The setting that the listing began with, where it stands, the records so far, and the entries settled so far.
pub record State : Type 0 where
  pub setting : Setting
  pub at : At
  pub section : SectionWalk
  pub records : ℕ
  pub settled : ℕ

abbrev pub state : Setting → At → SectionWalk → ℕ → ℕ → State
state u at section records settled = record { setting = u; at = at; section = section; records = records; settled = settled }

abbrev pub start : Setting → State
start u = state u place.Info (classes u at_start) 0 0

-- The state at another place, under its setting; in another section; with one record more; with one entry settled more, a number of 128 bits.
abbrev pub go_to : State → At → State
go_to s next = state s.setting next s.section s.records s.settled

abbrev pub in_section : State → At → SectionWalk → State
in_section s next section = state s.setting next section s.records s.settled

abbrev pub with_record : State → At → State
with_record s next = state s.setting next s.section ((s.records + 1) % 2 ^ 64) s.settled

abbrev pub with_entry : State → At → State
with_entry s next = state s.setting next s.section s.records ((s.settled + 1) % 2 ^ 128)

-- What a step says where no question refuses it: a line; what is absent and why, of which nothing is printed; nothing; or the end.
pub data Answer : Type 0 where
  says : Line → Answer
  lacks : Absence → Answer
  nothing : Answer
  ended : Answer

-- An entry of list n that is skipped; a slot of list n that gives no name.
abbrev pub skipped_entry : ℕ → ℕ → Reason → Absence
skipped_entry n j r = absence.Entry (record { list = n; index = j; why = r })

abbrev pub unnamed : ℕ → ℕ → Reason → Absence
unnamed n i r = absence.Name (record { list = n; slot = i; why = r })

-- The answer, with the state that the step hands back and the ledger as it leaves it.
pub record Left : Type 0 where
  pub answer : Outcome Answer
  pub state : State
  pub ledger : List ℕ

abbrev pub leaves : Outcome Answer → State → List ℕ → Left
leaves answer s ledger = record { answer = answer; state = s; ledger = ledger }

-- A step that goes on by what a call gives. With a number the state and the ledger are as given. No call that a step goes on by is absent:
-- questions never are, and a name that is absent is a value, none.
abbrev pub onward : {A : Type 0} → State → List ℕ → Outcome A → (A → Left) → Left
onward s l (value a) go = go a
onward s l (absent r) go = leaves (absent r) s l
onward s l (refused k) go = leaves (refused k) s l

-- I.
abbrev pub info_step : Tables → State → List ℕ → Left
info_step t s l = onward s l (asked t) (λ _. leaves (value (says (info_line (version_and_flags t.info) s.setting))) (go_to s place.Section) l)

-- What a step of a section walk gives, the walk then, and the ledger.
pub record SectionLeft : Type 0 where
  pub answer : Outcome (Step Record)
  pub section : SectionWalk
  pub ledger : List ℕ

-- The same answer, its record as one of the listing's.
abbrev pub as_record : {A : Type 0} → (A → Record) → Outcome (Step A) → Outcome (Step Record)
as_record f (value (found a)) = value (found (f a))
as_record f (value (passed r)) = value (passed r)
as_record f (value dropped) = value dropped
as_record f (value finished) = value finished
as_record f (absent r) = absent r
as_record f (refused k) = refused k

abbrev pub section_leaves : {A : Type 0} → (A → Record) → (Walk → SectionWalk) → Outcome (Step A) → Walk → List ℕ → SectionLeft
section_leaves f section answer w l = record { answer = as_record f answer; section = section w; ledger = l }

abbrev pub step_left : {A : Type 0} → (A → Record) → (Walk → SectionWalk) → sections.Left A → SectionLeft
step_left f section x = section_leaves f section x.answer x.walk x.ledger

-- A step of each walk, under the setting that it began with. The protocol walk looks at no ledger.
abbrev pub classes_step : Tables → List ℕ → SectionWalk → SectionLeft
classes_step t l x =
    step_left a_record.Class (moved_classes x) (step_of sections.classes (under x.classes_at.setting t) x.classes_at.walk l)

abbrev pub protocols_step : Tables → List ℕ → SectionWalk → SectionLeft
protocols_step t l x =
    let y = protocol_step_of (under x.protocols_at.setting t) x.protocols_at.walk [] in
    section_leaves a_record.Protocol (moved_protocols x) y.answer y.walk l

abbrev pub categories_step : Tables → List ℕ → SectionWalk → SectionLeft
categories_step t l x =
    step_left a_record.Category (moved_categories x) (step_of sections.categories (under x.categories_at.setting t) x.categories_at.walk l)

-- A step of the walk under way.
abbrev pub step_in_stage : Tables → List ℕ → SectionWalk → ℕ → SectionLeft
step_in_stage t l x zero = classes_step t l x
step_in_stage t l x (suc zero) = protocols_step t l x
step_in_stage t l x (suc (suc n)) = categories_step t l x

abbrev pub section_step : Tables → List ℕ → SectionWalk → SectionLeft
section_step t l x = step_in_stage t l x x.stage

-- After the last record of a section the next section comes, from its start, under the listing's setting; after the last of all, E with the records and the entries
-- settled.
abbrev pub after_stage : State → List ℕ → SectionWalk → ℕ → Left
after_stage s l x zero = leaves (value nothing) (in_section s place.Section (stage_start s.setting 1)) l
after_stage s l x (suc zero) = leaves (value nothing) (in_section s place.Section (stage_start s.setting 2)) l
after_stage s l x (suc (suc n)) = leaves (value (says (end_line s.records s.settled))) (in_section s place.End x) l

abbrev pub after_section : State → List ℕ → SectionWalk → Left
after_section s l x = after_stage s l x x.stage

-- The line of a record that the section gave comes in the next step: with the number of a lookup that the line needs, the ledger is then as
-- it was given.
abbrev pub by_section : State → List ℕ → SectionWalk → Step Record → Left
by_section s l section (found x) = leaves (value nothing) (in_section s (place.Record x) section) l
by_section s l section (passed r) = leaves (value (lacks (absence.Record r))) (in_section s place.Section section) l
by_section s l section dropped = leaves (value nothing) (in_section s place.Section section) l
by_section s l section finished = after_section s l section

abbrev pub on_section : State → SectionLeft → Left
on_section s x = onward s x.ledger x.answer (by_section s x.ledger x.section)

-- The line of a record, and then where it goes on.
abbrev pub record_said : State → List ℕ → Line → At → Left
record_said s l own next = leaves (value (says own)) (with_record s next) l

-- C or M with the superclass's name or none, and then R.
abbrev pub class_said : State → List ℕ → ObjcClass → Outcome (Option Text) → Left
class_said s l c o = onward s l o (λ name. record_said s l (class_line c name) (place.Ro c))

-- P, and then the protocol's lists.
abbrev pub protocol_said : State → List ℕ → ObjcProtocol → Outcome (Unit {0}) → Left
protocol_said s l p o = onward s l o (λ _. record_said s l (line.Protocol p) (enter s.setting (an_owner.Protocol p) 0))

-- K with the class's name or none, and then the category's lists.
abbrev pub category_said : State → List ℕ → ObjcCategory → Outcome (Option Text) → Left
category_said s l c o = onward s l o (λ name. record_said s l (category_line c name) (enter s.setting (an_owner.Category c) 0))

abbrev pub record_step : Tables → State → List ℕ → Record → Left
record_step t s l (a_record.Class c) = class_said s l c (name_or_none (guarded t (superclass_name t c)))
record_step t s l (a_record.Protocol p) = protocol_said s l p (asked t)
record_step t s l (a_record.Category c) = category_said s l c (name_or_none (guarded t (category_class_name t c)))

-- R if class_ro decodes, and then the class's lists; else why it does not.
abbrev pub by_ro : State → List ℕ → Outcome ClassRo → Left
by_ro s l (value r) = leaves (value (says (line.Ro r))) (go_to s (enter s.setting (an_owner.Class r) 0)) l
by_ro s l (absent r) = leaves (value (lacks (absence.Record r))) (go_to s place.Section) l
by_ro s l (refused k) = leaves (refused k) s l

-- A step over list n: an entry is settled, with its line m, v or p or skipped for a reason; or the list is at its end or absent, and the
-- next list comes.
abbrev pub by_row : State → List ℕ → Owner → ℕ → ListWalk → Outcome ReachedRow → Left
by_row s l o n w (value (row_reached r)) =
    leaves (value (says (row_line n r))) (with_entry s (in_list o n (field_walk.Rows w))) l
by_row s l o n w (value (row_skipped j r)) = leaves (value (lacks (skipped_entry n j r))) (with_entry s (in_list o n (field_walk.Rows w))) l
by_row s l o n w (value rows_finished) = leaves (value nothing) (go_to s (enter s.setting o (suc n))) l
by_row s l o n w (absent r) = leaves (value nothing) (go_to s (enter s.setting o (suc n))) l
by_row s l o n w (refused k) = leaves (refused k) s l

abbrev pub after_row : State → List ℕ → Owner → ℕ → RowLeft → Left
after_row s l o n x = by_row s l o n x.walk x.answer

-- A step over slot i of the protocol names of list n: q, or the slot gives none for a reason; or the next list.
abbrev pub by_name : State → List ℕ → Owner → ℕ → ℕ → ProtocolNameWalk → Outcome ReachedName → Left
by_name s l o n i w (value (name_reached name)) =
    leaves (value (says (name_line n name))) (go_to s (in_list o n (field_walk.Names w))) l
by_name s l o n i w (value (name_passed r)) = leaves (value (lacks (unnamed n i r))) (go_to s (in_list o n (field_walk.Names w))) l
by_name s l o n i w (value names_finished) = leaves (value nothing) (go_to s (enter s.setting o (suc n))) l
by_name s l o n i w (absent r) = leaves (value nothing) (go_to s (enter s.setting o (suc n))) l
by_name s l o n i w (refused k) = leaves (refused k) s l

abbrev pub after_name : State → List ℕ → Owner → ℕ → ℕ → NameLeft → Left
after_name s l o n i x = by_name s l o n i x.walk x.answer

abbrev pub list_step : Tables → State → List ℕ → Owner → ℕ → FieldWalk → Left
list_step t s l o n (field_walk.Rows w) = after_row s l o n (next_of t w)
list_step t s l o n (field_walk.Names w) = after_name s l o n w.cursor (next_name t w)

-- A step, by where the listing stands: under its setting, or under that of the walk under way, never that of what is lent (document 02,
-- note 12). After the last line every step says so.
unfoldable pub step_at : Tables → State → List ℕ → At → Left
step_at t s l place.Info = info_step t s l
step_at t s l place.Section = on_section s (section_step t l s.section)
step_at t s l (place.Record x) = record_step (under s.setting t) s l x
step_at t s l (place.Ro c) = by_ro s l (guarded t (ro_of (under s.setting t) c))
step_at t s l (place.List n x) = list_step t s l x.owner n x.walk
step_at t s l place.End = onward s l (asked t) (λ _. leaves (value ended) s l)

-- A step of the listing.
abbrev pub listing_step : Tables → State → List ℕ → Left
listing_step t s l = step_at t s l s.at
