-- A row as the 15 words of the C face (include/objclist.h, objclist_row): what it is; code and offset of a reason; two texts; a number that may be
-- none (0 0); form or size; an alignment that may be none; and whether the offset has it.
use Rattle.std.specs.Prelude.{Bool, true, false}
use Rattle.std.specs.Prelude.{ℕ, List, [], ◌∷◌, Option, Some, None, Result, Ok, Err}
use Rattle.reads.specs.Outcome.{Outcome, value, absent, refused, text_of}
use Rattle.reads.specs.declared.answer.Reason.{Reason}
use Rattle.reads.specs.declared.text.Text.{Text}
use Rattle.records.specs.declared.ivar.Ivar.{Ivar}
use Rattle.records.specs.declared.method.Method.{Method}
use Rattle.records.specs.declared.method.MethodKind.{MethodKind}
use Rattle.records.specs.declared.method.MethodKind.TheVariants as kind
use Rattle.records.specs.declared.property.Property.{Property}
use Rattle.records.specs.declared.row.Row.{Row}
use Rattle.records.specs.declared.row.Row.TheVariants as row
use Rattle.walks.specs.Walk.{ReachedRow, row_reached, row_skipped, rows_finished}
use Rattle.walks.specs.ProtocolNames.{ReachedName, name_reached, name_passed, names_finished}
use Rattle.face.specs.Status.{says_finished, says_absent, says_refused}
use Rattle.face.specs.declared.status.Status.{Status}

-- The words of a row.
abbrev pub row_size : ℕ
row_size = 15

-- The two words of a number that may be none: whether it is there, and which.
abbrev pub number_words : Option ℕ → ℕ × ℕ
number_words (Some n) = (1, n)
number_words None = (0, 0)

abbrev pub aligned_code : Option Bool → ℕ
aligned_code (Some false) = 0
aligned_code (Some true) = 1
aligned_code None = 2

abbrev pub form_code : MethodKind → ℕ
form_code kind.Legacy = 0
form_code kind.SmallIndirect = 1
form_code kind.SmallDirect = 2

-- The words of a row that is there: what it is, its texts, then the rest.
abbrev pub words : ℕ → Text → Text → Option ℕ → ℕ → Option ℕ → ℕ → List ℕ
words what a b x n y m =
    what ∷ 0 ∷ 0 ∷ a.file ∷ a.offset ∷ a.len ∷ b.file ∷ b.offset ∷ b.len
    ∷ (number_words x).0 ∷ (number_words x).1 ∷ n ∷ (number_words y).0 ∷ (number_words y).1 ∷ m ∷ []

-- 0: selector, types, implementation, form.
abbrev pub method_words : Method → List ℕ
method_words m = words 0 m.selector m.types m.implementation (form_code m.kind) None 0

-- 1: name, type encoding, offset, size, log2 of the alignment, whether the offset has it.
abbrev pub ivar_words : Ivar → List ℕ
ivar_words v = words 1 v.name v.type_encoding v.offset v.size v.log2_alignment (aligned_code v.aligned)

-- 2: name, attributes.
abbrev pub property_words : Property → List ℕ
property_words p = words 2 p.name p.attributes None 0 None 0

abbrev pub row_words : Row → List ℕ
row_words (row.Method m) = method_words m
row_words (row.Ivar v) = ivar_words v
row_words (row.Property p) = property_words p

-- 3: a protocol name.
abbrev pub name_words : Text → List ℕ
name_words name = words 3 name (text_of 0 0 0) None 0 None 0

-- 4: an entry that gives no row, and why; its index, where the walk says it.
abbrev pub skipped_words : Reason → Option ℕ → List ℕ
skipped_words why x =
    4 ∷ (says_absent why).code ∷ (says_absent why).at ∷ 0 ∷ 0 ∷ 0 ∷ 0 ∷ 0 ∷ 0
    ∷ (number_words x).0 ∷ (number_words x).1 ∷ 0 ∷ 0 ∷ 0 ∷ 0 ∷ []

-- What a step says: a row's words, or what ends the rows.
abbrev pub list_row : Outcome ReachedRow → Result (List ℕ) Status
list_row (value (row_reached r)) = Ok (row_words r)
list_row (value (row_skipped j why)) = Ok (skipped_words why (Some j))
list_row (value rows_finished) = Err says_finished
list_row (absent why) = Err (says_absent why)
list_row (refused k) = Err (says_refused k)

abbrev pub name_row : Outcome ReachedName → Result (List ℕ) Status
name_row (value (name_reached name)) = Ok (name_words name)
name_row (value (name_passed why)) = Ok (skipped_words why None)
name_row (value names_finished) = Err says_finished
name_row (absent why) = Err (says_absent why)
name_row (refused k) = Err (says_refused k)
