-- E's first number is the number of record lines of the plain listing.
use Rattle.std.proofs.Common.{◌≡◌, ℕ, suc, ◌+◌, List, [], ◌∷◌, ◌++◌, map, length, refl, ap, ◌∙◌, arith}
use Rattle.reads.specs.Outcome.{Outcome, value, absent, refused, and_then}
use Rattle.reads.specs.declared.text.Text.{Text}
use Rattle.reads.proofs.Outcomes.{then_came}
use Rattle.pointers.specs.Tables.{Tables, image_in}
use Rattle.records.specs.Category.{category_class_name}
use Rattle.records.specs.Class.{ro_of, superclass_name}
use Rattle.records.specs.List.{list_at, entry_address}
use Rattle.records.specs.Row.{row_at}
use Rattle.records.specs.Search.{readables}
use Rattle.records.specs.declared.class.ClassRo.{ClassRo}
use Rattle.records.specs.declared.list.Layout.{Layout}
use Rattle.records.specs.declared.row.Row.{Row}
use Rattle.walks.specs.Gather.{gather, of_value}
use Rattle.walks.specs.ProtocolNames.{protocol_names}
use Rattle.walks.proofs.Gathers.{Parts, joined_parts, gather_parts, each_came}
use Rattle.listing.specs.PlainListing.{Field, row_list, name_list, name_or_none, class_line, category_line, row_line, name_line, own_lines, record_fields, entry_lines, field_lines, fields_lines, lines_of, record_line_count}
use Rattle.listing.specs.declared.at.Record.{Record}
use Rattle.listing.specs.declared.at.Record.TheVariants as a_record
use Rattle.listing.specs.declared.line.Line.{Line}
use Rattle.listing.specs.declared.line.Line.TheVariants as line

-- Lines that come after one another.
lines_after : (xs ys : List Line) → record_line_count (xs ++ ys) ≡ record_line_count xs + record_line_count ys
unfolding record_line_count
lines_after [] ys = omega arith
lines_after (line.Info i ∷ xs) ys = lines_after xs ys
lines_after (line.Class c ∷ xs) ys = let h = lines_after xs ys in omega arith
lines_after (line.Ro r ∷ xs) ys = lines_after xs ys
lines_after (line.Protocol p ∷ xs) ys = let h = lines_after xs ys in omega arith
lines_after (line.Category c ∷ xs) ys = let h = lines_after xs ys in omega arith
lines_after (line.Row r ∷ xs) ys = lines_after xs ys
lines_after (line.Name n ∷ xs) ys = lines_after xs ys
lines_after (line.End e ∷ xs) ys = lines_after xs ys

parts_count : {o p : Outcome (List Line)} {zs : List Line} (parts : Parts o p zs)
    → record_line_count zs ≡ record_line_count parts.first + record_line_count parts.second
parts_count parts = ap record_line_count parts.whole ∙ lines_after parts.first parts.second

-- Rows and names are no records.
entry_none : (n : ℕ) (v : Outcome Row) (ys : List Line) → of_value v (λ r. value (row_line n r ∷ [])) ≡ value ys → record_line_count ys ≡ 0
unfolding record_line_count
entry_none n (value r) ys e = let same : ys ≡ row_line n r ∷ [] = cc in rw same
entry_none n (absent r) ys e = let same : ys ≡ [] = cc in rw same
entry_none n (refused k) ys e = let z : ◌≡◌ {A = ℕ} 0 1 = cc in absurd (omega arith)

entries_none : (t : Tables) (n : ℕ) (h : Layout) (js : List ℕ) (ys : List Line) → gather (entry_lines t n h) js ≡ value ys → record_line_count ys ≡ 0
unfolding gather
entries_none t n h [] ys e = let same : ys ≡ [] = cc in rw same (unfold record_line_count in refl)
entries_none t n h (j ∷ js) ys e =
    let parts = gather_parts (entry_lines t n h) j js e in
    omega (arith, parts_count parts, entry_none n (row_at t h.kind (entry_address h j)) parts.first parts.of_first, entries_none t n h js parts.second parts.of_second)

list_none : (t : Tables) (n : ℕ) (v : Outcome Layout) (ys : List Line) → of_value v (λ h. gather (entry_lines t n h) (readables (image_in t) h)) ≡ value ys
    → record_line_count ys ≡ 0
list_none t n (value h) ys e = entries_none t n h (readables (image_in t) h) ys e
list_none t n (absent r) ys e = let same : ys ≡ [] = cc in rw same (unfold record_line_count in refl)
list_none t n (refused k) ys e = let z : ◌≡◌ {A = ℕ} 0 1 = cc in absurd (omega arith)

names_none : (n : ℕ) (names : List Text) → record_line_count (map (name_line n) names) ≡ 0
unfolding record_line_count
names_none n [] = refl
names_none n (name ∷ names) = names_none n names

field_none : (t : Tables) (n : ℕ) (f : Field) (ys : List Line) → field_lines t n f ≡ value ys → record_line_count ys ≡ 0
unfolding field_lines
field_none t n (row_list k va) ys e = list_none t n (list_at t k va) ys e
field_none t n (name_list va) ys e =
    let names = each_came (name_line n) (protocol_names t va) e in
    rw names.2 (names_none n names.0)

fields_none : (t : Tables) (n : ℕ) (fs : List Field) (ys : List Line) → fields_lines t n fs ≡ value ys → record_line_count ys ≡ 0
unfolding fields_lines
fields_none t n [] ys e = let same : ys ≡ [] = cc in rw same (unfold record_line_count in refl)
fields_none t n (f ∷ fs) ys e =
    let parts = joined_parts (field_lines t n f) (fields_lines t (suc n) fs) e in
    omega (arith, parts_count parts, field_none t n f parts.first parts.of_first, fields_none t (suc n) fs parts.second parts.of_second)

-- Each record has one record line of its own.
ro_none : (v : Outcome ClassRo) (ys : List Line) → of_value v (λ r. value (line.Ro r ∷ [])) ≡ value ys → record_line_count ys ≡ 0
unfolding record_line_count
ro_none (value r) ys e = let same : ys ≡ line.Ro r ∷ [] = cc in rw same
ro_none (absent r) ys e = let same : ys ≡ [] = cc in rw same
ro_none (refused k) ys e = let z : ◌≡◌ {A = ℕ} 0 1 = cc in absurd (omega arith)

own_one : (t : Tables) (x : Record) (ys : List Line) → own_lines t x ≡ value ys → record_line_count ys ≡ 1
unfolding own_lines
own_one t (a_record.Class c) ys e =
    let name = then_came (name_or_none (superclass_name t c)) _ ys e in
    let parts = joined_parts (value (class_line c name.0 ∷ [])) (of_value (ro_of t c) (λ r. value (line.Ro r ∷ []))) name.2 in
    let same : parts.first ≡ class_line c name.0 ∷ [] = let g = parts.of_first in cc in
    let own : record_line_count parts.first ≡ 1 = rw same (unfold record_line_count in refl) in
    omega (arith, parts_count parts, ro_none (ro_of t c) parts.second parts.of_second)
own_one t (a_record.Protocol p) ys e = let same : ys ≡ line.Protocol p ∷ [] = cc in rw same (unfold record_line_count in refl)
own_one t (a_record.Category c) ys e =
    let name = then_came (name_or_none (category_class_name t c)) _ ys e in
    let same : ys ≡ category_line c name.0 ∷ [] = let g = name.2 in cc in
    rw same (unfold record_line_count in refl)

pub records_are_record_lines : (t : Tables) (xs : List Record) (ys : List Line) → gather (lines_of t) xs ≡ value ys → record_line_count ys ≡ length xs
unfolding gather lines_of
records_are_record_lines t [] ys e = let same : ys ≡ [] = cc in rw same (unfold record_line_count in refl)
records_are_record_lines t (x ∷ xs) ys e =
    let parts = gather_parts (lines_of t) x xs e in
    let mine = joined_parts (own_lines t x) (and_then (record_fields t x) (fields_lines t 0)) parts.of_first in
    let lists = then_came (record_fields t x) (fields_lines t 0) mine.second mine.of_second in
    omega (
      arith,
      parts_count parts,
      parts_count mine,
      own_one t x mine.first mine.of_first,
      fields_none t 0 lists.0 mine.second lists.2,
      records_are_record_lines t xs parts.second parts.of_second,
    )
