-- Opening (document 01, "The questions, in order"): 1 to 7, 18, 14 and 8 are asked before the first write; then the index is written.
use Rattle.std.specs.Prelude.{ℕ, ◌≡◌, List}
use Rattle.reads.specs.Outcome.{Outcome, value, absent, refused, and_then}
use Rattle.pointers.specs.Tables.{Tables, with_index}
use Rattle.pointers.specs.Question.{question, asked_tables, asked_index, bind_files, names_inside, names_utf8}
use Rattle.pointers.specs.ImageInfo.{image_info}
use Rattle.pointers.specs.Index.{indexed}
use Rattle.pointers.specs.declared.imageinfo.ImageInfo.{ImageInfo}
use Rattle.reads.specs.declared.answer.Question.TheVariants.{NameInside, NameUtf8, FileLent}

-- The questions 1 to 6, 18 of every segment among them, then 18 of every bind record, 7 of every one, 14 of every one, and 8.
unfoldable pub asked_opening : Tables → Outcome (Unit {0})
asked_opening t =
    and_then (asked_tables t) (λ _.
    and_then (question FileLent (bind_files t.files t.binds)) (λ _.
    and_then (question NameInside (names_inside t.files t.binds)) (λ _.
    and_then (question NameUtf8 (names_utf8 t.files t.binds)) (λ _.
    asked_index t))))

-- What opening gives: the image info, or the number of the first question that says no.
unfoldable pub opening : Tables → Outcome ImageInfo
opening t = and_then (asked_opening t) (λ _. image_info t.info)

-- The same for a caller that asks a question of its own last, before the first write: `last` is what that says.
abbrev pub opening_unless : Outcome (Unit {0}) → Tables → Outcome ImageInfo
opening_unless last t = and_then (asked_opening t) (λ _. and_then last (λ _. image_info t.info))

-- What opening leaves in the index, by what it asked: with a number it is as it was.
abbrev pub left_by : {A : Type 0} → Outcome A → List ℕ → List ℕ → List ℕ
left_by (value _) new old = new
left_by (absent r) new old = old
left_by (refused k) new old = old

unfoldable pub opened_index : Tables → List ℕ
opened_index t = left_by (asked_opening t) (indexed t.rebases t.binds t.index) t.index

-- t is what opening accepted, with the index as opening left it; `index_before` is what it held.
pub record Opened (t : Tables) : Type 0 where
  pub index_before : List ℕ
  pub gave : ImageInfo
  pub accepted : opening (with_index t index_before) ≡ value gave
  pub left : t.index ≡ opened_index (with_index t index_before)
