-- The bytes of an image's files whose values a definition of a record, a row or a listing uses (document 02, note 13): those of each question
-- that it asks, in order, until an answer ends it.
use Rattle.std.specs.Prelude.{ℕ, ◌+◌, leb, length}
use mathlib.Core.List.{List, [], ◌∷◌, map, flat_map}
use Rattle.reads.specs.Outcome as outcomes
use Rattle.reads.specs.Outcome.{choose}
use Rattle.reads.specs.Files.{file_of}
use Rattle.reads.specs.Place as places
use Rattle.reads.specs.Place.{Image}
use Rattle.reads.specs.Segment.{rows, lookup}
use Rattle.reads.specs.Text.{read_at}
use Rattle.reads.specs.declared.place.Place.{Place}
use Rattle.reads.specs.declared.text.Text.{Text}
use Rattle.pointers.specs.Slot as slots
use Rattle.pointers.specs.Tables.{Tables, image_in}
use Rattle.pointers.specs.declared.setting.Setting.{Setting}
use Rattle.records.specs.Ask.{Ask, sum64, nonzero, even, at_least, readable, u32_in, u64_in, i32_in, u64_at, picked, picked_at, slot, rebase, pointer, pointer_or0, string, symbol, info}
use Rattle.records.specs.Asks.{if_value, if_absent, asks}
use Rattle.records.specs.Decode.{Decode}
use Rattle.ranges.specs.Range.{Range, range}

-- The k bytes at a place.
abbrev pub place_range : Place → ℕ → Range
place_range p k = range p.file p.offset k

-- The k bytes at i bytes from a place, where they lie in its file.
unfoldable pub uses_field : List (List ℕ) → ℕ → Place → ℕ → List Range
uses_field files k p i =
    choose (leb (p.offset + i + k) (length (file_of files p.file))) (range p.file (p.offset + i) k ∷ []) []

-- The word of 8 bytes at an address, if it can be read.
unfoldable pub uses_word : Image → ℕ → List Range
uses_word m va = if_value (places.readable m va 8) (λ p. place_range p 8 ∷ [])

-- A slot: the word there, if the slot has no rebase.
unfoldable pub uses_slot_in : Image → List ℕ → List ℕ → Setting → ℕ → List Range
uses_slot_in m rebases index setting a = if_absent (slots.rebase_at rebases index setting a) (uses_word m a)

abbrev pub uses_slot : Tables → ℕ → List Range
uses_slot t a = uses_slot_in (image_in t) t.rebases t.index t.setting a

-- The slot in the field at va + k.
unfoldable pub uses_pointer_in : Image → List ℕ → List ℕ → Setting → ℕ → ℕ → List Range
uses_pointer_in m rebases index setting va k = if_value (outcomes.sum64 va k) (uses_slot_in m rebases index setting)

abbrev pub uses_pointer : Tables → ℕ → ℕ → List Range
uses_pointer t va k = uses_pointer_in (image_in t) t.rebases t.index t.setting va k

-- A text at an address: its bytes and the zero byte that ends it; one without an end is read to its file's end. Whether it is UTF-8 or not.
unfoldable pub uses_text : Image → ℕ → List Range
uses_text m va =
    if_value (outcomes.nonzero va) (λ a.
    if_value (lookup (rows m.words) a) (λ p.
    place_range p (read_at m.files p) ∷ []))

-- A name: all its bytes, its prefix too.
abbrev pub name_range : Text → Range
name_range name = range name.file name.offset name.len

unfoldable pub uses_symbol_in : List (List ℕ) → List ℕ → List ℕ → List ℕ → ℕ → List Range
uses_symbol_in files rebases binds index a = if_value (slots.bind_at files rebases binds index a) (λ name. name_range name ∷ [])

abbrev pub uses_symbol : Tables → ℕ → List Range
uses_symbol t a = uses_symbol_in t.files t.rebases t.binds t.index a

-- The bytes of a question. Tests use none: of numbers, of an address, and whether bytes can be read.
abbrev pub uses : Tables → Ask → List Range
uses t (sum64 va k) = []
uses t (nonzero x) = []
uses t (even va) = []
uses t (at_least least size) = []
uses t (readable va k) = []
uses t (u32_in p i) = uses_field t.files 4 p i
uses t (u64_in p i) = uses_field t.files 8 p i
uses t (i32_in p i) = uses_field t.files 4 p i
uses t (u64_at va) = uses_word (image_in t) va
uses t (picked w) = []
uses t (picked_at a) = uses_word (image_in t) a
uses t (slot a) = uses_slot t a
uses t (rebase a) = []
uses t (pointer va k) = uses_pointer t va k
uses t (pointer_or0 va k) = uses_pointer t va k
uses t (string va) = uses_text (image_in t) va
uses t (symbol a) = uses_symbol t a
uses t info = []

abbrev pub used : {A : Type 0} → Tables → Decode A → List Range
used t d = flat_map (uses t) (asks t d)

-- The lengths of the files, in the order of their numbers: ranges are cut there when they are merged.
abbrev pub file_lengths : List (List ℕ) → List ℕ
file_lengths files = map length files
