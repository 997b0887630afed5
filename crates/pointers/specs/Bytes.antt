-- Texts and numbers of the image's files, of all that is lent.
use Rattle.std.specs.Prelude.{ℕ, ℤ}
use Rattle.reads.specs.Address.{picked}
use Rattle.reads.specs.Outcome.{Outcome, and_then}
use Rattle.reads.specs.Place.{word, word_in}
use Rattle.reads.specs.Text.{text_in}
use Rattle.reads.specs.Relative.{signed_in}
use Rattle.reads.specs.declared.place.Place.{Place}
use Rattle.reads.specs.declared.text.Text.{Text}
use Rattle.pointers.specs.Tables.{Tables, image_in}

-- The text at an address, under the reading of the setting.
abbrev pub string : Tables → ℕ → Outcome Text
string t va = text_in t.setting.reading (image_in t) va

-- The number of four bytes, of eight, and the signed number of four, at i bytes from a place; 0 where they do not lie in its file.
abbrev pub u32_in : Tables → Place → ℕ → ℕ
u32_in t p i = word_in t.files 4 p i

abbrev pub u64_in : Tables → Place → ℕ → ℕ
u64_in t p i = word_in t.files 8 p i

abbrev pub i32_in : Tables → Place → ℕ → ℤ
i32_in t p i = signed_in t.files p i

-- The number of the eight bytes at an address, and its pick; absent where they cannot be read.
abbrev pub u64_at : Tables → ℕ → Outcome ℕ
u64_at t va = word (image_in t) 8 va

abbrev pub picked_at : Tables → ℕ → Outcome ℕ
picked_at t va = and_then (u64_at t va) (picked t.segments)
