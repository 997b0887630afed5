-- What a definition of a record or a row asks of the image and the tables, and their answers. Only here does an absence begin, with its
-- reason.
use Rattle.std.specs.Prelude.{ℕ, ◌%◌, eqb, leb, ℤ}
use Rattle.reads.specs.Outcome as outcomes
use Rattle.reads.specs.Outcome.{Outcome, value, absent, choose}
use Rattle.reads.specs.Place as places
use Rattle.reads.specs.Address as addresses
use Rattle.reads.specs.declared.answer.Reason.TheVariants.{OddList, ShortEntry}
use Rattle.reads.specs.declared.place.Place.{Place}
use Rattle.reads.specs.declared.text.Text.{Text}
use Rattle.pointers.specs.ImageInfo as infos
use Rattle.pointers.specs.Slot as slots
use Rattle.pointers.specs.Bytes as bytes
use Rattle.pointers.specs.Tables.{Tables, image_in}
use Rattle.pointers.specs.declared.imageinfo.ImageInfo.{ImageInfo}

-- The address of a list that must not be odd.
unfoldable pub even_list : ℕ → Outcome ℕ
even_list va = choose (eqb (va % 2) 0) (value va) (absent OddList)

-- An entry size that is at least the least size.
unfoldable pub entry_size : ℕ → ℕ → Outcome ℕ
entry_size least size = choose (leb least size) (value size) (absent ShortEntry)

pub data Ask : Type 0 where
  -- tests of numbers, which use no byte: a + k within 64 bits; not 0; the two tests above
  sum64 : ℕ → ℕ → Ask
  nonzero : ℕ → Ask
  even : ℕ → Ask
  at_least : ℕ → ℕ → Ask
  -- a test of an address, which uses no byte either: k bytes can be read there
  readable : ℕ → ℕ → Ask
  -- numbers: a u32, u64 or i32 at i bytes from a place; the u64 at an address; the pick of a word, and of the word at an address
  u32_in : Place → ℕ → Ask
  u64_in : Place → ℕ → Ask
  i32_in : Place → ℕ → Ask
  u64_at : ℕ → Ask
  picked : ℕ → Ask
  picked_at : ℕ → Ask
  -- pointers: in a slot; its rebase alone; in the field at va + k, and the same or 0
  slot : ℕ → Ask
  rebase : ℕ → Ask
  pointer : ℕ → ℕ → Ask
  pointer_or0 : ℕ → ℕ → Ask
  -- texts: at an address; of a slot's bind, less its prefix
  string : ℕ → Ask
  symbol : ℕ → Ask
  -- the image info
  info : Ask

abbrev pub Answer : Ask → Type 0
Answer (sum64 va k) = ℕ
Answer (nonzero x) = ℕ
Answer (even va) = ℕ
Answer (at_least least size) = ℕ
Answer (readable va k) = Place
Answer (u32_in p i) = ℕ
Answer (u64_in p i) = ℕ
Answer (i32_in p i) = ℤ
Answer (u64_at va) = ℕ
Answer (picked w) = ℕ
Answer (picked_at a) = ℕ
Answer (slot a) = ℕ
Answer (rebase a) = ℕ
Answer (pointer va k) = ℕ
Answer (pointer_or0 va k) = ℕ
Answer (string va) = Text
Answer (symbol a) = Text
Answer info = ImageInfo

abbrev pub answer : Tables → (q : Ask) → Outcome (Answer q)
answer t (sum64 va k) = outcomes.sum64 va k
answer t (nonzero x) = outcomes.nonzero x
answer t (even va) = even_list va
answer t (at_least least size) = entry_size least size
answer t (readable va k) = places.readable (image_in t) va k
answer t (u32_in p i) = value (bytes.u32_in t p i)
answer t (u64_in p i) = value (bytes.u64_in t p i)
answer t (i32_in p i) = value (bytes.i32_in t p i)
answer t (u64_at va) = bytes.u64_at t va
answer t (picked w) = addresses.picked t.segments w
answer t (picked_at a) = bytes.picked_at t a
answer t (slot a) = slots.slot t a
answer t (rebase a) = slots.rebase t a
answer t (pointer va k) = slots.pointer t va k
answer t (pointer_or0 va k) = slots.pointer_or0 t va k
answer t (string va) = bytes.string t va
answer t (symbol a) = slots.symbol_at t a
answer t info = infos.image_info t.info
