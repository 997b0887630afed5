-- Worked cases of what is used, read by read: laws alone do not say which reads count (a definition by which a test of readability used bytes
-- would meet them too).
use Prim.Native.Nat.{ℕ, ◌^◌, ◌-◌}
use mathlib.Core.Path.{◌≡◌, refl}
use mathlib.Core.List.{List, [], ◌∷◌, ◌++◌, flat_map}
use lib.ListN.{replicate}
use Rattle.reads.specs.Outcome.{value, choose, sum64, nonzero}
use Rattle.reads.specs.Files.{file_of}
use Rattle.reads.specs.Place.{le, readable_at, readable, word, word_in, le_in}
use Rattle.reads.specs.Address.{stripped}
use Rattle.reads.specs.Segment.{rows, ends, holds, placed, lookup}
use Rattle.reads.specs.Text.{text, text_from, text_in, read_from}
use Rattle.reads.specs.Utf8.{judge, utf8}
use Rattle.pointers.specs.Chain.{follow_from, follow}
use Rattle.pointers.specs.ImageInfo.{bit}
use Rattle.pointers.specs.Slot.{rebase_at, stored, resolve, pointer_at, pointer_or0_at, rebase}
use Rattle.pointers.specs.Symbol.{ascii}
use Rattle.pointers.specs.Tables.{Tables, tables_of}
use Rattle.records.specs.Ask.{even_list, entry_size}
use Rattle.records.specs.Asks.{asks}
use Rattle.records.specs.Decode.{slot}
use Rattle.records.specs.List.{method_rows, decode_list}
use Rattle.records.specs.declared.method.Selectors.TheVariants.{Direct}
use Rattle.records.specs.Row.{decode_offset, decode_ivar, decode_property, decode_small_method}
use Rattle.records.specs.declared.list.ListKind.TheVariants.{Methods}
use Rattle.listing.proofs.LittleEndian.{bytes_of, eights}
use Rattle.ranges.specs.Range.{range, lies, covers}
use Rattle.ranges.specs.Runs.{run, ended, begun, runs, runs_from, merged}
use Rattle.used.specs.Used.{uses_word, uses_field, uses_slot_in, uses_pointer_in, uses_text, used}

-- One segment, of one file.
abbrev image : ℕ → ℕ → List ℕ → Tables
image vmaddr size file = tables_of (file ∷ []) (vmaddr ∷ size ∷ 0 ∷ size ∷ 0 ∷ []) [] [] [] [] []

-- A method list whose entry size is 23 is absent: both words of its header are used before the size is judged.
pub short_entry_uses : used (image 0x1000 8 (bytes_of 4 23 ++ bytes_of 4 3)) (decode_list Methods 0x1000) ≡ range 0 0 4 ∷ range 0 4 4 ∷ []
unfolding asks flat_map decode_list even_list entry_size method_rows bit uses_field file_of nonzero readable readable_at lookup rows ends holds placed sum64 word_in le_in le choose
short_entry_uses = refl

-- A small method whose imp field passes 64 bits is skipped: all three words are used before field addresses are tested.
pub small_over_uses : used (image (2 ^ 64 - 16) 15 (replicate 20 0)) (decode_small_method (2 ^ 64 - 8) Direct) ≡ range 0 8 4 ∷ range 0 12 4 ∷ range 0 16 4 ∷ []
unfolding asks flat_map decode_small_method uses_field file_of readable readable_at lookup rows ends holds placed sum64 choose
small_over_uses = refl

-- A property whose name begins at the file's end: its two slots, and of the name nothing.
pub name_at_end_uses : merged (16 ∷ []) (used (image 0x1000 32 (eights (0x1010 ∷ 0 ∷ []))) (decode_property 0x1000)) ≡ range 0 0 16 ∷ []
unfolding asks flat_map decode_property uses_slot_in uses_pointer_in uses_word uses_text file_of readable readable_at lookup rows ends holds placed sum64 nonzero resolve rebase_at follow follow_from stored stripped word pointer_or0_at text_in text_from read_from text le choose merged runs_from runs run ended begun covers lies
name_at_end_uses = refl

-- Of the same property with a name, the name's zero byte too; without the bytes beyond it.
pub zero_uses : used (image 0x1000 20 (eights (0x1010 ∷ 0 ∷ []) ++ (ascii "ab" ++ (0 ∷ 7 ∷ [])))) (decode_property 0x1000) ≡ range 0 0 8 ∷ range 0 8 8 ∷ range 0 16 3 ∷ []
unfolding asks flat_map decode_property uses_slot_in uses_pointer_in uses_word uses_text file_of readable readable_at lookup rows ends holds placed sum64 nonzero resolve rebase_at follow follow_from stored stripped word pointer_or0_at text_in text_from read_from text utf8 judge le choose
zero_uses = refl

-- An ivar without offset: its three slots, the two words, and the name; the type's address is 0.
pub no_offset_uses : used (image 0x1000 34 (eights (0 ∷ 0x1020 ∷ 0 ∷ []) ++ (bytes_of 4 3 ++ (bytes_of 4 8 ++ (ascii "x" ++ (0 ∷ [])))))) (decode_ivar 0x1000)
    ≡ range 0 0 8 ∷ range 0 8 8 ∷ range 0 16 8 ∷ range 0 24 4 ∷ range 0 28 4 ∷ range 0 32 2 ∷ []
unfolding asks flat_map decode_ivar decode_offset uses_slot_in uses_pointer_in uses_word uses_field uses_text file_of readable readable_at lookup rows ends holds placed sum64 nonzero resolve rebase_at follow follow_from stored stripped word pointer_at pointer_or0_at text_in text_from read_from text utf8 judge word_in le_in le choose
no_offset_uses = refl

-- A slot that has a rebase uses nothing, whatever stands there.
pub rebased_uses : (t : Tables) (a target : ℕ) → rebase t a ≡ value target → used t (slot a) ≡ []
unfolding asks flat_map uses_slot_in
rebased_uses t a target e = rw e
