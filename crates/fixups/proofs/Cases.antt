-- A file of 212 bytes, computed: one `__TEXT` at 0x1000, a page of format 6 with a rebase, a bind of `_a` and a rebase; and changes of it.
use Rattle.std.proofs.Common.{◌≡◌, ℕ, List, [], ◌∷◌, take, set, replicate, refl}
use Rattle.reads.specs.Outcome.{value, refused, choose}
use Rattle.reads.specs.Place.{le, le_in}
use Rattle.pointers.specs.Question.{question}
use Rattle.pointers.specs.Symbol.{starts}
use Rattle.macho.specs.Commands.{headed, sectioned, fits, all_fit, asked_commands, of_kind}
use Rattle.macho.specs.Segments.{written}
use Rattle.macho.specs.Sections.{named}
use Rattle.fixups.specs.Imports.{name_of, bound_slot, zero_from, text_at, import_at}
use Rattle.fixups.specs.Chain.{step_of, origin_of, target_of, slot_of, rebase, entry_of, visit_of, chain}
use Rattle.fixups.specs.Starts.{joined, page_at, pages_from, known, segment_starts, first_starts, info_of, infos_from, image_starts, fixups_of, walk_of}
use Rattle.fixups.specs.Tables.{rows_of}
use Rattle.fixups.specs.Fixups.{base_of, fixups_from, fixups_in, fixups_found, pair, leaves, settled}
use Rattle.fixups.specs.declared.chain.Fixup.TheVariants.{Rebase, Bind}
use Rattle.reads.specs.declared.answer.Question.TheVariants.{RebaseTable, BindTable, Header, LoadCommands, FixupData, FixupSlot}

abbrev small : List ℕ
small =
    207 ∷ 250 ∷ 237 ∷ 254 ∷ 12 ∷ 0 ∷ 0 ∷ 1 ∷ 0 ∷ 0 ∷ 0 ∷ 0 ∷ 2 ∷ 0 ∷ 0 ∷ 0
    ∷ 2 ∷ 0 ∷ 0 ∷ 0 ∷ 88 ∷ 0 ∷ 0 ∷ 0 ∷ 0 ∷ 0 ∷ 0 ∷ 0 ∷ 0 ∷ 0 ∷ 0 ∷ 0
    ∷ 25 ∷ 0 ∷ 0 ∷ 0 ∷ 72 ∷ 0 ∷ 0 ∷ 0 ∷ 95 ∷ 95 ∷ 84 ∷ 69 ∷ 88 ∷ 84 ∷ 0 ∷ 0
    ∷ 0 ∷ 0 ∷ 0 ∷ 0 ∷ 0 ∷ 0 ∷ 0 ∷ 0 ∷ 0 ∷ 16 ∷ 0 ∷ 0 ∷ 0 ∷ 0 ∷ 0 ∷ 0
    ∷ 0 ∷ 16 ∷ 0 ∷ 0 ∷ 0 ∷ 0 ∷ 0 ∷ 0 ∷ 120 ∷ 0 ∷ 0 ∷ 0 ∷ 0 ∷ 0 ∷ 0 ∷ 0
    ∷ 24 ∷ 0 ∷ 0 ∷ 0 ∷ 0 ∷ 0 ∷ 0 ∷ 0 ∷ 7 ∷ 0 ∷ 0 ∷ 0 ∷ 7 ∷ 0 ∷ 0 ∷ 0
    ∷ 0 ∷ 0 ∷ 0 ∷ 0 ∷ 0 ∷ 0 ∷ 0 ∷ 0 ∷ 52 ∷ 0 ∷ 0 ∷ 128 ∷ 16 ∷ 0 ∷ 0 ∷ 0
    ∷ 144 ∷ 0 ∷ 0 ∷ 0 ∷ 68 ∷ 0 ∷ 0 ∷ 0 ∷ 16 ∷ 0 ∷ 0 ∷ 0 ∷ 176 ∷ 10 ∷ 16 ∷ 0
    ∷ 0 ∷ 0 ∷ 0 ∷ 0 ∷ 0 ∷ 0 ∷ 16 ∷ 128 ∷ 32 ∷ 0 ∷ 0 ∷ 0 ∷ 0 ∷ 0 ∷ 0 ∷ 0
    ∷ 0 ∷ 0 ∷ 0 ∷ 0 ∷ 28 ∷ 0 ∷ 0 ∷ 0 ∷ 60 ∷ 0 ∷ 0 ∷ 0 ∷ 64 ∷ 0 ∷ 0 ∷ 0
    ∷ 1 ∷ 0 ∷ 0 ∷ 0 ∷ 1 ∷ 0 ∷ 0 ∷ 0 ∷ 0 ∷ 0 ∷ 0 ∷ 0 ∷ 1 ∷ 0 ∷ 0 ∷ 0
    ∷ 8 ∷ 0 ∷ 0 ∷ 0 ∷ 24 ∷ 0 ∷ 0 ∷ 0 ∷ 64 ∷ 0 ∷ 6 ∷ 0 ∷ 0 ∷ 0 ∷ 0 ∷ 0
    ∷ 0 ∷ 0 ∷ 0 ∷ 0 ∷ 0 ∷ 0 ∷ 0 ∷ 0 ∷ 1 ∷ 0 ∷ 0 ∷ 0 ∷ 2 ∷ 2 ∷ 0 ∷ 0
    ∷ 0 ∷ 95 ∷ 97 ∷ 0 ∷ []

-- 0xAB000000_00001010, since the target counts from the image base.
pub found : fixups_found small ≡ value (Rebase (rebase 0x1000 0xAB00000000001010) ∷ Bind (bound_slot 0x1008 (name_of 209 2)) ∷ Rebase (rebase 0x1010 0x1020) ∷ [])
unfolding le_in le choose zero_from text_at import_at step_of origin_of target_of slot_of entry_of visit_of chain joined page_at pages_from known segment_starts first_starts info_of infos_from image_starts fixups_of walk_of headed sectioned fits all_fit asked_commands question of_kind named starts base_of fixups_from fixups_in fixups_found
found = refl

-- Another magic.
pub other_magic : fixups_found (set small 0 0) ≡ refused Header
unfolding le_in le choose zero_from text_at import_at step_of origin_of target_of slot_of entry_of visit_of chain joined page_at pages_from known segment_starts first_starts info_of infos_from image_starts fixups_of walk_of headed sectioned fits all_fit asked_commands question of_kind named starts base_of fixups_from fixups_in fixups_found
other_magic = refl

-- A third command is counted, and there is none.
pub third_command : fixups_found (set small 16 3) ≡ refused LoadCommands
unfolding le_in le choose zero_from text_at import_at step_of origin_of target_of slot_of entry_of visit_of chain joined page_at pages_from known segment_starts first_starts info_of infos_from image_starts fixups_of walk_of headed sectioned fits all_fit asked_commands question of_kind named starts base_of fixups_from fixups_in fixups_found
third_command = refl

-- A command of 8 bytes.
pub short_command : fixups_found (set small 108 8) ≡ refused FixupData
unfolding le_in le choose zero_from text_at import_at step_of origin_of target_of slot_of entry_of visit_of chain joined page_at pages_from known segment_starts first_starts info_of infos_from image_starts fixups_of walk_of headed sectioned fits all_fit asked_commands question of_kind named starts base_of fixups_from fixups_in fixups_found
short_command = refl

-- Import format 2.
pub other_imports : fixups_found (set small 164 2) ≡ refused FixupData
unfolding le_in le choose zero_from text_at import_at step_of origin_of target_of slot_of entry_of visit_of chain joined page_at pages_from known segment_starts first_starts info_of infos_from image_starts fixups_of walk_of headed sectioned fits all_fit asked_commands question of_kind named starts base_of fixups_from fixups_in fixups_found
other_imports = refl

-- Symbol format 1.
pub packed_symbols : fixups_found (set small 168 1) ≡ refused FixupData
unfolding le_in le choose zero_from text_at import_at step_of origin_of target_of slot_of entry_of visit_of chain joined page_at pages_from known segment_starts first_starts info_of infos_from image_starts fixups_of walk_of headed sectioned fits all_fit asked_commands question of_kind named starts base_of fixups_from fixups_in fixups_found
packed_symbols = refl

-- Pointer format 1.
pub other_pointers : fixups_found (set small 186 1) ≡ refused FixupData
unfolding le_in le choose zero_from text_at import_at step_of origin_of target_of slot_of entry_of visit_of chain joined page_at pages_from known segment_starts first_starts info_of infos_from image_starts fixups_of walk_of headed sectioned fits all_fit asked_commands question of_kind named starts base_of fixups_from fixups_in fixups_found
other_pointers = refl

-- A page start marked multiple.
pub several_starts : fixups_found (set small 203 128) ≡ refused FixupData
unfolding le_in le choose zero_from text_at import_at step_of origin_of target_of slot_of entry_of visit_of chain joined page_at pages_from known segment_starts first_starts info_of infos_from image_starts fixups_of walk_of headed sectioned fits all_fit asked_commands question of_kind named starts base_of fixups_from fixups_in fixups_found
several_starts = refl

-- Page start 0xFFFF.
pub no_chain : fixups_found (set (set small 202 255) 203 255) ≡ value []
unfolding le_in le choose zero_from text_at import_at step_of origin_of target_of slot_of entry_of visit_of chain joined page_at pages_from known segment_starts first_starts info_of infos_from image_starts fixups_of walk_of headed sectioned fits all_fit asked_commands question of_kind named starts base_of fixups_from fixups_in fixups_found
no_chain = refl

-- Seg_info_offset 0.
pub no_starts : fixups_found (set small 176 0) ≡ value []
unfolding le_in le choose zero_from text_at import_at step_of origin_of target_of slot_of entry_of visit_of chain joined page_at pages_from known segment_starts first_starts info_of infos_from image_starts fixups_of walk_of headed sectioned fits all_fit asked_commands question of_kind named starts base_of fixups_from fixups_in fixups_found
no_starts = refl

-- The last slot goes on by 12 steps, to the end of the page.
pub leaves_page : fixups_found (set small 142 96) ≡ refused FixupSlot
unfolding le_in le choose zero_from text_at import_at step_of origin_of target_of slot_of entry_of visit_of chain joined page_at pages_from known segment_starts first_starts info_of infos_from image_starts fixups_of walk_of headed sectioned fits all_fit asked_commands question of_kind named starts base_of fixups_from fixups_in fixups_found
leaves_page = refl

-- Ordinal 1 of one import.
pub no_import : fixups_found (set small 128 1) ≡ refused FixupSlot
unfolding le_in le choose zero_from text_at import_at step_of origin_of target_of slot_of entry_of visit_of chain joined page_at pages_from known segment_starts first_starts info_of infos_from image_starts fixups_of walk_of headed sectioned fits all_fit asked_commands question of_kind named starts base_of fixups_from fixups_in fixups_found
no_import = refl

-- The name's zero is cut off.
pub no_zero : fixups_found (take 211 small) ≡ refused FixupData
unfolding le_in le choose zero_from text_at import_at step_of origin_of target_of slot_of entry_of visit_of chain joined page_at pages_from known segment_starts first_starts info_of infos_from image_starts fixups_of walk_of headed sectioned fits all_fit asked_commands question of_kind named starts base_of fixups_from fixups_in fixups_found
no_zero = refl

-- No chained fixups.
pub no_command : fixups_found (set small 107 0) ≡ value []
unfolding le_in le choose zero_from text_at import_at step_of origin_of target_of slot_of entry_of visit_of chain joined page_at pages_from known segment_starts first_starts info_of infos_from image_starts fixups_of walk_of headed sectioned fits all_fit asked_commands question of_kind named starts base_of fixups_from fixups_in fixups_found
no_command = refl

-- Its two rebases and its bind, in tables that have a word to spare; 6 without room for the bind, and both tables as they were.
pub tables_filled : settled (fixups_found small) (replicate 5 7) (replicate 5 7)
    ≡ leaves (value (pair 2 1)) (0x1000 ∷ 0xAB00000000001010 ∷ 0x1010 ∷ 0x1020 ∷ 7 ∷ []) (0x1008 ∷ 209 ∷ 2 ∷ 0 ∷ 7 ∷ [])
unfolding settled rows_of written le_in le choose zero_from text_at import_at step_of origin_of target_of slot_of entry_of visit_of chain joined page_at pages_from known segment_starts first_starts info_of infos_from image_starts fixups_of walk_of headed sectioned fits all_fit asked_commands question of_kind named starts base_of fixups_from fixups_in fixups_found
tables_filled = refl

pub short_binds : settled (fixups_found small) (replicate 5 7) (replicate 3 7) ≡ leaves (refused BindTable) (replicate 5 7) (replicate 3 7)
unfolding settled rows_of written le_in le choose zero_from text_at import_at step_of origin_of target_of slot_of entry_of visit_of chain joined page_at pages_from known segment_starts first_starts info_of infos_from image_starts fixups_of walk_of headed sectioned fits all_fit asked_commands question of_kind named starts base_of fixups_from fixups_in fixups_found
short_binds = refl

-- 5 before 6.
pub short_both : settled (fixups_found small) (replicate 3 7) (replicate 3 7) ≡ leaves (refused RebaseTable) (replicate 3 7) (replicate 3 7)
unfolding settled rows_of written le_in le choose zero_from text_at import_at step_of origin_of target_of slot_of entry_of visit_of chain joined page_at pages_from known segment_starts first_starts info_of infos_from image_starts fixups_of walk_of headed sectioned fits all_fit asked_commands question of_kind named starts base_of fixups_from fixups_in fixups_found
short_both = refl
