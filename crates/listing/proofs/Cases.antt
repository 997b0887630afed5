-- The cases that document 01 marks with ◆, as one table, and one statement over all of it: the definitions give what document 01 says, and
-- of alignments what note 8 says in its place.
use Rattle.std.proofs.Common.{◌≡◌, ℕ, ◌≤◌, List, [], ◌∷◌, ◌++◌, length, replicate, sym, refl, ◌∙◌, arith}
use Prim.Native.String.{String}
use Rattle.reads.specs.Outcome.{Outcome, value, absent, choose, sum64, nonzero, text_of}
use Rattle.reads.specs.Files.{file_of}
use Rattle.reads.specs.Place.{part, le, readable_at, readable, word, word_in, le_in}
use Rattle.reads.specs.Address.{stripped}
use Rattle.reads.specs.Segment.{rows, ends, holds, place_at, placed, lookup}
use Rattle.reads.specs.Text.{text, text_from, text_in}
use Rattle.reads.specs.Utf8.{judge, utf8}
use Rattle.reads.specs.declared.answer.Reason.TheVariants.{Unmapped, ShortEntry}
use Rattle.pointers.specs.Chain.{follow_from, follow}
use Rattle.pointers.specs.ImageInfo.{info_of, image_info, bit}
use Rattle.pointers.specs.Open.{opening}
use Rattle.pointers.specs.Section.{section_at}
use Rattle.pointers.specs.Slot.{rebase_at, stored, resolve, pointer_at, pointer_or0_at}
use Rattle.pointers.specs.Symbol.{ascii}
use Rattle.pointers.specs.Tables.{Tables, tables_of, with_index, reading_new}
use Rattle.pointers.proofs.OpenedTables.{opened_info}
use Rattle.records.specs.Ask.{even_list, entry_size}
use Rattle.records.specs.List.{method_rows, list_at, decode_list}
use Rattle.records.specs.Row.{alignment_of, aligned_of, decode_offset, ivar_at, decode_ivar}
use Rattle.walks.specs.Slots.{slot_count}
use Rattle.records.specs.declared.ivar.Ivar.{Ivar}
use Rattle.records.specs.declared.list.Layout.{Layout}
use Rattle.records.specs.declared.list.ListKind.TheVariants.{Methods}
use Rattle.records.specs.declared.list.RowKind.{RowKind}
use Rattle.records.specs.declared.list.RowKind.TheVariants as row_kind
use Rattle.records.proofs.HubImage as image
use Rattle.walks.proofs.HubRun.{hub, hub_opened}
use Rattle.listing.specs.Bundle.{words_from, bundle_fits, bundle_counts, bundled}
use Rattle.listing.specs.ListingRun.{Lists}
use Rattle.listing.specs.PlainListing.{with_row, without_row, event, plain_events, plain_listing}
use Rattle.listing.specs.declared.bundle.Counts.{Counts}
use Rattle.listing.proofs.HubListing.{hub_events, five_lines, hub_listing}
use Rattle.listing.proofs.LittleEndian.{bytes_of, eights}
use Rattle.listing.proofs.WholeListing.{lists_with_room}
use Rattle.std.specs.Prelude.{None}

-- A case: its name, what the definitions give, and what the documents say.
pub data Case : Type 1 where
  case : {A : Type 0} → String → A → A → Case

abbrev pub Holds : Case → Type 0
Holds (case name given said) = given ≡ said

abbrev pub AllHold : List Case → Type 0
AllHold [] = Unit {0}
AllHold (c ∷ cs) = Holds c × AllHold cs

both_hold : (cs ds : List Case) → AllHold cs → AllHold ds → AllHold (cs ++ ds)
both_hold [] ds h g = g
both_hold (c ∷ cs) ds h g = (h.0, both_hold cs ds h.1 g)

-- ◆ the listing's bundle: one segment, no rebase, one bind, 191 bytes of file 0 and none of the others; all four ends 0; image info 0; segment; sections, of
-- which class_list is present; bind; file 0.
abbrev pub hub_bundle : List ℕ
hub_bundle =
    eights (1 ∷ 0 ∷ 1 ∷ 191 ∷ 0 ∷ 0 ∷ 0 ∷ 0 ∷ 0 ∷ 0 ∷ 0 ∷ [])
    ++ (replicate 8 0
    ++ (eights (0x1000 ∷ 191 ∷ 0 ∷ 191 ∷ 0 ∷ [])
    ++ (eights (1 ∷ 0x10A0 ∷ 8 ∷ 0 ∷ 0 ∷ 0 ∷ 0 ∷ 0 ∷ 0 ∷ 0 ∷ 0 ∷ 0 ∷ 0 ∷ 0 ∷ 0 ∷ [])
    ++ (eights (0x1008 ∷ 168 ∷ 22 ∷ 0 ∷ [])
    ++ image.bytes))))

abbrev pub hub_counts : Counts
hub_counts = record { segments = 1; rebases = 0; binds = 1; image0 = 191; image1 = 0; image2 = 0; image3 = 0 }

-- The bundle is accepted, its tables are those of `hub`, beside the index that opening leaves, and opening accepts them. The five lines;
-- the two entries that are settled; the texts that the lines hold.
abbrev pub listing_cases : List Case
listing_cases =
    case "listing: question BundleLength" (bundle_counts hub_bundle) (value hub_counts)
    ∷ case "listing: hub_tables" (bundled hub_bundle hub_counts hub.index) hub
    ∷ case "listing: opening" (opening (with_index hub hub_opened.index_before)) (value (info_of 0 0))
    ∷ case "listing: lines" (plain_listing hub) (value five_lines)
    ∷ case "listing: settling steps" (plain_events hub) (value (event 0 0 (with_row 0) ∷ event 0 0 (without_row 1 Unmapped) ∷ []))
    ∷ case "listing: superclass name" (part image.bytes 182 8) (ascii "NSObject")
    ∷ case "listing: class name" (part image.bytes 0x90 3) (ascii "Hub")
    ∷ case "listing: selector" (part image.bytes 0x94 2) (ascii "up")
    ∷ case "listing: types" (part image.bytes 0x97 1) (ascii "v")
    ∷ []

hub_accepted : bundle_counts hub_bundle ≡ value hub_counts
unfolding file_of bundle_counts bundle_fits word_in le_in le choose image.counted
hub_accepted = refl

hub_tables : bundled hub_bundle hub_counts hub.index ≡ hub
unfolding file_of words_from word_in le_in le choose image.counted
hub_tables = refl

hub_opens : opening (with_index hub hub_opened.index_before) ≡ value (info_of 0 0)
unfolding image_info le choose
hub_opens = hub_opened.accepted ∙ sym (opened_info hub hub_opened)

listing_holds : AllHold listing_cases
unfolding image.counted
listing_holds = (hub_accepted, (hub_tables, (hub_opens, (hub_listing, (hub_events, (refl, (refl, (refl, (refl, tt)))))))))

-- One segment at 0x1000 that maps the whole of one file.
abbrev whole_image : List ℕ → Tables
whole_image file = tables_of (file ∷ []) (0x1000 ∷ length file ∷ 0 ∷ length file ∷ 0 ∷ []) [] [] [] [] []

-- The method list at 0x1000 whose header has this entry word and the count 3.
abbrev method_list : ℕ → Outcome Layout
method_list w = list_at (whole_image (bytes_of 4 w ++ bytes_of 4 3)) Methods 0x1000

abbrev layout : ℕ → RowKind → Layout
layout size kind = record { base = 0x1008; size = size; count = 3; kind = kind }

-- The segment 0x1000, 0x100, 0, 0x80, and a later one.
abbrev later_segment : List ℕ
later_segment = 0x1000 ∷ 0x200 ∷ 0 ∷ 0x200 ∷ 0 ∷ []

abbrev segments : List ℕ
segments = 0x1000 ∷ 0x100 ∷ 0 ∷ 0x80 ∷ 0 ∷ later_segment

-- An ivar at 0x1000 with the alignment 0x100: no offset, the name at 0x1020, no type, size 8.
abbrev ivar : List ℕ
ivar = eights (0 ∷ 0x1020 ∷ 0 ∷ []) ++ bytes_of 4 0x100 ++ bytes_of 4 8 ++ ascii "x" ++ 0 ∷ []

abbrev unaligned : Ivar
unaligned =
    record {
      name = text_of 0 0x20 1;
      type_encoding = text_of 0 0 0;
      offset = None;
      size = 8;
      log2_alignment = None;
      aligned = None;
    }

abbrev pub edge_cases : List Case
edge_cases =
    case "entry word 27: legacy, 24" (method_list 27) (value (layout 24 row_kind.Legacy))
    ∷ case "entry word 23: absent" (method_list 23) (absent ShortEntry)
    ∷ case "entry word 0x8000000C: small" (method_list 0x8000000C) (value (layout 12 row_kind.SmallIndirect))
    ∷ case "entry word 0x80000008: absent" (method_list 0x80000008) (absent ShortEntry)
    ∷ case "segment 0x1000, 0x100, 0, 0x80: 0x107F gives 0x7F" (lookup (rows segments) 0x107F) (value (place_at 0 0x7F))
    ∷ case "0x1080: absent" (lookup (rows segments) 0x1080) (absent Unmapped)
    ∷ case "0x1080: the later_segment segment has it" (lookup (rows later_segment) 0x1080) (value (place_at 0 0x80))
    ∷ case "alignment 0x100: none" (alignment_of 0x100) None
    ∷ case "an ivar with the alignment 0x100: none" (ivar_at (whole_image ivar) 0x1000) (value unaligned)
    ∷ []

edges_hold : AllHold edge_cases
unfolding file_of decode_list even_list entry_size method_rows bit nonzero readable readable_at lookup rows ends holds placed sum64 word_in le_in le choose alignment_of aligned_of decode_offset decode_ivar resolve rebase_at follow follow_from stored stripped word pointer_at pointer_or0_at text_in text_from text utf8 judge
edges_hold = (refl, (refl, (refl, (refl, (refl, (refl, (refl, (refl, (refl, tt)))))))))

abbrev pub cases : List Case
cases = listing_cases ++ edge_cases

pub cases_hold : AllHold cases
cases_hold = both_hold listing_cases edge_cases listing_holds edges_hold

-- The steps of the listing over these tables say the five lines and settle the two entries, with any ledger that has a word.
pub hub_steps_say : (l : List ℕ) → 1 ≤ length l → Lists reading_new hub l five_lines (event 0 0 (with_row 0) ∷ event 0 0 (without_row 1 Unmapped) ∷ [])
hub_steps_say l room =
    let classes : slot_count hub.sections 0 1 ≡ 1 = unfold slot_count section_at choose in refl in
    let categories : slot_count hub.sections 2 3 ≡ 0 = unfold slot_count section_at choose in refl in
    lists_with_room hub hub_opened l (rw classes room) (rw categories (omega arith)) five_lines (event 0 0 (with_row 0) ∷ event 0 0 (without_row 1 Unmapped) ∷ []) hub_listing hub_events
