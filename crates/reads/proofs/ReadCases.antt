-- Worked examples of lookups, reads and picks: document 01's cases among them (◆).
use Rattle.std.proofs.Common.{◌≡◌, ℕ, true, false, List, [], ◌∷◌, refl}
use Rattle.reads.specs.Outcome.{value, absent, choose, sum64, nonzero}
use Rattle.reads.specs.declared.answer.Reason.TheVariants.{Unmapped, NoData, Unreadable}
use Rattle.reads.specs.Files.{is_lent, file_of, longest}
use Rattle.reads.specs.Segment.{rows, ends, holds, place_at, placed, lookup, mapped_size, ends_in_file, carries, address_of}
use Rattle.reads.specs.Place.{image_of, le, readable_at, readable, word}
use Rattle.reads.specs.Address.{data_arm64e, data64, mapped, picked_wide, picked}

-- 0x1000, 0x100, 0, 0x80 in file 0, and a later segment, in file 2, that has what the first has no bytes for.
abbrev table : List ℕ
table = 0x1000 ∷ 0x100 ∷ 0 ∷ 0x80 ∷ 0 ∷ 0x1000 ∷ 0x200 ∷ 0 ∷ 0x200 ∷ 2 ∷ []

-- ◆ the last byte of the first segment's file part
in_file_lem : lookup (rows table) 0x107F ≡ value (place_at 0 0x7F)
unfolding lookup rows ends holds placed sum64 choose
in_file_lem = refl

-- ◆ absent though a later segment has it
past_file : lookup (rows table) 0x1080 ≡ absent Unmapped
unfolding lookup rows ends holds placed sum64 choose
past_file = refl

-- past the first segment's addresses the later one answers
later : lookup (rows table) 0x1100 ≡ value (place_at 2 0x100)
unfolding lookup rows ends holds placed sum64 choose
later = refl

-- a segment whose end exceeds 64 bits ends the lookup
over_64_ends : lookup (rows (0xFFFFFFFFFFFFFFFF ∷ 1 ∷ 0 ∷ 1 ∷ 0 ∷ table)) 0x1000 ≡ absent Unmapped
unfolding lookup rows ends holds placed sum64 choose
over_64_ends = refl

-- filesize 0 is passed over
passed_over : lookup (rows (0x1000 ∷ 0x100 ∷ 7 ∷ 0 ∷ 1 ∷ table)) 0x1000 ≡ value (place_at 0 0)
unfolding lookup rows ends holds placed sum64 choose
passed_over = refl

-- fileoff and the distance exceed 64 bits
place_over_64 : lookup (rows (0x1000 ∷ 0x100 ∷ 0xFFFFFFFFFFFFFFFF ∷ 0x100 ∷ 0 ∷ [])) 0x1001 ≡ absent Unmapped
unfolding lookup rows ends holds placed sum64 choose
place_over_64 = refl

offset_back : address_of (rows table) 0 0x7F ≡ value 0x107F
unfolding address_of rows ends_in_file carries mapped_size sum64 choose
offset_back = refl

-- an offset is one of its own file: the later segment maps file 2 from the same offset on
offset_back_of_file : (address_of (rows table) 2 0x80 ≡ value 0x1080) × (address_of (rows table) 0 0x80 ≡ absent Unmapped)
unfolding address_of rows ends_in_file carries mapped_size sum64 choose
offset_back_of_file = (refl, refl)

-- only the first byte of a read is looked up: the second lies past the segment
beyond : word (image_of ((1 ∷ 2 ∷ 3 ∷ []) ∷ []) (0x1000 ∷ 1 ∷ 0 ∷ 1 ∷ 0 ∷ [])) 2 0x1000 ≡ value 0x201
unfolding word readable readable_at file_of le lookup rows ends holds placed sum64 choose
beyond = refl

-- the bytes of a read lie in the file that the lookup ends in: file 1 has both, file 0 has one
of_its_file : word (image_of ((1 ∷ []) ∷ (7 ∷ 8 ∷ []) ∷ []) (0x1000 ∷ 2 ∷ 0 ∷ 2 ∷ 1 ∷ [])) 2 0x1000 ≡ value 0x807
unfolding word readable readable_at file_of le lookup rows ends holds placed sum64 choose
of_its_file = refl

not_of_another : word (image_of ((1 ∷ []) ∷ (7 ∷ 8 ∷ []) ∷ []) (0x1000 ∷ 2 ∷ 0 ∷ 2 ∷ 0 ∷ [])) 2 0x1000 ≡ absent Unreadable
unfolding word readable readable_at file_of le lookup rows ends holds placed sum64 choose
not_of_another = refl

-- an empty file that is lent has a number, a fifth has none; the longest of three
lent : (is_lent ((1 ∷ []) ∷ [] ∷ []) 1 ≡ true) × (is_lent ((1 ∷ []) ∷ [] ∷ []) 2 ≡ false) × (longest ((1 ∷ []) ∷ (2 ∷ 3 ∷ []) ∷ [] ∷ []) ≡ 2)
unfolding longest
lent = (refl, refl, refl)

-- the file's last bytes, and one too many
last_bytes : readable_at 3 (place_at 0 1) 2 ≡ value (place_at 0 1)
unfolding readable_at choose
last_bytes = refl

too_many : readable_at 3 (place_at 0 2) 2 ≡ absent Unreadable
unfolding readable_at choose
too_many = refl

-- the wide mask looks up
picks_wide : picked table 0x0000000000001007 ≡ value 0x1000
unfolding picked picked_wide nonzero mapped data_arm64e lookup rows ends holds placed sum64 choose
picks_wide = refl

-- it does not, so the other mask is taken, mapped or not
picks_narrow : picked table 0x0100000000009007 ≡ value 0x9000
unfolding picked picked_wide nonzero mapped data_arm64e data64 lookup rows ends holds placed sum64 choose
picks_narrow = refl

picks_none : picked table 7 ≡ absent NoData
unfolding picked picked_wide nonzero mapped data_arm64e data64 choose
picks_none = refl
