-- The image info (objc-abi.h, objc_image_info; imageinfo.rs): version and flags, four bytes each.
use Rattle.std.specs.Prelude.{ℕ, ◌/◌, ◌%◌, ◌^◌, Bool, List, leb, eqb, length}
use Rattle.reads.specs.Outcome.{Outcome, value, absent, choose}
use Rattle.reads.specs.declared.answer.Reason.TheVariants.{Unreadable}
use Rattle.reads.specs.Place.{le, part}
use Rattle.pointers.specs.declared.imageinfo.ImageInfo.{ImageInfo}

abbrev pub info_of : ℕ → ℕ → ImageInfo
info_of version flags = record { version = version; flags = flags }

-- Fewer than 8 bytes cannot be read.
unfoldable pub image_info : List ℕ → Outcome ImageInfo
image_info body = choose (leb 8 (length body)) (value (info_of (le (part body 0 4)) (le (part body 4 4)))) (absent Unreadable)

-- Bit k of a word of flags.
unfoldable pub bit : ℕ → ℕ → Bool
bit k flags = eqb (flags / 2 ^ k % 2) 1

-- The Swift versions (objc-abi.h): the unstable one in bits 8 to 15, the stable one in bits 16 to 31.
unfoldable pub swift_unstable : ℕ → ℕ
swift_unstable flags = flags / 2 ^ 8 % 2 ^ 8

unfoldable pub swift_stable : ℕ → ℕ
swift_stable flags = flags / 2 ^ 16 % 2 ^ 16
