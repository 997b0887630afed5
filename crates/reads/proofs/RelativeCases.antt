-- Worked examples of signed offsets and of addresses, which compute.
use Rattle.std.proofs.Common.{◌≡◌, ◌-◌, ◌^◌, pos, negsuc, refl}
use Rattle.reads.specs.Outcome.{choose}
use Rattle.reads.specs.Signed.{twos}
use Rattle.reads.specs.Relative.{signed32, modulo64, relative, slot_address}

pub signed32_zero : signed32 0 ≡ pos 0
unfolding signed32 twos choose
signed32_zero = refl

pub signed32_greatest : signed32 0x7FFFFFFF ≡ pos (2 ^ 31 - 1)
unfolding signed32 twos choose
signed32_greatest = refl

-- negsuc n is -1 - n.
pub signed32_least : signed32 0x80000000 ≡ negsuc (2 ^ 31 - 1)
unfolding signed32 twos choose
signed32_least = refl

pub signed32_minus_one : signed32 0xFFFFFFFF ≡ negsuc 0
unfolding signed32 twos choose
signed32_minus_one = refl

pub relative_back : relative 0x1000 (signed32 0xFFFFFFFC) ≡ 0xFFC
unfolding relative modulo64 signed32 twos choose
relative_back = refl

pub relative_past_the_end : relative 0xFFFFFFFFFFFFFFFF (pos 2) ≡ 1
unfolding relative modulo64
relative_past_the_end = refl

pub relative_before_zero : relative 1 (signed32 0xFFFFFFFE) ≡ 0xFFFFFFFFFFFFFFFF
unfolding relative modulo64 signed32 twos choose
relative_before_zero = refl

pub slot_past_the_end : slot_address 0xFFFFFFFFFFFFFFF8 2 ≡ 8
unfolding slot_address
slot_past_the_end = refl

pub slot_of_a_product_over_64_bits : slot_address 0x1000 0x2000000000000001 ≡ 0x1008
unfolding slot_address
slot_of_a_product_over_64_bits = refl
