-- Each mask of specs/Address.antt is the one that document 01 prints.
use Rattle.std.proofs.Common.{◌≡◌, ℕ, ◌+◌, ◌*◌, ◌/◌, ◌%◌, ◌^◌, ◌<◌, ap, ◌∙◌, arith, lit<}
use lib.Bits.{bit_and, and_mask, and_high, and_block}
use Rattle.reads.specs.Address.{stripped, data_arm64e, data64}

pub va_mask : (w : ℕ) → bit_and w 0x0000FFFFFFFFFFFF ≡ stripped w
unfolding stripped
va_mask w = and_mask w 48

pub fast_data_mask_64 : (w : ℕ) → bit_and w 0x0000007FFFFFFFF8 ≡ data64 w
unfolding data64
fast_data_mask_64 w = and_high w 36 3

high_part : (w : ℕ) → w ≡ w / 2 ^ 56 * 2 ^ 56 + w % 2 ^ 56
high_part w = omega arith

low_part : (w : ℕ) → w % 2 ^ 56 / 2 ^ 3 % 2 ^ 44 ≡ w / 2 ^ 3 % 2 ^ 44
low_part w = omega arith

below_56 : (w : ℕ) → w % 2 ^ 56 < 2 ^ 56
below_56 w = omega arith

-- The word is taken apart at bit 56, and each part masked by itself.
pub fast_data_mask_arm64e : (w : ℕ) → bit_and w 0x0F007FFFFFFFFFF8 ≡ data_arm64e w
unfolding data_arm64e
fast_data_mask_arm64e w =
    ap (λ n. bit_and n 0x0F007FFFFFFFFFF8) (high_part w)
    ∙ and_block 56 (w / 2 ^ 56) 15 (w % 2 ^ 56) 0x7FFFFFFFFFF8 (below_56 w) (lit< tt)
    ∙ rw (and_mask (w / 2 ^ 56) 4, and_high (w % 2 ^ 56) 44 3, low_part w)
