-- Worked examples of LEB128 numbers, which compute: the tables of DWARF 5, section 7.6, and the ends of 64 bits.
use Rattle.std.proofs.Common.{◌≡◌, ℕ, ◌-◌, ◌^◌, List, [], ◌∷◌, ◌++◌, map, pos, negsuc, refl}
use Rattle.reads.specs.Outcome.{value, absent, choose}
use Rattle.reads.specs.declared.answer.Reason.TheVariants.{Unreadable, Malformed}
use Rattle.reads.specs.Signed.{twos}
use Rattle.reads.specs.Leb128.{digit_count, unsigned_digits, negative, signed_digits, within64, within_signed64, uleb_of, sleb_of, uleb128, sleb128, leb}

abbrev unsigned_table : List (List ℕ)
unsigned_table = (0x02 ∷ []) ∷ (0x7f ∷ []) ∷ (0x80 ∷ 0x01 ∷ []) ∷ (0x81 ∷ 0x01 ∷ []) ∷ (0xb9 ∷ 0x64 ∷ []) ∷ []

pub uleb128_table : map uleb128 unsigned_table
    ≡ value (leb 2 1) ∷ value (leb 127 1) ∷ value (leb 128 2) ∷ value (leb 129 2)
    ∷ value (leb 12857 2) ∷ []
unfolding uleb128 digit_count uleb_of within64 unsigned_digits choose
uleb128_table = refl

abbrev signed_table : List (List ℕ)
signed_table =
    (0x02 ∷ []) ∷ (0x7e ∷ []) ∷ (0xff ∷ 0x00 ∷ []) ∷ (0x81 ∷ 0x7f ∷ []) ∷ (0x80 ∷ 0x01 ∷ []) ∷ (0x80 ∷ 0x7f ∷ [])
    ∷ (0xff ∷ 0x7e ∷ []) ∷ []

-- negsuc n is -1 - n.
pub sleb128_table : map sleb128 signed_table
    ≡ value (leb (pos 2) 1) ∷ value (leb (negsuc 1) 1) ∷ value (leb (pos 127) 2)
    ∷ value (leb (negsuc 126) 2) ∷ value (leb (pos 128) 2) ∷ value (leb (negsuc 127) 2)
    ∷ value (leb (negsuc 128) 2) ∷ []
unfolding sleb128 digit_count sleb_of within_signed64 signed_digits negative unsigned_digits twos choose
sleb128_table = refl

-- Nine digits of seven bits.
abbrev nine : ℕ → List ℕ
nine b = b ∷ b ∷ b ∷ b ∷ b ∷ b ∷ b ∷ b ∷ b ∷ []

pub uleb128_greatest : uleb128 (nine 0xff ++ 0x01 ∷ []) ≡ value (leb (2 ^ 64 - 1) 10)
unfolding uleb128 digit_count uleb_of within64 unsigned_digits choose
uleb128_greatest = refl

pub uleb128_over : uleb128 (nine 0x80 ++ 0x02 ∷ []) ≡ absent Malformed
unfolding uleb128 digit_count uleb_of within64 unsigned_digits choose
uleb128_over = refl

pub uleb128_padded : uleb128 (0x85 ∷ nine 0x80 ++ nine 0x80 ++ 0x00 ∷ 0x07 ∷ []) ≡ value (leb 5 20)
unfolding uleb128 digit_count uleb_of within64 unsigned_digits choose
uleb128_padded = refl

pub uleb128_cut : uleb128 (0x80 ∷ 0x80 ∷ []) ≡ absent Unreadable
unfolding uleb128 digit_count uleb_of within64 unsigned_digits choose
uleb128_cut = refl

pub sleb128_greatest : sleb128 (nine 0xff ++ 0x00 ∷ []) ≡ value (leb (pos (2 ^ 63 - 1)) 10)
unfolding sleb128 digit_count sleb_of within_signed64 signed_digits negative unsigned_digits twos choose
sleb128_greatest = refl

pub sleb128_over : sleb128 (nine 0x80 ++ 0x01 ∷ []) ≡ absent Malformed
unfolding sleb128 digit_count sleb_of within_signed64 signed_digits negative unsigned_digits twos choose
sleb128_over = refl

pub sleb128_least : sleb128 (nine 0x80 ++ 0x7f ∷ []) ≡ value (leb (negsuc (2 ^ 63 - 1)) 10)
unfolding sleb128 digit_count sleb_of within_signed64 signed_digits negative unsigned_digits twos choose
sleb128_least = refl

pub sleb128_under : sleb128 (nine 0xff ++ 0x7e ∷ []) ≡ absent Malformed
unfolding sleb128 digit_count sleb_of within_signed64 signed_digits negative unsigned_digits twos choose
sleb128_under = refl

pub sleb128_padded : sleb128 (0xfe ∷ nine 0xff ++ nine 0xff ++ 0x7f ∷ []) ≡ value (leb (negsuc 1) 20)
unfolding sleb128 digit_count sleb_of within_signed64 signed_digits negative unsigned_digits twos choose
sleb128_padded = refl

pub sleb128_cut : sleb128 (0xff ∷ []) ≡ absent Unreadable
unfolding sleb128 digit_count sleb_of within_signed64 signed_digits negative unsigned_digits twos choose
sleb128_cut = refl
