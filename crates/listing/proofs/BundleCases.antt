-- Worked examples of question BundleLength and of a bundle's parts.
use Rattle.std.proofs.Common.{◌≡◌, ℕ, ◌+◌, List, [], ◌∷◌, ◌++◌, replicate, refl}
use Rattle.reads.specs.Outcome.{value, refused, choose}
use Rattle.reads.specs.Place.{le, le_in}
use Rattle.pointers.specs.Tables.{tables_of}
use Rattle.listing.specs.Bundle.{words_from, ranges_of, bundle_fits, bundle_counts, bundled}
use Rattle.listing.specs.declared.bundle.Counts.{Counts}
use Rattle.reads.specs.declared.answer.Question.TheVariants.{BundleLength}

abbrev seven_counts : ℕ → ℕ → ℕ → ℕ → ℕ → ℕ → ℕ → Counts
seven_counts segments rebases binds image0 image1 image2 image3 =
    record { segments = segments; rebases = rebases; binds = binds; image0 = image0; image1 = image1; image2 = image2; image3 = image3 }

abbrev zeros : ℕ → List ℕ
zeros k = replicate k 0

-- No segment, rebase or bind, and no file with a byte: 96 bytes and the section table's 120.
pub none_of_each : bundle_counts (zeros 216) ≡ value (seven_counts 0 0 0 0 0 0 0)
unfolding bundle_counts bundle_fits le_in le choose
none_of_each = refl

pub one_byte_less : bundle_counts (zeros 215) ≡ refused BundleLength
unfolding bundle_counts bundle_fits le_in le choose
one_byte_less = refl

pub one_byte_more : bundle_counts (zeros 217) ≡ refused BundleLength
unfolding bundle_counts bundle_fits le_in le choose
one_byte_more = refl

pub no_bytes : bundle_counts [] ≡ refused BundleLength
unfolding bundle_counts bundle_fits le_in le choose
no_bytes = refl

-- 2^61 segments: the 5 x 2^64 bytes of their table are 0 modulo 2^64.
pub product_over_64_bits : bundle_counts (zeros 7 ++ (0x20 ∷ zeros 208)) ≡ refused BundleLength
unfolding bundle_counts bundle_fits le_in le choose
product_over_64_bits = refl

-- Lengths of 2^63 in two files: their sum is 0 modulo 2^64.
pub sum_over_64_bits : bundle_counts (zeros 31 ++ (0x80 ∷ zeros 15 ++ (0x80 ∷ zeros 168))) ≡ refused BundleLength
unfolding bundle_counts bundle_fits le_in le choose
sum_over_64_bits = refl

-- One segment, rebase and bind, and three, none, two and one bytes of the files. In each part the first byte or word is other than 0.
abbrev one : List ℕ
one = 1 ∷ zeros 7

abbrev small : List ℕ
small = one ++ (one ++ (one ++ ((3 ∷ zeros 7) ++ (zeros 8 ++ ((2 ∷ zeros 7) ++ one)))))

abbrev small_ends : List ℕ
small_ends = (13 ∷ zeros 7) ++ ((14 ∷ zeros 7) ++ ((15 ∷ zeros 7) ++ (16 ∷ zeros 7)))

abbrev small_tables : List ℕ
small_tables = (2 ∷ zeros 39) ++ ((3 ∷ zeros 119) ++ ((4 ∷ zeros 15) ++ (5 ∷ zeros 31)))

abbrev bundle : List ℕ
bundle = small ++ small_ends ++ ((6 ∷ zeros 7) ++ (small_tables ++ (7 ∷ 8 ∷ 9 ∷ 10 ∷ 11 ∷ 12 ∷ [])))

pub one_of_each : bundle_counts bundle ≡ value (seven_counts 1 1 1 3 0 2 1)
unfolding bundle_counts bundle_fits le_in le choose
one_of_each = refl

pub parts_of_each : bundled bundle (seven_counts 1 1 1 3 0 2 1) [] ≡ tables_of ((7 ∷ 8 ∷ 9 ∷ []) ∷ [] ∷ (10 ∷ 11 ∷ []) ∷ (12 ∷ []) ∷ []) (2 ∷ zeros 4) (3 ∷ zeros 14) (6 ∷ zeros 7) (4 ∷ zeros 1) (5 ∷ zeros 3) []
unfolding words_from le_in le choose
parts_of_each = refl

pub ends_of_each : ranges_of bundle ≡ record { first_frame = 13; last_frame = 14; first_slide = 15; last_slide = 16 }
unfolding le_in le choose
ends_of_each = refl

-- The longest bundle, and one byte of file 0 more.
abbrev sized : ℕ → ℕ → ℕ → List ℕ
sized low high n = zeros 24 ++ (low ∷ high ∷ zeros (190 + n))

pub longest : bundle_counts (sized 0x28 0x7F 32552) ≡ value (seven_counts 0 0 0 32552 0 0 0)
unfolding bundle_counts bundle_fits le_in le choose
longest = refl

pub longer : bundle_counts (sized 0x29 0x7F 32553) ≡ refused BundleLength
unfolding bundle_counts bundle_fits le_in le choose
longer = refl
