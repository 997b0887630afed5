-- Question 13: when a bundle is refused, and what is known of one that is accepted.
use Rattle.std.proofs.Common.{◌≡◌, ℕ, ◌+◌, ◌*◌, ◌<◌, ◌≤◌, true, false, eqb, leb, List, length, sym, ap, ◌∙◌, true≢false, arith, eq-eqb, ne_eqb, eqb-true, le-leb, leb-true}
use mathlib.Core.Bool.{and-false}
use borrow.Author.Tests.{lt-leb}
use Rattle.reads.specs.Outcome.{Outcome, value, refused, choose}
use Rattle.reads.proofs.Tests.{by_choose, both_true}
use Rattle.listing.specs.Bundle.{word_from, counts_of, count_fits, counts_fit, segment_table_words, rebase_table_words, bind_table_words, said_length, bundle_fits, bundle_counts, Accepted}
use Rattle.pointers.specs.Question.{every}
use Rattle.pointers.specs.Tables.{section_table_words}
use Rattle.pointers.proofs.Questions.{every_at}
use Rattle.listing.specs.declared.bundle.Counts.{Counts}
use Rattle.std.specs.Prelude.{Result, Ok, Bool, ◌&&◌, refl}
use Rattle.std.specs.List.{list_all, range_with_len}
use Rattle.reads.specs.Answer.{answered}
use Rattle.reads.specs.declared.answer.Question.{Question}
use Rattle.reads.specs.declared.answer.Question.TheVariants.{BundleLength}

-- The length in document 01's order: counts, ends, image info, the words of the four tables, the four files.
pub said_length_lem : (c : Counts)
    → said_length c ≡ 96 + 8 * (5 * c.segments + 15 + 2 * c.rebases + 4 * c.binds) + c.image0 + c.image1 + c.image2 + c.image3
said_length_lem c = omega arith

-- Seven tests, from the first on and from the last.
pub all_seven : (test : ℕ → Bool) → list_all test (range_with_len 0 7) ≡ every test 7
unfolding every
all_seven test = go (test 0) (test 1) (test 2) (test 3) (test 4) (test 5) (test 6)
  where
    go : (a b c d e f g : Bool) → a && (b && (c && (d && (e && (f && (g && true)))))) ≡ ((((((true && a) && b) && c) && d) && e) && f) && g
    go false b c d e f g = refl
    go true false c d e f g = refl
    go true true false d e f g = refl
    go true true true false e f g = refl
    go true true true true false f g = refl
    go true true true true true false g = refl
    go true true true true true true false = refl
    go true true true true true true true = refl

module _ (bytes : List ℕ) where
  -- A count above 32,768 alone makes the said length greater: the counts of a short bundle fit.
  fits_below : said_length (counts_of bytes) ≤ 32768 → counts_fit bytes ≡ true
  unfolding every count_fits
  fits_below h =
      rw (
        le-leb (word_from bytes 0) 32768 (omega arith),
        le-leb (word_from bytes 8) 32768 (omega arith),
        le-leb (word_from bytes 16) 32768 (omega arith),
        le-leb (word_from bytes 24) 32768 (omega arith),
        le-leb (word_from bytes 32) 32768 (omega arith),
        le-leb (word_from bytes 40) 32768 (omega arith),
        le-leb (word_from bytes 48) 32768 (omega arith),
      )

  -- A count, as the code tests it.
  pub count_over : (k w : ℕ) → w ≡ word_from bytes (8 * k) → 32768 < w → count_fits bytes k ≡ false
  unfolding count_fits
  count_over k w e h = rw (← e) (lt-leb w 32768 h)

  pub count_within : (k w : ℕ) → w ≡ word_from bytes (8 * k) → w ≤ 32768 → count_fits bytes k ≡ true
  unfolding count_fits
  count_within k w e h = rw (← e) (le-leb w 32768 h)

  -- Each count, where all fit.
  pub count_fits_lem : counts_fit bytes ≡ true → (k : ℕ) → k < 7 → word_from bytes (8 * k) ≤ 32768
  unfolding count_fits
  count_fits_lem e k h = leb-true (word_from bytes (8 * k)) 32768 (every_at (count_fits bytes) 7 e k h)

  pub too_long : 32768 < length bytes → refused BundleLength ≡ bundle_counts bytes
  unfolding bundle_counts bundle_fits choose
  too_long h = simp (lt-leb _ _ h)

  pub other_length : (length bytes ≡ said_length (counts_of bytes) → ⊥) → refused BundleLength ≡ bundle_counts bytes
  unfolding bundle_counts bundle_fits choose
  other_length h = simp (ne_eqb _ _ h, and-false)

  pub other_counts : length bytes ≤ 32768 → counts_fit bytes ≡ false → refused BundleLength ≡ bundle_counts bytes
  other_counts h f = other_length (λ e. true≢false (sym (fits_below (omega arith)) ∙ f))

  -- The same, of what the code adds up.
  pub other_said : (c : Counts) (said : ℕ) → said ≡ said_length c → (said ≡ length bytes → ⊥) → c ≡ counts_of bytes → refused BundleLength ≡ bundle_counts bytes
  other_said c said e n same = other_length (λ h. n (e ∙ ap said_length same ∙ sym h))

  pub exact_length : (c : Counts) → c ≡ counts_of bytes → length bytes ≤ 32768 → length bytes ≡ said_length (counts_of bytes)
      → value c ≡ bundle_counts bytes
  unfolding bundle_counts bundle_fits choose
  exact_length c same h e = simp (same, le-leb _ _ h, eq-eqb _ _ e)

-- What an accepted bundle is known by.
pub accepted : (bytes : List ℕ) (c : Counts) → bundle_counts bytes ≡ value c → Accepted bytes c
unfolding bundle_counts bundle_fits
accepted bytes c =
    by_choose (λ (o : Outcome Counts). o ≡ value c → Accepted bytes c)
    (λ t e.
    let same : c ≡ counts_of bytes = cc in
    let both = both_true (leb (length bytes) 32768) (eqb (length bytes) (said_length (counts_of bytes))) t in
    record {
      short = leb-true (length bytes) 32768 both.0;
      exact = rw same (eqb-true (length bytes) (said_length (counts_of bytes)) both.1);
      counts = same;
    })
    (λ t e. let z : ◌≡◌ {A = ℕ} 0 1 = cc in absurd (omega arith))

-- The same, of an answer of the code.
pub measured : (r : Result Counts Question) (bytes : List ℕ) (c : Counts) → answered r ≡ bundle_counts bytes → r ≡ Ok c → Accepted bytes c
measured r bytes c e g = accepted bytes c (rw (← e, g))

-- The tables of an accepted bundle have at most 4,084 words together.
pub tables_fit : (bytes : List ℕ) (c : Counts) → Accepted bytes c → segment_table_words c + section_table_words + rebase_table_words c + bind_table_words c ≤ 4084
tables_fit bytes c a = omega arith
