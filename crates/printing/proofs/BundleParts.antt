-- The parts of a bundle that the code lends: the words that its tables are decoded into, and the tables in them.
use Rattle.std.specs.Prelude.{Some}
use Prim.Native.Nat.{ℕ, zero, suc, ◌+◌, ◌-◌, ◌*◌, ◌≤◌}
use mathlib.Core.Path.{◌≡◌, refl, ap, ◌∙◌}
use mathlib.Core.List.{List, [], ◌∷◌, ◌++◌}
use native.Mathlib.Omega.{arith}
use lib.ListN.{length, take, drop, length-drop}
use lib.Seq.{length-take-le, take-append-le, drop-append-le}
use Rattle.reads.specs.Outcome.{Outcome, value}
use Rattle.reads.specs.Place.{part}
use Rattle.pointers.specs.Tables.{Tables, tables_of, with_index}
use Rattle.frames.specs.declared.frames.Ranges.{Ranges}
use Rattle.listing.specs.Bundle.{word_from, words_from, segment_table_words, rebase_table_words, bind_table_words, segments_at, sections_at, rebases_at, binds_at, image0_at, image1_at, image2_at, image3_at, bundled_files, ranges_of, bundle_counts, bundled, Accepted}
use Rattle.listing.specs.declared.bundle.Counts.{Counts}
use Rattle.listing.proofs.BundleWords.{length_words}
use Rattle.marking.specs.Framed.{framed_opening, framed_index}
use Rattle.marking.specs.declared.framed.Framed.{Framed}
use Rattle.printing.specs.BundleText.{index_words}
use Rattle.printing.specs.BundleLent.{table_words, words_after, tables_over, tables_in, opening_in, index_after, tables_lent}

-- The words lent, after those of the tables were written.
pub decoded_whole : (given bytes words : List ℕ) (c : Counts) (end : ℕ) → given ≡ bytes → bundle_counts bytes ≡ value c → end ≡ table_words c
    → table_words c ≤ length words → (written : List ℕ) → written ≡ words_from given segments_at (length (take (end - 0) (drop 0 words)))
    → written ++ drop (end - 0) (drop 0 words) ≡ words_after bytes words
decoded_whole given bytes words c end g counted p room written e =
    let all : end - 0 ≡ table_words c = omega arith in
    let long : length (take (table_words c) words) ≡ table_words c = length-take-le (table_words c) words room in
    rw (counted, e, g, all, long)

-- The files, each as its part is lent.
pub parts_files : (bytes : List ℕ) (c : Counts) (a d e f : ℕ) → Accepted bytes c → a ≡ image0_at c → d ≡ image1_at c → e ≡ image2_at c → f ≡ image3_at c
    → take (d - a) (drop a bytes) ∷ take (e - d) (drop d bytes) ∷ take (f - e) (drop e bytes) ∷ take (length bytes - f) (drop f bytes) ∷ []
    ≡ bundled_files bytes c
parts_files bytes c a d e f x p q r s =
    let first : d - a ≡ c.image0 = omega arith in
    let second : e - d ≡ c.image1 = omega arith in
    let third : f - e ≡ c.image2 = omega arith in
    let last : length bytes - f ≡ c.image3 = omega (arith, x.exact) in
    rw (first, second, third, last, p, q, r, s)

-- The tables over files, each as its part is lent, with an index.
pub parts_tables : (files : List (List ℕ)) (bytes words index : List ℕ) (c : Counts) (f r b : ℕ) → f ≡ segment_table_words c
    → r ≡ rebase_table_words c → b ≡ bind_table_words c
    → tables_of files (take (f - 0) (drop 0 words)) (take (f + 15 - f) (drop f words)) (take (96 - 88) (drop 88 bytes))
    (take (f + 15 + r - (f + 15)) (drop (f + 15) words)) (take (f + 15 + r + b - (f + 15 + r)) (drop (f + 15 + r) words)) index
    ≡ with_index (tables_over files bytes c words []) index
parts_tables files bytes words index c f r b q s u =
    let first : f - 0 ≡ f = omega arith in
    let second : f + 15 - f ≡ 15 = omega arith in
    let third : f + 15 + r - (f + 15) ≡ r = omega arith in
    let last : f + 15 + r + b - (f + 15 + r) ≡ b = omega arith in
    rw (first, second, third, last, q, s, u)

-- What the code makes of an accepted bundle: its files, and the tables over them with an index.
module _ (given bytes words index : List ℕ) (c : Counts) (files : List (List ℕ)) (t : Tables) (n : ℕ) (g : given ≡ bytes) (counted : bundle_counts bytes ≡ value c)
    (whole : files ≡ bundled_files given c) (m : n ≡ index_words c) where
  -- As many words of the index as question IndexLength asks.
  pub tables_index : (i : List ℕ) → t ≡ with_index (tables_over files given c words []) i
      → with_index t (take (n - 0) (drop 0 index)) ≡ tables_in bytes c words index
  tables_index i e = let all : n - 0 ≡ index_words c = omega arith in rw (e, whole, g, all)

  -- The tables that pieces are read from.
  pub tables_whole : t ≡ with_index (tables_over files given c words []) (take (n - 0) (drop 0 index)) → t ≡ tables_lent bytes words index
  tables_whole e = let all : n - 0 ≡ index_words c = omega arith in rw (counted, e, whole, g, all)

  -- Opening, for the ranges read.
  pub parts_opened : t ≡ with_index (tables_over files given c words []) [] → (x : Ranges) (o : Outcome Framed) (after : List ℕ) → x ≡ ranges_of given
      → ((o ≡ framed_opening (Some x) (with_index t (take (n - 0) (drop 0 index)))) × (after ≡ framed_index (Some x) (with_index t (take (n - 0) (drop 0 index)))))
      → ((o ≡ opening_in bytes words index) × (after ++ drop (n - 0) (drop 0 index) ≡ index_after bytes words index))
  parts_opened e x o after r p =
      let all : n - 0 ≡ index_words c = omega arith in
      let same = tables_index [] e in
      let ranges : x ≡ ranges_of bytes = r ∙ ap ranges_of g in
      (rw (counted, ← same, ← ranges) p.0, rw (counted, p.1, same, ranges, all))

-- k of the decoded words, from word a on.
first_words : (bytes : List ℕ) (offset k n : ℕ) → k ≤ n → take k (words_from bytes offset n) ≡ words_from bytes offset k
unfolding words_from
first_words bytes offset zero n h = refl
first_words bytes offset (suc k) zero h = absurd (omega arith)
first_words bytes offset (suc k) (suc n) h =
    ap (λ (ws : List ℕ). word_from bytes offset ∷ ws) (first_words bytes (offset + 8) k n (omega arith))

words_from_lem : (bytes : List ℕ) (offset a k n : ℕ) → a + k ≤ n
    → take k (drop a (words_from bytes offset n)) ≡ words_from bytes (offset + 8 * a) k
unfolding words_from
words_from_lem bytes offset zero k n h =
    let e : offset + 8 * 0 ≡ offset = omega arith in rw e (first_words bytes offset k n (omega arith))
words_from_lem bytes offset (suc a) k zero h = absurd (omega arith)
words_from_lem bytes offset (suc a) k (suc n) h =
    let e : offset + 8 * suc a ≡ offset + 8 + 8 * a = omega arith in rw e (words_from_lem bytes (offset + 8) a k n (omega arith))

module _ (bytes more index : List ℕ) (c : Counts) where
  abbrev decoded : List ℕ
  decoded = words_from bytes segments_at (table_words c) ++ more

  part_decoded : (a k at : ℕ) → a + k ≤ table_words c → at ≡ segments_at + 8 * a → part decoded a k ≡ words_from bytes at k
  part_decoded a k at h e =
      let n = length_words bytes segments_at (table_words c) in
      rw (
        drop-append-le a (words_from bytes segments_at (table_words c)) more (omega arith),
        take-append-le k (drop a (words_from bytes segments_at (table_words c))) more (simp length-drop (omega (arith, n))),
        words_from_lem bytes segments_at a k (table_words c) h,
        e,
      )

  -- The tables in decoded words are those that the bundle says.
  pub decoded_bundled : tables_in bytes c decoded index ≡ bundled bytes c (take (index_words c) index)
  decoded_bundled =
      rw (
        part_decoded 0 (segment_table_words c) segments_at (omega arith) (omega arith),
        part_decoded (segment_table_words c) 15 (sections_at c) (omega arith) (omega arith),
        part_decoded (segment_table_words c + 15) (rebase_table_words c) (rebases_at c) (omega arith) (omega arith),
        part_decoded (segment_table_words c + 15 + rebase_table_words c) (bind_table_words c) (binds_at c) (omega arith) (omega arith),
      )
