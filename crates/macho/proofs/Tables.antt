-- Rows put into a table, and the sections of a name, by the tests that the code makes.
use Prim.Native.Nat.{ℕ, zero, suc, ◌+◌, ◌-◌, ◌*◌, ◌≤◌, ◌<◌}
use mathlib.Core.Path.{◌≡◌, refl, sym, ◌∙◌, ap}
use mathlib.Core.Bool.{Bool, true, false}
use mathlib.Core.List.{List, [], ◌∷◌, ◌++◌, append-nil, append_assoc}
use native.Mathlib.Omega.{arith}
use native.Mathlib.Numerals.{add-one, towards_suc}
use lib.ListN.{length, length-append, get_or, take, drop, drop_of_length-le}
use lib.Seq.{sets, sets-eq, drop-cons, take_at}
use borrow.Rule.Slice.PartMut.{put_mid}
use Rattle.std.proofs.lemmas.Slice.{put_mid-paste}
use Rattle.std.proofs.lemmas.List.Edits.{paste_all}
use Rattle.std.specs.Prelude.{Option, None, Some}
use Rattle.std.specs.Option.{is_some, option_or, option_map, MatchOption, IsSomeAnd}
use Rattle.std.specs.List.{find, range_with_len}
use Rattle.std.specs.Prelude.{map, cond}
use Rattle.reads.specs.Outcome.{choose}
use Rattle.reads.specs.Segment.{segment_words}
use Rattle.pointers.specs.Tables.{section_words}
use Rattle.macho.specs.Loader.{nsects}
use Rattle.macho.specs.Segments.{segment_row, segment_rows, written}
use Rattle.macho.specs.Sections.{headers_from, sections_of, section_at, named, first_named, section_row, section_rows}
use Rattle.macho.specs.declared.section.Section.{Section}

-- Words copied into a part of a table.
pub part_put : (t : List ℕ) (i n : ℕ) (ws part : List ℕ) → part ≡ ws → n ≡ length ws → i + n ≤ length t → put_mid i n t part ≡ sets t i ws
part_put t i n ws part e k h = put_mid-paste i n t part ws n e refl k ∙ paste_all t i ws n k ∙ rw (k, ← append_assoc) (sym (sets-eq ws t i (omega arith)))

-- Words put from the start.
pub put_whole : (ws t : List ℕ) → length ws ≤ length t → sets t 0 ws ≡ written ws t
unfolding written
put_whole ws t h = let e : 0 + length ws ≡ length ws = omega arith in sets-eq ws t 0 (omega arith) ∙ rw e

-- Words put over a whole table.
pub put_over : (ws t : List ℕ) → length ws ≡ length t → sets t 0 ws ≡ ws
unfolding written
put_over ws t h = put_whole ws t (omega arith) ∙ rw (drop_of_length-le t {i = length ws} (omega arith), append-nil)

-- The segment table.
pub length_segments : (cmds segs : List ℕ) → length (segment_rows cmds segs) ≡ segment_words * length segs
unfolding segment_rows
length_segments cmds [] = refl
length_segments cmds (a ∷ segs) = omega (arith, length_segments cmds segs)

-- The rows that were put are read back.
pub segments_back : (cmds segs t l : List ℕ) (n : ℕ) → n ≡ length segs → l ≡ written (segment_rows cmds segs) t → take (segment_words * n) l ≡ segment_rows cmds segs
unfolding written
segments_back cmds segs t l n e g =
    rw g (take_at (segment_rows cmds segs) (drop (length (segment_rows cmds segs)) t) (segment_words * n) (omega (arith, length_segments cmds segs)))

module _ (cmds t : List ℕ) (k : ℕ) (segs : List ℕ) where
  pub segment_step : (a : ℕ) (rest : List ℕ) → segs ≡ a ∷ rest
      → sets t (segment_words * k) (segment_rows cmds segs) ≡ sets (sets t (segment_words * k) (segment_row cmds a)) (segment_words * (k + 1)) (segment_rows cmds rest)
  unfolding segment_rows
  segment_step a rest e = let p : segment_words * (k + 1) ≡ segment_words * k + segment_words = omega arith in rw (e, p) (simp towards_suc)

  pub segment_end : segs ≡ [] → sets t (segment_words * k) (segment_rows cmds segs) ≡ t
  unfolding segment_rows
  segment_end e = rw e

-- Of two, the first that is there.
some_first : {A : Type 0} (s t : Option A) → is_some s ≡ true → s ≡ option_or s t
some_first None t e = let q : ◌≡◌ {A = ℕ} 0 1 = cc in absurd (omega arith)
some_first (Some a) t e = refl

none_first : {A : Type 0} (s t : Option A) → is_some s ≡ false → option_or s t ≡ t
none_first None t e = refl
none_first (Some a) t e = let q : ◌≡◌ {A = ℕ} 0 1 = cc in absurd (omega arith)

pub length_section : (s : Option Section) → length (section_row s) ≡ section_words
unfolding section_row
length_section None = refl
length_section (Some s) = refl

-- The section of a name, among headers.
module _ (cmds name : List ℕ) where
  -- The first header has the name, or it is looked for among the others.
  pub headers_more : (k b : ℕ) → 0 < k
      → first_named cmds name (headers_from k b) ≡ choose (named cmds name b) (Some (section_at cmds b)) (first_named cmds name (headers_from (k - 1) (b + 80)))
  unfolding headers_from first_named
  headers_more k b h = let e : k ≡ suc (k - 1) = omega arith in ap (λ n. first_named cmds name (headers_from n b)) e

  -- Where they stand, by their numbers, and the first of a name among them.
  headers_by : (b k i : ℕ) → headers_from k (b + 80 * i) ≡ map (λ n. b + 80 * n) (range_with_len i k)
  unfolding headers_from
  headers_by b zero i = refl
  headers_by b (suc k) i =
      let e : b + 80 * i + 80 ≡ b + 80 * (i + 1) = omega arith in ap (λ bs. (b + 80 * i) ∷ bs) (ap (headers_from k) e ∙ headers_by b k (i + 1))

  first_found : (bs : List ℕ) → first_named cmds name bs ≡ option_map (section_at cmds) (find (named cmds name) bs)
  unfolding first_named choose
  first_found [] = refl
  first_found (b ∷ bs) = go (named cmds name b) (first_found bs)
    where
      go : (t : Bool) → first_named cmds name bs ≡ option_map (section_at cmds) (find (named cmds name) bs)
          → choose t (Some (section_at cmds b)) (first_named cmds name bs) ≡ option_map (section_at cmds) (cond t (Some b) (find (named cmds name) bs))
      go true e = refl
      go false e = e

  pub first_by : (b k : ℕ) (o : Option ℕ) → option_map (λ x. x) o ≡ find (named cmds name) (map (λ n. b + 80 * n) (range_with_len 0 k))
      → (Gives : ℕ → Section → Type 0) (s : Option Section) → MatchOption o (s ≡ None) (λ a. IsSomeAnd s (Gives a)) → ((a : ℕ) (r : Section) → Gives a r → r ≡ section_at cmds a)
      → s ≡ first_named cmds name (headers_from k b)
  first_by b k o e Gives s h says =
      let z : b + 80 * 0 ≡ b = omega arith in
      by o s h ∙ ap (option_map (section_at cmds)) (e ∙ ap (find (named cmds name)) (sym (headers_by b k 0) ∙ ap (headers_from k) z)) ∙ sym (first_found (headers_from k b))
    where
      by : (p : Option ℕ) (s : Option Section) → MatchOption p (s ≡ None) (λ a. IsSomeAnd s (Gives a)) → s ≡ option_map (section_at cmds) (option_map (λ x. x) p)
      by None s h = h
      by (Some a) (Some r) h = ap Some (says a r h)
      by (Some a) None h = absurd h

  -- Headers of one segment, then those after it: the first among the first of them is the first of all.
  first_append : (xs ys : List ℕ) → first_named cmds name (xs ++ ys) ≡ option_or (first_named cmds name xs) (first_named cmds name ys)
  unfolding first_named choose
  first_append [] ys = refl
  first_append (x ∷ xs) ys = go (named cmds name x) refl (first_append xs ys)
    where
      go : (t : Bool) → named cmds name x ≡ t → first_named cmds name (xs ++ ys) ≡ option_or (first_named cmds name xs) (first_named cmds name ys)
          → first_named cmds name (x ∷ xs ++ ys) ≡ option_or (first_named cmds name (x ∷ xs)) (first_named cmds name ys)
      go true g later = rw g
      go false g later = rw g later

  -- With none of the name among the first, it is looked for among those after them.
  then_append : (xs ys : List ℕ) → first_named cmds name xs ≡ None → first_named cmds name (xs ++ ys) ≡ first_named cmds name ys
  then_append xs ys e = first_append xs ys ∙ ap (λ s. option_or s (first_named cmds name ys)) e

  module _ (segs : List ℕ) where
    pub sections_end : segs ≡ [] → None ≡ first_named cmds name (sections_of cmds segs)
    unfolding sections_of first_named
    sections_end e = rw e

    module _ (s : Option Section) (a n : ℕ) (rest : List ℕ) (e : segs ≡ a ∷ rest) (f : n ≡ nsects cmds a) (g : s ≡ first_named cmds name (headers_from n (a + 72))) where
      sections_more : first_named cmds name (sections_of cmds segs) ≡ option_or s (first_named cmds name (sections_of cmds rest))
      unfolding sections_of
      sections_more = rw (e, g, f) (first_append (headers_from (nsects cmds a) (a + 72)) (sections_of cmds rest))

      pub sections_here : is_some s ≡ true → s ≡ first_named cmds name (sections_of cmds segs)
      sections_here h = some_first s _ h ∙ sym sections_more

      pub sections_next : is_some s ≡ false → first_named cmds name (sections_of cmds segs) ≡ first_named cmds name (sections_of cmds rest)
      sections_next h = sections_more ∙ none_first s _ h

-- The section table.
row_put : (s : Option Section) (rest t : List ℕ) (i : ℕ) → sets t i (section_row s ++ rest) ≡ sets (sets t i (section_row s)) (i + section_words) rest
unfolding section_row
row_put None rest t i = simp towards_suc
row_put (Some s) rest t i = simp towards_suc

pub length_sections : (cmds headers : List ℕ) (names : List (List ℕ)) → length (section_rows cmds headers names) ≡ section_words * length names
unfolding section_rows
length_sections cmds headers [] = refl
length_sections cmds headers (name ∷ names) = simp length-append (omega (arith, length_section (first_named cmds name headers), length_sections cmds headers names))

module _ (cmds headers t : List ℕ) (names : List (List ℕ)) (k : ℕ) where
  pub section_step : (name : List ℕ) (s : Option Section) → k < length names → name ≡ get_or names k [] → s ≡ first_named cmds name headers
      → sets t (section_words * k) (section_rows cmds headers (drop k names)) ≡ sets (sets t (section_words * k) (section_row s)) (section_words * (k + 1)) (section_rows cmds headers (drop (k + 1) names))
  unfolding section_rows
  section_step name s h e g =
      let p : section_words * (k + 1) ≡ section_words * k + section_words = omega arith in
      rw (drop-cons names k [] h, ← e, ← g, p, add-one) (row_put s _ t (section_words * k))

  pub section_end : length names ≤ k → sets t (section_words * k) (section_rows cmds headers (drop k names)) ≡ t
  unfolding section_rows
  section_end h = rw (drop_of_length-le names h)
