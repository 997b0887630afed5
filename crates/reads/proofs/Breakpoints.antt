-- Between two breakpoints it is the same at every address whether k bytes can be read, and past the last nothing can be.
-- The segments may overlap, and may stand in any order.
use Rattle.std.proofs.Common.{◌≡◌, ℕ, suc, ◌+◌, ◌-◌, ◌*◌, ◌^◌, ◌<◌, ◌≤◌, Bool, true, false, ltb, leb, ◌⊎◌, List, [], ◌∷◌, length, sym, refl, ◌∙◌, inl, inr, ⊎_elim, arith, ltb-false, ltb-true, le-ltb, lt-ltb, leb-false, leb-true}
use mathlib.Core.Bool.{and-false}
use mathlib.Core.List.Memᴰ
use mathlib.Core.List.{Memᴰ}
use native.Mathlib.Decide.{dec_le}
use Rattle.reads.specs.Outcome.{Outcome, value, absent, and_then, because, choose, sum64}
use Rattle.reads.specs.declared.answer.Reason.TheVariants.{Unmapped, Unreadable}
use Rattle.reads.specs.Files.{file_of}
use Rattle.reads.specs.Table.{records}
use Rattle.reads.specs.Segment.{segment_words, rows, ends, holds, place_at, placed, lookup}
use Rattle.reads.specs.Place.{Image, readable_at, readable}
use Rattle.reads.specs.declared.place.Place.{Place}
use Rattle.reads.specs.declared.segment.Segment.{Segment}
use Rattle.reads.specs.Breaks.{is_value, can_read, readable_part, breaks, breaks_of, next_break, above}
use Rattle.reads.proofs.Tests.{le_same, by_choose, choose_same}
use Rattle.reads.proofs.SegmentRows.{rows_length}
use Rattle.reads.proofs.LeastAbove.{next_break_member, next_break_least, next_break_none, above_length}
use Rattle.reads.proofs.BreakSteps.{readable_part_size}
use Rattle.reads.proofs.Lookups.{holds_is, ends_not}
use Rattle.std.specs.Prelude.{Some, None}

-- The length of a segment's file.
abbrev size : List (List ℕ) → Segment → ℕ
size fs s = length (file_of fs s.file)

module _ (fs : List (List ℕ)) (k : ℕ) (s : Segment) (ss : List Segment) (e : ends s ≡ false) where
  breaks_more : breaks fs k (s ∷ ss) ≡ s.vmaddr ∷ (s.vmaddr + readable_part (size fs s) k s) ∷ (s.vmaddr + s.vmsize) ∷ breaks fs k ss
  unfolding breaks choose
  breaks_more = simp e

  start_in : Memᴰ s.vmaddr (breaks fs k (s ∷ ss))
  start_in = rw breaks_more (Memᴰ.head refl)

  part_in : Memᴰ (s.vmaddr + readable_part (size fs s) k s) (breaks fs k (s ∷ ss))
  part_in = rw breaks_more (Memᴰ.tail (Memᴰ.head refl))

  end_in : Memᴰ (s.vmaddr + s.vmsize) (breaks fs k (s ∷ ss))
  end_in = rw breaks_more (Memᴰ.tail (Memᴰ.tail (Memᴰ.head refl)))

  later_in : {b : ℕ} → Memᴰ b (breaks fs k ss) → Memᴰ b (breaks fs k (s ∷ ss))
  later_in m = rw breaks_more (Memᴰ.tail (Memᴰ.tail (Memᴰ.tail m)))

-- k bytes from a place that was looked up lie in its file.
abbrev pub in_image : List (List ℕ) → ℕ → Outcome Place → Bool
in_image fs k o = is_value (and_then (because Unreadable o) (λ p. readable_at (length (file_of fs p.file)) p k))

-- No breakpoint lies in (va, x].
abbrev Clear : List ℕ → ℕ → ℕ → Type 0
Clear bs va x = (b : ℕ) → Memᴰ b bs → (b ≤ va) ⊎ (x < b)

holds_same : (s : Segment) (va x : ℕ) → va ≤ x → (s.vmaddr ≤ va) ⊎ (x < s.vmaddr) → (s.vmaddr + s.vmsize ≤ va) ⊎ (x < s.vmaddr + s.vmsize)
    → holds s va ≡ holds s x
unfolding holds
holds_same s va x l p q =
    let a : leb s.vmaddr va ≡ leb s.vmaddr x = le_same s.vmaddr va s.vmaddr x (λ h. omega arith) (λ h. ⊎_elim (λ u. omega arith) (λ u. omega arith) p) in
    let b : ltb va (s.vmaddr + s.vmsize) ≡ ltb x (s.vmaddr + s.vmsize) =
    le_same (suc va) (s.vmaddr + s.vmsize) (suc x) (s.vmaddr + s.vmsize) (λ h. ⊎_elim (λ u. omega arith) (λ u. omega arith) q) (λ h. omega arith) in
    simp (a, b)

pub holds_not_past : (s : Segment) (va : ℕ) → s.vmaddr + s.vmsize ≤ va → holds s va ≡ false
unfolding holds
holds_not_past s va h = simp (le-ltb va (s.vmaddr + s.vmsize) h, and-false)

module _ (fs : List (List ℕ)) (k : ℕ) where
  -- Of a segment that holds the address, a first part can be read.
  in_part : (s : Segment) (va : ℕ) → va - s.vmaddr < s.vmsize
      → in_image fs k (placed s va) ≡ ltb (va - s.vmaddr) (readable_part (size fs s) k s)
  unfolding placed sum64 readable_at readable_part
  in_part s va v =
      by_choose (λ o. in_image fs k o ≡ within)
      (λ e. outside (omega (arith, leb-true s.filesize d e)))
      (λ f. by_choose (λ o. in_image fs k (and_then (because Unmapped o) (λ offset. value (place_at s.file offset))) ≡ within)
      (λ e. by_choose (λ (o : Outcome Place). is_value o ≡ within)
      (λ g. sym (lt-ltb d (readable_part (size fs s) k s) (omega (arith, leb-false s.filesize d f, leb-true (s.fileoff + d + k) (size fs s) g, ltb-true (s.fileoff + d) (2 ^ 64) e))))
      (λ g. outside (omega (arith, leb-false (s.fileoff + d + k) (size fs s) g))))
      (λ e. outside (omega (arith, ltb-false (s.fileoff + d) (2 ^ 64) e))))
    where
      d : ℕ
      d = va - s.vmaddr

      within : Bool
      within = ltb d (readable_part (size fs s) k s)

      outside : readable_part (size fs s) k s ≤ d → false ≡ within
      outside h = sym (le-ltb d (readable_part (size fs s) k s) h)

  part_same : (s : Segment) (va x : ℕ) → va ≤ x → holds s va ≡ true → holds s x ≡ true
      → (s.vmaddr + readable_part (size fs s) k s ≤ va) ⊎ (x < s.vmaddr + readable_part (size fs s) k s)
      → in_image fs k (placed s va) ≡ in_image fs k (placed s x)
  part_same s va x l h g p =
      let u = holds_is s va h in
      let w = holds_is s x g in
      in_part s va (omega (arith, u.1, u.2))
      ∙ le_same (suc (va - s.vmaddr)) (readable_part (size fs s) k s) (suc (x - s.vmaddr)) (readable_part (size fs s) k s)
      (λ q. ⊎_elim (λ z. omega (arith, u.1)) (λ z. omega (arith, u.1)) p) (λ q. omega arith)
      ∙ sym (in_part s x (omega (arith, w.1, w.2)))

  -- Where no breakpoint lies in (va, x], bytes can be read at x exactly where they can at va.
  lookup_same : (ss : List Segment) (va x : ℕ) → va ≤ x → Clear (breaks fs k ss) va x
      → in_image fs k (lookup ss va) ≡ in_image fs k (lookup ss x)
  unfolding lookup
  lookup_same [] va x l w = refl
  lookup_same (s ∷ ss) va x l w =
      choose_same (in_image fs k) (λ e. refl)
      (λ e. of_row e (lookup_same ss va x l (λ b m. w b (later_in fs k s ss e m))))
    where
      of_row : ends s ≡ false → in_image fs k (lookup ss va) ≡ in_image fs k (lookup ss x)
          → in_image fs k (choose (holds s va) (placed s va) (lookup ss va)) ≡ in_image fs k (choose (holds s x) (placed s x) (lookup ss x))
      of_row e ih =
          let h : holds s va ≡ holds s x = holds_same s va x l (w _ (start_in fs k s ss e)) (w _ (end_in fs k s ss e)) in
          rw h (choose_same (in_image fs k) (λ g. part_same s va x l (h ∙ g) g (w _ (part_in fs k s ss e))) (λ g. ih))

-- An address at or past the end of every segment is in none.
lookup_past : (fs : List (List ℕ)) (k : ℕ) (ss : List Segment) (x : ℕ) → ((b : ℕ) → Memᴰ b (breaks fs k ss) → b ≤ x) → lookup ss x ≡ absent Unmapped
unfolding lookup choose
lookup_past fs k [] x f = refl
lookup_past fs k (s ∷ ss) x f =
    by_choose (λ o. o ≡ absent Unmapped) (λ e. refl)
    (λ e. simp (holds_not_past s x (f _ (end_in fs k s ss e))) (lookup_past fs k ss x (λ b m. f b (later_in fs k s ss e m))))

breaks_fit : (fs : List (List ℕ)) (k : ℕ) (ss : List Segment) (x : ℕ) → Memᴰ x (breaks fs k ss) → x < 2 ^ 64
unfolding breaks
breaks_fit fs k [] x = λ m. absurd (Memᴰ.not-nil m)
breaks_fit fs k (s ∷ ss) x =
    by_choose (λ bs. Memᴰ x bs → x < 2 ^ 64)
    (λ e m. absurd (Memᴰ.not-nil m))
    (λ e. of_row (ends_not s e) (readable_part_size s (size fs s) k) (breaks_fit fs k ss x))
  where
    of_row : s.vmaddr + s.vmsize < 2 ^ 64 → readable_part (size fs s) k s ≤ s.vmsize → (Memᴰ x (breaks fs k ss) → x < 2 ^ 64)
        → Memᴰ x (s.vmaddr ∷ (s.vmaddr + readable_part (size fs s) k s) ∷ (s.vmaddr + s.vmsize) ∷ breaks fs k ss) → x < 2 ^ 64
    of_row a p ih m =
        ⊎_elim (λ q. omega arith)
        (λ m₁. ⊎_elim (λ q. omega arith) (λ m₂. ⊎_elim (λ q. omega arith) ih (Memᴰ.cases_cons m₂)) (Memᴰ.cases_cons m₁))
        (Memᴰ.cases_cons m)

-- At most three for each segment.
pub breaks_length : (fs : List (List ℕ)) (k : ℕ) (ss : List Segment) → length (breaks fs k ss) ≤ 3 * length ss
unfolding breaks
breaks_length fs k [] = omega arith
breaks_length fs k (s ∷ ss) =
    let ih = breaks_length fs k ss in
    by_choose (λ (bs : List ℕ). length bs ≤ 3 * suc (length ss)) (λ e. omega arith) (λ e. omega arith)

module _ (m : Image) (k va : ℕ) where
  -- Up to the next breakpoint bytes can be read everywhere or nowhere.
  pub can_read_until_break : (b x : ℕ) → next_break (breaks_of m k) va ≡ Some b → va ≤ x → x < b
      → can_read m k x ≡ can_read m k va
  unfolding can_read readable
  can_read_until_break b x e l h = sym (lookup_same m.files k (rows m.words) va x l clear)
    where
      clear : Clear (breaks_of m k) va x
      clear c i = elim (dec_le c va) [ yes u ↦ inl u | no f ↦ inr (omega (arith, next_break_least (breaks_of m k) va b e c i (omega arith))) ]

  -- With no breakpoint above, nothing can be read from there on.
  pub unreadable_past_breaks : (x : ℕ) → next_break (breaks_of m k) va ≡ None → va ≤ x → can_read m k x ≡ false
  unfolding can_read readable
  unreadable_past_breaks x e l =
      simp (lookup_past m.files k (rows m.words) x (λ b i. omega (arith, next_break_none (breaks_of m k) va e b i)))

  pub next_break_fits : (b : ℕ) → next_break (breaks_of m k) va ≡ Some b → b < 2 ^ 64
  next_break_fits b e = breaks_fit m.files k (rows m.words) b (next_break_member (breaks_of m k) va b e)

  -- At most three breakpoints for each row of the table lie above any address.
  pub above_few : above (breaks_of m k) va ≤ 3 * records segment_words m.words
  above_few =
      omega (arith, above_length (breaks_of m k) va, breaks_length m.files k (rows m.words), rows_length m.words)
