-- Pages and segments, by the branches of the code.
use Rattle.std.proofs.Common.{◌≡◌, ℕ, suc, ◌+◌, ◌-◌, ◌*◌, ◌<◌, ◌≤◌, true, false, List, [], ◌∷◌, length, drop, slice_get, Option, Some, None, MatchOption, sym, refl, mul-le-mul, arith, le-ltb, lt-ltb, eq-eqb, ne_eqb, le-leb}
use borrow.Author.Tests.{lt-leb}
use Rattle.reads.specs.Outcome.{value, refused, choose}
use Rattle.macho.specs.Number.{u16_at, u32_at}
use Rattle.fixups.specs.Chain.{Starts, number_of, chain_at}
use Rattle.fixups.specs.Starts.{joined, page_at, pages_from, known, starts_of, segment_starts, first_starts, info_of, infos_from, image_starts, header_of, fixups_of}
use Rattle.fixups.specs.Tables.{told, State}
use Rattle.fixups.specs.declared.chain.PointerFormat.{PointerFormat}
use Rattle.fixups.specs.declared.chain.PointerFormat.TheVariants.{Ptr64, Ptr64Offset}
use Rattle.fixups.specs.declared.chain.Fixups.{Fixups}
use Rattle.fixups.proofs.Joining.{told_none, told_number}
use Rattle.reads.specs.declared.answer.Question.TheVariants.{FixupData}

pub whole : (n : ℕ) → n - 0 ≡ n
whole n = omega arith

pub product : (a b : ℕ) → a < 65536 → b < 65536 → a * b < 4294967296
product a b p q = omega (arith, mul-le-mul {n₁ = a} {m₁ = b} {n₂ = 65535} {m₂ = 65535} (omega arith) (omega arith))

module _ (file body : List ℕ) (f : Fixups) (s : Starts) (at p from : ℕ) (st : State) (ef : from ≡ at + 22 + 2 * p) where
  pub page_out : length body < from + 2 → refused FixupData ≡ told (page_at file body f s at p) st
  unfolding page_at told choose
  page_out h = simp (lt-leb (at + 22 + 2 * p + 2) (length body) (omega arith))

  module _ (start : ℕ) (h : from + 2 ≤ length body) (es : start ≡ u16_at body from) where
    es' : u16_at body (at + 22 + 2 * p) ≡ start
    es' = rw (es, ef)

    pub page_none : start ≡ 0xFFFF → value st ≡ told (page_at file body f s at p) st
    unfolding page_at choose
    page_none e = simp (le-leb (at + 22 + 2 * p + 2) (length body) (omega arith), es', eq-eqb start 0xFFFF e) (sym (told_none st))

    pub page_multi : (start ≡ 0xFFFF → ⊥) → 0x8000 ≤ start → refused FixupData ≡ told (page_at file body f s at p) st
    unfolding page_at choose
    page_multi n l = simp (le-leb (at + 22 + 2 * p + 2) (length body) (omega arith), es', ne_eqb start 0xFFFF n, le-ltb start 0x8000 l) (sym (told_number FixupData st))

    pub page_chain : (start ≡ 0xFFFF → ⊥) → start < 0x8000 → (offset o : ℕ) → offset ≡ p * s.size → o ≡ start
        → told (chain_at file body f s offset o) st ≡ told (page_at file body f s at p) st
    unfolding page_at choose
    page_chain n l offset o eo eo' =
        rw (eo, eo') (simp (le-leb (at + 22 + 2 * p + 2) (length body) (omega arith), es', ne_eqb start 0xFFFF n, lt-ltb start 0x8000 l))

module _ (file body : List ℕ) (f : Fixups) (s : Starts) (at count p : ℕ) where
  pub pages_more : p < count → pages_from file body f s at (count - p) p ≡ joined (page_at file body f s at p) (pages_from file body f s at (count - (p + 1)) (p + 1))
  unfolding pages_from
  pages_more h = let e : count - p ≡ suc (count - (p + 1)) = omega arith in rw e

  pub pages_done : (st : State) → count ≤ p → told (pages_from file body f s at (count - p) p) st ≡ value st
  unfolding pages_from
  pages_done st h = let e : count - p ≡ 0 = omega arith in rw e (told_none st)

-- A known format.
pub known_by : (format : PointerFormat) (n : ℕ) → number_of format ≡ n → known n ≡ true
unfolding known
known_by Ptr64 n e = rw (← e)
known_by Ptr64Offset n e = rw (← e)

pub known_not : (n : ℕ) → (n ≡ 2 → ⊥) → (n ≡ 6 → ⊥) → known n ≡ false
unfolding known
known_not n p q = simp (ne_eqb n 2 p, ne_eqb n 6 q)

module _ (file body cmds : List ℕ) (f : Fixups) (at a : ℕ) (st : State) where
  pub segment_out : length body < at + 22 → refused FixupData ≡ told (segment_starts file body cmds f at a) st
  unfolding segment_starts choose
  segment_out h = simp (lt-leb (at + 22) (length body) h) (sym (told_number FixupData st))

  module _ (format : ℕ) (h : at + 22 ≤ length body) (ef : format ≡ u16_at body (at + 6)) where
    pub segment_other : known format ≡ false → refused FixupData ≡ told (segment_starts file body cmds f at a) st
    unfolding segment_starts choose
    segment_other k = simp (le-leb (at + 22) (length body) h, ← ef, k) (sym (told_number FixupData st))

    pub segment_pages : known format ≡ true → (s : Starts) (count : ℕ) → s ≡ starts_of cmds a body at → count ≡ u16_at body (at + 20)
        → told (pages_from file body f s at count 0) st ≡ told (segment_starts file body cmds f at a) st
    unfolding segment_starts choose
    segment_pages k s count es ec = rw (es, ec) (simp (le-leb (at + 22) (length body) h, rw ef at k))

-- One entry of seg_info_offset.
module _ (file body cmds : List ℕ) (f : Fixups) (offset : ℕ) (segment : Option ℕ) (st : State) where
  pub info_none : offset ≡ 0 → value st ≡ told (info_of file body cmds f offset segment) st
  unfolding info_of choose
  info_none e = simp (eq-eqb offset 0 e) (sym (told_none st))

  pub info_absent : (offset ≡ 0 → ⊥) → segment ≡ None → refused FixupData ≡ told (info_of file body cmds f offset segment) st
  unfolding info_of first_starts choose
  info_absent n e = rw e (simp (ne_eqb offset 0 n) (sym (told_number FixupData st)))

  pub info_there : (offset ≡ 0 → ⊥) → (a at : ℕ) → segment ≡ Some a → at ≡ f.starts + offset
      → told (segment_starts file body cmds f at a) st ≡ told (info_of file body cmds f offset segment) st
  unfolding info_of first_starts choose
  info_there n a at e g = rw (e, g) (simp (ne_eqb offset 0 n))

-- What the next of some segments is, and which are left after it.
pub next_of : (segs others : List ℕ) (r : Option ℕ) → MatchOption r ((segs ≡ []) × (others ≡ [])) (λ a. segs ≡ a ∷ others)
    → (slice_get segs 0 ≡ r) × (drop 1 segs ≡ others)
next_of segs others None h = rw (h.0, h.1) (refl, refl)
next_of segs others (Some a) h = rw h (refl, refl)

module _ (file body cmds : List ℕ) (f : Fixups) where
  pub starts_out : (segs : List ℕ) (st : State) → length body < f.starts + 4 → refused FixupData ≡ told (image_starts file body cmds f segs) st
  unfolding image_starts choose
  starts_out segs st h = simp (lt-leb (f.starts + 4) (length body) h) (sym (told_number FixupData st))

  pub starts_there : (segs : List ℕ) (total : ℕ) → f.starts + 4 ≤ length body → total ≡ u32_at body (f.starts + 0)
      → image_starts file body cmds f segs ≡ infos_from file body cmds f (total - 0) 0 segs
  unfolding image_starts choose
  starts_there segs total h e = rw (whole total, e) (simp (le-leb (f.starts + 4) (length body) h))

  pub infos_done : (total i : ℕ) (segs : List ℕ) (st : State) → total ≤ i → told (infos_from file body cmds f (total - i) i segs) st ≡ value st
  unfolding infos_from choose
  infos_done total i segs st h = let e : total - i ≡ 0 = omega arith in rw e (told_none st)

  module _ (total i from : ℕ) (h : i < total) (ef : from ≡ f.starts + 4 + 4 * i) where
    pub infos_out : (segs : List ℕ) (st : State) → length body < from + 4 → told (infos_from file body cmds f (total - i) i segs) st ≡ refused FixupData
    unfolding infos_from choose
    infos_out segs st l =
        let e : total - i ≡ suc (total - (i + 1)) = omega arith in
        rw e (simp (lt-leb (f.starts + 4 + 4 * i + 4) (length body) (omega arith)) (told_number FixupData st))

    -- The entry of the next segment, and then the others.
    pub infos_more : from + 4 ≤ length body → (offset : ℕ) → offset ≡ u32_at body from → (segs others : List ℕ) (r : Option ℕ)
        → MatchOption r ((segs ≡ []) × (others ≡ [])) (λ a. segs ≡ a ∷ others)
        → infos_from file body cmds f (total - i) i segs
        ≡ joined (info_of file body cmds f offset r) (infos_from file body cmds f (total - (i + 1)) (i + 1) others)
    unfolding infos_from choose
    infos_more l offset eo segs others r s =
        let e : total - i ≡ suc (total - (i + 1)) = omega arith in
        let eo' : u32_at body (f.starts + 4 + 4 * i) ≡ offset = rw (eo, ef) in
        let n = next_of segs others r s in
        rw e (simp (le-leb (f.starts + 4 + 4 * i + 4) (length body) (omega arith), eo', n.0, n.1))

-- The header.
module _ (body : List ℕ) (at base : ℕ) where
  pub header_out : length body < 28 → refused FixupData ≡ fixups_of body at base
  unfolding fixups_of choose
  header_out h = simp (lt-leb (0 + 28) (length body) h)

  module _ (h : 28 ≤ length body) where
    pub imports_unread : (u32_at body 20 ≡ 1 → ⊥) → refused FixupData ≡ fixups_of body at base
    unfolding fixups_of choose
    imports_unread n = simp (le-leb (0 + 28) (length body) h, ne_eqb (u32_at body 20) 1 n)

    pub symbols_unread : u32_at body 20 ≡ 1 → (u32_at body 24 ≡ 0 → ⊥) → refused FixupData ≡ fixups_of body at base
    unfolding fixups_of choose
    symbols_unread e n = simp (le-leb (0 + 28) (length body) h, eq-eqb (u32_at body 20) 1 e, ne_eqb (u32_at body 24) 0 n)

    pub header_in : u32_at body 20 ≡ 1 → u32_at body 24 ≡ 0 → (f : Fixups) → f ≡ header_of body at base → value f ≡ fixups_of body at base
    unfolding fixups_of choose
    header_in e n f g = rw g (simp (le-leb (0 + 28) (length body) h, eq-eqb (u32_at body 20) 1 e, eq-eqb (u32_at body 24) 0 n))
