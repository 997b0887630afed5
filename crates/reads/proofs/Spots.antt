-- Spots, by the tests that the code makes; and what is read near one is what a lookup gives.
use Rattle.std.proofs.Common.{◌≡◌, ℕ, ◌+◌, ◌-◌, ◌^◌, ◌<◌, ◌≤◌, min, max, Bool, true, false, ◌&&◌, ltb, leb, List, [], ◌∷◌, length, sym, refl, ap, ◌∙◌, subst, true≢false, arith, ltb-false, lt-ltb, le-leb, leb-false, leb-true}
use mathlib.Core.Bool.{and-true, or-true}
use borrow.Author.Tests.{lt-leb}
use Rattle.reads.specs.Outcome.{Outcome, value, absent, and_then, because, choose}
use Rattle.reads.specs.declared.answer.Reason.TheVariants.{Unmapped, Unreadable}
use Rattle.reads.specs.Files.{file_of}
use Rattle.reads.specs.Segment.{rows, ends, holds, mapped_size, place_at, placed, lookup}
use Rattle.reads.specs.Place.{Image, readable_at, readable, word, word_in}
use Rattle.reads.specs.Spot.{spot, distance, spot_at, spot_from, spot_in, if_readable, readable_spot, moved, spot_behind}
use Rattle.std.specs.Prelude.{Option, None, Some}
use Rattle.reads.specs.declared.place.Place.{Place}
use Rattle.reads.specs.declared.segment.Segment.{Segment}
use Rattle.reads.specs.declared.spot.Spot.{Spot}
use native.Mathlib.Decide.{dec_le}
use Rattle.reads.proofs.Lookups.{ends_not, holds_none, holds_before, holds_is, placed_past, placed_over, placed_at, lookup_out, lookup_ends, lookup_holds, lookup_on}
use Rattle.reads.proofs.Breakpoints.{holds_not_past}
use Rattle.reads.proofs.Numbers.{readable_in, readable_out, le_inside}
use Rattle.reads.proofs.Outcomes.{then_then}
use Rattle.reads.proofs.Tests.{by_choose, choose_true, choose_false}

module _ (s : Segment) (va : ℕ) where
  distance_past : s.vmaddr ≤ va → distance s va ≡ va - s.vmaddr
  unfolding distance
  distance_past h = choose_true _ _ (le-leb s.vmaddr va h)

  distance_before : va < s.vmaddr → distance s va ≡ 2 ^ 64 + va - s.vmaddr
  unfolding distance
  distance_before h = choose_false _ _ (lt-leb s.vmaddr va h)

  pub unreached : s.vmsize ≤ distance s va → holds s va ≡ false
  unreached h = go (leb s.vmaddr va) refl
    where
      go : (b : Bool) → leb s.vmaddr va ≡ b → holds s va ≡ false
      go true p = let q = leb-true s.vmaddr va p in holds_not_past s va (omega (arith, distance_past q))
      go false p = holds_before s va (leb-false s.vmaddr va p)

  pub placed_far : holds s va ≡ true → s.filesize ≤ distance s va → placed s va ≡ absent Unmapped
  placed_far h l = sym (placed_past s va (omega (arith, distance_past (holds_is s va h).1)))

-- A segment that does not end a lookup holds an address exactly below its vmsize, if it has bytes in the file.
module _ (s : Segment) (va : ℕ) (e : ends s ≡ false) where
  pub held_by : distance s va < s.vmsize → ltb 0 s.filesize ≡ holds s va
  unfolding holds
  held_by h = go (leb s.vmaddr va) refl
    where
      go : (b : Bool) → leb s.vmaddr va ≡ b → ltb 0 s.filesize ≡ (ltb 0 s.filesize && (b && ltb va (s.vmaddr + s.vmsize)))
      go true p =
          let q = leb-true s.vmaddr va p in
          rw (lt-ltb va (s.vmaddr + s.vmsize) (omega (arith, distance_past s va q))) (sym (and-true (ltb 0 s.filesize)))
      go false p = let q = leb-false s.vmaddr va p in absurd (omega (arith, distance_before s va q, ends_not s e))

  pub reached : distance s va < s.vmsize → 0 < s.filesize → holds s va ≡ true
  reached h n = sym (held_by h) ∙ lt-ltb 0 s.filesize n

  -- Further on the distance grows as much, until the segment begins again.
  further : (k : ℕ) → k < 2 ^ 64 - distance s va → distance s (va + k) ≡ distance s va + k
  further k n = by (leb s.vmaddr va) refl (leb s.vmaddr (va + k)) refl
    where
      by : (b : Bool) → leb s.vmaddr va ≡ b → (c : Bool) → leb s.vmaddr (va + k) ≡ c → distance s (va + k) ≡ distance s va + k
      by true p c q = let u = leb-true s.vmaddr va p in rw (distance_past s va u, distance_past s (va + k) (omega arith)) (omega arith)
      by false p true q =
          let u = leb-false s.vmaddr va p in
          let v = leb-true s.vmaddr (va + k) q in
          absurd (omega (arith, distance_before s va u))
      by false p false q =
          let u = leb-false s.vmaddr va p in
          let v = leb-false s.vmaddr (va + k) q in
          rw (distance_before s va u, distance_before s (va + k) v) (omega (arith, ends_not s e))

  -- Nor does it hold an address until then.
  still_not : (k : ℕ) → k < 2 ^ 64 - distance s va → holds s va ≡ false → holds s (va + k) ≡ false
  still_not k n h = go (ltb 0 s.filesize) refl
    where
      go : (b : Bool) → ltb 0 s.filesize ≡ b → holds s (va + k) ≡ false
      go true p = unreached s (va + k) (omega (arith, further k n, le_of))
        where
          le_of : s.vmsize ≤ distance s va
          le_of = elim (dec_le s.vmsize (distance s va)) [ yes u ↦ u | no w ↦ absurd (true≢false (sym p ∙ held_by (omega arith) ∙ h)) ]
      go false p = holds_none s (va + k) (ltb-false 0 s.filesize p)

one_less : (x y : ℕ) → 0 < x → 0 < y → min (x - 1) (y - 1) + 1 ≡ min x y
one_less x y p q = omega arith

left_of : (n x y : ℕ) → x < n → y < n → 0 < n - max x y
left_of n x y h l = omega arith

one_off : (n x : ℕ) → n - 1 - x ≡ n - x - 1
one_off n x = omega arith

-- The spot in a segment that holds the address.
module _ (s : Segment) (far va d : ℕ) (h : holds s va ≡ true) (e : d ≡ distance s va) where
  held_distance : d ≡ va - s.vmaddr
  held_distance = e ∙ distance_past s va (holds_is s va h).1

  pub held_inside : d < s.vmsize
  held_inside = let u = holds_is s va h in omega (arith, held_distance, u.1, u.2)

  pub spot_past : s.filesize ≤ d → None ≡ spot_at s far va
  unfolding spot_at
  spot_past l = sym (choose_true _ _ (rw (← held_distance, le-leb s.filesize d l)))

  pub spot_over : d < s.filesize → 2 ^ 64 ≤ s.fileoff + d → None ≡ spot_at s far va
  unfolding spot_at
  spot_over l o = sym (choose_true _ _ (rw (← held_distance, le-leb (2 ^ 64) (s.fileoff + d) o) (or-true (leb s.filesize d))))

  abbrev there : Spot
  there = spot s.file (s.fileoff + d) (min (mapped_size s - d) (2 ^ 64 - max far (s.fileoff + d)))

  spot_held : d < s.filesize → s.fileoff + d < 2 ^ 64 → Some there ≡ spot_at s far va
  unfolding spot_at
  spot_held l o = sym (rw (← held_distance) (choose_false _ _ (rw (lt-leb s.filesize d l, lt-leb (2 ^ 64) (s.fileoff + d) o))))

  pub spot_there : (last most : ℕ) → d < s.filesize → s.fileoff + d < 2 ^ 64 → far < 2 ^ 64 → last ≡ min s.filesize s.vmsize - d - 1
      → most ≡ max far (s.fileoff + d) → Some (spot s.file (s.fileoff + d) (min last (2 ^ 64 - 1 - most) + 1)) ≡ spot_at s far va
  unfolding mapped_size
  spot_there last most l o f q r =
      let left = min s.filesize s.vmsize - d in
      let some : 0 < left = omega (arith, held_inside) in
      let farther = max far (s.fileoff + d) in
      rw (q, r, one_off (2 ^ 64) farther, one_less left (2 ^ 64 - farther) some (left_of (2 ^ 64) far (s.fileoff + d) f o)) (spot_held l o)

  -- One of three cases.
  by_spot : (P : Option Spot → Type 0) → (s.filesize ≤ d → P None) → (d < s.filesize → 2 ^ 64 ≤ s.fileoff + d → P None)
      → (d < s.filesize → s.fileoff + d < 2 ^ 64 → P (Some there)) → P (spot_at s far va)
  by_spot P past over held = go (leb s.filesize d) refl (leb (2 ^ 64) (s.fileoff + d)) refl
    where
      go : (a : Bool) → leb s.filesize d ≡ a → (b : Bool) → leb (2 ^ 64) (s.fileoff + d) ≡ b → P (spot_at s far va)
      go true p b q = let l = leb-true s.filesize d p in subst P (spot_past l) (past l)
      go false p true q =
          let l = leb-false s.filesize d p in
          let o = leb-true (2 ^ 64) (s.fileoff + d) q in
          subst P (spot_over l o) (over l o)
      go false p false q =
          let l = leb-false s.filesize d p in
          let o = leb-false (2 ^ 64) (s.fileoff + d) q in
          subst P (spot_held l o) (held l o)

pub spot_out : (far va : ℕ) → spot_from far [] va ≡ None
unfolding spot_from
spot_out far va = refl

-- The first of the segments decides, or is passed.
module _ (s : Segment) (ss : List Segment) (far va : ℕ) where
  pub spot_ends : ends s ≡ true → spot_from far (s ∷ ss) va ≡ None
  unfolding spot_from
  spot_ends e = choose_true _ _ e

  pub spot_holds : ends s ≡ false → holds s va ≡ true → spot_from far (s ∷ ss) va ≡ spot_at s far va
  unfolding spot_from
  spot_holds e h = choose_false _ _ e ∙ choose_true _ _ h

  pub spot_on : ends s ≡ false → holds s va ≡ false → spot_from far (s ∷ ss) va ≡ spot_from (max far (distance s va)) ss va
  unfolding spot_from
  spot_on e h = choose_false _ _ e ∙ choose_false _ _ h

-- Where a lookup leads.
abbrev place_in : Option Spot → Outcome Place
place_in None = absent Unmapped
place_in (Some s) = value s.place

-- A room does not reach a segment that was passed.
abbrev Reaches : ℕ → Option Spot → Type 0
Reaches far None = Unit {0}
Reaches far (Some s) = s.room ≤ 2 ^ 64 - far

reaches_less : (far less : ℕ) (o : Option Spot) → less ≤ far → Reaches far o → Reaches less o
reaches_less far less None h r = tt
reaches_less far less (Some s) h r = omega arith

spot_at_far : (s : Segment) (far va : ℕ) → Reaches far (spot_at s far va)
unfolding spot_at
spot_at_far s far va = by_choose (Reaches far) (λ e. tt) (λ e. omega arith)

room_far : (ss : List Segment) (far va : ℕ) → Reaches far (spot_from far ss va)
unfolding spot_from
room_far [] far va = tt
room_far (s ∷ ss) far va =
    let later = reaches_less (max far (distance s va)) far (spot_from (max far (distance s va)) ss va) (omega arith) (room_far ss (max far (distance s va)) va) in
    by_choose (Reaches far) (λ e. tt)
    (λ e. by_choose (Reaches far) (λ h. spot_at_far s far va) (λ h. later))

-- In the segment that holds the address.
module _ (s : Segment) (far va : ℕ) (h : holds s va ≡ true) where
  abbrev d : ℕ
  d = distance s va

  held_place : placed s va ≡ place_in (spot_at s far va)
  held_place =
      let z = distance_past s va (holds_is s va h).1 in
      by_spot s far va d h refl (λ o. placed s va ≡ place_in o) (λ l. sym (placed_past s va (omega arith))) (λ l o. sym (placed_over s va (omega arith) (omega arith)))
      (λ l o. sym (placed_at s va (omega arith) (omega arith)) ∙ ap (λ (x : ℕ). value (place_at s.file (s.fileoff + x))) (sym z))

  -- Its spot, if there is one, moves with the address.
  module _ (t : Spot) (is : spot_at s far va ≡ Some t) (k : ℕ) (inside : k < t.room) where
    held_is : (d < s.filesize) × (s.fileoff + d < 2 ^ 64) × (there s far va d h refl ≡ t)
    held_is =
        by_spot s far va d h refl (λ o. o ≡ Some t → (d < s.filesize) × (s.fileoff + d < 2 ^ 64) × (there s far va d h refl ≡ t)) (λ l e. cc) (λ l o e. cc) (λ l o e. (l, o, cc)) is

    held_room : (d + k < s.filesize) × (d + k < s.vmsize) × (s.fileoff + d + k < 2 ^ 64)
    unfolding mapped_size
    held_room =
        let r : min (mapped_size s - d) (2 ^ 64 - max far (s.fileoff + d)) ≡ t.room = ap (λ (x : Spot). x.room) held_is.2 in
        (omega arith, omega arith, omega arith)

    holds_further : holds s (va + k) ≡ true
    unfolding holds
    holds_further =
        let u = holds_is s va h in
        let z = distance_past s va u.1 in
        let r = held_room.1 in
        rw (lt-ltb 0 s.filesize u.0, le-leb s.vmaddr (va + k) (omega (arith, u.1)), lt-ltb (va + k) (s.vmaddr + s.vmsize) (omega (arith, u.1)))

    held_moves : (far' : ℕ) → max far' (s.fileoff + d + k) ≡ max far (s.fileoff + d) + k → spot_at s far' (va + k) ≡ Some (moved t k)
    held_moves far' e =
        let u = holds_is s va h in
        let far_on : d + k ≡ distance s (va + k) = omega (arith, u.1, distance_past s va u.1, distance_past s (va + k) (omega (arith, u.1))) in
        let offset : s.fileoff + (d + k) ≡ s.fileoff + d + k = omega arith in
        let room : min (mapped_size s - (d + k)) (2 ^ 64 - max far' (s.fileoff + (d + k))) ≡ min (mapped_size s - d) (2 ^ 64 - max far (s.fileoff + d)) - k = omega (arith, e, offset) in
        sym (spot_held s far' (va + k) (d + k) holds_further far_on held_room.0 (omega (arith, held_room.2)))
        ∙ cc (offset, room) ∙ ap (λ (x : Spot). Some (moved x k)) held_is.2

-- A spot moves with its address, and the addresses in its room are of 64 bits. What was passed lies further behind by as much, but `far` is 0 at either
-- address where nothing was: so it is a maximum of `far` that moves.
spot_moves : (ss : List Segment) (far far' va k : ℕ) (t : Spot) → ((x : ℕ) → max far' (x + k) ≡ max far x + k) → spot_from far ss va ≡ Some t
    → k < t.room → (va + k < 2 ^ 64) × (spot_from far' ss (va + k) ≡ Some (moved t k))
spot_moves [] far far' va k t rel is inside = let e = sym (spot_out far va) ∙ is in absurd cc
spot_moves (s ∷ ss) far far' va k t rel is inside =
    go (ends s) refl (holds s va) refl (spot_moves ss (max far (distance s va)) (max far' (distance s (va + k))) va k t)
  where
    Moves : Type 0
    Moves = (va + k < 2 ^ 64) × (spot_from far' (s ∷ ss) (va + k) ≡ Some (moved t k))

    -- The same of the segments after this one.
    Later : Type 0
    Later = ((x : ℕ) → max (max far' (distance s (va + k))) (x + k) ≡ max (max far (distance s va)) x + k) → spot_from (max far (distance s va)) ss va ≡ Some t
        → k < t.room → (va + k < 2 ^ 64) × (spot_from (max far' (distance s (va + k))) ss (va + k) ≡ Some (moved t k))

    held : ends s ≡ false → holds s va ≡ true → Moves
    held e h =
        let at : spot_at s far va ≡ Some t = sym (spot_holds s ss far va e h) ∙ is in
        let u = holds_is s va h in
        let room = held_room s far va h t at k inside in (
          omega (arith, u.1, distance_past s va u.1, room.1, ends_not s e),
          spot_holds s ss far' (va + k) e (holds_further s far va h t at k inside) ∙ held_moves s far va h t at k inside far' (rel (s.fileoff + distance s va)),
        )

    passed : ends s ≡ false → holds s va ≡ false → Later → Moves
    passed e h ih =
        let on : spot_from (max far (distance s va)) ss va ≡ Some t = sym (spot_on s ss far va e h) ∙ is in
        let reach : t.room ≤ 2 ^ 64 - max far (distance s va) = subst (Reaches (max far (distance s va))) on (room_far ss (max far (distance s va)) va) in
        let near : k < 2 ^ 64 - distance s va = omega arith in
        let later = ih (λ x. omega (arith, rel x, rel (distance s va), further s va e k near)) on inside in
        (later.0, spot_on s ss far' (va + k) e (still_not s va e k near h) ∙ later.1)

    go : (a : Bool) → ends s ≡ a → (b : Bool) → holds s va ≡ b → Later → Moves
    go true e b h ih = let n = sym (spot_ends s ss far va e) ∙ is in absurd cc
    go false e true h ih = held e h
    go false e false h ih = passed e h ih

-- A spot is where a lookup leads.
spot_lookup : (ss : List Segment) (far va : ℕ) → lookup ss va ≡ place_in (spot_from far ss va)
spot_lookup [] far va = lookup_out va ∙ ap place_in (sym (spot_out far va))
spot_lookup (s ∷ ss) far va = go (ends s) refl (holds s va) refl (spot_lookup ss (max far (distance s va)) va)
  where
    go : (a : Bool) → ends s ≡ a → (b : Bool) → holds s va ≡ b → lookup ss va ≡ place_in (spot_from (max far (distance s va)) ss va)
        → lookup (s ∷ ss) va ≡ place_in (spot_from far (s ∷ ss) va)
    go true e b h ih = lookup_ends s ss va e ∙ ap place_in (sym (spot_ends s ss far va e))
    go false e true h ih = lookup_holds s ss va e h ∙ held_place s far va h ∙ ap place_in (sym (spot_holds s ss far va e h))
    go false e false h ih = lookup_on s ss va e h ∙ ih ∙ ap place_in (sym (spot_on s ss far va e h))

readable_same : (n : ℕ) (p : Place) (k : ℕ) → and_then (readable_at n p k) (λ q. value p) ≡ readable_at n p k
unfolding readable_at
readable_same n p k = by_choose (λ (o : Outcome Place). and_then o (λ q. value p) ≡ o) (λ e. refl) (λ e. refl)

-- The spot of bytes that can be read: none where they cannot be, else their place.
module _ (m : Image) (va size : ℕ) where
  -- What can be read at an address is what can be read at its spot.
  pub spot_place_readable : and_then (readable_spot m va size) (λ s. value s.place) ≡ readable m va size
  unfolding readable_spot readable
  spot_place_readable = go (spot_in m.words va) (spot_lookup (rows m.words) 0 va)
    where
      go : (o : Option Spot) → lookup (rows m.words) va ≡ place_in o
          → and_then (if_readable m size o) (λ s. value s.place)
          ≡ and_then (because Unreadable (lookup (rows m.words) va)) (λ p. readable_at (length (file_of m.files p.file)) p size)
      go None l = rw l
      go (Some s) l = rw (l, then_then (readable_at (length (file_of m.files s.place.file)) s.place size) (λ p. value s) (λ s. value s.place))
          (readable_same (length (file_of m.files s.place.file)) s.place size)

  module _ (s : Spot) (is : readable_spot m va size ≡ value s) where
    seen : (spot_in m.words va ≡ Some s) × (s.place.offset + size ≤ length (file_of m.files s.place.file))
    unfolding readable_spot
    seen = go (spot_in m.words va) is
      where
        go : (o : Option Spot) → if_readable m size o ≡ value s → (o ≡ Some s) × (s.place.offset + size ≤ length (file_of m.files s.place.file))
        go None e = let z : ◌≡◌ {A = ℕ} 0 1 = cc in absurd (omega arith)
        go (Some x) e = inside (leb (x.place.offset + size) (length (file_of m.files x.place.file))) refl e
          where
            inside : (b : Bool) → leb (x.place.offset + size) (length (file_of m.files x.place.file)) ≡ b
                → and_then (readable_at (length (file_of m.files x.place.file)) x.place size) (λ p. value x) ≡ value s
                → (Some x ≡ Some s) × (s.place.offset + size ≤ length (file_of m.files s.place.file))
            inside true q f =
                let h = leb-true (x.place.offset + size) (length (file_of m.files x.place.file)) q in
                let r = readable_in (length (file_of m.files x.place.file)) x.place size h in
                let same : x ≡ s = cc in
                (ap Some same, subst (λ (y : Spot). y.place.offset + size ≤ length (file_of m.files y.place.file)) same h)
            inside false q f =
                let h = leb-false (x.place.offset + size) (length (file_of m.files x.place.file)) q in
                let r = readable_out (length (file_of m.files x.place.file)) x.place size h in
                let z : ◌≡◌ {A = ℕ} 0 1 = cc in absurd (omega arith)

    -- In its room it moves with the address.
    in_room : (k : ℕ) → k < s.room → (va + k < 2 ^ 64) × (spot_in m.words (va + k) ≡ Some (moved s k))
    in_room k l = spot_moves (rows m.words) 0 0 va k s (λ x. omega arith) seen.0 l

    -- A word near it is the word that a lookup gives.
    module _ (i : ℕ) (h : i + 8 ≤ size) where
      pub near_word_in : i < s.room → value (word_in m.files 8 s.place i) ≡ word m 8 (va + i)
      unfolding word readable word_in
      near_word_in l =
          let bytes = file_of m.files s.place.file in
          let inside : s.place.offset + i + 8 ≤ length bytes = omega (arith, seen.1) in
          let leads : lookup (rows m.words) (va + i) ≡ value (moved s i).place = spot_lookup (rows m.words) 0 (va + i) ∙ ap place_in (in_room i l).1 in
          rw (leads, ← readable_in (length bytes) (place_at s.place.file (s.place.offset + i)) 8 inside, ← le_inside bytes 8 (s.place.offset + i) inside)

    -- The spot behind it is that of the address so far on.
    module _ (k n : ℕ) (t : Spot) (there : spot_behind m s k n ≡ Some t) where
      pub spot_behind_is : (va + k < 2 ^ 64) × (readable_spot m (va + k) n ≡ value t)
      unfolding spot_behind readable_spot choose
      spot_behind_is = go (leb s.room k) refl (leb (s.place.offset + k + n) (length (file_of m.files s.place.file))) refl there
        where
          go : (a : Bool) → leb s.room k ≡ a → (b : Bool) → leb (s.place.offset + k + n) (length (file_of m.files s.place.file)) ≡ b
              → choose a None (choose b (Some (moved s k)) None) ≡ Some t → (va + k < 2 ^ 64) × (readable_spot m (va + k) n ≡ value t)
          go true p b q e = absurd cc
          go false p false q e = absurd cc
          go false p true q e =
              let in_it = in_room k (leb-false s.room k p) in
              let same : moved s k ≡ t = cc in
              (in_it.0, rw (in_it.1, ← readable_in (length (file_of m.files s.place.file)) (place_at s.place.file (s.place.offset + k)) n (leb-true _ _ q)) (ap value same))
