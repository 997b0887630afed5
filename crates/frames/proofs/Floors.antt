-- Starts met one after the other leave their floor: the greatest at or before a limit.
use Prim.Native.Nat.{ℕ, ◌≤◌, ◌<◌}
use mathlib.Core.Path.{◌≡◌, refl}
use mathlib.Core.List.Memᴰ
use mathlib.Core.List.{List, [], ◌∷◌, ◌++◌, foldl, append-nil, append_assoc, Memᴰ}
use mathlib.Core.Logic.{⊎_elim}
use native.Mathlib.Omega.{arith}
use borrow.Author.Tests.{leb-true, leb-false, ltb-true, ltb-false}
use Rattle.reads.proofs.Tests.{by_choose}
use Rattle.std.specs.Prelude.{Option, None, Some}
use Rattle.frames.specs.Marks.{later, raised, met_in, met_all}
use Rattle.frames.specs.declared.frames.Frames.{Frames}

pub record Greatest (starts : List ℕ) (limit a : ℕ) : Type 0 where
  pub member : Memᴰ a starts
  pub within : a ≤ limit
  pub greatest : (b : ℕ) → Memᴰ b starts → b ≤ limit → b ≤ a

-- What a floor says of the starts.
abbrev pub IsFloor : List ℕ → ℕ → Option ℕ → Type 0
IsFloor starts limit None = (b : ℕ) → Memᴰ b starts → limit < b
IsFloor starts limit (Some a) = Greatest starts limit a

module _ (starts : List ℕ) (b : ℕ) (limit : ℕ) where
  abbrev more : List ℕ
  more = starts ++ (b ∷ [])

  -- A start met is an earlier one or the last.
  earlier_or_last : {P : Type 0} {c : ℕ} → Memᴰ c more → (Memᴰ c starts → P) → (c ≡ b → P) → P
  earlier_or_last m f g = ⊎_elim f (λ n. g (Memᴰ.eq_of_singleton n)) (Memᴰ.append_cases starts m)

  last : Memᴰ b more
  last = Memᴰ.append_right starts (Memᴰ.head refl)

  floor_kept : limit < b → (f : Option ℕ) → IsFloor starts limit f → IsFloor more limit f
  floor_kept h None l = λ c m. earlier_or_last m (λ n. l c n) (λ e. omega arith)
  floor_kept h (Some a) l =
      record {
        member = Memᴰ.append_left (b ∷ []) l.member;
        within = l.within;
        greatest = λ c m u. earlier_or_last m (λ n. l.greatest c n u) (λ e. omega arith);
      }

  floor_later : b ≤ limit → (f : Option ℕ) → IsFloor starts limit f → IsFloor more limit (later f b)
  floor_later h None l =
      record {
        member = last;
        within = h;
        greatest = λ c m u. earlier_or_last m (λ n. absurd (omega (arith, l c n))) (λ e. omega arith);
      }
  floor_later h (Some a) l =
      by_choose (IsFloor more limit)
      (λ e.
      record {
        member = last;
        within = h;
        greatest = λ c m u. earlier_or_last m (λ n. omega (arith, l.greatest c n u, ltb-true a b e)) (λ g. omega arith);
      })
      (λ e.
      record {
        member = Memᴰ.append_left (b ∷ []) l.member;
        within = l.within;
        greatest = λ c m u. earlier_or_last m (λ n. l.greatest c n u) (λ g. omega (arith, ltb-false a b e));
      })

  floor_raised : (f : Option ℕ) → IsFloor starts limit f → IsFloor more limit (raised limit f b)
  unfolding raised
  floor_raised f l =
      by_choose (IsFloor more limit) (λ e. floor_later (leb-true b limit e) f l) (λ e. floor_kept (leb-false b limit e) f l)

-- From the floor of the starts before to the floor of all.
floor_after : (limit : ℕ) (starts before : List ℕ) (f : Option ℕ) → IsFloor before limit f → IsFloor (before ++ starts) limit (foldl (raised limit) f starts)
floor_after limit [] before f l = rw (append-nil before) l
floor_after limit (b ∷ bs) before f l =
    rw (append_assoc before (b ∷ []) bs) at (floor_after limit bs (before ++ (b ∷ [])) (raised limit f b) (floor_raised before b limit f l))

pub floor_of_all : (limit : ℕ) (starts : List ℕ) → IsFloor starts limit (foldl (raised limit) None starts)
floor_of_all limit starts = floor_after limit starts [] None (λ b m. absurd (Memᴰ.not-nil m))

-- Each floor is raised by itself.
pub met_each : (w : Frames) (starts : List ℕ)
    → met_all (Some w) starts
    ≡ Some (record {
      low = w.low;
      high = w.high;
      low_floor = foldl (raised w.low) w.low_floor starts;
      high_floor = foldl (raised w.high) w.high_floor starts;
    })
unfolding met_in
met_each w [] = refl
met_each w (b ∷ bs) = met_each (met_in w b) bs

-- Where no address is possible, none is once starts are met.
pub none_met : (starts : List ℕ) → met_all None starts ≡ None
none_met [] = refl
none_met (b ∷ bs) = none_met bs
