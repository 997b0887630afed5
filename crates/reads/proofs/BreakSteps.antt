-- The next breakpoint as a walk over the rows of a table finds it.
use Rattle.std.proofs.Common.{◌≡◌, ℕ, ◌+◌, ◌-◌, ◌^◌, ◌<◌, ◌≤◌, min, Bool, true, false, ltb, List, [], ◌∷◌, length, sym, refl, ap, ◌∙◌, arith}
use Rattle.reads.specs.declared.segment.Segment.{Segment}
use Rattle.reads.specs.Outcome.{choose}
use Rattle.reads.specs.Files.{file_of}
use Rattle.reads.specs.Segment.{ends}
use Rattle.reads.specs.Breaks.{readable_part, breaks, lesser, lower, next_break}
use Rattle.std.specs.Prelude.{Option, Some, None}

-- The lesser of `best` and the least of a list above va, the list's first taken first.
unfoldable pub lowest : ℕ → Option ℕ → List ℕ → Option ℕ
lowest va best [] = best
lowest va best (b ∷ bs) = lowest va (lower va best b) bs

lower_swap : (va : ℕ) (o : Option ℕ) (a b : ℕ) → lower va (lower va o a) b ≡ lower va (lower va o b) a
unfolding lower choose
lower_swap va o a b = go (ltb va a) (ltb va b)
  where
    either : (x : Option ℕ) → lesser b (lesser a x) ≡ lesser a (lesser b x)
    either None = ap Some (omega arith)
    either (Some x) = ap Some (omega arith)

    go : (t u : Bool) → choose u (lesser b (choose t (lesser a o) o)) (choose t (lesser a o) o) ≡ choose t (lesser a (choose u (lesser b o) o)) (choose u (lesser b o) o)
    go true true = either o
    go true false = refl
    go false true = refl
    go false false = refl

lowest_lower : (va : ℕ) (o : Option ℕ) (b : ℕ) (bs : List ℕ) → lower va (lowest va o bs) b ≡ lowest va (lower va o b) bs
unfolding lowest
lowest_lower va o b [] = refl
lowest_lower va o b (a ∷ bs) = lowest_lower va (lower va o a) b bs ∙ ap (λ (x : Option ℕ). lowest va x bs) (lower_swap va o a b)

pub lowest_is_next_break : (va : ℕ) (bs : List ℕ) → lowest va None bs ≡ next_break bs va
unfolding lowest next_break
lowest_is_next_break va [] = refl
lowest_is_next_break va (b ∷ bs) = sym (lowest_lower va None b bs) ∙ ap (λ (x : Option ℕ). lower va x b) (lowest_is_next_break va bs)

module _ (s : Segment) where
  -- A file of fewer than 2^64 bytes has no offset past 64 bits.
  pub mapped_by : (n k r : ℕ) → n < 2 ^ 64 → r ≡ min (min s.vmsize s.filesize) (n + 1 - k - s.fileoff) → r ≡ readable_part n k s
  unfolding readable_part
  mapped_by n k r h e = let p : min (2 ^ 64) (n + 1 - k) ≡ n + 1 - k = omega arith in rw p e

  pub readable_part_size : (n k : ℕ) → readable_part n k s ≤ s.vmsize
  unfolding readable_part
  readable_part_size n k = omega arith

-- The breakpoints of the rows that are left, with the best so far; r is what the whole walk gives.
module _ (fs : List (List ℕ)) (k va : ℕ) (best r : Option ℕ) where
  pub lowest_out : lowest va best (breaks fs k []) ≡ r → best ≡ r
  unfolding breaks lowest
  lowest_out so_far = so_far

  -- Of the first.
  module _ (s : Segment) (ss : List Segment) (so_far : lowest va best (breaks fs k (s ∷ ss)) ≡ r) where
    pub lowest_ends : ends s ≡ true → best ≡ r
    unfolding breaks lowest choose
    lowest_ends e = sym (simp e) ∙ so_far

    pub lowest_more : ends s ≡ false → (size : ℕ) (a b c : Option ℕ) → size ≡ readable_part (length (file_of fs s.file)) k s
        → a ≡ lower va best s.vmaddr → b ≡ lower va a (s.vmaddr + size) → c ≡ lower va b (s.vmaddr + s.vmsize)
        → lowest va c (breaks fs k ss) ≡ r
    unfolding breaks lowest choose
    lowest_more e size a b c p x y z = simp (z, y, x, p) (sym (simp e) ∙ so_far)
