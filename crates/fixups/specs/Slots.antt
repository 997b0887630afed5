-- What is claimed of the slots that a chain visits.
use Rattle.std.specs.Prelude.{◌≡◌, ℕ, zero, suc, ◌+◌, ◌<◌, ◌≤◌, List, [], ◌∷◌, length, ◌==◌, ◌≢◌, nat_lt, slice_index}
use Rattle.reads.specs.Outcome.{Outcome, value, absent, refused, choose}
use Rattle.fixups.specs.Chain.{Starts, slot_of, Met, visit_of}
use Rattle.fixups.specs.declared.chain.Fixups.{Fixups}
use Rattle.fixups.specs.declared.chain.Fixup.{Fixup}
use Rattle.fixups.specs.declared.chain.Fixup.TheVariants.{Rebase, Bind}

abbrev pub slot_address : Fixup → ℕ
slot_address (Rebase x) = x.slot
slot_address (Bind x) = x.slot

abbrev pub slots : List Fixup → List ℕ
slots [] = []
slots (x ∷ xs) = slot_address x ∷ slots xs

-- Each record's slot starts in the page, `page` bytes into its segment, at o bytes or more, and after the slot before it.
pub data InPage (s : Starts) (page : ℕ) : ℕ → List Fixup → Type 0 where
  none : {o : ℕ} → InPage s page o []
  slot : {o : ℕ} {x : Fixup} {xs : List Fixup} (p : ℕ) → o ≤ p → p < s.size → slot_address x ≡ slot_of s (page + p) → InPage s page (suc p) xs
      → InPage s page o (x ∷ xs)

-- No address stands twice.
abbrev pub Once : List ℕ → Type 0
Once l = (i j : ℕ) → i < j → j < length l → slice_index l i ≢ slice_index l j

-- Where a chain reads, in bytes into its page, up to its end or to the slot at which it is refused.
abbrev pub onwards : Outcome Met → (Met → List ℕ) → List ℕ
onwards (value m) g = g m
onwards (absent r) g = []
onwards (refused k) g = []

unfoldable pub visited : List ℕ → List ℕ → Fixups → Starts → ℕ → ℕ → ℕ → List ℕ
visited file body f s page zero o = []
visited file body f s page (suc k) o =
    choose (nat_lt o s.size)
    (o ∷ onwards (visit_of file body f s (page + o)) (λ m. choose (m.step == 0) [] (visited file body f s page k (o + m.step))))
    []

-- Ascending numbers from o on, below n.
pub data Climbs (n : ℕ) : ℕ → List ℕ → Type 0 where
  top : {o : ℕ} → Climbs n o []
  up : {o : ℕ} {ps : List ℕ} (p : ℕ) → o ≤ p → p < n → Climbs n (suc p) ps → Climbs n o (p ∷ ps)

-- The addresses of offsets into a page.
abbrev pub addresses : Starts → ℕ → List ℕ → List ℕ
addresses s page [] = []
addresses s page (p ∷ ps) = slot_of s (page + p) ∷ addresses s page ps
