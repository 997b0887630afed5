-- Where k bytes can be read at an address, some row of the segment table holds it, with its room: from the segment's first address to the
-- end of the k bytes there are no more bytes than the longest file has. Nothing is assumed of the segments' order, and they may overlap.
use Rattle.std.proofs.Common.{◌≡◌, ℕ, ◌+◌, ◌-◌, ◌≤◌, Bool, true, false, ◌&&◌, leb, List, [], ◌∷◌, length, sym, refl, true≢false, arith, le-leb, leb-true}
use Rattle.reads.specs.Files.{file_of, longest}
use Rattle.reads.specs.Breaks.{is_value, can_read}
use Rattle.reads.specs.Outcome.{Outcome, value, and_then, because, choose, sum64}
use Rattle.reads.specs.declared.answer.Reason.TheVariants.{Unmapped}
use Rattle.reads.specs.Place.{Image, readable_at, readable}
use Rattle.reads.specs.Segment.{rows, holds, place_at, placed, lookup}
use Rattle.reads.specs.declared.place.Place.{Place}
use Rattle.reads.specs.declared.segment.Segment.{Segment}
use Rattle.reads.proofs.Breakpoints.{in_image}
use Rattle.reads.proofs.LentFiles.{longest_most}
use Rattle.reads.proofs.Lookups.{holds_is}
use Rattle.reads.proofs.Tests.{by_choose, choose_true}

-- The k bytes at an address lie in the n bytes from the segment's first address on; in those of one of the segments.
abbrev pub in_room : ℕ → ℕ → Segment → ℕ → Bool
in_room n k s va = leb s.vmaddr va && leb (va + k) (s.vmaddr + n)

unfoldable pub in_some_room : ℕ → ℕ → List Segment → ℕ → Bool
in_some_room n k [] va = false
in_some_room n k (s ∷ ss) va = choose (in_room n k s va) true (in_some_room n k ss va)

module _ (fs : List (List ℕ)) (k : ℕ) where
  placed_room : (s : Segment) (va : ℕ) → in_image fs k (placed s va) ≡ true → s.fileoff + (va - s.vmaddr) + k ≤ length (file_of fs s.file)
  unfolding placed sum64 readable_at
  placed_room s va =
      by_choose (λ o. in_image fs k o ≡ true → Room) (λ e z. never z)
      (λ e. by_choose (λ o. in_image fs k (and_then (because Unmapped o) (λ offset. value (place_at s.file offset))) ≡ true → Room)
      (λ f. by_choose (λ (o : Outcome Place). is_value o ≡ true → Room) (λ g z. leb-true _ _ g) (λ g z. never z))
      (λ f z. never z))
    where
      Room : Type 0
      Room = s.fileoff + (va - s.vmaddr) + k ≤ length (file_of fs s.file)

      never : false ≡ true → Room
      never z = absurd (true≢false (sym z))

  holds_room : (s : Segment) (va : ℕ) → holds s va ≡ true → in_image fs k (placed s va) ≡ true → in_room (longest fs) k s va ≡ true
  holds_room s va e z =
      let h = holds_is s va e in
      let r = placed_room s va z in
      let within : va + k ≤ s.vmaddr + longest fs = omega (arith, h.1, longest_most fs s.file) in
      rw (le-leb s.vmaddr va h.1, le-leb (va + k) (s.vmaddr + longest fs) within) refl

  lookup_room : (ss : List Segment) (va : ℕ) → in_image fs k (lookup ss va) ≡ true → in_some_room (longest fs) k ss va ≡ true
  unfolding lookup in_some_room
  lookup_room [] va = λ z. z
  lookup_room (s ∷ ss) va =
      by_choose (λ o. in_image fs k o ≡ true → in_some_room (longest fs) k (s ∷ ss) va ≡ true) (λ e z. absurd (true≢false (sym z)))
      (λ e. by_choose (λ o. in_image fs k o ≡ true → in_some_room (longest fs) k (s ∷ ss) va ≡ true)
      (λ h z. choose_true _ _ (holds_room s va h z))
      (λ h z. by_choose (λ (b : Bool). b ≡ true) (λ t. refl) (λ t. lookup_room ss va z)))

pub can_read_room : (m : Image) (k va : ℕ) → can_read m k va ≡ true → in_some_room (longest m.files) k (rows m.words) va ≡ true
unfolding can_read readable
can_read_room m k va e = lookup_room m.files k (rows m.words) va e
