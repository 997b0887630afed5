-- A record or row whose bytes can be read: its place, and its pointer fields, are those that lookups give.
use Prim.Native.Nat.{ℕ, ◌+◌, ◌≤◌, ◌<◌}
use mathlib.Core.Path.{◌≡◌, refl, sym, ap, ◌∙◌}
use mathlib.Core.Bool.{true}
use mathlib.Core.List.{List}
use lib.ListN.{length, get_or}
use Rattle.std.specs.Borrow.{Bor}
use native.Mathlib.Omega.{arith}
use Rattle.std.specs.Prelude.{Result, Ok, Err}
use Rattle.reads.specs.Outcome.{Outcome, value, and_then, sum64}
use Rattle.reads.specs.Answer.{missed, outcome}
use Rattle.reads.specs.Address.{stripped}
use Rattle.reads.specs.Files.{files_lent, file_of}
use Rattle.reads.specs.Place.{Image, image_of, part, readable, le_in, word_in, word}
use Rattle.reads.specs.Spot.{readable_spot}
use Rattle.reads.specs.declared.answer.Missing.{Missing}
use Rattle.reads.specs.declared.place.Place.{Place}
use Rattle.reads.specs.declared.spot.Spot.{Spot}
use Rattle.reads.proofs.Numbers.{found_lent, found_file, found_holds, le_in_part, readable_room}
use Rattle.reads.proofs.Parts.{part_length}
use Rattle.reads.proofs.Outcomes.{missed_then}
use Rattle.reads.proofs.Spots.{spot_place_readable, near_word_in}
use Rattle.reads.proofs.Tests.{by_choose}
use Rattle.pointers.specs.Tables.{Tables, image_in}
use Rattle.pointers.specs.Slot as slots
use Rattle.pointers.specs.Slot.{is_near}
use Rattle.pointers.proofs.NearSlots.{near_resolved}

module _ (m : Image) (va size : ℕ) (r : Result Spot Missing) (e : outcome r ≡ readable_spot m va size) where
  pub place_found : (s : Spot) → r ≡ Ok s → value s.place ≡ readable m va size
  place_found s o =
      ap (λ (x : Outcome Spot). and_then x (λ (s : Spot). value s.place)) (sym (ap outcome o) ∙ e) ∙ spot_place_readable m va size

  pub place_unreadable : (x : Missing) → r ≡ Err x → missed {A = Place} x ≡ readable m va size
  place_unreadable x o =
      missed_then x (λ (s : Spot). value s.place)
      ∙ ap (λ (x : Outcome Spot). and_then x (λ (s : Spot). value s.place)) (sym (ap outcome o) ∙ e) ∙ spot_place_readable m va size

-- The bytes at a spot can be read.
pub near_readable : (m : Image) (va size : ℕ) (s : Spot) → readable_spot m va size ≡ value s → value s.place ≡ readable m va size
near_readable m va size s found =
    ap (λ (x : Outcome Spot). and_then x (λ (s : Spot). value s.place)) (sym found) ∙ spot_place_readable m va size

-- The address of a field.
pub sum_is : (a b c : ℕ) → value c ≡ sum64 a b → c ≡ a + b
unfolding sum64
sum_is a b c = by_choose (λ (o : Outcome ℕ). value c ≡ o → c ≡ a + b) (λ h e. cc) (λ h e. let z : ◌≡◌ {A = ℕ} 0 1 = cc in absurd (omega arith))

-- The bytes of a record at its spot.
module _ (t : Tables) (va size : ℕ) (s : Spot) (found : readable_spot (image_in t) va size ≡ value s) where
  place_there : value s.place ≡ readable (image_in t) va size
  place_there = near_readable (image_in t) va size s found

  -- Their file is lent, and holds them.
  module _ (fs : List (Bor (List ℕ))) (v : files_lent fs ≡ t.files) (some : 0 < size) where
    image : image_of (files_lent fs) t.segments ≡ image_in t
    image = ap (λ (x : List (List ℕ)). image_of x t.segments) v

    pub near_lent : s.place.file < length fs
    near_lent = found_lent (Ok s.place) (image_in t) fs t.segments va size s.place image place_there refl some

    pub near_file : (d : Bor (List ℕ)) → (get_or fs s.place.file d).now ≡ file_of t.files s.place.file
    near_file = found_file (Ok s.place) (image_in t) fs t.segments va size s.place image place_there refl some

    pub near_holds : (d : Bor (List ℕ)) → s.place.offset + size ≤ length (get_or fs s.place.file d).now
    near_holds = found_holds (Ok s.place) (image_in t) fs t.segments va size s.place image place_there refl some

    -- They are cut out of it.
    pub near_cut : (d : Bor (List ℕ)) (cut : List ℕ) → cut ≡ part (get_or fs s.place.file d).now s.place.offset size
        → (cut ≡ part (file_of t.files s.place.file) s.place.offset size) × (length cut ≡ size)
    near_cut d cut e = (
      e ∙ ap (λ (x : List ℕ). part x s.place.offset size) (near_file d),
      ap length e ∙ part_length (get_or fs s.place.file d).now s.place.offset size (near_holds d),
    )

  -- The pointer and the word in a field, which `Near` reads from them.
  module _ (k slot : ℕ) (q : slot ≡ va + k) (h : k + 8 ≤ size) where
    pub near_slot : is_near t.index t.setting s k slot ≡ true → value (stripped (word_in t.files 8 s.place k)) ≡ slots.slot t slot
    near_slot n = rw q (near_resolved (image_in t) t.rebases t.index t.setting va size s found k h (rw (← q) n))

    pub near_word : k < s.room → value (word_in t.files 8 s.place k) ≡ word (image_in t) 8 slot
    near_word inside = rw q (near_word_in (image_in t) va size s found k h inside)

-- A number that is cut out of a record's bytes is the number at their place.
module _ (t : Tables) (va : ℕ) (bytes : List ℕ) (s : Spot) (found : readable_spot (image_in t) va (length bytes) ≡ value s)
    (there : bytes ≡ part (file_of t.files s.place.file) s.place.offset (length bytes)) where
  pub near_number : (k w : ℕ) (cut : List ℕ) → cut ≡ part bytes k w → k + w ≤ length bytes → le_in cut w (0 + 0) ≡ word_in t.files w s.place k
  unfolding word_in
  near_number k w cut e h =
      let file = file_of t.files s.place.file in
      let within = readable_room (image_in t) va (length bytes) s.place (sym (near_readable (image_in t) va (length bytes) s found)) in
      let same : k + 0 ≡ k = omega arith in
      ap (λ (x : List ℕ). le_in x w 0) e ∙ le_in_part bytes k w w 0 (omega arith) h ∙ ap (le_in bytes w) same
      ∙ ap (λ (x : List ℕ). le_in x w k) there ∙ le_in_part file s.place.offset (length bytes) w k h within
