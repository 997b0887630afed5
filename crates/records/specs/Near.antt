-- A record or row whose bytes can be read, with the spot of its address and the bytes: its fields are then read from them.
use Rattle.std.specs.Prelude.{ℕ, ◌≡◌, length, Result, Ok, Err}
use Rattle.reads.specs.Answer.{missed}
use Rattle.reads.specs.Outcome.{Outcome, value}
use Rattle.reads.specs.Place.{readable}
use Rattle.reads.specs.declared.answer.Missing.{Missing}
use Rattle.reads.specs.declared.place.Place.{Place}
use Rattle.pointers.specs.Tables.{image_in}
use Rattle.records.specs.declared.near.Near.{Near}

-- Where its bytes stand, or why they cannot be read.
abbrev pub place_of : Result Near Missing → Outcome Place
place_of (Ok n) = value n.spot.place
place_of (Err m) = missed m

-- It is of so many bytes, and they stand at its spot.
abbrev pub OfSize : Near → ℕ → Type 0
OfSize n size = (length n.bytes.now ≡ size) × (value n.spot.place ≡ readable (image_in n.tables.now) n.va size)
