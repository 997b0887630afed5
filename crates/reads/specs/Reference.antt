-- What an `ensures` says of a parameter that is a reference.
use Rattle.std.specs.Prelude.{ℕ, List}
use Rattle.std.specs.Borrow.{Bor}
use denote.Triple.Both.{Both}

-- A slice of numbers, as an `ensures` names it: as it was passed, and as the function leaves it.
abbrev pub Slice : Type 0
Slice = Both (Bor (List ℕ)) (Bor (List ℕ))

-- A slice of such slices.
abbrev pub Slices : Type 0
Slices = Both (Bor (List (Bor (List ℕ)))) (Bor (List (Bor (List ℕ))))

-- What is behind a reference before the call, and after it.
abbrev pub before : {X Y : Type 0} → Both (Bor X) Y → X
before x = x.entry.now

abbrev pub after : {X Y : Type 0} → Both Y (Bor X) → X
after x = x.exit.now
