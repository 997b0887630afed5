-- Options: none is not some, and some of two is some of one only where they are the same.
use Rattle.std.specs.Prelude.{◌≡◌, Option, Some, None}

pub none_not_some : {A : Type 0} (a : A) → ◌≡◌ {A = Option A} None (Some a) → ⊥
none_not_some a e = cc

pub some_same : {A : Type 0} (a b : A) → ◌≡◌ {A = Option A} (Some a) (Some b) → a ≡ b
some_same a b e = cc
