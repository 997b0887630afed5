-- What is claimed of the names of the binds.
use Rattle.std.specs.Prelude.{ℕ, ◌+◌, ◌<◌, List, [], ◌∷◌}
use Rattle.fixups.specs.declared.name.Bound.{Bound}

-- Each name, with its zero byte, lies in a file of n bytes.
pub data NamesIn (n : ℕ) : List Bound → Type 0 where
  none : NamesIn n []
  name : {x : Bound} {xs : List Bound} → x.name.at + x.name.len < n → NamesIn n xs → NamesIn n (x ∷ xs)
