-- A buffer that is filled from a reader, and the listing of what was read; the bytes still to be read, and those that a writer holds, are known or not.
use Rattle.std.specs.Prelude.{◌≡◌, ℕ, ◌<◌, ◌≤◌, true, List, length, take, Option}
use Rattle.std.specs.Io.KnownBytes.{Appends, Consumes, IsAtEnd}
use Rattle.pointers.specs.declared.setting.Setting.{Setting}
use Rattle.printing.specs.BundleText.{bundle_text}
use Rattle.printing.specs.BundleLent.{input_size}
use Rattle.printing.specs.declared.program.Filled.{Filled}
use Rattle.printing.specs.declared.program.Listed.{Listed}

-- It has so many bytes from the front of those; where no read failed and it is not full, they were all.
pub record Fills (left after : Option (List ℕ)) (r : Filled) (to : List ℕ) : Type 0 where
  pub inside : r.len ≤ length to
  pub taken : Consumes left after (take r.len to)
  pub ends : r.whole ≡ true → r.len < length to → IsAtEnd after

-- A buffer of one byte more than the longest bundle was filled from the reader, and where every write went well the writer was handed, after what it held,
-- exactly the text of that bundle.
pub record Lists (left after held holds : Option (List ℕ)) (u : Setting) (r : Listed) : Type 0 where
  pub input : List ℕ
  pub room : length input ≡ input_size
  pub read : Fills left after r.input input
  pub written : r.written.whole ≡ true → Appends held holds (bundle_text u (take r.input.len input))
