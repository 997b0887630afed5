-- The same listing under another reading (document 02, note 12): the third field of line I, and nothing else.
use Rattle.std.specs.Prelude.{List, [], ◌∷◌}
use Rattle.reads.specs.declared.text.Reading.{Reading}
use Rattle.listing.specs.declared.line.Line.{Line}
use Rattle.listing.specs.declared.line.Line.TheVariants as line

-- A line that says this reading, if it is I; the others say none.
abbrev pub says_reading : Reading → Line → Line
says_reading r (line.Info i) = line.Info (record { info = i.info; reading = r })
says_reading r (line.Class c) = line.Class c
says_reading r (line.Ro x) = line.Ro x
says_reading r (line.Protocol p) = line.Protocol p
says_reading r (line.Category c) = line.Category c
says_reading r (line.Row x) = line.Row x
says_reading r (line.Name n) = line.Name n
says_reading r (line.End e) = line.End e

-- The lines with this reading in I, which is the first.
abbrev pub with_reading : Reading → List Line → List Line
with_reading r [] = []
with_reading r (first ∷ rest) = says_reading r first ∷ rest
