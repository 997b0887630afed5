-- The numbers of an enum's variants, in the order in which it lists them.
use mathlib.Core.Path.{◌≡◌, refl}
use denote.Enum.Declared.{tag_of}
use Rattle.reads.specs.contracts.text.Reading as text
use Rattle.reads.specs.declared.text.Reading.{Reading}
use Rattle.reads.specs.declared.text.Reading.TheVariants as reading
use Rattle.records.specs.contracts.method.MethodKind as method
use Rattle.records.specs.declared.method.MethodKind.{MethodKind}
use Rattle.records.specs.declared.method.MethodKind.TheVariants as kind
use Rattle.frames.specs.Marks.{mark_number}
use Rattle.frames.specs.contracts.frames.Mark as frames
use Rattle.frames.specs.declared.frames.Mark.{Mark}
use Rattle.frames.specs.declared.frames.Mark.TheVariants as mark
use Rattle.printing.specs.LineText.{kind_number, reading_number}

pub reading_tag : (r : Reading) → reading_number r ≡ tag_of text.the_type r
reading_tag reading.Old = refl
reading_tag reading.New = refl

pub kind_tag : (k : MethodKind) → kind_number k ≡ tag_of method.the_type k
kind_tag kind.Legacy = refl
kind_tag kind.SmallIndirect = refl
kind_tag kind.SmallDirect = refl

pub mark_tag : (m : Mark) → mark_number m ≡ tag_of frames.the_type m
mark_tag mark.Unmarked = refl
mark_tag mark.Marked = refl
mark_tag mark.Certain = refl
