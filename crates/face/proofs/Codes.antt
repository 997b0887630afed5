-- The code of a form, which is its place among the forms, and a yes as a word.
use mathlib.Core.Path.{◌≡◌, refl}
use mathlib.Core.Bool.{Bool, true, false}
use denote.Enum.Declared.{tag_of}
use Rattle.std.specs.Int.{from_bool}
use Rattle.records.specs.contracts.method.MethodKind.{the_type}
use Rattle.records.specs.declared.method.MethodKind.{MethodKind}
use Rattle.records.specs.declared.method.MethodKind.TheVariants as kind
use Rattle.face.specs.Row.{form_code}
use Rattle.face.specs.Words.{flag}

pub form_tag : (k : MethodKind) → tag_of the_type k ≡ form_code k
form_tag kind.Legacy = refl
form_tag kind.SmallIndirect = refl
form_tag kind.SmallDirect = refl

pub bool_flag : (b : Bool) → from_bool b ≡ flag b
bool_flag true = refl
bool_flag false = refl
