-- Symbol names of binds without the linker's prefix (mod.rs, strip_objc_symbol_prefix): the first of the five that fits is taken off.
use Rattle.std.specs.Prelude.{ℕ, ◌+◌, ◌-◌, Bool, true, false, ◌&&◌, List, [], ◌∷◌, eqb, length}
use Prim.Native.Char.{code}
use Prim.Native.String.{String}
use Rattle.reads.specs.Outcome.{choose, text_of}
use Rattle.reads.specs.Files.{file_of}
use Rattle.reads.specs.Place.{part}
use Rattle.reads.specs.declared.text.Text.{Text}

-- The codes of an ASCII text.
abbrev pub ascii : String → List ℕ
ascii String.[] = []
ascii (String.◌∷◌ c s) = code c ∷ ascii s

abbrev pub prefixes : List (List ℕ)
prefixes =
    ascii "_OBJC_CLASS_$_"
    ∷ ascii "_OBJC_METACLASS_$_"
    ∷ ascii "_OBJC_PROTOCOL_$_"
    ∷ ascii "_OBJC_REF_$_"
    ∷ ascii "_OBJC_LABEL_PROTOCOL_$_"
    ∷ []

-- The bytes s start with the prefix.
unfoldable pub starts : List ℕ → List ℕ → Bool
starts [] s = true
starts (p ∷ ps) [] = false
starts (p ∷ ps) (b ∷ s) = eqb p b && starts ps s

-- The length of the first of the prefixes that s starts with, 0 if it starts with none.
unfoldable pub fitting : List (List ℕ) → List ℕ → ℕ
fitting [] s = 0
fitting (p ∷ ps) s = choose (starts p s) (length p) (fitting ps s)

-- A name less its prefix, by the bytes of its file.
unfoldable pub stripped_in : List ℕ → Text → Text
stripped_in bytes name =
    let n = fitting prefixes (part bytes name.offset name.len) in
    text_of name.file (name.offset + n) (name.len - n)

-- A name of the image less its prefix.
abbrev pub stripped_name : List (List ℕ) → Text → Text
stripped_name files name = stripped_in (file_of files name.file) name
