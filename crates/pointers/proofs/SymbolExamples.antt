-- Symbol names without their prefix, computed from the definitions.
use Prim.Native.Nat.{ℕ}
use Prim.Native.String.{String}
use mathlib.Core.Path.{◌≡◌, refl}
use mathlib.Core.List.{List, [], ◌∷◌, ◌++◌}
use lib.ListN.{length}
use Rattle.reads.specs.Outcome.{choose, text_of}
use Rattle.reads.specs.Files.{file_of}
use Rattle.reads.specs.Place.{part}
use Rattle.pointers.specs.Symbol.{ascii, starts, fitting, stripped_in, stripped_name}

-- What remains of a name that stands at offset 2 of a file, between other bytes.
abbrev remains : String → List ℕ
remains name =
    let image = ascii "a " ++ ascii name ++ ascii " b" in
    let t = stripped_in image (text_of 0 2 (length (ascii name))) in
    part image t.offset t.len

class : remains "_OBJC_CLASS_$_NSObject" ≡ ascii "NSObject"
unfolding stripped_in fitting starts choose
class = refl

metaclass : remains "_OBJC_METACLASS_$_X" ≡ ascii "X"
unfolding stripped_in fitting starts choose
metaclass = refl

label_protocol : remains "_OBJC_LABEL_PROTOCOL_$_NSCopying" ≡ ascii "NSCopying"
unfolding stripped_in fitting starts choose
label_protocol = refl

prefix_alone : remains "_OBJC_REF_$_" ≡ ascii ""
unfolding stripped_in fitting starts choose
prefix_alone = refl

prefix_twice : remains "_OBJC_PROTOCOL_$__OBJC_REF_$_Y" ≡ ascii "_OBJC_REF_$_Y"
unfolding stripped_in fitting starts choose
prefix_twice = refl

no_prefix : remains "NSObject" ≡ ascii "NSObject"
unfolding stripped_in fitting starts choose
no_prefix = refl

prefix_cut : remains "_OBJC_CLASS_$" ≡ ascii "_OBJC_CLASS_$"
unfolding stripped_in fitting starts choose
prefix_cut = refl

-- A name that runs past the file's end is matched over the bytes that are there, and so is one that starts past it.
past_the_end : stripped_in (ascii "_OBJC_CLASS_$_A") (text_of 0 0 99) ≡ text_of 0 14 85
unfolding stripped_in fitting starts choose
past_the_end = refl

cut_by_the_end : stripped_in (ascii "_OBJC_CLASS_$") (text_of 0 0 99) ≡ text_of 0 0 99
unfolding stripped_in fitting starts choose
cut_by_the_end = refl

outside : stripped_in (ascii "_OBJC_CLASS_$_A") (text_of 0 16 15) ≡ text_of 0 16 15
unfolding stripped_in fitting starts choose
outside = refl

-- A name of file 1 is matched over the bytes of that file, and stays in it; the bytes of file 0 would fit.
other_file : stripped_name (ascii "_OBJC_CLASS_$_A" ∷ ascii "_OBJC_REF_$_B" ∷ []) (text_of 1 0 13) ≡ text_of 1 12 1
unfolding stripped_in file_of fitting starts choose
other_file = refl
