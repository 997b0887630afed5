-- Worked texts: their readings, words, and what is absent or refused.
use Prim.Native.Nat.{ℕ}
use Prim.Native.Char.{code}
use mathlib.Core.Path.{◌≡◌, refl}
use mathlib.Core.Bool.{Bool, true, false, ◌&&◌}
use mathlib.Core.List.{List, [], ◌∷◌, ◌++◌}
use lib.ListN.{replicate}
use Rattle.pointers.specs.Question.{question}
use Rattle.pointers.specs.Symbol.{ascii}
use Rattle.reads.specs.Outcome.{Outcome, value, absent, refused, choose}
use Rattle.encodings.specs.Grammar.{structure, union, basic, object, instance, bit_field, pointer, array, opaque, defined, nothing, ◌then◌, Types, none, plain, framed, among, digit_byte, name_byte, quoted_byte}
use Rattle.encodings.specs.Machine.{class_of, outside, run, parse}
use Rattle.encodings.specs.Words.{words_fit, types_of, types_left}
use Rattle.reads.specs.declared.answer.Question.TheVariants.{ItemRoom, Depth}

-- ---- `@16@0:8`: an object, frame of 16 bytes; an object at 0; a selector at 8

method_reading : parse 32 (ascii "@16@0:8")
    ≡ value (framed (framed (framed none object (code "1") (ascii "6")) object (code "0") []) (basic (code ":")) (code "8") [])
unfolding run class_of among choose digit_byte name_byte quoted_byte
method_reading = refl

method_answer : types_of (ascii "@16@0:8") 13 ≡ value 3
unfolding types_of words_fit question run class_of among choose digit_byte name_byte quoted_byte
method_answer = refl

-- The thirteenth word stays.
method_words : types_left (ascii "@16@0:8") (replicate 13 99)
    ≡ (0 ∷ 1 ∷ 1 ∷ 2 ∷ []) ++ (3 ∷ 1 ∷ 4 ∷ 1 ∷ []) ++ (5 ∷ 1 ∷ 6 ∷ 1 ∷ []) ++ 99 ∷ []
unfolding types_left types_of words_fit question run class_of among choose digit_byte name_byte quoted_byte
method_words = refl

-- 12: eleven words are too few, and stay.
method_short : types_of (ascii "@16@0:8") 11 ≡ refused ItemRoom
unfolding types_of words_fit question run class_of among choose digit_byte name_byte quoted_byte
method_short = refl

method_short_words : types_left (ascii "@16@0:8") (replicate 11 99) ≡ replicate 11 99
unfolding types_left types_of words_fit question run class_of among choose digit_byte name_byte quoted_byte
method_short_words = refl

-- ---- -[NSString enumerateSubstringsInRange:options:usingBlock:], with a structure and a block: `@?` is two types

range_words : types_left (ascii "v48@0:8{_NSRange=QQ}16Q32@?40") (replicate 28 99)
    ≡ (0 ∷ 1 ∷ 1 ∷ 2 ∷ []) ++ (3 ∷ 1 ∷ 4 ∷ 1 ∷ []) ++ (5 ∷ 1 ∷ 6 ∷ 1 ∷ []) ++ (7 ∷ 13 ∷ 20 ∷ 2 ∷ [])
    ++ (22 ∷ 1 ∷ 23 ∷ 2 ∷ []) ++ (25 ∷ 1 ∷ 0 ∷ 0 ∷ []) ++ 26 ∷ 1 ∷ 27 ∷ 2 ∷ []
unfolding types_left types_of words_fit question run class_of among choose digit_byte name_byte quoted_byte
range_words = refl

block_two_types : parse 32 (ascii "@?") ≡ value (plain (plain none object) (basic (code "?")))
unfolding run class_of among choose digit_byte name_byte quoted_byte
block_two_types = refl

-- ---- Bit fields: all digits behind `b` are its own, also behind a pointer; behind a structure that ends in one they are an offset

bits_own : parse 32 (ascii "b316") ≡ value (plain none (bit_field (code "3") (ascii "16")))
unfolding run class_of among choose digit_byte name_byte quoted_byte
bits_own = refl

bits_pointer : parse 32 (ascii "^b316") ≡ value (plain none (pointer (bit_field (code "3") (ascii "16"))))
unfolding run class_of among choose digit_byte name_byte quoted_byte
bits_pointer = refl

bits_words : types_left (ascii "rb3i4") (replicate 8 99) ≡ (0 ∷ 3 ∷ 0 ∷ 0 ∷ []) ++ 3 ∷ 1 ∷ 4 ∷ 1 ∷ []
unfolding types_left types_of words_fit question run class_of among choose digit_byte name_byte quoted_byte
bits_words = refl

bits_inside : parse 32 (ascii "{a=b3}8") ≡ value (framed none (defined structure (ascii "a") (nothing then bit_field (code "3") [])) (code "8") [])
unfolding run class_of among choose digit_byte name_byte quoted_byte
bits_inside = refl

-- ---- Arrays: of structures; leading zeros; exactly one type

array_of_structures : parse 32 (ascii "[12{CGPoint=dd}]")
    ≡ value (plain none (array (code "1") (ascii "2") (defined structure (ascii "CGPoint") (nothing then basic (code "d") then basic (code "d")))))
unfolding run class_of among choose digit_byte name_byte quoted_byte
array_of_structures = refl

leading_zeros : parse 32 (ascii "[007i]00") ≡ value (framed none (array (code "0") (ascii "07") (basic (code "i"))) (code "0") (ascii "0"))
unfolding run class_of among choose digit_byte name_byte quoted_byte
leading_zeros = refl

-- ---- Qualifiers, which may repeat, belong to the type; names, quoted classes and fields may be empty

qualifier_words : types_left (ascii "rrn^(u)4") (replicate 4 99) ≡ 0 ∷ 7 ∷ 7 ∷ 1 ∷ []
unfolding types_left types_of words_fit question run class_of among choose digit_byte name_byte quoted_byte
qualifier_words = refl

empty_parts : parse 32 (ascii "{}(=)@\"\"8")
    ≡ value (framed (plain (plain none (opaque structure [])) (defined union [] nothing)) (instance []) (code "8") [])
unfolding run class_of among choose digit_byte name_byte quoted_byte
empty_parts = refl

-- A quoted class belongs to the `@` before it, and its bytes, as those of a name, need be no UTF-8.
quoted_class : parse 32 (ascii "@\"" ++ 0xFF ∷ ascii "[=\"@")
    ≡ value (plain (plain none (instance (0xFF ∷ ascii "[="))) object)
unfolding run class_of among choose digit_byte name_byte quoted_byte
quoted_class = refl

name_bytes : parse 32 (ascii "{" ++ 0xC3 ∷ ascii "^@:}") ≡ value (plain none (opaque structure (0xC3 ∷ ascii "^@:")))
unfolding run class_of among choose digit_byte name_byte quoted_byte
name_bytes = refl

-- ---- Outside

abbrev is_outside : Outcome Types → Bool
is_outside (value ts) = false
is_outside (absent r) = true
is_outside (refused k) = false

abbrev all_outside : List (List ℕ) → Bool
all_outside [] = true
all_outside (t ∷ ts) = is_outside (parse 32 t) && all_outside ts

-- The empty text; no digit in a count or a width; no type or two in an array; an offset or a quoted name inside a structure; a lone
-- qualifier, pointer or offset; what is not closed, or closed by another bracket; other bytes.
outside_texts : all_outside ([] ∷ ascii "[i]" ∷ ascii "b" ∷ ascii "bi" ∷ ascii "[3]" ∷ ascii "[3@?]" ∷ ascii "{a=i8}" ∷ ascii "{a=\"x\"i}"
    ∷ ascii "{a\"}" ∷ ascii "r" ∷ ascii "^" ∷ ascii "8" ∷ ascii "i8r" ∷ ascii "[3i" ∷ ascii "{a" ∷ ascii "{a=" ∷ ascii "(a=i}" ∷ ascii "@\"a"
    ∷ ascii "i]" ∷ ascii "\"a\"" ∷ ascii "i-8" ∷ ascii "i 8" ∷ ascii "A" ∷ ascii "T" ∷ [])
    ≡ true
unfolding run class_of among choose digit_byte name_byte quoted_byte
outside_texts = refl

-- Absent, though no word is lent.
outside_first : types_of (ascii "[i]") 0 ≡ outside
unfolding types_of words_fit question run class_of among choose digit_byte name_byte quoted_byte
outside_first = refl

-- ---- 32 levels and 33

abbrev carets : ℕ → List ℕ
carets n = replicate n (code "^")

-- `^`, `[`, `{` and `(` are a level each, and `{d}` is one; levels that were closed do not count.
levels_32 : types_of (carets 28 ++ ascii "[1{a=(b=c{d}^c)}]") 4 ≡ value 1
unfolding types_of words_fit question run class_of among choose digit_byte name_byte quoted_byte
levels_32 = refl

levels_33 : types_of (carets 29 ++ ascii "[1{a=(b=c{d}^c)}]") 4 ≡ refused Depth
unfolding types_of words_fit question run class_of among choose digit_byte name_byte quoted_byte
levels_33 = refl

pointers_32 : types_left (carets 32 ++ ascii "i8") (replicate 4 99) ≡ 0 ∷ 33 ∷ 33 ∷ 1 ∷ []
unfolding types_left types_of words_fit question run class_of among choose digit_byte name_byte quoted_byte
pointers_32 = refl

-- 17 goes before all that follows the 33rd opening byte, and before 12; the words stay.
junk_behind : types_of (carets 32 ++ ascii "{%]") 0 ≡ refused Depth
unfolding types_of words_fit question run class_of among choose digit_byte name_byte quoted_byte
junk_behind = refl

opened_alone : types_left (ascii "i" ++ carets 33) (replicate 8 99) ≡ replicate 8 99
unfolding types_left types_of words_fit question run class_of among choose digit_byte name_byte quoted_byte
opened_alone = refl

-- But the text up to and with that byte must begin one of the grammar.
left_before : types_of (carets 32 ++ ascii "]^") 4 ≡ outside
unfolding types_of words_fit question run class_of among choose digit_byte name_byte quoted_byte
left_before = refl

-- A `^` in a name or a quoted class opens nothing.
carets_named : types_of (ascii "{" ++ carets 33 ++ ascii "}@\"" ++ carets 33 ++ ascii "\"") 8 ≡ value 2
unfolding types_of words_fit question run class_of among choose digit_byte name_byte quoted_byte
carets_named = refl
