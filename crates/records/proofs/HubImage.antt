-- ◆ the listing's image (document 01, "The program's listing"): one class, a class_ro, a method list and its strings, in one segment of 191
-- bytes at 0x1000, of file 0.
use Prim.Native.Nat.{ℕ, zero, suc, ◌/◌, ◌%◌}
use mathlib.Core.Path.{◌≡◌, refl}
use mathlib.Core.List.{List, [], ◌∷◌, ◌++◌}
use lib.ListN.{length, replicate}
use Rattle.pointers.specs.Symbol.{ascii}

-- A number as k bytes in little-endian order.
abbrev le : ℕ → ℕ → List ℕ
le zero n = []
le (suc k) n = n % 256 ∷ le k (n / 256)

-- 0x1000: class_t. isa, superclass (bound), cache and vtable 0; bits.
abbrev class : List ℕ
class = replicate 32 0 ++ le 8 0x1028

-- 0x1028: class_ro_t. flags, start, size, reserved; ivar layout, name, methods; protocols, ivars, weak layout and properties 0.
abbrev ro : List ℕ
ro = le 4 0 ++ le 4 8 ++ le 4 8 ++ le 4 0 ++ le 8 0 ++ le 8 0x1090 ++ le 8 0x1070 ++ replicate 32 0

-- 0x1070: the method list. Size and count, and the one row that is there: selector, types, imp.
abbrev methods : ℕ → List ℕ
methods count = le 4 24 ++ le 4 count ++ le 8 0x1094 ++ le 8 0x1097 ++ le 8 0x2000

-- 0x1090: the strings; 0x10A0: the class list; 0x10A8: the bound symbol.
abbrev names : List ℕ
names =
    ascii "Hub" ++ 0 ∷ ascii "up" ++ 0 ∷ ascii "v" ++ 0 ∷ replicate 7 0 ++ le 8 0x1000 ++ ascii "_OBJC_CLASS_$_NSObject" ++ 0 ∷ []

-- The image, with a count of the method list.
unfoldable pub counted : ℕ → List ℕ
counted count = class ++ ro ++ methods count ++ names

-- ◆ the listing's count.
abbrev pub bytes : List ℕ
bytes = counted 4294967295

-- The files of an image that lies in the first: a bundle lends all four (document 02, note 6).
abbrev pub four_files : List ℕ → List (List ℕ)
four_files first = first ∷ [] ∷ [] ∷ [] ∷ []

abbrev pub segments : List ℕ
segments = 0x1000 ∷ 191 ∷ 0 ∷ 191 ∷ 0 ∷ []

pub bytes_191 : length bytes ≡ 191
unfolding counted
bytes_191 = refl
