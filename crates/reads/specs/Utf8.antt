-- UTF-8 by the ABNF of RFC 3629, section 4. Each alternative of a rule is a row of ranges, in the RFC's order.
use Rattle.std.specs.Prelude.{◌≡◌, ℕ, suc, ◌<◌, ◌≤◌, Bool, true, false, ◌&&◌, List, [], ◌∷◌, ◌++◌, length, take, nat_le, Option, None, Some, Result, Ok, Err}
use mathlib.Core.List.{Memᴰ}
use Rattle.reads.specs.Outcome.{choose}

infix 90 ◌to◌
-- %xLO-HI
pub data Range : Type 0 where
  ◌to◌ : ℕ → ℕ → Range

abbrev pub inside : Range → ℕ → Bool
inside (lo to hi) b = nat_le lo b && nat_le b hi

-- UTF8-tail = %x80-BF
abbrev pub tail : Range
tail = 0x80 to 0xBF

-- UTF8-1 = %x00-7F
abbrev pub utf8_1 : List (List Range)
utf8_1 = (0x00 to 0x7F ∷ []) ∷ []

-- UTF8-2 = %xC2-DF UTF8-tail
abbrev pub utf8_2 : List (List Range)
utf8_2 = (0xC2 to 0xDF ∷ tail ∷ []) ∷ []

-- UTF8-3 = %xE0 %xA0-BF UTF8-tail / %xE1-EC 2( UTF8-tail ) / %xED %x80-9F UTF8-tail / %xEE-EF 2( UTF8-tail )
abbrev pub utf8_3 : List (List Range)
utf8_3 =
    (0xE0 to 0xE0 ∷ 0xA0 to 0xBF ∷ tail ∷ [])
    ∷ (0xE1 to 0xEC ∷ tail ∷ tail ∷ [])
    ∷ (0xED to 0xED ∷ 0x80 to 0x9F ∷ tail ∷ [])
    ∷ (0xEE to 0xEF ∷ tail ∷ tail ∷ [])
    ∷ []

-- UTF8-4 = %xF0 %x90-BF 2( UTF8-tail ) / %xF1-F3 3( UTF8-tail ) / %xF4 %x80-8F 2( UTF8-tail )
abbrev pub utf8_4 : List (List Range)
utf8_4 =
    (0xF0 to 0xF0 ∷ 0x90 to 0xBF ∷ tail ∷ tail ∷ [])
    ∷ (0xF1 to 0xF3 ∷ tail ∷ tail ∷ tail ∷ [])
    ∷ (0xF4 to 0xF4 ∷ 0x80 to 0x8F ∷ tail ∷ tail ∷ [])
    ∷ []

-- The rows of the characters of more than one octet.
abbrev pub multi : List (List Range)
multi = utf8_2 ++ utf8_3 ++ utf8_4

-- UTF8-char = UTF8-1 / UTF8-2 / UTF8-3 / UTF8-4
abbrev pub chars : List (List Range)
chars = utf8_1 ++ multi

-- Each byte in its range.
pub data Fit : List Range → List ℕ → Type 0 where
  fit_none : Fit [] []
  fit_more : {r : Range} {rs : List Range} {b : ℕ} {bs : List ℕ} → inside r b ≡ true → Fit rs bs → Fit (r ∷ rs) (b ∷ bs)

-- UTF8-octets = *( UTF8-char )
pub data Octets : List ℕ → Type 0 where
  octets_none : Octets []
  octets_more : {t c s : List ℕ} {row : List Range} → Memᴰ row chars → Fit row c → Octets s → t ≡ c ++ s → Octets t

-- Bytes that some text of the grammar begins with.
pub record Begins (s : List ℕ) : Type 0 where
  pub rest : List ℕ
  pub octets : Octets (s ++ rest)

-- s is no text of the grammar, and its first k bytes are its longest beginning that begins one: k is the offset of the first byte that
-- no well-formed text can continue, or the length of s where it ends inside a character (document 02, note 2).
pub record FirstBad (s : List ℕ) (k : ℕ) : Type 0 where
  pub not : Octets s → ⊥
  pub within : k ≤ length s
  pub beginning : Begins (take k s)
  pub longest : (j : ℕ) → k < j → j ≤ length s → Begins (take j s) → ⊥

-- The rest of the first row that b begins.
abbrev pub begun : List (List Range) → ℕ → Option (List Range)
begun [] b = None
begun ([] ∷ rows) b = begun rows b
begun ((r ∷ rs) ∷ rows) b = choose (inside r b) (Some rs) (begun rows b)

-- The ranges that are due after b, where w are due before it (none between characters), if any text goes on so.
abbrev pub due_after : List Range → ℕ → Option (List Range)
due_after [] b = begun chars b
due_after (r ∷ rs) b = choose (inside r b) (Some rs) None

-- Bytes are UTF-8 (`Ok tt`), or they are not: the offset of the first byte that no well-formed text can continue, or their count
-- where they end inside a character.
abbrev pub Verdict : Type 0
Verdict = Result (Unit {0}) ℕ

abbrev pub stopped : List Range → ℕ → Verdict
stopped [] at = Ok tt
stopped (r ∷ rs) at = Err at

abbrev pub go_on : Option (List Range) → Verdict → (List Range → Verdict) → Verdict
go_on None v f = v
go_on (Some w) v f = f w

-- The text s, of which `at` bytes came before and w are due: good, or bad at the offset of the first byte that no text of
-- the grammar continues with, or at its length where it ends inside a character.
unfoldable pub judge : ℕ → List Range → List ℕ → Verdict
judge at w [] = stopped w at
judge at w (b ∷ s) = go_on (due_after w b) (Err at) (λ w'. judge (suc at) w' s)

-- proofs/FirstBad.antt shows that it is `Err k` exactly where `FirstBad s k`.
abbrev pub verdict : List ℕ → Verdict
verdict s = judge 0 [] s

abbrev pub is_good : Verdict → Bool
is_good (Ok u) = true
is_good (Err k) = false

-- UTF8-octets, as a test; proofs/Grammar.antt shows that it accepts exactly `Octets`.
unfoldable pub utf8 : List ℕ → Bool
utf8 s = is_good (verdict s)
