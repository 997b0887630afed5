-- One pass over bytes (document 02, note 4), a byte at a time: what its steps read. proofs/Passes.antt has what they say of a text.
use Rattle.std.specs.Prelude.{◌≡◌, ℕ, suc, ◌+◌, ◌<◌, ◌≤◌, Bool, true, ◌&&◌, List, [], ◌∷◌, length, drop, nat_lt, slice_index, Option, None, Some, Result, Ok, Err}
use Rattle.reads.specs.Outcome.{choose}
use Rattle.reads.specs.Utf8.{Range, inside, multi, begun}
use Rattle.reads.specs.Text.{text, scanned, scan_of}
use Rattle.reads.specs.declared.text.ByteRead.{ByteRead}
use Rattle.reads.specs.declared.text.Scan.{Scan}

-- The byte after n bytes of s that were read, and the count raised by it. Where no byte is left 0 stands for it, and the count stays.
abbrev pub byte_after : List ℕ → ℕ → ByteRead
byte_after s n = record { at = n; byte = slice_index s n; read = choose (nat_lt n (length s)) (suc n) n }

-- The count behind the next byte, if that lies in the range and so continues a character; else that byte, a bad one.
abbrev pub due : List ℕ → ℕ → Range → Result ℕ ByteRead
due s n r = let b = byte_after s n in choose (inside r b.byte) (Ok b.read) (Err b)

-- The same where the character went on so far.
abbrev pub follow : List ℕ → Result ℕ ByteRead → Range → Result ℕ ByteRead
follow s (Ok n) r = due s n r
follow s (Err bad) r = Err bad

-- The ranges that are due, one after the other.
abbrev pub follow_all : List ℕ → Result ℕ ByteRead → List Range → Result ℕ ByteRead
follow_all s p [] = p
follow_all s p (r ∷ w) = follow_all s (follow s p r) w

-- The character that begins with `first`, by what is due after that.
abbrev pub follow_row : List ℕ → ByteRead → Option (List Range) → Result ℕ ByteRead
follow_row s first None = Err first
follow_row s first (Some w) = follow_all s (Ok first.read) w

-- The count behind the character of more than one octet that begins with `first`, or its first bad byte.
unfoldable pub character : List ℕ → ByteRead → Result ℕ ByteRead
character s first = follow_row s first (begun multi first.byte)

-- What a pass over s finds that met the first bad byte at k.
abbrev pub broken_at : List ℕ → ℕ → Scan
broken_at s k = scanned s (k + length (text (drop k s))) (Err k)

-- An ASCII byte that does not end a text.
abbrev pub plain : ByteRead → Bool
plain b = nat_lt 0 b.byte && nat_lt b.byte 0x80

-- The byte behind b where b is plain, else b.
abbrev pub onward : List ℕ → ByteRead → ByteRead
onward s b = choose (plain b) (byte_after s b.read) b

-- The first of eight bytes that is not plain, or the eighth.
abbrev pub of_eight : List ℕ → ByteRead
of_eight s = onward s (onward s (onward s (onward s (onward s (onward s (onward s (byte_after s 0)))))))

-- What a pass found that came to the byte that ends the text, all of it well-formed.
abbrev pub good_scan : ByteRead → Scan
good_scan b = record { len = b.at; read = b.read; verdict = Ok tt }

-- The bytes of s from one on up to the n-th are plain.
pub record PlainTo (s : List ℕ) (from n : ℕ) : Type 0 where
  pub ahead : from ≤ n
  pub within : n ≤ length s
  pub each : (k : ℕ) → from ≤ k → k < n → plain (byte_after s k) ≡ true

-- A pass over s that went on over plain bytes has come to the byte b.
pub record Skipped (s : List ℕ) (from : ℕ) (b : ByteRead) : Type 0 where
  pub is : b ≡ byte_after s b.at
  pub run : PlainTo s from b.at

-- A pass over s came to the byte that ends its text, all of it well-formed; or to the first byte that no well-formed text continues with.
pub data PassedOn (s : List ℕ) : Result ByteRead ByteRead → Type 0 where
  to_end : {b : ByteRead} → good_scan b ≡ scan_of s → PassedOn s (Ok b)
  to_bad : {b : ByteRead} → b.at ≤ length s → b ≡ byte_after s b.at → broken_at s b.at ≡ scan_of s → PassedOn s (Err b)
