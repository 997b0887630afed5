-- Texts in the files of an image (document 01, Reading rules, third point; document 02, notes 2, 4, 6 and 12; util.rs, read_cstr_at and
-- cstr_from_fixed).
use Rattle.std.specs.Prelude.{ℕ, suc, ◌+◌, min, Bool, true, false, List, [], ◌∷◌, length, drop, ◌==◌, nat_le, nat_lt, Ok, Err}
use Rattle.reads.specs.Outcome.{Outcome, value, absent, refused, and_then, choose, nonzero, text_of}
use Rattle.reads.specs.Files.{file_of}
use Rattle.reads.specs.Segment.{rows, lookup}
use Rattle.reads.specs.Place.{Image}
use Rattle.reads.specs.Utf8.{Verdict, verdict, utf8}
use Rattle.reads.specs.declared.answer.Reason.TheVariants.{PastEnd, Unterminated, NotUtf8}
use Rattle.reads.specs.declared.place.Place.{Place}
use Rattle.reads.specs.declared.text.Reading.{Reading}
use Rattle.reads.specs.declared.text.Reading.TheVariants.{Old, New}
use Rattle.reads.specs.declared.text.Scan.{Scan}
use Rattle.reads.specs.declared.text.Text.{Text}

-- The bytes before the first zero byte, all of them where there is none.
unfoldable pub text : List ℕ → List ℕ
text [] = []
text (b ∷ s) = choose (b == 0) [] (b ∷ text s)

-- What a pass over the text in front of s finds, which has n bytes: these and its zero byte, if there is one, are read (note 4).
abbrev pub scanned : List ℕ → ℕ → Verdict → Scan
scanned s n v = record { len = n; read = min (suc n) (length s); verdict = v }

abbrev pub scan_of : List ℕ → Scan
scan_of s = scanned s (length (text s)) (verdict (text s))

-- A length, absent unless UTF-8.
abbrev pub if_good : Verdict → ℕ → Outcome ℕ
if_good (Ok u) n = value n
if_good (Err k) n = absent (NotUtf8 k)

-- The text that a scan from a place found, absent unless UTF-8.
abbrev pub good_text : Place → Scan → Outcome Text
good_text p c = and_then (if_good c.verdict c.len) (λ n. value (text_of p.file p.offset n))

-- A zero byte ends the text: it was read too.
abbrev pub ended : Scan → Bool
ended c = nat_lt c.len c.read

-- A text that no zero byte ends runs to its file's end under the old reading and is absent under the new one (note 12).
abbrev pub if_ended : {A : Type 0} → Reading → Bool → Outcome A → Outcome A
if_ended Old e o = o
if_ended New true o = o
if_ended New false o = absent Unterminated

-- The text that a scan found, under a reading: that it has no end goes before that it is not UTF-8.
abbrev pub text_of_scan : Reading → Place → Scan → Outcome Text
text_of_scan r p c = if_ended r (ended c) (good_text p c)

-- The text at a place whose file has these bytes: absent above their length, else the text there, which at that length is empty and has
-- no end.
unfoldable pub text_from : Reading → List ℕ → Place → Outcome Text
text_from r bytes p =
    choose (nat_le p.offset (length bytes)) (text_of_scan r p (scan_of (drop p.offset bytes))) (absent PastEnd)

-- The text at a place.
abbrev pub text_at : Reading → List (List ℕ) → Place → Outcome Text
text_at r files p = text_from r (file_of files p.file) p

-- The text at an address: absent at 0 and where nothing is mapped.
unfoldable pub text_in : Reading → Image → ℕ → Outcome Text
text_in r m va = and_then (nonzero va) (λ a. and_then (lookup (rows m.words) a) (λ p. text_at r m.files p))

-- How many bytes a read of the text at an offset of these bytes reads: none where it lies at their end or above.
unfoldable pub read_from : List ℕ → ℕ → ℕ
read_from bytes offset = let c = scan_of (drop offset bytes) in c.read

-- The same of the text at a place.
abbrev pub read_at : List (List ℕ) → Place → ℕ
read_at files p = read_from (file_of files p.file) p.offset

-- A count, 0 where there is nothing to count.
abbrev pub or_none : Outcome ℕ → ℕ
or_none (value n) = n
or_none (absent r) = 0
or_none (refused k) = 0

-- How many a read of the text at an address reads: none at 0 and where nothing is mapped.
unfoldable pub read_in : Image → ℕ → ℕ
read_in m va = or_none (and_then (nonzero va) (λ a. and_then (lookup (rows m.words) a) (λ p. value (read_at m.files p))))

-- One more than the length of a text that is there, else 0: an answer in one number, for callers in C.
unfoldable pub length_plus_one : Outcome Text → ℕ
length_plus_one (value t) = t.len + 1
length_plus_one (absent r) = 0
length_plus_one (refused k) = 0

-- The length of the text in a field of fixed size, 0 where it is not UTF-8.
unfoldable pub fixed_length : List ℕ → ℕ
fixed_length s = choose (utf8 (text s)) (length (text s)) 0
