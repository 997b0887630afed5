-- A definition of a record or a row as data: what it asks, in order, and what it makes of the answers. `run` gives its outcome. What holds of
-- every definition is proved once, by the cases below.
use Rattle.std.specs.Prelude.{ℕ, Bool, ℤ}
use Rattle.reads.specs.Outcome.{Outcome, value, absent, refused, and_then, or_else, or_first, choose, text_of}
use Rattle.reads.specs.declared.answer.Reason.{Reason}
use Rattle.reads.specs.declared.place.Place.{Place}
use Rattle.reads.specs.declared.text.Text.{Text}
use Rattle.pointers.specs.Tables.{Tables}
use Rattle.pointers.specs.declared.imageinfo.ImageInfo.{ImageInfo}
use Rattle.records.specs.Ask as asks
use Rattle.records.specs.Ask.{Ask, Answer, answer}

-- What a definition gives where no question refuses: a value, or the reason for which it is absent.
pub data Tried (A : Type 0) : Type 0 where
  given : A → Tried A
  lacking : Reason → Tried A

-- Absent is no end: it is what was given. A number stays.
abbrev pub tried_of : {A : Type 0} → Outcome A → Outcome (Tried A)
tried_of (value a) = value (given a)
tried_of (absent r) = value (lacking r)
tried_of (refused k) = refused k

-- A value; an answer; what comes after another; the second where the first is absent, with the second's reason where both are, or with
-- the first's; one of two by a test; a trial of another, after which a definition goes on whether or not that is absent. (A type that varies between
-- constructors is an index, and antt does not read an index backwards into an argument: definitions are written with the words below, which
-- it does.)
pub data Decode : Type 0 → Type 1 where
  made : {A : Type 0} → A → Decode A
  asked : (q : Ask) → Decode (Answer q)
  after : {A B : Type 0} → Decode A → (A → Decode B) → Decode B
  either : {A : Type 0} → Decode A → Decode A → Decode A
  either_first : {A : Type 0} → Decode A → Decode A → Decode A
  chosen : {A : Type 0} → Bool → Decode A → Decode A → Decode A
  trial : {A : Type 0} → Decode A → Decode (Tried A)

abbrev pub run : {A : Type 0} → Tables → Decode A → Outcome A
run t (made a) = value a
run t (asked q) = answer t q
run t (after d f) = and_then (run t d) (λ a. run t (f a))
run t (either d e) = or_else (run t d) (run t e)
run t (either_first d e) = or_first (run t d) (run t e)
run t (chosen b d e) = choose b (run t d) (run t e)
run t (trial d) = tried_of (run t d)

-- The words of definitions.
abbrev pub done : {A : Type 0} → A → Decode A
done a = made a

abbrev pub then : {A B : Type 0} → Decode A → (A → Decode B) → Decode B
then d f = after d f

abbrev pub else : {A : Type 0} → Decode A → Decode A → Decode A
else d e = either d e

abbrev pub else_first : {A : Type 0} → Decode A → Decode A → Decode A
else_first d e = either_first d e

abbrev pub when : {A : Type 0} → Bool → Decode A → Decode A → Decode A
when b d e = chosen b d e

abbrev pub tried : {A : Type 0} → Decode A → Decode (Tried A)
tried d = trial d

-- "or 0"; a missing text is "".
abbrev pub or0 : Decode ℕ → Decode ℕ
or0 d = else d (done 0)

abbrev pub or_empty : Decode Text → Decode Text
or_empty d = else d (done (text_of 0 0 0))

-- What is asked, each as in Ask.antt.
abbrev pub sum64 : ℕ → ℕ → Decode ℕ
sum64 va k = asked (asks.sum64 va k)

abbrev pub nonzero : ℕ → Decode ℕ
nonzero x = asked (asks.nonzero x)

abbrev pub even : ℕ → Decode ℕ
even va = asked (asks.even va)

abbrev pub at_least : ℕ → ℕ → Decode ℕ
at_least least size = asked (asks.at_least least size)

abbrev pub readable : ℕ → ℕ → Decode Place
readable va k = asked (asks.readable va k)

abbrev pub u32_in : Place → ℕ → Decode ℕ
u32_in p i = asked (asks.u32_in p i)

abbrev pub u64_in : Place → ℕ → Decode ℕ
u64_in p i = asked (asks.u64_in p i)

abbrev pub i32_in : Place → ℕ → Decode ℤ
i32_in p i = asked (asks.i32_in p i)

abbrev pub u64_at : ℕ → Decode ℕ
u64_at va = asked (asks.u64_at va)

abbrev pub picked : ℕ → Decode ℕ
picked w = asked (asks.picked w)

abbrev pub picked_at : ℕ → Decode ℕ
picked_at a = asked (asks.picked_at a)

abbrev pub slot : ℕ → Decode ℕ
slot a = asked (asks.slot a)

abbrev pub rebase : ℕ → Decode ℕ
rebase a = asked (asks.rebase a)

abbrev pub pointer : ℕ → ℕ → Decode ℕ
pointer va k = asked (asks.pointer va k)

abbrev pub pointer_or0 : ℕ → ℕ → Decode ℕ
pointer_or0 va k = asked (asks.pointer_or0 va k)

abbrev pub string : ℕ → Decode Text
string va = asked (asks.string va)

abbrev pub symbol : ℕ → Decode Text
symbol a = asked (asks.symbol a)

abbrev pub info : Decode ImageInfo
info = asked asks.info
