-- What an answer of the C face says first (include/objclist.h): its kind, with the code of a reason or the number of a question.
use Rattle.std.specs.Prelude.{ℕ}
use Rattle.reads.specs.Outcome.{Outcome, value, absent, refused}
use Rattle.reads.specs.declared.answer.Missing.{Missing}
use Rattle.reads.specs.declared.answer.Missing.TheVariants.{Absent, Refused}
use Rattle.reads.specs.declared.answer.Reason.{Reason}
use Rattle.reads.specs.declared.answer.Reason.TheVariants.{NullAddress, Unmapped, PastEnd, Unterminated, NotUtf8, NoData, Unresolved, Unreadable, FieldOverflow, NoRecord, OddList, ShortEntry, Malformed}
use Rattle.walks.specs.Sections.{Step, found, passed, dropped, finished}
use Rattle.face.specs.declared.status.Status.{Status}
use Rattle.reads.specs.Question.{number_of}
use Rattle.reads.specs.declared.answer.Question.{Question}

abbrev pub status : ℕ → ℕ → ℕ → Status
status kind code at = record { kind = kind; code = code; at = at }

-- The kinds but 2; 3, a write that failed, is none of these answers'.
abbrev pub says_found : Status
says_found = status 0 0 0

abbrev pub says_dropped : Status
says_dropped = status 4 0 0

abbrev pub says_finished : Status
says_finished = status 5 0 0

abbrev pub says_refused : Question → Status
says_refused k = status 1 (number_of k) 0

abbrev pub says_more : Status
says_more = status 6 0 0

-- Kind 2: the codes of the reasons, and where a text is not UTF-8.
abbrev pub says_absent : Reason → Status
says_absent NullAddress = status 2 1 0
says_absent Unmapped = status 2 2 0
says_absent PastEnd = status 2 3 0
says_absent Unterminated = status 2 4 0
says_absent (NotUtf8 at) = status 2 5 at
says_absent NoData = status 2 6 0
says_absent Unresolved = status 2 7 0
says_absent Unreadable = status 2 8 0
says_absent FieldOverflow = status 2 9 0
says_absent NoRecord = status 2 10 0
says_absent OddList = status 2 11 0
says_absent ShortEntry = status 2 12 0
says_absent Malformed = status 2 13 0

abbrev pub says_missing : Missing → Status
says_missing (Absent r) = says_absent r
says_missing (Refused k) = says_refused k

-- What an answer says first, and the words of what it found: `none` where it found nothing.
abbrev pub says : {A : Type 0} → Outcome (Step A) → Status
says (value (found a)) = says_found
says (value (passed r)) = says_absent r
says (value dropped) = says_dropped
says (value finished) = says_finished
says (absent r) = says_absent r
says (refused k) = says_refused k

abbrev pub words_or : {A W : Type 0} → W → (A → W) → Outcome (Step A) → W
words_or none words (value (found a)) = words a
words_or none words (value (passed r)) = none
words_or none words (value dropped) = none
words_or none words (value finished) = none
words_or none words (absent r) = none
words_or none words (refused k) = none
