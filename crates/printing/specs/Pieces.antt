-- The text of a listing, handed out piece by piece: where its printing stands, the text still to come, and where it stands after so many bytes
-- more.
use Rattle.std.specs.Prelude.{ℕ, zero, suc, ◌+◌, ◌-◌, Bool, true, false, List, [], ◌∷◌, ◌++◌, leb, length, take, drop, Option, None}
use Rattle.reads.specs.Outcome.{Outcome, value, absent, refused, choose}
use Rattle.reads.specs.Files.{longest}
use Rattle.pointers.specs.Question.{image_fits}
use Rattle.pointers.specs.Tables.{Tables, tables_of, under}
use Rattle.pointers.specs.declared.setting.Setting.{Setting}
use Rattle.frames.specs.declared.frames.Frames.{Frames}
use Rattle.listing.specs.Listing.{Answer, says, lacks, nothing, ended}
use Rattle.listing.specs.ListingAnswer.{said_of}
use Rattle.marking.specs.MarkedListing.{Marking, marked_start, marked_step, marking_of}
use Rattle.marking.specs.declared.framed.Framed.{Framed}
use Rattle.marking.proofs.StepsLeft.{steps_left}
use Rattle.printing.specs.Buffer.{held, fitting}
use Rattle.printing.specs.LineText.{line_text, refused_text}
use Rattle.printing.specs.declared.pieces.Piece.{Piece}
use Rattle.printing.specs.declared.pieces.Progress.{Progress}

-- The text of what a step said: its line, or the number of the question that refused it. Of what is absent nothing is printed.
abbrev pub said_text : List (List ℕ) → Outcome Answer → List ℕ
said_text files (value (says x)) = line_text files x
said_text files (value (lacks x)) = []
said_text files (value nothing) = []
said_text files (value ended) = []
said_text files (absent r) = []
said_text files (refused k) = refused_text k

-- One of two, by whether the listing goes on after what was said.
abbrev pub if_on : {A : Type 0} → Outcome Answer → A → A → A
if_on (value (says x)) on over = on
if_on (value (lacks x)) on over = on
if_on (value nothing) on over = on
if_on (value ended) on over = over
if_on (absent r) on over = over
if_on (refused k) on over = over

-- Whether a question refused.
abbrev pub refusing : Outcome Answer → Bool
refusing (value x) = false
refusing (absent r) = false
refusing (refused k) = true

-- What the last step said, how many bytes of its text are out, and the listing's state and ledger after it.
pub record Standing : Type 0 where
  pub said : Outcome Answer
  pub out : ℕ
  pub state : Marking
  pub ledger : List ℕ

abbrev pub standing : Outcome Answer → ℕ → Marking → List ℕ → Standing
standing said out m l = record { said = said; out = out; state = m; ledger = l }

-- The next step made.
abbrev pub stepped : Tables → Standing → Standing
stepped t p =
    standing (marked_step t p.state p.ledger).answer 0 (marked_step t p.state p.ledger).state
    (marked_step t p.state p.ledger).ledger

-- k bytes more of what was said are out.
abbrev pub moved : Standing → ℕ → Standing
moved p k = standing p.said (p.out + k) p.state p.ledger

-- What is not out yet of what was said.
abbrev pub waiting : Tables → Standing → List ℕ
waiting t p = drop p.out (said_text t.files p.said)

-- The text of at most n steps to come, and what waits.
unfoldable pub comes_by : Tables → ℕ → Standing → List ℕ
comes_by t zero p = []
comes_by t (suc n) p = waiting t p ++ if_on p.said (comes_by t n (stepped t p)) []

-- Where the printing stands k bytes on, after at most n steps; at the end of the text it stays.
unfoldable pub past_by : Tables → ℕ → Standing → ℕ → Standing
past_by t zero p k = p
past_by t (suc n) p k =
    choose (leb k (length (waiting t p))) (moved p k)
    (if_on p.said (past_by t n (stepped t p) (k - length (waiting t p))) (moved p (length (waiting t p))))

-- More steps than are left (marking/proofs/StepsLeft.antt: each leaves less).
abbrev pub enough : Standing → ℕ
enough p = suc (if_on p.said (suc (steps_left p.state)) 0)

-- The text still to come, and where the printing stands k bytes on.
unfoldable pub to_come : Tables → Standing → List ℕ
to_come t p = comes_by t (enough p) p

unfoldable pub past : Tables → Standing → ℕ → Standing
past t p k = past_by t (enough p) p k

-- The start under a setting, by what opening gave: the listing's first step is to come, for the frames given, or the number that refused.
abbrev pub begun_by : Outcome Framed → Outcome Answer
begun_by (value f) = value nothing
begun_by (absent r) = value ended
begun_by (refused k) = refused k

abbrev pub frames_given : Outcome Framed → Option Frames
frames_given (value f) = f.frames
frames_given (absent r) = None
frames_given (refused k) = None

abbrev pub begun : Setting → Outcome Framed → List ℕ → Standing
begun u o l = standing (begun_by o) 0 (marked_start u (frames_given o)) l

-- What a call hands out: a piece of at most n bytes to the front of a buffer, and how long it is.
pub record Handed : Type 0 where
  pub standing : Standing
  pub len : ℕ
  pub bytes : List ℕ

abbrev pub handing : Standing → ℕ → List ℕ → Handed
handing p len bytes = record { standing = p; len = len; bytes = bytes }

-- A text at the front of a buffer.
abbrev pub in_front : List ℕ → List ℕ → List ℕ
in_front text bytes = text ++ drop (length text) bytes

-- The next n bytes of the text, or all that are still to come.
unfoldable pub piece_of : Tables → Standing → ℕ → List ℕ → Handed
piece_of t p n bytes = handing (past t p n) (length (take n (to_come t p))) (in_front (take n (to_come t p)) bytes)

-- k such pieces, one after the other.
unfoldable pub pieces : Tables → ℕ → ℕ → Standing → List ℕ
pieces t n zero p = []
pieces t n (suc k) p = take n (to_come t p) ++ pieces t n k (past t p n)

-- What the code's progress means, with a ledger; and its answer, with a ledger and a buffer.
abbrev pub standing_of : Progress → List ℕ → Standing
standing_of p l = standing (said_of p.said) p.out (marking_of p.listing) l

abbrev pub handed_of : Piece → List ℕ → List ℕ → Handed
handed_of r l bytes = handing (standing_of r.progress l) r.len bytes

-- A piece by its parts.
abbrev pub piece : ℕ → Progress → Piece
piece len p = record { len = len; progress = p }

-- How many bytes of what waits go into a buffer after its first `at`, and the answer then.
abbrev pub fits : List (List ℕ) → Progress → List ℕ → ℕ → ℕ
fits files p bytes at = fitting (held bytes p.out at) (said_text files (said_of p.said))

abbrev pub further : Progress → ℕ → ℕ → Piece
further p at k = piece (at + k) (record { said = p.said; out = p.out + k; listing = p.listing })

-- Tables with other files.
abbrev pub with_files : Tables → List (List ℕ) → Tables
with_files t files = under t.setting (tables_of files t.segments t.sections t.info t.rebases t.binds t.index)

-- The tables that pieces are read from: files that question FileLength refuses, over which no listing is begun, count as one empty file.
abbrev pub listable : Tables → Tables
listable t = with_files t (choose (image_fits (longest t.files)) t.files ([] ∷ []))
