-- What type_words gives and leaves in the lent buffer: by what the machine reads, and in the grammar's words alone.
use Prim.Native.Nat.{ℕ, ◌*◌, ◌/◌, ◌≤◌, ◌<◌}
use mathlib.Core.Path.{◌≡◌, refl, ap, sym, subst, ◌∙◌}
use mathlib.Core.Bool.{Bool, true, false}
use mathlib.Core.List.{List, [], ◌∷◌, ◌++◌}
use native.Mathlib.Omega.{arith}
use lib.Dec.{leb}
use lib.ListN.{length}
use borrow.Author.Tests.{leb-true, leb-false, le-leb, lt-leb}
use Rattle.reads.specs.Answer.{missed}
use Rattle.reads.specs.Outcome.{Outcome, value, absent, refused}
use Rattle.reads.specs.declared.answer.Missing.{Missing}
use Rattle.reads.specs.declared.answer.Reason.{Reason}
use Rattle.pointers.specs.Open.{left_by}
use Rattle.pointers.proofs.Questions.{question_yes, question_no}
use Rattle.encodings.specs.Grammar.{Types, none, nesting_types, count, filled, Reading, Deeper, Says, says_types, says_absent, says_deeper, says_short}
use Rattle.encodings.specs.Machine.{wanted, at, outside, too_deep, parse}
use Rattle.encodings.specs.Parser.{Read}
use Rattle.encodings.specs.Words.{words_fit, count_fitting, types_of, filled_by, types_left}
use Rattle.encodings.proofs.Complete.{unique}
use Rattle.encodings.proofs.Depth.{seventeen_deeper, outside_unread, deeper_seventeen, outside_deep, Known, run_known}
use Rattle.encodings.proofs.Reached.{missing_value}
use Rattle.encodings.proofs.Shows.{counted_types}
use Rattle.encodings.proofs.Sound.{first_good, sound}
use Rattle.reads.specs.declared.answer.Question.{Question}
use Rattle.reads.specs.declared.answer.Question.TheVariants.{ItemRoom}

-- o comes back, and the buffer holds `now`.
abbrev pub Answers : List ℕ → List ℕ → Outcome ℕ → List ℕ → Type 0
Answers text buffer o now = (o ≡ types_of text (length buffer)) × (now ≡ types_left text buffer)

module _ (text buffer : List ℕ) where
  answers : {o : Outcome Types} → parse 32 text ≡ o
      → Answers text buffer (count_fitting o (length buffer)) (left_by (count_fitting o (length buffer)) (filled_by o buffer) buffer)
  unfolding types_of types_left
  answers e = rw e (refl, refl)

  module _ {ts : Types} (e : parse 32 text ≡ value ts) where
    answers_short : words_fit (count ts) (length buffer) ≡ false → Answers text buffer (refused ItemRoom) buffer
    answers_short f = rw (question_no ItemRoom (words_fit (count ts) (length buffer)) f) at (answers e)

    answers_types : words_fit (count ts) (length buffer) ≡ true → Answers text buffer (value (count ts)) (filled ts buffer)
    answers_types f = rw (question_yes ItemRoom (words_fit (count ts) (length buffer)) f) at (answers e)

-- ---- The code's first call, on no words of the buffer, says how many types there are; its second puts their words there

read_of : (n : ℕ) (o : Outcome Types) → value n ≡ counted_types o → (ts : Types) × (o ≡ value ts) × (count ts ≡ n)
read_of n (value ts) e = (ts, refl, cc)
read_of n (absent r) e = let z : ◌≡◌ {A = ℕ} 0 1 = cc in absurd (omega arith)
read_of n (refused k) e = let z : ◌≡◌ {A = ℕ} 0 1 = cc in absurd (omega arith)

empty : (l : List ℕ) → length l ≡ 0 → l ≡ []
empty [] e = refl
empty (b ∷ l) e = absurd (omega arith)

module _ (text buffer : List ℕ) {o : Outcome ℕ} {left : List ℕ} (r : Read text [] o left) where
  unchanged : left ++ buffer ≡ buffer
  unchanged = ap (λ (l : List ℕ). l ++ buffer) (empty left r.same)

  pub answers_missing : (m : Missing) → o ≡ missed m → Answers text buffer (missed m) (left ++ buffer)
  answers_missing m e = go (parse 32 text) refl (sym e ∙ r.counts)
    where
      go : (p : Outcome Types) → parse 32 text ≡ p → missed m ≡ counted_types p → Answers text buffer (missed m) (left ++ buffer)
      go (value ts) q c = absurd (missing_value m (count ts) c)
      go (absent k) q c = let a = answers text buffer q in (c ∙ a.0, unchanged ∙ a.1)
      go (refused k) q c = let a = answers text buffer q in (c ∙ a.0, unchanged ∙ a.1)

  module _ (n : ℕ) (e : o ≡ value n) where
    reading : (ts : Types) × (parse 32 text ≡ value ts) × (count ts ≡ n)
    reading = read_of n (parse 32 text) (sym e ∙ r.counts)

    same_room : words_fit (count reading.0) (length buffer) ≡ words_fit n (length (left ++ buffer))
    same_room = rw (reading.2, unchanged)

    -- The code asks by whole rows of four words.
    pub answers_number : length (left ++ buffer) / 4 < n → Answers text buffer (refused ItemRoom) (left ++ buffer)
    unfolding words_fit
    answers_number h =
        let no : leb (4 * n) (length (left ++ buffer)) ≡ false = lt-leb _ _ (omega arith) in
        let a = answers_short text buffer reading.1 (same_room ∙ no) in (a.0, unchanged ∙ a.1)

    pub answers_value : n ≤ length (left ++ buffer) / 4 → {o' : Outcome ℕ} {now : List ℕ} → Read text (left ++ buffer) o' now → Answers text buffer (value n) now
    unfolding words_fit
    answers_value h q =
        let yes : leb (4 * n) (length (left ++ buffer)) ≡ true = le-leb _ _ (omega arith) in
        let fits = same_room ∙ yes in
        let a = answers_types text buffer reading.1 fits in
        let room : 4 * count reading.0 ≤ length (left ++ buffer) = rw unchanged (leb-true _ _ fits) in (
          ap value (sym reading.2) ∙ a.0,
          q.holds reading.0 reading.1 room ∙ ap (λ (l : List ℕ). filled reading.0 l) unchanged ∙ a.1,
        )

-- ---- In the grammar's words alone

pub says : (text buffer : List ℕ) → Says text buffer (types_of text (length buffer)) (types_left text buffer)
unfolding words_fit
says text buffer = go (parse 32 text) refl (run_known 32 text (at none wanted []) (first_good 32))
  where
    go : (o : Outcome Types) → parse 32 text ≡ o → Known o → Says text buffer (types_of text (length buffer)) (types_left text buffer)
    go (value ts) e k = test (leb (4 * count ts) (length buffer)) refl
      where
        r : Reading text ts × (nesting_types ts ≤ 32)
        r = sound 32 text ts e

        test : (t : Bool) → leb (4 * count ts) (length buffer) ≡ t → Says text buffer (types_of text (length buffer)) (types_left text buffer)
        test true q =
            let a = answers_types text buffer e q in says_types ts r.0 r.1 (leb-true _ _ q) (sym a.0) (sym a.1)
        test false q =
            let a = answers_short text buffer e q in says_short ts r.0 r.1 (leb-false _ _ q) (sym a.0) (sym a.1)
    go (absent why) e k =
        let q : parse 32 text ≡ outside = e ∙ ap (λ (x : Reason). absent x) k in
        let a = answers text buffer q in
        says_absent (outside_unread 32 text q) (λ d. outside_deep (sym q ∙ deeper_seventeen 32 text d)) (sym a.0) (sym a.1)
    go (refused n) e k =
        let q : parse 32 text ≡ too_deep = e ∙ ap (λ (x : Question). refused x) k in
        let a = answers text buffer q in
        says_deeper (seventeen_deeper 32 text q) (sym a.0) (sym a.1)

-- Nothing else can be said.
fits_not_deep : (text : List ℕ) (ts : Types) → Reading text ts → nesting_types ts ≤ 32 → Deeper 32 text → ⊥
fits_not_deep text ts r h d = absurd (omega (arith, d.deeper d.rest ts (subst (λ (t : List ℕ). Reading t ts) d.is r)))

module _ (text old : List ℕ) {o o' : Outcome ℕ} {new new' : List ℕ} where
  pub says_once : Says text old o new → Says text old o' new' → (o ≡ o') × (new ≡ new')
  says_once (says_types ts g h l e w) (says_types us g' h' l' e' w') = let u = unique text ts us g g' in (cc, cc)
  says_once (says_types ts g h l e w) (says_absent n d e' w') = absurd (n ts g)
  says_once (says_types ts g h l e w) (says_deeper d e' w') = absurd (fits_not_deep text ts g h d)
  says_once (says_types ts g h l e w) (says_short us g' h' l' e' w') = let u = ap count (unique text ts us g g') in absurd (omega arith)
  says_once (says_absent n d e w) (says_types us g' h' l' e' w') = absurd (n us g')
  says_once (says_absent n d e w) (says_absent n' d' e' w') = (cc, cc)
  says_once (says_absent n d e w) (says_deeper d' e' w') = absurd (d d')
  says_once (says_absent n d e w) (says_short us g' h' l' e' w') = absurd (n us g')
  says_once (says_deeper d e w) (says_types us g' h' l' e' w') = absurd (fits_not_deep text us g' h' d)
  says_once (says_deeper d e w) (says_absent n d' e' w') = absurd (d' d)
  says_once (says_deeper d e w) (says_deeper d' e' w') = (cc, cc)
  says_once (says_deeper d e w) (says_short us g' h' l' e' w') = absurd (fits_not_deep text us g' h' d)
  says_once (says_short ts g h l e w) (says_types us g' h' l' e' w') = let u = ap count (unique text ts us g g') in absurd (omega arith)
  says_once (says_short ts g h l e w) (says_absent n d e' w') = absurd (n ts g)
  says_once (says_short ts g h l e w) (says_deeper d e' w') = absurd (fits_not_deep text ts g h d)
  says_once (says_short ts g h l e w) (says_short us g' h' l' e' w') = (cc, cc)
