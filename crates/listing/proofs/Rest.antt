-- Steps of a listing, from a state and a ledger on: the lines and the events that come, to the listing's end or to a step of which something
-- else is known.
use Rattle.std.proofs.Common.{◌≡◌, ℕ, zero, suc, ◌≤◌, List, [], ◌∷◌, ◌++◌, sym, refl, ap, ◌∙◌, arith}
use Rattle.reads.specs.Outcome.{Outcome, value}
use Rattle.pointers.specs.Tables.{Tables}
use Rattle.walks.specs.Gather.{joined}
use Rattle.listing.specs.PlainListing.{Event}
use Rattle.listing.specs.Listing.{State, Answer, Left, leaves, start, says, lacks, nothing, ended, listing_step}
use Rattle.listing.specs.ListingRun.{events_in, line_said, settled_at, answer_at, lines_by, events_by, Answered, is_said, Lists}
use Rattle.listing.specs.declared.absence.Absence.{Absence}
use Rattle.listing.specs.declared.line.Line.{Line}

pub data Steps (t : Tables) (Over : State → List ℕ → Type 0) : State → List ℕ → List Line → List Event → Type 0 where
  over : {s : State} {l : List ℕ} → Over s l → events_in t s ≡ value [] → Steps t Over s l [] []
  silent : {s v : State} {l m : List ℕ} {xs : List Line} {fs es : List Event}
      → listing_step t s l ≡ leaves (value nothing) v m → events_in t s ≡ value fs → Steps t Over v m xs es → Steps t Over s l xs (fs ++ es)
  telling : {s v : State} {l m : List ℕ} {x : Absence} {xs : List Line} {fs es : List Event}
      → listing_step t s l ≡ leaves (value (lacks x)) v m → events_in t s ≡ value fs → Steps t Over v m xs es → Steps t Over s l xs (fs ++ es)
  saying : {s v : State} {l m : List ℕ} {x : Line} {xs : List Line} {fs es : List Event}
      → listing_step t s l ≡ leaves (value (says x)) v m → events_in t s ≡ value fs → Steps t Over v m xs es → Steps t Over s l (x ∷ xs) (fs ++ es)

-- To the end.
abbrev pub Rest : Tables → State → List ℕ → List Line → List Event → Type 0
Rest t s l xs es = Steps t (λ v m. listing_step t v m ≡ leaves (value ended) v m) s l xs es

module _ (t : Tables) where
  answer_here : (s : State) (l : List ℕ) {v : State} {m : List ℕ} {o : Outcome Answer} → listing_step t s l ≡ leaves o v m → answer_at t 0 s l ≡ o
  unfolding answer_at
  answer_here s l e = ap (λ (r : Left). r.answer) e

  answer_next : (s : State) (l : List ℕ) {v : State} {m : List ℕ} {o : Outcome Answer} (n : ℕ) → listing_step t s l ≡ leaves o v m → answer_at t (suc n) s l ≡ answer_at t n v m
  unfolding answer_at
  answer_next s l n e = ap (λ (r : Left). answer_at t n r.state r.ledger) e

  -- The steps come to one that answers as is known of it.
  pub comes_to : {Over : State → List ℕ → Type 0} {o : Outcome Answer} → ((s : State) (l : List ℕ) → Over s l → listing_step t s l ≡ leaves o s l)
      → {s : State} {l : List ℕ} {xs : List Line} {es : List Event} → Steps t Over s l xs es → (n : ℕ) × (answer_at t n s l ≡ o)
  comes_to h (over {s = s} {l = l} e f) = (0, answer_here s l (h s l e))
  comes_to h (silent e f r) = let later = comes_to h r in (suc later.0, answer_next _ _ later.0 e ∙ later.1)
  comes_to h (telling e f r) = let later = comes_to h r in (suc later.0, answer_next _ _ later.0 e ∙ later.1)
  comes_to h (saying e f r) = let later = comes_to h r in (suc later.0, answer_next _ _ later.0 e ∙ later.1)

  lines_next : (s : State) (l : List ℕ) {v : State} {m : List ℕ} {o : Outcome Answer} (n : ℕ) → listing_step t s l ≡ leaves o v m
      → lines_by t (suc n) s l ≡ joined (line_said o) (lines_by t n v m)
  unfolding lines_by
  lines_next s l n e = ap (λ (r : Left). joined (line_said r.answer) (lines_by t n r.state r.ledger)) e

  events_next : (s : State) (l : List ℕ) {v : State} {m : List ℕ} {a : Answer} {fs : List Event} (n : ℕ) → listing_step t s l ≡ leaves (value a) v m → events_in t s ≡ value fs
      → events_by t (suc n) s l ≡ joined (value fs) (events_by t n v m)
  unfolding events_by
  events_next s l {v} {m} n e f =
      ap (λ (r : Left). joined (settled_at t s r.answer) (events_by t n r.state r.ledger)) e
      ∙ ap (λ (o : Outcome (List Event)). joined o (events_by t n v m)) f

  step_count : {s : State} {l : List ℕ} {xs : List Line} {es : List Event} → Rest t s l xs es → ℕ
  step_count (over e f) = 0
  step_count (silent e f r) = suc (step_count r)
  step_count (telling e f r) = suc (step_count r)
  step_count (saying e f r) = suc (step_count r)

  rest_answered : {s : State} {l : List ℕ} {xs : List Line} {es : List Event} → Rest t s l xs es → (n : ℕ) → Answered (answer_at t n s l)
  rest_answered (over e f) zero = rw (answer_here _ _ e) (is_said ended)
  rest_answered (over e f) (suc n) = rw (answer_next _ _ n e) (rest_answered (over e f) n)
  rest_answered (silent e f r) zero = rw (answer_here _ _ e) (is_said nothing)
  rest_answered (telling {x = x} e f r) zero = rw (answer_here _ _ e) (is_said (lacks x))
  rest_answered (silent e f r) (suc n) = rw (answer_next _ _ n e) (rest_answered r n)
  rest_answered (telling e f r) (suc n) = rw (answer_next _ _ n e) (rest_answered r n)
  rest_answered (saying {x = x} e f r) zero = rw (answer_here _ _ e) (is_said (says x))
  rest_answered (saying e f r) (suc n) = rw (answer_next _ _ n e) (rest_answered r n)

  rest_ends : {s : State} {l : List ℕ} {xs : List Line} {es : List Event} (r : Rest t s l xs es) (n : ℕ) → step_count r ≤ n → answer_at t n s l ≡ value ended
  unfolding step_count
  rest_ends (over e f) zero h = answer_here _ _ e
  rest_ends (over e f) (suc n) h = answer_next _ _ n e ∙ rest_ends (over e f) n (omega arith)
  rest_ends (silent e f r) zero h = absurd (omega arith)
  rest_ends (telling e f r) zero h = absurd (omega arith)
  rest_ends (silent e f r) (suc n) h = answer_next _ _ n e ∙ rest_ends r n (omega arith)
  rest_ends (telling e f r) (suc n) h = answer_next _ _ n e ∙ rest_ends r n (omega arith)
  rest_ends (saying e f r) zero h = absurd (omega arith)
  rest_ends (saying e f r) (suc n) h = answer_next _ _ n e ∙ rest_ends r n (omega arith)

  rest_said : {s : State} {l : List ℕ} {xs : List Line} {es : List Event} → Rest t s l xs es → (n : ℕ) → answer_at t n s l ≡ value ended → lines_by t n s l ≡ value xs
  unfolding lines_by
  rest_said (over e f) zero h = refl
  rest_said (over e f) (suc n) h = lines_next _ _ n e ∙ rw (rest_said (over e f) n (sym (answer_next _ _ n e) ∙ h))
  rest_said (silent e f r) zero h = let u = answer_here _ _ e in let z : ◌≡◌ {A = ℕ} 0 1 = cc in absurd (omega arith)
  rest_said (telling e f r) zero h = let u = answer_here _ _ e in let z : ◌≡◌ {A = ℕ} 0 1 = cc in absurd (omega arith)
  rest_said (silent e f r) (suc n) h = lines_next _ _ n e ∙ rw (rest_said r n (sym (answer_next _ _ n e) ∙ h))
  rest_said (telling e f r) (suc n) h = lines_next _ _ n e ∙ rw (rest_said r n (sym (answer_next _ _ n e) ∙ h))
  rest_said (saying e f r) zero h = let u = answer_here _ _ e in let z : ◌≡◌ {A = ℕ} 0 1 = cc in absurd (omega arith)
  rest_said (saying e f r) (suc n) h = lines_next _ _ n e ∙ rw (rest_said r n (sym (answer_next _ _ n e) ∙ h))

  rest_settled : {s : State} {l : List ℕ} {xs : List Line} {es : List Event} → Rest t s l xs es → (n : ℕ) → answer_at t n s l ≡ value ended → events_by t n s l ≡ value es
  unfolding events_by
  rest_settled (over e f) zero h = refl
  rest_settled (over e f) (suc n) h = events_next _ _ n e f ∙ rw (rest_settled (over e f) n (sym (answer_next _ _ n e) ∙ h))
  rest_settled (silent e f r) zero h = let u = answer_here _ _ e in let z : ◌≡◌ {A = ℕ} 0 1 = cc in absurd (omega arith)
  rest_settled (telling e f r) zero h = let u = answer_here _ _ e in let z : ◌≡◌ {A = ℕ} 0 1 = cc in absurd (omega arith)
  rest_settled (silent e f r) (suc n) h = events_next _ _ n e f ∙ rw (rest_settled r n (sym (answer_next _ _ n e) ∙ h))
  rest_settled (telling e f r) (suc n) h = events_next _ _ n e f ∙ rw (rest_settled r n (sym (answer_next _ _ n e) ∙ h))
  rest_settled (saying e f r) zero h = let u = answer_here _ _ e in let z : ◌≡◌ {A = ℕ} 0 1 = cc in absurd (omega arith)
  rest_settled (saying e f r) (suc n) h = events_next _ _ n e f ∙ rw (rest_settled r n (sym (answer_next _ _ n e) ∙ h))

  -- What is left at the start is the whole.
  pub rest_lists : {l : List ℕ} {xs : List Line} {es : List Event} → Rest t (start t.setting) l xs es → Lists t.setting t l xs es
  rest_lists r = record { most = step_count r; answered = rest_answered r; ends = rest_ends r; said_lines = rest_said r; settled_events = rest_settled r }
