-- What opening gives and leaves, by what it asked; and the tables that it accepted.
use Prim.Native.Nat.{ℕ, ◌≤◌}
use mathlib.Core.Path.{◌≡◌, refl, sym, ap, ◌∙◌}
use mathlib.Core.List.{List}
use lib.ListN.{length}
use borrow.Author.Tests.{le-leb}
use Rattle.reads.specs.Outcome.{Outcome, value, absent, refused, and_then}
use Rattle.reads.specs.Table.{records}
use Rattle.reads.proofs.Tests.{choose_true}
use Rattle.pointers.specs.Tables.{Tables, rebase_words, bind_words}
use Rattle.pointers.specs.ImageInfo.{info_of, image_info}
use Rattle.pointers.specs.Index.{indexed, index_length}
use Rattle.pointers.specs.Open.{asked_opening, opening, opening_unless, left_by, opened_index}
use Rattle.pointers.specs.declared.imageinfo.ImageInfo.{ImageInfo}
use Rattle.pointers.proofs.Questions.{asked_on, asked_ends}
use Rattle.pointers.proofs.Rooms.{tables_room, asked_index_lem, accepted_parts}
use Rattle.std.specs.Prelude.{Result, Ok, Err}
use Rattle.reads.specs.Answer.{answered}
use Rattle.reads.specs.declared.answer.Question.{Question}

-- w is what the code was answered.
module _ (t : Tables) (w : Result (Unit {0}) Question) (e : answered w ≡ asked_opening t) where
  yes : w ≡ (Ok tt) → asked_opening t ≡ value tt
  yes g = sym e ∙ ap answered g

  pub open_room : w ≡ (Ok tt) → (records rebase_words t.rebases ≤ 16777215) × (records bind_words t.binds ≤ 16777215)
      × (index_length t.rebases t.binds ≤ length t.index)
  open_room g =
      let a = accepted_parts t tt (yes g) in
      let r = tables_room t tt a.tables_pass in
      (r.rebase_count, r.bind_count, asked_index_lem t tt a.index_pass)

  -- With what a caller asks last.
  module _ (last : Result (Unit {0}) Question) where
    pub open_info : w ≡ (Ok tt) → last ≡ (Ok tt) → (o : Outcome ImageInfo) → o ≡ image_info t.info → o ≡ opening_unless (answered last) t
    open_info g f o h = asked_on w (asked_opening t) _ o e g (rw f h)

    pub open_index : w ≡ (Ok tt) → last ≡ (Ok tt) → (l : List ℕ) → l ≡ indexed t.rebases t.binds t.index
        → l ≡ left_by (answered last) (opened_index t) t.index
    unfolding opened_index
    open_index g f l h = rw (f, yes g) h

    pub last_refused : (k : Question) → w ≡ (Ok tt) → last ≡ Err k → refused k ≡ opening_unless (answered last) t
    last_refused k g f = asked_on w (asked_opening t) _ (refused k) e g (rw f refl)

    pub last_kept : (k : Question) → last ≡ Err k → t.index ≡ left_by (answered last) (opened_index t) t.index
    last_kept k f = rw f

    pub open_refused : (k : Question) → w ≡ Err k → refused k ≡ opening_unless (answered last) t
    open_refused k g = asked_ends w (asked_opening t) _ k e g

    pub open_kept : (k : Question) → w ≡ Err k → t.index ≡ left_by (answered last) (opened_index t) t.index
    unfolding opened_index
    open_kept k g = rw (← e, g) (go last)
      where
        go : (l : Result (Unit {0}) Question) → t.index ≡ left_by (answered l) t.index t.index
        go (Ok u) = refl
        go (Err j) = refl

-- Image info that question ImageInfoLength passes is there.
info_there : (body : List ℕ) → 8 ≤ length body → (i : ImageInfo) × (image_info body ≡ value i)
unfolding image_info
info_there body h = (info_of _ _, choose_true _ _ (le-leb 8 (length body) h))

-- So opening gives a value wherever it writes the index.
pub opened_index_by : (t : Tables) → opened_index t ≡ left_by (opening t) (indexed t.rebases t.binds t.index) t.index
unfolding opened_index opening
opened_index_by t = go (asked_opening t) refl
  where
    go : (o : Outcome (Unit {0})) → asked_opening t ≡ o
        → left_by o (indexed t.rebases t.binds t.index) t.index
        ≡ left_by (and_then o (λ _. image_info t.info)) (indexed t.rebases t.binds t.index) t.index
    go (value u) e =
        let i = info_there t.info (tables_room t tt (accepted_parts t u e).tables_pass).info_bytes in
        rw i.1
    go (absent r) e = refl
    go (refused k) e = refl
