-- Rows in order, noted one by one in a table, give the effective methods.
use Prim.Native.Nat.{ℕ}
use mathlib.Core.Path.{◌≡◌, refl, ap, sym, subst, ◌∙◌}
use mathlib.Core.Bool.{Bool, true, false, ◌&&◌, ◌||◌, and-false}
use mathlib.Core.List.Memᴰ
use mathlib.Core.List.{List, [], ◌∷◌, ◌++◌, append-nil}
use native.Mathlib.Omega.{arith}
use lib.Dec.{ltb}
use Rattle.reads.specs.Outcome.{choose}
use Rattle.reads.proofs.Tests.{choose_true, choose_false}
use Rattle.dispatch.specs.declared.rows.Appearance.{Appearance}
use Rattle.dispatch.specs.Dispatch.{same_selector, comes_before, has_earlier, firsts, supersedes, standing, standing_for, effective_of}
use Rattle.dispatch.specs.Claims.{In, bytes_of, Ordered, ordered_none, ordered_next, Once, once_none, once_next, First}
use Rattle.dispatch.specs.Table.{note, note_all}
use Rattle.dispatch.proofs.Places.{before_false_made, before_true, in_cons}
use Rattle.dispatch.proofs.Effects.{never, same_bytes_lem, bytes_same, earlier_some, earlier_none, none_earlier, firsts_in, firsts_ordered, first_row, first_among, standing_bytes, leader_of}

same_test : (x y : Bool) → (x ≡ true → y ≡ true) → (y ≡ true → x ≡ true) → x ≡ y
same_test true y f g = sym (f refl)
same_test false true f g = g refl
same_test false false f g = refl

not_self : (b : Appearance) → comes_before b b ≡ false
not_self b = before_false_made b b (omega arith) (λ _. omega arith)

after_all : (x b : Appearance) → comes_before x b ≡ true → comes_before b x ≡ false
after_all x b h = let d = before_true x b h in before_false_made b x d.0 (λ q. let z = d.1 (sym q) in omega arith)

append_cons : (xs : List Appearance) (b : Appearance) (ys : List Appearance) → (xs ++ (b ∷ [])) ++ ys ≡ xs ++ (b ∷ ys)
append_cons [] b ys = refl
append_cons (x ∷ xs) b ys = ap (λ l. x ∷ l) (append_cons xs b ys)

ordered_front : (xs ys : List Appearance) → Ordered (xs ++ ys) → Ordered xs
ordered_front [] ys o = ordered_none
ordered_front (x ∷ xs) ys (ordered_next f o) = ordered_next (λ b m. f b (Memᴰ.append_left ys m)) (ordered_front xs ys o)

ordered_across : (xs : List Appearance) (b : Appearance) (ys : List Appearance) → Ordered (xs ++ (b ∷ ys)) → (a : Appearance) → In a xs → comes_before a b ≡ true
ordered_across [] b ys o a m = absurd (Memᴰ.not-nil m)
ordered_across (x ∷ xs) b ys (ordered_next f o) a m =
    in_cons (λ a. comes_before a b ≡ true) (f b (Memᴰ.append_right xs (Memᴰ.head refl))) (ordered_across xs b ys o) a m

module _ (files : List (List ℕ)) where
  -- One more row at the end.
  earlier_append : (a b : Appearance) (rows : List Appearance) → comes_before b a ≡ false → has_earlier files a (rows ++ (b ∷ [])) ≡ has_earlier files a rows
  unfolding has_earlier
  earlier_append a b [] h = rw h
  earlier_append a b (x ∷ rows) h = ap (λ y. (comes_before x a && same_selector files a.selector x.selector) || y) (earlier_append a b rows h)

  firsts_more : (b : Appearance) (all rows : List Appearance) → ((a : Appearance) → In a rows → comes_before b a ≡ false) → firsts files (all ++ (b ∷ [])) rows ≡ firsts files all rows
  unfolding firsts
  firsts_more b all [] f = refl
  firsts_more b all (x ∷ rows) f =
      rw (earlier_append x b all (f x (Memᴰ.head refl)), firsts_more b all rows (λ a m. f a (Memᴰ.tail m)))

  firsts_last : (all : List Appearance) (b : Appearance) (rows : List Appearance) → firsts files all (rows ++ (b ∷ [])) ≡ firsts files all rows ++ choose (has_earlier files b all) [] (b ∷ [])
  unfolding firsts
  firsts_last all b [] = refl
  firsts_last all b (x ∷ rows) = go (has_earlier files x all) (firsts_last all b rows)
    where
      go : (t : Bool) → firsts files all (rows ++ (b ∷ [])) ≡ firsts files all rows ++ choose (has_earlier files b all) [] (b ∷ [])
          → choose t (firsts files all (rows ++ (b ∷ []))) (x ∷ firsts files all (rows ++ (b ∷ [])))
          ≡ choose t (firsts files all rows) (x ∷ firsts files all rows) ++ choose (has_earlier files b all) [] (b ∷ [])
      go true e = choose_true _ _ refl ∙ e ∙ ap (λ l. l ++ choose (has_earlier files b all) [] (b ∷ [])) (sym (choose_true _ _ refl))
      go false e = choose_false _ _ refl ∙ ap (λ l. x ∷ l) e ∙ ap (λ l. l ++ choose (has_earlier files b all) [] (b ∷ [])) (sym (choose_false _ _ refl))

  standing_last : (a b : Appearance) (rows : List Appearance) → standing files a (rows ++ (b ∷ [])) ≡ choose (supersedes files b (standing files a rows)) b (standing files a rows)
  unfolding standing
  standing_last a b [] = refl
  standing_last a b (x ∷ rows) = standing_last (choose (supersedes files x a) x a) b rows

  standing_append : (all xs ys : List Appearance) → standing_for files all (xs ++ ys) ≡ standing_for files all xs ++ standing_for files all ys
  unfolding standing_for
  standing_append all [] ys = refl
  standing_append all (x ∷ xs) ys = ap (λ l. standing files x all ∷ l) (standing_append all xs ys)

  -- A row of another selector supersedes nothing.
  other : (a b : Appearance) → (bytes_of files a ≡ bytes_of files b → ⊥) → supersedes files b a ≡ false
  unfolding supersedes
  other a b n = go (same_selector files a.selector b.selector) refl
    where
      go : (t : Bool) → same_selector files a.selector b.selector ≡ t → (ltb a.source b.source && t) ≡ false
      go true e = absurd (n (same_bytes_lem files a b e))
      go false e = and-false (ltb a.source b.source)

  stays : (a b : Appearance) (rows : List Appearance) → (bytes_of files a ≡ bytes_of files b → ⊥) → standing files a (rows ++ (b ∷ [])) ≡ standing files a rows
  stays a b rows n = standing_last a b rows ∙ choose_false _ _ (other (standing files a rows) b (λ e. n (sym (standing_bytes files rows rows a) ∙ e)))

  stays_all : (b : Appearance) (all rows : List Appearance) → ((a : Appearance) → In a rows → bytes_of files a ≡ bytes_of files b → ⊥)
      → standing_for files (all ++ (b ∷ [])) rows ≡ standing_for files all rows
  unfolding standing_for
  stays_all b all [] f = refl
  stays_all b all (x ∷ rows) f = rw (stays x b all (f x (Memᴰ.head refl)), stays_all b all rows (λ a m. f a (Memᴰ.tail m)))

  -- The row that is noted, beside the rows that are first of their selectors.
  module _ (b : Appearance) (all : List Appearance) where
    unfoldable tail_of : List Appearance → List Appearance
    tail_of rows = choose (has_earlier files b rows) [] (b ∷ [])

    tail_hit : (x : Appearance) (rows : List Appearance) → comes_before x b ≡ true → bytes_of files x ≡ bytes_of files b → tail_of (x ∷ rows) ≡ []
    unfolding tail_of
    tail_hit x rows h e = choose_true _ _ (earlier_some files b x (x ∷ rows) (Memᴰ.head refl) h (sym e))

    tail_miss : (x : Appearance) (rows : List Appearance) → (bytes_of files x ≡ bytes_of files b → ⊥) → tail_of (x ∷ rows) ≡ tail_of rows
    unfolding tail_of has_earlier
    tail_miss x rows n = ap (λ t. choose (t || has_earlier files b rows) [] (b ∷ [])) (go (same_selector files b.selector x.selector) refl)
      where
        go : (t : Bool) → same_selector files b.selector x.selector ≡ t → (comes_before x b && t) ≡ false
        go true e = absurd (n (sym (same_bytes_lem files b x e)))
        go false e = and-false (comes_before x b)

    note_hit : (x : Appearance) (rows : List Appearance) → bytes_of files x ≡ bytes_of files b
        → note files b (standing files x all ∷ rows) ≡ standing files x (all ++ (b ∷ [])) ∷ rows
    unfolding note supersedes
    note_hit x rows e =
        let s : same_selector files (standing files x all).selector b.selector ≡ true = bytes_same files (standing files x all) b (standing_bytes files all all x ∙ e) in
        choose_true _ _ s ∙ ap (λ y. y ∷ rows) (sym (standing_last x b all ∙ ap (λ t. choose t b (standing files x all)) (rw s (and_one (ltb (standing files x all).source b.source)))))
      where
        and_one : (t : Bool) → (t && true) ≡ t
        and_one true = refl
        and_one false = refl

    note_miss : (x : Appearance) (rows : List Appearance) → (bytes_of files x ≡ bytes_of files b → ⊥)
        → note files b (standing files x all ∷ rows) ≡ standing files x (all ++ (b ∷ [])) ∷ note files b rows
    unfolding note
    note_miss x rows n =
        choose_false _ _ (go (same_selector files (standing files x all).selector b.selector) refl) ∙ ap (λ y. y ∷ note files b rows) (sym (stays x b all n))
      where
        go : (t : Bool) → same_selector files (standing files x all).selector b.selector ≡ t → same_selector files (standing files x all).selector b.selector ≡ false
        go true e = absurd (n (sym (standing_bytes files all all x) ∙ same_bytes_lem files (standing files x all) b e))
        go false e = e

    note_none : note files b [] ≡ [] ++ tail_of []
    unfolding note tail_of has_earlier choose
    note_none = refl

    -- Noting a row that comes after all.
    note_over : (rows : List Appearance) → Once files rows → ((a : Appearance) → In a rows → comes_before a b ≡ true)
        → note files b (standing_for files all rows) ≡ standing_for files (all ++ (b ∷ [])) rows ++ tail_of rows
    unfolding standing_for
    note_over [] once_none f = note_none
    note_over (x ∷ rows) (once_next n o) f = go (same_selector files x.selector b.selector) refl (note_over rows o (λ a m. f a (Memᴰ.tail m)))
      where
        go : (t : Bool) → same_selector files x.selector b.selector ≡ t
            → note files b (standing_for files all rows) ≡ standing_for files (all ++ (b ∷ [])) rows ++ tail_of rows
            → note files b (standing files x all ∷ standing_for files all rows)
            ≡ (standing files x (all ++ (b ∷ [])) ∷ standing_for files (all ++ (b ∷ [])) rows) ++ tail_of (x ∷ rows)
        go true e ih =
            let q = same_bytes_lem files x b e in
            note_hit x (standing_for files all rows) q
            ∙ ap (λ l. standing files x (all ++ (b ∷ [])) ∷ l) (sym (stays_all b all rows (λ a m z. n a m (q ∙ sym z))) ∙ sym (append-nil (standing_for files (all ++ (b ∷ [])) rows)))
            ∙ ap (λ l. (standing files x (all ++ (b ∷ [])) ∷ standing_for files (all ++ (b ∷ [])) rows) ++ l) (sym (tail_hit x rows (f x (Memᴰ.head refl)) q))
        go false e ih =
            let m : bytes_of files x ≡ bytes_of files b → ⊥ = λ q. never (sym (bytes_same files x b q) ∙ e) in
            note_miss x (standing_for files all rows) m ∙ ap (λ l. standing files x (all ++ (b ∷ [])) ∷ l) ih
            ∙ ap (λ l. (standing files x (all ++ (b ∷ [])) ∷ standing_for files (all ++ (b ∷ [])) rows) ++ l) (sym (tail_miss x rows m))

  -- The firsts of rows in order have each selector once.
  once_of : (all rows : List Appearance) → Ordered rows → ((a : Appearance) → In a rows → First files all a) → Once files rows
  once_of all [] ordered_none f = once_none
  once_of all (x ∷ rows) (ordered_next o more) f =
      once_next (λ b m e. never (sym (o b m) ∙ (f b (Memᴰ.tail m)).earliest x (f x (Memᴰ.head refl)).listed (sym e)))
      (once_of all rows more (λ a m. f a (Memᴰ.tail m)))

  module _ (b : Appearance) (done : List Appearance) (o : Ordered done) (f : (a : Appearance) → In a done → comes_before a b ≡ true) where
    -- Some row before b has its selector exactly if a first one has.
    earlier_firsts : has_earlier files b (firsts files done done) ≡ has_earlier files b (done ++ (b ∷ []))
    earlier_firsts = same_test _ _ there back ∙ sym (earlier_append b b done (not_self b))
      where
        seen : (rows : List Appearance) → has_earlier files b rows ≡ true → (has_earlier files b rows ≡ false → ⊥)
        seen rows h g = never (sym h ∙ g)

        there : has_earlier files b (firsts files done done) ≡ true → has_earlier files b done ≡ true
        there h = go (has_earlier files b done) refl
          where
            go : (t : Bool) → has_earlier files b done ≡ t → has_earlier files b done ≡ true
            go true e = e
            go false e = absurd (seen (firsts files done done) h (none_earlier files b (firsts files done done) (λ a m. earlier_none files b done e a (firsts_in files done done a m).0)))

        back : has_earlier files b done ≡ true → has_earlier files b (firsts files done done) ≡ true
        back h = go (has_earlier files b (firsts files done done)) refl
          where
            go : (t : Bool) → has_earlier files b (firsts files done done) ≡ t → has_earlier files b (firsts files done done) ≡ true
            go true e = e
            go false e =
                absurd (seen done h (none_earlier files b done (λ a m q.
                let w = leader_of files done o a m in
                let i = first_among files done w.leader (record { listed = w.listed; earliest = w.earliest }) in
                never (sym (f w.leader w.listed) ∙ earlier_none files b (firsts files done done) e w.leader i (q ∙ sym w.same)))))

    -- Where none has it, b stands for itself.
    alone : (rows : List Appearance) → ((a : Appearance) → In a rows → bytes_of files b ≡ bytes_of files a → ⊥) → standing files b rows ≡ b
    unfolding standing
    alone [] n = refl
    alone (x ∷ rows) n =
        ap (λ y. standing files y rows) (choose_false _ _ (other b x (n x (Memᴰ.head refl)))) ∙ alone rows (λ a m. n a (Memᴰ.tail m))

    itself : (t : Bool) → choose t b b ≡ b
    unfolding choose
    itself true = refl
    itself false = refl

    tail_stands : (t : Bool) → has_earlier files b (done ++ (b ∷ [])) ≡ t → choose t [] (b ∷ []) ≡ standing_for files (done ++ (b ∷ [])) (choose t [] (b ∷ []))
    unfolding standing_for choose
    tail_stands true e = refl
    tail_stands false e =
        ap (λ y. y ∷ []) (sym (standing_last b b done
        ∙ ap (λ y. choose (supersedes files b y) b y)
        (alone done (λ a m q. never (sym (f a m) ∙ earlier_none files b done (sym (earlier_append b b done (not_self b)) ∙ e) a m q))) ∙ itself (supersedes files b b)))

    note_step : note files b (effective_of files done) ≡ effective_of files (done ++ (b ∷ []))
    unfolding effective_of tail_of
    note_step =
        let l = firsts files done done in
        note_over b done l (once_of done l (firsts_ordered files done done o) (first_row files done)) (λ a m. f a (firsts_in files done done a m).0)
        ∙ ap (λ x. standing_for files (done ++ (b ∷ [])) l ++ x)
        (ap (λ t. choose t [] (b ∷ [])) earlier_firsts ∙ tail_stands (has_earlier files b (done ++ (b ∷ []))) refl)
        ∙ sym (standing_append (done ++ (b ∷ [])) l (choose (has_earlier files b (done ++ (b ∷ []))) [] (b ∷ [])))
        ∙ ap (standing_for files (done ++ (b ∷ [])))
        (ap (λ x. x ++ choose (has_earlier files b (done ++ (b ∷ []))) [] (b ∷ [])) (sym (firsts_more b done done (λ a m. after_all a b (f a m))))
        ∙ sym (firsts_last (done ++ (b ∷ [])) b done))

  note_from : (done todo : List Appearance) → Ordered (done ++ todo) → note_all files (effective_of files done) todo ≡ effective_of files (done ++ todo)
  unfolding note_all
  note_from done [] o = ap (effective_of files) (sym (append-nil done))
  note_from done (b ∷ todo) o =
      ap (λ l. note_all files l todo) (note_step b done (ordered_front done (b ∷ todo) o) (ordered_across done b todo o))
      ∙ note_from (done ++ (b ∷ [])) todo (subst Ordered (sym (append_cons done b todo)) o) ∙ ap (effective_of files) (append_cons done b todo)

  pub note_effective : (rows : List Appearance) → Ordered rows → note_all files [] rows ≡ effective_of files rows
  unfolding effective_of standing_for firsts
  note_effective rows o = note_from [] rows o
