-- The table of selectors in the result buffer: its words, what a search finds, what noting a row and naming the records leave.
use Prim.Native.Nat.{ℕ, zero, suc, ◌+◌, ◌-◌, ◌*◌, ◌<◌, ◌≤◌}
use mathlib.Core.Path.{◌≡◌, refl, ap, sym, subst, ◌∙◌}
use mathlib.Core.Bool.{Bool, true, false}
use mathlib.Core.List.Memᴰ
use mathlib.Core.List.{List, [], ◌∷◌, ◌++◌, append_assoc}
use native.Mathlib.Numerals.{add-one}
use native.Mathlib.Omega.{arith}
use lib.Dec.{ltb}
use lib.ListN.{length, get_or, drop, take, set, length-set, length-append, length-drop, get_or-append, drop_of_length-le}
use borrow.Rule.Slice.PartMut.{put_mid}
use lib.Seq.{drop-cons, drop-drop, drop-append_seam, length-take-le, get_or-take, get_or-drop, sets, sets-eq, length-sets, take_at, drop-append-add}
use borrow.Author.Tests.{lt-ltb, le-ltb, eq-eqb, ne_eqb}
use Rattle.std.specs.Prelude.{Option, None, Some}
use Rattle.reads.specs.Outcome.{choose, text_of}
use Rattle.reads.specs.declared.text.Text.{Text}
use Rattle.reads.proofs.Tests.{choose_true, choose_false}
use Rattle.dispatch.specs.declared.rows.Appearance.{Appearance}
use Rattle.dispatch.specs.Dispatch.{same_selector, words}
use Rattle.dispatch.specs.Claims.{In}
use Rattle.pointers.specs.Tables.{Tables}
use Rattle.reads.specs.Text.{or_none}
use Rattle.dispatch.specs.SlotSources.{listed_at}
use Rattle.dispatch.specs.Table.{marks, position, note, Holds, Finds, FoundIn, Noted, origin_of, Origins, Named}

abbrev pub no_row : Appearance
no_row = record { selector = text_of 0 0 0; source = 0; entry = 0; origin = 0 }

pub length_marks : (table : List Appearance) → length (marks table) ≡ 4 * length table
unfolding marks
length_marks [] = refl
length_marks (a ∷ more) = omega (arith, length_marks more)

pub length_words : (rows : List Appearance) → length (words rows) ≡ 4 * length rows
unfolding words
length_words [] = refl
length_words (a ∷ more) = omega (arith, length_words more)

four : (j i : ℕ) → 4 * suc j + i ≡ suc (suc (suc (suc (4 * j + i))))
four j i = omega arith

four_none : (j : ℕ) → 4 * suc j ≡ suc (suc (suc (suc (4 * j))))
four_none j = omega arith

-- The words of entry j.
module _ (rest : List ℕ) where
  mark_file : (table : List Appearance) (j : ℕ) → j < length table → get_or (marks table ++ rest) (4 * j) 0 ≡ (get_or table j no_row).selector.file
  unfolding marks
  mark_file [] j h = absurd (omega arith)
  mark_file (a ∷ more) zero h = refl
  mark_file (a ∷ more) (suc j) h = rw (four_none j) (mark_file more j (omega arith))

  mark_offset : (table : List Appearance) (j : ℕ) → j < length table → get_or (marks table ++ rest) (4 * j + 1) 0 ≡ (get_or table j no_row).selector.offset
  unfolding marks
  mark_offset [] j h = absurd (omega arith)
  mark_offset (a ∷ more) zero h = refl
  mark_offset (a ∷ more) (suc j) h = rw (four j 1) (mark_offset more j (omega arith))

  mark_len : (table : List Appearance) (j : ℕ) → j < length table → get_or (marks table ++ rest) (4 * j + 2) 0 ≡ (get_or table j no_row).selector.len
  unfolding marks
  mark_len [] j h = absurd (omega arith)
  mark_len (a ∷ more) zero h = refl
  mark_len (a ∷ more) (suc j) h = rw (four j 2) (mark_len more j (omega arith))

  mark_source : (table : List Appearance) (j : ℕ) → j < length table → get_or (marks table ++ rest) (4 * j + 3) 0 ≡ (get_or table j no_row).source
  unfolding marks
  mark_source [] j h = absurd (omega arith)
  mark_source (a ∷ more) zero h = refl
  mark_source (a ∷ more) (suc j) h = rw (four j 3) (mark_source more j (omega arith))

  mark_set : (table : List Appearance) (j : ℕ) (b : Appearance) → j < length table
      → sets (marks table ++ rest) (4 * j) (b.selector.file ∷ b.selector.offset ∷ b.selector.len ∷ b.source ∷ []) ≡ marks (set table j b) ++ rest
  unfolding marks
  mark_set [] j b h = absurd (omega arith)
  mark_set (a ∷ more) zero b h = refl
  mark_set (a ∷ more) (suc j) b h =
      rw (four_none j) (ap (λ l. a.selector.file ∷ a.selector.offset ∷ a.selector.len ∷ a.source ∷ l) (mark_set more j b (omega arith)))

marks_last : (table : List Appearance) (b : Appearance) (rest : List ℕ) → marks (table ++ (b ∷ [])) ++ rest ≡ marks table ++ (b.selector.file ∷ b.selector.offset ∷ b.selector.len ∷ b.source ∷ rest)
unfolding marks
marks_last [] b rest = refl
marks_last (a ∷ more) b rest = ap (λ l. a.selector.file ∷ a.selector.offset ∷ a.selector.len ∷ a.source ∷ l) (marks_last more b rest)

tail_chosen : (a : Appearance) (t : Bool) (x y : List Appearance) → a ∷ choose t x y ≡ choose t (a ∷ x) (a ∷ y)
unfolding choose
tail_chosen a true x y = refl
tail_chosen a false x y = refl

head_chosen : (b a : Appearance) (more : List Appearance) (t : Bool) → (choose t b a ∷ more) ≡ choose t (b ∷ more) (a ∷ more)
unfolding choose
head_chosen b a more true = refl
head_chosen b a more false = refl

-- Words copied into the buffer, as those of an entry are.
copied : (l : List ℕ) (k n : ℕ) (ws : List ℕ) → n ≡ length ws → k + length ws ≤ length l → put_mid k n l ws ≡ sets l k ws
copied l k n ws e h = rw (e, drop-drop, ← append_assoc) (sym (sets-eq ws l k h))

pub mark_entry : (l : List ℕ) (k : ℕ) (b : Appearance) → k + 4 ≤ length l → {ws : List ℕ} → ws ≡ b.selector.file ∷ b.selector.offset ∷ b.selector.len ∷ b.source ∷ []
    → put_mid k (k + 4 - k) l ws ≡ sets l k (marks (b ∷ []))
unfolding marks
mark_entry l k b h e = rw e (copied l k (k + 4 - k) (marks (b ∷ [])) (omega arith) h)

-- The entry with a selector.
module _ (files : List (List ℕ)) where
  position_here : (s : Text) (a : Appearance) (more : List Appearance) → same_selector files a.selector s ≡ true → position files s (a ∷ more) ≡ 0
  unfolding position
  position_here s a more e = choose_true _ _ e

  position_next : (s : Text) (a : Appearance) (more : List Appearance) → same_selector files a.selector s ≡ false → position files s (a ∷ more) ≡ suc (position files s more)
  unfolding position
  position_next s a more e = choose_false _ _ e

  -- The search stands at entry j.
  abbrev pub Seek : List ℕ → ℕ → Text → ℕ → Type 0
  Seek result count s j = (old : List ℕ) (table : List Appearance) → Holds old table count result → j + position files s (drop j table) ≡ position files s table

  module _ (result : List ℕ) (count : ℕ) (s : Text) (j : ℕ) (seek : Seek result count s j) where
    module _ (l : j < count) {y : Bool} (t : y ≡ same_selector files (text_of (get_or result (4 * j) 0) (get_or result (4 * j + 1) 0) (get_or result (4 * j + 2) 0)) s) where
      entry_test : (old : List ℕ) (table : List Appearance) → Holds old table count result → same_selector files (get_or table j no_row).selector s ≡ y
      entry_test old table h =
          let k : j < length table = omega (arith, h.many) in
          let f : get_or result (4 * j) 0 ≡ (get_or table j no_row).selector.file = ap (λ r. get_or r (4 * j) 0) h.stored ∙ mark_file _ table j k in
          let o : get_or result (4 * j + 1) 0 ≡ (get_or table j no_row).selector.offset = ap (λ r. get_or r (4 * j + 1) 0) h.stored ∙ mark_offset _ table j k in
          let n : get_or result (4 * j + 2) 0 ≡ (get_or table j no_row).selector.len = ap (λ r. get_or r (4 * j + 2) 0) h.stored ∙ mark_len _ table j k in
          sym (t ∙ (λ i. same_selector files (text_of (f i) (o i) (n i)) s))

      seek_here : y ≡ true → FoundIn files result count s (Some j)
      seek_here e = record {
        finds = (
          l,
          λ old table h.
              let k : j < length table = omega (arith, h.many) in
              let p : position files s (drop j table) ≡ 0 = rw (drop-cons table j no_row k) (position_here s _ _ (entry_test old table h ∙ e)) in
              omega (arith, seek old table h),
        );
      }

      seek_next : y ≡ false → Seek result count s (j + 1)
      seek_next e old table h =
          let k : j < length table = omega (arith, h.many) in
          let p : position files s (drop j table) ≡ suc (position files s (drop (j + 1) table)) =
          rw (drop-cons table j no_row k, add-one j) (position_next s _ _ (entry_test old table h ∙ e)) in
          omega (arith, seek old table h)

    seek_end : count ≤ j → j ≤ count → FoundIn files result count s None
    unfolding position
    seek_end l m = record {
      finds = λ old table h.
          let p : position files s (drop j table) ≡ 0 = rw (drop_of_length-le table {i = j} (let q : length table ≤ j = omega (arith, h.many) in q)) in
          omega (arith, seek old table h);
    }

  -- The search stands at entry j, and these entries are left.
  pub record Seeking (result : List ℕ) (count : ℕ) (s : Text) (j size : ℕ) (rest : List ℕ) : Type 0 where
    pub seek : Seek result count s j
    pub within : j ≤ count
    pub four : size ≡ 4
    pub left : rest ≡ drop (4 * j) (take (4 * count) result)

  module _ {result : List ℕ} {count : ℕ} {s : Text} {j size : ℕ} {rest : List ℕ} (enough : 4 * count ≤ length result) (at : Seeking result count s j size rest) where
    left_words : length rest ≡ 4 * count - 4 * j
    left_words = ap length at.left ∙ length-drop (4 * j) (take (4 * count) result) ∙ ap (λ (k : ℕ). k - 4 * j) (length-take-le (4 * count) result enough)

    module _ (row more : List ℕ) (e : rest ≡ row ++ more) (n : length row ≡ size) where
      inside : j < count
      inside = let q : length row + length more ≡ 4 * count - 4 * j = sym (length-append row more) ∙ ap length (sym e) ∙ left_words in omega (arith, q, n, at.four)

      word : (i : ℕ) → i < 4 → get_or row i 0 ≡ get_or result (4 * j + i) 0
      word i l =
          sym (get_or-append row more 0 i (omega (arith, n, at.four))) ∙ ap (λ (x : List ℕ). get_or x i 0) (sym e ∙ at.left)
          ∙ get_or-drop (4 * j) (take (4 * count) result) i 0 ∙ get_or-take (4 * count) result (4 * j + i) 0 (omega (arith, inside))

      module _ {y : Bool} (t : y ≡ same_selector files (text_of (get_or row 0 0) (get_or row 1 0) (get_or row 2 0)) s) where
        tested : y ≡ same_selector files (text_of (get_or result (4 * j) 0) (get_or result (4 * j + 1) 0) (get_or result (4 * j + 2) 0)) s
        tested =
            let f : get_or row 0 0 ≡ get_or result (4 * j) 0 = word 0 (omega arith) ∙ ap (λ (k : ℕ). get_or result k 0) (let z : 4 * j + 0 ≡ 4 * j = omega arith in z) in
            let o = word 1 (omega arith) in
            let m = word 2 (omega arith) in
            t ∙ (λ i. same_selector files (text_of (f i) (o i) (m i)) s)

        pub seeking_here : y ≡ true → {k : ℕ} → k ≡ j → FoundIn files result count s (Some k)
        seeking_here g u = rw u (seek_here result count s j at.seek inside tested g)

        pub seeking_next : y ≡ false → {k z : ℕ} → k ≡ j + 1 → z ≡ size → Seeking result count s k z more
        seeking_next g {k} {z} u v = rw u (record {
          seek = seek_next result count s j at.seek inside tested g;
          within = omega (arith, inside);
          four = v ∙ at.four;
          left =
              sym (drop-append_seam row more) ∙ ap (λ (i : ℕ). drop i (row ++ more)) (n ∙ at.four) ∙ ap (drop 4) (sym e ∙ at.left)
              ∙ drop-drop 4 (4 * j) (take (4 * count) result) ∙ ap (λ (i : ℕ). drop i (take (4 * count) result)) (let q : 4 * j + 4 ≡ 4 * (j + 1) = omega arith in q);
        })

    pub seeking_end : length rest < size → FoundIn files result count s None
    seeking_end h = seek_end result count s j at.seek (omega (arith, left_words, at.four)) at.within

  -- Noting a row, by the entry that has its selector.
  note_found : (b : Appearance) (table : List Appearance) → position files b.selector table < length table
      → note files b table ≡ choose (ltb (get_or table (position files b.selector table) no_row).source b.source) (set table (position files b.selector table) b) table
  unfolding note position choose
  note_found b [] h = absurd (omega arith)
  note_found b (a ∷ more) h = go (same_selector files a.selector b.selector) refl h (λ l. note_found b more l)
    where
      go : (t : Bool) → same_selector files a.selector b.selector ≡ t → choose t 0 (suc (position files b.selector more)) < suc (length more)
          → (position files b.selector more < length more
          → note files b more ≡ choose (ltb (get_or more (position files b.selector more) no_row).source b.source) (set more (position files b.selector more) b) more)
          → choose t (choose (ltb a.source b.source) b a ∷ more) (a ∷ note files b more)
          ≡ choose (ltb (get_or (a ∷ more) (choose t 0 (suc (position files b.selector more))) no_row).source b.source)
          (set (a ∷ more) (choose t 0 (suc (position files b.selector more))) b) (a ∷ more)
      go true e l ih = head_chosen b a more (ltb a.source b.source)
      go false e l ih = ap (λ x. a ∷ x) (ih (omega arith)) ∙ tail_chosen a (ltb (get_or more (position files b.selector more) no_row).source b.source) _ _

  note_new : (b : Appearance) (table : List Appearance) → length table ≤ position files b.selector table → note files b table ≡ table ++ (b ∷ [])
  unfolding note position
  note_new b [] h = refl
  note_new b (a ∷ more) h = go (same_selector files a.selector b.selector) refl h (λ l. note_new b more l)
    where
      go : (t : Bool) → same_selector files a.selector b.selector ≡ t → suc (length more) ≤ choose t 0 (suc (position files b.selector more))
          → (length more ≤ position files b.selector more → note files b more ≡ more ++ (b ∷ []))
          → choose t (choose (ltb a.source b.source) b a ∷ more) (a ∷ note files b more) ≡ a ∷ (more ++ (b ∷ []))
      go true e l ih = absurd (omega (arith, choose_true {t = true} 0 (suc (position files b.selector more)) refl))
      go false e l ih = choose_false _ _ refl ∙ ap (λ x. a ∷ x) (ih (omega (arith, choose_false {t = false} 0 (suc (position files b.selector more)) refl)))

  module _ (result : List ℕ) (count : ℕ) (b : Appearance) (room : 4 * count ≤ length result) {r : Option ℕ} (found : FoundIn files result count b.selector r) where
    module _ {j : ℕ} (e : r ≡ Some j) where
      here : Finds files result count b.selector (Some j)
      here = (subst (λ (x : Option ℕ). FoundIn files result count b.selector x) e found).finds

      in_table : (old : List ℕ) (table : List Appearance) → Holds old table count result
          → note files b table ≡ choose (ltb (get_or result (4 * j + 3) 0) b.source) (set table j b) table
      in_table old table h =
          let p : position files b.selector table ≡ j = sym (here.1 old table h) in
          let k : j < length table = omega (arith, h.many, here.0) in
          let m : get_or result (4 * j + 3) 0 ≡ (get_or table j no_row).source = ap (λ r. get_or r (4 * j + 3) 0) h.stored ∙ mark_source _ table j k in
          rw m (rw p at (note_found b table (rw p k)))

      pub noted_kept : b.source ≤ get_or result (4 * j + 3) 0 → Noted files result count b count result
      noted_kept g = record {
        same = refl;
        holds = λ old table h _ _.
            let n : note files b table ≡ table = in_table old table h ∙ choose_false _ _ (le-ltb (get_or result (4 * j + 3) 0) b.source g) in
            rw n h;
      }

      pub noted_replaced : get_or result (4 * j + 3) 0 < b.source → {after : List ℕ} → after ≡ sets result (4 * j) (marks (b ∷ [])) → Noted files result count b count after
      unfolding marks
      noted_replaced g {after} d = record {
        same = ap (λ (x : List ℕ). length x) d ∙ length-sets result (4 * j) (marks (b ∷ []));
        holds = λ old table h _ _.
            let n : note files b table ≡ set table j b = in_table old table h ∙ choose_true _ _ (lt-ltb (get_or result (4 * j + 3) 0) b.source g) in
            let k : j < length table = omega (arith, h.many, here.0) in
            rw n (record {
              stored = d ∙ ap (λ (x : List ℕ). sets x (4 * j) (b.selector.file ∷ b.selector.offset ∷ b.selector.len ∷ b.source ∷ [])) h.stored ∙ mark_set (drop (4 * count) old) table j b k;
              many = simp length-set h.many;
            });
      }

    module _ (e : r ≡ None) where
      here_none : Finds files result count b.selector None
      here_none = (subst (λ (x : Option ℕ). FoundIn files result count b.selector x) e found).finds

      appended : (old : List ℕ) (table : List Appearance) → Holds old table count result → note files b table ≡ table ++ (b ∷ [])
      appended old table h = note_new b table (omega (arith, here_none old table h, h.many))

      length_more : (table : List Appearance) → length (table ++ (b ∷ [])) ≡ length table + 1
      length_more table = length-append table (b ∷ [])

      pub noted_full : length result - 4 * count < 4 → Noted files result count b count result
      noted_full g = record {
        same = refl;
        holds = λ old table h r q.
            let n : length (note files b table) ≡ length table + 1 = ap (λ (x : List Appearance). length x) (appended old table h) ∙ length_more table in
            absurd (omega (arith, h.many, n));
      }

      pub noted_added : {after : List ℕ} → 4 ≤ length result - 4 * count → after ≡ sets result (4 * count) (marks (b ∷ [])) → Noted files result count b (count + 1) after
      unfolding marks
      noted_added {after} g d = record {
        same = ap (λ (x : List ℕ). length x) d ∙ length-sets result (4 * count) (marks (b ∷ []));
        holds = λ old table h r q.
            rw (appended old table h) (record {
              stored =
                  let w : length (marks table) ≡ 4 * count = omega (arith, length_marks table, h.many) in
                  let v : 4 * count + 4 ≡ 4 * (count + 1) = omega arith in
                  d ∙ sets-eq (marks (b ∷ [])) result (4 * count) (omega arith)
                  ∙ append_assoc (take (4 * count) result) (marks (b ∷ [])) (drop (4 * count + 4) result)
                  ∙ ap (λ (x : List ℕ). take (4 * count) x ++ (marks (b ∷ []) ++ drop (4 * count + 4) x)) h.stored
                  ∙ ap (λ (x : List ℕ). x ++ (marks (b ∷ []) ++ drop (4 * count + 4) (marks table ++ drop (4 * count) old))) (take_at (marks table) (drop (4 * count) old) (4 * count) w)
                  ∙ ap (λ (x : List ℕ). marks table ++ (marks (b ∷ []) ++ x))
                  (ap (λ (i : ℕ). drop (i + 4) (marks table ++ drop (4 * count) old)) (sym w) ∙ drop-append-add (marks table) (drop (4 * count) old) 4 ∙ drop-drop 4 (4 * count) old ∙ ap (λ (i : ℕ). drop i old) v)
                  ∙ sym (marks_last table b (drop (4 * (count + 1)) old));
              many = length_more table ∙ ap (λ (i : ℕ). i + 1) h.many;
            });
      }

-- Entries with the records of the first j of them named.
unfoldable pub half_named : ℕ → List Appearance → List ℕ
half_named zero table = marks table
half_named (suc j) [] = []
half_named (suc j) (a ∷ more) = a.selector.file ∷ a.selector.offset ∷ a.selector.len ∷ a.origin ∷ half_named j more

all_named : (table : List Appearance) → half_named (length table) table ≡ words table
unfolding half_named words marks
all_named [] = refl
all_named (a ∷ more) = ap (λ l. a.selector.file ∷ a.selector.offset ∷ a.selector.len ∷ a.origin ∷ l) (all_named more)

in_at : (table : List Appearance) (j : ℕ) → j < length table → In (get_or table j no_row) table
in_at [] j h = absurd (omega arith)
in_at (a ∷ more) zero h = Memᴰ.head refl
in_at (a ∷ more) (suc j) h = Memᴰ.tail (in_at more j (omega arith))

module _ (rest : List ℕ) where
  half_source : (table : List Appearance) (j : ℕ) → j < length table → get_or (half_named j table ++ rest) (4 * j + 3) 0 ≡ (get_or table j no_row).source
  unfolding half_named marks
  half_source [] j h = absurd (omega arith)
  half_source (a ∷ more) zero h = refl
  half_source (a ∷ more) (suc j) h = rw (four j 3) (half_source more j (omega arith))

  half_set : (table : List Appearance) (j : ℕ) → j < length table → set (half_named j table ++ rest) (4 * j + 3) (get_or table j no_row).origin ≡ half_named (suc j) table ++ rest
  unfolding half_named marks
  half_set [] j h = absurd (omega arith)
  half_set (a ∷ more) zero h = refl
  half_set (a ∷ more) (suc j) h =
      rw (four j 3) (ap (λ l. a.selector.file ∷ a.selector.offset ∷ a.selector.len ∷ a.origin ∷ l) (half_set more j (omega arith)))

-- The pass that names records stands at entry j.
pub record Naming (own : ℕ) (t : Tables) (before : List ℕ) (count j : ℕ) (result : List ℕ) : Type 0 where
  pub within : j ≤ count
  pub same : length result ≡ length before
  pub half : (old : List ℕ) (table : List Appearance) → Holds old table count before → Origins own t table → result ≡ half_named j table ++ drop (4 * count) old

module _ (own : ℕ) (t : Tables) (before : List ℕ) (count : ℕ) where
  pub naming_start : Naming own t before count 0 before
  unfolding half_named
  naming_start = record { within = omega arith; same = refl; half = λ old table h o. h.stored }

  module _ {j : ℕ} {result : List ℕ} (w : Naming own t before count j result) where
    pub naming_next : j < count → {v : ℕ} → v ≡ origin_of own t (get_or result (4 * j + 3) 0) → Naming own t before count (j + 1) (set result (4 * j + 3) v)
    naming_next l {v} e = record {
      within = omega arith;
      same = simp length-set w.same;
      half = λ old table h o.
          let k : j < length table = omega (arith, h.many) in
          let r = w.half old table h o in
          let n : v ≡ (get_or table j no_row).origin =
          e ∙ ap (origin_of own t) (ap (λ x. get_or x (4 * j + 3) 0) r ∙ half_source (drop (4 * count) old) table j k) ∙ sym (o (get_or table j no_row) (in_at table j k)) in
          rw n (ap (λ x. set x (4 * j + 3) (get_or table j no_row).origin) r ∙ half_set (drop (4 * count) old) table j k ∙ ap (λ i. half_named i table ++ drop (4 * count) old) (sym (add-one j)));
    }

    pub naming_end : count ≤ j → Named own t before count result
    naming_end l = record {
      same = w.same;
      named = λ old table h o.
          let q : j ≡ length table = omega (arith, w.within, h.many) in
          w.half old table h o ∙ ap (λ i. half_named i table ++ drop (4 * count) old) q ∙ ap (λ x. x ++ drop (4 * count) old) (all_named table);
    }

-- The record of a source.
module _ (own : ℕ) (t : Tables) (n : ℕ) where
  pub origin_own : n ≡ 0 → own ≡ origin_of own t n
  unfolding origin_of
  origin_own e = sym (choose_true _ _ (eq-eqb n 0 e))

  pub origin_slot : (n ≡ 0 → ⊥) → or_none (listed_at t (n - 1)) ≡ origin_of own t n
  unfolding origin_of
  origin_slot e = sym (choose_false _ _ (ne_eqb n 0 e))
