-- Where no lookup can be refused: the classes that decode, as rows, and what each alone is told.
use Prim.Native.Nat.{ℕ, zero, suc, ◌+◌, ◌*◌, ◌/◌, ◌≤◌, ◌<◌}
use mathlib.Core.Path.{◌≡◌, refl, sym, ap, ◌∙◌}
use mathlib.Core.Bool.{Bool, true, false}
use mathlib.Core.List.{List, [], ◌∷◌, ◌++◌, map, flat_map, append-nil}
use native.Mathlib.Omega.{arith}
use lib.ListN.{length, get_or, take, drop, length-append, length-take, drop_of_length-le}
use Rattle.std.proofs.lemmas.List.{get_or-take}
use lib.Seq.{drop_at}
use Rattle.reads.specs.Outcome.{Outcome, value, absent, refused, and_then, choose, Unrefused, a_value, an_absence}
use Rattle.reads.specs.Table.{records}
use Rattle.reads.specs.declared.answer.Reason.{Reason}
use Rattle.pointers.specs.Tables.{Tables, under, reading_new, rebase_words, chains}
use Rattle.pointers.specs.Question.{asked, asked_lent, asked_tables, asked_index}
use Rattle.walks.specs.Gather.{gather, present}
use Rattle.pointers.proofs.Rooms.{asked_index_lem}
use Rattle.reads.proofs.Outcomes.{then_came}
use Rattle.records.specs.Class.{class_at}
use Rattle.records.specs.declared.class.ObjcClass.{ObjcClass}
use Rattle.ancestry.specs.Chain.{looping}
use Rattle.ancestry.specs.Ancestry.{up_in, limit, ancestry_of, row_of, row_words, words_of, ancestries, written_by}
use Rattle.ancestry.specs.Filling.{through, unfollowed_of, told_of, tally, rows_left, Fits, Counted}
use Rattle.ancestry.specs.Rebases.{chains_fall}
use Rattle.ancestry.specs.Doubling.{node_at}
use Rattle.ancestry.specs.Following.{Unfollowed}
use Rattle.ancestry.specs.declared.class_chain.Ancestry.{Ancestry}
use Rattle.ancestry.specs.declared.class_chain.Row.{Row}
use Rattle.ancestry.proofs.Fillings.{length_records}
use Rattle.ancestry.proofs.Falling.{class_falls, up_falls}
use Rattle.ancestry.proofs.OpenedClasses.{climb_value}

pub index_room : (t : Tables) → asked t ≡ value tt → 2 * chains + records rebase_words t.rebases ≤ length t.index
unfolding asked_lent
index_room t e =
    let r = then_came (asked_tables (under reading_new t)) (λ _. asked_index (under reading_new t)) tt e in
    omega (arith, asked_index_lem (under reading_new t) tt r.2)

-- Rows and records, one by one.
data Paired (t : Tables) : List Row → List Ancestry → Type 0 where
  none : Paired t [] []
  more : {y : Row} {x : Ancestry} {ys : List Row} {xs : List Ancestry} (c : ObjcClass) → class_at t y.third false ≡ value c → ancestry_of t y.third ≡ value x
      → Paired t ys xs → Paired t (y ∷ ys) (x ∷ xs)

record Both (t : Tables) (addresses : List ℕ) : Type 0 where
  ys : List Row
  xs : List Ancestry
  rows : through (unfollowed_of t) addresses ≡ value ys
  told : through (ancestry_of t) addresses ≡ value xs
  pairs : Paired t ys xs

paired_length : (t : Tables) {ys : List Row} {xs : List Ancestry} → Paired t ys xs → length ys ≡ length xs
paired_length t none = refl
paired_length t (more c e f r) = ap suc (paired_length t r)

paired_class : (t : Tables) {ys : List Row} {xs : List Ancestry} → Paired t ys xs → (i : ℕ) → i < length ys
    → (c : ObjcClass) × (class_at t (get_or ys i (row_of looping)).third false ≡ value c)
paired_class t none i h = absurd (omega arith)
paired_class t (more c e f r) zero h = (c, e)
paired_class t (more c e f r) (suc i) h = paired_class t r i (omega arith)

paired_alone : (t : Tables) {ys : List Row} {xs : List Ancestry} → Paired t ys xs → (i : ℕ) → i < length ys
    → ancestry_of t (get_or ys i (row_of looping)).third ≡ value (get_or xs i looping)
paired_alone t none i h = absurd (omega arith)
paired_alone t (more c e f r) zero h = f
paired_alone t (more c e f r) (suc i) h = paired_alone t r i (omega arith)

-- The third word of row i.
row_node : (ys : List Row) (rest : List ℕ) (i : ℕ) → i < length ys → node_at (flat_map row_words ys ++ rest) i ≡ (get_or ys i (row_of looping)).third
unfolding flat_map
row_node [] rest i h = absurd (omega arith)
row_node (y ∷ ys) rest zero h = refl
row_node (y ∷ ys) rest (suc i) h =
    let e : suc i * 3 + 2 ≡ suc (suc (suc (i * 3 + 2))) = omega arith in
    rw e (row_node ys rest i (omega arith))

module _ (t : Tables) (falls : chains_fall t.rebases t.index ≡ true) where
  both_one : (a : ℕ) (rest : List ℕ) (c : ObjcClass) → class_at t a false ≡ value c → Both t rest → Both t (a ∷ rest)
  unfolding gather unfollowed_of ancestry_of
  both_one a rest c e b =
      let x = climb_value (up_in t) (up_falls t falls) (limit t) a 0 0 in
      let own : ancestry_of t a ≡ value x.0 = rw e x.1 in
      record {
        ys = record { first = 0; second = 0; third = a } ∷ b.ys;
        xs = x.0 ∷ b.xs;
        rows = rw (e, b.rows);
        told = rw (e, x.1, b.told);
        pairs = more c e own b.pairs;
      }

  both_none : (a : ℕ) (rest : List ℕ) {r : Reason} → class_at t a false ≡ absent r → Both t rest → Both t (a ∷ rest)
  unfolding gather unfollowed_of ancestry_of
  both_none a rest e b = record { ys = b.ys; xs = b.xs; rows = rw (e, b.rows); told = rw (e, b.told); pairs = b.pairs }

  both : (addresses : List ℕ) → Both t addresses
  both [] = unfold gather in record { ys = []; xs = []; rows = refl; told = refl; pairs = none }
  both (a ∷ rest) = go refl (class_falls t falls a false) (both rest)
    where
      go : {p : Outcome ObjcClass} → class_at t a false ≡ p → Unrefused p → Both t rest → Both t (a ∷ rest)
      go e (a_value c) b = both_one a rest c e b
      go e (an_absence r) b = both_none a rest e b

  tally_unfollowed : (addresses : List ℕ) → tally (unfollowed_of t) 0 addresses ≡ tally (ancestry_of t) 0 addresses
  unfolding tally
  tally_unfollowed addresses = let b = both addresses in rw (b.rows, b.told, paired_length t b.pairs)

  -- What the first writing leaves.
  module _ (addresses out new : List ℕ) (count : ℕ) (e : value count ≡ tally (unfollowed_of t) 0 addresses) (room : count ≤ length out / 3)
      (n : new ≡ rows_left (through (unfollowed_of t) addresses) out) where
    size : length (both addresses).ys ≡ count
    unfolding tally
    size =
        let b = both addresses in
        let f : value count ≡ value (0 + length b.ys) = e ∙ rw b.rows in
        let g : count ≡ 0 + length b.ys = cc in
        omega arith

    left : new ≡ flat_map row_words (both addresses).ys ++ drop (length (both addresses).ys * 3) out
    left = n ∙ rw (both addresses).rows

    pub unfollowed : Unfollowed t count new
    unfollowed =
        let b = both addresses in
        let s = size in
        record {
          told = b.xs;
          size = sym (paired_length t b.pairs) ∙ s;
          room = rw left (simp (length-append) (omega (arith, length_records b.ys, s, length_drop_is (length b.ys * 3))));
          class = λ i h. rw (left, row_node b.ys _ i (rw s h)) (paired_class t b.pairs i (rw s h));
          alone = λ i h. rw (left, row_node b.ys _ i (rw s h)) (paired_alone t b.pairs i (rw s h));
        }
      where
        length_drop_is : (k : ℕ) → 0 ≤ length (drop k out)
        length_drop_is k = omega arith

    pub unfollowed_tail : drop (count * 3) new ≡ drop (count * 3) out
    unfollowed_tail =
        let b = both addresses in
        let s = size in
        let k : length (flat_map row_words b.ys) ≡ count * 3 = omega (arith, length_records b.ys) in
        let l : length b.ys * 3 ≡ count * 3 = omega arith in
        ap (drop (count * 3)) left ∙ drop_at (flat_map row_words b.ys) (drop (length b.ys * 3) out) (count * 3) k ∙ ap (λ (m : ℕ). drop m out) l

    pub unfollowed_told : (new' : List ℕ) → new' ≡ flat_map words_of unfollowed.told ++ drop (count * 3) new → new' ≡ (written_by (ancestries t addresses) out).result
    unfolding unfollowed
    unfollowed_told new' f =
        let b = both addresses in
        let s : length b.xs ≡ count = sym (paired_length t b.pairs) ∙ size in
        rw (b.told, s) (f ∙ rw unfollowed_tail)

-- Records alone, as rows.
abbrev as_rows : (ℕ → Outcome Ancestry) → ℕ → Outcome Row
as_rows f a = and_then (f a) (λ x. value (row_of x))

through_rows : (f : ℕ → Outcome Ancestry) (addresses : List ℕ) → through (as_rows f) addresses ≡ and_then (through f addresses) (λ xs. value (map row_of xs))
unfolding gather
through_rows f [] = refl
through_rows f (a ∷ rest) = go (f a) (through f rest) (through_rows f rest)
  where
    go : (o : Outcome Ancestry) (p : Outcome (List Ancestry)) → through (as_rows f) rest ≡ and_then p (λ xs. value (map row_of xs))
        → and_then (present (and_then o (λ x. value (row_of x)))) (λ xs. and_then (through (as_rows f) rest) (λ ys. value (xs ++ ys)))
        ≡ and_then (and_then (present o) (λ xs. and_then p (λ ys. value (xs ++ ys)))) (λ xs. value (map row_of xs))
    go (value x) (value ys) e = rw e
    go (value x) (absent r) e = rw e
    go (value x) (refused k) e = rw e
    go (absent q) (value ys) e = rw e
    go (absent q) (absent r) e = rw e
    go (absent q) (refused k) e = rw e
    go (refused j) p e = refl

length_rows : (xs : List Ancestry) → length (map row_of xs) ≡ length xs
length_rows [] = refl
length_rows (x ∷ xs) = ap suc (length_rows xs)

words_rows : (xs : List Ancestry) → flat_map row_words (map row_of xs) ≡ flat_map words_of xs
unfolding flat_map
words_rows [] = refl
words_rows (x ∷ xs) = ap (λ (l : List ℕ). words_of x ++ l) (words_rows xs)

tally_rows : (f : ℕ → Outcome Ancestry) (addresses : List ℕ) → tally (as_rows f) 0 addresses ≡ tally f 0 addresses
unfolding tally
tally_rows f addresses = rw (through_rows f addresses) (go (through f addresses))
  where
    go : (p : Outcome (List Ancestry)) → and_then (and_then p (λ xs. value (map row_of xs))) (λ xs. value (0 + length xs)) ≡ and_then p (λ xs. value (0 + length xs))
    go (value xs) = rw (length_rows xs)
    go (absent r) = refl
    go (refused k) = refl

rows_left_rows : (f : ℕ → Outcome Ancestry) (addresses out : List ℕ) → rows_left (through (as_rows f) addresses) out ≡ (written_by (through f addresses) out).result
rows_left_rows f addresses out = rw (through_rows f addresses) (go (through f addresses))
  where
    go : (p : Outcome (List Ancestry)) → rows_left (and_then p (λ xs. value (map row_of xs))) out ≡ (written_by p out).result
    go (value xs) = rw (words_rows xs, length_rows xs)
    go (absent r) = refl
    go (refused k) = refl

-- The first writing, whichever it is.
pub told_tally : (t : Tables) (together : Bool) (addresses : List ℕ) → together ≡ chains_fall t.rebases t.index
    → tally (told_of t together) 0 addresses ≡ tally (ancestry_of t) 0 addresses
unfolding told_of choose
told_tally t true addresses e = tally_unfollowed t (sym e) addresses
told_tally t false addresses e = tally_rows (ancestry_of t) addresses

pub told_fits : (one : ℕ → Outcome Row) (count : ℕ) (addresses out : List ℕ) → value count ≡ tally one 0 addresses → count ≤ length out / 3
    → Fits one addresses out
unfolding tally
told_fits one count addresses out e room =
    let r = then_came (through one addresses) (λ xs. value (0 + length xs)) count (sym e) in
    record { all = r.0; told = r.1; room = omega (arith, size r.0 r.2) }
  where
    size : (xs : List Row) → value (0 + length xs) ≡ value count → length xs ≡ count
    size xs f = let g : 0 + length xs ≡ count = cc in omega arith

-- The rows alone, without the rest of the buffer.
module _ (t : Tables) (count : ℕ) (new : List ℕ) where
  node_taken : (i : ℕ) → i < count → node_at (take (count * 3) new) i ≡ node_at new i
  node_taken i h = get_or-take (count * 3) new (i * 3 + 2) 0 (omega arith)

  pub rows_alone : Unfollowed t count new → (n : ℕ) → n ≡ count → Unfollowed t n (take (count * 3) new)
  rows_alone s n e =
      record {
        told = s.told;
        size = s.size ∙ sym e;
        room = omega (arith, s.room, length-take (count * 3) new);
        class = λ i h. rw (node_taken i (omega arith)) (s.class i (omega arith));
        alone = λ i h. rw (node_taken i (omega arith)) (s.alone i (omega arith));
      }

  pub alone_told : (s : Unfollowed t count new) (n : ℕ) → n ≡ count → (last : List ℕ)
      → ((r : Unfollowed t n (take (count * 3) new)) → last ≡ flat_map words_of r.told ++ drop (n * 3) (take (count * 3) new)) → last ≡ flat_map words_of s.told
  unfolding rows_alone
  alone_told s n e last f =
      let none : drop (n * 3) (take (count * 3) new) ≡ [] = drop_of_length-le (take (count * 3) new) {i = n * 3} (omega (arith, length-take (count * 3) new)) in
      f (rows_alone s n e) ∙ ap (λ l. flat_map words_of s.told ++ l) none ∙ append-nil (flat_map words_of s.told)

-- The filling, as the code has it.
pub fill_alone : (t : Tables) (together : Bool) (addresses out new : List ℕ) → together ≡ false → new ≡ rows_left (through (told_of t together) addresses) out
    → new ≡ (written_by (ancestries t addresses) out).result
unfolding told_of choose
fill_alone t true addresses out new e n = let z : ◌≡◌ {A = ℕ} 0 1 = cc in absurd (omega arith)
fill_alone t false addresses out new e n = n ∙ rows_left_rows (ancestry_of t) addresses out

pub fill_falls : (t : Tables) (together : Bool) (count : ℕ) (addresses out : List ℕ) → Counted t together count addresses out → together ≡ true
    → chains_fall t.rebases t.index ≡ true
fill_falls t together count addresses out w e = sym w.falls ∙ e

module _ (t : Tables) (addresses out new : List ℕ) (count : ℕ) where
  by_together : (together : Bool) → Counted t together count addresses out → together ≡ true → value count ≡ tally (unfollowed_of t) 0 addresses
  unfolding told_of choose
  by_together true w e = w.counted
  by_together false w e = let z : ◌≡◌ {A = ℕ} 0 1 = cc in absurd (omega arith)

  by_new : (together : Bool) → together ≡ true → new ≡ rows_left (through (told_of t together) addresses) out
      → new ≡ rows_left (through (unfollowed_of t) addresses) out
  unfolding told_of choose
  by_new true e n = n
  by_new false e n = let z : ◌≡◌ {A = ℕ} 0 1 = cc in absurd (omega arith)

pub fill_unfollowed : (t : Tables) (together : Bool) (count : ℕ) (addresses out new : List ℕ) → Counted t together count addresses out → together ≡ true
    → new ≡ rows_left (through (told_of t together) addresses) out → Unfollowed t count new
fill_unfollowed t together count addresses out new w e n =
    unfollowed t (fill_falls t together count addresses out w e) addresses out new count (by_together t addresses out new count together w e) w.room
    (by_new t addresses out new count together e n)

pub fill_told : (t : Tables) (together : Bool) (count : ℕ) (addresses out new : List ℕ) → Counted t together count addresses out → together ≡ true
    → new ≡ rows_left (through (told_of t together) addresses) out → (last : List ℕ)
    → ((s : Unfollowed t count new) → last ≡ flat_map words_of s.told ++ drop (count * 3) new)
    → last ≡ (written_by (ancestries t addresses) out).result
fill_told t together count addresses out new w e n last f =
    let falls = fill_falls t together count addresses out w e in
    let counted = by_together t addresses out new count together w e in
    let kept = by_new t addresses out new count together e n in
    unfollowed_told t falls addresses out new count counted w.room kept last (f (unfollowed t falls addresses out new count counted w.room kept))
