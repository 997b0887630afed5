-- The three theorems on the effective methods: each selector once, the row that stands, the order.
use Prim.Native.Nat.{ℕ, ◌<◌, ◌≤◌}
use mathlib.Core.Path.{◌≡◌, refl, ap, sym, subst, ◌∙◌}
use mathlib.Core.Bool.{Bool, true, false, ◌&&◌, ◌||◌, and-false}
use mathlib.Core.List.Memᴰ
use mathlib.Core.List.{List, [], ◌∷◌}
use mathlib.Core.Logic.{◌⊎◌, inl, inr, ⊎_elim}
use native.Mathlib.Omega.{arith}
use lib.Dec.{eqb, ltb}
use borrow.Author.Tests.{eq-eqb, eqb-true, ltb-true, ltb-false}
use Rattle.reads.specs.Outcome.{Outcome, value, choose}
use Rattle.reads.proofs.Outcomes.{then_came}
use Rattle.reads.proofs.Tests.{by_choose, both_true}
use Rattle.pointers.specs.Tables.{Tables}
use Rattle.pointers.specs.Question.{asked}
use Rattle.records.specs.Class.{class_at}
use Rattle.records.specs.declared.class.ObjcClass.{ObjcClass}
use Rattle.records.specs.declared.category.ObjcCategory.{ObjcCategory}
use Rattle.walks.specs.PlainSections.{plain_categories}
use Rattle.dispatch.specs.declared.sources.Side.{Side}
use Rattle.dispatch.specs.declared.rows.Appearance.{Appearance}
use Rattle.dispatch.specs.Appearances.{appearances}
use Rattle.dispatch.specs.Dispatch.{same_bytes, same_selector, comes_before, has_earlier, firsts, supersedes, standing, standing_for, effective_of, effective_among, effective}
use Rattle.dispatch.specs.Claims.{In, bytes_of, Ordered, ordered_none, ordered_next, Once, once_none, once_next, First, Stands, ByFirst, first_none, first_next}
use Rattle.dispatch.proofs.Places.{before_made, before_false_made, before_true, before_false, in_cons, appearances_ordered}

pub never : {X : Type 0} → true ≡ false → X
never e = let z : ◌≡◌ {A = ℕ} 0 1 = cc in absurd (omega arith)

-- The test on bytes is their equality.
equal : (a b : List ℕ) → same_bytes a b ≡ true → a ≡ b
unfolding same_bytes
equal [] [] e = refl
equal [] (y ∷ b) e = never (sym e)
equal (x ∷ a) [] e = never (sym e)
equal (x ∷ a) (y ∷ b) e =
    let w = both_true (eqb x y) (same_bytes a b) e in
    let p = eqb-true x y w.0 in
    let q = equal a b w.1 in
    cc

pub same_self : (a : List ℕ) → same_bytes a a ≡ true
unfolding same_bytes
same_self [] = refl
same_self (x ∷ a) = rw (eq-eqb x x refl) (same_self a)

or_left : (x y : Bool) → x ≡ true → (x || y) ≡ true
or_left x y e = rw e

or_right : (x y : Bool) → y ≡ true → (x || y) ≡ true
or_right true y e = refl
or_right false y e = e

pub or_none : (x y : Bool) → (x || y) ≡ false → (x ≡ false) × (y ≡ false)
or_none true y e = never e
or_none false y e = (refl, e)

module _ (files : List (List ℕ)) where
  pub same_bytes_lem : (a b : Appearance) → same_selector files a.selector b.selector ≡ true → bytes_of files a ≡ bytes_of files b
  unfolding same_selector
  same_bytes_lem a b e = equal _ _ e

  pub bytes_same : (a b : Appearance) → bytes_of files a ≡ bytes_of files b → same_selector files a.selector b.selector ≡ true
  unfolding same_selector
  bytes_same a b e = rw (← e) (same_self (bytes_of files a))

  -- has_earlier says whether a row before a has its bytes.
  pub earlier_some : (a b : Appearance) (rows : List Appearance) → In b rows → comes_before b a ≡ true → bytes_of files a ≡ bytes_of files b → has_earlier files a rows ≡ true
  unfolding has_earlier
  earlier_some a b [] m f e = absurd (Memᴰ.not-nil m)
  earlier_some a b (x ∷ rows) (Memᴰ.head q) f e =
      let u : comes_before x a ≡ true = rw (← q) f in
      let v : same_selector files a.selector x.selector ≡ true = bytes_same a x (e ∙ ap (bytes_of files) q) in
      or_left (comes_before x a && same_selector files a.selector x.selector) (has_earlier files a rows) (rw (u, v))
  earlier_some a b (x ∷ rows) (Memᴰ.tail m) f e =
      or_right (comes_before x a && same_selector files a.selector x.selector) (has_earlier files a rows) (earlier_some a b rows m f e)

  pub earlier_none : (a : Appearance) (rows : List Appearance) → has_earlier files a rows ≡ false → (b : Appearance) → In b rows → bytes_of files a ≡ bytes_of files b → comes_before b a ≡ false
  earlier_none a rows h b m e = go (comes_before b a) refl
    where
      go : (t : Bool) → comes_before b a ≡ t → comes_before b a ≡ false
      go true f = never (sym (earlier_some a b rows m f e) ∙ h)
      go false f = f

  pub none_earlier : (a : Appearance) (rows : List Appearance) → ((b : Appearance) → In b rows → bytes_of files a ≡ bytes_of files b → comes_before b a ≡ false) → has_earlier files a rows ≡ false
  unfolding has_earlier
  none_earlier a [] f = refl
  none_earlier a (x ∷ rows) f =
      let d : (comes_before x a && same_selector files a.selector x.selector) ≡ false = go (same_selector files a.selector x.selector) refl in
      rw d (none_earlier a rows (λ b m. f b (Memᴰ.tail m)))
    where
      go : (t : Bool) → same_selector files a.selector x.selector ≡ t → (comes_before x a && t) ≡ false
      go true e = rw (f x (Memᴰ.head refl) (same_bytes_lem a x e))
      go false e = and-false (comes_before x a)

  module _ (all : List Appearance) where
    -- The first rows.
    pub firsts_in : (rows : List Appearance) (a : Appearance) → In a (firsts files all rows) → In a rows × (has_earlier files a all ≡ false)
    unfolding firsts
    firsts_in [] a = λ m. absurd (Memᴰ.not-nil m)
    firsts_in (x ∷ rows) a =
        by_choose (λ l. In a l → In a (x ∷ rows) × (has_earlier files a all ≡ false))
        (λ _ m. let d = firsts_in rows a m in (Memᴰ.tail d.0, d.1))
        (λ e. in_cons (λ a. In a (x ∷ rows) × (has_earlier files a all ≡ false)) (Memᴰ.head refl, e)
        (λ b m. let d = firsts_in rows b m in (Memᴰ.tail d.0, d.1)) a)

    in_firsts : (rows : List Appearance) (a : Appearance) → In a rows → has_earlier files a all ≡ false → In a (firsts files all rows)
    unfolding firsts
    in_firsts [] a m h = absurd (Memᴰ.not-nil m)
    in_firsts (x ∷ rows) a (Memᴰ.head q) h =
        by_choose (λ l. In a l) (λ e. never (sym e ∙ ap (λ b. has_earlier files b all) (sym q) ∙ h)) (λ _. Memᴰ.head q)
    in_firsts (x ∷ rows) a (Memᴰ.tail m) h =
        by_choose (λ l. In a l) (λ _. in_firsts rows a m h) (λ _. Memᴰ.tail (in_firsts rows a m h))

    pub firsts_ordered : (rows : List Appearance) → Ordered rows → Ordered (firsts files all rows)
    unfolding firsts
    firsts_ordered [] ordered_none = ordered_none
    firsts_ordered (x ∷ rows) (ordered_next f o) =
        by_choose Ordered (λ _. firsts_ordered rows o) (λ _. ordered_next (λ b m. f b (firsts_in rows b m).0) (firsts_ordered rows o))

    pub first_row : (a : Appearance) → In a (firsts files all all) → First files all a
    first_row a m = let d = firsts_in all a m in record { listed = d.0; earliest = earlier_none a all d.1 }

    pub first_among : (a : Appearance) → First files all a → In a (firsts files all all)
    first_among a f = in_firsts all a f.listed (none_earlier a all f.earliest)

    -- Two rows that are first of one selector stand at one place.
    one_place : (a b : Appearance) → First files all a → First files all b → bytes_of files a ≡ bytes_of files b → (a.source ≡ b.source) × (a.entry ≡ b.entry)
    one_place a b f g e =
        let u = before_false b a (f.earliest b g.listed e) in
        let v = before_false a b (g.earliest a f.listed (sym e)) in
        let s : a.source ≡ b.source = omega (arith, u.0, v.0) in
        (s, omega (arith, u.1 (sym s), v.1 s))

    -- The row that stands has the bytes of the row that it stands for.
    pub standing_bytes : (rows : List Appearance) (a : Appearance) → bytes_of files (standing files a rows) ≡ bytes_of files a
    unfolding standing supersedes
    standing_bytes [] a = refl
    standing_bytes (b ∷ rows) a =
        by_choose (λ c. bytes_of files (standing files c rows) ≡ bytes_of files a)
        (λ e. standing_bytes rows b ∙ sym (same_bytes_lem a b (both_true (ltb a.source b.source) (same_selector files a.selector b.selector) e).1))
        (λ _. standing_bytes rows a)

    standing_in : (rows : List Appearance) (a : Appearance) → In a rows → In (standing files a all) (standing_for files all rows)
    unfolding standing_for
    standing_in [] a m = absurd (Memᴰ.not-nil m)
    standing_in (x ∷ rows) a (Memᴰ.head q) = Memᴰ.head (ap (λ b. standing files b all) q)
    standing_in (x ∷ rows) a (Memᴰ.tail m) = Memᴰ.tail (standing_in rows a m)

    pub in_standing : (rows : List Appearance) (r : Appearance) → In r (standing_for files all rows) → (a : Appearance) × (In a rows) × (r ≡ standing files a all)
    unfolding standing_for
    in_standing [] r m = absurd (Memᴰ.not-nil m)
    in_standing (x ∷ rows) r (Memᴰ.head q) = (x, Memᴰ.head refl, q)
    in_standing (x ∷ rows) r (Memᴰ.tail m) = let d = in_standing rows r m in (d.0, Memᴰ.tail d.1, d.2)

    -- Rows that are each the first of their selector, in order, have each selector once; so have those that stand for them.
    once_firsts : (rows : List Appearance) → Ordered rows → ((a : Appearance) → In a rows → First files all a) → Once files (standing_for files all rows)
    unfolding standing_for
    once_firsts [] ordered_none f = once_none
    once_firsts (x ∷ rows) (ordered_next o more) f =
        once_next
        (λ r m e.
        let d = in_standing rows r m in
        let b = d.0 in
        let q : bytes_of files b ≡ bytes_of files x = sym (standing_bytes all b) ∙ ap (bytes_of files) (sym d.2) ∙ sym e ∙ standing_bytes all x in
        never (sym (o b d.1) ∙ (f b (Memᴰ.tail d.1)).earliest x (f x (Memᴰ.head refl)).listed q))
        (once_firsts rows more (λ a m. f a (Memᴰ.tail m)))

    by_firsts : (rows : List Appearance) → Ordered rows → ((a : Appearance) → In a rows → First files all a) → ByFirst files all (standing_for files all rows)
    unfolding standing_for
    by_firsts [] ordered_none f = first_none
    by_firsts (x ∷ rows) (ordered_next o more) f =
        first_next
        (λ a q b fa ea m fb eb.
        let d = in_standing rows q m in
        let y = d.0 in
        let fx = f x (Memᴰ.head refl) in
        let fy = f y (Memᴰ.tail d.1) in
        let p = one_place a x fa fx (ea ∙ standing_bytes all x) in
        let r = one_place b y fb fy (eb ∙ ap (bytes_of files) d.2 ∙ standing_bytes all y) in
        let w = before_true x y (o y d.1) in
        before_made a b (omega (arith, p.0, r.0, w.0)) (λ z. omega (arith, p.1, r.1, w.1 (sym p.0 ∙ z ∙ r.0))))
        (by_firsts rows more (λ a m. f a (Memᴰ.tail m)))

  -- What stands after a pass over rows that began with cur.
  record Best (bytes : List ℕ) (cur : Appearance) (rows : List Appearance) (r : Appearance) : Type 0 where
    came : (r ≡ cur) ⊎ In r rows
    above : cur.source ≤ r.source
    kept : r.source ≡ cur.source → r.entry ≤ cur.entry
    last : (b : Appearance) → In b rows → bytes ≡ bytes_of files b → b.source ≤ r.source
    first : (b : Appearance) → In b rows → bytes ≡ bytes_of files b → b.source ≡ r.source → r.entry ≤ b.entry

  module _ (bytes : List ℕ) where
    best_next : (b cur : Appearance) (rows : List Appearance) (r : Appearance) → cur.source < b.source → Best bytes b rows r → Best bytes cur (b ∷ rows) r
    best_next b cur rows r l w = record {
      came = inr (⊎_elim (λ e. Memᴰ.head e) (λ m. Memᴰ.tail m) w.came);
      above = omega (arith, w.above);
      kept = λ e. absurd (omega (arith, w.above));
      last = in_cons (λ x. bytes ≡ bytes_of files x → x.source ≤ r.source) (λ _. w.above) w.last;
      first = in_cons (λ x. bytes ≡ bytes_of files x → x.source ≡ r.source → r.entry ≤ x.entry) (λ _ e. w.kept (sym e)) w.first;
    }

    best_stay : (b cur : Appearance) (rows : List Appearance) (r : Appearance) → (bytes ≡ bytes_of files b → b.source ≤ cur.source)
        → (bytes ≡ bytes_of files b → b.source ≡ cur.source → cur.entry ≤ b.entry) → Best bytes cur rows r → Best bytes cur (b ∷ rows) r
    best_stay b cur rows r l f w = record {
      came = ⊎_elim (λ e. inl e) (λ m. inr (Memᴰ.tail m)) w.came;
      above = w.above;
      kept = w.kept;
      last = in_cons (λ x. bytes ≡ bytes_of files x → x.source ≤ r.source) (λ q. omega (arith, l q, w.above)) w.last;
      first = in_cons (λ x. bytes ≡ bytes_of files x → x.source ≡ r.source → r.entry ≤ x.entry)
          (λ q e.
          let s : b.source ≡ cur.source = omega (arith, l q, w.above) in
          let u : r.source ≡ cur.source = omega arith in
          omega (arith, f q s, w.kept u))
          w.first;
    }

    best : (rows : List Appearance) → Ordered rows → (cur : Appearance) → bytes ≡ bytes_of files cur
        → ((b : Appearance) → In b rows → bytes ≡ bytes_of files b → b.source ≡ cur.source → cur.entry ≤ b.entry) → Best bytes cur rows (standing files cur rows)
    unfolding standing supersedes choose
    best [] ordered_none cur e f = record { came = inl refl; above = omega arith; kept = λ _. omega arith; last = λ b m. absurd (Memᴰ.not-nil m); first = λ b m. absurd (Memᴰ.not-nil m) }
    best (b ∷ rows) (ordered_next o more) cur e f = go (ltb cur.source b.source) refl (same_selector files cur.selector b.selector) refl
        (λ q. best rows more b q (λ x m _ s. let d = before_true b x (o x m) in omega (arith, d.1 (sym s))))
        (best rows more cur e (λ x m. f x (Memᴰ.tail m)))
      where
        go : (t : Bool) → ltb cur.source b.source ≡ t → (u : Bool) → same_selector files cur.selector b.selector ≡ u
            → (bytes ≡ bytes_of files b → Best bytes b rows (standing files b rows)) → Best bytes cur rows (standing files cur rows)
            → Best bytes cur (b ∷ rows) (standing files (choose (t && u) b cur) rows)
        go true l true s w v = best_next b cur rows _ (ltb-true cur.source b.source l) (w (e ∙ same_bytes_lem cur b s))
        go true l false s w v = best_stay b cur rows _ (λ q. never (sym (bytes_same cur b (sym e ∙ q)) ∙ s)) (f b (Memᴰ.head refl)) v
        go false l u s w v = best_stay b cur rows _ (λ _. ltb-false cur.source b.source l) (f b (Memᴰ.head refl)) v

  -- Each row's selector has a first row.
  pub record Leader (rows : List Appearance) (x : Appearance) : Type 0 where
    pub leader : Appearance
    pub listed : In leader rows
    pub same : bytes_of files leader ≡ bytes_of files x
    pub earliest : (b : Appearance) → In b rows → bytes_of files leader ≡ bytes_of files b → comes_before b leader ≡ false

  pub leader_of : (rows : List Appearance) → Ordered rows → (x : Appearance) → In x rows → Leader rows x
  leader_of [] o x m = absurd (Memᴰ.not-nil m)
  leader_of (y ∷ rows) (ordered_next f o) x m = go (same_selector files y.selector x.selector) refl m (λ k. leader_of rows o x k)
    where
      after : (b : Appearance) → In b rows → comes_before b y ≡ false
      after b k = let d = before_true y b (f b k) in before_false_made b y d.0 (λ q. let z = d.1 (sym q) in omega arith)

      go : (t : Bool) → same_selector files y.selector x.selector ≡ t → In x (y ∷ rows) → (In x rows → Leader rows x) → Leader (y ∷ rows) x
      go true e k g = record {
        leader = y;
        listed = Memᴰ.head refl;
        same = same_bytes_lem y x e;
        earliest = in_cons (λ b. bytes_of files y ≡ bytes_of files b → comes_before b y ≡ false) (λ _. before_false_made y y (omega arith) (λ _. omega arith)) (λ b k _. after b k);
      }
      go false e (Memᴰ.head q) g = never (sym (bytes_same y x (ap (bytes_of files) (sym q))) ∙ e)
      go false e (Memᴰ.tail k) g =
          let w = g k in record {
            leader = w.leader;
            listed = Memᴰ.tail w.listed;
            same = w.same;
            earliest = in_cons (λ b. bytes_of files w.leader ≡ bytes_of files b → comes_before b w.leader ≡ false)
                (λ q. never (sym (bytes_same y x (sym q ∙ w.same)) ∙ e)) w.earliest;
          }

  -- Of rows in order.
  module _ (rows : List Appearance) (o : Ordered rows) where
    pub selectors_once : Once files (effective_of files rows)
    unfolding effective_of
    selectors_once = once_firsts rows (firsts files rows rows) (firsts_ordered rows rows o) (first_row rows)

    pub selectors_by_first : ByFirst files rows (effective_of files rows)
    unfolding effective_of
    selectors_by_first = by_firsts rows (firsts files rows rows) (firsts_ordered rows rows o) (first_row rows)

    pub selectors_stand : (r : Appearance) → In r (effective_of files rows) → Stands files rows r
    unfolding effective_of
    selectors_stand r m =
        let d = in_standing rows (firsts files rows rows) r m in
        let a = d.0 in
        let f = first_row rows a d.1 in
        let q : bytes_of files r ≡ bytes_of files a = ap (bytes_of files) d.2 ∙ standing_bytes rows rows a in
        let w : Best (bytes_of files a) a rows r =
        subst (λ (x : Appearance). Best (bytes_of files a) a rows x) (sym d.2)
        (best (bytes_of files a) rows o a refl (λ b k e s. (before_false b a (f.earliest b k e)).1 s)) in
        record {
          listed = ⊎_elim (λ e. Memᴰ.cast e f.listed) (λ k. k) w.came;
          last = λ b k e. w.last b k (sym q ∙ e);
          first = λ b k e. w.first b k (sym q ∙ e);
        }

    pub selectors_all : (a : Appearance) → In a rows → (r : Appearance) × (In r (effective_of files rows)) × (bytes_of files r ≡ bytes_of files a)
    unfolding effective_of
    selectors_all a m =
        let w = leader_of rows o a m in
        let f = first_among rows w.leader (record { listed = w.listed; earliest = w.earliest }) in
        (standing files w.leader rows, standing_in rows (firsts files rows rows) w.leader f, standing_bytes rows rows w.leader ∙ w.same)

-- Of the rows that take part, for any tables, side, class and listed categories.
module _ (t : Tables) (s : Side) (categories : List ObjcCategory) (c : ObjcClass) where
  abbrev pub rows_of : List Appearance
  rows_of = (appearances t s categories c).rows

  abbrev pub effects : List Appearance
  effects = effective_of t.files rows_of

  -- No two results have equal selectors; a selector is among them exactly if some row gives it.
  pub each_selector_once : Once t.files effects
      × ((r : Appearance) → In r effects → In r rows_of)
      × ((a : Appearance) → In a rows_of → (r : Appearance) × (In r effects) × (bytes_of t.files r ≡ bytes_of t.files a))
  each_selector_once =
      let o = appearances_ordered t s categories c in
      (selectors_once t.files rows_of o, λ r m. (selectors_stand t.files rows_of o r m).listed, selectors_all t.files rows_of o)

  -- Each result is the first row of its selector in the last source that has it.
  pub stands : (r : Appearance) → In r effects → Stands t.files rows_of r
  stands r m = selectors_stand t.files rows_of (appearances_ordered t s categories c) r m

  -- Results come by first appearance.
  pub as_first_met : ByFirst t.files rows_of effects
  as_first_met = selectors_by_first t.files rows_of (appearances_ordered t s categories c)

-- What a call hands out are the effects of the class that it decoded, with the categories that are listed.
pub effective_of_lem : (t : Tables) (s : Side) (va : ℕ) (es : List Appearance) → effective t s va ≡ value es
    → (c : ObjcClass) × (categories : List ObjcCategory) × (class_at t va false ≡ value c) × (plain_categories t ≡ value categories) × (es ≡ effects t s categories c)
unfolding effective effective_among
effective_of_lem t s va es e =
    let a = then_came (asked t) _ es e in
    let b = then_came (class_at t va false) _ es a.2 in
    let p = then_came (plain_categories t) _ es b.2 in
    let d = then_came (appearances t s p.0 b.0).end _ es p.2 in
    (b.0, p.0, b.1, p.1, same_list d.2)
  where
    same_list : {l : List Appearance} → ◌≡◌ {A = Outcome (List Appearance)} (value l) (value es) → es ≡ l
    same_list q = cc
