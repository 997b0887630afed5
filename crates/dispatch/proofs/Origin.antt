-- The record that a row came from, by the number of its source.
use Prim.Native.Nat.{ℕ, zero, suc, ◌-◌}
use mathlib.Core.Path.{◌≡◌, refl, ap, sym, subst, ◌∙◌}
use mathlib.Core.List.Memᴰ
use mathlib.Core.List.{List, [], ◌∷◌}
use native.Mathlib.Omega.{arith}
use Rattle.std.specs.Prelude.{Option, Some, None}
use Rattle.reads.specs.Outcome.{Outcome, value, absent, refused, and_then, choose}
use Rattle.reads.proofs.Outcomes.{then_came}
use Rattle.reads.proofs.Tests.{by_choose}
use Rattle.pointers.specs.Tables.{Tables, image_in}
use Rattle.pointers.specs.ImageInfo.{bit}
use Rattle.records.specs.Decode.{run, info, readable, slot, pointer_or0, string}
use Rattle.records.specs.Header.{category_size, category_size_with_class_properties, category_cls}
use Rattle.records.specs.Category.{decode_category_lists, decode_category_properties, decode_category, decode_category_of, category_at}
use Rattle.records.specs.declared.category.ObjcCategory.{ObjcCategory}
use Rattle.records.specs.List.{list_at, entry_address, entry}
use Rattle.records.specs.Search.{all_from, readables}
use Rattle.records.specs.Row.{row_at}
use Rattle.records.specs.declared.list.Layout.{Layout}
use Rattle.records.specs.declared.list.ListKind.TheVariants.{Methods}
use Rattle.records.specs.declared.row.Row.{Row}
use Rattle.records.specs.declared.row.Row.TheVariants as row
use Rattle.dispatch.specs.declared.sources.Side.{Side}
use Rattle.dispatch.specs.declared.sources.Source.{Source}
use Rattle.dispatch.specs.declared.rows.Appearance.{Appearance}
use Rattle.dispatch.specs.declared.rows.Position.{Position}
use Rattle.reads.specs.Text.{or_none}
use Rattle.dispatch.specs.SlotSources.{listed_at, taking, slot_source, slot_rows, slot_total}
use Rattle.dispatch.specs.Appearances.{Rows, adding, appearing, appearance, entry_rows, list_rows, source_rows, part_rows}
use Rattle.dispatch.specs.Claims.{In}
use Rattle.dispatch.specs.Position.{in_list, ahead}
use Rattle.dispatch.specs.Table.{origin_of, Origins}
use Rattle.dispatch.proofs.Places.{in_cons}
use Rattle.dispatch.proofs.SelectorTable.{origin_own, origin_slot}

-- What holds of every row.
unfoldable Every : (Appearance → Type 0) → Rows → Type 0
Every P r = (a : Appearance) → In a r.rows → P a

module _ (P : Appearance → Type 0) (t : Tables) (n origin : ℕ) (made : (a : Appearance) → a.source ≡ n → a.origin ≡ origin → P a) where
  adding_every : (j : ℕ) (o : Outcome Row) (rest : Rows) → Every P rest → Every P (adding (and_then o (appearing n origin j)) rest)
  unfolding Every
  adding_every j (value (row.Method m)) rest f = in_cons P (made (record { selector = m.selector; source = n; entry = j; origin = origin }) refl refl) f
  adding_every j (value (row.Ivar v)) rest f = f
  adding_every j (value (row.Property p)) rest f = f
  adding_every j (absent why) rest f = f
  adding_every j (refused k) rest f = λ a m. absurd (Memᴰ.not-nil m)

  entries_every : (h : Layout) (js : List ℕ) (rest : Rows) → Every P rest → Every P (entry_rows t n origin h js rest)
  unfolding entry_rows appearance
  entries_every h [] rest f = f
  entries_every h (j ∷ js) rest f = adding_every j (row_at t h.kind (entry_address h j)) (entry_rows t n origin h js rest) (entries_every h js rest f)

  list_every : (o : Outcome Layout) (rest : Rows) → Every P rest → Every P (list_rows t n origin o rest)
  unfolding list_rows Every
  list_every (value h) rest f = entries_every h (readables (image_in t) h) rest f
  list_every (absent why) rest f = f
  list_every (refused k) rest f = λ a m. absurd (Memᴰ.not-nil m)

-- A category has the address that it was decoded at: whatever is looked up before, the last step gives it.
abbrev Addressed : ℕ → Outcome ObjcCategory → Type 0
Addressed va (value c) = c.address ≡ va
Addressed va (absent why) = Unit {0}
Addressed va (refused k) = Unit {0}

then_addressed : {A : Type 0} (va : ℕ) (o : Outcome A) (f : A → Outcome ObjcCategory) → ((a : A) → Addressed va (f a)) → Addressed va (and_then o f)
then_addressed va (value a) f h = h a
then_addressed va (absent why) f h = tt
then_addressed va (refused k) f h = tt

category_addressed : (t : Tables) (va : ℕ) → Addressed va (category_at t va)
unfolding decode_category decode_category_of
category_addressed t va =
    then_addressed va (run t info) _ (λ i.
    then_addressed va (run t (readable va (choose (bit 6 i.flags) category_size_with_class_properties category_size))) _ (λ p.
    then_addressed va (run t (slot va)) _ (λ named.
    then_addressed va (run t (pointer_or0 va category_cls)) _ (λ class.
    then_addressed va (run t (decode_category_lists va)) _ (λ lists.
    then_addressed va (run t (decode_category_properties va (bit 6 i.flags))) _ (λ properties.
    then_addressed va (run t (string named)) _ (λ name. refl)))))))

pub category_address : (t : Tables) (va : ℕ) (c : ObjcCategory) → category_at t va ≡ value c → c.address ≡ va
category_address t va c e = subst (Addressed va) e (category_addressed t va)

module _ (t : Tables) (s : Side) (class own : ℕ) where
  unfoldable Right : Appearance → Type 0
  Right a = a.origin ≡ origin_of own t a.source

  source_every : (n : ℕ) (o : Outcome Source) (rest : Rows) → ((x : Source) → o ≡ value x → x.origin ≡ origin_of own t n) → Every Right rest → Every Right (source_rows t n o rest)
  unfolding source_rows Every Right
  source_every n (value x) rest g f =
      list_every Right t n x.origin (λ a p q. q ∙ g x refl ∙ ap (origin_of own t) (sym p)) (list_at t Methods x.list) rest f
  source_every n (absent why) rest g f = f
  source_every n (refused k) rest g f = λ a m. absurd (Memᴰ.not-nil m)

  part_every : (n : ℕ) (o : Outcome (Option Source)) (rest : Rows) → ((x : Source) → o ≡ value (Some x) → x.origin ≡ origin_of own t n) → Every Right rest
      → Every Right (part_rows t n o rest)
  unfolding Every Right
  part_every n (value (Some x)) rest g f = source_every n (value x) rest (λ y q. g y (ap (λ o. and_then o (λ z. value (Some z))) q)) f
  part_every n (value None) rest g f = f
  part_every n (absent why) rest g f = f
  part_every n (refused k) rest g f = λ a m. absurd (Memᴰ.not-nil m)

  taken_origin : (k va : ℕ) (c : ObjcCategory) (x : Source) → taking t s class k va c ≡ Some x → x.origin ≡ c.address
  unfolding taking
  taken_origin k va c x =
      by_choose (λ (o : Option Source). o ≡ Some x → x.origin ≡ c.address)
      (λ _. by_choose (λ (o : Option Source). o ≡ Some x → x.origin ≡ c.address) (λ _ q. no_source q) (λ _ q. ap (λ (y : Source). y.origin) (sym (same_source q))))
      (λ _ q. no_source q)
    where
      same_source : {y : Source} → ◌≡◌ {A = Option Source} (Some y) (Some x) → y ≡ x
      same_source q = cc

      no_source : {X : Type 0} → ◌≡◌ {A = Option Source} None (Some x) → X
      no_source q = let z : ◌≡◌ {A = ℕ} 0 1 = cc in absurd (omega arith)

  slot_origin : (k : ℕ) (x : Source) → slot_source t s class k ≡ value (Some x) → x.origin ≡ or_none (listed_at t k)
  unfolding slot_source
  slot_origin k x e =
      let a = then_came (listed_at t k) _ (Some x) e in
      let b = then_came (category_at t a.0) _ (Some x) a.2 in
      let taken : taking t s class k a.0 b.0 ≡ Some x = cc in
      taken_origin k a.0 b.0 x taken ∙ category_address t a.0 b.0 b.1 ∙ sym (ap or_none a.1)

  slots_every : (n k : ℕ) → Every Right (slot_rows t s class k n)
  unfolding slot_rows Every
  slots_every zero k = λ a m. absurd (Memᴰ.not-nil m)
  slots_every (suc n) k =
      let e : suc k - 1 ≡ k = omega arith in
      part_every (suc k) (slot_source t s class k) (slot_rows t s class (suc k) n)
      (λ x z. slot_origin k x z ∙ ap (λ (i : ℕ). or_none (listed_at t i)) (sym e) ∙ origin_slot own t (suc k) (λ q. omega arith))
      (slots_every n (suc k))

  -- From the first entry of source 0 on, whose record is `own`.
  pub origins_ahead : (start : Position) → start.source ≡ 0 → start.origin ≡ own → Origins own t (ahead t s class start).rows
  unfolding ahead in_list Every Right
  origins_ahead start z e =
      entries_every Right t start.source start.origin (λ a p q. q ∙ e ∙ origin_own own t a.source (p ∙ z)) start.list
      (all_from (entry (image_in t) start.list) (start.list.count - start.entry) start.entry)
      (slot_rows t s class start.source (slot_total t - start.source))
      (slots_every (slot_total t - start.source) start.source)
