-- The parts of a declared property put into a buffer: an item, a letter that may be given, the front letters, the rows.
use Prim.Native.Nat.{ℕ, ◌+◌, ◌≤◌, ◌<◌, ◌^◌}
use mathlib.Core.Path.{◌≡◌, refl, ap, sym, ◌∙◌}
use mathlib.Core.List.{List, [], ◌∷◌, ◌++◌, map, append_assoc, append-nil}
use native.Mathlib.Omega.{arith}
use native.Mathlib.Numerals.{add-one}
use lib.ListN.{length, take, get_or}
use lib.Seq.{take-suc}
use Rattle.std.proofs.lemmas.List.{take_all}
use Rattle.attributes.specs.Written.{Part, bytes_given, part_of, front_letters, back_letters, front_of, declaration_in, given, in_order, joined, written, items_in, written_text}
use Rattle.attributes.specs.Puts.{Put, Puts, comma_at, behind, item_at}
use Rattle.attributes.specs.declared.items.Item.{Item}
use Rattle.attributes.specs.declared.items.Value.{Value}
use Rattle.attributes.specs.declared.property.Declared.{Declared}
use Rattle.attributes.specs.declared.written.Out.{Out}
use Rattle.std.specs.List.{zip}
use Rattle.attributes.proofs.Puts.{put_then, put_parts, put_no_part, behind_one}
use Rattle.attributes.proofs.Rows.{rows_next, rows_end}
use Rattle.std.specs.Prelude.{Some, None, Option}

-- Parts, and then others behind them.
pub puts_parts : (ps qs : List Part) {o p q : Out} → length o.to.now < 2 ^ 63
    → Puts o (behind o.at ps) p → Puts p (behind p.at qs) q → Puts o (behind o.at (ps ++ qs)) q
puts_parts ps qs small a b = record { same = b.same ∙ a.same; put = put_parts ps qs small a.put b.put }

pub puts_no_part : (o : Out) → Puts o (behind o.at []) o
puts_no_part o = record { same = refl; put = put_no_part o.at o.to.now }

-- A comma, a key and a value.
pub puts_one : (p : Part) {o a b q : Out} → length o.to.now < 2 ^ 63
    → Puts o (comma_at o.at) a → Puts a (p.key ∷ []) b → Puts b p.value q → Puts o (behind o.at (p ∷ [])) q
puts_one p {o} small c k v =
    let put = put_then small (put_then small c.put k.put) v.put in
    record {
      same = v.same ∙ k.same ∙ c.same;
      put = rw (behind_one o.at p, ← append_assoc (comma_at o.at) (p.key ∷ []) p.value) put;
    }

-- A letter that is given, or not.
module _ (text : List ℕ) (letter : ℕ) {attribute : (Option Value)} {o : Out} where
  pub puts_given : {v : Value} {p : Out} → attribute ≡ Some v
      → Puts o (behind o.at (part_of text (record { key = letter; value = v }) ∷ [])) p
      → Puts o (behind o.at (given (letter ∷ []) (bytes_given text attribute ∷ []))) p
  unfolding given
  puts_given e p = rw e p

  pub puts_not_given : attribute ≡ None → Puts o (behind o.at (given (letter ∷ []) (bytes_given text attribute ∷ []))) o
  unfolding given
  puts_not_given e = rw e (puts_no_part o)

given_cons : (l : ℕ) (ls : List ℕ) (v : Option (List ℕ)) (vs : List (Option (List ℕ)))
    → given (l ∷ ls) (v ∷ vs) ≡ given (l ∷ []) (v ∷ []) ++ given ls vs
unfolding given
given_cons l ls None vs = refl
given_cons l ls (Some v) vs = refl

given_none : (ls : List ℕ) → given ls [] ≡ []
unfolding given
given_none [] = refl
given_none (l ∷ ls) = refl

-- The parts of letters, each with what is given of it.
pub parts_of : List ℕ → List (ℕ × Option Value) → List Part
parts_of text [] = []
parts_of text (p ∷ ps) = given (p.0 ∷ []) (bytes_given text p.1 ∷ []) ++ parts_of text ps

parts_append : (text : List ℕ) (ps qs : List (ℕ × Option Value)) → parts_of text (ps ++ qs) ≡ parts_of text ps ++ parts_of text qs
unfolding parts_of
parts_append text [] qs = refl
parts_append text (p ∷ ps) qs =
    ap (λ (l : List Part). given (p.0 ∷ []) (bytes_given text p.1 ∷ []) ++ l) (parts_append text ps qs)
    ∙ sym (append_assoc (given (p.0 ∷ []) (bytes_given text p.1 ∷ [])) (parts_of text ps) (parts_of text qs))

given_zip : (text ls : List ℕ) (vs : List (Option Value)) → given ls (map (bytes_given text) vs) ≡ parts_of text (zip ls vs)
unfolding parts_of
given_zip text [] vs = unfold given in refl
given_zip text (l ∷ ls) [] = unfold given in refl
given_zip text (l ∷ ls) (v ∷ vs) =
    given_cons l ls (bytes_given text v) (map (bytes_given text) vs)
    ∙ ap (λ (ps : List Part). given (l ∷ []) (bytes_given text v ∷ []) ++ ps) (given_zip text ls vs)

-- Some of the letters are put: i of them.
abbrev pub Lettered : List ℕ → List (ℕ × Option Value) → ℕ → Out → Out → Type 0
Lettered text all i o p = Puts o (behind o.at (parts_of text (take i all))) p

module _ (text : List ℕ) (all : List (ℕ × Option Value)) {o : Out} where
  pub lettered_start : Lettered text all 0 o o
  unfolding parts_of
  lettered_start = puts_no_part o

  pub lettered_next : {i : ℕ} {p q : Out} (d : ℕ × Option Value) → length o.to.now < 2 ^ 63 → i < length all → Lettered text all i o p
      → let e = get_or all i d in Puts p (behind p.at (given (e.0 ∷ []) (bytes_given text e.1 ∷ []))) q
      → Lettered text all (i + 1) o q
  unfolding parts_of
  lettered_next {i} {p} {q} d small h a b =
      let e = get_or all i d in
      let here = given (e.0 ∷ []) (bytes_given text e.1 ∷ []) in
      let one : parts_of text (e ∷ []) ≡ here = append-nil here in
      let on : parts_of text (take (i + 1) all) ≡ parts_of text (take i all) ++ here =
      ap (parts_of text) (rw add-one (take-suc all i d h)) ∙ parts_append text (take i all) (e ∷ []) ∙ ap (λ (l : List Part). parts_of text (take i all) ++ l) one in
      rw on (puts_parts (parts_of text (take i all)) here small a b)

  pub lettered_end : (d : Declared) {i : ℕ} {p : Out} → all ≡ zip front_letters (front_of d) → length all ≤ i → Lettered text all i o p
      → Puts o (behind o.at (given front_letters (map (bytes_given text) (front_of d)))) p
  lettered_end d {i} e h a =
      let whole : take i all ≡ zip front_letters (front_of d) = take_all i all h ∙ e in
      rw (given_zip text front_letters (front_of d), ← whole) a

-- Some of the rows are put, and the words of `rest` are left, in rows of `size` words.
pub record Rowing (text rows : List ℕ) (o : Out) (size : ℕ) (rest : List ℕ) (p : Out) : Type 0 where
  parts : List Part
  whole : parts ++ map (part_of text) (items_in (length rest) rest) ≡ map (part_of text) (items_in (length rows) rows)
  pub three : size ≡ 3
  pub put : Puts o (behind o.at parts) p

module _ (text rows : List ℕ) {o : Out} {size : ℕ} {rest : List ℕ} where
  pub rowing_start : rest ≡ rows → size ≡ 3 → Rowing text rows o size rest o
  rowing_start e z = record { parts = []; whole = rw e refl; three = z; put = puts_no_part o }

  module _ {p : Out} (at : Rowing text rows o size rest p) where
    pub rowing_next : {more : List ℕ} {n : ℕ} {i : Item} {q : Out} (row : List ℕ) → length o.to.now < 2 ^ 63 → rest ≡ row ++ more → length row ≡ size → n ≡ size
        → i ≡ item_at row → Puts p (behind p.at (part_of text i ∷ [])) q → Rowing text rows o n more q
    rowing_next {more} {n} {i} {q} row small e h z d b =
        let here = part_of text i ∷ [] in
        let next : items_in (length rest) rest ≡ i ∷ items_in (length more) more = rw d (rows_next row more e (h ∙ at.three)) in
        record {
          parts = at.parts ++ here;
          whole = append_assoc at.parts here (map (part_of text) (items_in (length more) more))
              ∙ ap (λ (is : List Item). at.parts ++ map (part_of text) is) (sym next) ∙ at.whole;
          three = z ∙ at.three;
          put = puts_parts at.parts here small at.put b;
        }

    pub rowing_end : length rest < size → Puts o (behind o.at (map (part_of text) (items_in (length rows) rows))) p
    rowing_end h =
        let none : items_in (length rest) rest ≡ [] = rows_end rest (omega (arith, at.three)) in
        let all : at.parts ≡ map (part_of text) (items_in (length rows) rows) =
        sym (append-nil at.parts) ∙ ap (λ (is : List Item). at.parts ++ map (part_of text) is) (sym none) ∙ at.whole in
        rw (← all) at.put

-- The front letters, the rows and V.
pub put_in_order : (text : List ℕ) (d : Declared) (rows : List ℕ) {front back to : ℕ} {out one two left : List ℕ} → length out < 2 ^ 63
    → Put (joined (given front_letters (map (bytes_given text) (front_of d)))) 0 out front one
    → Put (behind front (map (part_of text) (items_in d.unknown_count rows))) front one back two
    → Put (behind back (given back_letters (bytes_given text d.variable ∷ []))) back two to left
    → Put (written_text text d rows) 0 out to left
unfolding written_text written in_order declaration_in
put_in_order text d rows small f u v =
    let unknown = map (part_of text) (items_in d.unknown_count rows) in
    let variable = given back_letters (bytes_given text d.variable ∷ []) in
    put_parts (given front_letters (map (bytes_given text) (front_of d))) (unknown ++ variable) small f
    (put_parts unknown variable (omega (arith, f.same)) u v)

-- The same into a lent buffer, the rows cut to those that are counted.
pub puts_in_order : (text : List ℕ) (d : Declared) (rows cut : List ℕ) {o a b c : Out} → o.at ≡ 0 → length o.to.now < 2 ^ 63
    → Puts o (behind o.at (given front_letters (map (bytes_given text) (front_of d)))) a
    → items_in (length cut) cut ≡ items_in d.unknown_count rows
    → Puts a (behind a.at (map (part_of text) (items_in (length cut) cut))) b
    → Puts b (behind b.at (given back_letters (bytes_given text d.variable ∷ []))) c
    → Put (written_text text d rows) 0 o.to.now c.at c.to.now
puts_in_order text d rows cut z small f e u v = put_in_order text d rows small (rw z at f.put) (rw (← e) u.put) v.put
