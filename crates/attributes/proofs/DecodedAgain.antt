-- The three calls of a round trip: a property that decode_attributes gave and write_attributes wrote is what decode_attributes
-- gives of the written text, its values as bytes (note 1).
use Prim.Native.Nat.{ℕ, zero, suc, ◌+◌, ◌*◌, ◌%◌, ◌≤◌, ◌<◌}
use mathlib.Core.Path.{◌≡◌, refl, ap, sym, subst, ◌∙◌}
use mathlib.Core.Bool.{Bool, true, false}
use mathlib.Core.List.{List, [], ◌∷◌, ◌++◌}
use native.Mathlib.Omega.{arith}
use lib.Dec.{leb}
use lib.ListN.{length, get_or, take, drop, length-map}
use lib.Seq.{get_or-drop, take_at}
use borrow.Author.Tests.{leb-true, le-leb}
use Rattle.std.specs.Prelude.{Ok}
use Rattle.reads.specs.Outcome.{value, refused, and_then, choose}
use Rattle.reads.specs.Utf8.{verdict}
use Rattle.reads.proofs.Tests.{by_choose}
use Rattle.pointers.specs.Question.{question}
use Rattle.attributes.specs.Attributes.{value_length, item_of, items_from, items, items_fit, words, filled}
use Rattle.attributes.specs.Property.{unknowns, declared, declared_of, unknown_left}
use Rattle.attributes.specs.Written.{Declaration, part_of, declaration_in, declaration, written, items_in, written_text, written_of, written_left}
use Rattle.attributes.specs.RoundTrip.{Writable, decoded_as, written_by, Rewritten, DecodesTo}
use Rattle.attributes.specs.declared.items.Item.{Item}
use Rattle.attributes.specs.declared.property.Declared.{Declared}
use Rattle.attributes.proofs.AttributeAnswers.{Gave, gave, handed_value}
use Rattle.attributes.proofs.WrittenAnswers.{value_left}
use Rattle.attributes.proofs.RoundTrip.{text_round_trip}
use Rattle.attributes.proofs.Utf8Cuts.{accepts_bytes}
use Rattle.attributes.proofs.WrittenUtf8.{good_accepts, written_utf8}
use Rattle.reads.specs.declared.answer.Question.TheVariants.{ItemRoom}

-- Keys are bytes, so rows say the items whose words they are.
abbrev Bytes : List Item → Type 0
Bytes [] = Unit {0}
Bytes (i ∷ is) = (i.key < 0x100) × Bytes is

bytes_from : (n at : ℕ) (s : List ℕ) → ((k : ℕ) → get_or s k 0 < 0x100) → Bytes (items_from n at s)
unfolding items_from item_of
bytes_from zero at s b = tt
bytes_from (suc n) at [] b = tt
bytes_from (suc n) at (key ∷ s) b = (
  b 0,
  bytes_from n (at + 1 + value_length s + 1) (drop (value_length s + 1) s)
      (λ k. rw (get_or-drop (value_length s + 1) s k 0) (b (suc (value_length s + 1 + k)))),
)

bytes_unknown : (is : List Item) → Bytes is → Bytes (unknowns is)
unfolding unknowns
bytes_unknown [] b = tt
bytes_unknown (i ∷ is) b = by_choose Bytes (λ e. bytes_unknown is b.1) (λ e. (b.0, bytes_unknown is b.1))

rows_said : (is : List Item) (rest : List ℕ) → Bytes is → items_in (length is) (words is ++ rest) ≡ is
unfolding items_in words
rows_said [] rest b = refl
rows_said (i ∷ is) rest b =
    let byte : i.key % 256 ≡ i.key = omega (arith, b.0) in
    rw (byte, rows_said is rest b.1)

-- What decoding left in the buffer, over the text, is the property that the text declares.
module _ (text buffer : List ℕ) (good : verdict text ≡ Ok tt) (fits : items_fit (length (unknowns (items text))) (length buffer) ≡ true) where
  declared_value : declared_of text (length buffer) ≡ value (declared text)
  unfolding declared_of
  declared_value = handed_value text (unknowns (items text)) (declared text) (length buffer) good fits

  left_said : items_in (declared text).unknown_count (unknown_left text buffer) ≡ unknowns (items text)
  unfolding unknown_left filled declared items
  left_said =
      rw declared_value
      (rows_said (unknowns (items text)) _
      (bytes_unknown (items text) (bytes_from (length text) 0 text (λ k. accepts_bytes [] text k refl (good_accepts text good)))))

  decoded_as_lem : decoded_as text buffer (declared text) ≡ declaration text
  unfolding decoded_as declaration
  decoded_as_lem = ap (declaration_in text (declared text)) left_said

-- A text of the same declaration has as many unknown letters, so they fit too.
fits_again : (text t : List ℕ) (room more : ℕ) → declaration t ≡ declaration text → room ≤ more
    → items_fit (length (unknowns (items text))) room ≡ true → items_fit (length (unknowns (items t))) more ≡ true
unfolding declaration declaration_in items_fit
fits_again text t room more e h f =
    let count = ap (λ (d : Declaration). length d.unknown) e in
    let here = leb-true (3 * length (unknowns (items text))) room f in
    le-leb (3 * length (unknowns (items t))) more
    (omega (arith, length-map (unknowns (items t)) (part_of t), length-map (unknowns (items text)) (part_of text)))

-- Where a length comes back, the text fits, and it stands in front of the buffer.
wrote_whole : (text : List ℕ) (d : Declared) (rows out : List ℕ) (n : ℕ) → written_of text d rows (length out) ≡ value n
    → take n (written_left text d rows out) ≡ written_text text d rows
unfolding written_of question
wrote_whole text d rows out n e = go (leb (length (written_text text d rows)) (length out)) refl e
  where
    go : (t : Bool) → leb (length (written_text text d rows)) (length out) ≡ t
        → and_then (choose t (value tt) (refused ItemRoom)) (λ (_ : Unit {0}). value (length (written_text text d rows))) ≡ value n
        → take n (written_left text d rows out) ≡ written_text text d rows
    go true f q =
        let size : length (written_text text d rows) ≡ n = unfold choose in cc in
        rw (value_left text d rows out (leb-true (length (written_text text d rows)) (length out) f))
        (take_at (written_text text d rows) (drop (length (written_text text d rows)) out) n size)
    go false f q = unfold choose in (let z : ◌≡◌ {A = ℕ} 0 1 = cc in absurd (omega arith))

module _ (text buffer : List ℕ) (d : Declared) (out : List ℕ) (n : ℕ) (r : Rewritten text buffer d out n) where
  wrote : written_by text buffer d out n ≡ written (decoded_as text buffer d)
  unfolding written_by decoded_as written_text
  wrote = wrote_whole text d (unknown_left text buffer) out n r.wrote

  decoded : Gave text (unknowns (items text)) (length buffer) (declared text) d
  unfolding declared_of
  decoded = gave text (unknowns (items text)) (length buffer) (declared text) d r.decoded

  was : decoded_as text buffer d ≡ declaration text
  was = ap (decoded_as text buffer) (sym decoded.same) ∙ decoded_as_lem text buffer decoded.utf8 decoded.fits

  -- Written out and decoded again, with as large a buffer for the unknown letters, it is the same.
  pub decoded_again : (again : List ℕ) → length buffer ≤ length again → Writable (decoded_as text buffer d)
      → DecodesTo (written_by text buffer d out n) again (decoded_as text buffer d)
  decoded_again again h w =
      let t = written (declaration text) in
      let writable = subst Writable was w in
      let same = text_round_trip text writable in
      let good = written_utf8 text decoded.utf8 writable.ascii in
      let fits = fits_again text t (length buffer) (length again) same h decoded.fits in
      rw (wrote, was)
      (record { given = declared t; decoded = declared_value t again good fits; same = decoded_as_lem t again good fits ∙ same })
