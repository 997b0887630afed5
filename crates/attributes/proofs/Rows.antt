-- The items that rows of three words say, row by row.
use Prim.Native.Nat.{ℕ, zero, suc, ◌+◌, ◌*◌, ◌/◌, ◌<◌, min}
use mathlib.Core.Path.{◌≡◌, refl, ap, ◌∙◌}
use mathlib.Core.List.{List, [], ◌∷◌, ◌++◌}
use native.Mathlib.Omega.{arith}
use lib.ListN.{length, get_or, drop, take}
use Rattle.std.proofs.lemmas.List.{length-take-le}
use Rattle.attributes.specs.Written.{items_in}
use Rattle.attributes.specs.Puts.{item_at}
use Rattle.attributes.specs.declared.items.Item.{Item}

-- How many items n rows at most say, and which item is number k.
pub length_items_in : (n : ℕ) (rows : List ℕ) → length (items_in n rows) ≡ min n (length rows / 3)
unfolding items_in
length_items_in zero rows = omega arith
length_items_in (suc n) [] = omega arith
length_items_in (suc n) (a ∷ []) = omega arith
length_items_in (suc n) (a ∷ b ∷ []) = omega arith
length_items_in (suc n) (a ∷ b ∷ c ∷ rows) = omega (arith, length_items_in n rows)

pub item_in_row : (n k : ℕ) (rows : List ℕ) (d : Item) → k < length (items_in n rows) → item_at (drop (3 * k) rows) ≡ get_or (items_in n rows) k d
unfolding items_in
item_in_row zero k rows d h = absurd (omega arith)
item_in_row (suc n) k [] d h = absurd (omega arith)
item_in_row (suc n) k (a ∷ []) d h = absurd (omega arith)
item_in_row (suc n) k (a ∷ b ∷ []) d h = absurd (omega arith)
item_in_row (suc n) zero (a ∷ b ∷ c ∷ rows) d h = refl
item_in_row (suc n) (suc k) (a ∷ b ∷ c ∷ rows) d h =
    let three : 3 * suc k ≡ suc (suc (suc (3 * k))) = omega arith in
    rw three (item_in_row n k rows d (omega arith))

-- A count of all whole rows or more is enough.
rows_enough : (n m : ℕ) (rows : List ℕ) → length rows < 3 * n + 3 → length rows < 3 * m + 3 → items_in n rows ≡ items_in m rows
unfolding items_in
rows_enough zero zero rows h g = refl
rows_enough zero (suc m) [] h g = refl
rows_enough zero (suc m) (a ∷ []) h g = refl
rows_enough zero (suc m) (a ∷ b ∷ []) h g = refl
rows_enough zero (suc m) (a ∷ b ∷ c ∷ rows) h g = absurd (omega arith)
rows_enough (suc n) zero [] h g = refl
rows_enough (suc n) zero (a ∷ []) h g = refl
rows_enough (suc n) zero (a ∷ b ∷ []) h g = refl
rows_enough (suc n) zero (a ∷ b ∷ c ∷ rows) h g = absurd (omega arith)
rows_enough (suc n) (suc m) [] h g = refl
rows_enough (suc n) (suc m) (a ∷ []) h g = refl
rows_enough (suc n) (suc m) (a ∷ b ∷ []) h g = refl
rows_enough (suc n) (suc m) (a ∷ b ∷ c ∷ rows) h g =
    ap (λ (is : List Item). item_at (a ∷ b ∷ c ∷ []) ∷ is) (rows_enough n m rows (omega arith) (omega arith))

-- The first row, and those behind it.
pub rows_next : {words : List ℕ} (row more : List ℕ) → words ≡ row ++ more → length row ≡ 3
    → items_in (length words) words ≡ item_at row ∷ items_in (length more) more
unfolding items_in
rows_next [] more e h = absurd (omega arith)
rows_next (a ∷ []) more e h = absurd (omega arith)
rows_next (a ∷ b ∷ []) more e h = absurd (omega arith)
rows_next (a ∷ b ∷ c ∷ []) more e h =
    rw e (ap (λ (is : List Item). item_at (a ∷ b ∷ c ∷ []) ∷ is)
    (rows_enough (suc (suc (length more))) (length more) more (omega arith) (omega arith)))
rows_next (a ∷ b ∷ c ∷ d ∷ row) more e h = absurd (omega arith)

pub rows_end : (words : List ℕ) → length words < 3 → items_in (length words) words ≡ []
unfolding items_in
rows_end [] h = refl
rows_end (a ∷ []) h = refl
rows_end (a ∷ b ∷ []) h = refl
rows_end (a ∷ b ∷ c ∷ rows) h = absurd (omega arith)

-- Rows that are cut off behind the ones that count.
cut : (k count : ℕ) (rows : List ℕ) → k ≡ min count (length rows / 3) → items_in k (take (3 * k) rows) ≡ items_in count rows
unfolding items_in
cut zero zero rows e = refl
cut zero (suc n) [] e = refl
cut zero (suc n) (a ∷ []) e = refl
cut zero (suc n) (a ∷ b ∷ []) e = refl
cut zero (suc n) (a ∷ b ∷ c ∷ rows) e = absurd (omega arith)
cut (suc k) zero rows e = absurd (omega arith)
cut (suc k) (suc n) [] e = absurd (omega arith)
cut (suc k) (suc n) (a ∷ []) e = absurd (omega arith)
cut (suc k) (suc n) (a ∷ b ∷ []) e = absurd (omega arith)
cut (suc k) (suc n) (a ∷ b ∷ c ∷ rows) e =
    let three : 3 * suc k ≡ suc (suc (suc (3 * k))) = omega arith in
    rw three (ap (λ (is : List Item). item_at (a ∷ b ∷ c ∷ []) ∷ is) (cut k n rows (omega arith)))

pub rows_cut : (k count : ℕ) (rows : List ℕ) → k ≡ min count (length rows / 3)
    → items_in (length (take (3 * k) rows)) (take (3 * k) rows) ≡ items_in count rows
rows_cut k count rows e =
    let size = length-take-le (3 * k) rows (omega arith) in
    rows_enough (length (take (3 * k) rows)) k (take (3 * k) rows) (omega arith) (omega (arith, size)) ∙ cut k count rows e
