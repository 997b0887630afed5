-- What is claimed of the effective methods among rows (document 02, note 10): each selector once, by first appearance, with the row that stands.
use Rattle.std.specs.Prelude.{ℕ, ◌≤◌, ◌≡◌, true, false}
use mathlib.Core.List.{List, [], ◌∷◌, Memᴰ}
use Rattle.dispatch.specs.declared.rows.Appearance.{Appearance}
use Rattle.dispatch.specs.Dispatch.{selector_bytes, comes_before}

abbrev pub In : Appearance → List Appearance → Type 0
In a rows = Memᴰ a rows

abbrev pub bytes_of : List (List ℕ) → Appearance → List ℕ
bytes_of files a = selector_bytes files a.selector

-- Each row stands before those that follow it.
pub data Ordered : List Appearance → Type 0 where
  ordered_none : Ordered []
  ordered_next : {a : Appearance} {more : List Appearance} → ((b : Appearance) → In b more → comes_before a b ≡ true) → Ordered more → Ordered (a ∷ more)

-- No two have equal selectors, as bytes.
pub data Once (files : List (List ℕ)) : List Appearance → Type 0 where
  once_none : Once files []
  once_next : {a : Appearance} {more : List Appearance} → ((b : Appearance) → In b more → bytes_of files a ≡ bytes_of files b → ⊥) → Once files more → Once files (a ∷ more)

-- The first row of its selector.
pub record First (files : List (List ℕ)) (rows : List Appearance) (a : Appearance) : Type 0 where
  pub listed : In a rows
  pub earliest : (b : Appearance) → In b rows → bytes_of files a ≡ bytes_of files b → comes_before b a ≡ false

-- The first row of its selector in the last source that has it.
pub record Stands (files : List (List ℕ)) (rows : List Appearance) (r : Appearance) : Type 0 where
  pub listed : In r rows
  pub last : (b : Appearance) → In b rows → bytes_of files r ≡ bytes_of files b → b.source ≤ r.source
  pub first : (b : Appearance) → In b rows → bytes_of files r ≡ bytes_of files b → b.source ≡ r.source → r.entry ≤ b.entry

-- Results by first appearance: the first row of each one's selector stands before that of every later one.
pub data ByFirst (files : List (List ℕ)) (rows : List Appearance) : List Appearance → Type 0 where
  first_none : ByFirst files rows []
  first_next : {r : Appearance} {more : List Appearance}
      → ((a q b : Appearance) → First files rows a → bytes_of files a ≡ bytes_of files r → In q more → First files rows b → bytes_of files b ≡ bytes_of files q → comes_before a b ≡ true)
      → ByFirst files rows more → ByFirst files rows (r ∷ more)
