-- What the passes over the items of a text promise each other.
use Rattle.std.specs.Prelude.{ℕ, Bool, true, not, List, filter, length, drop}
use Rattle.attributes.specs.Attributes.{items_from}
use Rattle.attributes.specs.Property.{letters, among}
use Rattle.attributes.specs.declared.items.Item.{Item}
use Rattle.attributes.specs.declared.pass.Chosen.{Chosen}
use Rattle.attributes.specs.declared.pass.Items.{Items}
use Rattle.attributes.specs.declared.pass.Which.{Which}
use Rattle.attributes.specs.declared.pass.Which.TheVariants.{All, Unknown}

-- The items from i on.
unfoldable pub items_at : List ℕ → ℕ → List Item
items_at text i = items_from (length text) i (drop i text)

-- The items that an iterator over them has left.
abbrev pub items_left_of : Items → List Item
items_left_of s = items_at s.text.now s.at

-- An item of this letter is handed out.
abbrev pub wanted : Which → ℕ → Bool
wanted All letter = true
wanted Unknown letter = not (among letters letter)

-- The items that are handed out.
abbrev pub chosen : Which → List Item → List Item
chosen which is = filter (λ i. wanted which i.key) is

-- The items that an iterator over the chosen ones has left.
abbrev pub chosen_left_of : Chosen → List Item
chosen_left_of s = chosen s.which (items_left_of s.items)
