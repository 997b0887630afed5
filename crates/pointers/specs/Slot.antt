-- What the tables say of a slot, and pointer slots (document 01, Reading rules; mod.rs).
use Rattle.std.specs.Prelude.{ℕ, ◌-◌, ◌*◌, Bool, false, ◌&&◌, List, ltb}
use Rattle.reads.specs.Outcome.{Outcome, value, refused, Unrefused, and_then, because, or_else, or_zero, sum64}
use Rattle.reads.specs.Place.{Image, word}
use Rattle.reads.specs.declared.spot.Spot.{Spot}
use Rattle.reads.specs.Address.{stripped}
use Rattle.reads.specs.declared.answer.Reason.TheVariants.{Unresolved}
use Rattle.reads.specs.declared.text.Text.{Text}
use Rattle.pointers.specs.Tables.{Tables, image_in, rebase_words, bind_words, chains, rebase_record, bind_record}
use Rattle.pointers.specs.Question.{question, bind_lent, bind_inside, bind_utf8}
use Rattle.pointers.specs.Index.{bind_nexts}
use Rattle.pointers.specs.Chain.{no_rebase, follow}
use Rattle.pointers.specs.Sorted.{sorted_record}
use Rattle.pointers.specs.declared.setting.Lookup.{Lookup}
use Rattle.pointers.specs.declared.setting.Lookup.TheVariants.{Chained, Sorted}
use Rattle.pointers.specs.declared.setting.Setting.{Setting}
use Rattle.pointers.specs.Symbol.{stripped_name}
use Rattle.reads.specs.declared.answer.Question.TheVariants.{NameInside, ChainOrder, NameUtf8, FileLent}

-- The number of a slot's rebase record, counted from 1: by its chain, as document 01 has it, or by halves.
abbrev pub rebase_number : Lookup → List ℕ → List ℕ → ℕ → Outcome ℕ
rebase_number Chained rebases index slot = follow rebase_words rebases 0 (2 * chains) slot index
rebase_number Sorted rebases index slot = sorted_record rebases slot

-- The target of a slot's rebase.
unfoldable pub rebase_at : List ℕ → List ℕ → Setting → ℕ → Outcome ℕ
rebase_at rebases index setting slot =
    and_then (rebase_number setting.lookup rebases index slot) (λ n. value (rebase_record rebases (n - 1)).target)

-- The name of bind record i, counted from 0; the questions 18, 7 and 14 are asked of it.
unfoldable pub bind_name : List (List ℕ) → List ℕ → ℕ → Outcome Text
bind_name files binds i =
    and_then (question FileLent (bind_lent files binds i)) (λ _.
    and_then (question NameInside (bind_inside files binds i)) (λ _.
    and_then (question NameUtf8 (bind_utf8 files binds i)) (λ _.
    value (bind_record binds i).name)))

-- The name of a slot's bind.
unfoldable pub bind_at : List (List ℕ) → List ℕ → List ℕ → List ℕ → ℕ → Outcome Text
bind_at files rebases binds index slot =
    and_then (follow bind_words binds chains (bind_nexts rebases) slot index) (λ n. bind_name files binds (n - 1))

-- The same less its prefix.
unfoldable pub symbol_of : List (List ℕ) → List ℕ → List ℕ → List ℕ → ℕ → Outcome Text
symbol_of files rebases binds index slot =
    and_then (bind_at files rebases binds index slot) (λ name. value (stripped_name files name))

-- The word in a slot, its low 48 bits.
unfoldable pub stored : Image → ℕ → Outcome ℕ
stored m slot = and_then (word m 8 slot) (λ w. value (stripped w))

-- A slot's rebase target wins unmasked, mapped or not; else the word there.
abbrev pub rebased_or : Image → List ℕ → List ℕ → Setting → ℕ → Outcome ℕ
rebased_or m rebases index setting slot = or_else (rebase_at rebases index setting slot) (stored m slot)

-- A pointer slot: that, or else it does not resolve.
unfoldable pub resolve : Image → List ℕ → List ℕ → Setting → ℕ → Outcome ℕ
resolve m rebases index setting slot = because Unresolved (rebased_or m rebases index setting slot)

-- The pointer in the field at va + k: absent where the field's address is over 64 bits.
unfoldable pub pointer_at : Image → List ℕ → List ℕ → Setting → ℕ → ℕ → Outcome ℕ
pointer_at m rebases index setting va k = and_then (sum64 va k) (resolve m rebases index setting)

-- The same, an absent slot counting as 0.
unfoldable pub pointer_or0_at : Image → List ℕ → List ℕ → Setting → ℕ → ℕ → Outcome ℕ
pointer_or0_at m rebases index setting va k = and_then (sum64 va k) (λ slot. or_zero (resolve m rebases index setting slot))

-- No rebase stands in the slot's chain; by halves, nothing is known before the lookup.
abbrev pub unrebased : Lookup → List ℕ → ℕ → Bool
unrebased Chained index slot = no_rebase index slot
unrebased Sorted index slot = false

-- A slot that lies i bytes past a spot's address, in the spot's room, with no rebase in its chain: beside the spot of readable bytes its pointer is
-- the word there, without a lookup (proofs/NearSlots.antt).
unfoldable pub is_near : List ℕ → Setting → Spot → ℕ → ℕ → Bool
is_near index setting s i slot = ltb i s.room && unrebased setting.lookup index slot

-- The lookups of all that is lent.
abbrev pub rebase : Tables → ℕ → Outcome ℕ
rebase t a = rebase_at t.rebases t.index t.setting a

abbrev pub slot : Tables → ℕ → Outcome ℕ
slot t a = resolve (image_in t) t.rebases t.index t.setting a

abbrev pub symbol_at : Tables → ℕ → Outcome Text
symbol_at t a = symbol_of t.files t.rebases t.binds t.index a

abbrev pub pointer : Tables → ℕ → ℕ → Outcome ℕ
pointer t va k = pointer_at (image_in t) t.rebases t.index t.setting va k

abbrev pub pointer_or0 : Tables → ℕ → ℕ → Outcome ℕ
pointer_or0 t va k = pointer_or0_at (image_in t) t.rebases t.index t.setting va k

-- What is made of lookups: a value, absent, or the number of one of the four questions that lookups ask.
pub data LookupOutcome {A : Type 0} : Outcome A → Type 0 where
  unrefused : {o : Outcome A} → Unrefused o → LookupOutcome o
  is_9 : LookupOutcome (refused ChainOrder)
  is_18 : LookupOutcome (refused FileLent)
  is_7 : LookupOutcome (refused NameInside)
  is_14 : LookupOutcome (refused NameUtf8)
