-- The imports of chained fixups (fixup-chains.h, dyld_chained_import) and their names, in plain symbol text.
use Rattle.std.specs.Prelude.{ℕ, ◌+◌, ◌-◌, ◌*◌, ◌/◌, ◌^◌, List, [], ◌∷◌, drop, ◌==◌, nat_lt}
use Rattle.reads.specs.Outcome.{Outcome, value, refused, and_then, choose}
use Rattle.fixups.specs.FixupChains.{lies, import_word}
use Rattle.fixups.specs.declared.chain.Fixups.{Fixups}
use Rattle.fixups.specs.declared.name.Name.{Name}
use Rattle.fixups.specs.declared.name.Bound.{Bound}
use Rattle.reads.specs.declared.answer.Question.TheVariants.{FixupData, FixupSlot}

abbrev pub name_of : ℕ → ℕ → Name
name_of at len = record { at = at; len = len }

abbrev pub bound_slot : ℕ → Name → Bound
bound_slot slot name = record { slot = slot; name = name }

-- The place of the first zero byte, of bytes whose first stands at i; 19 without one.
unfoldable pub zero_from : ℕ → List ℕ → Outcome ℕ
zero_from i [] = refused FixupData
zero_from i (x ∷ xs) = choose (x == 0) (value i) (zero_from (i + 1) xs)

-- The text from an offset of the fixup data to its zero; the fixup data stands at `at` in the file.
unfoldable pub text_at : List ℕ → ℕ → ℕ → Outcome Name
text_at body at start = and_then (zero_from start (drop start body)) (λ end. value (name_of (at + start) (end - start)))

-- The name of an import: 20 for an ordinal that has none, 19 where the import or its name is read outside the fixup data.
unfoldable pub import_at : List ℕ → Fixups → ℕ → Outcome Name
import_at body f ordinal =
    choose (nat_lt ordinal f.count)
    (choose (lies body (f.imports + 4 * ordinal) 4)
    (text_at body f.at (f.symbols + import_word body f.imports ordinal / 2 ^ 9))
    (refused FixupData))
    (refused FixupSlot)
