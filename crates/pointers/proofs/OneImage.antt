-- The definitions of pointer slots, bind names and the index as they were before images could span files (document 02, note 6): one image,
-- three words a bind; rebases are found as the setting says. OneFile.antt says that one file with number 0 gives what they gave.
use Prim.Native.Nat.{ℕ, ◌+◌, ◌-◌}
use mathlib.Core.List.{List, ◌++◌}
use lib.Dec.{leb}
use lib.ListN.{length, drop}
use Rattle.reads.specs.Outcome.{Outcome, value, and_then, because, or_else, or_zero, sum64}
use Rattle.reads.specs.Table.{records, word_of}
use Rattle.reads.specs.Place.{part}
use Rattle.reads.specs.Address.{stripped}
use Rattle.reads.specs.Utf8.{utf8}
use Rattle.reads.specs.declared.answer.Reason.TheVariants.{Unresolved}
use Rattle.reads.proofs.OneImage.{Image, Text, word}
use Rattle.pointers.specs.Tables.{rebase_words, chains}
use Rattle.pointers.specs.Question.{question}
use Rattle.pointers.specs.Index.{heads_of, nexts_of, bind_nexts}
use Rattle.pointers.specs.Chain.{follow}
use Rattle.pointers.specs.Symbol.{fitting, prefixes}
use Rattle.pointers.specs.Slot.{rebase_at}
use Rattle.pointers.specs.declared.setting.Setting.{Setting}
use Rattle.reads.specs.declared.answer.Question.TheVariants.{NameInside, NameUtf8}

unfoldable pub stored : Image → ℕ → Outcome ℕ
stored m slot = and_then (word m 8 slot) (λ w. value (stripped w))

unfoldable pub resolve : Image → List ℕ → List ℕ → Setting → ℕ → Outcome ℕ
resolve m rebases index setting slot = because Unresolved (or_else (rebase_at rebases index setting slot) (stored m slot))

unfoldable pub pointer_at : Image → List ℕ → List ℕ → Setting → ℕ → ℕ → Outcome ℕ
pointer_at m rebases index setting va k = and_then (sum64 va k) (resolve m rebases index setting)

unfoldable pub pointer_or0_at : Image → List ℕ → List ℕ → Setting → ℕ → ℕ → Outcome ℕ
pointer_or0_at m rebases index setting va k = and_then (sum64 va k) (λ slot. or_zero (resolve m rebases index setting slot))

abbrev pub bind_text : List ℕ → ℕ → Text
bind_text binds i = record { offset = word_of 3 binds i 1; len = word_of 3 binds i 2 }

unfoldable pub bind_name : List ℕ → List ℕ → ℕ → Outcome Text
bind_name image binds i =
    let name = bind_text binds i in
    and_then (question NameInside (leb (name.offset + name.len) (length image))) (λ _.
    and_then (question NameUtf8 (utf8 (part image name.offset name.len))) (λ _.
    value name))

unfoldable pub bind_at : List ℕ → List ℕ → List ℕ → List ℕ → ℕ → Outcome Text
bind_at image rebases binds index slot =
    and_then (follow 3 binds chains (bind_nexts rebases) slot index) (λ n. bind_name image binds (n - 1))

unfoldable pub stripped_name : List ℕ → Text → Text
stripped_name image name =
    let n = fitting prefixes (part image name.offset name.len) in record { offset = name.offset + n; len = name.len - n }

unfoldable pub symbol_of : List ℕ → List ℕ → List ℕ → List ℕ → ℕ → Outcome Text
symbol_of image rebases binds index slot =
    and_then (bind_at image rebases binds index slot) (λ name. value (stripped_name image name))

-- The index that opening left.
unfoldable pub indexed : List ℕ → List ℕ → List ℕ → List ℕ
indexed rebases binds index =
    heads_of rebase_words rebases
    ++ (heads_of 3 binds ++ (nexts_of rebase_words rebases ++ (nexts_of 3 binds ++ drop (bind_nexts rebases + records 3 binds) index)))
