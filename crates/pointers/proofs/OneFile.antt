-- One file with number 0 everywhere gives what one image gave (document 02, note 6): pointer slots, the names of binds, and the index.
use Prim.Native.Nat.{ℕ, zero, suc, ◌+◌, ◌-◌, ◌*◌, ◌≤◌, ◌<◌}
use mathlib.Core.Path.{◌≡◌, refl, ap, sym, ◌∙◌}
use mathlib.Core.Bool.{Bool, true, false}
use mathlib.Core.List.{List, ◌∷◌}
use native.Mathlib.Nat.{add-zero}
use native.Mathlib.Omega.{arith}
use borrow.Author.Tests.{lt-ltb}
use lib.Dec.{leb}
use lib.ListN.{length, get_or}
use Rattle.reads.specs.Outcome.{Outcome, value, absent, refused, and_then, or_zero, choose, sum64}
use Rattle.reads.specs.Table.{records, tabulate}
use Rattle.reads.specs.Files.{file_of}
use Rattle.reads.specs.Place.{image_of, part}
use Rattle.reads.specs.Utf8.{utf8}
use Rattle.reads.specs.declared.text.Text.{Text}
use Rattle.reads.proofs.OneImage as image
use Rattle.reads.proofs.OneFile.{Widened, text_in_file, texts_in_file, word_one}
use Rattle.pointers.specs.Tables.{chains, slot_of, bind_record}
use Rattle.pointers.specs.Question.{question, name_lent, name_inside, name_utf8}
use Rattle.pointers.specs.Index.{chain_of, latest, bind_nexts, indexed}
use Rattle.pointers.specs.Chain.{follow_from, follow}
use Rattle.pointers.specs.Symbol.{stripped_in, stripped_name}
use Rattle.pointers.specs.declared.setting.Setting.{Setting}
use Rattle.pointers.specs.Slot.{bind_name, bind_at, symbol_of, stored, resolve, pointer_at, pointer_or0_at}
use Rattle.pointers.proofs.Chains.{follow_value}
use Rattle.pointers.proofs.OneImage as one
use Rattle.pointers.proofs.Questions.{question_yes}
use Rattle.reads.specs.declared.answer.Question.TheVariants.{NameInside, NameUtf8, FileLent}

-- Pointer slots.
module _ {old new : List ℕ} (w : Widened 4 old new) (file : List ℕ) (others : List (List ℕ)) (rebases index : List ℕ) (setting : Setting) where
  abbrev then_image : image.Image
  then_image = record { bytes = file; words = old }

  stored_one : (a : ℕ) → stored (image_of (file ∷ others) new) a ≡ one.stored then_image a
  unfolding stored one.stored
  stored_one a = rw (word_one w file others 8 a)

  pub resolve_one : (a : ℕ) → resolve (image_of (file ∷ others) new) rebases index setting a ≡ one.resolve then_image rebases index setting a
  unfolding resolve one.resolve
  resolve_one a = rw (stored_one a)

  pub pointer_one : (va k : ℕ) → pointer_at (image_of (file ∷ others) new) rebases index setting va k ≡ one.pointer_at then_image rebases index setting va k
  unfolding pointer_at one.pointer_at
  pointer_one va k = go (sum64 va k)
    where
      go : (o : Outcome ℕ) → and_then o (resolve (image_of (file ∷ others) new) rebases index setting) ≡ and_then o (one.resolve then_image rebases index setting)
      go (value a) = resolve_one a
      go (absent r) = refl
      go (refused n) = refl

  pub pointer_or_0_one : (va k : ℕ) → pointer_or0_at (image_of (file ∷ others) new) rebases index setting va k ≡ one.pointer_or0_at then_image rebases index setting va k
  unfolding pointer_or0_at one.pointer_or0_at
  pointer_or_0_one va k = go (sum64 va k)
    where
      go : (o : Outcome ℕ)
          → and_then o (λ slot. or_zero (resolve (image_of (file ∷ others) new) rebases index setting slot)) ≡ and_then o (λ slot. or_zero (one.resolve then_image rebases index setting slot))
      go (value a) = ap or_zero (resolve_one a)
      go (absent r) = refl
      go (refused n) = refl

-- Binds.
module _ {old new : List ℕ} (w : Widened 3 old new) where
  slot_same : (i : ℕ) → i < records 3 old → slot_of 4 new i ≡ slot_of 3 old i
  slot_same i h =
      ap (λ (k : ℕ). get_or new k 0) (sym (add-zero (i * 4))) ∙ w.same i 0 h (omega arith) ∙ ap (λ (k : ℕ). get_or old k 0) (add-zero (i * 3))

  from_same : (nexts slot : ℕ) (index : List ℕ) (limit n : ℕ) → limit ≤ records 3 old
      → follow_from 4 new nexts slot index limit n ≡ follow_from 3 old nexts slot index limit n
  unfolding follow_from
  from_same nexts slot index zero n h = refl
  from_same nexts slot index (suc limit) n h =
      rw (
        slot_same limit (omega arith),
        from_same nexts slot index limit (get_or index (nexts + limit) 0) (omega arith),
        from_same nexts slot index limit n (omega arith),
      )

  follow_same : (heads nexts slot : ℕ) (index : List ℕ) → follow 4 new heads nexts slot index ≡ follow 3 old heads nexts slot index
  unfolding follow
  follow_same heads nexts slot index =
      ap (λ (n : ℕ). follow_from 4 new nexts slot index n (get_or index (heads + chain_of slot) 0)) w.count
      ∙ from_same nexts slot index (records 3 old) (get_or index (heads + chain_of slot) 0) (omega arith)

  -- The index.
  latest_same : (n chain : ℕ) → n ≤ records 3 old → latest 4 new n chain ≡ latest 3 old n chain
  unfolding latest
  latest_same zero chain h = refl
  latest_same (suc n) chain h = rw (slot_same n (omega arith), latest_same n chain (omega arith))

  heads_from : (i n : ℕ) → tabulate (latest 4 new (records 3 old)) i n ≡ tabulate (latest 3 old (records 3 old)) i n
  unfolding tabulate
  heads_from i zero = refl
  heads_from i (suc n) = rw (latest_same (records 3 old) i (omega arith), heads_from (suc i) n)

  nexts_from : (i n : ℕ) → i + n ≤ records 3 old
      → tabulate (λ j. latest 4 new j (chain_of (slot_of 4 new j))) i n ≡ tabulate (λ j. latest 3 old j (chain_of (slot_of 3 old j))) i n
  unfolding tabulate
  nexts_from i zero h = refl
  nexts_from i (suc n) h =
      rw (slot_same i (omega arith), latest_same i (chain_of (slot_of 3 old i)) (omega arith), nexts_from (suc i) n (omega arith))

  pub indexed_one : (rebases index : List ℕ) → indexed rebases new index ≡ one.indexed rebases old index
  unfolding indexed one.indexed
  indexed_one rebases index = rw (w.count, heads_from 0 chains, nexts_from 0 (records 3 old) (omega arith))

  -- The name of a slot's bind.
  module _ (file : List ℕ) (others : List (List ℕ)) where
    name_widened : (i : ℕ) → i < records 3 old → (bind_record new i).name ≡ text_in_file (one.bind_text old i)
    name_widened i h = rw (w.same i 1 h (omega arith), w.same i 2 h (omega arith), w.zeroth i h)

    bind_name_one : (i : ℕ) → i < records 3 old → bind_name (file ∷ others) new i ≡ texts_in_file (one.bind_name file old i)
    unfolding bind_name one.bind_name name_inside name_utf8 file_of
    bind_name_one i h =
        let name = text_in_file (one.bind_text old i) in
        ap asked (name_widened i h)
        ∙ rw (question_yes FileLent (name_lent (file ∷ others) name) (lt-ltb 0 (suc (length others)) (omega arith)))
        (go (leb (name.offset + name.len) (length file)) (utf8 (part file name.offset name.len)))
      where
        asked : Text → Outcome Text
        asked name =
            and_then (question FileLent (name_lent (file ∷ others) name)) (λ _.
            and_then (question NameInside (name_inside (file ∷ others) name)) (λ _.
            and_then (question NameUtf8 (name_utf8 (file ∷ others) name)) (λ _.
            value name)))

        go : (seven fourteen : Bool)
            → and_then (question NameInside seven) (λ _. and_then (question NameUtf8 fourteen) (λ _. value (text_in_file (one.bind_text old i))))
            ≡ texts_in_file (and_then (question NameInside seven) (λ _. and_then (question NameUtf8 fourteen) (λ _. value (one.bind_text old i))))
        go true true = unfold question choose in refl
        go true false = unfold question choose in refl
        go false fourteen = unfold question choose in refl

    bind_one : (rebases index : List ℕ) (a : ℕ) → bind_at (file ∷ others) rebases new index a ≡ texts_in_file (one.bind_at file rebases old index a)
    unfolding bind_at one.bind_at
    bind_one rebases index a =
        rw (follow_same chains (bind_nexts rebases) a index) (go (follow 3 old chains (bind_nexts rebases) a index) refl)
      where
        go : (o : Outcome ℕ) → follow 3 old chains (bind_nexts rebases) a index ≡ o
            → and_then o (λ n. bind_name (file ∷ others) new (n - 1)) ≡ texts_in_file (and_then o (λ n. one.bind_name file old (n - 1)))
        go (value n) e =
            let b = follow_value 3 old chains (bind_nexts rebases) a index n e in
            bind_name_one (n - 1) (omega (arith, b.0, b.1))
        go (absent r) e = refl
        go (refused k) e = refl

    pub symbol_one : (rebases index : List ℕ) (a : ℕ) → symbol_of (file ∷ others) rebases new index a ≡ texts_in_file (one.symbol_of file rebases old index a)
    unfolding symbol_of one.symbol_of
    symbol_one rebases index a = rw (bind_one rebases index a) (go (one.bind_at file rebases old index a))
      where
        go : (o : Outcome image.Text)
            → and_then (texts_in_file o) (λ name. value (stripped_name (file ∷ others) name)) ≡ texts_in_file (and_then o (λ name. value (one.stripped_name file name)))
        go (value name) = unfold stripped_in one.stripped_name file_of in refl
        go (absent r) = refl
        go (refused k) = refl
