-- When an old page is still good (document 02, note 13), of every definition: equal bytes in the merged ranges give the same outcome and the same
-- ranges.
use Prim.Native.Nat.{ℕ, ◌+◌, ◌-◌, ◌<◌, min}
use mathlib.Core.Path.{◌≡◌, refl, sym, ap, ◌∙◌, subst}
use mathlib.Core.Bool.{Bool, true, false}
use mathlib.Core.List.{List, [], ◌∷◌}
use native.Mathlib.Omega.{arith}
use lib.ListN.{length, get_or, drop, length-take, length-drop, get_or-map}
use lib.Seq.{get_or-take, get_or-drop, ext_get_or}
use borrow.Author.Tests.{lt-ltb}
use Rattle.reads.specs.Outcome.{Outcome, value, absent, refused, Unrefused, a_value, an_absence, and_then, choose}
use Rattle.reads.specs.Files.{file_of}
use Rattle.reads.specs.Place.{part}
use Rattle.pointers.specs.Chain.{last_record}
use Rattle.pointers.specs.Open.{Opened}
use Rattle.pointers.specs.Question.{question, bind_lent, bind_inside, bind_utf8}
use Rattle.pointers.specs.Slot.{rebase_number, rebase_at, bind_name, bind_at, rebase}
use Rattle.pointers.specs.declared.setting.Lookup.{Lookup}
use Rattle.pointers.specs.declared.setting.Lookup.TheVariants.{Chained, Sorted}
use Rattle.pointers.specs.Tables.{Tables, bind_words, bind_record}
use Rattle.pointers.specs.declared.setting.Setting.{Setting}
use Rattle.pointers.proofs.OpenedTables.{opened_follow_rebase, opened_follow_bind, bind_unrefused}
use Rattle.records.specs.Asks.{Each}
use Rattle.records.specs.Decode.{Decode, run}
use Rattle.ranges.specs.Range.{Range, lies, covers}
use Rattle.ranges.specs.Runs.{merged}
use Rattle.ranges.proofs.Covers.{lies_in, or_right}
use Rattle.ranges.proofs.MergedLaws.{ranges_exact}
use Rattle.used.specs.Used.{used, file_lengths}
use Rattle.used.specs.StillGood.{SameTables, SameBytes, StillGood}
use Rattle.used.proofs.AnswersAlike.{over, SamePart, Alike, run_alike}
use Rattle.reads.specs.declared.answer.Question.{Question}
use Rattle.reads.specs.declared.answer.Question.TheVariants.{NameInside, NameUtf8, FileLent}

-- Files of equal lengths.
file_length : (files : List (List ℕ)) (f : ℕ) → get_or (file_lengths files) f 0 ≡ length (file_of files f)
unfolding file_of
file_length files f = get_or-map length files f []

pub lengths_same : (files others : List (List ℕ)) → file_lengths files ≡ file_lengths others → (f : ℕ) → length (file_of files f) ≡ length (file_of others f)
lengths_same files others e f = sym (file_length files f) ∙ ap (λ (ns : List ℕ). get_or ns f 0) e ∙ file_length others f

-- The bytes of a range are the same where each that lies in it, and in its file, is.
module _ (files others : List (List ℕ)) (lengths : file_lengths files ≡ file_lengths others) where
  part_same : (r : Range) → ((b : ℕ) → b < length (file_of files r.file) → lies r r.file b ≡ true → get_or (file_of files r.file) b 0 ≡ get_or (file_of others r.file) b 0)
      → SamePart files others r
  part_same r e =
      let same = lengths_same files others lengths r.file in
      let bytes = file_of files r.file in
      let theirs = file_of others r.file in
      ext_get_or 0 (part bytes r.offset r.len) (part theirs r.offset r.len)
      (simp (length-take, length-drop) (rw same refl))
      (λ i h. at bytes theirs same e i (simp (length-take, length-drop) at h))
    where
      at : (bytes theirs : List ℕ) → length bytes ≡ length theirs → ((b : ℕ) → b < length bytes → lies r r.file b ≡ true → get_or bytes b 0 ≡ get_or theirs b 0)
          → (i : ℕ) → i < min r.len (length bytes - r.offset) → get_or (part bytes r.offset r.len) i 0 ≡ get_or (part theirs r.offset r.len) i 0
      at bytes theirs same e i h =
          get_or-take r.len (drop r.offset bytes) i 0 (omega arith) ∙ get_or-drop r.offset bytes i 0
          ∙ e (r.offset + i) (omega arith) (lies_in r r.file (r.offset + i) refl (omega arith) (omega arith))
          ∙ sym (get_or-take r.len (drop r.offset theirs) i 0 (omega arith) ∙ get_or-drop r.offset theirs i 0)

  parts_same : (rs : List Range) → ((f b : ℕ) → b < length (file_of files f) → covers rs f b ≡ true → get_or (file_of files f) b 0 ≡ get_or (file_of others f) b 0)
      → Each (SamePart files others) rs
  unfolding covers
  parts_same [] e = tt
  parts_same (r ∷ rs) e =
      (part_same r (λ b h i. e r.file b h (rw i refl)), parts_same rs (λ f b h i. e f b h (or_right (lies r f b) (covers rs f b) i)))

  -- Merged ranges have the same bytes as the ranges themselves, as far as the files have any.
  pub merged_parts : (rs : List Range) → SameBytes files others (merged (file_lengths files) rs) → Each (SamePart files others) rs
  merged_parts rs e =
      parts_same rs (λ f b h i. e f b (ranges_exact (file_lengths files) rs f b ∙ rw (file_length files f, lt-ltb b (length (file_of files f)) h, i) refl))

-- A name that no question refuses is the bind's.
not_refused : {A : Type 0} {o : Outcome A} {k : Question} → Unrefused o → o ≡ refused k → ⊥
not_refused (a_value a) e = let z : ◌≡◌ {A = ℕ} 0 1 = cc in omega arith
not_refused (an_absence r) e = let z : ◌≡◌ {A = ℕ} 0 1 = cc in omega arith

name_is : (files : List (List ℕ)) (binds : List ℕ) (i : ℕ) → Unrefused (bind_name files binds i) → bind_name files binds i ≡ value (bind_record binds i).name
name_is files binds i h = go (bind_lent files binds i) refl (bind_inside files binds i) refl (bind_utf8 files binds i) refl
  where
    go : (a : Bool) → bind_lent files binds i ≡ a → (b : Bool) → bind_inside files binds i ≡ b → (c : Bool) → bind_utf8 files binds i ≡ c
        → bind_name files binds i ≡ value (bind_record binds i).name
    go true d true e true f = unfold bind_name question choose in rw (d, e, f)
    go true d true e false f = absurd (not_refused {k = NameUtf8} h (unfold bind_name question choose in rw (d, e, f)))
    go true d false e c f = absurd (not_refused {k = NameInside} h (unfold bind_name question choose in rw (d, e)))
    go false d b e c f = absurd (not_refused {k = FileLent} h (unfold bind_name question choose in rw d))

names_same : (files others : List (List ℕ)) (binds : List ℕ) (o : Outcome ℕ) → Unrefused (and_then o (λ n. bind_name files binds (n - 1)))
    → Unrefused (and_then o (λ n. bind_name others binds (n - 1))) → and_then o (λ n. bind_name files binds (n - 1)) ≡ and_then o (λ n. bind_name others binds (n - 1))
names_same files others binds (value n) h g = name_is files binds (n - 1) h ∙ sym (name_is others binds (n - 1) g)
names_same files others binds (absent r) h g = refl
names_same files others binds (refused k) h g = refl

-- Over what opening accepted, lookups find the same: a slot's last record.
module _ (t : Tables) (files : List (List ℕ)) (index : List ℕ) (o : Opened t) (p : Opened (over t files index)) where
  number_same : (a : ℕ) (l : Lookup) → rebase_number l t.rebases t.index a ≡ rebase_number l t.rebases index a
  number_same a Chained = opened_follow_rebase t o a ∙ sym (opened_follow_rebase (over t files index) p a)
  number_same a Sorted = refl

  rebase_same : (a : ℕ) → rebase t a ≡ rebase (over t files index) a
  unfolding rebase_at
  rebase_same a = rw (number_same a t.setting.lookup)

  bind_same : (a : ℕ) → bind_at t.files t.rebases t.binds t.index a ≡ bind_at files t.rebases t.binds index a
  unfolding bind_at
  bind_same a =
      let mine = opened_follow_bind t o a in
      let theirs = opened_follow_bind (over t files index) p a in
      let found = last_record bind_words t.binds a in
      let unrefused : Unrefused (and_then found (λ n. bind_name t.files t.binds (n - 1))) =
      subst (λ (x : Outcome ℕ). Unrefused (and_then x (λ n. bind_name t.files t.binds (n - 1)))) mine (bind_unrefused t o a) in
      let unrefused' : Unrefused (and_then found (λ n. bind_name files t.binds (n - 1))) =
      subst (λ (x : Outcome ℕ). Unrefused (and_then x (λ n. bind_name files t.binds (n - 1)))) theirs (bind_unrefused (over t files index) p a) in
      ap (λ (x : Outcome ℕ). and_then x (λ n. bind_name t.files t.binds (n - 1))) mine
      ∙ names_same t.files files t.binds found unrefused unrefused'
      ∙ ap (λ (x : Outcome ℕ). and_then x (λ n. bind_name files t.binds (n - 1))) (sym theirs)

-- Tables that are the same but for files and index.
same_over : (t u : Tables) → SameTables t u → over t u.files u.index ≡ u
same_over t u s = go t.segments t.sections t.info t.rebases t.binds t.setting s.segments s.sections s.info s.rebases s.binds s.setting
  where
    go : (segments sections info rebases binds : List ℕ) (setting : Setting) → segments ≡ u.segments → sections ≡ u.sections → info ≡ u.info → rebases ≡ u.rebases
        → binds ≡ u.binds → setting ≡ u.setting
        → ◌≡◌ {A = Tables} (record { files = u.files; segments = segments; sections = sections; info = info; rebases = rebases; binds = binds; index = u.index; setting = setting }) u
    go segments sections info rebases binds setting a b c d e f = rw (a, b, c, d, e, f) refl

module _ (t u : Tables) where
  pub still_good : {A : Type 0} (d : Decode A) → StillGood t u (used t d) → Alike (run t d) (run u d) (used t d) (used u d)
  still_good d g =
      let same = same_over t u g.tables in
      let opens = subst Opened (sym same) g.opens in
      subst (λ (v : Tables). Alike (run t d) (run v d) (used t d) (used v d)) same
      (run_alike t u.files u.index (lengths_same t.files u.files g.tables.lengths)
      (rebase_same t u.files u.index g.opened opens) (bind_same t u.files u.index g.opened opens)
      d (merged_parts t.files u.files g.tables.lengths (used t d) g.bytes))
