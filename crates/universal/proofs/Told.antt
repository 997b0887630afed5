-- What the parts that a file tells say of the part that is found, and of one that is not.
use Prim.Native.Nat.{ℕ, zero, suc, ◌+◌, ◌≤◌, ◌<◌}
use mathlib.Core.Path.{◌≡◌, refl, sym, subst, ◌∙◌, ap}
use mathlib.Core.Logic.{⊎_elim}
use native.Mathlib.Nat.{eq-or-lt_of_le}
use mathlib.Core.Bool.{Bool, true, false, ◌&&◌, not}
use mathlib.Core.List.{List}
use native.Mathlib.Omega.{arith}
use lib.Dec.{leb, eqb}
use lib.ListN.{length}
use borrow.Author.Tests.{lt-ltb, ltb-true, leb-true}
use Rattle.reads.specs.Outcome.{choose}
use Rattle.reads.specs.Place.{le_in}
use Rattle.reads.proofs.Tests.{choose_true}
use Rattle.universal.specs.Fat.{nfat_arch, kind_of, arch_at, table_fits}
use Rattle.universal.specs.Architecture.{arm64, is_arch, is_abi64, first_arch, without, chosen}
use Rattle.universal.specs.Parts.{thin_part, thin_wanted, in_file, entry_wanted, fat_wanted, wanted_by, part_wanted, fat_at, at_by, part_at}
use Rattle.universal.proofs.Searches.{chosen_below}
use Rattle.universal.specs.declared.fat.Part.{Part}
use Rattle.universal.specs.declared.fat.Kind.{Kind}
use Rattle.universal.specs.declared.arch.Arch.{Arch}
use Rattle.std.specs.Prelude.{Option, None, Some, Result, Ok, Err}
use Rattle.std.specs.Result.{result_map_both}
use Rattle.reads.specs.declared.answer.Question.{Question}
use Rattle.reads.specs.declared.answer.Question.TheVariants.{LoadCommands}

-- Answers by their tests.
module _ (p q : Part) where
  in_came : (v : Bool) → result_map_both Some (λ k. k) (choose v (Ok p) (Err LoadCommands)) ≡ Ok (Some q) → (v ≡ true) × (p ≡ q)
  unfolding choose
  in_came true e = (refl, cc)
  in_came false e = let z : ◌≡◌ {A = ℕ} 0 1 = cc in absurd (omega arith)

  at_came : (t u : Bool) → choose t (choose u (Ok (Some p)) (Ok None)) (Err LoadCommands) ≡ Ok (Some q) → (u ≡ true) × (p ≡ q)
  unfolding choose
  at_came true true e = (refl, cc)
  at_came true false e = let z : ◌≡◌ {A = ℕ} 0 1 = cc in absurd (omega arith)
  at_came false u e = let z : ◌≡◌ {A = ℕ} 0 1 = cc in absurd (omega arith)

in_here : (p : Part) (v : Bool) → result_map_both Some (λ k. k) (choose v (Ok p) (Err LoadCommands)) ≡ Ok None → ⊥
unfolding choose
in_here p true e = let z : ◌≡◌ {A = ℕ} 0 1 = cc in absurd (omega arith)
in_here p false e = let z : ◌≡◌ {A = ℕ} 0 1 = cc in absurd (omega arith)

-- Where there is neither an entry nor another, there is no other.
second : (a b : Option ℕ) → without a b ≡ None → b ≡ None
second None b e = e
second (Some i) b e = let z : ◌≡◌ {A = ℕ} 0 1 = cc in absurd (omega arith)

-- A universal file.
module _ (file : List ℕ) (kind : Kind) where
  -- What is found lies in the file, and is the entry that was chosen.
  module _ (w : Option Arch) (p : Part) (e : fat_wanted file kind w ≡ Ok (Some p)) where
    came : (i : ℕ) × (chosen file kind (nfat_arch file) w ≡ Some i) × (table_fits file kind ≡ true)
        × (leb ((arch_at file kind i).offset + (arch_at file kind i).size) (length file) ≡ true) × (arch_at file kind i ≡ p)
    unfolding fat_wanted in_file choose
    came = go (table_fits file kind) (chosen file kind (nfat_arch file) w) e
      where
        go : (t : Bool) (o : Option ℕ) → choose t (entry_wanted file kind o) (Err LoadCommands) ≡ Ok (Some p)
            → (i : ℕ) × (o ≡ Some i) × (t ≡ true)
            × (leb ((arch_at file kind i).offset + (arch_at file kind i).size) (length file) ≡ true) × (arch_at file kind i ≡ p)
        go true (Some i) g = let r = in_came (arch_at file kind i) p _ g in (i, refl, refl, r.0, r.1)
        go true None g = let z : ◌≡◌ {A = ℕ} 0 1 = cc in absurd (omega arith)
        go false o g = let z : ◌≡◌ {A = ℕ} 0 1 = cc in absurd (omega arith)

    fat_inside : p.offset + p.size ≤ length file
    fat_inside =
        subst (λ (q : Part). q.offset + q.size ≤ length file) came.4
        (leb-true ((arch_at file kind came.0).offset + (arch_at file kind came.0).size) (length file) came.3)

    fat_told : (i : ℕ) × (fat_at file kind i ≡ Ok (Some p))
    unfolding fat_at
    fat_told = (
      came.0,
      choose_true _ _ came.2
          ∙ choose_true _ _ (lt-ltb came.0 (nfat_arch file) (chosen_below file kind (nfat_arch file) w came.0 came.1)) ∙ ap (λ q. Ok (Some q)) came.4,
    )

  -- Where a search finds no entry, none passes the test.
  none_passes : (test : Part → Bool) (k i : ℕ) → first_arch file kind test k i ≡ None → (j : ℕ) → i ≤ j → j < i + k → test (arch_at file kind j) ≡ false
  unfolding first_arch choose
  none_passes test zero i h j l m = absurd (omega arith)
  none_passes test (suc k) i h j l m = go (test (arch_at file kind i)) refl (λ x y. none_passes test k (i + 1) x j y (omega arith))
    where
      go : (t : Bool) → test (arch_at file kind i) ≡ t
          → (first_arch file kind test k (i + 1) ≡ None → i + 1 ≤ j → test (arch_at file kind j) ≡ false) → test (arch_at file kind j) ≡ false
      go true e later = let y : Some i ≡ None = rw e at h in let z : ◌≡◌ {A = ℕ} 0 1 = cc in absurd (omega arith)
      go false e later =
          let z : first_arch file kind test k (i + 1) ≡ None = rw e at h in
          ⊎_elim (λ (c : i ≡ j). rw (← c) e) (λ (c : i < j). later z (omega arith)) (eq-or-lt_of_le l)

  -- An entry that is told is one of the table's.
  entry_told : (j : ℕ) (p : Part) → fat_at file kind j ≡ Ok (Some p) → (j < nfat_arch file) × (arch_at file kind j ≡ p)
  unfolding fat_at
  entry_told j p e = let r = at_came (arch_at file kind j) p _ _ e in (ltb-true j (nfat_arch file) r.0, r.1)

  -- Where the search finds none, no part that is told passes the test.
  untold : (test : Part → Bool) → first_arch file kind test (nfat_arch file) 0 ≡ None → (j : ℕ) (p : Part) → fat_at file kind j ≡ Ok (Some p) → test p ≡ false
  untold test h j p e =
      let r = entry_told j p e in
      ap test (sym r.1) ∙ none_passes test (nfat_arch file) 0 h j (omega arith) (omega (arith, r.0))

  gone : (w : Option Arch) → fat_wanted file kind w ≡ Ok None → chosen file kind (nfat_arch file) w ≡ None
  unfolding fat_wanted in_file choose
  gone w e = go (table_fits file kind) (chosen file kind (nfat_arch file) w) e
    where
      go : (t : Bool) (o : Option ℕ) → choose t (entry_wanted file kind o) (Err LoadCommands) ≡ Ok None → o ≡ None
      go true (Some i) g = absurd (in_here (arch_at file kind i) _ g)
      go true None g = refl
      go false o g = let z : ◌≡◌ {A = ℕ} 0 1 = cc in absurd (omega arith)

  -- Without arm64 the first 64-bit entry is chosen, and arm64 is one.
  default_gone : chosen file kind (nfat_arch file) None ≡ None → first_arch file kind is_abi64 (nfat_arch file) 0 ≡ None
  unfolding chosen
  default_gone h = second (first_arch file kind (is_arch arm64) (nfat_arch file) 0) (first_arch file kind is_abi64 (nfat_arch file) 0) h

-- A thin file.
module _ (file : List ℕ) where
  thin_came : (w : Option Arch) (p : Part) → thin_wanted file w ≡ Some p → thin_part file ≡ p
  unfolding thin_wanted choose
  thin_came None p e = cc
  thin_came (Some a) p e = go (eqb (le_in file 4 0) 0xFEEDFACF && not (is_arch a (thin_part file))) e
    where
      go : (t : Bool) → choose t None (Some (thin_part file)) ≡ Some p → thin_part file ≡ p
      go true g = let z : ◌≡◌ {A = ℕ} 0 1 = cc in absurd (omega arith)
      go false g = cc

  thin_gone : (a : Arch) → thin_wanted file (Some a) ≡ None → is_arch a (thin_part file) ≡ false
  unfolding thin_wanted choose
  thin_gone a = go (eqb (le_in file 4 0) 0xFEEDFACF) (is_arch a (thin_part file))
    where
      go : (m t : Bool) → choose (m && not t) None (Some (thin_part file)) ≡ None → t ≡ false
      go true false e = refl
      go true true e = let z : ◌≡◌ {A = ℕ} 0 1 = cc in absurd (omega arith)
      go false t e = let z : ◌≡◌ {A = ℕ} 0 1 = cc in absurd (omega arith)

  thin_told : (j : ℕ) (p : Part) → at_by None file j ≡ Ok (Some p) → thin_part file ≡ p
  unfolding choose
  thin_told j p e = go (eqb j 0) e
    where
      go : (t : Bool) → choose {A = Result (Option Part) Question} t (Ok (Some (thin_part file))) (Ok None) ≡ Ok (Some p) → thin_part file ≡ p
      go true g = cc
      go false g = let z : ◌≡◌ {A = ℕ} 0 1 = cc in absurd (omega arith)

-- Every file.
module _ (file : List ℕ) (w : Option Arch) (p : Part) where
  -- The part that is found lies in the file,
  pub found_inside : part_wanted file w ≡ Ok (Some p) → p.offset + p.size ≤ length file
  unfolding part_wanted
  found_inside = go (kind_of file)
    where
      go : (k : Option Kind) → wanted_by k file w ≡ Ok (Some p) → p.offset + p.size ≤ length file
      go None e = rw (← thin_came file w p cc) (omega arith)
      go (Some kind) e = fat_inside file kind w p e

  -- and is one of those that are told.
  pub found_told : part_wanted file w ≡ Ok (Some p) → (i : ℕ) × (part_at file i ≡ Ok (Some p))
  unfolding part_wanted part_at choose
  found_told = go (kind_of file)
    where
      go : (k : Option Kind) → wanted_by k file w ≡ Ok (Some p) → (i : ℕ) × (at_by k file i ≡ Ok (Some p))
      go None e = (0, ap (λ q. Ok (Some q)) (thin_came file w p cc))
      go (Some kind) e = fat_told file kind w p e

module _ (file : List ℕ) (i : ℕ) (p : Part) where
  -- Where the part of an architecture is absent, none that is told is of it;
  pub absent_none : (a : Arch) → part_wanted file (Some a) ≡ Ok None → part_at file i ≡ Ok (Some p) → is_arch a p ≡ false
  unfolding part_wanted part_at chosen
  absent_none a = go (kind_of file)
    where
      go : (k : Option Kind) → wanted_by k file (Some a) ≡ Ok None → at_by k file i ≡ Ok (Some p) → is_arch a p ≡ false
      go None e g = ap (is_arch a) (sym (thin_told file i p g)) ∙ thin_gone file a cc
      go (Some kind) e g = untold file kind (is_arch a) (gone file kind (Some a) e) i p g

  -- and where none is wanted by name, none is a 64-bit one.
  pub absent_no_64 : part_wanted file None ≡ Ok None → part_at file i ≡ Ok (Some p) → is_abi64 p ≡ false
  unfolding part_wanted part_at thin_wanted
  absent_no_64 = go (kind_of file)
    where
      go : (k : Option Kind) → wanted_by k file None ≡ Ok None → at_by k file i ≡ Ok (Some p) → is_abi64 p ≡ false
      go None e g = let z : ◌≡◌ {A = ℕ} 0 1 = cc in absurd (omega arith)
      go (Some kind) e g = untold file kind is_abi64 (default_gone file kind (gone file kind None e)) i p g

-- What is asked of a file is answered by its kind.
module _ (file : List ℕ) (k l : Option Kind) (e : k ≡ kind_of file) (g : k ≡ l) where
  pub wanted_by_lem : (w : Option Arch) → wanted_by l file w ≡ part_wanted file w
  unfolding part_wanted
  wanted_by_lem w = rw (← e, ← g)

  pub at_by_lem : (i : ℕ) → at_by l file i ≡ part_at file i
  unfolding part_at
  at_by_lem i = rw (← e, ← g)
