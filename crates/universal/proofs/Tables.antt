-- The table of a universal file, by the tests that the code makes.
use Prim.Native.Nat.{ℕ, ◌+◌, ◌-◌, ◌*◌, ◌/◌, ◌≤◌, ◌<◌}
use mathlib.Core.Path.{◌≡◌, refl, sym}
use mathlib.Core.Bool.{Bool, true, false}
use mathlib.Core.List.{List}
use native.Mathlib.Omega.{arith}
use lib.Dec.{leb}
use lib.ListN.{length}
use borrow.Author.Tests.{lt-leb, le-leb, leb-true}
use Rattle.reads.proofs.Tests.{le_same}
use Rattle.std.specs.Prelude.{Option, Some, Result, Ok, Err}
use Rattle.reads.specs.Outcome.{choose}
use Rattle.reads.specs.declared.answer.Question.{Question}
use Rattle.reads.specs.declared.answer.Question.TheVariants.{LoadCommands}
use Rattle.universal.specs.Architecture.{chosen}
use Rattle.universal.specs.Parts.{entries, in_file, fat_wanted}
use Rattle.universal.specs.declared.arch.Arch.{Arch}
use Rattle.universal.specs.declared.fat.Kind.{Kind}
use Rattle.universal.specs.declared.fat.Kind.TheVariants as kinds
use Rattle.universal.specs.Fat.{nfat_arch, arch_offset, arch_at, table_fits}

header_room : (kind : Kind) (count : ℕ) → 8 ≤ arch_offset kind count
header_room kinds.Fat count = omega arith
header_room kinds.Fat64 count = omega arith

module _ (file : List ℕ) (kind : Kind) where
  pub table_short : length file < 8 → false ≡ table_fits file kind
  unfolding table_fits
  table_short h = sym (lt-leb (arch_offset kind (nfat_arch file)) (length file) (omega (arith, header_room kind (nfat_arch file))))

  module _ (count : ℕ) (e : count ≡ nfat_arch file) where
    pub table_room : true ≡ table_fits file kind → arch_offset kind count ≤ length file
    unfolding table_fits
    table_room t = rw e (leb-true (arch_offset kind (nfat_arch file)) (length file) (sym t))

    pub table_whole : arch_offset kind count ≤ length file → table_fits file kind ≡ true
    unfolding table_fits
    table_whole h = le-leb _ _ (rw e at h)

  module _ (h : 8 ≤ length file) (count : ℕ) (e : count ≡ nfat_arch file) where
    pub table_fat64 : kind ≡ kinds.Fat64 → leb count ((length file - 8) / 32) ≡ table_fits file kind
    unfolding table_fits
    table_fat64 w = rw (w, e) (le_same (nfat_arch file) ((length file - 8) / 32) (8 + 32 * nfat_arch file) (length file) (λ l. omega arith) (λ l. omega arith))

    pub table_fat : kind ≡ kinds.Fat → leb count ((length file - 8) / 20) ≡ table_fits file kind
    unfolding table_fits
    table_fat w = rw (w, e) (le_same (nfat_arch file) ((length file - 8) / 20) (8 + 20 * nfat_arch file) (length file) (λ l. omega arith) (λ l. omega arith))

  -- What a refusal says of a table.
  pub entries_cut : (k : Question) → entries file kind ≡ Err k → (table_fits file kind ≡ false) × (k ≡ LoadCommands)
  unfolding entries choose
  entries_cut k e = go (table_fits file kind) e
    where
      go : (t : Bool) → choose {A = Result ℕ Question} t (Ok (nfat_arch file)) (Err LoadCommands) ≡ Err k → (t ≡ false) × (k ≡ LoadCommands)
      go true e = let z : ◌≡◌ {A = ℕ} 0 1 = cc in absurd (omega arith)
      go false e = (refl, cc)

-- What an entry that is wanted answers where its part does not lie in the file.
pub part_missed : (file : List ℕ) (kind : Kind) (w : Option Arch) (n i : ℕ) (k : Question) → n ≡ nfat_arch file → arch_offset kind n ≤ length file
    → chosen file kind n w ≡ Some i → in_file (length file) (arch_at file kind i) ≡ Err k → Err k ≡ fat_wanted file kind w
unfolding fat_wanted choose
part_missed file kind w n i k e h c m =
    let d : chosen file kind (nfat_arch file) w ≡ Some i = rw e at c in rw (table_whole file kind n e h, d, m) refl
