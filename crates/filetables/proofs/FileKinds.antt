-- Question 25, by the tests that the code makes.
use Prim.Native.Nat.{ℕ, suc, ◌+◌}
use mathlib.Core.Path.{◌≡◌, refl, sym, ◌∙◌}
use mathlib.Core.Bool.{Bool, true, false, not, ◌&&◌}
use mathlib.Core.List.{List, [], ◌∷◌, ◌++◌}
use native.Mathlib.Omega.{arith}
use borrow.Author.Tests.{lt-leb}
use Rattle.std.specs.List.{list_all}
use lib.Dec.{eqb, leb}
use lib.ListN.{length, length-append}
use Rattle.std.specs.Prelude.{slice_get}
use Rattle.std.specs.Option.{is_none}
use Rattle.reads.specs.Outcome.{value, choose}
use Rattle.pointers.specs.Question.{question}
use Rattle.macho.specs.Number.{u32_at}
use Rattle.macho.specs.Commands.{asked_commands, of_kind}
use Rattle.fixups.specs.FixupChains.{chained_fixups_kind}
use Rattle.opcodes.specs.DyldInfo.{dyld_info_kind, dyld_info_only_kind}
use Rattle.filetables.specs.Kind.{segment_read, info_read, command_read, all_read, carriers, commands_read, is_read, asked_kind}

-- The commands of a kind that stand at the offsets given, by the test of that kind.
all_by : (n : ℕ) (cmds : List ℕ) (kind : ℕ) (test : ℕ → Bool) → ((a : ℕ) → test a ≡ command_read n cmds kind a) → (segs : List ℕ)
    → all_read n cmds kind segs ≡ list_all test segs
unfolding all_read
all_by n cmds kind test e [] = refl
all_by n cmds kind test e (a ∷ segs) = rw (← e a, all_by n cmds kind test e segs)

pub commands_by : (n : ℕ) (cmds : List ℕ) (count : ℕ)
    → (list_all (segment_read n cmds) (of_kind 0x19 cmds count 0)
    && (list_all (λ a. eqb (u32_at cmds (a + 68)) 0) (of_kind 0xB cmds count 0)
    && (list_all (λ a. eqb (u32_at cmds (a + 16)) 0) (of_kind 0x21 cmds count 0)
    && (list_all (λ a. eqb (u32_at cmds (a + 16)) 0) (of_kind 0x2C cmds count 0)
    && (list_all (info_read n cmds) (of_kind 0x22 cmds count 0)
    && (list_all (info_read n cmds) (of_kind 0x80000022 cmds count 0)
    && leb (carriers cmds count) 1)))))) ≡ commands_read n cmds count
unfolding commands_read command_read choose
commands_by n cmds count =
    rw (
      all_by n cmds 0x19 (segment_read n cmds) (λ a. refl) (of_kind 0x19 cmds count 0),
      all_by n cmds 0xB (λ a. eqb (u32_at cmds (a + 68)) 0) (λ a. refl) (of_kind 0xB cmds count 0),
      all_by n cmds 0x21 (λ a. eqb (u32_at cmds (a + 16)) 0) (λ a. refl) (of_kind 0x21 cmds count 0),
      all_by n cmds 0x2C (λ a. eqb (u32_at cmds (a + 16)) 0) (λ a. refl) (of_kind 0x2C cmds count 0),
      all_by n cmds 0x22 (info_read n cmds) (λ a. refl) (of_kind 0x22 cmds count 0),
      all_by n cmds 0x80000022 (info_read n cmds) (λ a. refl) (of_kind 0x80000022 cmds count 0),
    )

pub is_not : (a b : Bool) → a ≡ not b → b ≡ not a
is_not a true e = rw e
is_not a false e = rw e

-- Whether at most one command says what is bound, by the second.
few : (xs : List ℕ) → is_none (slice_get xs 1) ≡ leb (length xs) 1
few [] = refl
few (x ∷ []) = refl
few (x ∷ y ∷ xs) = sym (lt-leb (suc (suc (length xs))) 1 (omega arith))

abbrev pub carried : List ℕ → ℕ → List ℕ
carried cmds count = (of_kind chained_fixups_kind cmds count 0 ++ of_kind dyld_info_kind cmds count 0) ++ of_kind dyld_info_only_kind cmds count 0

pub at_most_one : (cmds : List ℕ) (count : ℕ) → is_none (slice_get (carried cmds count) 1) ≡ leb (carriers cmds count) 1
unfolding carriers
at_most_one cmds count =
    few (carried cmds count)
    ∙ rw (
      length-append (of_kind chained_fixups_kind cmds count 0 ++ of_kind dyld_info_kind cmds count 0) (of_kind dyld_info_only_kind cmds count 0),
      length-append (of_kind chained_fixups_kind cmds count 0) (of_kind dyld_info_kind cmds count 0),
    )

-- 15 and 16, then 25.
module _ (file : List ℕ) where
  module _ (asked : asked_commands file ≡ value tt) where
    pub kind_read_lem : is_read file ≡ true → value tt ≡ asked_kind file
    unfolding asked_kind question choose
    kind_read_lem e = rw (asked, e)
