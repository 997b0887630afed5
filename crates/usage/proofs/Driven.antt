-- Laws of the sweep's driver: the files that are lent, and their lengths.
use Prim.Native.Nat.{ℕ, suc, ◌≤◌, ◌<◌, ◌^◌}
use mathlib.Core.Path.{◌≡◌, sym, ap, subst, ◌∙◌}
use mathlib.Core.Bool.{Bool, true, false}
use mathlib.Core.List.{List, [], map}
use native.Mathlib.Omega.{arith}
use lib.ListN.{length, length-map, length-take, get_or, get_or-map}
use Rattle.std.specs.Borrow.{Bor}
use borrow.Author.Tests.{ltb-true, ltb-false}
use Rattle.reads.specs.Files.{files_lent, is_lent, file_of}
use Rattle.ranges.specs.Range.{Range, covers}
use Rattle.ranges.specs.Sweep.{Reached, Output, stepped, finished}
use Rattle.ranges.proofs.StepLaws.{remaining, step_less, step_finished, finished_last}
use Rattle.used.specs.Used.{file_lengths}

pub few_lent : (fs : List (Bor (List ℕ))) (files : List (List ℕ)) → files_lent fs ≡ files → length files ≤ 4
unfolding files_lent
few_lent fs files e = omega (arith, ap length e, length-take 4 (map (λ x. x.now) fs))

pub length_of : (files : List (List ℕ)) (f n : ℕ) → n ≡ length (file_of files f) → n ≡ get_or (file_lengths files) f 0
unfolding file_of
length_of files f n e = e ∙ sym (get_or-map length files f [])

module _ (files : List (List ℕ)) (few : length files ≤ 4) (rs : List Range) (s : Reached) (b : Bool) (said : b ≡ is_lent files s.file) where
  below : b ≡ true → s.file < length (file_lengths files)
  below e = subst (λ (n : ℕ). s.file < n) (sym (length-map files length)) (ltb-true s.file (length files) (sym said ∙ e))

  next : b ≡ true → suc s.file < 2 ^ 64
  next e = let h = ltb-true s.file (length files) (sym said ∙ e) in omega arith

  module _ (r : Reached) (e : r ≡ stepped (file_lengths files) rs s) (taken : b ≡ true) where
    pub less_left : remaining (file_lengths files) r < remaining (file_lengths files) s
    less_left =
        subst (λ (x : Reached). remaining (file_lengths files) x < remaining (file_lengths files) s) (sym e)
        (step_less (file_lengths files) rs s (below taken) (next taken))

    pub same_end : finished (file_lengths files) (covers rs) r ≡ finished (file_lengths files) (covers rs) s
    same_end = ap (finished (file_lengths files) (covers rs)) e ∙ step_finished (file_lengths files) rs s (next taken)

  pub all_told : (o : Output) → b ≡ false → finished (file_lengths files) (covers rs) s ≡ o → s.progress.told ≡ o
  all_told o e d =
      let past : length (file_lengths files) ≤ s.file =
      subst (λ (n : ℕ). n ≤ s.file) (sym (length-map files length)) (ltb-false s.file (length files) (sym said ∙ e)) in
      sym (finished_last (file_lengths files) (covers rs) s past) ∙ d
