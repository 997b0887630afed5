-- A buffer that is filled read by read; and of a whole input the listing is that of all its bytes, also where they are more than the buffer has.
use Prim.Native.Nat.{ℕ, ◌+◌, ◌≤◌, ◌<◌}
use mathlib.Core.Path.{◌≡◌, refl, sym, ap, ◌∙◌, subst}
use mathlib.Core.Bool.{Bool, true, false}
use mathlib.Core.List.{List, ◌++◌, append-nil}
use native.Mathlib.Omega.{arith}
use lib.ListN.{length, take, length-append}
use borrow.Author.Tests.{ltb-true, ltb-false}
use Rattle.std.specs.Prelude.{nat_lt}
use lib.Seq.{length-take-le, take-append-le, take-append-add}
use Rattle.std.proofs.Common.{Option, Some, None}
use Rattle.std.specs.Io.KnownBytes.{Consumes}
use Rattle.std.proofs.KnownBytes.{Consumes-trans}
use Rattle.reads.specs.declared.answer.Question.TheVariants.{BundleLength}
use Rattle.pointers.specs.declared.setting.Setting.{Setting}
use Rattle.listing.proofs.Measured.{too_long}
use Rattle.printing.specs.BundleLent.{input_size}
use Rattle.printing.specs.BundleText.{bundle_opening, bundle_text}
use Rattle.printing.specs.LineText.{refused_text}
use Rattle.printing.specs.Filled.{Fills}
use Rattle.printing.specs.declared.program.Filled.{Filled}

-- n bytes more after the first `len`.
module _ (to buf rest : List ℕ) (len n : ℕ) (inside : len ≤ length to) (fits : n ≤ length buf) where
  front : length (take len to) ≡ len
  front = length-take-le len to inside

  pub read_inside : len + n ≤ length (take len to ++ (buf ++ rest))
  read_inside = simp length-append (omega (arith, front, fits))

  pub read_more : (a b c : Option (List ℕ)) → Consumes a b (take len to) → Consumes b c (take n buf) → Consumes a c (take (len + n) (take len to ++ (buf ++ rest)))
  read_more a b c h g =
      let e : take (len + n) (take len to ++ (buf ++ rest)) ≡ take len to ++ take n buf =
      ap (λ (k : ℕ). take (k + n) (take len to ++ (buf ++ rest))) (sym front)
      ∙ take-append-add (take len to) (buf ++ rest) n
      ∙ ap (λ (r : List ℕ). take len to ++ r) (take-append-le n buf rest fits) in
      subst (Consumes a c) (sym e) (Consumes-trans a b c (take len to) (take n buf) h g)

-- A bundle that is too long.
long_text : (u : Setting) (bytes : List ℕ) → 32768 < length bytes → bundle_text u bytes ≡ refused_text BundleLength
unfolding bundle_text bundle_opening
long_text u bytes h = rw (← too_long bytes h)

-- The listing of what was read of an input whose bytes are known, where no read failed: that of all of them.
pub whole_input : (u : Setting) (all : List ℕ) (after : Option (List ℕ)) (r : Filled) (to : List ℕ) → Fills (Some all) after r to → r.whole ≡ true
    → length to ≡ input_size → bundle_text u (take r.len to) ≡ bundle_text u all
whole_input u all None r to f e long = absurd f.taken
whole_input u all (Some left) r to f e long = go (nat_lt r.len input_size) refl
  where
    got : length (take r.len to) ≡ r.len
    got = length-take-le r.len to f.inside

    go : (t : Bool) → nat_lt r.len input_size ≡ t → bundle_text u (take r.len to) ≡ bundle_text u all
    go true h =
        ap (bundle_text u)
        (sym (f.taken ∙ ap (λ (rest : List ℕ). take r.len to ++ rest) (f.ends e (omega (arith, ltb-true r.len input_size h))) ∙ append-nil (take r.len to)))
    go false h =
        let full = ltb-false r.len input_size h in
        long_text u (take r.len to) (omega (arith, got, full))
        ∙ sym (long_text u all (rw f.taken (simp length-append (omega (arith, got, full)))))
