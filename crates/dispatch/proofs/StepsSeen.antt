-- An earlier row with a's selector, by a step that gives a row (docs/notes/10.md).
use Prim.Native.Nat.{ℕ}
use mathlib.Core.Path.{◌≡◌, ap, sym, ◌∙◌}
use mathlib.Core.Bool.{Bool, true, false, ◌&&◌, not}
use mathlib.Core.List.{List}
use borrow.Author.Tests.{not-false}
use Rattle.std.specs.Prelude.{Some, Ok}
use Rattle.pointers.specs.Tables.{Tables}
use Rattle.dispatch.specs.declared.sources.Side.{Side}
use Rattle.dispatch.specs.declared.rows.Appearance.{Appearance}
use Rattle.dispatch.specs.declared.rows.Position.{Position}
use Rattle.dispatch.specs.declared.rows.Step.{Step}
use Rattle.dispatch.specs.Appearances.{Rows, also}
use Rattle.dispatch.specs.Dispatch.{same_selector, comes_before, has_earlier}
use Rattle.dispatch.specs.Position.{ahead, perhaps, SteppedFrom}
use Rattle.dispatch.proofs.Scans.{or_here, or_next}

module _ {t : Tables} {s : Side} {class : ℕ} {p : Position} {x : Step} (h : SteppedFrom t s class p (Ok (Some x))) (files : List (List ℕ)) (a : Appearance) {e : Bool}
    (i : has_earlier files a (ahead t s class p).rows ≡ e) where
  module _ {row : Appearance} {y z : Bool} (g : x.row ≡ Some row) (u : y ≡ comes_before row a) (v : not y ≡ false) (m : z ≡ same_selector files a.selector row.selector) where
    in_front : has_earlier files a (also row (ahead t s class x.next)).rows ≡ e
    in_front = ap (λ r. has_earlier files a (perhaps r (ahead t s class x.next)).rows) (sym g) ∙ ap (λ (q : Rows). has_earlier files a q.rows) (sym h.went.0) ∙ i

    both : (comes_before row a && same_selector files a.selector row.selector) ≡ z
    both = rw (sym u ∙ not-false _ v) (sym m)

    pub earlier_here : z ≡ true → true ≡ e
    unfolding has_earlier
    earlier_here n = or_here _ _ (both ∙ n) in_front

    pub earlier_row : z ≡ false → has_earlier files a (ahead t s class x.next).rows ≡ e
    unfolding has_earlier
    earlier_row n = or_next _ _ (both ∙ n) in_front
