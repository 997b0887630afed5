-- What a caller that writes pieces one after the other knows: a piece fits the buffer, it is empty exactly where nothing is still to come, and
-- after any other less is still to come.
use Prim.Native.Nat.{ℕ, ◌-◌, ◌≤◌, ◌<◌, min}
use mathlib.Core.Path.{◌≡◌, refl, ap, ◌∙◌}
use mathlib.Core.List.{List, [], ◌∷◌}
use native.Mathlib.Omega.{arith}
use lib.ListN.{length, drop, length-take, length-drop}
use lib.Seq.{drop-nil}
use Rattle.pointers.specs.Tables.{Tables}
use Rattle.printing.specs.Pieces.{Standing, to_come, Handed, piece_of}

no_bytes : (text : List ℕ) → length text ≡ 0 → text ≡ []
no_bytes [] e = refl
no_bytes (x ∷ text) e = absurd (omega arith)

module _ (t : Tables) (p : Standing) (n : ℕ) (old : List ℕ) (x : Handed) (e : x ≡ piece_of t p n old) where
  pub piece_length : x.len ≡ min n (length (to_come t p))
  unfolding piece_of
  piece_length = ap (λ (y : Handed). y.len) e ∙ length-take n (to_come t p)

  pub piece_fits : x.len ≤ n
  piece_fits = omega (arith, piece_length)

  pub piece_empty : 0 < n → x.len ≡ 0 → to_come t p ≡ []
  piece_empty h g = no_bytes (to_come t p) (omega (arith, piece_length))

  pub nothing_left : to_come t x.standing ≡ drop n (to_come t p) → 0 < n → x.len ≡ 0 → to_come t x.standing ≡ []
  nothing_left h some none = h ∙ ap (drop n) (piece_empty some none) ∙ drop-nil n

  pub nothing_comes : to_come t p ≡ [] → x.len ≡ 0
  nothing_comes g = piece_length ∙ rw g (omega arith)

  pub less_comes : to_come t x.standing ≡ drop n (to_come t p) → (x.len ≡ 0 → ⊥) → length (to_come t x.standing) < length (to_come t p)
  less_comes g h =
      let rest : length (to_come t x.standing) ≡ length (to_come t p) - n = ap length g ∙ length-drop n (to_come t p) in
      omega (arith, piece_length, rest, h)
