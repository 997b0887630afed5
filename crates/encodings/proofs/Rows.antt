-- The words of a type, as the code puts them.
use Prim.Native.Nat.{ℕ, ◌+◌, ◌-◌, ◌*◌, ◌≤◌}
use mathlib.Core.Path.{◌≡◌, ap, sym, ◌∙◌}
use mathlib.Core.List.{List, [], ◌∷◌, append_assoc}
use native.Mathlib.Omega.{arith}
use lib.ListN.{length, take, drop}
use lib.Seq.{sets, sets-eq, length-sets}
use borrow.Rule.Slice.PartMut.{put_mid, Post-is}
use Rattle.std.specs.Prelude.{Option, unwrap_or}
use Rattle.encodings.specs.Parser.{type_end, row, RowPut}

-- Four words written over a part of a buffer.
pub row_put : (l : List ℕ) (k from : ℕ) (offset : Option ℕ) (end : ℕ) {mid : ℕ} {part : List ℕ} → 4 * k + 4 ≤ length l → mid ≡ type_end offset end
    → part ≡ from ∷ (mid - from) ∷ unwrap_or offset 0 ∷ (end - mid) ∷ []
    → RowPut k from offset end l (put_mid (4 * k) (4 * k + 4 - 4 * k) l part)
row_put l k from offset end {part = part} h e p =
    let w : put_mid (4 * k) (4 * k + 4 - 4 * k) l part ≡ sets l (4 * k) (row from offset end) =
    rw (p, e, Post-is (4 * k) (4 * k + 4) l (omega arith))
    (sym (append_assoc (take (4 * k) l) (row from offset end) (drop (4 * k + 4) l))
    ∙ sym (sets-eq (row from offset end) l (4 * k) (omega arith))) in
    record { holds = λ f. w; same = ap length w ∙ length-sets l (4 * k) (row from offset end) }
