-- Words copied into a table.
use Prim.Native.Nat.{ℕ, ◌+◌, ◌≤◌}
use mathlib.Core.Path.{◌≡◌, sym, ap, ◌∙◌}
use mathlib.Core.List.{List, ◌++◌, append_assoc}
use lib.ListN.{length, take, drop}
use lib.Seq.{sets, sets-eq, drop-drop}
use borrow.Rule.Slice.PartMut.{put_mid}

pub copied : (table : List ℕ) (from k : ℕ) (words e : List ℕ) → k ≡ length words → from + length words ≤ length table → e ≡ words
    → put_mid from k table e ≡ sets table from words
copied table from k words e f h p =
    rw (f, p) (ap (λ (l : List ℕ). take from table ++ (words ++ l)) (drop-drop (length words) from table)
    ∙ sym (append_assoc (take from table) words (drop (from + length words) table)) ∙ sym (sets-eq words table from h))
