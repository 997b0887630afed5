-- The rows of a segment table that are left from row i on.
use Rattle.std.proofs.Common.{◌≡◌, ℕ, ◌+◌, ◌-◌, ◌<◌, ◌≤◌, List, [], ◌∷◌, length, sym, ap, ◌∙◌}
use native.Mathlib.Nat.{sub-zero}
use Rattle.reads.specs.Table.{records, tabulate}
use Rattle.reads.specs.Segment.{segment_words, segment_at, rows}
use Rattle.reads.specs.declared.segment.Segment.{Segment}
use Rattle.reads.proofs.Tabulates.{length_tabulate, tabulate_more, tabulate_none}

module _ (ws : List ℕ) where
  pub rows_all : tabulate (segment_at ws) 0 (records segment_words ws - 0) ≡ rows ws
  unfolding rows
  rows_all = rw sub-zero

  -- Of the row that the code has read.
  pub rows_read : (i : ℕ) → i < records segment_words ws → (s : Segment) → s ≡ segment_at ws i
      → tabulate (segment_at ws) i (records segment_words ws - i) ≡ s ∷ tabulate (segment_at ws) (i + 1) (records segment_words ws - (i + 1))
  rows_read i h s e =
      tabulate_more (segment_at ws) i (records segment_words ws) h
      ∙ ap (λ (r : Segment). r ∷ tabulate (segment_at ws) (i + 1) (records segment_words ws - (i + 1))) (sym e)

  pub rows_none : (i : ℕ) → records segment_words ws ≤ i → tabulate (segment_at ws) i (records segment_words ws - i) ≡ []
  rows_none i h = tabulate_none (segment_at ws) i (records segment_words ws) h

  pub rows_length : length (rows ws) ≡ records segment_words ws
  unfolding rows
  rows_length = length_tabulate (segment_at ws) 0 (records segment_words ws)
