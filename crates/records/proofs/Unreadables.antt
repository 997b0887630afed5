-- A row whose bytes cannot be read is as absent as they are.
use Prim.Native.Nat.{ℕ}
use mathlib.Core.Path.{◌≡◌}
use Rattle.reads.specs.Answer.{missed}
use Rattle.reads.specs.Place.{readable}
use Rattle.reads.specs.declared.answer.Missing.{Missing}
use Rattle.reads.specs.declared.answer.Missing.TheVariants.{Absent, Refused}
use Rattle.reads.specs.declared.place.Place.{Place}
use Rattle.pointers.specs.Tables.{Tables, image_in}
use Rattle.records.specs.List.{least}
use Rattle.records.specs.Row.{decode_legacy_method, decode_small_method, decode_ivar, decode_property, decode_row, row_at}
use Rattle.records.specs.declared.list.RowKind.{RowKind}
use Rattle.records.specs.declared.list.RowKind.TheVariants as rows
use Rattle.records.specs.declared.row.Row.{Row}

pub row_unreadable : (t : Tables) (kind : RowKind) (va : ℕ) (x : Missing) → missed {A = Place} x ≡ readable (image_in t) va (least kind)
    → missed {A = Row} x ≡ row_at t kind va
unfolding decode_row decode_legacy_method decode_small_method decode_ivar decode_property
row_unreadable t rows.Legacy va (Absent r) e = rw (← e)
row_unreadable t rows.Legacy va (Refused k) e = rw (← e)
row_unreadable t rows.SmallIndirect va (Absent r) e = rw (← e)
row_unreadable t rows.SmallIndirect va (Refused k) e = rw (← e)
row_unreadable t rows.SmallDirect va (Absent r) e = rw (← e)
row_unreadable t rows.SmallDirect va (Refused k) e = rw (← e)
row_unreadable t rows.Ivar va (Absent r) e = rw (← e)
row_unreadable t rows.Ivar va (Refused k) e = rw (← e)
row_unreadable t rows.Property va (Absent r) e = rw (← e)
row_unreadable t rows.Property va (Refused k) e = rw (← e)
