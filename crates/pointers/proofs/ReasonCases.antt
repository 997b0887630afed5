-- Worked cases of absences, one for each reason that pointers make (document 02, note 2): a slot that no record names, a slot that
-- does not resolve, and a field whose address is over 64 bits.
use mathlib.Core.Path.{◌≡◌, refl}
use mathlib.Core.List.{[], ◌∷◌}
use Rattle.reads.specs.Outcome.{absent, choose, sum64}
use Rattle.reads.specs.Segment.{rows, lookup}
use Rattle.reads.specs.Place.{image_of, readable, word}
use Rattle.reads.specs.declared.answer.Reason.TheVariants.{Unresolved, Unreadable, FieldOverflow, NoRecord}
use Rattle.pointers.specs.Tables.{reading_new}
use Rattle.pointers.specs.Chain.{follow_from, follow}
use Rattle.pointers.specs.Slot.{rebase_at, bind_at, symbol_of, stored, resolve, pointer_at}
use Rattle.pointers.specs.ImageInfo.{image_info}

no_rebase_lem : rebase_at [] [] reading_new 0x1000 ≡ absent NoRecord
unfolding rebase_at follow follow_from choose
no_rebase_lem = refl

no_bind : symbol_of [] [] [] [] 0x1000 ≡ absent NoRecord
unfolding symbol_of bind_at follow follow_from choose
no_bind = refl

-- No rebase, and no byte there: the slot does not resolve, though the word's own reason is another.
no_word : stored (image_of [] []) 0x1000 ≡ absent Unreadable
unfolding stored word readable lookup rows choose
no_word = refl

not_resolved : resolve (image_of [] []) [] [] reading_new 0x1000 ≡ absent Unresolved
unfolding resolve rebase_at follow follow_from stored word readable lookup rows choose
not_resolved = refl

-- A field's address goes before its slot.
field_over_64 : pointer_at (image_of [] []) [] [] reading_new 0xFFFFFFFFFFFFFFF8 8 ≡ absent FieldOverflow
unfolding pointer_at sum64 choose
field_over_64 = refl

short_info : image_info (1 ∷ 2 ∷ []) ≡ absent Unreadable
unfolding image_info choose
short_info = refl
