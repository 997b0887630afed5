-- A step of a section walk for C: the state of the walk in words, and its answer with the words of the state after it.
use Rattle.std.specs.Prelude.{ℕ}
use Rattle.walks.specs.Sections.{Walk, walk, Left}
use Rattle.records.specs.declared.category.ObjcCategory.{ObjcCategory}
use Rattle.records.specs.declared.class.ObjcClass.{ObjcClass}
use Rattle.records.specs.declared.protocol.ObjcProtocol.{ObjcProtocol}
use Rattle.face.specs.Decoding.{class_told, category_told, protocol_told}
use Rattle.face.specs.declared.sections.WalkWords.{WalkWords}
use Rattle.face.specs.declared.sections.ClassWalked.{ClassWalked}
use Rattle.face.specs.declared.sections.CategoryWalked.{CategoryWalked}
use Rattle.face.specs.declared.sections.ProtocolWalked.{ProtocolWalked}

-- The walk that a state says. Only over classes may an address wait, and over protocols no ledger is in use: there these words count as 0.
abbrev pub class_state : WalkWords → Walk
class_state w = walk w.slot w.used w.highest w.waiting

abbrev pub category_state : WalkWords → Walk
category_state w = walk w.slot w.used w.highest 0

abbrev pub protocol_state : WalkWords → Walk
protocol_state w = walk w.slot 0 0 0

-- The state of a walk, which keeps the word of its reading.
abbrev pub walk_words : ℕ → Walk → WalkWords
walk_words old w =
    record {
      slot = w.slot;
      used = w.used;
      highest = w.highest;
      waiting = w.waiting;
      old_reading = old;
    }

abbrev pub class_walked : ℕ → Left ObjcClass → ClassWalked
class_walked old l = record { told = class_told l.answer; walk = walk_words old l.walk }

abbrev pub category_walked : ℕ → Left ObjcCategory → CategoryWalked
category_walked old l = record { told = category_told l.answer; walk = walk_words old l.walk }

abbrev pub protocol_walked : ℕ → Left ObjcProtocol → ProtocolWalked
protocol_walked old l = record { told = protocol_told l.answer; walk = walk_words old l.walk }
