-- What the code's listing and its answers mean in the words of the definitions.
use Rattle.std.specs.Prelude.{ℕ, List, Result, Ok, Err}
use Rattle.reads.specs.Outcome.{Outcome, value, refused}
use Rattle.walks.specs.Sections.{record_answer, class_walk, category_walk, protocol_walk}
use Rattle.listing.specs.Listing.{Begun, begun, SectionWalk, walks, SectionLeft, State, state, Answer, says, lacks, nothing, ended, Left, leaves}
use Rattle.walks.specs.declared.section_slots.CategorySlots.{CategorySlots}
use Rattle.walks.specs.declared.section_slots.ClassSlots.{ClassSlots}
use Rattle.walks.specs.declared.section_slots.ProtocolSlots.{ProtocolSlots}
use Rattle.walks.specs.declared.sections.RecordWalk.{RecordWalk}
use Rattle.listing.specs.declared.listing.Listed.{Listed}
use Rattle.listing.specs.declared.listing.Listing.{Listing}
use Rattle.reads.specs.declared.answer.Question.{Question}
use Rattle.listing.specs.declared.listing.Said.{Said}
use Rattle.listing.specs.declared.listing.Said.TheVariants as said
use Rattle.listing.specs.declared.section.Section.{Section}
use Rattle.listing.specs.declared.section.SectionStepped.{SectionStepped}
use Rattle.listing.specs.declared.section.Stage.{Stage}
use Rattle.listing.specs.declared.section.Stage.TheVariants as a_stage

-- The stages of a section in their order.
abbrev pub stage_number : Stage → ℕ
stage_number a_stage.Classes = 0
stage_number a_stage.Protocols = 1
stage_number a_stage.Categories = 2

-- Each walk of a section.
abbrev pub class_begun : RecordWalk ClassSlots → Begun
class_begun w = begun w.setting (class_walk w)

abbrev pub protocol_begun : RecordWalk ProtocolSlots → Begun
protocol_begun w = begun w.setting (protocol_walk w)

abbrev pub category_begun : RecordWalk CategorySlots → Begun
category_begun w = begun w.setting (category_walk w)

abbrev pub section_walk_of : Section → SectionWalk
section_walk_of s = walks (stage_number s.stage) (class_begun s.classes) (protocol_begun s.protocols) (category_begun s.categories)

-- What a section step gives, with a ledger.
abbrev pub section_left_of : SectionStepped → List ℕ → SectionLeft
section_left_of r l = record { answer = record_answer r.taken; section = section_walk_of r.section; ledger = l }

-- The entries settled are a number of 128 bits.
abbrev pub state_of : Listing → State
state_of s = state s.setting s.at (section_walk_of s.section) s.records s.settled

abbrev pub answer_of : Said → Answer
answer_of (said.Line x) = says x
answer_of (said.Absent x) = lacks x
answer_of said.Nothing = nothing
answer_of said.Ended = ended

abbrev pub said_of : Result Said Question → Outcome Answer
said_of (Ok s) = value (answer_of s)
said_of (Err k) = refused k

-- The answer of a step, with the listing then and a ledger.
abbrev pub left_in : Listing → Result Said Question → List ℕ → Left
left_in s r l = leaves (said_of r) (state_of s) l

abbrev pub left_of : Listed → List ℕ → Left
left_of r l = left_in r.listing r.said l
