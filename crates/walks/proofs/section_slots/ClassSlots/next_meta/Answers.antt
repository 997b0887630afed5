use Rattle.walks.proofs.Steps.{outcome_told}
use Rattle.walks.specs.Sections.{classes}
use Rattle.walks.proofs.SectionLaws.{waiting_no}
use Rattle.walks.proofs.section_slots.ClassSlots.next_meta.Goals as goal
use Rattle.reads.specs.Answer.{answered}

pub returns-in-Err : goal.returns-in-Err
returns-in-Err c = λ l e. waiting_no classes _ _ l {n = c.in-Err.k} (rw e (outcome_told answered c.ask_ledger.ensures.asked c.in-Err.is)) (rw (c.refused.ensures.0, c.refused.ensures.1))
