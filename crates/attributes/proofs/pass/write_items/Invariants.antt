-- The invariant: with the words of the chosen items that are left stored, the buffer is the one with the words of all of them.
use Rattle.attributes.specs.Pass.{chosen_left_of}
use Rattle.attributes.proofs.Passes.{Filling}
use Rattle.attributes.proofs.pass.write_items.Given as goal

abbrev pub invariant-loop-i : goal.invariant-loop-i
invariant-loop-i l = Filling (chosen_left_of l.fn.handed) l.initial.buffer (chosen_left_of l.i-iterator.iter) l.i-iterator.count l.buffer
