use Rattle.listing.proofs.bundle.ranges_of.Goals as goal

pub returns : goal.returns
returns c = rw (c.word_at.ensures, c.word_at-2.ensures, c.word_at-3.ensures, c.word_at-4.ensures)
