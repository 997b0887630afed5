use Rattle.listing.proofs.bundle.counts_of.Goals as goal

pub returns : goal.returns
returns c = rw (c.count_at.ensures, c.count_at-2.ensures, c.count_at-3.ensures, c.count_at-4.ensures, c.count_at-5.ensures, c.count_at-6.ensures, c.count_at-7.ensures)
