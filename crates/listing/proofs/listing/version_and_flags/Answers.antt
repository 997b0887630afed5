use Rattle.listing.proofs.listing.version_and_flags.Goals as goal

pub returns : goal.returns
returns c = rw (c.u32_from-version.ensures, c.u32_from-flags.ensures)
