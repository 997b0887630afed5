use Rattle.listing.proofs.section.Section.at_stage.Goals as goal

pub returns : goal.returns
returns c =
    let categories = c.starting-3.ensures in
    let protocols = c.starting-2.ensures in
    let classes = c.starting.ensures in
    rw (categories.0, categories.1, protocols.0, protocols.1, classes.0, classes.1)
