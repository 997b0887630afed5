-- A list that is there, with its header: its layout, or why it is missing.
use Rattle.std.specs.Prelude.{Result, Ok, Err}
use Rattle.reads.specs.Answer.{missed}
use Rattle.reads.specs.Outcome.{Outcome, value}
use Rattle.reads.specs.declared.answer.Missing.{Missing}
use Rattle.records.specs.declared.list.Layout.{Layout}
use Rattle.records.specs.declared.open_list.OpenList.{OpenList}

abbrev pub layout_of : Result OpenList Missing → Outcome Layout
layout_of (Ok l) = value l.layout
layout_of (Err m) = missed m
