-- `engine::settle` meets its contract: the open vertices line up, the levels are the priorities, and then the rounds run (LinedUp).
use Rattle.engine.proofs.LinedUp.{fillable, runnable, settled_from}
use Rattle.engine.proofs.settle.Goals as goal

pub line_up-requires : goal.line_up-requires
line_up-requires c = fillable c.requires c.blank-desk.ensures.nobody c.no_lines.ensures

pub run-requires : goal.run-requires
run-requires c = runnable c.requires c.line_up.ensures c.by_priority.ensures

pub returns : goal.returns
returns c = settled_from c.requires c.line_up.ensures c.run.ensures
