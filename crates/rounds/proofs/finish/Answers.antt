-- `rounds::finish` meets its contract: each turn brings the measure down, and when nothing is open the answer is accepted (Running).
use Rattle.step.proofs.Moving.{moved_more}
use Rattle.rounds.proofs.Running.{settled_all, ran_done}
use Rattle.rounds.proofs.finish.Goals as goal

pub returns-in-Done : goal.returns-in-Done
returns-in-Done c = settled_all c.requires (moved_more c.loop.invariant c.lowest-last.ensures.ran.moved) (ran_done c.in-Done.is c.lowest-last.ensures.ran)

pub loop-preserved : goal.loop-preserved
loop-preserved c = moved_more c.loop.invariant c.lowest-last.ensures.ran.moved
