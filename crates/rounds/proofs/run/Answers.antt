-- `rounds::run` meets its contract: the engine goes on from round to round (Onward), and where nothing is open the answer is accepted (Running).
use Rattle.step.proofs.Moving.{moved_more}
use Rattle.rounds.proofs.Running.{settled_all, ran_done}
use Rattle.rounds.proofs.Onward.{round_again, settled_after}
use Rattle.rounds.proofs.run.Goals as goal

pub returns-in-Done : goal.returns-in-Done
returns-in-Done c = settled_all c.requires.engine (moved_more c.loop.invariant.moved c.round-ended.ensures.moved) (ran_done c.in-Done.is c.round-ended.ensures)

pub loop-preserved : goal.loop-preserved
loop-preserved c = round_again c.loop.invariant c.round-ended.ensures c.restart.ensures

pub returns : goal.returns
returns c = settled_after c.requires.engine c.loop.invariant.moved c.finish.ensures
