-- `rounds::finish` meets its contract: each turn brings the measure down, and when nothing is open the answer is accepted (Running).
use Rattle.game.specs.promise.Lent.{asked}
use lib.ListN.{length}
use Rattle.game.specs.promise.Tables.{game_of}
use Rattle.storage.specs.promise.Answer.{mark_of}
use Rattle.justification.specs.parts.Measure.{measure}
use Rattle.levels.specs.parts.Levels.{settled_of}
use Rattle.step.specs.parts.Stepping.{Moved}
use Rattle.rounds.proofs.finish.Given as goal

abbrev pub invariant-loop : goal.invariant-loop
invariant-loop l = Moved (asked l.tables) l.preds.ins.now l.preds.froms.now l.initial.winners l.initial.moves l.initial.work l.desk l.winners l.moves l.work

abbrev pub decreases-loop : goal.decreases-loop
decreases-loop l = measure (game_of (asked l.tables)) (mark_of l.winners) (settled_of (length l.tables.owners.now) l.work)
