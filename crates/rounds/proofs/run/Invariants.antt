-- `rounds::run` meets its contract: the engine goes on from round to round (Onward), and where nothing is open the answer is accepted (Running).
use Rattle.game.specs.promise.Lent.{asked}
use Rattle.draw.specs.parts.Drawing.{Drawn}
use Rattle.rounds.proofs.run.Given as goal

abbrev pub invariant-loop : goal.invariant-loop
invariant-loop l = Drawn 0 (asked l.tables) l.preds.ins.now l.preds.froms.now l.initial.winners l.initial.moves l.initial.work l.desk l.winners l.moves l.work
