-- `attract::drain` meets its contract. The invariant: the engine has moved, and there is a pile.
use Rattle.game.specs.promise.Lent.{asked}
use Rattle.draw.specs.parts.Drawing.{Drawn}
use Rattle.attract.proofs.drain.Given as goal

abbrev pub invariant-loop-left : goal.invariant-loop-left
invariant-loop-left l = Drawn l.pile.tail (asked l.tables) l.preds.ins.now l.preds.froms.now l.initial.winners l.initial.moves l.initial.work l.desk l.winners l.moves l.work
