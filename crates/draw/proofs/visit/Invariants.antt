-- `draw::visit` meets its contract. The invariant: the engine has moved, and there is a pile.
use Rattle.game.specs.promise.Lent.{asked}
use Rattle.draw.specs.parts.Drawing.{Drawn}
use Rattle.draw.proofs.visit.Given as goal

abbrev pub invariant-loop-i : goal.invariant-loop-i
invariant-loop-i l = Drawn l.drawn.tail (asked l.tables) l.preds.ins.now l.preds.froms.now l.initial.winners l.initial.moves l.initial.work l.desk l.winners l.moves l.work
