-- `attraction::attraction` meets its contract. The invariant, `Going`: the engine has moved, and no more is left of the budget than there was.
use Rattle.game.specs.promise.Lent.{asked}
use Rattle.attract.proofs.Drains.{Going}
use Rattle.attraction.proofs.attraction.Given as goal

abbrev pub invariant-loop-left : goal.invariant-loop-left
invariant-loop-left l = Going l.budget l.left 0 (asked l.tables) l.preds.ins.now l.preds.froms.now l.initial.winners l.initial.moves l.initial.work l.desk l.winners l.moves l.work

abbrev pub decreases-loop-left : goal.decreases-loop-left
decreases-loop-left l = l.left
