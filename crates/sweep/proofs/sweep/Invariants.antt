-- `sweep::sweep` meets its contract. The invariant, `Going`, line by line downwards.
use Rattle.game.specs.promise.Lent.{asked}
use Prim.Native.Nat.{◌≤◌}
use Rattle.attract.proofs.Drains.{Going}
use Rattle.sweep.proofs.sweep.Given as goal

abbrev pub invariant-loop-k : goal.invariant-loop-k
invariant-loop-k l = (l.p ≤ 256) × Going l.budget l.left 0 (asked l.tables) l.preds.ins.now l.preds.froms.now l.initial.winners l.initial.moves l.initial.work l.desk l.winners l.moves l.work

abbrev pub decreases-loop-k : goal.decreases-loop-k
decreases-loop-k l = l.p
