-- `orders::lowest::lowest` meets its contract. The invariant, `Lowering`: the engine has moved, and nothing below the cursor is open.
use Rattle.game.specs.promise.Lent.{asked}
use Rattle.orders.proofs.Running.{Lowering}
use Rattle.orders.proofs.lowest.lowest.Given as goal

abbrev pub invariant-loop : goal.invariant-loop
invariant-loop l = Lowering l.low l.counter (asked l.tables) l.preds.ins.now l.preds.froms.now l.initial.winners l.initial.moves l.initial.work l.desk l.winners l.moves l.work
