-- `reach::closure::close` meets its contract. The invariant, `ClosingIn`: whatever is reached has its reason, and all allowed steps to the first h
-- vertices of the queue start at reached vertices. The measure is n - h, since the queue never has more than n vertices.
use Prim.Native.Nat.{◌-◌}
use Rattle.reach.proofs.Closing.{ClosingIn}
use Rattle.reach.proofs.closure.close.Given as goal

abbrev pub invariant-loop-h : goal.invariant-loop-h
invariant-loop-h l = ClosingIn l.n l.preds.ins.now l.preds.froms.now l.choice l.bound l.initial.work l.work l.end l.h

abbrev pub decreases-loop-h : goal.decreases-loop-h
decreases-loop-h l = l.n - l.h
