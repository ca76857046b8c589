-- `start::fresh::open_all` meets its contract. The invariant, `Opening`: the vertices below v are open, and not reached by a closure.
use Rattle.start.proofs.Opening.{Opening}
use Rattle.start.proofs.fresh.open_all.Given as goal

abbrev pub invariant-loop-v : goal.invariant-loop-v
invariant-loop-v l = Opening l.priorities l.initial.winners l.initial.work l.winners l.work l.v
