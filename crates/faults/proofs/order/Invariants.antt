-- `faults::order` meets its contract. Row 7 is a scan of the vertices; a place in a stretch becomes a place in the targets (Ordered).
use Rattle.faults.proofs.Ordered.{Unordered}
use Rattle.refusal.specs.parts.Found.{Scanned}
use Rattle.faults.proofs.order.Given as goal

abbrev pub invariant-loop-v : goal.invariant-loop-v
invariant-loop-v l = Scanned (Unordered l.starts l.targets) l.v
