-- `faults::stuck` meets its contract. Row 5 is a scan; the invariant: no vertex passed is stuck.
use Rattle.game.specs.promise.Faults.{Fault5}
use Rattle.refusal.specs.parts.Found.{Scanned}
use Rattle.faults.proofs.stuck.Given as goal

abbrev pub invariant-loop-v : goal.invariant-loop-v
invariant-loop-v l = Scanned (Fault5 l.n l.starts l.targets) l.v
