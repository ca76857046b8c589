-- `storage::marks::strange_mark` meets its contract. Row 11 is a scan; the invariant: no mark passed is strange.
use Rattle.storage.specs.promise.Faults.{Fault11}
use Rattle.refusal.specs.parts.Found.{Scanned}
use Rattle.storage.proofs.marks.strange_mark.Given as goal

abbrev pub invariant-loop-v : goal.invariant-loop-v
invariant-loop-v l = Scanned (Fault11 l.n l.winners) l.v
