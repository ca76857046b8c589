-- `storage::vertex::test_vertex` meets its contract. A scan of the stretch; the invariant: no successor passed is marked for the owner.
use Rattle.storage.specs.promise.Answer.{mark_of}
use Rattle.storage.specs.parts.Answers.{MarkedFor}
use Rattle.refusal.specs.parts.Found.{Scanned}
use Rattle.storage.proofs.vertex.test_vertex.Given as goal

abbrev pub invariant-loop-w : goal.invariant-loop-w
invariant-loop-w l = Scanned (MarkedFor l.bit (mark_of l.winners) l.stretch) l.w-index
