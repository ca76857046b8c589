-- `answers::escapes::is_escape` meets its contract. A scan of the stretch; the invariant: every successor passed has the mark.
use lib.ListN.{get_or}
use Prim.Native.Nat.{ℕ, ◌<◌}
use Rattle.storage.specs.promise.Answer.{mark_of}
use mathlib.Core.Path.{◌≡◌}
use Rattle.answers.proofs.escapes.is_escape.Given as goal

abbrev pub invariant-loop-w : goal.invariant-loop-w
invariant-loop-w l = (k : ℕ) → k < l.w-index → mark_of l.winners (get_or l.stretch k 0) ≡ l.p
