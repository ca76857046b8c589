-- `cycles::back::comes_back` meets its contract: by the move if there is one, else by a scan of the stretch (Comes).
use Prim.Native.Nat.{ℕ}
use mathlib.Core.Path.{◌≡◌}
use lib.ListN.{get_or}
use Rattle.refusal.specs.parts.Found.{Scanned}
use Rattle.space.specs.parts.Work.{section}
use Rattle.cycles.proofs.back.comes_back.Given as goal

abbrev pub invariant-loop-w : goal.invariant-loop-w
invariant-loop-w l = Scanned (λ (k : ℕ). get_or (section 1 l.n l.work) (get_or l.stretch k 0) 0 ≡ 1) l.w-index
