-- `decoding::turn::turn` meets its contract: those passed are turned, the others as filed.
use Prim.Native.Nat.{ℕ, ◌-◌, ◌<◌, ◌≤◌}
use mathlib.Core.Path.{◌≡◌}
use lib.ListN.{get_or}
use Rattle.decoding.proofs.turn.turn.Given as goal

abbrev pub invariant-loop-p : goal.invariant-loop-p
invariant-loop-p l = ((k : ℕ) → k < l.p-index → get_or l.p-items k 0 ≡ l.top - get_or l.fn.table k 0) × ((k : ℕ) → l.p-index ≤ k → k < l.n → get_or l.p-items k 0 ≡ get_or l.fn.table k 0)
