-- `decoding::fields::fill` meets its contract: the cells passed are as the function says.
use Prim.Native.Nat.{ℕ, ◌<◌}
use Rattle.std.proofs.Common.{slice_index_or}
use Rattle.decoding.proofs.fields.fill.Given as goal

abbrev pub invariant-loop-k : goal.invariant-loop-k
invariant-loop-k g l = (j : ℕ) (d : _) → j < l.k → goal.F-post g l.value j (slice_index_or l.part j d)
