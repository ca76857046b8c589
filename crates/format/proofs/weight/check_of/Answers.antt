-- `format::weight::check_of` meets its contract. The weighted sum, reduced.
use Prim.Native.Nat.{ℕ, ◌%◌}
use mathlib.Core.Path.{ap}
use Rattle.format.proofs.weight.check_of.Goals as goal

pub returns : goal.returns
returns c = ap (λ (x : ℕ). x % 65521) c.weigh.ensures.is
