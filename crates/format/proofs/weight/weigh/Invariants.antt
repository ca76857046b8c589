-- `format::weight::weigh` meets its contract. The sum of the terms passed, each at most 512 × 255.
use Prim.Native.Nat.{◌+◌, ◌*◌, ◌≤◌}
use mathlib.Core.Path.{◌≡◌}
use Rattle.lists.specs.promise.Sequence.{sum_to}
use Rattle.format.specs.promise.Filed.{byte_at}
use Rattle.format.proofs.weight.weigh.Given as goal

abbrev pub invariant-loop-i : goal.invariant-loop-i
invariant-loop-i l = (l.sum ≤ 130560 * l.i) × (l.sum ≡ sum_to l.i (λ k. (k + 1) * byte_at l.file (l.from + k)))
