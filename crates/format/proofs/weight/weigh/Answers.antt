-- `format::weight::weigh` meets its contract. All 510 terms are passed at the end.
use Prim.Native.Nat.{ℕ, ◌+◌, ◌*◌}
use mathlib.Core.Path.{◌≡◌, subst}
use native.Mathlib.Omega.{arith}
use Rattle.lists.specs.promise.Sequence.{sum_to}
use Rattle.format.specs.promise.Filed.{byte_at}
use Rattle.format.proofs.weight.weigh.Goals as goal

-- written out, so that other weights are refused here and not at a limit
pub loop-i-preserved : goal.loop-i-preserved
loop-i-preserved c = grind arith

pub returns : goal.returns
returns c =
    let all : c.loop-i.i ≡ 510 = omega arith in
    record { is = subst (λ (k : ℕ). c.loop-i.sum ≡ sum_to k (λ k. (k + 1) * byte_at c.args.file.now (c.args.from + k))) all c.loop-i.invariant.1 }
