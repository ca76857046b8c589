-- `decoding::turn::highest` meets its contract.
use Prim.Native.Nat.{max}
use mathlib.Core.Path.{◌≡◌}
use native.Mathlib.Omega.{arith}
use Rattle.std.specs.List.{fold}
use Rattle.std.proofs.lemmas.Grind.{common_steps}
use Rattle.decoding.proofs.Topping.{fold_highest}
use Rattle.decoding.proofs.turn.highest.Goals as goal

pub returns : goal.returns
returns c =
    let passed : c.fold.result ≡ fold (λ t p. max t p) 0 c.args.priorities.now = grind (arith, common_steps) in
    omega (arith, passed, fold_highest 0 c.args.priorities.now)
