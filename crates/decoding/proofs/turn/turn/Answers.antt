-- `decoding::turn::turn` meets its contract: those passed are turned, the others as filed.
use Prim.Native.Nat.{◌≤◌}
use mathlib.Core.Path.{◌≡◌, sym, ◌∙◌}
use native.Mathlib.Omega.{arith}
use native.Mathlib.Nat.{le_refl}
use lib.ListN.{length, take}
use lib.Seq.{length-take-le}
use Rattle.format.specs.promise.Filed.{rule_filed, priorities_filed}
use Rattle.format.proofs.Lists.{priorities_long}
use Rattle.format.proofs.Turning.{highest_above}
use Rattle.decoding.proofs.Turned.{top_highest, padded_turned}
use Rattle.decoding.proofs.turn.turn.Goals as goal

pub overflow_sub-p : goal.overflow_sub-p
overflow_sub-p c =
    let list = priorities_filed c.args.file.now in
    let long : c.vertices-n.result ≡ length list = c.vertices-n.ensures.is ∙ sym (priorities_long c.args.file.now) in
    let few : c.vertices-n.result ≤ 2048 = omega (arith, c.requires.0.few) in
    let first : length (take c.vertices-n.result c.args.table.now) ≡ c.vertices-n.result = length-take-le _ _ (omega (arith, c.requires.1.long)) in
    let i = c.loop-p.p-index in
    omega (arith, c.loop-p.invariant.1 i (le_refl i) (omega arith), c.requires.1.same i, highest_above list i, top_highest long few c.requires.1 c.highest-top.ensures)

pub returns : goal.returns
returns c =
    let long : c.vertices-n.result ≡ length (priorities_filed c.args.file.now) = c.vertices-n.ensures.is ∙ sym (priorities_long c.args.file.now) in
    let few : c.vertices-n.result ≤ 2048 = omega (arith, c.requires.0.few) in
    padded_turned (rule_filed c.args.file.now) _ (λ z. c.if-rule-eq0.false (c.rule.ensures ∙ z)) long few (top_highest long few c.requires.1 c.highest-top.ensures) c.requires.1 (omega arith) (λ k l. c.loop-p.invariant.0 k (omega arith))
