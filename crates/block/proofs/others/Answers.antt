-- `block::others` meets its contract: where byte 3, the used count and the rule are right, an unused byte decides.
use Rattle.std.proofs.Common.{◌≡◌, ◌+◌, ◌*◌, ◌≤◌, arith}
use Rattle.format.specs.promise.Format.{used_of}
use Rattle.format.specs.promise.Filed.{byte_at, word_at, vertices_filed, edges_filed, rule_filed}
use Rattle.block.proofs.BlockTests.{stain_decides}
use Rattle.block.proofs.others.Goals as goal

pub returns : goal.returns
returns c =
    let file = c.args.file.now in
    let b = c.args.b in
    let byte3 : byte_at file (512 * b + 3) ≡ 0 = grind arith in
    let used : word_at file (512 * b + 4) ≡ c.used_of-used.result = grind arith in
    let right : c.used_of-used.result ≡ used_of (vertices_filed file) (edges_filed file) b = grind arith in
    let rule : b ≡ 0 → rule_filed file ≤ 1 = λ z. grind arith in
    stain_decides file b _ _ _ byte3 used right rule c.stain.ensures c.and.ensures
