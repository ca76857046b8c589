-- `encoding::block` meets its contract. Name, payload and zeros make the body, the check the block.
use mathlib.Core.Path.{◌∙◌}
use Rattle.game.specs.promise.Lent.{asked}
use Rattle.format.specs.promise.Format.{plain}
use Rattle.format.proofs.BlockKinds.{kind_byte}
use Rattle.encoding.proofs.Whole.{body_put, block_put}
use Rattle.encoding.proofs.block.Goals as goal

pub returns : goal.returns
returns c =
    let f = plain (asked c.args.tables) in
    let kind = rw c.vertices-n.ensures at (kind_byte c.kind_of.result ∙ c.kind_of.ensures) in
    let used = rw c.vertices-n.ensures at c.used_of-used.ensures in
    block_put f _ (body_put f _ _ _ kind used c.requires.long c.name.ensures c.payload.ensures c.clear.ensures) c.seal.ensures
