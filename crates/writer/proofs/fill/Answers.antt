-- `writer::fill` meets its contract. Invariant `Blocks`: the blocks before this one stand in the output.
use native.Mathlib.Omega.{arith}
use Rattle.game.specs.promise.Lent.{asked}
use Rattle.format.specs.promise.Format.{plain}
use Rattle.writer.proofs.Blocks.{blocks_more, blocks_all}
use Rattle.writer.proofs.fill.Goals as goal

pub loop-b-preserved : goal.loop-b-preserved
loop-b-preserved c =
    blocks_more (plain (asked c.args.tables)) _ _ _ (omega arith) c.loop-b.invariant c.block.ensures

pub returns : goal.returns
returns c = blocks_all (plain (asked c.args.tables)) _ _ (omega arith) c.loop-b.invariant
