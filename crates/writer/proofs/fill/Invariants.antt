-- `writer::fill` meets its contract. Invariant `Blocks`: the blocks before this one stand in the output.
use Rattle.game.specs.promise.Lent.{asked}
use Rattle.format.specs.promise.Format.{plain}
use Rattle.writer.proofs.Blocks.{Blocks}
use Rattle.writer.proofs.fill.Given as goal

abbrev pub invariant-loop-b : goal.invariant-loop-b
invariant-loop-b l = Blocks (plain (asked l.tables)) l.file l.b
