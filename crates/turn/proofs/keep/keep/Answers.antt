-- `turn::keep::keep` meets its contract: the move and the level that are recorded, and the law of a store into the flags (Flags).
use native.Mathlib.Omega.{arith}
use Rattle.levels.proofs.Floors.{level_set, level_only}
use Rattle.space.proofs.Flags.{flag_set}
use Rattle.turn.proofs.keep.keep.Goals as goal

pub set_level-requires : goal.set_level-requires
set_level-requires c = omega (arith, c.requires.vertex, c.requires.small)

pub set_flag-requires : goal.set_flag-requires
set_flag-requires c = let p = c.requires in record { small = p.small; long = p.work_long; within = p.vertex }

pub returns : goal.returns
returns c = let p = c.requires in
    record { moved = c.record_move.ensures; levelled = level_set _ _ c.set_level.ensures p.laid (omega (arith, p.vertex, p.small)); only = level_only _ _ c.set_level.ensures p.laid; flagged = flag_set p.work_long p.vertex c.set_flag.ensures }
