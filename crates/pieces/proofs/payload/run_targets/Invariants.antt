-- `pieces::payload::run_targets` meets its contract. Invariant: the targets before this one stand in the part.
use Prim.Native.Nat.{◌+◌, ◌-◌, ◌*◌}
use Rattle.format.specs.parts.Put.{Put}
use Rattle.pieces.specs.parts.Pieces.{target_at}
use Rattle.pieces.proofs.payload.run_targets.Given as goal

abbrev pub invariant-loop-e : goal.invariant-loop-e
invariant-loop-e l = Put 6 (6 + 2 * (l.e - l.first)) (target_at l.targets l.first) l.initial.part l.part
