-- `pieces::payload::run_vertices` meets its contract. Invariant: the vertices before this one stand in the part.
use Prim.Native.Nat.{◌+◌, ◌-◌, ◌*◌}
use Rattle.game.specs.promise.Lent.{asked}
use Rattle.format.specs.parts.Put.{Put}
use Rattle.pieces.specs.parts.Pieces.{vertex_at}
use Rattle.pieces.proofs.payload.run_vertices.Given as goal

abbrev pub invariant-loop-v : goal.invariant-loop-v
invariant-loop-v l = Put 6 (6 + 4 * (l.v - l.first)) (vertex_at (asked l.tables) l.first) l.initial.part l.part
