-- What the part after acceptance asks and gives.
use Rattle.std.specs.Prelude.{ℕ, ◌<◌, ◌≡◌, List, length}
use Rattle.lists.specs.parts.Cells.{Filled}
use Rattle.game.specs.promise.Tables.{vertices, game_of}
use Rattle.storage.specs.promise.Answer.{mark_of, move_of}
use Rattle.game.specs.promise.Lent.{Fit}
use Rattle.storage.specs.promise.Lent.{Lent}
use Rattle.winning.specs.promise.Faults.{Accepted}
use Rattle.solver.specs.promise.Solving.{Written}
use Rattle.amend.specs.promise.Amended.{CountOf}
use Rattle.redo.specs.promise.Redone.{Redone, OldLine}
use Rattle.inputs.specs.promise.Inputs.{Input, update_sizes}
use Rattle.amend.specs.parts.Marking.{Paired}

-- the games and buffers have passed every test, the old answer is accepted, the work space is all zero; and room for predecessor lists
pub record Redoable (i : Input) (lent : Lent) (ins froms : List ℕ) : Type 0 where
  pub paired : Paired i.first i.second
  pub fit : Fit (update_sizes i lent)
  pub accepted : Accepted (game_of i.first) (mark_of i.old.winners) (move_of i.old.moves)
  pub blank : Filled lent.work 0
  pub ins_long : length ins ≡ 2049
  pub froms_long : length froms ≡ 16384

-- the number of vertices that the amendment reaches, and a solution in which the others have their old lines
pub record RedoneTo (i : Input) (before after : Lent) (count : ℕ) : Type 0 where
  pub counted : CountOf (Redone i) (vertices i.first) count
  pub written : Written i.second before after
  pub kept : (v : ℕ) → v < vertices i.first → ¬ Redone i v → OldLine i.old after.answer v
