-- Which lines of an answer an update decides anew, and which it keeps. (docs/RULES.md, The update)
use Rattle.std.specs.Prelude.{ℕ, ◌≡◌}
use Rattle.game.specs.promise.Tables.{game_of}
use Rattle.storage.specs.promise.Answer.{Answer, mark_of, move_of}
use Rattle.amend.specs.promise.Amended.{Reaches}
use Rattle.inputs.specs.promise.Inputs.{Input}

-- the amendment reaches v, so its line is decided anew
abbrev pub Redone : Input → ℕ → Type 0
Redone i = Reaches (game_of i.first) (game_of i.second)

-- v has its old line: winner and move
pub record OldLine (old new : Answer) (v : ℕ) : Type 0 where
  pub mark : mark_of new.winners v ≡ mark_of old.winners v
  pub move : move_of new.moves v ≡ move_of old.moves v
