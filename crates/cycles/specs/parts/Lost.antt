-- What the test 14 asks.
use Rattle.std.specs.Prelude.{ℕ, ◌*◌, ◌≡◌, List, length}
use Rattle.refusal.specs.promise.Row.{NoPlace}
use Rattle.lists.specs.parts.Cells.{Filled}
use Rattle.game.specs.promise.Tables.{Tables, vertices, game_of}
use Rattle.storage.specs.promise.Answer.{Answer, mark_of, move_of}
use Rattle.storage.specs.promise.Faults.{Fault11}
use Rattle.winning.specs.promise.Faults.{Fault12, Fault13}
use Rattle.preds.specs.parts.Preds.{Preds}
use Rattle.answers.specs.parts.Answered.{Answered}

module _ (t : Tables) (a : Answer) where
  -- none of 11 to 13 applies
  pub record PassedTo14 : Type 0 where
    pub answered : Answered t a
    pub no11 : NoPlace (Fault11 (vertices t) a.winners)
    pub no12 : NoPlace (Fault12 (game_of t) (mark_of a.winners) (move_of a.moves))
    pub no13 : NoPlace (Fault13 (game_of t) (mark_of a.winners) (move_of a.moves))

  -- besides, the game's predecessor lists and a work space all zero
  pub record LostAsked (ins froms work : List ℕ) : Type 0 where
    pub passed : PassedTo14
    pub preds : Preds (game_of t) ins froms
    pub work_long : length work ≡ 4 * vertices t
    pub zero : Filled work 0
