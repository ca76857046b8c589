-- What `settle`, the engine, asks: any safe start. It gives what the rounds give (rounds/specs/parts/Settled).
use Rattle.std.specs.Prelude.{ℕ, ◌≡◌, List}
use Rattle.game.specs.promise.Tables.{game_of, Tables}
use Rattle.lists.specs.parts.Cells.{Filled}
use Rattle.space.specs.parts.Work.{nil}
use Rattle.space.specs.declared.desk.Desk.{Desk}
use Rattle.space.specs.parts.Desk.{Laid}
use Rattle.preds.specs.parts.Preds.{Preds}
use Rattle.step.specs.parts.State.{State}

-- all lines are empty, and who waits is as before
pub record NoLines (d d' : Desk) : Type 0 where
  pub laid : Laid d'
  pub empty : Filled d'.firsts nil
  pub waiting : d'.waiting ≡ d.waiting

-- a safe state, and the predecessor lists of the game
pub record Settleable (tables : Tables) (ins froms winners moves work : List ℕ) : Type 0 where
  pub state : State tables winners moves work
  pub preds : Preds (game_of tables) ins froms
