-- The engine's state, what a step makes of it, and what many steps do.
use Rattle.std.specs.Prelude.{ℕ, ◌<◌, ◌≡◌, List, length}
use Rattle.player.specs.promise.Player.{IsPlayer}
use Rattle.game.specs.promise.Tables.{game_of, Tables, vertices}
use Rattle.storage.specs.promise.Answer.{mark_of, move_of}
use Rattle.justification.specs.parts.Safe.{Onward, Eligible, Levelled}
use Rattle.justification.specs.parts.Step.{TestGives}
use Rattle.justification.specs.parts.Measure.{measure}
use Rattle.space.specs.parts.Work.{section}
use Rattle.space.specs.declared.desk.Desk.{Desk}
use Rattle.preds.specs.parts.Preds.{Preds}
use Rattle.waiting.specs.parts.Lines.{Covered}
use Rattle.waiting.specs.parts.Moves.{Standing}
use Rattle.levels.specs.parts.Levels.{settled_of, level_of}
use Rattle.step.specs.parts.State.{State, Carried}

-- a state with the predecessor lists of the game, the lines, in which every open vertex waits, and the levels of the settled ones
pub record Engine (tables : Tables) (ins froms : List ℕ) (d : Desk) (winners moves work : List ℕ) : Type 0 where
  pub state : State tables winners moves work
  pub preds : Preds (game_of tables) ins froms
  pub standing : Standing (vertices tables) tables.priorities d work
  pub covered : Covered (vertices tables) (section 0 (vertices tables) work) d.waiting
  pub levelled : Levelled (game_of tables) (mark_of winners) (move_of moves) (settled_of (vertices tables) work) (level_of d.levels)

-- the winner p, the move m and the level k fit v: it is open, the test by its successors gives them, and supports stay above v's priority and k
pub record Fitting (v p m k : ℕ) (tables : Tables) (winners moves work : List ℕ) : Type 0 where
  pub player : IsPlayer p
  pub tested : TestGives (game_of tables) (mark_of winners) v p m
  pub eligible : Eligible (game_of tables) (mark_of winners) (move_of moves) (settled_of (vertices tables) work) v p m
  pub onward : Onward (game_of tables) (mark_of winners) (move_of moves) (settled_of (vertices tables) work) v p m k

-- the engine after any number of steps: kept sets are kept
pub record Moved (tables : Tables) (ins froms winners moves work : List ℕ) (d' : Desk) (winners' moves' work' : List ℕ) : Type 0 where
  pub engine : Engine tables ins froms d' winners' moves' work'
  pub winners_long : length winners' ≡ length winners
  pub carried : Carried tables winners moves work winners' moves' work'

-- the measure of a state is smaller than before
pub record Falls (tables : Tables) (winners work winners' work' : List ℕ) : Type 0 where
  pub less : measure (game_of tables) (mark_of winners') (settled_of (vertices tables) work') < measure (game_of tables) (mark_of winners) (settled_of (vertices tables) work)
