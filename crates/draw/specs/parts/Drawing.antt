-- What attracting asks and gives: the engine goes on, and the pile holds vertices. Whom it attracts, and when, decides only how soon all is settled.
use Rattle.std.specs.Prelude.{ℕ, ◌<◌, List}
use Rattle.game.specs.promise.Game.{Edge}
use Rattle.game.specs.promise.Tables.{game_of, Tables, vertices}
use Rattle.space.specs.declared.desk.Desk.{Desk}
use Rattle.step.specs.parts.Stepping.{Engine, Moved}
use Rattle.pile.specs.parts.Pile.{Piled}

-- the engine, and a pile
pub record Drainable (tail : ℕ) (tables : Tables) (ins froms : List ℕ) (d : Desk) (winners moves work : List ℕ) : Type 0 where
  pub engine : Engine tables ins froms d winners moves work
  pub piled : Piled (vertices tables) d.pile tail

-- the engine, a pile, and a vertex
pub record DrawVisitable (u tail : ℕ) (tables : Tables) (ins froms : List ℕ) (d : Desk) (winners moves work : List ℕ) : Type 0 where
  pub drainable : Drainable tail tables ins froms d winners moves work
  pub vertex : u < vertices tables

-- the engine, a pile, and an edge
pub record Drawable (x u tail : ℕ) (tables : Tables) (ins froms : List ℕ) (d : Desk) (winners moves work : List ℕ) : Type 0 where
  pub drainable : Drainable tail tables ins froms d winners moves work
  pub edge : Edge (game_of tables) x u

-- the engine has moved, and there is a pile
pub record Drawn (tail : ℕ) (tables : Tables) (ins froms winners moves work : List ℕ) (d' : Desk) (winners' moves' work' : List ℕ) : Type 0 where
  pub moved : Moved tables ins froms winners moves work d' winners' moves' work'
  pub piled : Piled (vertices tables) d'.pile tail
