-- What a probe asks.
use Rattle.std.specs.Prelude.{ℕ, List}
use Rattle.game.specs.promise.Tables.{Tables, vertices}
use Rattle.space.specs.parts.Work.{section}
use Rattle.space.specs.declared.desk.Desk.{Desk}
use Rattle.waiting.specs.parts.Open.{LeastOpen}
use Rattle.step.specs.parts.Stepping.{Engine}

-- the engine, and an open vertex of least priority
pub record Probable (v : ℕ) (tables : Tables) (ins froms : List ℕ) (d : Desk) (winners moves work : List ℕ) : Type 0 where
  pub engine : Engine tables ins froms d winners moves work
  pub least : LeastOpen (vertices tables) tables.priorities (section 0 (vertices tables) work) v
