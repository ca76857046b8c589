-- The engine after no step, after more steps, and after a change of the lines alone.
use Prim.Native.Nat.{ℕ}
use mathlib.Core.Path.{◌≡◌, refl, ◌∙◌}
use mathlib.Core.List.{List}
use Rattle.game.specs.promise.Tables.{Tables, vertices}
use Rattle.space.specs.parts.Work.{section}
use Rattle.space.specs.declared.desk.Desk.{Desk}
use Rattle.waiting.specs.parts.Lines.{Covered}
use Rattle.waiting.specs.parts.Moves.{Standing}
use Rattle.step.specs.parts.Stepping.{Engine, Moved}
use Rattle.step.proofs.Carry.{carried_none, carried_more}

module _ {tables : Tables} {ins froms : List ℕ} where
  pub moved_none :
      {d : Desk} {winners moves work : List ℕ} →
      Engine tables ins froms d winners moves work →
      Moved tables ins froms winners moves work d winners moves work
  moved_none e = record { engine = e; winners_long = refl; carried = carried_none }

  pub moved_more :
      {winners moves work : List ℕ} {d' : Desk} {winners' moves' work' : List ℕ} {d'' : Desk} {winners'' moves'' work'' : List ℕ} →
      Moved tables ins froms winners moves work d' winners' moves' work' →
      Moved tables ins froms winners' moves' work' d'' winners'' moves'' work'' →
      Moved tables ins froms winners moves work d'' winners'' moves'' work''
  moved_more a b = record { engine = b.engine; winners_long = b.winners_long ∙ a.winners_long; carried = carried_more a.carried b.carried }

  -- who waits where is no part of the state
  pub moved_lines :
      {d : Desk} {winners moves work : List ℕ} {d' : Desk} →
      Engine tables ins froms d winners moves work →
      Standing (vertices tables) tables.priorities d' work →
      Covered (vertices tables) (section 0 (vertices tables) work) d'.waiting →
      d'.levels ≡ d.levels →
      Moved tables ins froms winners moves work d' winners moves work
  moved_lines e s c same =
      moved_none
      (record { state = e.state; preds = e.preds; standing = s; covered = c; levelled = rw same e.levelled })
