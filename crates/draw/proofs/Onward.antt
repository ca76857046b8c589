-- The engine under another pile.
use Prim.Native.Nat.{ℕ}
use mathlib.Core.List.{List}
use Rattle.game.specs.promise.Tables.{Tables}
use Rattle.space.specs.declared.desk.Desk.{Desk}
use Rattle.waiting.proofs.Standings.{standing_lines}
use Rattle.step.specs.parts.Stepping.{Engine}
use Rattle.pile.specs.parts.Pile.{PileOnly}

-- the engine does not read the pile
pub engine_pile : {tables : Tables} {ins froms : List ℕ} {d d' : Desk} {winners moves work : List ℕ} → PileOnly d d' → Engine tables ins froms d winners moves work → Engine tables ins froms d' winners moves work
engine_pile o e =
    record {
      state = e.state;
      preds = e.preds;
      standing = standing_lines e.standing o.laid e.standing.work_long (rw (o.waiting, o.firsts, o.lasts) e.standing.lines);
      covered = rw o.waiting e.covered;
      levelled = rw o.levels e.levelled;
    }
