-- A fresh start takes the engine to an engine.
use Prim.Native.Nat.{ℕ}
use mathlib.Core.Path.{◌≡◌, subst, ◌∙◌}
use mathlib.Core.List.{List}
use lib.ListN.{length}
use Rattle.game.specs.promise.Tables.{Tables, vertices}
use Rattle.storage.proofs.Stores.{still_stored}
use Rattle.space.specs.declared.desk.Desk.{Desk}
use Rattle.waiting.proofs.Standings.{standing_lines}
use Rattle.step.specs.parts.Stepping.{Engine, Moved}
use Rattle.restart.specs.parts.Restarting.{Restartable, RestartedIn}
use Rattle.restart.proofs.Resets.{safe, levelled, carried}

module _
    {tables : Tables} {ins froms : List ℕ} {d : Desk} {winners moves work : List ℕ}
    (s : Engine tables ins froms d winners moves work)
  where
    level : length tables.priorities ≡ vertices tables
    level = s.state.well_formed.level

    -- the fresh start asks what the engine has
    pub restartable : Restartable (length tables.priorities) tables.priorities ins froms d winners work
    restartable =
        rw level
        (record {
          standing = s.standing;
          covered = s.covered;
          stored = s.state.stored;
          unreached = s.state.unreached;
          back = s.preds.backward;
        })

    -- and gives an engine in which every kept set is kept
    pub restarted_moved :
        {d' : Desk} {winners' work' : List ℕ} →
        RestartedIn (length tables.priorities) tables.priorities ins froms moves winners work d' winners' work' →
        Moved tables ins froms winners moves work d' winners' moves work'
    restarted_moved {d'} {winners'} {work'} t₀ =
        record {
          engine =
              record {
                state =
                    record {
                      well_formed = s.state.well_formed;
                      stored = still_stored s.state.stored t.winners_long;
                      moves_long = s.state.moves_long;
                      work_long = t.long ∙ s.state.work_long;
                      unreached = t.unreached;
                      safe = safe s t;
                    };
                preds = s.preds;
                standing = standing_lines s.standing t.laid (t.long ∙ s.state.work_long) t.lines;
                covered = t.covered;
                levelled = levelled s t;
              };
          winners_long = t.winners_long;
          carried = carried s t;
        }
      where
        t : RestartedIn (vertices tables) tables.priorities ins froms moves winners work d' winners' work'
        t = subst (λ (x : ℕ). RestartedIn x tables.priorities ins froms moves winners work d' winners' work') level t₀
