-- Before the engine runs: the open vertices line up in section 3, which nothing of the state reads, and the levels are the priorities.
use Prim.Native.Nat.{ℕ, ◌-◌, ◌<◌}
use mathlib.Core.Path.{◌≡◌, refl, sym, ap, subst, ◌∙◌}
use mathlib.Core.List.{List}
use native.Mathlib.Omega.{arith}
use lib.ListN.{get_or}
use Rattle.game.specs.promise.Tables.{game_of, Tables, vertices}
use Rattle.storage.specs.promise.Answer.{mark_of, move_of}
use Rattle.justification.specs.parts.Safe.{Safe}
use Rattle.lists.specs.parts.Cells.{Filled}
use Rattle.space.specs.declared.desk.Desk.{Desk}
use Rattle.waiting.specs.parts.Moves.{Fillable, FilledIn}
use Rattle.levels.specs.parts.Levels.{settled_of, ByPriority}
use Rattle.levels.proofs.Floors.{priority_levelled}
use Rattle.step.specs.parts.State.{KeptSet}
use Rattle.draw.specs.parts.Drawing.{Drainable}
use Rattle.pile.proofs.Piles.{piled_none}
use Rattle.engine.specs.parts.Settling.{NoLines, Settleable}
use Rattle.rounds.specs.parts.Settled.{SettledTo}

module _ {tables : Tables} {ins froms winners moves work : List ℕ} (s : Settleable tables ins froms winners moves work) where
  bytes : (v : ℕ) → v < vertices tables → get_or tables.priorities v 0 < 256
  bytes v l = omega (arith, s.state.well_formed.sound.ranked v l)

  pub fillable : {d₀ d : Desk} → Filled d₀.waiting 0 → NoLines d₀ d → Fillable (vertices tables) tables.priorities d work
  fillable idle e =
      record {
        small = s.state.well_formed.sound.few;
        priorities_long = s.state.well_formed.level;
        bytes = bytes;
        laid = e.laid;
        work_long = s.state.work_long;
        empty = e.empty;
        nobody = rw e.waiting idle;
      }

  module _ {d d' : Desk} {work' : List ℕ} (r : FilledIn (vertices tables) tables.priorities d work d' work') where
    -- a vertex is settled after as before
    same_settled : (v : ℕ) → settled_of (vertices tables) work' v ≡ settled_of (vertices tables) work v
    unfolding settled_of
    same_settled v = ap (λ (x : List ℕ). 1 - get_or x v 0) r.links_only.flags

    same_safe : Safe (game_of tables) (mark_of winners) (move_of moves) (settled_of (vertices tables) work')
    unfolding settled_of
    same_safe =
        subst (λ (x : List ℕ). Safe (game_of tables) (mark_of winners) (move_of moves) (λ v. 1 - get_or x v 0)) (sym r.links_only.flags) s.state.safe

    pub runnable : {d'' : Desk} → ByPriority tables.priorities d' d'' → Drainable 0 tables ins froms d'' winners moves work'
    runnable {d''} b =
        record {
          engine =
              record {
                state =
                    record {
                      well_formed = s.state.well_formed;
                      stored = s.state.stored;
                      moves_long = s.state.moves_long;
                      work_long = r.links_only.long ∙ s.state.work_long;
                      unreached = subst (λ (x : List ℕ). Filled x 0) (sym r.links_only.reached) s.state.unreached;
                      safe = same_safe;
                    };
                preds = s.preds;
                standing =
                    record {
                      small = s.state.well_formed.sound.few;
                      priorities_long = s.state.well_formed.level;
                      bytes = bytes;
                      laid = b.only.laid;
                      work_long = r.links_only.long ∙ s.state.work_long;
                      lines = rw (b.only.waiting, b.only.firsts, b.only.lasts) r.lines;
                    };
                covered = rw b.only.waiting r.covered;
                levelled =
                    priority_levelled (game_of tables) (mark_of winners) (move_of moves) (settled_of (vertices tables) work') (λ v. refl)
                    (omega (arith, s.state.well_formed.level)) same_safe b;
              };
          piled = piled_none;
        }

    kept_set : (kept : List ℕ) → KeptSet tables work kept → KeptSet tables work' kept
    kept_set kept k = record { settled = λ v l e. same_settled v ∙ k.settled v l e; closed = k.closed }

    pub settled_from : {winners'' moves'' work'' : List ℕ} → SettledTo tables winners moves work' winners'' moves'' work'' → SettledTo tables winners moves work winners'' moves'' work''
    settled_from t =
        record {
          winners_long = t.winners_long;
          moves_long = t.moves_long;
          work_long = t.work_long ∙ r.links_only.long;
          accepted = t.accepted;
          unmoved = record { mark = λ kept k. t.unmoved.mark kept (kept_set kept k); move = λ kept k. t.unmoved.move kept (kept_set kept k) };
        }
