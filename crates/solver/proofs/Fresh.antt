-- The start with nothing kept is safe, and what the engine leaves is the answer.
use Prim.Native.Nat.{ℕ, ◌-◌, ◌<◌}
use mathlib.Core.Path.{◌≡◌, sym, subst, ◌∙◌}
use mathlib.Core.Logic.{◌≢◌}
use mathlib.Core.List.{List}
use native.Mathlib.Omega.{arith}
use lib.ListN.{length, get_or}
use Rattle.game.specs.promise.Tables.{game_of, Tables, vertices}
use Rattle.storage.specs.promise.Answer.{mark_of, move_of}
use Rattle.storage.specs.promise.Lent.{Lent}
use Rattle.storage.specs.parts.Answers.{Stored}
use Rattle.storage.proofs.Stores.{still_stored}
use Rattle.storage.proofs.Zeros.{filled_zeroed}
use Rattle.justification.specs.parts.Safe.{Safe}
use Rattle.justification.proofs.Started.{fresh_safe}
use Rattle.space.specs.parts.Work.{section}
use Rattle.lists.specs.parts.Cells.{Filled}
use Rattle.preds.specs.parts.Build.{Built}
use Rattle.levels.specs.parts.Levels.{settled_of}
use Rattle.winning.proofs.Won.{accepted_solution}
use Rattle.solver.specs.promise.Solving.{Written}
use Rattle.engine.specs.parts.Settling.{Settleable}
use Rattle.rounds.specs.parts.Settled.{SettledTo}
use Rattle.solver.specs.parts.Answering.{Answerable}
use Rattle.start.specs.parts.Opening.{Startable, AllOpen}

module _ (tables : Tables) (lent : Lent) (a : Answerable tables lent) where
  level : length tables.priorities ≡ vertices tables
  level = a.well_formed.level

  pub startable : Startable tables.priorities lent.answer.winners lent.work
  startable =
      record {
        small = omega (arith, level, a.well_formed.sound.few);
        stored = subst (λ (n : ℕ). Stored n lent.answer.winners) (sym level) a.stored;
        work_long = omega (arith, level, a.work_long);
      }

  module _ {winners2 work2 : List ℕ} (o : AllOpen tables.priorities lent.answer.winners lent.work winners2 work2) where
    safe : Safe (game_of tables) (mark_of winners2) (move_of lent.answer.moves) (settled_of (vertices tables) work2)
    unfolding settled_of
    safe =
        fresh_safe (game_of tables) (mark_of winners2) (move_of lent.answer.moves) (settled_of (vertices tables) work2)
        (λ v l. o.mark v (subst (λ (n : ℕ). v < n) (sym level) l))
        (λ v l. unsettled v (subst (λ (n : ℕ). get_or (section 0 n work2) v 0 ≡ 1) level (o.flag v (subst (λ (n : ℕ). v < n) (sym level) l))))
      where
        unsettled : (v : ℕ) → get_or (section 0 (vertices tables) work2) v 0 ≡ 1 → 1 - get_or (section 0 (vertices tables) work2) v 0 ≢ 1
        unsettled v e = omega arith

    unreached : Filled (section 1 (vertices tables) work2) 0
    unreached = subst (λ (n : ℕ). Filled (section 1 n work2) 0) level o.unreached

    pub settleable : {ins froms ins' froms' : List ℕ} → Built tables ins froms ins' froms' → Settleable tables ins' froms' winners2 lent.answer.moves work2
    settleable b =
        record {
          state =
              record {
                well_formed = a.well_formed;
                stored = still_stored a.stored o.winners_long;
                moves_long = a.moves_long;
                work_long = o.long ∙ a.work_long;
                unreached = unreached;
                safe = safe;
              };
          preds = b.preds;
        }

    pub answered : {winners3 moves3 work3 work4 : List ℕ} → SettledTo tables winners2 lent.answer.moves work2 winners3 moves3 work3 → length work4 ≡ length work3 → Filled work4 0 → Written tables lent (record { answer = record { winners = winners3; moves = moves3 }; work = work4 })
    answered {work4} t long4 zero4 =
        record {
          winners_long = t.winners_long ∙ o.winners_long;
          moves_long = t.moves_long;
          solution = accepted_solution (game_of tables) _ _ a.well_formed.sound a.well_formed.moving t.accepted;
          zeroed = filled_zeroed (long4 ∙ (t.work_long ∙ o.long)) zero4;
        }
