-- The prepared start is safe, and the untouched vertices are a set of settled vertices that the engine leaves alone.
use Prim.Native.Nat.{ℕ, zero, suc, ◌-◌, ◌<◌, ◌≤◌}
use mathlib.Core.Path.{◌≡◌, refl}
use mathlib.Core.Logic.{◌≢◌}
use mathlib.Core.List.{List, [], ◌∷◌, map}
use native.Mathlib.Decide.{ℕ_discrete}
use native.Mathlib.Nat.{not-suc-le-zero, le_of_suc-le-suc}
use native.Mathlib.Omega.{arith}
use lib.ListN.{length, get_or}
use Rattle.game.specs.promise.Game.{Game}
use Rattle.game.specs.promise.Tables.{game_of, WellFormed, Tables, vertices}
use Rattle.storage.specs.promise.Answer.{mark_of, move_of}
use Rattle.justification.specs.parts.Start.{Start}
use Rattle.justification.proofs.Started.{start_safe}
use Rattle.levels.specs.parts.Levels.{settled_of}
use Rattle.step.specs.parts.State.{State, KeptSet}
use Rattle.anew.specs.parts.Deciding.{OldKept}
use Rattle.start.specs.parts.Preparing.{Prepared}

-- the untouched vertices, flagged with 1
abbrev pub untouched : List ℕ → List ℕ
untouched reached = map (λ (x : ℕ). 1 - x) reached

untouched_at : (reached : List ℕ) (v : ℕ) → v < length reached → get_or (untouched reached) v 0 ≡ 1 - get_or reached v 0
untouched_at [] v l = absurd (not-suc-le-zero l)
untouched_at (x ∷ reached) zero l = refl
untouched_at (x ∷ reached) (suc v) l = untouched_at reached v (le_of_suc-le-suc l)

module _
    {tables : Tables} {old_winners old_moves reached : List ℕ}
    (k : OldKept tables old_winners old_moves reached)
    {winners moves work : List ℕ}
    (p : Prepared (vertices tables) tables.priorities old_winners old_moves reached winners moves work (vertices tables))
  where
    abbrev g : Game
    g = game_of tables

    settled : (v : ℕ) → v < vertices tables → get_or reached v 0 ≡ 0 → settled_of (vertices tables) work v ≡ 1
    unfolding settled_of
    settled v l e = omega (arith, p.flag v l)

    unsettled : (v : ℕ) → v < vertices tables → get_or reached v 0 ≢ 0 → settled_of (vertices tables) work v ≢ 1
    unfolding settled_of
    unsettled v l ne = omega (arith, p.flag v l)

    start : Start g (λ v. get_or reached v 0 ≡ 0) (mark_of old_winners) (move_of old_moves) (mark_of winners) (move_of moves) (settled_of (vertices tables) work)
    start =
        record {
          kept_mark = λ v l e. (p.winner v l).kept e;
          kept_move = λ v l e. p.move v l;
          kept_settled = settled;
          open_mark = λ v l ne. (p.winner v l).anew ne;
          open_settled = unsettled;
        }

    pub state_of : WellFormed tables → State tables winners moves work
    state_of w =
        record {
          well_formed = w;
          stored = p.stored;
          moves_long = p.moves_long;
          work_long = p.work_long;
          unreached = p.unreached;
          safe =
              start_safe k.first g (λ v. get_or reached v 0 ≡ 0) (mark_of old_winners) (move_of old_moves) (mark_of winners) (move_of moves) (settled_of (vertices tables) work)
              k.size (λ v l. ℕ_discrete (get_or reached v 0) 0) k.closed k.agree k.accepted start;
        }

    module _ (room : vertices tables ≤ length reached) where
      pub flag_of : (v : ℕ) → v < vertices tables → get_or reached v 0 ≡ 0 → get_or (untouched reached) v 0 ≡ 1
      flag_of v l e = omega (arith, untouched_at reached v (omega arith))

      mark_of_lem : (v : ℕ) → v < vertices tables → get_or (untouched reached) v 0 ≡ 1 → get_or reached v 0 ≡ 0
      mark_of_lem v l e = omega (arith, untouched_at reached v (omega arith))

      pub kept_set : KeptSet tables work (untouched reached)
      kept_set =
          record {
            settled = λ v l e. settled v l (mark_of_lem v l e);
            closed = λ v w e s. flag_of w s.to (k.closed v w (mark_of_lem v s.from e) s);
          }
