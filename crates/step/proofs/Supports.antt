-- The steps of the closure are the support steps of a safe state, so what it marks is what leans on v.
use Prim.Native.Nat.{ℕ}
use mathlib.Core.Path.{◌≡◌}
use mathlib.Core.List.{List}
use native.Mathlib.Omega.{arith}
use native.Mathlib.Decide.{ℕ_discrete}
use lib.ListN.{length, get_or}
use Rattle.game.specs.promise.Game.{Edge, Sound}
use Rattle.game.specs.promise.Tables.{game_of, Tables, vertices}
use Rattle.storage.specs.promise.Answer.{mark_of, move_of}
use Rattle.winning.proofs.Walks.{map_walk}
use Rattle.justification.specs.parts.Safe.{Support, Safe}
use Rattle.justification.specs.parts.Step.{Leaning}
use Rattle.preds.specs.parts.Preds.{Preds}
use Rattle.reach.specs.parts.Closure.{Allowed}
use Rattle.space.specs.parts.Work.{section}
use Rattle.levels.specs.parts.Levels.{settled_of}
use Rattle.levels.proofs.Flags.{flag_settled, settled_flag}
use Rattle.turn.specs.parts.Turning.{Reached}

module _
    (tables : Tables) (winners moves work ins froms : List ℕ)
    (sound : Sound (game_of tables)) (long : length moves ≡ vertices tables)
    (preds : Preds (game_of tables) ins froms)
    (safe : Safe (game_of tables) (mark_of winners) (move_of moves) (settled_of (vertices tables) work))
  where
    pub allowed : (u w : ℕ) → Support (game_of tables) (mark_of winners) (move_of moves) (settled_of (vertices tables) work) u w → Allowed (vertices tables) ins froms (section 0 (vertices tables) work) moves 0 u w
    unfolding move_of
    allowed u w s =
        record {
          edge = preds.listed u w s.edge;
          low = omega (arith, settled_flag (vertices tables) work u s.justified);
          fixed = λ l h. elim (ℕ_discrete (get_or tables.owners u 0) (mark_of winners u)) [ yes e ↦ s.fixed e | no ne ↦ absurd (h (safe.form u s.edge.from s.justified ne)) ];
        }

    support : (u w : ℕ) → Allowed (vertices tables) ins froms (section 0 (vertices tables) work) moves 0 u w → Support (game_of tables) (mark_of winners) (move_of moves) (settled_of (vertices tables) work) u w
    unfolding move_of
    support u w a =
        let e : Edge (game_of tables) u w = preds.edge u w a.edge in
        let f : settled_of (vertices tables) work u ≡ 1 = flag_settled (vertices tables) work u (omega (arith, a.low)) in
        record {
          justified = f;
          edge = e;
          fixed = λ o. a.fixed (omega (arith, long, e.from)) (λ z. omega (arith, sound.few, (safe.own u e.from f o).0.to));
        }

    pub leaning : {v : ℕ} {reached : List ℕ} → Reached (vertices tables) ins froms (section 0 (vertices tables) work) moves v reached → Leaning (game_of tables) (mark_of winners) (move_of moves) (settled_of (vertices tables) work) v (λ u. get_or reached u 0 ≡ 1)
    leaning {v} {reached} r =
        record {
          decided = λ u l. ℕ_discrete (get_or reached u 0) 1;
          leads = λ u l one. map_walk support (r.leads u l one);
          itself = r.itself;
          closed = λ u w s one. r.closed u w (allowed u w s) one;
        }
