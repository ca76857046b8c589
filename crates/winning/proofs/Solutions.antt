-- A solution is right, so it is what the checker accepts; and two solutions have the same winners.
use Prim.Native.Nat.{ℕ, ◌<◌}
use mathlib.Core.Path.{◌≡◌, sym, ◌∙◌}
use mathlib.Core.List.{List, ◌∷◌}
use Rattle.player.specs.promise.Player.{IsPlayer, parity_of}
use Rattle.game.specs.promise.Game.{Game, Sound, Moving}
use Rattle.winning.specs.promise.Walk.{stay, step}
use Rattle.winning.specs.promise.Cycle.{Cycle, highest}
use Rattle.winning.specs.promise.Wins.{By, Wins}
use Rattle.winning.specs.promise.Answer.{Completes, Solution, Right}
use Rattle.winning.specs.promise.Faults.{Accepted}
use Rattle.winning.proofs.Cycles.{map_cycle, cycle_step}
use Rattle.winning.proofs.Accepted.{right_accepted}
use Rattle.winning.proofs.Won.{completed}
use Rattle.winning.proofs.NobodyTwice.{same_winner}

module _ (g : Game) (sound : Sound g) (moving : Moving g) where
  module _ (mark move : ℕ → ℕ) (s : Solution g mark move) where
    -- where p is marked, a step by his recorded moves is a step by any completion of them
    completion_step : (p : ℕ) (σ : ℕ → ℕ) → Completes g mark move p σ → (x y : ℕ) → mark x ≡ p → By g p move x y → By g p σ x y
    completion_step p σ c x y m b = record { edge = b.edge; fixed = λ o. b.fixed o ∙ sym (c.recorded x b.edge.from o m) }

    -- who wins from x wins from where he steps, and a vertex has one winner
    stays : (p x y : ℕ) → IsPlayer p → mark x ≡ p → By g p move x y → mark y ≡ p
    stays p x y i m b =
        let c = completed g mark move sound moving s.form p in
        let l = b.edge.to in
        let there : Wins g p y =
        record {
          move = c.0;
          legal = c.1.legal;
          wins = λ u r w k. s.by_moves p x c.0 b.edge.from m c.1 u r (step (completion_step p c.0 c.1 x y m b) w) k;
        }
        in
        same_winner g sound moving y (mark y) p l (s.form.winner y l) i (s.won y l) there

    wins : (p v : ℕ) (l : List ℕ) → IsPlayer p → mark v ≡ p → Cycle (By g p move) (v ∷ l) → parity_of (highest g (v ∷ l)) ≡ p
    wins p v l i m k =
        let c = completed g mark move sound moving s.form p in
        let e = (cycle_step (By g p move) v l k).1.edge.from in
        s.by_moves p v c.0 e m c.1 v l stay
        (map_cycle (λ x. mark x ≡ p) (λ x y h b. (completion_step p c.0 c.1 x y h b, stays p x y i h b)) v l m k)

    pub solution_right : Right g mark move
    solution_right = record { form = s.form; stays = stays; wins = wins }

    pub solution_accepted : Accepted g mark move
    solution_accepted = right_accepted g mark move solution_right

  pub solutions_same :
      (mark move mark' move' : ℕ → ℕ) → Solution g mark move → Solution g mark' move' → (v : ℕ) → v < g.n → mark v ≡ mark' v
  solutions_same mark move mark' move' a b v l =
      same_winner g sound moving v (mark v) (mark' v) l (a.form.winner v l) (b.form.winner v l) (a.won v l) (b.won v l)
