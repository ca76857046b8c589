-- What an answer has whose marks are players and to which neither 12 nor 13 applies, said positively, and that marks are constant along the recorded moves.
use Prim.Native.Nat.{ℕ, ◌<◌}
use mathlib.Core.Path.{◌≡◌, sym, subst, ◌∙◌}
use mathlib.Core.Logic.Dec
use mathlib.Core.Logic.{◌≢◌}
use native.Mathlib.Decide.{ℕ_discrete}
use Rattle.player.specs.promise.Player.{IsPlayer}
use Rattle.refusal.specs.promise.Row.{NoPlace}
use Rattle.game.specs.promise.Game.{Game, Edge}
use Rattle.winning.specs.promise.Wins.{By}
use Rattle.winning.specs.promise.Answer.{no_move}
use Rattle.winning.specs.promise.Faults.{Recorded, Fault12, own, other, Fault13}
use Rattle.winning.proofs.Edges.{decide_edge}

module _ (g : Game) (mark move : ℕ → ℕ) where
  pub record Backed : Type 0 where
    pub winner : (v : ℕ) → v < g.n → IsPlayer (mark v)
    pub owned : (v : ℕ) → v < g.n → g.owner v ≡ mark v → Edge g v (move v) × (mark (move v) ≡ mark v)
    pub elsewhere : (v : ℕ) → v < g.n → g.owner v ≢ mark v → move v ≡ no_move
    pub trapped : (v w : ℕ) → g.owner v ≢ mark v → Edge g v w → mark w ≡ mark v

  -- each statement is decided, so what no fault contradicts holds
  pub backed : ((v : ℕ) → v < g.n → IsPlayer (mark v)) → NoPlace (Fault12 g mark move) → NoPlace (Fault13 g mark move) → Backed
  backed players no12 no13 =
      record {
        winner = players;
        owned = λ v l e. (Dec.not-not (Dec.and (decide_edge g v (move v)) (ℕ_discrete (mark (move v)) (mark v)))).0 (λ h. no12 v (own l e h));
        elsewhere = λ v l e. (Dec.not-not (ℕ_discrete (move v) no_move)).0 (λ h. no12 v (other l e h));
        trapped = λ v w e s. (Dec.not-not (ℕ_discrete (mark w) (mark v))).0 (λ h. no13 v (record { loser = e; successor = w; edge = s; differs = h }));
      }

  -- a recorded step leads to a vertex with the same mark
  pub recorded_keeps : Backed → (v w : ℕ) → Recorded g mark move v w → mark w ≡ mark v
  recorded_keeps b v w r =
      elim (ℕ_discrete (g.owner v) (mark v)) [
        | yes e ↦ subst (λ x. mark x ≡ mark v) (sym (r.fixed e)) (b.owned v r.edge.from e).1
        | no h ↦ b.trapped v w h r.edge
      ]

  -- at a vertex that p wins, a step by p's recorded moves is a recorded step, and the other way round
  pub by_recorded : {p v w : ℕ} → mark v ≡ p → By g p move v w → Recorded g mark move v w
  by_recorded m s = record { edge = s.edge; fixed = λ e. s.fixed (e ∙ m) }

  pub recorded_by : {p v w : ℕ} → mark v ≡ p → Recorded g mark move v w → By g p move v w
  recorded_by m s = record { edge = s.edge; fixed = λ e. s.fixed (e ∙ sym m) }
