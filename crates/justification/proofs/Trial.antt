-- The test of a vertex by its successors gives one of the two players.
use Prim.Native.Nat.{ℕ, ◌<◌}
use mathlib.Core.Path.{◌≡◌, refl, sym, ◌∙◌}
use mathlib.Core.Logic.Dec
use mathlib.Core.Logic.{◌⊎◌, inl, inr, ⊎_swap, ◌≢◌}
use native.Mathlib.Decide.{ℕ_discrete}
use native.Mathlib.Omega.{arith}
use Rattle.player.specs.promise.Player.{IsPlayer, opponent_of}
use Rattle.player.proofs.Players.{opponent_other, opponent_player, opponent_involution}
use Rattle.game.specs.promise.Game.{Game, Edge}
use Rattle.winning.specs.promise.Answer.{no_move}
use Rattle.winning.proofs.Edges.{decide_edge}
use Rattle.justification.specs.parts.Step.{TestGives}
use Rattle.justification.proofs.Search.{search_least}

module _ (g : Game) (mark : ℕ → ℕ) (player : (w : ℕ) → w < g.n → IsPlayer (mark w)) (v : ℕ) where
  -- the test gives p, with some move
  abbrev pub Gives : ℕ → Type 0
  Gives p = (m : ℕ) × TestGives g mark v p m

  -- the owner wins if some successor has his mark, else all have the other's
  by_owner : (p : ℕ) → IsPlayer p → g.owner v ≡ p → Gives p ⊎ Gives (opponent_of p)
  by_owner p l o =
      elim
      (search_least (λ w. Edge g v w × (mark w ≡ p)) (λ w. w) g.n (λ w h. Dec.and (decide_edge g v w) (ℕ_discrete (mark w) p))) [
        | inl m ↦ inl (m.0, record { own = λ o. m.1.has; other = λ w h e. absurd (h o); none = λ h. absurd (h o) })
        | inr none ↦
            inr (
              no_move,
              record {
                own = λ e. absurd (opponent_other p l (sym e ∙ o));
                other = λ w h e. loses w (player w e.to) (λ q. none w e.to (e, q));
                none = λ h. refl;
              },
            )
      ]
    where
      loses : (w : ℕ) → IsPlayer (mark w) → mark w ≢ p → mark w ≡ opponent_of p
      loses w i h = omega arith

  pub test : (p : ℕ) → IsPlayer p → IsPlayer (g.owner v) → Gives p ⊎ Gives (opponent_of p)
  test p l i = elim (ℕ_discrete (g.owner v) p) [
    | yes o ↦ by_owner p l o
    | no o ↦ ⊎_swap (rw (opponent_involution p l) at (by_owner (opponent_of p) (opponent_player p) (omega arith)))
  ]
