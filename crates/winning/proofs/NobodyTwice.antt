-- No vertex is won by both players: their fixed moves together lead into one cycle, and its highest priority has one parity.
-- So two winners of a vertex are one.
use Prim.Native.Nat.{ℕ, ◌<◌}
use mathlib.Core.Path.{◌≡◌, refl, sym, subst, ◌∙◌}
use mathlib.Core.Logic.{◌≢◌, ite}
use mathlib.Core.List.{◌∷◌}
use native.Mathlib.Decide.{ℕ_discrete}
use native.Mathlib.Omega.{arith}
use Rattle.player.specs.promise.Player.{IsPlayer, opponent_of, parity_of}
use Rattle.player.proofs.Players.{opponent_other}
use Rattle.game.specs.promise.Game.{Game, Sound, Moving}
use Rattle.winning.proofs.Walks.{map_walk}
use Rattle.winning.specs.promise.Cycle.{highest}
use Rattle.winning.specs.promise.Wins.{By, Wins}
use Rattle.winning.proofs.Cycles.{map_cycle}
use Rattle.winning.proofs.Lasso.{Lasso, lasso}

-- a step of both plays
record Both (g : Game) (p : ℕ) (σ τ : ℕ → ℕ) (v w : ℕ) : Type 0 where
  mine : By g p σ v w
  theirs : By g (opponent_of p) τ v w

module _ (g : Game) (sound : Sound g) (moving : Moving g) where
  pub nobody_twice : (p v : ℕ) → IsPlayer p → v < g.n → Wins g p v → Wins g (opponent_of p) v → ⊥
  nobody_twice p v i l a b = opponent_other p i (sym (parity (opponent_of p) b (λ x y s. s.theirs)) ∙ parity p a (λ x y s. s.mine))
    where
      S : ℕ → ℕ → Type 0
      S = Both g p a.move b.move

      -- the owner's fixed move is a step of both plays
      both : (u : ℕ) → u < g.n → (d : Dec (g.owner u ≡ p)) → S u (ite d (a.move u) (b.move u))
      both u m (yes o) =
          let e = a.legal u m o in
          record { mine = record { edge = e; fixed = λ q. refl }; theirs = record { edge = e; fixed = λ q. absurd (opponent_other p i (sym q ∙ o)) } }
      both u m (no h) =
          let k = sound.owned u m in
          let e = b.legal u m (omega arith) in
          record { mine = record { edge = e; fixed = λ q. absurd (h q) }; theirs = record { edge = e; fixed = λ q. refl } }

      next : ℕ → ℕ
      next u = ite (ℕ_discrete (g.owner u) p) (a.move u) (b.move u)

      steps : (u : ℕ) → u < g.n → S u (next u)
      steps u m = both u m (ℕ_discrete (g.owner u) p)

      r : Lasso S v
      r = lasso S g.n next (λ u m. (steps u m).mine.edge.to) steps v l

      -- the cycle that they run into has the parity of each player who wins
      parity : (q : ℕ) (w : Wins g q v) → ((x y : ℕ) → S x y → By g q w.move x y) → parity_of (highest g (r.on ∷ r.rest)) ≡ q
      parity q w f = w.wins r.on r.rest (map_walk f r.reached) (map_cycle (λ x. Unit {0}) (λ x y h s. (f x y s, tt)) r.on r.rest tt r.cycle)

  -- who wins what another wins is that other
  pub same_winner : (v p q : ℕ) → v < g.n → IsPlayer p → IsPlayer q → Wins g p v → Wins g q v → p ≡ q
  same_winner v p q l i j a b = elim (ℕ_discrete p q) [ yes e ↦ e | no h ↦ absurd (nobody_twice p v i l a (other h)) ]
    where
      other : p ≢ q → Wins g (opponent_of p) v
      other h = let e : q ≡ opponent_of p = omega arith in subst (λ k. Wins g k v) e b
