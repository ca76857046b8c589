-- By an accepted answer every vertex is won by its mark, with the recorded moves, in whatever way they are completed.
use Prim.Native.Nat.{ℕ, ◌<◌}
use mathlib.Core.Path.{◌≡◌, refl, sym, subst, ◌∙◌}
use mathlib.Core.Logic.{ite, if_pos}
use lib.ListN.{get_or}
use native.Mathlib.Decide.{ℕ_discrete}
use Rattle.player.specs.promise.Player.{IsPlayer}
use Rattle.game.specs.promise.Game.{Game, Listed, Edge, Sound, Moving}
use Rattle.winning.proofs.Walks.{follow}
use Rattle.winning.specs.promise.Wins.{By, WinsBy, Wins}
use Rattle.winning.specs.promise.Answer.{Form, Completes, Solution, Right}
use Rattle.winning.specs.promise.Faults.{Accepted}
use Rattle.winning.proofs.Cycles.{map_cycle}
use Rattle.winning.proofs.Accepted.{accepted_right}

module _ (g : Game) (mark move : ℕ → ℕ) where
  -- by any legal moves that agree with the recorded ones where the owner is the winner
  pub accepted_wins :
      Accepted g mark move → (p : ℕ) (σ : ℕ → ℕ) (v : ℕ) → IsPlayer p → v < g.n → mark v ≡ p → Completes g mark move p σ → WinsBy g p σ v
  accepted_wins a p σ v i l m c u r w k =
      let n : mark u ≡ p = follow (λ x. mark x ≡ p) (λ x y s e. stays x y e s) m w in
      right.wins p u r i n (map_cycle (λ x. mark x ≡ p) (λ x y e s. (by_move x y e s, stays x y e s)) u r n k)
    where
      right : Right g mark move
      right = accepted_right g mark move a

      -- where p wins, σ is the recorded move
      by_move : (x y : ℕ) → mark x ≡ p → By g p σ x y → By g p move x y
      by_move x y e s = record { edge = s.edge; fixed = λ o. s.fixed o ∙ c.recorded x s.edge.from o e }

      stays : (x y : ℕ) → mark x ≡ p → By g p σ x y → mark y ≡ p
      stays x y e s = right.stays p x y i e (by_move x y e s)

  -- the recorded move where p wins, the first successor elsewhere
  pub completed : Sound g → Moving g → Form g mark move → (p : ℕ) → (σ : ℕ → ℕ) × Completes g mark move p σ
  completed sound moving f p = (
    λ u. ite (ℕ_discrete (mark u) p) (move u) (get_or (g.next u) 0 0),
    record {
      legal = λ v l o. legal v l o (ℕ_discrete (mark v) p);
      recorded = λ u l o m. if_pos (ℕ_discrete (mark u) p) m (move u) (get_or (g.next u) 0 0);
    },
  )
    where
      legal : (v : ℕ) → v < g.n → g.owner v ≡ p → (d : Dec (mark v ≡ p)) → Edge g v (ite d (move v) (get_or (g.next v) 0 0))
      legal v l o (yes m) = f.successor v l (o ∙ sym m)
      legal v l o (no h) =
          let first : Listed (get_or (g.next v) 0 0) (g.next v) = record { at = 0; within = moving v l; is = refl } in
          record { from = l; to = sound.inside v (get_or (g.next v) 0 0) l first; listed = first }

  pub accepted_won : Sound g → Moving g → Accepted g mark move → (v : ℕ) → v < g.n → Wins g (mark v) v
  accepted_won sound moving a v l =
      let r = accepted_right g mark move a in
      let c = completed sound moving r.form (mark v) in
      record { move = c.0; legal = c.1.legal; wins = accepted_wins a (mark v) c.0 v (r.form.winner v l) l refl c.1 }

  pub accepted_solution : Sound g → Moving g → Accepted g mark move → Solution g mark move
  accepted_solution sound moving a =
      let f = (accepted_right g mark move a).form in
      record {
        form = f;
        won = accepted_won sound moving a;
        by_moves = λ p v σ l m c. accepted_wins a p σ v (subst IsPlayer m (f.winner v l)) l m c;
      }
