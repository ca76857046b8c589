-- An answer is accepted exactly if it is right.
use Prim.Native.Nat.{ℕ, ◌<◌}
use mathlib.Core.Path.{◌≡◌, refl, sym, ap, ◌∙◌}
use mathlib.Core.Logic.Dec
use mathlib.Core.Logic.{◌≢◌, ◌↔◌}
use mathlib.Core.List.{List, ◌∷◌}
use native.Mathlib.Decide.{ℕ_discrete}
use Rattle.player.specs.promise.Player.{IsPlayer, parity_of}
use Rattle.refusal.specs.promise.Row.{NoPlace}
use Rattle.game.specs.promise.Game.{Game}
use Rattle.winning.proofs.Walks.{follow}
use Rattle.winning.specs.promise.Cycle.{Cycle, highest}
use Rattle.winning.specs.promise.Wins.{By}
use Rattle.winning.specs.promise.Faults.{Recorded, Fault12, own, other, Fault13, Fault14, Accepted}
use Rattle.winning.specs.promise.Answer.{Right}
use Rattle.winning.proofs.Cycles.{map_cycle, cycle_step, top_of}
use Rattle.winning.proofs.Backed.{Backed, backed, recorded_keeps, by_recorded, recorded_by}

module _ (g : Game) (mark move : ℕ → ℕ) where
  -- a cycle whose highest priority has the wrong parity shows at its highest vertex
  wrong_top : Backed g mark move → (u : ℕ) (l : List ℕ) → Cycle (Recorded g mark move) (u ∷ l) → parity_of (highest g (u ∷ l)) ≢ mark u → (x : ℕ) × Fault14 g mark move x
  wrong_top b u l c h =
      let t = top_of g (Recorded g mark move) u l c in
      let m : mark t.0 ≡ mark u = follow (λ x. mark x ≡ mark u) (λ x y s e. recorded_keeps g mark move b x y s ∙ e) refl t.2 in
      (t.0, record { rest = t.1; cycle = t.3; own_highest = t.4; lost = λ e. h (ap parity_of t.5 ∙ e ∙ m) })

  -- 14 by its place and 14 by its cycle are the same
  pub cycle_fault :
      ((v : ℕ) → v < g.n → IsPlayer (mark v)) → NoPlace (Fault12 g mark move) → NoPlace (Fault13 g mark move) →
      ((x : ℕ) × Fault14 g mark move x) ↔
      ((u : ℕ) × (l : List ℕ) × Cycle (Recorded g mark move) (u ∷ l) × (parity_of (highest g (u ∷ l)) ≢ mark u))
  cycle_fault players no12 no13 = (
    λ f. (f.0, f.1.rest, f.1.cycle, λ e. f.1.lost (ap parity_of (sym f.1.own_highest) ∙ e)),
    λ c. wrong_top (backed g mark move players no12 no13) c.0 c.1 c.2 c.3,
  )

  pub accepted_backed : Accepted g mark move → Backed g mark move
  accepted_backed a = backed g mark move a.players a.none.0 a.none.1.0

  pub accepted_right : Accepted g mark move → Right g mark move
  accepted_right a =
      record {
        form = record { winner = b.winner; successor = λ v l e. (b.owned v l e).0; elsewhere = b.elsewhere };
        stays = λ p v w i m s. stays p v w m s;
        wins = λ p v l i m c. wins p v l m c;
      }
    where
      b : Backed g mark move
      b = accepted_backed a

      stays : (p v w : ℕ) → mark v ≡ p → By g p move v w → mark w ≡ p
      stays p v w m s = recorded_keeps g mark move b v w (by_recorded g mark move m s) ∙ m

      -- a parity is decided, and a wrong one is a fault of 14
      wins : (p v : ℕ) (l : List ℕ) → mark v ≡ p → Cycle (By g p move) (v ∷ l) → parity_of (highest g (v ∷ l)) ≡ p
      wins p v l m c =
          let r = map_cycle (λ x. mark x ≡ p) (λ x y e s. (by_recorded g mark move e s, stays p x y e s)) v l m c in
          (Dec.not-not (ℕ_discrete (parity_of (highest g (v ∷ l))) p)).0
          (λ h. let f = wrong_top b v l r (λ e. h (e ∙ m)) in a.none.1.1.0 f.0 f.1)

  pub right_accepted : Right g mark move → Accepted g mark move
  right_accepted r = record { players = r.form.winner; none = (move_fault, (escape, (cycle, tt))) }
    where
      kept : (v w : ℕ) → Recorded g mark move v w → mark w ≡ mark v
      kept v w s = r.stays (mark v) v w (r.form.winner v s.edge.from) refl (recorded_by g mark move refl s)

      move_fault : NoPlace (Fault12 g mark move)
      move_fault x (own l e h) =
          let s = r.form.successor x l e in
          h (s, kept x (move x) (record { edge = s; fixed = λ o. refl }))
      move_fault x (other l e h) = h (r.form.elsewhere x l e)

      escape : NoPlace (Fault13 g mark move)
      escape x f = f.differs (kept x f.successor (record { edge = f.edge; fixed = λ e. absurd (f.loser e) }))

      cycle : NoPlace (Fault14 g mark move)
      cycle x f =
          let i = r.form.winner x (cycle_step (Recorded g mark move) x f.rest f.cycle).1.edge.from in
          let c = map_cycle (λ y. mark y ≡ mark x) (λ y z e s. (recorded_by g mark move e s, kept y z s ∙ e)) x f.rest refl f.cycle in
          f.lost (ap parity_of (sym f.own_highest) ∙ r.wins (mark x) x f.rest i refl c)

  pub accepted_iff_right : Accepted g mark move ↔ Right g mark move
  accepted_iff_right = (accepted_right, right_accepted)
