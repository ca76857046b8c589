-- The invariants line by line: what they ask of one vertex's line, and what they say of support steps.
use Prim.Native.Nat.{ℕ, ◌<◌, ◌≤◌}
use mathlib.Core.Path.{◌≡◌, refl, sym, ap, subst, ◌∙◌}
use mathlib.Core.Logic.{◌≢◌}
use native.Mathlib.Decide.{ℕ_discrete}
use Rattle.player.specs.promise.Player.{IsPlayer, parity_of}
use Rattle.player.proofs.Players.{parity_player}
use Rattle.game.specs.promise.Game.{Game, Edge}
use Rattle.winning.specs.promise.Walk.{Walk}
use Rattle.winning.proofs.Walks.{follow}
use Rattle.winning.specs.parts.Low.{Low}
use Rattle.winning.specs.promise.Answer.{no_move}
use Rattle.justification.specs.parts.Safe.{Support, Safe}
use Rattle.justification.specs.parts.Step.{TestGives, Settled, Same}

module _ (g : Game) (mark move settled : ℕ → ℕ) where
  -- what the invariants ask of u's line alone
  pub record Line (u : ℕ) : Type 0 where
    pub player : IsPlayer (mark u)
    pub form : settled u ≡ 1 → g.owner u ≢ mark u → move u ≡ no_move
    pub default : settled u ≢ 1 → mark u ≡ parity_of (g.priority u)
    pub edge : settled u ≡ 1 → g.owner u ≡ mark u → Edge g u (move u)

  -- an open line
  pub open_line : {u : ℕ} → settled u ≢ 1 → mark u ≡ parity_of (g.priority u) → Line u
  open_line {u} f e =
      record {
        player = subst IsPlayer (sym e) (parity_player (g.priority u));
        form = λ s o. absurd (f s);
        default = λ f. e;
        edge = λ s o. absurd (f s);
      }

  -- lines, steps that keep the mark, and the two invariants on walks make a safe state
  pub safe_of :
      ((u : ℕ) → u < g.n → Line u) →
      ((x y : ℕ) → Support g mark move settled x y → mark y ≡ mark x) →
      ((v u : ℕ) → v < g.n → Walk (Support g mark move settled) v u → settled u ≢ 1 → g.priority v ≤ g.priority u) →
      ((v w : ℕ) → Support g mark move settled v w → Walk (Low g (Support g mark move settled) (g.priority v)) w v → mark v ≡ parity_of (g.priority v)) →
      Safe g mark move settled
  safe_of line constant below good =
      record {
        player = λ u l. (line u l).player;
        form = λ u l. (line u l).form;
        default = λ u l. (line u l).default;
        own =
            λ u l f o.
            let e : Edge g u (move u) = (line u l).edge f o in
            (e, constant u (move u) (record { justified = f; edge = e; fixed = λ o. refl }));
        other = λ u w f o e. constant u w (record { justified = f; edge = e; fixed = λ o'. absurd (o o') });
        below = below;
        good = good;
      }

  -- a walk of support steps from a vertex ends at a vertex
  pub within : {v u : ℕ} → v < g.n → Walk (Support g mark move settled) v u → u < g.n
  within l w = follow (λ x. x < g.n) (λ x y s l. s.edge.to) l w

  -- support steps and walks of a safe state keep the mark
  module _ (safe : Safe g mark move settled) where
    pub steady : {v w : ℕ} → Support g mark move settled v w → mark w ≡ mark v
    steady {v} {w} s = elim (ℕ_discrete (g.owner v) (mark v)) [
      | yes o ↦ ap mark (s.fixed o) ∙ (safe.own v s.edge.from s.justified o).1
      | no o ↦ safe.other v w s.justified o s.edge
    ]

    pub steady_walk : {v u : ℕ} → Walk (Support g mark move settled) v u → mark u ≡ mark v
    steady_walk {v} {u} w = follow (λ x. mark x ≡ mark v) (λ x y s e. steady s ∙ e) refl w

module _ (g : Game) (mark move settled mark' move' settled' : ℕ → ℕ) where
  -- v's new line is the test's result
  module _ {v p m : ℕ} (t : TestGives g mark v p m) (s : Settled mark move settled mark' move' settled' v p m) where
    pub settled_line : IsPlayer p → Line g mark' move' settled' v
    settled_line l =
        record {
          player = subst IsPlayer (sym s.marked) l;
          form = λ f o. s.moved ∙ t.none (λ e. o (e ∙ sym s.marked));
          default = λ f. absurd (f s.flag);
          edge = λ f o. subst (λ x. Edge g v x) (sym s.moved) (t.own (o ∙ s.marked)).0;
        }

    pub settled_step : {w : ℕ} → Support g mark' move' settled' v w → mark w ≡ p
    settled_step {w} r = elim (ℕ_discrete (g.owner v) p) [
      | yes o ↦ ap mark (r.fixed (o ∙ sym s.marked) ∙ s.moved) ∙ (t.own o).1
      | no o ↦ t.other w o r.edge
    ]

  -- u's line is as before
  module _ {u : ℕ} (s : Same mark move settled mark' move' settled' u) where
    pub same_line : Safe g mark move settled → u < g.n → Line g mark' move' settled' u
    same_line safe l =
        record {
          player = subst IsPlayer (sym s.marked) (safe.player u l);
          form = λ f o. s.moved ∙ safe.form u l (sym s.flag ∙ f) (λ e. o (e ∙ sym s.marked));
          default = λ f. s.marked ∙ safe.default u l (λ e. f (s.flag ∙ e));
          edge = λ f o. subst (λ x. Edge g u x) (sym s.moved) (safe.own u l (sym s.flag ∙ f) (o ∙ s.marked)).0;
        }

    pub same_step : {w : ℕ} → Support g mark' move' settled' u w → Support g mark move settled u w
    same_step r =
        record {
          justified = sym s.flag ∙ r.justified;
          edge = r.edge;
          fixed = λ o. r.fixed (o ∙ sym s.marked) ∙ s.moved;
        }
