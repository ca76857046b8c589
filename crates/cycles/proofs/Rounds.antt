-- Row 14 at x by the closure: x lies on a cycle by the recorded moves with its own priority as the highest exactly if a recorded
-- step leads from x to a vertex from which recorded steps among priorities of at most x's lead back to x.
use Prim.Native.Nat.{ℕ, ◌<◌}
use mathlib.Core.Path.{◌≡◌, subst}
use mathlib.Core.Logic.{◌≢◌}
use mathlib.Core.List.{List}
use native.Mathlib.Omega.{arith}
use native.Mathlib.Decide.{ℕ_discrete}
use lib.ListN.{get_or}
use Rattle.player.specs.promise.Player.{parity_of}
use Rattle.game.specs.promise.Game.{Game, Edge}
use Rattle.game.specs.promise.Tables.{next_of, game_of, Tables, vertices}
use Rattle.storage.specs.promise.Answer.{Answer, mark_of, move_of}
use Rattle.winning.specs.promise.Walk.{Walk}
use Rattle.winning.proofs.Walks.{map_walk, follow, follow_back}
use Rattle.winning.specs.parts.Low.{Low}
use Rattle.winning.specs.promise.Faults.{Recorded, Fault14}
use Rattle.winning.proofs.Backed.{Backed}
use Rattle.winning.proofs.Cycles.{round_of, cycle_of, cycle_step}
use Rattle.preds.specs.parts.Preds.{Preds}
use Rattle.reach.specs.parts.Closure.{Allowed, ClosedFrom}
use Rattle.answers.specs.parts.Answered.{Answered}
use Rattle.cycles.specs.parts.Back.{Comes}

-- what lies on a cycle is a vertex
pub fault14_vertex : (g : Game) (mark move : ℕ → ℕ) (x : ℕ) → Fault14 g mark move x → x < g.n
fault14_vertex g mark move x f = (cycle_step (Recorded g mark move) x f.rest f.cycle).1.edge.from

-- only x is reached
pub record Single (n : ℕ) (reached : List ℕ) (x : ℕ) : Type 0 where
  pub here : get_or reached x 0 ≡ 1
  pub only : (u : ℕ) → u < n → get_or reached u 0 ≡ 1 → u ≡ x

module _ (tables : Tables) (answer : Answer) (ins froms : List ℕ) (answered : Answered tables answer) (preds : Preds (game_of tables) ins froms) (b : Backed (game_of tables) (mark_of answer.winners) (move_of answer.moves)) where
  abbrev g : Game
  g = game_of tables

  abbrev Step : ℕ → ℕ → Type 0
  Step = Recorded g (mark_of answer.winners) (move_of answer.moves)

  -- a recorded step from a vertex of priority at most k is an allowed step, and the other way round
  allowed : (k v w : ℕ) → Low g Step k v w → Allowed (vertices tables) ins froms tables.priorities answer.moves k v w
  unfolding move_of
  allowed k v w s =
      record {
        edge = preds.listed v w s.taken.edge;
        low = s.low;
        fixed = λ _ h. elim (ℕ_discrete (get_or tables.owners v 0) (mark_of answer.winners v)) [ yes e ↦ s.taken.fixed e | no ne ↦ absurd (h (b.elsewhere v s.taken.edge.from ne)) ];
      }

  recorded : (k v w : ℕ) → Allowed (vertices tables) ins froms tables.priorities answer.moves k v w → Low g Step k v w
  unfolding move_of
  recorded k v w a =
      let e : Edge g v w = preds.edge v w a.edge in
      record {
        taken = record { edge = e; fixed = λ o. a.fixed (omega (arith, e.from, answered.moves_long)) (λ z. omega (arith, answered.well_formed.sound.few, (b.owned v e.from o).0.to)) };
        low = a.low;
      }

  module _ (x : ℕ) (lost : parity_of (get_or tables.priorities x 0) ≢ mark_of answer.winners x) (l : x < vertices tables) (before after : List ℕ) (one : Single (vertices tables) before x) (c : ClosedFrom (vertices tables) ins froms tables.priorities answer.moves (get_or tables.priorities x 0) before after) where
    end_within : {v u : ℕ} → v < vertices tables → Walk (Allowed (vertices tables) ins froms tables.priorities answer.moves (get_or tables.priorities x 0)) v u → u < vertices tables
    end_within h w = follow (λ (y : ℕ). y < vertices tables) (λ v y a k. (preds.edge v y a.edge).to) h w

    pub fault14 : Comes (next_of tables.starts tables.targets x) (move_of answer.moves x) after → Fault14 g (mark_of answer.winners) (move_of answer.moves) x
    fault14 h =
        let i : h.to < vertices tables = answered.well_formed.sound.inside x h.to l h.listed in
        let s : Step x h.to = record { edge = record { from = l; to = i; listed = h.listed }; fixed = λ o. h.fixed (λ z. omega (arith, answered.well_formed.sound.few, (b.owned x l o).0.to)) } in
        let r = c.reason h.to i h.is_reached in
        let e : r.seed ≡ x = one.only r.seed (end_within i r.walk) r.was_reached in
        let w = map_walk (recorded (get_or tables.priorities x 0)) (subst (Walk (Allowed (vertices tables) ins froms tables.priorities answer.moves (get_or tables.priorities x 0)) h.to) e r.walk) in
        let cycle = cycle_of g Step x h.to s w in
        record { rest = cycle.0; cycle = cycle.1; own_highest = cycle.2; lost = lost }

    pub fault14_only : Fault14 g (mark_of answer.winners) (move_of answer.moves) x → Comes (next_of tables.starts tables.targets x) (move_of answer.moves x) after
    fault14_only f =
        let r = round_of g Step x f.rest f.cycle f.own_highest in
        record {
          to = r.0;
          listed = r.1.edge.listed;
          fixed = λ h. elim (ℕ_discrete (get_or tables.owners x 0) (mark_of answer.winners x)) [ yes e ↦ r.1.fixed e | no ne ↦ absurd (h (b.elsewhere x l ne)) ];
          is_reached = follow_back (λ (v : ℕ). get_or after v 0 ≡ 1) c.closed (c.kept x l one.here) (map_walk (allowed (get_or tables.priorities x 0)) r.2);
        }
