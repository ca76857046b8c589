-- The rows 12 to 14: what may be wrong with an answer, and at which vertices. (docs/RULES.md, Refusals)
use Rattle.std.specs.Prelude.{ℕ, ◌<◌, ◌≡◌, ◌≢◌, List, [], ◌∷◌}
use Rattle.player.specs.promise.Player.{IsPlayer, parity_of}
use Rattle.refusal.specs.promise.Row.{Row, row, None}
use Rattle.game.specs.promise.Game.{Game, Edge}
use Rattle.winning.specs.promise.Cycle.{Cycle, highest}
use Rattle.winning.specs.promise.Answer.{no_move}

module _ (g : Game) (mark move : ℕ → ℕ) where
  -- a step by the recorded moves: the move where the winner owns, any successor elsewhere
  pub record Recorded (v w : ℕ) : Type 0 where
    pub edge : Edge g v w
    pub fixed : g.owner v ≡ mark v → w ≡ move v

  -- 12: where the winner owns, the move is no successor with his mark; elsewhere there is a move
  pub data Fault12 (x : ℕ) : Type 0 where
    own : x < g.n → g.owner x ≡ mark x → ¬ (Edge g x (move x) × (mark (move x) ≡ mark x)) → Fault12 x
    other : x < g.n → g.owner x ≢ mark x → move x ≢ no_move → Fault12 x

  -- 13: the loser owns the vertex and has a successor with another mark
  pub record Fault13 (x : ℕ) : Type 0 where
    pub loser : g.owner x ≢ mark x
    pub successor : ℕ
    pub edge : Edge g x successor
    pub differs : mark successor ≢ mark x

  -- 14: x has the highest priority on a cycle by the recorded moves, and its parity is not x's mark
  pub record Fault14 (x : ℕ) : Type 0 where
    pub rest : List ℕ
    pub cycle : Cycle Recorded (x ∷ rest)
    pub own_highest : highest g (x ∷ rest) ≡ g.priority x
    pub lost : parity_of (g.priority x) ≢ mark x

  -- the rows 12 to 14 in their order
  abbrev pub answer_rows : List Row
  answer_rows = row 12 Fault12 ∷ row 13 Fault13 ∷ row 14 Fault14 ∷ []

  -- an accepted answer: its marks are players, and none of the rows applies
  pub record Accepted : Type 0 where
    pub players : (v : ℕ) → v < g.n → IsPlayer (mark v)
    pub none : None answer_rows
