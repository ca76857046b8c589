-- An answer to a game as it is stored: how many cells its winners take, and what is read of a vertex. (docs/RULES.md, Answers)
use Rattle.std.specs.Prelude.{ℕ, List, length, get_or}

-- the two lists of an answer
pub record Answer : Type 0 where
  pub winners : List ℕ
  pub moves : List ℕ

-- such an answer, in this order
abbrev pub answer_of : (winners moves : List ℕ) → Answer
answer_of winners moves = record { winners = winners; moves = moves }

-- how many cells the winners of n vertices take
unfoldable pub winner_cells : ℕ → ℕ
winner_cells n = n

-- for how many vertices a list of winners has room
unfoldable pub mark_room : List ℕ → ℕ
mark_room winners = length winners

-- the mark of a vertex: its winner
unfoldable pub mark_of : List ℕ → ℕ → ℕ
mark_of winners v = get_or winners v 0

-- the recorded move of a vertex
unfoldable pub move_of : List ℕ → ℕ → ℕ
move_of moves v = get_or moves v 0
