-- P1 to P10 as one table, and what it says of a row: the promises allow what must come out, and nothing else. (docs/RULES.md, Small games)
use Rattle.std.specs.Prelude.{ℕ, ◌*◌, ◌≡◌, ◌&&◌, cond, List, [], ◌∷◌, leb, length, replicate}
use Rattle.refusal.specs.promise.Row.{Said, success, refused}
use Rattle.game.specs.promise.Tables.{Tables, vertices}
use Rattle.storage.specs.promise.Answer.{Answer}
use Rattle.game.specs.promise.Lent.{Fit}
use Rattle.storage.specs.promise.Lent.{Lent, lent_sizes}
use Rattle.winning.specs.promise.Answer.{no_move}
use Rattle.checker.specs.promise.Checking.{Checks}
use Rattle.solver.specs.promise.Solving.{Solves}
use Rattle.update.specs.promise.Updating.{Updates}
use Rattle.inputs.specs.promise.Inputs.{input_of}
use Rattle.cases.specs.promise.Games.{A, B, game8, game9, loop_of}

-- a row: what is handed in, and what must come out
pub data Case : Type 0 where
  -- the solver is handed a game: its answer
  solved : (game : Tables) → (answer : Answer) → Case
  -- the solver is handed tables that it refuses: number and place
  unsolved : (game : Tables) → (number place : ℕ) → Case
  -- the checker is handed a game and an answer: what it says
  checked : (game : Tables) (answer : Answer) → (said : Said) → Case
  -- the update is handed two games and an answer to the first: its answer and count
  updated : (first second : Tables) (old : Answer) → (new : Answer) (count : ℕ) → Case

-- an answer: winners, then moves
abbrev pub line : (winners moves : List ℕ) → Answer
line winners moves = record { winners = winners; moves = moves }

-- 65,535 stands where there is no move
abbrev none : ℕ
none = no_move

-- P1's answer to A
abbrev pub answer_a : Answer
answer_a = line (0 ∷ 0 ∷ 0 ∷ 1 ∷ []) (2 ∷ none ∷ 0 ∷ 3 ∷ [])

-- P2's answer to B
abbrev pub answer_b : Answer
answer_b = line (1 ∷ 1 ∷ 1 ∷ 1 ∷ []) (1 ∷ 0 ∷ none ∷ 3 ∷ [])

-- the table
abbrev pub table : List Case
table =
    -- P1 and P2: the answers to A and B, by solver and checker
    solved A answer_a ∷
    checked A answer_a (success []) ∷
    solved B answer_b ∷
    checked B answer_b (success []) ∷
    -- P3: A amended to B is B's answer, and three lines are decided anew
    updated A B answer_a answer_b 3 ∷
    -- P4: A amended to itself keeps every line
    updated A A answer_a answer_a 0 ∷
    -- P5: with the move 1 at 0 the play goes round by 1
    checked A (line (0 ∷ 0 ∷ 0 ∷ 1 ∷ []) (1 ∷ none ∷ 0 ∷ 3 ∷ [])) (refused 14 1) ∷
    -- P6: 3, marked for Even, lies on a loop of Odd's parity
    checked A (line (0 ∷ 0 ∷ 0 ∷ 0 ∷ []) (2 ∷ none ∷ 0 ∷ none ∷ [])) (refused 14 3) ∷
    -- P7: 1, marked for Odd, moves to a vertex marked for Even
    checked A (line (0 ∷ 1 ∷ 0 ∷ 1 ∷ []) (2 ∷ 0 ∷ 0 ∷ 3 ∷ [])) (refused 12 1) ∷
    -- P8: from 0, marked for Even, Odd escapes to 1
    checked game8 (line (0 ∷ 1 ∷ []) (none ∷ 1 ∷ [])) (refused 13 0) ∷
    -- P9: Even must leave 0 to win
    solved game9 (line (0 ∷ 0 ∷ []) (1 ∷ 1 ∷ [])) ∷
    checked game9 (line (0 ∷ 0 ∷ []) (1 ∷ 1 ∷ [])) (success []) ∷
    -- P10: 254 is the highest priority; 255 is refused
    solved (loop_of 254) (line (0 ∷ []) (none ∷ [])) ∷
    checked (loop_of 254) (line (0 ∷ []) (none ∷ [])) (success []) ∷
    unsolved (loop_of 255) 3 0 ∷
    checked (loop_of 255) (line (0 ∷ []) (none ∷ [])) (refused 3 0) ∷ []

-- buffers of the fixed lengths, with any content
abbrev pub Fits : ℕ → Lent → Type 0
Fits n lent = Fit (lent_sizes n (length lent.answer.winners) (length lent.answer.moves) (length lent.work))

-- what comes out of solver and update: what is said, and what the lent buffers hold
pub record Outcome : Type 0 where
  pub said : Said
  pub left : Lent

-- such an outcome: what is said, the answer, the work space
abbrev pub outcome : Said → Answer → (work : List ℕ) → Outcome
outcome said answer work = record { said = said; left = record { answer = answer; work = work } }

-- what comes out of the checker, which writes to the work space alone
pub record Judgement : Type 0 where
  pub said : Said
  pub work : List ℕ

-- such a judgement, in this order
abbrev pub judgement : Said → (work : List ℕ) → Judgement
judgement said work = record { said = said; work = work }

-- the promise of `solve` on this game and what is lent
abbrev pub Solving : Tables → Lent → Outcome → Type 0
Solving t lent o = Solves t lent o.left o.said

-- the promise of `check` on this game and answer
abbrev pub Checking : Tables → Answer → (work : List ℕ) → Judgement → Type 0
Checking t a work j = Checks t a work j.work j.said

-- the promise of `update` on these games and the answer to the first
abbrev pub Updating : (first second : Tables) (old : Answer) → Lent → Outcome → Type 0
Updating g h old lent o = Updates (input_of g h old) lent o.left o.said

-- P allows a and nothing else
pub record Only {X : Type 0} (P : X → Type 0) (a : X) : Type 0 where
  pub allowed : P a
  pub no_other : (b : X) → P b → b ≡ a

-- as many zeros
abbrev pub zeros : List ℕ → List ℕ
zeros work = replicate (length work) 0

-- the work space afterwards: zeros after success and 11 to 14, else what stood there
abbrev pub work_after : Said → List ℕ → List ℕ
work_after (success values) work = zeros work
work_after (refused number place) work = cond (leb 11 number && leb number 14) (zeros work) work

-- the statement of a row, for whatever is lent
abbrev pub RowHolds : Case → Type 0
RowHolds (solved g a) = (lent : Lent) → Fits (vertices g) lent → Only (Solving g lent) (outcome (success []) a (zeros lent.work))
RowHolds (unsolved g number place) = (lent : Lent) → Only (Solving g lent) (record { said = refused number place; left = lent })
RowHolds (checked g a said) = (work : List ℕ) → length work ≡ 4 * vertices g → Only (Checking g a work) (judgement said (work_after said work))
RowHolds (updated g h old new count) =
    (lent : Lent) → Fits (vertices g) lent → Only (Updating g h old lent) (outcome (success (count ∷ [])) new (zeros lent.work))

-- P holds of every row
abbrev pub Every : (Case → Type 0) → List Case → Type 0
Every P [] = Unit {0}
Every P (row ∷ rows) = P row × Every P rows

-- the single statement of the table
abbrev pub TableHolds : Type 0
TableHolds = Every RowHolds table
