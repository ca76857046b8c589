-- What the checker promises: its verdict, and what the work space holds afterwards. (docs/RULES.md, Entry points)
use Rattle.std.specs.Prelude.{ℕ, ◌≡◌, List, [], ◌∷◌, ◌++◌, length}
use Rattle.refusal.specs.promise.Row.{Row, row, Said, success, refused, None, First}
use Rattle.game.specs.promise.Tables.{Tables, vertices, game_of}
use Rattle.storage.specs.promise.Answer.{Answer, mark_of, move_of}
use Rattle.storage.specs.promise.Faults.{Fault11}
use Rattle.storage.specs.promise.Lent.{lent_rows, Judging, Zeroed, Leaves}
use Rattle.winning.specs.promise.Answer.{Right}
use Rattle.winning.specs.promise.Faults.{answer_rows}

-- the answer is right for the game of the tables
abbrev pub IsRight : Tables → Answer → Type 0
IsRight t a = Right (game_of t) (mark_of a.winners) (move_of a.moves)

-- 11 to 14 on the answer
abbrev pub judge_rows : Tables → Answer → List Row
judge_rows t a = row 11 (Fault11 (vertices t) a.winners) ∷ answer_rows (game_of t) (mark_of a.winners) (move_of a.moves)

-- 1 to 8
abbrev pub before_rows : Tables → Answer → (work : List ℕ) → List Row
before_rows t a work = lent_rows t (length a.winners) (length a.moves) (length work)

-- 1 to 8, then 11 to 14
abbrev pub check_rows : Tables → Answer → (work : List ℕ) → List Row
check_rows t a work = before_rows t a work ++ judge_rows t a

module _ (t : Tables) (a : Answer) (work work' : List ℕ) where
  -- acceptance: 1 to 8 do not apply, the answer is right, and the work space is all zero
  pub record Accepts (values : List ℕ) : Type 0 where
    pub none : None (before_rows t a work)
    pub right : IsRight t a
    pub no_value : values ≡ []
    pub zeroed : Zeroed work work'

  -- refusal: the first row that applies; if it is one of 11 to 14 the answer is not right
  pub record Rejects (number place : ℕ) : Type 0 where
    pub first : First (check_rows t a work) number place
    pub wrong : Judging number → ¬ IsRight t a
    pub leaves : Leaves number work work'

  -- the promise, by what is said
  abbrev pub Checks : Said → Type 0
  Checks (success values) = Accepts values
  Checks (refused number place) = Rejects number place
