-- What the solver promises: what it says, and what winners, moves and work space hold afterwards. (docs/RULES.md, Entry points)
use Rattle.std.specs.Prelude.{ℕ, ◌≡◌, List, [], length}
use Rattle.refusal.specs.promise.Row.{Row, Said, success, refused, None, First}
use Rattle.game.specs.promise.Tables.{Tables, game_of}
use Rattle.storage.specs.promise.Answer.{Answer, mark_of, move_of}
use Rattle.storage.specs.promise.Lent.{Lent, lent_rows, Zeroed}
use Rattle.winning.specs.promise.Answer.{Solution}

-- the answer is a solution of the game of the tables
abbrev pub IsSolution : Tables → Answer → Type 0
IsSolution t a = Solution (game_of t) (mark_of a.winners) (move_of a.moves)

-- 1 to 8
abbrev pub solve_rows : Tables → Lent → List Row
solve_rows t l = lent_rows t (length l.answer.winners) (length l.answer.moves) (length l.work)

-- a solution in lists as long as before, and the work space all zero
pub record Written (t : Tables) (before after : Lent) : Type 0 where
  pub winners_long : length after.answer.winners ≡ length before.answer.winners
  pub moves_long : length after.answer.moves ≡ length before.answer.moves
  pub solution : IsSolution t after.answer
  pub zeroed : Zeroed before.work after.work

module _ (t : Tables) (before after : Lent) where
  -- success: no row applies, and the solution is written
  pub record Answers (values : List ℕ) : Type 0 where
    pub none : None (solve_rows t before)
    pub no_value : values ≡ []
    pub written : Written t before after

  -- refusal: the first row that applies, and all that is lent unchanged
  pub record Declines (number place : ℕ) : Type 0 where
    pub first : First (solve_rows t before) number place
    pub same : after ≡ before

  -- the promise, by what is said
  abbrev pub Solves : Said → Type 0
  Solves (success values) = Answers values
  Solves (refused number place) = Declines number place
