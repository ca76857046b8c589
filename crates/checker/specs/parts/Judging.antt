-- What judging an answer to a well-formed game asks and gives.
use Rattle.std.specs.Prelude.{ℕ, ◌*◌, ◌≡◌, List, length}
use Rattle.refusal.specs.promise.Row.{Said, Gives}
use Rattle.game.specs.promise.Tables.{Tables, vertices, game_of}
use Rattle.storage.specs.promise.Answer.{Answer}
use Rattle.storage.specs.promise.Lent.{Zeroed}
use Rattle.preds.specs.parts.Preds.{Preds}
use Rattle.answers.specs.parts.Answered.{Answered}
use Rattle.checker.specs.promise.Checking.{judge_rows}

module _ (t : Tables) (a : Answer) where
  -- 1 to 8 do not apply
  pub record PassedTo11 (work : List ℕ) : Type 0 where
    pub answered : Answered t a
    pub work_long : length work ≡ 4 * vertices t

  -- what `judge` asks: besides, the game's predecessor lists
  pub record Judgeable (ins froms work : List ℕ) : Type 0 where
    pub passed : PassedTo11 work
    pub preds : Preds (game_of t) ins froms

  -- what `judge_in` asks: room for them
  pub record JudgeableIn (ins froms work : List ℕ) : Type 0 where
    pub passed : PassedTo11 work
    pub ins_long : length ins ≡ 2049
    pub froms_long : length froms ≡ 16384

  -- what they give: the first of 11 to 14 that applies, and the work space all zero
  pub record Judged (work work' : List ℕ) (said : Said) : Type 0 where
    pub gives : Gives (judge_rows t a) said
    pub zeroed : Zeroed work work'
