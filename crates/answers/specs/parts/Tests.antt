-- What the tests of one vertex ask.
use Rattle.std.specs.Prelude.{ℕ, ◌<◌, ◌≡◌, ◌≢◌, List, length, get_or}
use Rattle.game.specs.promise.Game.{Listed}
use Rattle.winning.specs.promise.Answer.{no_move}

-- m is a successor with the mark p
pub record OwnMove (mark : ℕ → ℕ) (next : List ℕ) (p m : ℕ) : Type 0 where
  pub listed : Listed m next
  pub same : mark m ≡ p

-- the move m is wrong at a vertex of this owner, these successors and the mark p
pub data WrongMove (mark : ℕ → ℕ) (next : List ℕ) (owner p m : ℕ) : Type 0 where
  own : owner ≡ p → ¬ OwnMove mark next p m → WrongMove mark next owner p m
  other : owner ≢ p → m ≢ no_move → WrongMove mark next owner p m

-- a vertex of this owner and the mark p has a successor with another mark, though its owner is the loser
pub record Escape (mark : ℕ → ℕ) (next : List ℕ) (owner p : ℕ) : Type 0 where
  pub loser : owner ≢ p
  pub at : ℕ
  pub within : at < length next
  pub differs : mark (get_or next at 0) ≢ p
