-- What deciding anew asks and gives. All lists are the second game's but the old answer; `reached` has 1 where a vertex is decided anew, else 0.
use Rattle.std.specs.Prelude.{ℕ, ◌<◌, ◌≡◌, List, length, get_or}
use Rattle.game.specs.promise.Game.{Game, Edge}
use Rattle.game.specs.promise.Tables.{game_of, WellFormed, Tables, vertices}
use Rattle.storage.specs.promise.Answer.{mark_of, move_of}
use Rattle.storage.specs.promise.Lent.{Zeroed}
use Rattle.winning.specs.promise.Faults.{Accepted}
use Rattle.justification.specs.parts.Start.{SameAt}
use Rattle.preds.specs.parts.Preds.{Preds}
use Rattle.start.specs.parts.Preparing.{Preparable}

module _ (tables : Tables) (old_winners old_moves reached : List ℕ) where
  -- the old answer is accepted for a game of as many vertices that agrees with this one where nothing is reached, and no edge leads from there to what is reached
  pub record OldKept : Type 0 where
    pub first : Game
    pub size : first.n ≡ vertices tables
    pub accepted : Accepted first (mark_of old_winners) (move_of old_moves)
    pub agree : (v : ℕ) → v < vertices tables → get_or reached v 0 ≡ 0 → SameAt first (game_of tables) v
    pub closed : (v w : ℕ) → get_or reached v 0 ≡ 0 → Edge (game_of tables) v w → get_or reached w 0 ≡ 0

  -- what deciding asks
  pub record Decidable (ins froms winners moves work : List ℕ) : Type 0 where
    pub well_formed : WellFormed tables
    pub preds : Preds (game_of tables) ins froms
    pub preparable : Preparable (vertices tables) tables.priorities old_winners old_moves reached winners moves work
    pub kept : OldKept

  -- what it gives: an accepted answer with the old lines where nothing is reached
  pub record DecidedAnew (winners moves work winners' moves' work' : List ℕ) : Type 0 where
    pub winners_long : length winners' ≡ length winners
    pub moves_long : length moves' ≡ length moves
    pub accepted : Accepted (game_of tables) (mark_of winners') (move_of moves')
    pub kept_mark : (v : ℕ) → v < vertices tables → get_or reached v 0 ≡ 0 → mark_of winners' v ≡ mark_of old_winners v
    pub kept_move : (v : ℕ) → v < vertices tables → get_or reached v 0 ≡ 0 → move_of moves' v ≡ move_of old_moves v
    pub zeroed : Zeroed work work'
