-- Lists of winners and moves: what writing gives, and what the one-vertex test gives.
use Rattle.std.specs.Prelude.{ℕ, ◌<◌, ◌≡◌, ◌≢◌, List, length, get_or, Option, Some, None}
use Rattle.refusal.specs.promise.Row.{Lowest, NoPlace}
use Rattle.storage.specs.promise.Answer.{winner_cells, mark_room, mark_of, move_of}

-- a list of the winners of n vertices
pub record Stored (n : ℕ) (winners : List ℕ) : Type 0 where
  pub cells : length winners ≡ winner_cells n

-- as many cells as the most vertices take (`WINNERS` in the code)
abbrev pub cells_most : ℕ
cells_most = 2048

-- each number of a stretch is a vertex for which there is a mark
abbrev pub AllMarked : (stretch winners : List ℕ) → Type 0
AllMarked stretch winners = (i : ℕ) → i < length stretch → get_or stretch i 0 < mark_room winners

-- v has the mark p, and all else is as before
pub record MarkSet (before after : List ℕ) (v p : ℕ) : Type 0 where
  pub long : length after ≡ length before
  pub here : mark_of after v ≡ p
  pub other : (u : ℕ) → u ≢ v → mark_of after u ≡ mark_of before u

-- v has the move m, and all else is as before
pub record MoveSet (before after : List ℕ) (v m : ℕ) : Type 0 where
  pub long : length after ≡ length before
  pub here : move_of after v ≡ m
  pub other : (u : ℕ) → u ≢ v → move_of after u ≡ move_of before u

-- the successor at place i is marked for p
pub record MarkedFor (p : ℕ) (mark : ℕ → ℕ) (next : List ℕ) (i : ℕ) : Type 0 where
  pub within : i < length next
  pub his : mark (get_or next i 0) ≡ p

-- w is the first of the successors that is marked for p
pub record FirstFor (p : ℕ) (mark : ℕ → ℕ) (next : List ℕ) (w : ℕ) : Type 0 where
  pub at : ℕ
  pub lowest : Lowest (MarkedFor p mark next) at
  pub is : w ≡ get_or next at 0

-- the one-vertex test: the first successor that is marked for the owner, or that none is
abbrev pub Chooses : ℕ → (ℕ → ℕ) → List ℕ → Option ℕ → Type 0
Chooses p mark next (Some w) = FirstFor p mark next w
Chooses p mark next None = NoPlace (MarkedFor p mark next)
