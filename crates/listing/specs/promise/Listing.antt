-- What the listing of a file is: the line of its refusal, or the lines of its game with a solution. (docs/RULES.md, The listing)
use Rattle.std.specs.Prelude.{ℕ, ◌≤◌, ◌<◌, ◌≡◌, ◌⊎◌, ◌↔◌, List, length, take, drop}
use Rattle.refusal.specs.promise.Row.{None, First}
use Rattle.game.specs.promise.Tables.{Tables}
use Rattle.storage.specs.promise.Answer.{Answer, move_of}
use Rattle.winning.specs.promise.Answer.{no_move}
use Rattle.solver.specs.promise.Solving.{IsSolution}
use Rattle.format.specs.promise.Filed.{vertices_filed, edges_filed, tables_filed}
use Rattle.format.specs.promise.Faults.{judged_rows}
use Rattle.lines.specs.promise.Lines.{game_lines, refused_line}

-- the lines of a game of n vertices and m edges with an answer
abbrev pub game_text : (n m : ℕ) → Tables → Answer → List ℕ
game_text n m t a = game_lines t.owners t.priorities a.winners a.moves n m

-- no row refuses the file, and the text lists its game with a solution
pub record GameListed (file text : List ℕ) : Type 0 where
  pub answer : Answer
  pub none : None (judged_rows file)
  pub solution : IsSolution (tables_filed file) answer
  pub is : text ≡ game_text (vertices_filed file) (edges_filed file) (tables_filed file) answer

-- the file is refused, and the text says so
pub record RefusalListed (file text : List ℕ) : Type 0 where
  pub number : ℕ
  pub place : ℕ
  pub first : First (judged_rows file) number place
  pub is : text ≡ refused_line number place

-- the text is the listing of the file
abbrev pub Lists : (file text : List ℕ) → Type 0
Lists file text = GameListed file text ⊎ RefusalListed file text

-- the listing stands in the first r bytes, and those past it are as they were
pub record SetDown (file before after : List ℕ) (r : ℕ) : Type 0 where
  pub within : r ≤ length after
  pub lists : Lists file (take r after)
  pub past : drop r after ≡ drop r before

-- two texts of a game with the same first line and the same fields but for moves, `-` standing at the same vertices
pub record ButForMoves (a b : List ℕ) : Type 0 where
  pub n : ℕ
  pub m : ℕ
  pub tables : Tables
  pub winners : List ℕ
  pub moves : List ℕ
  pub moves' : List ℕ
  pub one : a ≡ game_text n m tables (record { winners = winners; moves = moves })
  pub other : b ≡ game_text n m tables (record { winners = winners; moves = moves' })
  pub dashes : (v : ℕ) → v < n → (move_of moves v ≡ no_move) ↔ (move_of moves' v ≡ no_move)

-- two listings agree: they are the same text, or the same but for moves
abbrev pub Agree : (a b : List ℕ) → Type 0
Agree a b = (a ≡ b) ⊎ ButForMoves a b
