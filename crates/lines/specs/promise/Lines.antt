-- The lines of a listing as text. (docs/RULES.md, The listing)
use Rattle.std.specs.Prelude.{ℕ, zero, suc, cond, List, [], ◌∷◌, ◌++◌, get_or, eqb}
use Rattle.storage.specs.promise.Answer.{mark_of, move_of}
use Rattle.text.specs.promise.Text.{decimal_of, line_of}

-- the words of the first field, and what stands for no move
abbrev pub word_game : List ℕ
word_game = 103 ∷ 97 ∷ 109 ∷ 101 ∷ []

abbrev pub word_refused : List ℕ
word_refused = 114 ∷ 101 ∷ 102 ∷ 117 ∷ 115 ∷ 101 ∷ 100 ∷ []

abbrev pub dash : List ℕ
dash = 45 ∷ []

-- a move, or a dash
abbrev pub move_field : ℕ → List ℕ
move_field move = cond (eqb move 65535) dash (decimal_of move)

-- the first line of a game: how many vertices and edges it has
abbrev pub game_line : (n m : ℕ) → List ℕ
game_line n m = line_of (word_game ∷ decimal_of n ∷ decimal_of m ∷ [])

-- the one line of a refusal: its number and place
abbrev pub refused_line : (number place : ℕ) → List ℕ
refused_line number place = line_of (word_refused ∷ decimal_of number ∷ decimal_of place ∷ [])

-- the line of a vertex: itself, its owner, priority, winner and move
abbrev pub vertex_line : (v owner priority winner move : ℕ) → List ℕ
vertex_line v owner priority winner move = line_of (decimal_of v ∷ decimal_of owner ∷ decimal_of priority ∷ decimal_of winner ∷ move_field move ∷ [])

module _ (owners priorities winners moves : List ℕ) where
  -- the line of a vertex by what the lists say of it
  abbrev pub line_at : ℕ → List ℕ
  line_at v = vertex_line v (get_or owners v 0) (get_or priorities v 0) (mark_of winners v) (move_of moves v)

  -- the lines of the vertices below n
  unfoldable pub vertex_lines : ℕ → List ℕ
  vertex_lines zero = []
  vertex_lines (suc v) = vertex_lines v ++ line_at v

  -- all lines of a game of n vertices and m edges
  abbrev pub game_lines : (n m : ℕ) → List ℕ
  game_lines n m = game_line n m ++ vertex_lines n
