-- How long the lines are at most: the room that the text must have.
use Prim.Native.Nat.{ℕ, zero, suc, ◌+◌, ◌*◌, ◌<◌, ◌≤◌}
use mathlib.Core.Path.{◌≡◌, ap, ◌∙◌}
use mathlib.Core.Logic.{◌⊎◌, ⊎_elim}
use mathlib.Core.List.{List, [], ◌∷◌, ◌++◌}
use native.Mathlib.Omega.{arith}
use lib.ListN.{length, get_or, length-append}
use Rattle.storage.specs.promise.Answer.{mark_of, move_of}
use Rattle.text.specs.promise.Text.{decimal_of, line_of}
use Rattle.text.proofs.Decimals.{decimal_20, decimal_most}
use Rattle.lines.specs.promise.Lines.{word_game, word_refused, move_field, game_line, refused_line, line_at, vertex_lines}
use Rattle.lines.proofs.Moves.{move_none, move_some}

-- a move is no move or a vertex
pub move_most : (to : ℕ) → (to ≡ 65535) ⊎ (to < 2048) → length (move_field to) ≤ 4
move_most to h =
    ⊎_elim
    (λ e. omega (arith, ap length (move_none to e)))
    (λ l. omega (arith, ap length (move_some to (λ e. omega arith)), decimal_most 3 to (omega arith)))
    h

-- a field and the byte after it
field_long : (f : List ℕ) (s : ℕ) (rest : List ℕ) → length (f ++ (s ∷ rest)) ≡ length f + 1 + length rest
field_long f s rest = length-append f (s ∷ rest) ∙ (let q : length f + length (s ∷ rest) ≡ length f + 1 + length rest = omega arith in q)

-- a line of five fields
pub line_long : (a b c d e : List ℕ) → length (line_of (a ∷ b ∷ c ∷ d ∷ e ∷ [])) ≡ length a + length b + length c + length d + length e + 5
line_long a b c d e =
    omega (arith, field_long a 32 (line_of (b ∷ c ∷ d ∷ e ∷ [])), field_long b 32 (line_of (c ∷ d ∷ e ∷ [])), field_long c 32 (line_of (d ∷ e ∷ [])), field_long d 32 (line_of (e ∷ [])), field_long e 10 [])

-- a line of three fields
line_long_3 : (a b c : List ℕ) → length (line_of (a ∷ b ∷ c ∷ [])) ≡ length a + length b + length c + 3
line_long_3 a b c = omega (arith, field_long a 32 (line_of (b ∷ c ∷ [])), field_long b 32 (line_of (c ∷ [])), field_long c 10 [])

pub game_line_most : (n m : ℕ) → n < 10000 → m < 100000 → length (game_line n m) ≤ 16
game_line_most n m l k = omega (arith, line_long_3 word_game (decimal_of n) (decimal_of m), decimal_most 3 n l, decimal_most 4 m k)

pub refused_line_most : (number place : ℕ) → length (refused_line number place) ≤ 50
refused_line_most number place = omega (arith, line_long_3 word_refused (decimal_of number) (decimal_of place), decimal_20 number, decimal_20 place)

-- what the fields of a vertex's line may be
pub record Narrow (owners priorities winners moves : List ℕ) (v : ℕ) : Type 0 where
  pub vertex : v < 10000
  pub owner : get_or owners v 0 < 10
  pub priority : get_or priorities v 0 < 1000
  pub winner : mark_of winners v < 10
  pub move : (move_of moves v ≡ 65535) ⊎ (move_of moves v < 2048)

module _ (owners priorities winners moves : List ℕ) where
  line_most : (v : ℕ) → Narrow owners priorities winners moves v → length (line_at owners priorities winners moves v) ≤ 18
  line_most v s =
      omega (arith, line_long (decimal_of v) (decimal_of (get_or owners v 0)) (decimal_of (get_or priorities v 0)) (decimal_of (mark_of winners v)) (move_field (move_of moves v)), decimal_most 3 v s.vertex, decimal_most 0 _ s.owner, decimal_most 2 _ s.priority, decimal_most 0 _ s.winner, move_most _ s.move)

  pub lines_most : (n : ℕ) → ((v : ℕ) → v < n → Narrow owners priorities winners moves v) → length (vertex_lines owners priorities winners moves n) ≤ 18 * n
  unfolding vertex_lines
  lines_most zero all = omega arith
  lines_most (suc n) all =
      let h = lines_most n (λ v l. all v (omega arith)) in
      let k = line_most n (all n (omega arith)) in
      omega (arith, length-append (vertex_lines owners priorities winners moves n) (line_at owners priorities winners moves n))
