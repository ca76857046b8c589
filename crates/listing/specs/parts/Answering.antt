-- What the program's parts promise one another.
use Rattle.std.specs.Prelude.{ℕ, ◌+◌, ◌≤◌, List, length, Result, Ok, Err}
use Rattle.refusal.specs.promise.Number.{number_of}
use Rattle.game.specs.promise.Tables.{Tables, vertices, WellFormed}
use Rattle.storage.specs.promise.Answer.{Answer}
use Rattle.game.specs.promise.Lent.{Fit}
use Rattle.storage.specs.promise.Lent.{Lent, lent_sizes}
use Rattle.decoding.specs.promise.Holding.{used_parts}
use Rattle.housefile.specs.declared.Header.{Header}
use Rattle.refusal.specs.declared.Refusal.{Refusal}
use Rattle.solver.specs.promise.Solving.{IsSolution}
use Rattle.lines.specs.promise.Lines.{refused_line}
use Rattle.listing.specs.promise.Listing.{game_text}
use Rattle.text.specs.parts.Append.{Appended}

-- a well-formed game, with an answer and work space of the right lengths
pub record Solvable (t : Tables) (l : Lent) : Type 0 where
  pub well_formed : WellFormed t
  pub fit : Fit (lent_sizes (vertices t) (length l.answer.winners) (length l.answer.moves) (length l.work))

-- the answer is a solution of the game
pub record Solution (t : Tables) (a : Answer) : Type 0 where
  pub is : IsSolution t a

-- tables at whose beginnings a well-formed game of n vertices and m edges stands
pub record Tabled (n m : ℕ) (t : Tables) : Type 0 where
  pub owners_long : n ≤ length t.owners
  pub priorities_long : n ≤ length t.priorities
  pub starts_long : n + 1 ≤ length t.starts
  pub targets_long : m ≤ length t.targets
  pub well_formed : WellFormed (used_parts n m t)

-- the lines of the game of the tables with a solution stand in the first r bytes
pub record AnswerListed (t : Tables) (before after : List ℕ) (r : ℕ) : Type 0 where
  pub answer : Answer
  pub solution : IsSolution t answer
  pub within : r ≤ length after
  pub done : Appended before after 0 (game_text (vertices t) (length t.targets) t answer) r

-- what was read, as the tables must hold it: at their beginnings, a well-formed game
abbrev pub Tellable : Result Header Refusal → Tables → Type 0
Tellable (Ok h) t = Tabled h.vertices h.edges t
Tellable (Err f) t = Unit {0}

-- what was read, as it is told: the lines of its game, or the line of its refusal
abbrev pub Told : Result Header Refusal → Tables → (before after : List ℕ) → ℕ → Type 0
Told (Ok h) t before after r = AnswerListed (used_parts h.vertices h.edges t) before after r
Told (Err f) t before after r = Appended before after 0 (refused_line (number_of f.kind) f.place) r
