-- What is lent besides the tables, row 8 on its lengths, and how the clauses of a contract speak of it. (docs/RULES.md, Memory)
use Rattle.std.specs.Prelude.{ℕ, ◌*◌, ◌<◌, ◌≤◌, ◌≡◌, List, [], ◌∷◌, ◌++◌, length, get_or}
use Rattle.std.specs.Borrow.{MutBor}
use denote.Triple.Both.{Both}
use Rattle.refusal.specs.promise.Row.{Row, row}
use Rattle.game.specs.promise.Tables.{Tables, vertices}
use Rattle.game.specs.promise.Faults.{table_rows}
use Rattle.game.specs.promise.Lent.{Sized, sized, Fault8}
use Rattle.storage.specs.declared.answer.Answer as stored
use Rattle.storage.specs.promise.Answer.{Answer, answer_of, winner_cells}

-- what a solver writes: an answer, with the work space beside it
pub record Lent : Type 0 where
  pub answer : Answer
  pub work : List ℕ

-- the winners of n vertices, n moves, 4 × n cells of work space
abbrev pub lent_sizes : (n winners moves work : ℕ) → List Sized
lent_sizes n winners moves work = sized winners (winner_cells n) ∷ sized moves n ∷ sized work (4 * n) ∷ []

-- 1 to 7 on the tables, then 8 on the lengths of winners, moves and work space
abbrev pub lent_rows : Tables → (winners moves work : ℕ) → List Row
lent_rows t winners moves work = table_rows t ++ (row 8 (Fault8 (lent_sizes (vertices t) winners moves work)) ∷ [])

-- the work space is all zero, and as long as before
pub record Zeroed (before after : List ℕ) : Type 0 where
  pub long : length after ≡ length before
  pub zero : (i : ℕ) → i < length after → get_or after i 0 ≡ 0

-- 11 to 14 judge an answer
pub record Judging (number : ℕ) : Type 0 where
  pub least : 11 ≤ number
  pub most : number ≤ 14

-- what a refusal leaves in the work space: zeros if it judges an answer, else what stood there
pub record Leaves (number : ℕ) (before after : List ℕ) : Type 0 where
  pub zeroed : Judging number → Zeroed before after
  pub same : ¬ Judging number → after ≡ before

-- the answer that a `requires` speaks of; of two lists `answer_of` makes one
abbrev pub claim : stored.Answer → Answer
claim a = answer_of a.winners.now a.moves.now

-- the answer that an `ensures` speaks of: as it was at entry
abbrev pub claimed : {A : Type 0} → Both stored.Answer A → Answer
claimed a = claim a.entry

-- what is lent to a solver: as a `requires` speaks of it, at entry, and at exit
abbrev pub buffers : (winners moves work : MutBor (List ℕ)) → Lent
buffers winners moves work = record { answer = answer_of winners.now moves.now; work = work.now }

abbrev pub given : {A B C : Type 0} → Both (MutBor (List ℕ)) A → Both (MutBor (List ℕ)) B → Both (MutBor (List ℕ)) C → Lent
given winners moves work = buffers winners.entry moves.entry work.entry

abbrev pub left : {A B C : Type 0} → Both A (MutBor (List ℕ)) → Both B (MutBor (List ℕ)) → Both C (MutBor (List ℕ)) → Lent
left winners moves work = buffers winners.exit moves.exit work.exit
