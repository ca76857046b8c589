-- Wrong programs, each with what it does on a named small game that the promise does not allow. (docs/PROMISES.md names them)
use Rattle.std.specs.Prelude.{ℕ, ◌≡◌, ◌≢◌, List, [], ◌∷◌, length, get_or}
use Rattle.refusal.specs.promise.Row.{Said, success, refused}
use Rattle.game.specs.promise.Tables.{Tables}
use Rattle.storage.specs.promise.Lent.{Lent}
use Rattle.winning.specs.promise.Answer.{no_move}
use Rattle.format.specs.promise.Format.{file_of, plain}
use Rattle.housefile.specs.promise.Reading.{Reads}
use Rattle.writer.specs.promise.Writing.{Writes}
use Rattle.cases.specs.promise.Games.{A, B, game8, game9, loop_of, A2, chain, chain1, free, free1}
use Rattle.cases.specs.promise.Table.{line, answer_a, Fits, outcome, Solving, Checking, Updating, zeros}

-- no outcome that P allows is one of Q
abbrev pub ShutOut : {X : Type 0} (P Q : X → Type 0) → Type 0
ShutOut {X} P Q = (x : X) → P x → Q x → ⊥

-- a refusal, whatever its number and place
abbrev pub IsRefusal : Said → Type 0
IsRefusal (success values) = ⊥
IsRefusal (refused number place) = Unit {0}

-- a success, whatever it hands back
abbrev pub IsSuccess : Said → Type 0
IsSuccess (success values) = Unit {0}
IsSuccess (refused number place) = ⊥

-- what comes out of the reader: what is said, and what the lent tables hold
pub record Loaded : Type 0 where
  pub said : Said
  pub left : Tables

-- such an outcome, in this order
abbrev pub loaded : Said → Tables → Loaded
loaded said left = record { said = said; left = left }

-- the promise of `read` on this file and what is lent
abbrev pub Reading : List ℕ → Tables → Loaded → Type 0
Reading file lent o = Reads file lent o.left o.said

-- the file of a loop with priority 255 under rule 1, which would turn it to 0
abbrev pub file255 : List ℕ
file255 = file_of (record { tables = loop_of 255; rule = 1 })

-- what comes out of the writer: what is said, and what the output holds
pub record Wrote : Type 0 where
  pub said : Said
  pub left : List ℕ

-- such an outcome, in this order
abbrev pub wrote : Said → List ℕ → Wrote
wrote said left = record { said = said; left = left }

-- the promise of `write` on these tables and this output
abbrev pub Writing : Tables → (output : List ℕ) → Wrote → Type 0
Writing t output o = Writes t output o.left o.said

-- each wrong program, shut out
pub record WrongPrograms : Type 0 where
  -- a solver that always refuses: A
  pub always_refuses : (lent : Lent) → Fits 4 lent → ShutOut (Solving A lent) (λ o. IsRefusal o.said)
  -- a solver that always names Even: B
  pub always_even : (lent : Lent) → Fits 4 lent → ShutOut (Solving B lent) (λ o. (v : ℕ) → get_or o.left.answer.winners v 0 ≡ 0)
  -- a solver that writes nothing, where the right winners are not lent by chance: A
  pub writes_nothing :
      (lent : Lent) → Fits 4 lent → lent.answer.winners ≢ answer_a.winners → ShutOut (Solving A lent) (λ o. o.left.answer.winners ≡ lent.answer.winners)
  -- a checker that accepts all, or looks at loops only: P5
  pub accepts_all :
      (work : List ℕ) → length work ≡ 16 → ShutOut (Checking A (line answer_a.winners (1 ∷ no_move ∷ 0 ∷ 3 ∷ [])) work) (λ j. IsSuccess j.said)
  -- a checker that rejects all, or looks at all cycles without the moves: P1
  pub rejects_all : (work : List ℕ) → length work ≡ 16 → ShutOut (Checking A answer_a work) (λ j. IsRefusal j.said)
  -- 13 given where 12 applies too: the game of P8 with no move at 1
  pub thirteen_first :
      (work : List ℕ) → length work ≡ 8 → ShutOut (Checking game8 (line (0 ∷ 1 ∷ []) (no_move ∷ no_move ∷ [])) work) (λ j. j.said ≡ refused 13 0)
  -- the highest vertex at fault for the lowest: A with no move at all
  pub highest_place :
      (work : List ℕ) → length work ≡ 16 →
      ShutOut (Checking A (line answer_a.winners (no_move ∷ no_move ∷ no_move ∷ no_move ∷ [])) work) (λ j. j.said ≡ refused 12 3)
  -- an update that returns the old answer: P3
  pub returns_old : (lent : Lent) → Fits 4 lent → ShutOut (Updating A B answer_a lent) (λ o. o.left.answer.winners ≡ answer_a.winners)
  -- an update that invents its count: P3, P4
  pub invents_count : (lent : Lent) → Fits 4 lent → (count : ℕ) → count ≢ 3 → ShutOut (Updating A B answer_a lent) (λ o. o.said ≡ success (count ∷ []))
  pub invents_change : (lent : Lent) → Fits 4 lent → (count : ℕ) → count ≢ 0 → ShutOut (Updating A A answer_a lent) (λ o. o.said ≡ success (count ∷ []))
  -- an update that solves afresh: `free` to `free1`, old move 1 at 0; its moves are right, yet not the update's
  pub solves_afresh :
      (lent : Lent) → Fits 3 lent →
      Solving free1 lent (outcome (success []) (line (0 ∷ 0 ∷ 1 ∷ []) (0 ∷ 1 ∷ no_move ∷ [])) (zeros lent.work)) ×
      ShutOut (Updating free free1 (line (0 ∷ 0 ∷ 0 ∷ []) (1 ∷ 1 ∷ 2 ∷ [])) lent) (λ o. o.left.answer.moves ≡ 0 ∷ 1 ∷ no_move ∷ [])
  -- any successor among the winner's vertices as a move, by the solver and by the checker: P9
  pub any_successor : (lent : Lent) → Fits 2 lent → ShutOut (Solving game9 lent) (λ o. get_or o.left.answer.moves 0 0 ≡ 0)
  pub any_move_accepted :
      (work : List ℕ) → length work ≡ 8 → ShutOut (Checking game9 (line (0 ∷ 0 ∷ []) (0 ∷ 1 ∷ [])) work) (λ j. IsSuccess j.said)
  -- only what differs, and what is one step before it, decided anew: `chain` to `chain1`, the winner of 0 left as it was
  pub direct_predecessors :
      (lent : Lent) → Fits 3 lent → ShutOut (Updating chain chain1 (line (0 ∷ 0 ∷ 0 ∷ []) (1 ∷ 2 ∷ 2 ∷ [])) lent) (λ o. get_or o.left.answer.winners 0 0 ≡ 0)
  -- a move carried over because the winner stayed: A2 to A, old move 1 at 0
  pub carries_move :
      (lent : Lent) → Fits 4 lent → ShutOut (Updating A2 A (line answer_a.winners (1 ∷ no_move ∷ 0 ∷ 3 ∷ [])) lent) (λ o. get_or o.left.answer.moves 0 0 ≡ 1)
  -- an update that follows the old move when it marks what the amendment reaches: A2 to A, where 0 has the other move
  pub follows_a_choice : (lent : Lent) → Fits 4 lent → ShutOut (Updating A2 A answer_a lent) (λ o. o.said ≡ success (1 ∷ []))
  -- a reader that tests priorities once they are turned, and one that writes tables before a file is refused
  pub tests_turned : (lent : Tables) → ShutOut (Reading file255 lent) (λ o. IsSuccess o.said)
  pub writes_refused : (lent : Tables) → ShutOut (Reading file255 lent) (λ o. o.left ≢ lent)
  -- a writer that always refuses, and one that leaves an output as it was that is not the file by chance: A, three blocks
  pub never_writes : (output : List ℕ) → length output ≡ 1536 → ShutOut (Writing A output) (λ o. IsRefusal o.said)
  pub leaves_the_output :
      (output : List ℕ) → length output ≡ 1536 → output ≢ file_of (plain A) → ShutOut (Writing A output) (λ o. o.left ≡ output)
  -- a writer that puts something into an output of another length
  pub writes_at_46 : (output : List ℕ) → length output ≢ 1536 → ShutOut (Writing A output) (λ o. o.left ≢ output)
