-- What is handed to an update, and the rows that are tested before the old answer: 1 to 7, 21 to 27, 9, 8. (docs/RULES.md, Refusals)
use Rattle.std.specs.Prelude.{ℕ, ◌+◌, ◌≡◌, ◌≢◌, List, [], ◌∷◌, ◌++◌, map, length}
use denote.Triple.Both.{Both}
use Rattle.refusal.specs.promise.Row.{Row, row}
use Rattle.game.specs.promise.Tables.{Tables, vertices}
use Rattle.game.specs.promise.Faults.{table_rows}
use Rattle.storage.specs.promise.Answer.{Answer, winner_cells}
use Rattle.game.specs.promise.Lent.{Sized, sized, Fault8, asked}
use Rattle.storage.specs.promise.Lent.{Lent, lent_sizes, claim}
use Rattle.inputs.specs.declared.Input as stored

-- what is handed in: two games and an answer to the first
pub record Input : Type 0 where
  pub first : Tables
  pub second : Tables
  pub old : Answer

-- such an input, in this order
abbrev pub input_of : (first second : Tables) → (old : Answer) → Input
input_of first second old = record { first = first; second = second; old = old }

-- what is handed, as a `requires` speaks of it, and an `ensures`
abbrev pub asked_input : stored.Input → Input
asked_input i = input_of (asked i.first) (asked i.second) (claim i.old)

abbrev pub handed : {A : Type 0} → Both stored.Input A → Input
handed i = asked_input i.entry

-- the rows of the second game: its tables' rows, 20 higher
abbrev pub second_rows : List Row → List Row
second_rows rows = map (λ (r : Row). row (20 + r.number) r.applies) rows

-- 9, at 0: the games differ in n
pub record Fault9 (n m x : ℕ) : Type 0 where
  pub place : x ≡ 0
  pub differ : n ≢ m

-- the lengths of the old answer and of what is lent
abbrev pub update_sizes : Input → Lent → List Sized
update_sizes i l =
    let n = vertices i.first in
    sized (length i.old.winners) (winner_cells n) ∷
    sized (length i.old.moves) n ∷
    lent_sizes n (length l.answer.winners) (length l.answer.moves) (length l.work)

-- 1 to 7, 21 to 27, 9, 8
abbrev pub test_rows : Input → Lent → List Row
test_rows i l =
    table_rows i.first ++
    second_rows (table_rows i.second) ++
    (row 9 (Fault9 (vertices i.first) (vertices i.second)) ∷ row 8 (Fault8 (update_sizes i l)) ∷ [])
