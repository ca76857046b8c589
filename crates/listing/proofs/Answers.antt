-- The solver does not refuse tables of a well-formed game, and its solution stands at the beginnings of the lists.
use Prim.Native.Nat.{ℕ, ◌*◌, ◌≤◌}
use mathlib.Core.Path.{◌≡◌, refl, sym, subst₂, ◌∙◌}
use mathlib.Core.List.{List, ◌++◌}
use native.Mathlib.Omega.{arith}
use lib.ListN.{length, take, drop, length-append}
use lib.Seq.{length-take-le, take_at}
use Rattle.refusal.specs.promise.Number.{number_of}
use Rattle.refusal.specs.promise.Row.{None}
use Rattle.refusal.proofs.Rows.{first_not_none}
use Rattle.game.specs.promise.Tables.{Tables, vertices, WellFormed}
use Rattle.storage.specs.promise.Answer.{Answer, winner_cells, mark_room}
use Rattle.storage.specs.promise.Lent.{Lent}
use Rattle.storage.specs.parts.Answers.{cells_most}
use Rattle.storage.proofs.Stores.{enough_room, cells_most_lem}
use Rattle.storage.proofs.Passed.{lent_fits}
use Rattle.std.specs.Prelude.{Result, Ok, Err}
use Rattle.std.specs.Result.{IsOk}
use Rattle.refusal.specs.declared.Refusal.{Refusal}
use Rattle.refusal.specs.promise.Number.{tested_said}
use Rattle.solver.specs.promise.Solving.{IsSolution, solve_rows, Solves}
use Rattle.listing.specs.parts.Answering.{Solvable, Solution}

-- an answer's beginning, for n vertices
abbrev pub answer_front : ℕ → Answer → Answer
answer_front n a = record { winners = take (winner_cells n) a.winners; moves = take n a.moves }

-- at the beginning of the lists stands a solution of the game
pub record AnsweredHere (t : Tables) (a : Answer) : Type 0 where
  pub winners_long : vertices t ≤ mark_room a.winners
  pub moves_long : vertices t ≤ length a.moves
  pub solution : IsSolution t (answer_front (vertices t) a)

-- the solver, whose rows are all passed
module _ (t : Tables) (l : Lent) (s : Solvable t l) where
  no_refusal : None (solve_rows t l)
  no_refusal = lent_fits _ _ _ _ s.well_formed s.fit

  pub solution : (after : Lent) (said : Result Unit Refusal) → Solves t l after (tested_said said) → Solution t after.answer
  solution after (Ok u) a = record { is = a.written.solution }
  solution after (Err r) d = absurd (first_not_none (solve_rows t l) (number_of r.kind) r.place d.first no_refusal)

  pub accepted : (after : Lent) (said : Result Unit Refusal) → Solves t l after (tested_said said) → IsOk said
  accepted after (Ok u) a = refl
  accepted after (Err r) d = absurd (first_not_none (solve_rows t l) (number_of r.kind) r.place d.first no_refusal)

-- the room for an answer is enough for any game
pub record Roomy (l : Lent) : Type 0 where
  pub winners : length l.answer.winners ≡ cells_most
  pub moves : length l.answer.moves ≡ 2048
  pub work : length l.work ≡ 8192

-- the beginnings of what is lent are of the right lengths, with as many cells for winners as were counted,
-- and what is written there is an answer's beginning
module _ (t : Tables) (f : WellFormed t) (l : Lent) (s : Roomy l) (cells : ℕ) (e : cells ≡ winner_cells (vertices t)) where
  few : vertices t ≤ 2048
  few = f.sound.few

  pub cells_few : cells ≤ length l.answer.winners
  cells_few = omega (arith, e, s.winners, cells_most_lem (vertices t) few)

  winners_are : length (take cells l.answer.winners) ≡ winner_cells (vertices t)
  winners_are = length-take-le cells l.answer.winners cells_few ∙ e

  moves_are : length (take (vertices t) l.answer.moves) ≡ vertices t
  moves_are = length-take-le (vertices t) l.answer.moves (omega (arith, s.moves, few))

  work_is : length (take (4 * vertices t) l.work) ≡ 4 * vertices t
  work_is = length-take-le (4 * vertices t) l.work (omega (arith, s.work, few))

  pub solvable : Solvable t (record { answer = record { winners = take cells l.answer.winners; moves = take (vertices t) l.answer.moves }; work = take (4 * vertices t) l.work })
  solvable = record { well_formed = f; fit = (winners_are, (moves_are, (work_is, tt))) }

  pub answered :
      (a : Answer) → length a.winners ≡ length (take cells l.answer.winners) → length a.moves ≡ length (take (vertices t) l.answer.moves) → Solution t a →
      AnsweredHere t (record { winners = a.winners ++ drop cells l.answer.winners; moves = a.moves ++ drop (vertices t) l.answer.moves })
  answered a ew em x =
      let w : length a.winners ≡ winner_cells (vertices t) = ew ∙ winners_are in
      let v : length a.moves ≡ vertices t = em ∙ moves_are in
      record {
        winners_long = enough_room (vertices t) _ (omega (arith, w, length-append a.winners (drop cells l.answer.winners)));
        moves_long = omega (arith, length-append a.moves (drop (vertices t) l.answer.moves));
        solution =
            subst₂ (λ (x y : List ℕ). IsSolution t (record { winners = x; moves = y })) (sym (take_at a.winners _ (winner_cells (vertices t)) w)) (sym (take_at a.moves _ (vertices t) v)) x.is;
      }
