-- The lines of a game that was read, with a solution: that they fit into the text, and that they are its listing.
use Prim.Native.Nat.{ℕ, ◌*◌, ◌<◌, ◌≤◌}
use mathlib.Core.Path.{◌≡◌, sym, ap, subst}
use mathlib.Core.Logic.{◌⊎◌, inl, inr}
use mathlib.Core.List.{List, ◌++◌}
use native.Mathlib.Omega.{arith}
use native.Mathlib.Nat.{le_refl}
use native.Mathlib.Decide.{ℕ_discrete}
use lib.ListN.{length, get_or, length-append}
use Rattle.game.specs.promise.Tables.{Tables, vertices, WellFormed}
use Rattle.storage.specs.promise.Answer.{Answer, mark_of, move_of}
use Rattle.solver.specs.promise.Solving.{IsSolution}
use Rattle.lines.specs.promise.Lines.{game_line, vertex_lines}
use Rattle.text.specs.parts.Append.{Room, Appended}
use Rattle.listing.specs.parts.Answering.{AnswerListed}
use Rattle.listing.proofs.Answers.{answer_front, AnsweredHere}
use Rattle.lines.specs.parts.Listable.{Listable}
use Rattle.lines.proofs.Alike.{alike_itself, alike_marks, alike_moves, lines_alike}
use Rattle.text.proofs.Appending.{appended_as, appended_within}
use Rattle.lines.proofs.Widths.{Narrow, game_line_most, lines_most}

-- a solution's winners and moves
module _ (t : Tables) (a : Answer) (s : IsSolution t a) where
  winner_low : (v : ℕ) → v < vertices t → mark_of a.winners v < 2
  winner_low v l = s.form.winner v l

  move_low : vertices t ≤ 2048 → (v : ℕ) → v < vertices t → (move_of a.moves v ≡ 65535) ⊎ (move_of a.moves v < 2048)
  move_low few v l =
      elim (ℕ_discrete (get_or t.owners v 0) (mark_of a.winners v)) [
        | yes e ↦ inr (let to = (s.form.successor v l e).to in omega (arith, to))
        | no e ↦ inl (s.form.elsewhere v l e)
      ]

module _ (t : Tables) (f : WellFormed t) where
  few : vertices t ≤ 2048
  few = f.sound.few

  -- the first line
  abbrev first : List ℕ
  first = game_line (vertices t) (length t.targets)

  first_long : length first ≤ 16
  first_long = game_line_most _ _ (omega (arith, few)) (omega (arith, f.edges))

  module _ (a : Answer) (h : AnsweredHere t a) where
    pub listable : Listable (vertices t) t.owners t.priorities a.winners a.moves
    listable = record { owners_long = le_refl _; priorities_long = omega (arith, f.level); winners_long = h.winners_long; moves_long = h.moves_long }

    -- the lines that are written, and those of the answer's beginning

    abbrev lines : List ℕ
    lines = vertex_lines t.owners t.priorities a.winners a.moves (vertices t)

    abbrev front : Answer
    front = answer_front (vertices t) a

    lines_are : lines ≡ vertex_lines t.owners t.priorities front.winners front.moves (vertices t)
    lines_are = lines_alike (vertices t) alike_itself alike_itself alike_marks alike_moves

    narrow : (v : ℕ) → v < vertices t → Narrow t.owners t.priorities front.winners front.moves v
    narrow v l =
        record {
          vertex = omega (arith, few);
          owner = omega (arith, f.sound.owned v l);
          priority = omega (arith, f.sound.ranked v l);
          winner = omega (arith, winner_low t front h.solution v l);
          move = move_low t front h.solution few v l;
        }

    lines_long : length lines ≤ 18 * vertices t
    lines_long = subst (λ (x : List ℕ). length x ≤ 18 * vertices t) (sym lines_are) (lines_most _ _ _ _ (vertices t) narrow)

    pub whole_room : {text : List ℕ} → length text ≡ 36880 → Room text 0 (first ++ lines)
    whole_room e = record { room = omega (arith, length-append first lines, lines_long, few, first_long) }

    pub answer_listed : {text text' : List ℕ} {r : ℕ} → length text ≡ 36880 → Appended text text' 0 (first ++ lines) r → AnswerListed t text text' r
    answer_listed e p =
        record {
          answer = front;
          solution = h.solution;
          within = appended_within (first ++ lines) (whole_room e) p;
          done = appended_as (ap (λ (x : List ℕ). first ++ x) lines_are) p;
        }
