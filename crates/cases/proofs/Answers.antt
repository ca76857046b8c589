-- A right answer to a small game is the only one: its winners are, and its moves by going over all that could stand there.
use Prim.Native.Nat.{ℕ, ◌<◌}
use mathlib.Core.Path.{◌≡◌, sym, subst, ap₂, ◌∙◌}
use mathlib.Core.Bool.{Bool, cond, not, ◌&&◌, ◌||◌}
use mathlib.Core.List.{List, [], ◌∷◌}
use native.Mathlib.Nat.{zero-lt-suc}
use lib.Dec.{T, eqb}
use lib.ListN.{length, get_or}
use Rattle.game.specs.promise.Game.{Listed}
use Rattle.game.specs.promise.Tables.{Tables, vertices, game_of, WellFormed}
use Rattle.storage.specs.promise.Answer.{Answer, winner_cells, mark_of, move_of}
use Rattle.storage.specs.promise.Lent.{Lent}
use Rattle.game.proofs.WellFormed.{well_formed}
use Rattle.winning.proofs.Reflect.{Tests, holds, fails, tests_not, tests_and, tests_eq}
use Rattle.winning.proofs.Accepted.{right_accepted}
use Rattle.winning.proofs.Won.{accepted_solution}
use Rattle.winning.proofs.Solutions.{solution_right}
use Rattle.checker.specs.promise.Checking.{IsRight}
use Rattle.solver.specs.promise.Solving.{IsSolution, Written}
use Rattle.solver.proofs.Unique.{SameLines}
use Rattle.cases.specs.promise.Table.{line, Fits, zeros}
use Rattle.cases.proofs.Equal.{by_test, is_same, tests_same}
use Rattle.cases.proofs.Choices.{every_choice, at_choice}
use Rattle.cases.proofs.Verdicts.{is_formed, tests_formed, is_long, tests_long, is_right, tests_right}
use Rattle.cases.proofs.Checked.{zeros_zeroed}

listed_one : {w x : ℕ} → x ≡ w → Listed w (x ∷ [])
listed_one e = record { at = 0; within = zero-lt-suc 0; is = e }

module _ (t : Tables) (a : Answer) where
  -- a right answer to a well-formed game, with a line for each vertex
  pub record Answered : Type 0 where
    pub bytes : (v : ℕ) → get_or t.priorities v 0 < 256
    pub formed : WellFormed t
    pub winners_long : length a.winners ≡ winner_cells (vertices t)
    pub moves_long : length a.moves ≡ vertices t
    pub right : IsRight t a

  -- whether it is one
  abbrev pub is_answer : Bool
  is_answer = is_formed t && is_long t a && is_right t a

  pub answered : T is_answer → Answered
  answered h =
      let p = by_test (tests_and (tests_and (tests_formed t) (tests_long t a)) (tests_right t a)) h in
      record {
        bytes = p.0.0.0;
        formed = well_formed t p.0.0.0 p.0.0.1;
        winners_long = p.0.1.0;
        moves_long = p.0.1.1;
        right = p.1;
      }

  -- it may be written to buffers that fit
  pub written : Answered → (lent : Lent) → Fits (vertices t) lent → Written t lent (record { answer = a; work = zeros lent.work })
  written p lent f =
      let mark = mark_of a.winners in
      let move = move_of a.moves in
      record {
        winners_long = p.winners_long ∙ sym f.0;
        moves_long = p.moves_long ∙ sym f.1.0;
        solution = accepted_solution (game_of t) mark move p.formed.sound p.formed.moving (right_accepted (game_of t) mark move p.right);
        zeroed = zeros_zeroed lent.work;
      }

  module _ (is_anew : ℕ → Bool) where
    -- what can stand as the move of v: any successor where the line is decided anew and the winner owns, else the answer's
    abbrev moves_at : ℕ → List ℕ
    moves_at v = cond (is_anew v && eqb (get_or t.owners v 0) (get_or a.winners v 0)) ((game_of t).next v) (get_or a.moves v 0 ∷ [])

    abbrev is_only : List ℕ → Bool
    is_only moves = is_same a.moves moves || not (is_right t (line a.winners moves))

    -- whether none of these moves but the answer's are right
    abbrev pub only_moves : Bool
    only_moves = every_choice moves_at (vertices t) is_only

    -- so what else is written, if it differs in such moves alone, is the same
    pub only_answer :
        {Anew : ℕ → Type 0} → ((v : ℕ) → Tests (Anew v) (is_anew v)) → T only_moves → Answered →
        (before after : Lent) → Fits (vertices t) before → Written t before after → SameLines t a after.answer →
        ((v : ℕ) → v < vertices t → ¬ Anew v → move_of a.moves v ≡ move_of after.answer.moves v) → a ≡ after.answer
    unfolding mark_of move_of
    only_answer {Anew} tests only p before after f w lines kept =
        ap₂ line lines.winners (same (tests_same a.moves moves) (at_choice moves_at (vertices t) is_only only moves (w.moves_long ∙ f.1.0) listed))
      where
        moves : List ℕ
        moves = after.answer.moves

        s : IsSolution t (line a.winners moves)
        s = subst (λ (winners : List ℕ). IsSolution t (line winners moves)) (sym lines.winners) w.solution

        right : IsRight t (line a.winners moves)
        right = solution_right (game_of t) p.formed.sound p.formed.moving (mark_of a.winners) (move_of moves) s

        same : {x : Bool} → Tests (a.moves ≡ moves) x → T (x || not (is_right t (line a.winners moves))) → a.moves ≡ moves
        same (holds e) h = e
        same (fails ne) h = absurd (by_test (tests_not (tests_right t (line a.winners moves))) h right)

        listed : (v : ℕ) → v < vertices t → Listed (get_or moves v 0) (moves_at v)
        listed v l = at (tests v) (tests_eq (get_or t.owners v 0) (get_or a.winners v 0))
          where
            at :
                {x y : Bool} → Tests (Anew v) x → Tests (get_or t.owners v 0 ≡ get_or a.winners v 0) y →
                Listed (get_or moves v 0) (cond (x && y) ((game_of t).next v) (get_or a.moves v 0 ∷ []))
            at (holds r) (holds o) = (s.form.successor v l o).listed
            at (holds r) (fails o) = listed_one (lines.elsewhere v l o)
            at (fails r) y = listed_one (kept v l r)
