-- No second listing of a file but for moves: a refusal has one text, and a game one winner of each vertex and its dashes.
use Prim.Native.Nat.{ℕ, ◌<◌}
use mathlib.Core.Path.{◌≡◌, sym, ap, subst, ◌∙◌}
use mathlib.Core.Logic.{◌↔◌, inl, inr}
use mathlib.Core.List.{List, ◌++◌}
use native.Mathlib.Omega.{arith}
use native.Mathlib.Decide.{ℕ_discrete}
use lib.ListN.{get_or}
use Rattle.refusal.specs.promise.Row.{refused}
use Rattle.refusal.proofs.Rows.{first_unique, first_not_none}
use Rattle.game.specs.promise.Tables.{Tables, vertices, game_of, WellFormed}
use Rattle.storage.specs.promise.Answer.{Answer, mark_of, move_of}
use Rattle.winning.specs.promise.Answer.{no_move}
use Rattle.winning.proofs.Solutions.{solutions_same}
use Rattle.solver.specs.promise.Solving.{IsSolution}
use Rattle.format.specs.promise.Filed.{vertices_filed, edges_filed, tables_filed}
use Rattle.format.specs.promise.Faults.{judged_rows}
use Rattle.filing.proofs.Accepted.{judged_well_formed}
use Rattle.format.proofs.Lists.{owners_long}
use Rattle.lines.specs.promise.Lines.{game_line, refused_line}
use Rattle.listing.specs.promise.Listing.{Lists, Agree}
use Rattle.lines.proofs.Alike.{Alike, alike_itself, lines_alike}

-- two solutions of a well-formed game
module _ (t : Tables) (w : WellFormed t) (a b : Answer) (x : IsSolution t a) (y : IsSolution t b) where
  marks : (v : ℕ) → v < vertices t → mark_of a.winners v ≡ mark_of b.winners v
  marks = solutions_same (game_of t) w.sound w.moving (mark_of a.winners) (move_of a.moves) (mark_of b.winners) (move_of b.moves) x y

  winners_alike : Alike mark_of (vertices t) b.winners a.winners
  winners_alike = record { same = λ v l. sym (marks v l) }

  -- where the winner owns, a move is a vertex; elsewhere it is none
  dashes : (v : ℕ) → v < vertices t → (move_of a.moves v ≡ no_move) ↔ (move_of b.moves v ≡ no_move)
  dashes v l =
      elim (ℕ_discrete (get_or t.owners v 0) (mark_of a.winners v)) [
        | yes e ↦
            let p = (x.form.successor v l e).to in
            let q = (y.form.successor v l (e ∙ marks v l)).to in
            (λ z. absurd (omega (arith, p, w.sound.few)), λ z. absurd (omega (arith, q, w.sound.few)))
        | no e ↦ (λ z. y.form.elsewhere v l (λ o. e (o ∙ sym (marks v l))), λ z. x.form.elsewhere v l e)
      ]

pub lists_agree : (file : List ℕ) → ((i : ℕ) → get_or file i 0 < 256) → {a b : List ℕ} → Lists file a → Lists file b → Agree a b
lists_agree file bytes (inl x) (inl y) =
    let w = judged_well_formed file bytes x.none in
    inr
    (record {
      n = vertices_filed file;
      m = edges_filed file;
      tables = tables_filed file;
      winners = x.answer.winners;
      moves = x.answer.moves;
      moves' = y.answer.moves;
      one = x.is;
      other =
          y.is ∙
          ap (λ (l : List ℕ). game_line (vertices_filed file) (edges_filed file) ++ l)
          (lines_alike (vertices_filed file) alike_itself alike_itself
          (subst (λ (n : ℕ). Alike mark_of n y.answer.winners x.answer.winners) (owners_long file) (winners_alike _ w x.answer y.answer x.solution y.solution)) alike_itself);
      dashes = λ v l. dashes _ w x.answer y.answer x.solution y.solution v (subst (λ (n : ℕ). v < n) (sym (owners_long file)) l);
    })
lists_agree file bytes (inl x) (inr y) = absurd (first_not_none (judged_rows file) y.number y.place y.first x.none)
lists_agree file bytes (inr x) (inl y) = absurd (first_not_none (judged_rows file) x.number x.place x.first y.none)
lists_agree file bytes (inr x) (inr y) =
    let e : refused x.number x.place ≡ refused y.number y.place = first_unique (judged_rows file) x.number y.number x.place y.place x.first y.first in
    let k : x.number ≡ y.number = cc in
    let p : x.place ≡ y.place = cc in
    inl (x.is ∙ ap (λ (i : ℕ). refused_line i x.place) k ∙ ap (refused_line y.number) p ∙ sym y.is)
