-- The update's rows of the table.
use Prim.Native.Nat.{ℕ, ◌<◌}
use mathlib.Core.Path.{◌≡◌, refl, sym, subst}
use mathlib.Core.Logic.{⊎_elim}
use mathlib.Core.Bool.{Bool, ◌&&◌, ◌||◌}
use mathlib.Core.List.{[], ◌∷◌}
use native.Mathlib.Omega.{arith}
use lib.Dec.{T, eqb}
use lib.ListN.{get_or}
use Rattle.refusal.specs.promise.Row.{Said, success}
use Rattle.game.specs.promise.Tables.{Tables, vertices, game_of}
use Rattle.storage.specs.promise.Answer.{Answer, mark_of, move_of}
use Rattle.game.proofs.WellFormed.{none_applies}
use Rattle.winning.proofs.Reflect.{Tests, tests_map, tests_and, tests_or, tests_eq}
use Rattle.update.specs.promise.Updating.{Updates, Decided}
use Rattle.redo.specs.promise.Redone.{Redone, OldLine}
use Rattle.inputs.specs.promise.Inputs.{Input, input_of}
use Rattle.inputs.proofs.Rows.{Free, none_of_free}
use Rattle.update.proofs.Unique.{updates_unique}
use Rattle.cases.specs.promise.Table.{updated, Fits, Outcome, outcome, Updating, zeros, RowHolds}
use Rattle.cases.proofs.Equal.{by_test, tests_itself}
use Rattle.cases.proofs.Choices.{every_below, at_below}
use Rattle.cases.proofs.Answers.{is_answer, Answered, answered, written, only_moves, only_answer}
use Rattle.cases.proofs.Amends.{is_reaching, tests_reaches, how_many, how_many_lem}

module _ (g h : Tables) (old new : Answer) where
  abbrev given : Input
  given = input_of g h old

  -- whether the amendment reaches v
  abbrev is_redone : ℕ → Bool
  is_redone = is_reaching (game_of g) (game_of h)

  tests_redone : (v : ℕ) → Tests (Redone given v) (is_redone v)
  tests_redone = tests_reaches (game_of g) (game_of h)

  -- whether v has its old line
  abbrev is_old_line : ℕ → Bool
  is_old_line v = eqb (get_or new.winners v 0) (get_or old.winners v 0) && eqb (get_or new.moves v 0) (get_or old.moves v 0)

  tests_old : (v : ℕ) → Tests (OldLine old new v) (is_old_line v)
  unfolding mark_of move_of
  tests_old v =
      tests_map (λ t. record { mark = t.0; move = t.1 }) (λ l. (l.mark, l.move))
      (tests_and (tests_eq (get_or new.winners v 0) (get_or old.winners v 0)) (tests_eq (get_or new.moves v 0) (get_or old.moves v 0)))

  -- whether every line is decided anew or the old one
  abbrev are_kept : Bool
  are_kept = every_below (λ v. is_redone v || is_old_line v) (vertices g)

  old_line : T are_kept → (v : ℕ) → v < vertices g → ¬ Redone given v → OldLine old new v
  old_line t v l n =
      ⊎_elim (λ r. absurd (n r)) (λ o. o) (by_test (tests_or (tests_redone v) (tests_old v)) (at_below (λ u. is_redone u || is_old_line u) (vertices g) t v l))

  -- how many it reaches
  abbrev count : ℕ
  count = how_many is_redone (vertices g)

  only_outcome : vertices g ≡ vertices h → Answered g old → Answered h new → T are_kept → T (only_moves h new is_redone) → RowHolds (updated g h old new count)
  only_outcome level p q kept only lent f = record { allowed = ok; no_other = other }
    where
      f' : Fits (vertices h) lent
      f' = subst (λ (n : ℕ). Fits n lent) level f

      free : Free given lent
      free = record { first = none_applies g p.formed; second = none_applies h q.formed; size = level; fit = (p.winners_long, (p.moves_long, f)) }

      ok : Updating g h old lent (outcome (success (count ∷ [])) new (zeros lent.work))
      ok =
          record {
            none = none_of_free given lent free;
            right = p.right;
            count = count;
            value = refl;
            counted = how_many_lem tests_redone (vertices g);
            written = written h new q lent f';
            kept = old_line kept;
          }

      other : (o : Outcome) → Updating g h old lent o → o ≡ outcome (success (count ∷ [])) new (zeros lent.work)
      other o u =
          let e = updates_unique given lent q.bytes _ o.left (success (count ∷ [])) o.said ok u in
          let d : Decided given lent o.left (count ∷ []) = subst (λ (said : Said). Updates given lent o.left said) (sym e.said) u in
          let same = only_answer h new is_redone tests_redone only q lent o.left f' d.written e.lines (λ v l. e.kept_moves v (omega (arith, level))) in
          sym (λ i. outcome (e.said i) (same i) (e.work i))

  -- whether this is the only right outcome
  abbrev pub is_updated : ℕ → Bool
  is_updated c = eqb (vertices g) (vertices h) && (is_answer g old && is_answer h new) && (are_kept && only_moves h new is_redone) && eqb count c

  pub updated_holds : (c : ℕ) → T (is_updated c) → RowHolds (updated g h old new c)
  updated_holds c t =
      let s =
      by_test
      (tests_and
      (tests_and (tests_and (tests_eq (vertices g) (vertices h)) (tests_and (tests_itself (is_answer g old)) (tests_itself (is_answer h new))))
      (tests_and (tests_itself are_kept) (tests_itself (only_moves h new is_redone))))
      (tests_eq count c))
      t
      in
      subst (λ (k : ℕ). RowHolds (updated g h old new k)) s.1
      (only_outcome s.0.0.0 (answered g old s.0.0.1.0) (answered h new s.0.0.1.1) s.0.1.0 s.0.1.1)
