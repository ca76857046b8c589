-- Kept sets over one step and over many.
use Prim.Native.Nat.{ℕ, ◌<◌}
use mathlib.Core.Path.{◌≡◌, refl, ◌∙◌}
use mathlib.Core.List.{List}
use lib.ListN.{get_or}
use Rattle.storage.specs.promise.Answer.{mark_of, move_of}
use Rattle.game.specs.promise.Tables.{Tables, vertices}
use Rattle.justification.specs.parts.Step.{Same}
use Rattle.levels.specs.parts.Levels.{settled_of}
use Rattle.step.specs.parts.State.{KeptSet, Carried}

module _ {tables : Tables} where
  -- no step
  pub carried_none : {winners moves work : List ℕ} → Carried tables winners moves work winners moves work
  carried_none = record { kept = λ kept k. k; mark = λ kept k v l one. refl; move = λ kept k v l one. refl }

  -- one step more
  pub carried_more :
      {winners moves work winners' moves' work' winners'' moves'' work'' : List ℕ} →
      Carried tables winners moves work winners' moves' work' →
      Carried tables winners' moves' work' winners'' moves'' work'' →
      Carried tables winners moves work winners'' moves'' work''
  carried_more a b =
      record {
        kept = λ kept k. b.kept kept (a.kept kept k);
        mark = λ kept k v l one. b.mark kept (a.kept kept k) v l one ∙ a.mark kept k v l one;
        move = λ kept k v l one. b.move kept (a.kept kept k) v l one ∙ a.move kept k v l one;
      }

  -- a step that leaves the line of every kept vertex as it was
  pub carried_same :
      {winners moves work winners' moves' work' : List ℕ} →
      ((kept : List ℕ) → KeptSet tables work kept → (u : ℕ) → u < vertices tables → get_or kept u 0 ≡ 1 → Same (mark_of winners) (move_of moves) (settled_of (vertices tables) work) (mark_of winners') (move_of moves') (settled_of (vertices tables) work') u) →
      Carried tables winners moves work winners' moves' work'
  carried_same same =
      record {
        kept = λ kept k. record { settled = λ v l one. (same kept k v l one).flag ∙ k.settled v l one; closed = k.closed };
        mark = λ kept k v l one. (same kept k v l one).marked;
        move = λ kept k v l one. (same kept k v l one).moved;
      }
