-- From the tests of one vertex by its stretch to the rows 12 and 13 of the game.
use Prim.Native.Nat.{ℕ, ◌<◌}
use mathlib.Core.Path.{◌≡◌, refl, sym, ap, subst, ◌∙◌}
use mathlib.Core.List.{List}
use mathlib.Core.Bool.{Bool}
use lib.ListN.{length, get_or}
use Rattle.game.specs.promise.Game.{Game, Listed}
use Rattle.winning.specs.promise.Faults.{Fault12, Fault13, own, other}
use Rattle.game.specs.promise.Tables.{next_of, game_of, Tables, vertices}
use Rattle.storage.specs.promise.Answer.{Answer, mark_room, mark_of, move_of}
use Rattle.storage.proofs.Stores.{has_room}
use Rattle.answers.specs.parts.Answered.{Answered}
use Rattle.answers.specs.parts.Tests.{WrongMove, Escape}
use Rattle.refusal.specs.parts.Says.{Says}
use Rattle.refusal.proofs.Says.{says_iff}
use Rattle.answers.specs.parts.Tests as tests

module _ (g : Game) (mark move : ℕ → ℕ) (inside : (v w : ℕ) → v < g.n → Listed w (g.next v) → w < g.n) (v : ℕ) (l : v < g.n) where
  -- 12 at v is a wrong move by its stretch
  pub fault12 : WrongMove mark (g.next v) (g.owner v) (mark v) (move v) → Fault12 g mark move v
  fault12 (tests.own e h) = own l e (λ m. h (record { listed = m.0.listed; same = m.1 }))
  fault12 (tests.other e h) = other l e h

  pub fault12_only : Fault12 g mark move v → WrongMove mark (g.next v) (g.owner v) (mark v) (move v)
  fault12_only (own k e h) = tests.own e (λ m. h (record { from = l; to = inside v (move v) l m.listed; listed = m.listed }, m.same))
  fault12_only (other k e h) = tests.other e h

  -- 13 at v is an escape by its stretch
  pub fault13 : Escape mark (g.next v) (g.owner v) (mark v) → Fault13 g mark move v
  fault13 h =
      let at : Listed (get_or (g.next v) h.at 0) (g.next v) = record { at = h.at; within = h.within; is = refl } in
      record { loser = h.loser; successor = get_or (g.next v) h.at 0; edge = record { from = l; to = inside v _ l at; listed = at }; differs = h.differs }

  pub fault13_only : Fault13 g mark move v → Escape mark (g.next v) (g.owner v) (mark v)
  fault13_only f =
      record {
        loser = f.loser;
        at = f.edge.listed.at;
        within = f.edge.listed.within;
        differs = λ e. f.differs (sym (ap mark f.edge.listed.is) ∙ e);
      }

module _ {tables : Tables} {answer : Answer} (a : Answered tables answer) {v : ℕ} (l : v < vertices tables) where
  -- the successors of v are vertices, and have marks
  pub stretch_inside : {r : List ℕ} → r ≡ next_of tables.starts tables.targets v → (i : ℕ) → i < length r → get_or r i 0 < vertices tables
  stretch_inside {r} e i h =
      a.well_formed.sound.inside v (get_or r i 0) l (subst (Listed (get_or r i 0)) e (record { at = i; within = h; is = refl }))

  pub stretch_marks : {r : List ℕ} → r ≡ next_of tables.starts tables.targets v → (i : ℕ) → i < length r → get_or r i 0 < mark_room answer.winners
  stretch_marks e i h = has_room a.stored (stretch_inside e i h)

  abbrev g : Game
  g = game_of tables

  -- what the tests by the stretch say of the rows
  pub says12 : {r : List ℕ} {o p m : ℕ} {b : Bool} → r ≡ next_of tables.starts tables.targets v → o ≡ get_or tables.owners v 0 → p ≡ mark_of answer.winners v → m ≡ move_of answer.moves v → Says (WrongMove (mark_of answer.winners) r o p m) b → Says (Fault12 g (mark_of answer.winners) (move_of answer.moves) v) b
  says12 er eo ep em s =
      let inside = a.well_formed.sound.inside in
      says_iff (fault12 g (mark_of answer.winners) (move_of answer.moves) inside v l) (fault12_only g (mark_of answer.winners) (move_of answer.moves) inside v l) (rw (er, eo, ep, em) at s)

  pub says13 : {r : List ℕ} {o p : ℕ} {b : Bool} → r ≡ next_of tables.starts tables.targets v → o ≡ get_or tables.owners v 0 → p ≡ mark_of answer.winners v → Says (Escape (mark_of answer.winners) r o p) b → Says (Fault13 g (mark_of answer.winners) (move_of answer.moves) v) b
  says13 er eo ep s =
      let inside = a.well_formed.sound.inside in
      says_iff (fault13 g (mark_of answer.winners) (move_of answer.moves) inside v l) (fault13_only g (mark_of answer.winners) (move_of answer.moves) inside v l) (rw (er, eo, ep) at s)
