-- From the test of one vertex by its stretch to the test of the game's vertex.
use Prim.Native.Nat.{ℕ, ◌<◌}
use mathlib.Core.Path.{◌≡◌, refl, sym, ap, subst, ◌∙◌}
use mathlib.Core.Logic.{◌≢◌}
use mathlib.Core.List.{List}
use native.Mathlib.Omega.{arith}
use lib.ListN.{length, get_or}
use Rattle.player.specs.promise.Player.{IsPlayer, opponent_of}
use Rattle.player.proofs.Players.{opponent_player, opponent_other}
use Rattle.game.specs.promise.Game.{Listed, Edge}
use Rattle.game.specs.promise.Tables.{next_of, game_of, Tables, vertices}
use Rattle.game.specs.parts.Stretch.{Stretch}
use Rattle.storage.specs.promise.Answer.{mark_room, mark_of}
use Rattle.storage.specs.parts.Answers.{FirstFor, MarkedFor, Chooses}
use Rattle.storage.proofs.Stores.{has_room}
use Rattle.std.specs.Prelude.{Option, Some, None}
use Rattle.game.proofs.Starts.{stretch_of}
use Rattle.refusal.specs.promise.Row.{NoPlace}
use Rattle.winning.specs.promise.Answer.{no_move}
use Rattle.line.specs.parts.Testing.{Testable, TestedBy}

module _ {v : ℕ} {tables : Tables} {winners : List ℕ} (p : Testable v tables winners) where
  -- v has a stretch, and its successors have marks
  pub stretch : Stretch tables.starts tables.targets v
  stretch = stretch_of _ _ _ p.well_formed.placed v p.vertex

  inside : (w : ℕ) → Listed w (next_of tables.starts tables.targets v) → w < vertices tables
  inside w h = p.well_formed.sound.inside v w p.vertex h

  pub stretch_marks : (r : List ℕ) → r ≡ next_of tables.starts tables.targets v → (i : ℕ) → i < length r → get_or r i 0 < mark_room winners
  stretch_marks r e i h =
      let k : get_or r i 0 < vertices tables = inside _ (subst (Listed (get_or r i 0)) e (record { at = i; within = h; is = refl })) in
      has_room p.stored k

  -- the owner finds a successor marked for him
  found : {w : ℕ} → FirstFor (get_or tables.owners v 0) (mark_of winners) (next_of tables.starts tables.targets v) w → TestedBy v tables winners (get_or tables.owners v 0) w
  found {w} f =
      let at : Listed w (next_of tables.starts tables.targets v) = record { at = f.at; within = f.lowest.holds.within; is = sym f.is } in
      record {
        tested =
            record {
              own = λ e. (record { from = p.vertex; to = inside w at; listed = at }, ap (mark_of winners) f.is ∙ f.lowest.holds.his);
              other = λ u ne. absurd (ne refl);
              none = λ ne. absurd (ne refl);
            };
        player = p.well_formed.sound.owned v p.vertex;
      }

  -- he finds none, so all successors are marked for his opponent
  missing : NoPlace (MarkedFor (get_or tables.owners v 0) (mark_of winners) (next_of tables.starts tables.targets v)) → TestedBy v tables winners (opponent_of (get_or tables.owners v 0)) no_move
  missing none =
      record {
        tested =
            record {
              own = λ e. absurd (opponent_other _ owned (sym e));
              other = λ w ne e. all w e;
              none = λ ne. refl;
            };
        player = opponent_player (get_or tables.owners v 0);
      }
    where
      owned : IsPlayer (get_or tables.owners v 0)
      owned = p.well_formed.sound.owned v p.vertex

      all : (w : ℕ) → Edge (game_of tables) v w → mark_of winners w ≡ opponent_of (get_or tables.owners v 0)
      all w e =
          let his : mark_of winners w ≢ get_or tables.owners v 0 = λ h. none e.listed.at (record { within = e.listed.within; his = ap (mark_of winners) e.listed.is ∙ h }) in
          omega (arith, owned, p.player w e.to)

  -- what the one-vertex test said for v's owner o, and the line's winner q
  module _ {o : ℕ} {r : List ℕ} (eo : o ≡ get_or tables.owners v 0) (er : r ≡ next_of tables.starts tables.targets v) where
    at_game : (k : Option ℕ) → Chooses o (mark_of winners) r k → Chooses (get_or tables.owners v 0) (mark_of winners) (next_of tables.starts tables.targets v) k
    at_game k h =
        subst (λ (l : List ℕ). Chooses (get_or tables.owners v 0) (mark_of winners) l k) er (subst (λ (x : ℕ). Chooses x (mark_of winners) r k) eo h)

    pub chosen : {k : Option ℕ} {q w : ℕ} → k ≡ Some w → q ≡ o → Chooses o (mark_of winners) r k → TestedBy v tables winners q w
    chosen {k} {q} {w} ek eq h =
        subst (λ (x : ℕ). TestedBy v tables winners x w) (sym (eq ∙ eo)) (found (subst (Chooses (get_or tables.owners v 0) (mark_of winners) (next_of tables.starts tables.targets v)) ek (at_game k h)))

    pub nobody : {k : Option ℕ} {q : ℕ} → k ≡ None → q ≡ opponent_of o → Chooses o (mark_of winners) r k → TestedBy v tables winners q no_move
    nobody {k} {q} ek eq h =
        subst (λ (x : ℕ). TestedBy v tables winners x no_move) (sym (eq ∙ ap opponent_of eo)) (missing (subst (Chooses (get_or tables.owners v 0) (mark_of winners) (next_of tables.starts tables.targets v)) ek (at_game k h)))
