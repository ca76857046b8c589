-- A store into winners or moves changes one vertex's line; marks determine a list of winners, and stand at its beginning.
use Prim.Native.Nat.{ℕ, ◌<◌, ◌≤◌}
use mathlib.Core.Path.{◌≡◌, sym, subst, ◌∙◌}
use mathlib.Core.List.{List}
use native.Mathlib.Decide.{dec_lt}
use lib.ListN.{length, set, take, length-set}
use lib.Seq.{get_or-set_same, get_or-set_other, get_or-take, ext_get_or}
use Rattle.player.specs.promise.Player.{IsPlayer}
use Rattle.refusal.specs.promise.Row.{NoPlace}
use Rattle.storage.specs.promise.Answer.{winner_cells, mark_room, mark_of, move_of}
use Rattle.storage.specs.promise.Faults.{Fault11}
use Rattle.storage.specs.parts.Answers.{Stored, cells_most, MarkSet, MoveSet}

pub mark_set : (l : List ℕ) (v p : ℕ) → v < mark_room l → MarkSet l (set l v p) v p
unfolding mark_room mark_of
mark_set l v p h =
    record {
      long = length-set l v p;
      here = get_or-set_same l v p 0 h;
      other = λ u ne. get_or-set_other l v u p 0 ne;
    }

pub move_set : (l : List ℕ) (v m : ℕ) → v < length l → MoveSet l (set l v m) v m
unfolding move_of
move_set l v m h =
    record {
      long = length-set l v m;
      here = get_or-set_same l v m 0 h;
      other = λ u ne. get_or-set_other l v u m 0 ne;
    }

-- a list of the winners of n vertices has room for each of them
pub has_room : {n v : ℕ} {winners : List ℕ} → Stored n winners → v < n → v < mark_room winners
unfolding mark_room winner_cells
has_room {n} {v} s l = subst (λ (k : ℕ). v < k) (sym s.cells) l

-- and so has every list that is as long
pub still_stored : {n : ℕ} {before after : List ℕ} → Stored n before → length after ≡ length before → Stored n after
still_stored s e = record { cells = e ∙ s.cells }

-- lists of the winners of n vertices with the same marks are equal
pub same_marks : {n : ℕ} {a b : List ℕ} → Stored n a → Stored n b → ((v : ℕ) → v < n → mark_of a v ≡ mark_of b v) → a ≡ b
unfolding mark_of winner_cells
same_marks {n} {a} {b} s t same = ext_get_or 0 a b (s.cells ∙ sym t.cells) (λ v l. same v (subst (λ (k : ℕ). v < k) s.cells l))

-- a list with enough cells for n vertices has room for them, and its first so many cells have their marks
pub enough_room : (n : ℕ) (winners : List ℕ) → winner_cells n ≤ length winners → n ≤ mark_room winners
unfolding mark_room winner_cells
enough_room n winners l = l

pub front_marks : (n : ℕ) (winners : List ℕ) (v : ℕ) → v < n → mark_of (take (winner_cells n) winners) v ≡ mark_of winners v
unfolding mark_of winner_cells
front_marks n winners v l = get_or-take n winners v 0 l

-- what is enough for the most vertices is enough for fewer
pub cells_most_lem : (n : ℕ) → n ≤ 2048 → winner_cells n ≤ cells_most
unfolding winner_cells
cells_most_lem n l = l

-- where row 11 does not apply the marks are players, and the other way round
pub marks_players : {n : ℕ} {winners : List ℕ} → NoPlace (Fault11 n winners) → (v : ℕ) → v < n → IsPlayer (mark_of winners v)
marks_players {n} {winners} none v l = elim (dec_lt (mark_of winners v) 2) [ yes p ↦ p | no h ↦ absurd (none v (record { vertex = l; strange = h })) ]

pub players_marks : {n : ℕ} {winners : List ℕ} → ((v : ℕ) → v < n → IsPlayer (mark_of winners v)) → NoPlace (Fault11 n winners)
players_marks players x f = f.strange (players x f.vertex)
