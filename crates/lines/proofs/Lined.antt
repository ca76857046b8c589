-- The lines of the vertices, one vertex after another.
use Prim.Native.Nat.{ℕ, zero, suc, ◌+◌, ◌<◌, ◌≤◌}
use mathlib.Core.Path.{◌≡◌, sym, ap₂, subst}
use mathlib.Core.List.{List}
use native.Mathlib.Omega.{arith}
use native.Mathlib.Nat.{not-suc-le-zero}
use native.Mathlib.Numerals.{add-one}
use native.Mathlib.Decide.{ℕ_discrete}
use lib.ListN.{length, get_or, length-append}
use Rattle.storage.specs.promise.Answer.{mark_of, move_of}
use Rattle.lines.specs.promise.Lines.{vertex_line, line_at, vertex_lines}
use Rattle.text.specs.parts.Append.{Room, Appended}
use Rattle.text.proofs.Appending.{appended_both, appended_none, room_as, appended_as}

module _ (owners priorities winners moves : List ℕ) where
  -- a vertex's line comes after those of the vertices below it, within those of all
  within : (k v : ℕ) → v < k → length (vertex_lines owners priorities winners moves v) + length (line_at owners priorities winners moves v) ≤ length (vertex_lines owners priorities winners moves k)
  unfolding vertex_lines
  within zero v l = absurd (not-suc-le-zero l)
  within (suc k) v l =
      let e = length-append (vertex_lines owners priorities winners moves k) (line_at owners priorities winners moves k) in
      elim (ℕ_discrete v k) [
        | yes q ↦ subst (λ (u : ℕ). length (vertex_lines owners priorities winners moves u) + length (line_at owners priorities winners moves u) ≤ length (vertex_lines owners priorities winners moves (suc k))) (sym q) (omega arith)
        | no q ↦ (let h = within k v (omega arith) in omega arith)
      ]

  pub lined_none : (before : List ℕ) (at : ℕ) → Appended before before at (vertex_lines owners priorities winners moves 0) at
  unfolding vertex_lines
  lined_none before at = appended_none before at

  -- a turn: the mark and the move that were read, and the line of the vertex with them
  module _ (v : ℕ) {before text : List ℕ} {at next w to : ℕ} (done : Appended before text at (vertex_lines owners priorities winners moves v) next) (ew : w ≡ mark_of winners v) (et : to ≡ move_of moves v) where
    read : vertex_line v (get_or owners v 0) (get_or priorities v 0) w to ≡ line_at owners priorities winners moves v
    read = ap₂ (λ (a b : ℕ). vertex_line v (get_or owners v 0) (get_or priorities v 0) a b) ew et

    pub lined_room : {n : ℕ} → v < n → Room before at (vertex_lines owners priorities winners moves n) → Room text next (vertex_line v (get_or owners v 0) (get_or priorities v 0) w to)
    lined_room {n} l r = room_as (sym read) (record { room = omega (arith, within n v l, r.room, done.long, done.ends) })

    pub lined_more : {after : List ℕ} {next' : ℕ} → Appended text after next (vertex_line v (get_or owners v 0) (get_or priorities v 0) w to) next' → Appended before after at (vertex_lines owners priorities winners moves (v + 1)) next'
    unfolding vertex_lines
    lined_more {after} {next'} p =
        subst (λ (k : ℕ). Appended before after at (vertex_lines owners priorities winners moves k) next') (sym (add-one v))
        (appended_both (vertex_lines owners priorities winners moves v) (line_at owners priorities winners moves v) done (appended_as read p))
