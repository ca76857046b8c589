-- The lines of the vertices below n say only what is read below n in the tables and in the answer.
use Prim.Native.Nat.{ℕ, zero, suc, ◌<◌, ◌≤◌}
use mathlib.Core.Path.{◌≡◌, refl, sym, ap₂, ◌∙◌}
use mathlib.Core.List.{List, ◌++◌}
use native.Mathlib.Omega.{arith}
use lib.ListN.{get_or, take}
use lib.Seq.{get_or-take}
use Rattle.storage.specs.promise.Answer.{winner_cells, mark_of, move_of}
use Rattle.storage.proofs.Stores.{front_marks}
use Rattle.lines.specs.promise.Lines.{vertex_line, line_at, vertex_lines}

-- two lists say the same below n, as they are read
pub record Alike (read : List ℕ → ℕ → ℕ) (n : ℕ) (a b : List ℕ) : Type 0 where
  pub same : (v : ℕ) → v < n → read a v ≡ read b v

-- what a table's cell says
abbrev pub cell_of : List ℕ → ℕ → ℕ
cell_of l v = get_or l v 0

pub alike_itself : {read : List ℕ → ℕ → ℕ} {n : ℕ} {l : List ℕ} → Alike read n l l
alike_itself = record { same = λ v h. refl }

-- a list of marks or of moves, and its beginning

pub alike_marks : {n : ℕ} {l : List ℕ} → Alike mark_of n l (take (winner_cells n) l)
alike_marks {n} {l} = record { same = λ v h. sym (front_marks n l v h) }

pub alike_moves : {n : ℕ} {l : List ℕ} → Alike move_of n l (take n l)
unfolding move_of
alike_moves {n} {l} = record { same = λ v h. sym (get_or-take n l v 0 h) }

-- the line of a vertex, kept folded
vertex_line_lem : (v owner priority winner move : ℕ) → List ℕ
vertex_line_lem = vertex_line

module _ (n : ℕ) {o p w m o' p' w' m' : List ℕ} (eo : Alike cell_of n o o') (ep : Alike cell_of n p p') (ew : Alike mark_of n w w') (em : Alike move_of n m m') where
  line_alike : (v : ℕ) → v < n → line_at o p w m v ≡ line_at o' p' w' m' v
  unfolding vertex_line_lem
  line_alike v l =
      ap₂ (λ (a b : ℕ). vertex_line_lem v a b (mark_of w v) (move_of m v)) (eo.same v l) (ep.same v l) ∙
      ap₂ (λ (c d : ℕ). vertex_line_lem v (get_or o' v 0) (get_or p' v 0) c d) (ew.same v l) (em.same v l)

  below : (k : ℕ) → k ≤ n → vertex_lines o p w m k ≡ vertex_lines o' p' w' m' k
  unfolding vertex_lines
  below zero l = refl
  below (suc k) l = ap₂ (λ (x y : List ℕ). x ++ y) (below k (omega arith)) (line_alike k l)

  pub lines_alike : vertex_lines o p w m n ≡ vertex_lines o' p' w' m' n
  lines_alike = below n (omega arith)
