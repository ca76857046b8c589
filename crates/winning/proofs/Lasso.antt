-- Whoever follows a function within n vertices walks into a cycle.
use Prim.Native.Nat.{ℕ, zero, suc, ◌<◌}
use mathlib.Core.Path.{◌≡◌, refl, sym, subst, ◌∙◌}
use mathlib.Core.List.{List, [], ◌∷◌}
use native.Mathlib.Nat.{le_of_suc-le-suc, not-suc-le-zero}
use Rattle.winning.specs.promise.Walk.{Walk, stay, step}
use Rattle.winning.specs.promise.Cycle.{Through, Cycle}
use Rattle.winning.proofs.Pigeonhole.{Twice, pigeonhole}

-- where i steps from v lead
abbrev visited : (ℕ → ℕ) → ℕ → ℕ → ℕ
visited next v zero = v
visited next v (suc i) = visited next (next v) i

-- a walk from v to a vertex on a cycle
pub record Lasso (S : ℕ → ℕ → Type 0) (v : ℕ) : Type 0 where
  pub on : ℕ
  pub rest : List ℕ
  pub reached : Walk S v on
  pub cycle : Cycle S (on ∷ rest)

-- the j-th is some steps after an earlier one
after : (next : ℕ → ℕ) (v i j : ℕ) → i < j → (d : ℕ) × (visited next v j ≡ visited next (visited next v i) (suc d))
after next v zero zero l = absurd (not-suc-le-zero l)
after next v zero (suc j) l = (j, refl)
after next v (suc i) zero l = absurd (not-suc-le-zero l)
after next v (suc i) (suc j) l = after next (next v) i j (le_of_suc-le-suc l)

module _ (S : ℕ → ℕ → Type 0) (n : ℕ) (next : ℕ → ℕ) (inside : (v : ℕ) → v < n → next v < n) (steps : (v : ℕ) → v < n → S v (next v)) where
  visited_inside : (v i : ℕ) → v < n → visited next v i < n
  visited_inside v zero l = l
  visited_inside v (suc i) l = visited_inside (next v) i (inside v l)

  visited_walk : (v i : ℕ) → v < n → Walk S v (visited next v i)
  visited_walk v zero l = stay
  visited_walk v (suc i) l = step (steps v l) (visited_walk (next v) i (inside v l))

  visited_through : (v d : ℕ) → v < n → (l : List ℕ) × Through S v l (visited next v (suc d))
  visited_through v zero l = ([], steps v l)
  visited_through v (suc d) l = let r = visited_through (next v) d (inside v l) in (next v ∷ r.0, (steps v l, r.1))

  pub lasso : (v : ℕ) → v < n → Lasso S v
  lasso v l = closed (pigeonhole n (visited next v) (λ i m. visited_inside v i l))
    where
      closed : Twice (visited next v) n → Lasso S v
      closed t =
          let x = visited next v t.i in
          let d = after next v t.i t.j t.before in
          let r = visited_through x d.0 (visited_inside v t.i l) in
          record {
            on = x;
            rest = r.0;
            reached = visited_walk v t.i l;
            cycle = subst (Through S x r.0) (sym (t.same ∙ d.1)) r.1;
          }
