-- Which vertices an amendment reaches, and how many, by tests that compute.
use Prim.Native.Nat.{ℕ, zero, suc}
use mathlib.Core.Bool.{Bool, cond, not, ◌&&◌, ◌||◌}
use mathlib.Core.Logic.{◌⊎◌, inl, inr, ◌≢◌}
use lib.Dec.{eqb}
use Rattle.game.specs.promise.Game.{Game, Edge}
use Rattle.winning.specs.promise.Walk.{Walk}
use Rattle.winning.specs.parts.Verdict.{via, lowest, is_at, is_edge}
use Rattle.winning.proofs.Reflect.{Tests, holds, fails, tests_map, tests_not, tests_and, tests_or, tests_eq}
use Rattle.winning.proofs.Edges.{tests_edge}
use Rattle.winning.proofs.Reachable.{walk_tests}
use Rattle.winning.proofs.Search.{tests_some}
use Rattle.amend.specs.promise.Amended.{Differs, owner, priority, successors, Reaches, CountOf, none, one, skip}
use Rattle.cases.proofs.Equal.{is_same, tests_same}

-- whether there is a walk
abbrev is_walk : Game → ℕ → ℕ → Bool
is_walk f v u = eqb v u || via (is_edge f) f.n v u

tests_walk : (f : Game) (v u : ℕ) → Tests (Walk (Edge f) v u) (is_walk f v u)
tests_walk f v u = walk_tests (tests_edge f) f.n (λ x y e. e.from) v u

module _ (g h : Game) where
  -- whether owner, priority or successors differ
  abbrev is_differing : ℕ → Bool
  is_differing v =
      not (eqb (g.owner v) (h.owner v)) || (not (eqb (g.priority v) (h.priority v)) || not (is_same (g.next v) (h.next v)))

  tests_differs : (v : ℕ) → Tests (Differs g h v) (is_differing v)
  tests_differs v =
      tests_map to from
      (tests_or (tests_not (tests_eq (g.owner v) (h.owner v)))
      (tests_or (tests_not (tests_eq (g.priority v) (h.priority v))) (tests_not (tests_same (g.next v) (h.next v)))))
    where
      to : (g.owner v ≢ h.owner v) ⊎ (g.priority v ≢ h.priority v) ⊎ (g.next v ≢ h.next v) → Differs g h v
      to (inl d) = owner d
      to (inr (inl d)) = priority d
      to (inr (inr d)) = successors d

      from : Differs g h v → (g.owner v ≢ h.owner v) ⊎ (g.priority v ≢ h.priority v) ⊎ (g.next v ≢ h.next v)
      from (owner d) = inl d
      from (priority d) = inr (inl d)
      from (successors d) = inr (inr d)

  -- whether a path of the second game leads from v to a differing vertex
  abbrev pub is_reaching : ℕ → Bool
  is_reaching v = is_at (lowest (λ u. is_differing u && is_walk h v u) h.n)

  pub tests_reaches : (v : ℕ) → Tests (Reaches g h v) (is_reaching v)
  tests_reaches v =
      tests_map
      (λ t. record { to = t.0; vertex = t.1.below; differs = t.1.has.0; path = t.1.has.1 })
      (λ r. (r.to, record { below = r.vertex; has = (r.differs, r.path) }))
      (tests_some (λ u. Differs g h u × Walk (Edge h) v u) _ (λ u. tests_and (tests_differs u) (tests_walk h v u)) h.n)

-- how many numbers below n pass
abbrev pub how_many : (ℕ → Bool) → ℕ → ℕ
how_many t zero = 0
how_many t (suc n) = cond (t n) (suc (how_many t n)) (how_many t n)

pub how_many_lem : {P : ℕ → Type 0} {t : ℕ → Bool} → ((v : ℕ) → Tests (P v) (t v)) → (n : ℕ) → CountOf P n (how_many t n)
how_many_lem r zero = none
how_many_lem {P} r (suc n) = next (r n) (how_many_lem r n)
  where
    next : {b : Bool} {c : ℕ} → Tests (P n) b → CountOf P n c → CountOf P (suc n) (cond b (suc c) c)
    next (holds p) a = one p a
    next (fails h) a = skip h a
