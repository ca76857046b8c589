-- Warshall's recursion is right, so it is tested whether there is a walk.
use Prim.Native.Nat.{ℕ, zero, suc, ◌<◌}
use mathlib.Core.Path.{◌≡◌, refl, subst}
use mathlib.Core.Bool.{Bool, ◌||◌}
use mathlib.Core.Logic.{◌⊎◌, inl, inr, ⊎_elim}
use native.Mathlib.Nat.{eq-or-lt_of_le, le_of_suc-le-suc, not-suc-le-zero}
use native.Mathlib.Omega.{arith}
use lib.Dec.{eqb}
use Rattle.winning.specs.promise.Walk.{Walk, stay, step}
use Rattle.winning.specs.parts.Verdict.{via}
use Rattle.winning.proofs.Reflect.{Tests, tests_map, tests_and, tests_or, tests_eq}

-- a walk of one step or more whose vertices strictly in between are below k
pub data Via (S : ℕ → ℕ → Type 0) (k : ℕ) : ℕ → ℕ → Type 0 where
  one : {v u : ℕ} → S v u → Via S k v u
  more : {v w u : ℕ} → S v w → w < k → Via S k w u → Via S k v u

-- a walk through vertices up to k, cut at its first and last visit of k if it visits k
abbrev Cut : (ℕ → ℕ → Type 0) → ℕ → ℕ → ℕ → Type 0
Cut S k v u = Via S k v u ⊎ (Via S k v k × Via S k k u)

module _ {S : ℕ → ℕ → Type 0} where
  via_bottom : {v u : ℕ} → Via S zero v u → S v u
  via_bottom (one s) = s
  via_bottom (more s l a) = absurd (not-suc-le-zero l)

  via_wider : {k v u : ℕ} → Via S k v u → Via S (suc k) v u
  via_wider (one s) = one s
  via_wider (more s l a) = more s (omega arith) (via_wider a)

  join_at : {k v w u : ℕ} → Via S k v w → w ≡ k → Via S (suc k) w u → Via S (suc k) v u
  join_at (one s) e b = more s (omega arith) b
  join_at (more s l a) e b = more s (omega arith) (join_at a e b)

  via_join : {k v u : ℕ} → Via S k v k → Via S (suc k) k u → Via S (suc k) v u
  via_join a b = join_at a refl b

  cut_here : {k v u : ℕ} → S v k → Cut S k k u → Cut S k v u
  cut_here s (inl b) = inr (one s, b)
  cut_here s (inr t) = inr (one s, t.1)

  cut_past : {k v w u : ℕ} → S v w → w < k → Cut S k w u → Cut S k v u
  cut_past s l (inl b) = inl (more s l b)
  cut_past s l (inr t) = inr (more s l t.0, t.1)

  via_cut : {k v u : ℕ} → Via S (suc k) v u → Cut S k v u
  via_cut (one s) = inl (one s)
  via_cut {k} {u} (more {v} {w} s l a) =
      ⊎_elim
      (λ e. cut_here (subst (S v) e s) (subst (λ x. Cut S k x u) e (via_cut a)))
      (λ m. cut_past s m (via_cut a))
      (eq-or-lt_of_le (le_of_suc-le-suc l))

  -- Warshall's test is true exactly if there is such a walk
  pub via_tests : {s : ℕ → ℕ → Bool} → ((v w : ℕ) → Tests (S v w) (s v w)) → (k v u : ℕ) → Tests (Via S k v u) (via s k v u)
  via_tests r zero v u = tests_map one via_bottom (r v u)
  via_tests r (suc k) v u =
      tests_map (⊎_elim via_wider (λ t. via_join t.0 (via_wider t.1))) via_cut
      (tests_or (via_tests r k v u) (tests_and (via_tests r k v k) (via_tests r k k u)))

  via_walk : {k v u : ℕ} → Via S k v u → Walk S v u
  via_walk (one s) = step s stay
  via_walk (more s l a) = step s (via_walk a)

  -- such a walk is a step and a walk whose vertices are all below k
  pub via_step : {k v u : ℕ} → Via S k v u → (w : ℕ) × S v w × Walk S w u
  via_step (one {u} s) = (u, s, stay)
  via_step (more {w} s l a) = (w, s, via_walk a)

  pub step_via : {k v w u : ℕ} → ((x y : ℕ) → S x y → x < k) → S v w → Walk S w u → Via S k v u
  step_via b s stay = one s
  step_via b s (step t a) = more s (b _ _ t) (step_via b t a)

  walk_via : {k v u : ℕ} → ((x y : ℕ) → S x y → x < k) → Walk S v u → (v ≡ u) ⊎ Via S k v u
  walk_via b stay = inl refl
  walk_via b (step s a) = inr (step_via b s a)

  -- and so it is tested whether there is a walk at all, if all steps start below k
  pub walk_tests :
      {s : ℕ → ℕ → Bool} → ((v w : ℕ) → Tests (S v w) (s v w)) → (k : ℕ) → ((x y : ℕ) → S x y → x < k) → (v u : ℕ) →
      Tests (Walk S v u) (eqb v u || via s k v u)
  walk_tests r k b v u = tests_map (⊎_elim (λ e. subst (Walk S v) e stay) via_walk) (walk_via b) (tests_or (tests_eq v u) (via_tests r k v u))
