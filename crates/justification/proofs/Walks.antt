-- Two ways to carry a walk over to another relation.
use Prim.Native.Nat.{ℕ}
use mathlib.Core.Path.{◌≡◌, subst}
use mathlib.Core.Logic.{◌⊎◌, inl, inr, ◌≢◌, ⊎_elim}
use native.Mathlib.Decide.{ℕ_discrete}
use Rattle.winning.specs.promise.Walk.{Walk, stay, step}

-- by a property that holds at the start and that every step keeps
pub carry : {S T : ℕ → ℕ → Type 0} {v u : ℕ} (P : ℕ → Type 0) → ((x y : ℕ) → S x y → P x → T x y × P y) → P v → Walk S v u → Walk T v u
carry P move here stay = stay
carry P move here (step s a) = let t = move _ _ s here in step t.0 (carry P move t.1 a)

-- all the way or to the first visit of v, if only the steps out of v are no steps of T; B is what the rest after the last visit gives
pub upto : {S T : ℕ → ℕ → Type 0} {B : Type 0} {a u : ℕ} (v : ℕ) → ((x y : ℕ) → x ≢ v → S x y → T x y) → ((y : ℕ) → S v y → Walk T y u → B) → Walk S a u → Walk T a u ⊎ (Walk T a v × B)
upto v old last stay = inl stay
upto {S} {T} {B} v old last (step {v = a} {w = b} {u = u} s w) = here (ℕ_discrete a v) (upto v old last w)
  where
    here : Dec (a ≡ v) → Walk T b u ⊎ (Walk T b v × B) → Walk T a u ⊎ (Walk T a v × B)
    here (yes e) w = inr (subst (λ x. Walk T a x) e stay, ⊎_elim (last b (subst (λ x. S x b) e s)) (λ w. w.1) w)
    here (no d) (inl w) = inl (step (old a b d s) w)
    here (no d) (inr w) = inr (step (old a b d s) w.0, w.1)
