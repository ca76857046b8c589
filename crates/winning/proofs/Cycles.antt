-- A cycle and its highest vertex: its list against a step and a walk back among priorities that are no higher.
use Prim.Native.Nat.{ℕ, ◌≤◌}
use mathlib.Core.Path.{◌≡◌, subst}
use mathlib.Core.List.{List, [], ◌∷◌}
use native.Mathlib.Decide.{dec_le}
use native.Mathlib.Omega.{arith}
use Rattle.game.specs.promise.Game.{Game}
use Rattle.winning.specs.promise.Walk.{Walk, stay, step}
use Rattle.winning.proofs.Walks.{join, map_walk}
use Rattle.winning.specs.promise.Cycle.{Through, Cycle, highest}
use Rattle.winning.specs.parts.Low.{Low}

-- steps through a list are steps of another relation if each step from a vertex with P is one and keeps P
map_through :
    {S R : ℕ → ℕ → Type 0} (P : ℕ → Type 0) → ((x y : ℕ) → P x → S x y → R x y × P y) →
    (v : ℕ) (l : List ℕ) (u : ℕ) → P v → Through S v l u → Through R v l u
map_through P f v [] u h s = (f v u h s).0
map_through P f v (w ∷ l) u h t = ((f v w h t.0).0, map_through P f w l u (f v w h t.0).1 t.1)

-- the same of a cycle
pub map_cycle :
    {S R : ℕ → ℕ → Type 0} (P : ℕ → Type 0) → ((x y : ℕ) → P x → S x y → R x y × P y) →
    (u : ℕ) (l : List ℕ) → P u → Cycle S (u ∷ l) → Cycle R (u ∷ l)
map_cycle P f u l h c = map_through P f u l u h c

-- a cycle's first step
pub cycle_step : (S : ℕ → ℕ → Type 0) (u : ℕ) (l : List ℕ) → Cycle S (u ∷ l) → (w : ℕ) × S u w
cycle_step S u [] s = (u, s)
cycle_step S u (w ∷ l) t = (w, t.0)

module _ (g : Game) (S : ℕ → ℕ → Type 0) where
  -- steps through vertices of priority k and below
  through_walk : (k v : ℕ) (l : List ℕ) (u : ℕ) → highest g (v ∷ l) ≤ k → Through S v l u → Walk (Low g S k) v u
  through_walk k v [] u h s = step (record { taken = s; low = omega arith }) stay
  through_walk k v (w ∷ l) u h t = step (record { taken = t.0; low = omega arith }) (through_walk k w l u (omega arith) t.1)

  walk_through : (k : ℕ) {v w u : ℕ} → S v w → Walk (Low g S k) w u → (l : List ℕ) × Through S v l u × (highest g l ≤ k)
  walk_through k s stay = ([], s, omega arith)
  walk_through k s (step {v = w} t a) = let r = walk_through k t.taken a in (w ∷ r.0, (s, r.1), omega (arith, r.2, t.low))

  pub round_of : (x : ℕ) (l : List ℕ) → Cycle S (x ∷ l) → highest g (x ∷ l) ≡ g.priority x → (w : ℕ) × S x w × Walk (Low g S (g.priority x)) w x
  round_of x [] s e = (x, s, stay)
  round_of x (w ∷ l) t e = (w, t.0, through_walk (g.priority x) w l x (omega arith) t.1)

  pub cycle_of : (x w : ℕ) → S x w → Walk (Low g S (g.priority x)) w x → (l : List ℕ) × Cycle S (x ∷ l) × (highest g (x ∷ l) ≡ g.priority x)
  cycle_of x w s a = let r = walk_through (g.priority x) s a in (r.0, r.1, omega (arith, r.2))

  -- a vertex x of highest priority on the way from v through l to u, with the walks to it and from its next vertex on
  record Peak (k v : ℕ) (l : List ℕ) (u : ℕ) : Type 0 where
    top : ℕ
    is : highest g (v ∷ l) ≡ g.priority top
    to : Walk (Low g S k) v top
    out : ℕ
    leaves : S top out
    back : Walk (Low g S k) out u

  peak : (k v : ℕ) (l : List ℕ) (u : ℕ) → highest g (v ∷ l) ≤ k → Through S v l u → Peak k v l u
  peak k v [] u h s = record { top = v; is = omega arith; to = stay; out = u; leaves = s; back = stay }
  peak k v (w ∷ l) u h t = elim (dec_le (highest g (w ∷ l)) (g.priority v)) [ yes m ↦ here m | no m ↦ later m (peak k w l u (omega arith) t.1) ]
    where
      here : highest g (w ∷ l) ≤ g.priority v → Peak k v (w ∷ l) u
      here m = record { top = v; is = omega arith; to = stay; out = w; leaves = t.0; back = through_walk k w l u (omega arith) t.1 }

      later : ¬ (highest g (w ∷ l) ≤ g.priority v) → Peak k w l u → Peak k v (w ∷ l) u
      later m r =
          record {
            top = r.top;
            is = omega arith;
            to = step (record { taken = t.0; low = omega arith }) r.to;
            out = r.out;
            leaves = r.leaves;
            back = r.back;
          }

  -- every cycle has a highest vertex on it: turn it so that it starts there
  pub top_of : (u : ℕ) (l : List ℕ) → Cycle S (u ∷ l) → (x : ℕ) × (r : List ℕ) × Walk S u x × Cycle S (x ∷ r) × (highest g (x ∷ r) ≡ g.priority x) × (highest g (u ∷ l) ≡ g.priority x)
  top_of u l c = turned (peak (highest g (u ∷ l)) u l u (omega arith) c)
    where
      turned : Peak (highest g (u ∷ l)) u l u → (x : ℕ) × (r : List ℕ) × Walk S u x × Cycle S (x ∷ r) × (highest g (x ∷ r) ≡ g.priority x) × (highest g (u ∷ l) ≡ g.priority x)
      turned p = let r = cycle_of p.top p.out p.leaves (subst (λ k. Walk (Low g S k) p.out p.top) p.is (join p.back p.to)) in
          (p.top, r.0, map_walk (λ x y s. s.taken) p.to, r.1, r.2, p.is)
