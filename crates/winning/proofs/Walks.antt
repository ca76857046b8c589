-- Laws of walks: they join, a map of steps maps walks, what every step keeps a walk keeps, and what every step takes back a walk takes back.
use Prim.Native.Nat.{ℕ}
use Rattle.winning.specs.promise.Walk.{Walk, stay, step}

pub join : {S : ℕ → ℕ → Type 0} {v w u : ℕ} → Walk S v w → Walk S w u → Walk S v u
join stay b = b
join (step s a) b = step s (join a b)

pub map_walk : {S R : ℕ → ℕ → Type 0} {v u : ℕ} → ((x y : ℕ) → S x y → R x y) → Walk S v u → Walk R v u
map_walk f stay = stay
map_walk f (step s a) = step (f _ _ s) (map_walk f a)

pub follow : {S : ℕ → ℕ → Type 0} {v u : ℕ} (P : ℕ → Type 0) → ((x y : ℕ) → S x y → P x → P y) → P v → Walk S v u → P u
follow P keep here stay = here
follow P keep here (step s a) = follow P keep (keep _ _ s here) a

pub follow_back : {S : ℕ → ℕ → Type 0} {v u : ℕ} (P : ℕ → Type 0) → ((x y : ℕ) → S x y → P y → P x) → P u → Walk S v u → P v
follow_back P keep there stay = there
follow_back P keep there (step s a) = keep _ _ s (follow_back P keep there a)
