-- Both games yield the same set of reaching vertices: up to the first differing vertex a path of the one is a path of the other.
use Prim.Native.Nat.{ℕ, ◌<◌}
use mathlib.Core.Path.{◌≡◌, sym, subst}
use mathlib.Core.Logic.{◌↔◌}
use Rattle.game.specs.promise.Game.{Game, Edge}
use Rattle.winning.specs.promise.Walk.{Walk, stay, step}
use Rattle.justification.specs.parts.Start.{SameAt, Closed}
use Rattle.justification.proofs.Started.{same_edge}
use Rattle.amend.specs.promise.Amended.{Differs, owner, priority, successors, Reaches, CountOf}
use Rattle.amend.proofs.Differing.{decide_differs, agree_of}
use Rattle.amend.proofs.Counts.{count_map}

-- a differing vertex reaches itself, and so does whatever has an edge to a reaching vertex
pub reaches_here : {g h : Game} {v : ℕ} → v < h.n → Differs g h v → Reaches g h v
reaches_here {v = v} l d = record { to = v; vertex = l; differs = d; path = stay }

pub reaches_on : {g h : Game} {v w : ℕ} → Edge h v w → Reaches g h w → Reaches g h v
reaches_on e r = record { to = r.to; vertex = r.vertex; differs = r.differs; path = step e r.path }

-- to differ is mutual
differs_back : {g h : Game} {v : ℕ} → Differs g h v → Differs h g v
differs_back (owner ne) = owner (λ e. ne (sym e))
differs_back (priority ne) = priority (λ e. ne (sym e))
differs_back (successors ne) = successors (λ e. ne (sym e))

module _ (g h : Game) (size : g.n ≡ h.n) where
  within : {v : ℕ} → v < h.n → v < g.n
  within {v} l = subst (λ (k : ℕ). v < k) (sym size) l

  -- what reaches in the second game reaches in the first
  turned : {v : ℕ} → Reaches g h v → Reaches h g v
  turned r = along r.path
    where
      along : {v : ℕ} → Walk (Edge h) v r.to → Reaches h g v
      along stay = reaches_here (within r.vertex) (differs_back r.differs)
      along (step {v = x} {w = y} s a) = first (decide_differs g h x) (along a)
        where
          first : Dec (Differs g h x) → Reaches h g y → Reaches h g x
          first (yes d) later = reaches_here (within s.from) (differs_back d)
          first (no d) later = reaches_on (same_edge (sym size) (sym (agree_of g h x d).next) s) later

  -- vertices that do not reach: the games agree there, and no edge leaves them
  pub kept_agree : (v : ℕ) → v < h.n → ¬ Reaches g h v → SameAt g h v
  kept_agree v l k = agree_of g h v (λ d. k (reaches_here l d))

  pub kept_closed : Closed h (λ v. ¬ Reaches g h v)
  kept_closed v w k e r = k (reaches_on e r)

-- whichever game the path is in, the set is the same
pub same_set : (g h : Game) → g.n ≡ h.n → (v : ℕ) → Reaches g h v ↔ Reaches h g v
same_set g h size v = (turned g h size, turned h g (sym size))

-- and so is the count
pub same_count : (g h : Game) → g.n ≡ h.n → {n c : ℕ} → CountOf (Reaches g h) n c ↔ CountOf (Reaches h g) n c
same_count g h size = (count_map (λ v l. same_set g h size v), count_map (λ v l. ((same_set g h size v).1, (same_set g h size v).0)))
