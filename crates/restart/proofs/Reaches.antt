-- With the open vertices as seeds, the closure reaches whatever leans on an open vertex.
use Prim.Native.Nat.{ℕ, ◌<◌}
use mathlib.Core.Path.{◌≡◌, subst}
use mathlib.Core.Logic.{◌≢◌}
use mathlib.Core.List.{List}
use lib.ListN.{get_or}
use Rattle.winning.specs.promise.Walk.{Walk}
use Rattle.winning.proofs.Walks.{follow}
use Rattle.reach.specs.parts.Closure.{Allowed, ClosedFrom}
use Rattle.space.specs.parts.Work.{section}
use Rattle.reach.specs.parts.Queue.{ClosedIn}
use Rattle.restart.specs.parts.Restarting.{SeededAll, OpenReached}

module _
    {n : ℕ} {ins froms moves work work₁ work₂ : List ℕ} {tail end : ℕ}
    (s : SeededAll n work work₁ tail)
    (c : ClosedIn n ins froms moves 0 work₁ work₂ end)
  where
    close : ClosedFrom n ins froms (section 0 n work) moves 0 (section 1 n work₁) (section 1 n work₂)
    close = subst (λ (l : List ℕ). ClosedFrom n ins froms l moves 0 (section 1 n work₁) (section 1 n work₂)) s.beside.levels c.closed.closed

    -- a step ends at a vertex
    ends : (x y : ℕ) → Allowed n ins froms (section 0 n work) moves 0 x y → y < n
    ends x y a = a.edge.vertex

    leads : (u : ℕ) → u < n → get_or (section 1 n work₂) u 0 ≡ 1 → (w : ℕ) × (get_or (section 0 n work) w 0 ≢ 0) × Walk (Allowed n ins froms (section 0 n work) moves 0) u w
    leads u l one =
        let r = close.reason u l one in
        let end : r.seed < n = follow (λ (y : ℕ). y < n) (λ x y a k. ends x y a) l r.walk in
        (r.seed, s.only r.seed end r.was_reached, r.walk)

    pub open_reached : OpenReached n ins froms (section 0 n work) moves (section 1 n work₂)
    open_reached = record { itself = λ u l o. close.kept u l (s.is_reached u l o); closed = close.closed; leads = leads }
