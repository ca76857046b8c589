-- Whether a vertex differs is decided by comparing owner, priority and successors; where it does not differ the games agree.
use Prim.Native.Nat.{ℕ}
use mathlib.Core.Path.{◌≡◌}
use mathlib.Core.Logic.Dec
use mathlib.Core.List.{List-discrete}
use native.Mathlib.Decide.{ℕ_discrete}
use Rattle.game.specs.promise.Game.{Game}
use Rattle.justification.specs.parts.Start.{SameAt}
use Rattle.amend.specs.promise.Amended.{Differs, owner, priority, successors}

module _ (g h : Game) (v : ℕ) where
  pub agree_of : ¬ Differs g h v → SameAt g h v
  agree_of same =
      record {
        owner = (Dec.not-not (ℕ_discrete (g.owner v) (h.owner v))).0 (λ ne. same (owner ne));
        priority = (Dec.not-not (ℕ_discrete (g.priority v) (h.priority v))).0 (λ ne. same (priority ne));
        next = (Dec.not-not (List-discrete ℕ_discrete (g.next v) (h.next v))).0 (λ ne. same (successors ne));
      }

  pub same_of : SameAt g h v → ¬ Differs g h v
  same_of a (owner ne) = ne a.owner
  same_of a (priority ne) = ne a.priority
  same_of a (successors ne) = ne a.next

  pub decide_differs : Dec (Differs g h v)
  decide_differs = by (ℕ_discrete (g.owner v) (h.owner v)) (ℕ_discrete (g.priority v) (h.priority v)) (List-discrete ℕ_discrete (g.next v) (h.next v))
    where
      by : Dec (g.owner v ≡ h.owner v) → Dec (g.priority v ≡ h.priority v) → Dec (g.next v ≡ h.next v) → Dec (Differs g h v)
      by (no ne) p s = yes (owner ne)
      by (yes o) (no ne) s = yes (priority ne)
      by (yes o) (yes p) (no ne) = yes (successors ne)
      by (yes o) (yes p) (yes s) = no (same_of (record { owner = o; priority = p; next = s }))
