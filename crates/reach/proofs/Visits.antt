-- A visit to w goes over its predecessors: what is reached and the queue grow by the starts of allowed steps, and none is passed over.
use Prim.Native.Nat.{ℕ, ◌+◌, ◌<◌, ◌≤◌}
use mathlib.Core.Path.{◌≡◌, refl, sym, subst, ◌∙◌}
use mathlib.Core.List.{List}
use lib.ListN.{get_or}
use Rattle.space.specs.parts.Work.{section, Beside}
use Rattle.reach.specs.parts.Closure.{ToChoice}
use Rattle.reach.specs.parts.Queue.{Visitable, Grown, Triable, VisitableIn}

-- the predecessors of w at the places below i are passed: whoever has an allowed step is reached
pub record Visiting (n w : ℕ) (ins froms level choice : List ℕ) (bound : ℕ) (reached₀ queue₀ : List ℕ) (tail : ℕ) (reached queue : List ℕ) (i end : ℕ) : Type 0 where
  pub grown : Grown n w ins froms level choice bound reached₀ queue₀ tail reached queue end
  pub begun : get_or ins w 0 ≤ i
  pub passed : (j : ℕ) → get_or ins w 0 ≤ j → j < i → get_or level (get_or froms j 0) 0 ≤ bound → ToChoice choice (get_or froms j 0) w → get_or reached (get_or froms j 0) 0 ≡ 1

-- who stands at the next place leads into w
visiting_source :
    {n w : ℕ} {ins froms level choice reached₀ queue₀ : List ℕ} {tail bound : ℕ} {reached queue : List ℕ} {i end : ℕ} → Visitable n w ins froms level choice reached₀ queue₀ tail →
    i < get_or ins (w + 1) 0 → Visiting n w ins froms level choice bound reached₀ queue₀ tail reached queue i end → get_or froms i 0 < n
visiting_source {w = w} {i = i} p l h = p.closable.back.source _ w (record { vertex = p.vertex; at = i; begins = h.begun; ends = l; is = refl })

-- The same in the work space.

pub record VisitingIn (n w : ℕ) (ins froms choice : List ℕ) (bound : ℕ) (work₀ : List ℕ) (tail : ℕ) (work : List ℕ) (i end : ℕ) : Type 0 where
  pub visiting : Visiting n w ins froms (section 0 n work₀) choice bound (section 1 n work₀) (section 2 n work₀) tail (section 1 n work) (section 2 n work) i end
  pub beside : Beside n work₀ work

-- and is tried
pub visiting_triable :
    {n w : ℕ} {ins froms choice work₀ : List ℕ} {tail bound : ℕ} {work : List ℕ} {i end u : ℕ} → VisitableIn n w ins froms choice work₀ tail →
    i < get_or ins (w + 1) 0 → VisitingIn n w ins froms choice bound work₀ tail work i end → u ≡ get_or froms i 0 → Triable n u work end
visiting_triable {n} p l h is =
    record {
      long = h.beside.long ∙ p.long;
      small = p.visitable.closable.small;
      vertex = subst (λ (x : ℕ). x < n) (sym is) (visiting_source p.visitable l h.visiting);
      queued = h.visiting.grown.queued;
    }
