-- Row 7: a place in the target list from a place in a vertex's stretch, and the lowest of the one from the lowest of the other.
use Prim.Native.Nat.{ℕ, ◌+◌, ◌-◌, ◌<◌, ◌≤◌}
use mathlib.Core.Path.{◌≡◌, refl, sym, subst}
use mathlib.Core.List.{List}
use native.Mathlib.Omega.{arith}
use native.Mathlib.Decide.{ℕ_discrete, dec_lt}
use lib.ListN.{length, get_or}
use Rattle.refusal.specs.promise.Row.{Lowest, NoPlace}
use Rattle.std.specs.Prelude.{Option, Some, None}
use Rattle.refusal.specs.parts.Found.{Finds, Scanned}
use Rattle.refusal.proofs.Scans.{scan_more, found_at, found_nowhere}
use Rattle.game.specs.promise.Tables.{next_of, Placed}
use Rattle.game.specs.promise.Faults.{Descent, Fault7}
use Rattle.game.proofs.Starts.{onward_from, stretch_of, stretch_length}

-- somewhere in the stretch of u a target is not above the one before it
pub record Unordered (starts targets : List ℕ) (u : ℕ) : Type 0 where
  pub at : ℕ
  pub descent : Descent (next_of starts targets u) at

module _ (n : ℕ) (starts targets : List ℕ) (p : Placed n starts targets) where
  -- a place in the stretch of v lies before every place in the stretch of a later vertex
  before_later : (v u i : ℕ) → v < u → u < n → i < length (next_of starts targets v) → get_or starts v 0 + i < get_or starts u 0
  before_later v u i l m h =
      let s = stretch_of n starts targets p v (omega arith) in
      let e : length (next_of starts targets v) ≡ get_or starts (v + 1) 0 - get_or starts v 0 = stretch_length starts targets v s in
      let up : get_or starts (v + 1) 0 ≤ get_or starts u 0 = onward_from n starts targets p (v + 1) u (omega arith) (omega arith) in
      omega arith

  lowest_found : (v i : ℕ) → v < n → Scanned (Unordered starts targets) v → Lowest (Descent (next_of starts targets v)) i → Lowest (Fault7 n starts targets) (get_or starts v 0 + i)
  lowest_found v i l s d =
      record {
        holds = record { vertex = v; is_vertex = l; at = i; place = refl; descent = d.holds };
        lower = λ y lt f. elim (dec_lt f.vertex v) [ yes k ↦ s.clear f.vertex k (record { at = f.at; descent = f.descent }) | no k ↦ later y lt f k (ℕ_discrete f.vertex v) ];
      }
    where
      later : (y : ℕ) → y < get_or starts v 0 + i → (f : Fault7 n starts targets y) → ¬ (f.vertex < v) → Dec (f.vertex ≡ v) → ⊥
      later y lt f k (yes e) =
          let q : y ≡ get_or starts v 0 + f.at = subst (λ (u : ℕ). y ≡ get_or starts u 0 + f.at) e f.place in
          d.lower f.at (omega arith) (subst (λ (u : ℕ). Descent (next_of starts targets u) f.at) e f.descent)
      later y lt f k (no ne) =
          let b : get_or starts v 0 + i < get_or starts f.vertex 0 = before_later v f.vertex i (omega arith) f.is_vertex d.holds.within in
          omega (arith, f.place)

  -- r is the stretch of v, and the scan of it found i: the place in the targets is the lowest
  module _ (v i x : ℕ) (r : List ℕ) (f : Option ℕ) (l : v < n) (e : r ≡ next_of starts targets v) (at : f ≡ Some i) (d : Finds (Descent r) f) (start : x ≡ get_or starts v 0) where
    low : Lowest (Descent (next_of starts targets v)) i
    low = subst (λ (k : List ℕ). Lowest (Descent k) i) e (found_at (Descent r) at d)

    pub order_found : Scanned (Unordered starts targets) v → Lowest (Fault7 n starts targets) (x + i)
    order_found s = subst (λ (k : ℕ). Lowest (Fault7 n starts targets) (k + i)) (sym start) (lowest_found v i l s low)

pub order_more : (starts targets : List ℕ) (v : ℕ) (r : List ℕ) (f : Option ℕ) → r ≡ next_of starts targets v → f ≡ None → Finds (Descent r) f → Scanned (Unordered starts targets) v → Scanned (Unordered starts targets) (v + 1)
order_more starts targets v r f e none d s =
    scan_more s (λ u. found_nowhere (Descent r) none d u.at (subst (λ (k : List ℕ). Descent k u.at) (sym e) u.descent))

pub order_none : (n : ℕ) (starts targets : List ℕ) (v : ℕ) → n ≤ v → Scanned (Unordered starts targets) v → NoPlace (Fault7 n starts targets)
order_none n starts targets v l s x f = s.clear f.vertex (omega (arith, f.is_vertex)) (record { at = f.at; descent = f.descent })
