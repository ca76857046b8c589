-- The starts: what the test of row 4 has passed, and what follows from starts that pass it.
use Prim.Native.Nat.{ℕ, ◌+◌, ◌-◌, ◌<◌, ◌≤◌}
use mathlib.Core.Path.{◌≡◌, sym, subst, ap, ◌∙◌}
use mathlib.Core.Logic.{◌≢◌}
use mathlib.Core.List.{List}
use native.Mathlib.Omega.{arith}
use native.Mathlib.Decide.{ℕ_discrete, dec_le}
use native.Mathlib.Nat.{le_refl, not-suc-le-zero}
use lib.ListN.{length, get_or, drop, length-take, length-drop}
use lib.Seq.{get_or-take, get_or-drop}
use Rattle.refusal.specs.promise.Row.{Lowest, NoPlace}
use Rattle.game.specs.promise.Tables.{next_of, Placed}
use Rattle.game.specs.parts.Stretch.{Stretch}
use Rattle.game.specs.promise.Faults.{Fault4, first, below, last}
use Rattle.game.proofs.Rising.{Rising, rising_from}

-- no start that is passed is below the one before
not_below : (starts : List ℕ) (v b x : ℕ) → Rising starts v → x ≡ b + 1 → x < v → get_or starts x 0 < get_or starts b 0 → ⊥
not_below starts v b x r e l h =
    let up : get_or starts b 0 ≤ get_or starts x 0 = subst (λ (k : ℕ). get_or starts b 0 ≤ get_or starts k 0) (sym e) (r.rising b (omega arith)) in
    omega arith

-- row 4 applies at no place that is passed, but for the last
clear : (starts targets : List ℕ) (v : ℕ) → get_or starts 0 0 ≡ 0 → Rising starts v → (x : ℕ) → x < v → x + 1 ≢ length starts → Fault4 starts targets x → ⊥
clear starts targets v z r x l ne (first e h) = h z
clear starts targets v z r x l ne (below b e w h) = not_below starts v b x r e l h
clear starts targets v z r x l ne (last e h) = ne e

pub first_found : (starts targets : List ℕ) → get_or starts 0 0 ≢ 0 → Lowest (Fault4 starts targets) 0
first_found starts targets h = record { holds = first (omega arith) h; lower = λ y l f. not-suc-le-zero l }

pub below_found : (starts targets : List ℕ) (v : ℕ) → get_or starts 0 0 ≡ 0 → 1 ≤ v → v < length starts → Rising starts v → get_or starts v 0 < get_or starts (v - 1) 0 → Lowest (Fault4 starts targets) v
below_found starts targets v z some l r h =
    record { holds = below (v - 1) (omega arith) l h; lower = λ y k f. clear starts targets v z r y k (omega arith) f }

pub last_found : (starts targets : List ℕ) (v : ℕ) → get_or starts 0 0 ≡ 0 → v + 1 ≡ length starts → Rising starts (length starts) → get_or starts v 0 ≢ length targets → Lowest (Fault4 starts targets) v
last_found starts targets v z e r h =
    record { holds = last e h; lower = λ y k f. clear starts targets (length starts) z r y (omega arith) (omega arith) f }

pub none_found : (starts targets : List ℕ) (v : ℕ) → get_or starts 0 0 ≡ 0 → v + 1 ≡ length starts → Rising starts (length starts) → get_or starts v 0 ≡ length targets → NoPlace (Fault4 starts targets)
none_found starts targets v z e r h x (first k g) = g z
none_found starts targets v z e r h x (below b k w g) = not_below starts (length starts) b x r k w g
none_found starts targets v z e r h x (last k g) =
    let d : x ≡ v = omega arith in
    g (ap (λ (i : ℕ). get_or starts i 0) d ∙ h)

-- Starts that pass row 4 cut the targets into stretches.

pub placed_of : (n : ℕ) (starts targets : List ℕ) → length starts ≡ n + 1 → NoPlace (Fault4 starts targets) → Placed n starts targets
placed_of n starts targets long none =
    record {
      bounds = long;
      first = elim (ℕ_discrete (get_or starts 0 0) 0) [ yes e ↦ e | no h ↦ absurd (none 0 (first (omega arith) h)) ];
      onward = up;
      last = elim (ℕ_discrete (get_or starts n 0) (length targets)) [ yes e ↦ e | no h ↦ absurd (none n (last (sym long) h)) ];
    }
  where
    up : (v : ℕ) → v < n → get_or starts v 0 ≤ get_or starts (v + 1) 0
    up v l = elim (dec_le (get_or starts v 0) (get_or starts (v + 1) 0)) [ yes h ↦ h | no h ↦ absurd (none (v + 1) (below v (omega arith) (omega arith) (omega arith))) ]

placed_rising : (n : ℕ) (starts targets : List ℕ) → Placed n starts targets → Rising starts (length starts)
placed_rising n starts targets p = record { rising = λ i l. let e = p.bounds in p.onward i (omega arith) }

pub none_of_placed : (n : ℕ) (starts targets : List ℕ) → Placed n starts targets → NoPlace (Fault4 starts targets)
none_of_placed n starts targets p = none_found starts targets n p.first (sym p.bounds) (placed_rising n starts targets p) p.last

-- a start is at most any later one
pub onward_from : (n : ℕ) (starts targets : List ℕ) → Placed n starts targets → (v w : ℕ) → v ≤ w → w ≤ n → get_or starts v 0 ≤ get_or starts w 0
onward_from n starts targets p v w a b = let e = p.bounds in rising_from (placed_rising n starts targets p) v w a (omega arith)

pub stretch_of : (n : ℕ) (starts targets : List ℕ) → Placed n starts targets → (v : ℕ) → v < n → Stretch starts targets v
stretch_of n starts targets p v l =
    let e = p.bounds in
    record {
      bound = omega arith;
      onward = p.onward v l;
      within = subst (λ (k : ℕ). get_or starts (v + 1) 0 ≤ k) p.last (onward_from n starts targets p (v + 1) n (omega arith) (le_refl n));
    }

-- How long a stretch is, where its places lie in the targets, and what stands there.

pub stretch_length : (starts targets : List ℕ) (v : ℕ) → Stretch starts targets v → length (next_of starts targets v) ≡ get_or starts (v + 1) 0 - get_or starts v 0
stretch_length starts targets v s = simp (length-take, length-drop) (omega (arith, s.onward, s.within))

pub stretch_place : (starts targets : List ℕ) (v i : ℕ) → i < length (next_of starts targets v) → get_or starts v 0 + i < length targets
stretch_place starts targets v i l = omega (arith, simp (length-take, length-drop) at l)

pub stretch_at : (starts targets : List ℕ) (v i : ℕ) → i < length (next_of starts targets v) → get_or (next_of starts targets v) i 0 ≡ get_or targets (get_or starts v 0 + i) 0
stretch_at starts targets v i l =
    let k : i < get_or starts (v + 1) 0 - get_or starts v 0 = omega (arith, simp length-take at l) in
    get_or-take (get_or starts (v + 1) 0 - get_or starts v 0) (drop (get_or starts v 0) targets) i 0 k ∙ get_or-drop (get_or starts v 0) targets i 0
