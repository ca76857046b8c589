-- Both steps make the measure fall.
use Prim.Native.Nat.{ℕ, ◌+◌, ◌*◌, ◌^◌, ◌<◌, ◌≤◌}
use mathlib.Core.Bool.{Bool, true, false}
use mathlib.Core.Path.{◌≡◌, sym, ap, ◌∙◌}
use mathlib.Core.Logic.{◌≢◌, ⊎_elim}
use lib.Dec.{eqb}
use borrow.Author.Tests.{eq-eqb, ne_eqb}
use native.Mathlib.Nat.{le_of_eq, one-le-pow, pow-succ', pow-le-pow_right, mul-le-mul_right, mul-zero, zero-mul, add-mul, add-zero, eq-or-lt_of_le}
use native.Mathlib.Omega.{arith}
use Rattle.player.specs.promise.Player.{parity_of}
use Rattle.player.proofs.Players.{opponent_other, parity_player}
use Rattle.game.specs.promise.Game.{Game}
use Rattle.winning.specs.promise.Walk.{Walk}
use Rattle.justification.specs.parts.Safe.{Support, Safe}
use Rattle.justification.specs.parts.Step.{Same, Kept, Leaning, Turned}
use Rattle.justification.specs.parts.Measure.{weight_by, measure}
use Rattle.justification.proofs.Lines.{steady_walk}
use Rattle.justification.proofs.Sums.{falls}

-- the weights' bounds
most : (n : ℕ) (s o : Bool) → weight_by n s o ≤ n + 2
most n false o = omega arith
most n true true = omega arith
most n true false = omega arith

own : (n : ℕ) (s : Bool) → n + 1 ≤ weight_by n s true
own n false = omega arith
own n true = omega arith

module _ (g : Game) where
  -- a vertex's unit, and what it adds to the measure
  abbrev unit : ℕ → ℕ
  unit u = (g.n + 2) ^ g.priority u

  abbrev term : (mark settled : ℕ → ℕ) → ℕ → ℕ
  term mark settled u = weight_by g.n (eqb (settled u) 1) (eqb (mark u) (parity_of (g.priority u))) * unit u

  some : (u : ℕ) → 0 < unit u
  some u = one-le-pow (g.priority u) (g.n + 2) (omega arith)

  -- an open vertex weighs n+2
  open_term : (mark settled : ℕ → ℕ) (u : ℕ) → settled u ≢ 1 → term mark settled u ≡ (g.n + 2) * unit u
  open_term mark settled u f = rw (ne_eqb (settled u) 1 f)

  module _ (mark move settled mark' move' settled' : ℕ → ℕ) where
    same_term : {u : ℕ} → Same mark move settled mark' move' settled' u → term mark' settled' u ≡ term mark settled u
    same_term s = rw (s.marked, s.flag)

    pub keeps_falls : (v m : ℕ) → Safe g mark move settled → v < g.n → settled v ≢ 1 → Kept mark move settled mark' move' settled' g v m → measure g mark' settled' < measure g mark settled
    unfolding measure
    keeps_falls v m safe l f kept =
        falls (term mark settled) (term mark' settled') 0 g.n v (unit v) l
        (rw (mul-zero g.n) (some v)) lost
        (λ u h d. le_of_eq (same_term (kept.elsewhere u h d) ∙ sym (add-zero _)))
      where
        lost : term mark' settled' v + unit v ≤ term mark settled v
        lost = rw (eq-eqb (settled' v) 1 kept.here.flag, eq-eqb _ _ kept.here.marked, open_term mark settled v f) (omega (arith, add-mul g.n 2 (unit v), add-mul g.n 1 (unit v)))

    -- what is reopened lies at most as high as v, and where it lies as high it had its own parity's mark
    gain : (v u : ℕ) → Safe g mark move settled → v < g.n → settled v ≢ 1 → u < g.n → Walk (Support g mark move settled) u v → term mark' settled' u ≤ term mark settled u + unit v
    gain v u safe l f h w =
        ⊎_elim level lower (eq-or-lt_of_le (safe.below u v h w f))
      where
        top : term mark' settled' u ≤ (g.n + 2) * unit u
        top = mul-le-mul_right (unit u) (most g.n (eqb (settled' u) 1) (eqb (mark' u) (parity_of (g.priority u))))

        lower : g.priority u < g.priority v → term mark' settled' u ≤ term mark settled u + unit v
        lower less =
            omega (arith, top, pow-succ' (g.n + 2) (g.priority u), pow-le-pow_right {n = g.n + 2} (omega arith) less)

        level : g.priority u ≡ g.priority v → term mark' settled' u ≤ term mark settled u + unit v
        level e =
            let owned : mark u ≡ parity_of (g.priority u) = sym (steady_walk g mark move settled safe w) ∙ safe.default v l f ∙ ap parity_of (sym e) in
            let bottom : (g.n + 1) * unit u ≤ term mark settled u = rw (eq-eqb _ _ owned) (mul-le-mul_right (unit u) (own g.n (eqb (settled u) 1))) in
            let units : unit u ≡ unit v = ap (λ p. (g.n + 2) ^ p) e in
            omega (arith, top, add-mul g.n 2 (unit u), add-mul g.n 1 (unit u))

    pub turns_falls : (R : ℕ → Type 0) (v m : ℕ) → Safe g mark move settled → v < g.n → settled v ≢ 1 → Leaning g mark move settled v R → Turned mark move settled mark' move' settled' g R v m → measure g mark' settled' < measure g mark settled
    unfolding measure
    turns_falls R v m safe l f leaning turned =
        falls (term mark settled) (term mark' settled') (unit v) g.n v ((g.n + 2) * unit v) l
        (omega (arith, some v, add-mul g.n 2 (unit v))) lost others
      where
        lost : term mark' settled' v + (g.n + 2) * unit v ≤ term mark settled v
        lost =
            rw (
              eq-eqb (settled' v) 1 turned.here.flag,
              ne_eqb (mark' v) (parity_of (g.priority v)) (λ e. opponent_other _ (parity_player (g.priority v)) (sym turned.here.marked ∙ e)),
              open_term mark settled v f,
            ) (omega (arith, zero-mul (unit v)))

        others : (u : ℕ) → u < g.n → u ≢ v → term mark' settled' u ≤ term mark settled u + unit v
        others u h d =
            elim (leaning.decided u h) [
              | yes r ↦ gain v u safe l f h (leaning.leads u h r)
              | no r ↦ omega (arith, same_term (turned.elsewhere u h d r))
            ]
