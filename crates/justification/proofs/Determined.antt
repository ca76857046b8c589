-- Every game whose vertices have owners has an accepted answer: the method, run on functions until nothing is open.
use Prim.Native.Nat.{ℕ, zero, suc, ◌<◌}
use mathlib.Core.Path.{refl}
use mathlib.Core.Logic.Dec
use mathlib.Core.Logic.{◌≢◌, ◌⊎◌, inl, inr, ⊎_elim}
use native.Mathlib.Decide.{ℕ_discrete}
use native.Mathlib.Nat.{not-suc-le-zero, lt-suc_self}
use native.Mathlib.Omega.{arith}
use Rattle.player.specs.promise.Player.{IsPlayer, parity_of, opponent_of}
use Rattle.player.proofs.Players.{parity_player}
use Rattle.game.specs.promise.Game.{Game}
use Rattle.winning.specs.promise.Walk.{Walk}
use Rattle.winning.specs.promise.Faults.{Accepted}
use Rattle.justification.specs.parts.Safe.{Support, Safe, Done, Eligible}
use Rattle.justification.specs.parts.Measure.{measure}
use Rattle.justification.proofs.Eligible.{least_eligible}
use Rattle.justification.proofs.KeepStep.{keeps}
use Rattle.justification.proofs.TurnStep.{turns}
use Rattle.justification.proofs.Falls.{keeps_falls, turns_falls}
use Rattle.justification.proofs.Finished.{finished}
use Rattle.justification.proofs.Started.{fresh_safe}
use Rattle.justification.proofs.Leans.{decide_leaning, leaning}
use Rattle.justification.proofs.Search.{Minimal, search_least}
use Rattle.justification.proofs.Trial.{Gives, test}
use Rattle.justification.proofs.Changes.{kept, turned}

-- a safe state of a measure below k
data Better (g : Game) (k : ℕ) : Type 0 where
  better : (mark move settled : ℕ → ℕ) → Safe g mark move settled → measure g mark settled < k → Better g k

module _ (g : Game) (owned : (v : ℕ) → v < g.n → IsPlayer (g.owner v)) where
  -- an open vertex of least priority is kept or turned
  advance : (mark move settled : ℕ → ℕ) → Safe g mark move settled → (v : ℕ) → Minimal (λ u. settled u ≢ 1) g.priority g.n v → Better g (measure g mark settled)
  advance mark move settled safe v least =
      ⊎_elim keep turn (test g mark safe.player v (parity_of (g.priority v)) (parity_player (g.priority v)) (owned v least.below))
    where
      eligible : {p m : ℕ} → Eligible g mark move settled v p m
      eligible = least_eligible g mark move settled least.below least.has least.least

      keep : Gives g mark safe.player v (parity_of (g.priority v)) → Better g (measure g mark settled)
      keep t =
          let m = t.0 in
          let k = kept g mark move settled v m in
          better _ _ _ (keeps g mark move settled _ _ _ v m safe eligible t.1 k) (keeps_falls g mark move settled _ _ _ v m safe least.below least.has k)

      turn : Gives g mark safe.player v (opponent_of (parity_of (g.priority v))) → Better g (measure g mark settled)
      turn t =
          let m = t.0 in
          let R : ℕ → Type 0 = λ u. Walk (Support g mark move settled) u v in
          let l = leaning g mark move settled v in
          let k = turned g mark move settled v m R (decide_leaning g mark move settled v) in
          better _ _ _ (turns g mark move settled _ _ _ R v m safe eligible t.1 l k) (turns_falls g mark move settled _ _ _ R v m safe least.below least.has l k)

  -- nothing is open, or the method goes on
  goes : (mark move settled : ℕ → ℕ) → Safe g mark move settled → Done g mark move settled ⊎ Better g (measure g mark settled)
  goes mark move settled safe =
      elim (search_least (λ v. settled v ≢ 1) g.priority g.n (λ v l. Dec.not (ℕ_discrete (settled v) 1))) [
        | inl m ↦ inr (advance mark move settled safe m.0 m.1)
        | inr none ↦ inl (λ v l. (Dec.not-not (ℕ_discrete (settled v) 1)).0 (none v l))
      ]

  run : (k : ℕ) → Better g k → (mark : ℕ → ℕ) × (move : ℕ → ℕ) × Accepted g mark move
  run zero (better mark move settled safe less) = absurd (not-suc-le-zero less)
  run (suc k) (better mark move settled safe less) = elim (goes mark move settled safe) [
    | inl done ↦ (mark, move, finished g mark move settled safe done)
    | inr (better a b c safe' less') ↦ run k (better a b c safe' (omega arith))
  ]

  pub answer_exists : (mark : ℕ → ℕ) × (move : ℕ → ℕ) × Accepted g mark move
  answer_exists = run (suc (measure g fresh none)) (better fresh none none (fresh_safe g fresh none none (λ v l. refl) (λ v l. omega arith)) (lt-suc_self _))
    where
      fresh : ℕ → ℕ
      fresh v = parity_of (g.priority v)

      none : ℕ → ℕ
      none v = 0
