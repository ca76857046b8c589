-- What the queue has reached is taken back, place by place.
use Prim.Native.Nat.{ℕ, ◌<◌, ◌≤◌}
use mathlib.Core.Path.{◌≡◌, ◌∙◌}
use mathlib.Core.Logic.{◌≢◌}
use mathlib.Core.List.{List}
use native.Mathlib.Omega.{arith}
use lib.ListN.{length, get_or}
use Rattle.space.specs.parts.Work.{section, Cell, Beside}
use Rattle.reach.specs.parts.Queue.{ClearableIn}
use Rattle.reach.proofs.Queues.{tail_bounded}

-- the reached vertices that are left are in the queue from place i on
pub record Clearing (n : ℕ) (queue : List ℕ) (tail : ℕ) (reached : List ℕ) (i : ℕ) : Type 0 where
  pub long : length reached ≡ n
  pub left : (v : ℕ) → v < n → get_or reached v 0 ≢ 0 → (j : ℕ) × (i ≤ j) × (j < tail) × (get_or queue j 0 ≡ v)

-- The same in the work space.

pub record ClearingIn (n : ℕ) (work₀ : List ℕ) (tail : ℕ) (work : List ℕ) (i : ℕ) : Type 0 where
  pub clearing : Clearing n (section 2 n work₀) tail (section 1 n work) i
  pub queue : section 2 n work ≡ section 2 n work₀
  pub beside : Beside n work₀ work

-- the next place is one of the queue's
pub clearing_place : {n : ℕ} {work₀ : List ℕ} {tail : ℕ} {work : List ℕ} {i : ℕ} → ClearableIn n work₀ tail → ClearingIn n work₀ tail work i → i < tail → Cell n i work
clearing_place p c l = record { small = p.small; long = c.beside.long ∙ p.long; within = omega (arith, tail_bounded p.queued) }
