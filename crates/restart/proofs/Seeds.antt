-- Seeding the open vertices one by one.
use Prim.Native.Nat.{ℕ, ◌<◌}
use mathlib.Core.Path.{◌≡◌}
use mathlib.Core.Logic.{◌≢◌}
use mathlib.Core.List.{List}
use native.Mathlib.Omega.{arith}
use native.Mathlib.Nat.{not-suc-le-zero}
use lib.ListN.{get_or}
use Rattle.reach.specs.parts.Closure.{Queued}
use Rattle.space.specs.parts.Work.{section, Beside}
use Rattle.space.proofs.Sections.{section_long, beside_none}
use Rattle.reach.proofs.Queues.{fresh_in}
use Rattle.restart.specs.parts.Restarting.{OpenSeedable}

-- the open vertices below v are reached, and no others
pub record Seeding (n : ℕ) (work₀ work : List ℕ) (tail v : ℕ) : Type 0 where
  pub queued : Queued n (section 1 n work) (section 2 n work) tail
  pub is_reached : (u : ℕ) → u < n → u < v → get_or (section 0 n work₀) u 0 ≢ 0 → get_or (section 1 n work) u 0 ≡ 1
  pub only : (u : ℕ) → u < n → get_or (section 1 n work) u 0 ≡ 1 → (u < v) × (get_or (section 0 n work₀) u 0 ≢ 0)
  pub beside : Beside n work₀ work

pub seeding_none : {n : ℕ} {work₀ : List ℕ} → OpenSeedable n work₀ → Seeding n work₀ work₀ 0 0
seeding_none {n} {work₀} p =
    record {
      queued = fresh_in n work₀ p.long p.unreached;
      is_reached = λ u l h. absurd (not-suc-le-zero h);
      only = λ u l one. absurd (omega (arith, clean u l));
      beside = beside_none;
    }
  where
    clean : (u : ℕ) → u < n → get_or (section 1 n work₀) u 0 ≡ 0
    clean u l = p.unreached.all u (omega (arith, section_long n work₀ p.long 1 (omega arith)))
