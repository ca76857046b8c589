-- Making the unreached vertices firm one by one.
use Prim.Native.Nat.{ℕ, ◌+◌, ◌<◌}
use mathlib.Core.Path.{◌≡◌, ap, subst, ◌∙◌}
use mathlib.Core.Logic.{◌≢◌}
use mathlib.Core.List.{List}
use native.Mathlib.Omega.{arith}
use native.Mathlib.Decide.{ℕ_discrete}
use lib.ListN.{get_or}
use Rattle.space.specs.parts.Work.{section}
use Rattle.space.specs.declared.desk.Desk.{Desk}
use Rattle.space.specs.parts.Desk.{Laid, put_level}
use Rattle.levels.specs.parts.Levels.{level_of, LevelSet, LevelsOnly}
use Rattle.levels.proofs.Floors.{level_set, level_only, levels_more}
use Rattle.restart.specs.parts.Restarting.{Firmable}

-- the unreached vertices below v have a level above all priorities, and only levels have changed
pub record Firming (n : ℕ) (d₀ : Desk) (work : List ℕ) (d : Desk) (v : ℕ) : Type 0 where
  pub levels_only : LevelsOnly d₀ d
  pub firm : (u : ℕ) → u < n → u < v → get_or (section 1 n work) u 0 ≡ 0 → level_of d.levels u ≡ 256

module _ {n : ℕ} {d₀ : Desk} {work : List ℕ} (p : Firmable n d₀ work) where
  module _ {d : Desk} {v : ℕ} (s : Firming n d₀ work d v) where
    -- and a level
    pub firming_room : v < n → Laid d × (v < 2048)
    firming_room l = (s.levels_only.laid, omega (arith, p.small))

    -- v is not reached
    pub firming_more : {d' : Desk} → v < n → d' ≡ put_level v 256 d → Firming n d₀ work d' (v + 1)
    firming_more {d'} l is =
        record {
          levels_only = levels_more s.levels_only (level_only v 256 is s.levels_only.laid);
          firm = λ u h less z. elim (ℕ_discrete u v) [ yes e ↦ ap (level_of d'.levels) e ∙ x.here | no ne ↦ x.other u ne ∙ s.firm u h (omega arith) z ];
        }
      where
        x : LevelSet d.levels d'.levels v 256
        x = level_set v 256 is s.levels_only.laid (firming_room l).1

module _ {n : ℕ} {d₀ : Desk} {work : List ℕ} {d : Desk} {v : ℕ} (s : Firming n d₀ work d v) where
  -- v is reached
  pub firming_skip : {x : ℕ} → x ≡ get_or (section 1 n work) v 0 → x ≢ 0 → Firming n d₀ work d (v + 1)
  firming_skip is o =
      record {
        levels_only = s.levels_only;
        firm = λ u h less z. elim (ℕ_discrete u v) [ yes e ↦ absurd (o (is ∙ subst (λ (k : ℕ). get_or (section 1 n work) k 0 ≡ 0) e z)) | no ne ↦ s.firm u h (omega arith) z ];
      }
