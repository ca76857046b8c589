-- The priorities are set as levels, one after the other.
use Prim.Native.Nat.{ℕ, ◌<◌, ◌≤◌}
use mathlib.Core.Path.{◌≡◌, ◌∙◌}
use mathlib.Core.Logic.{◌≢◌}
use mathlib.Core.List.{List}
use native.Mathlib.Omega.{arith}
use lib.ListN.{length, get_or}
use lib.Seq.{ext_get_or}
use Rattle.space.specs.parts.Work.{section}
use Rattle.space.proofs.Sections.{section_long}
use Rattle.cycles.specs.parts.Levels.{LevelsAsked, PrioritiesSet}

-- the first v priorities are in place, and the other sections are as before
pub record Levelling (priorities before work : List ℕ) (v : ℕ) : Type 0 where
  pub long : length work ≡ length before
  pub done : (u : ℕ) → u < v → get_or (section 0 (length priorities) work) u 0 ≡ get_or priorities u 0
  pub other : (j : ℕ) → j < 4 → j ≢ 0 → section j (length priorities) work ≡ section j (length priorities) before

-- all are in place
pub levels_all : {priorities before work : List ℕ} {v : ℕ} → LevelsAsked priorities before → Levelling priorities before work v → length priorities ≤ v → PrioritiesSet priorities before work
levels_all {priorities} {work = work} p s l =
    let e : length (section 0 (length priorities) work) ≡ length priorities = section_long (length priorities) work (s.long ∙ p.long) 0 (omega arith) in
    record {
      long = s.long;
      levels = ext_get_or 0 (section 0 (length priorities) work) priorities e (λ u h. s.done u (omega arith));
      other = s.other;
    }
