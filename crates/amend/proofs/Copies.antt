-- What the closure has reached, as bytes.
use Prim.Native.Nat.{ℕ}
use mathlib.Core.Path.{◌∙◌}
use mathlib.Core.List.{List}
use native.Mathlib.Omega.{arith}
use Rattle.space.specs.parts.Work.{section}
use Rattle.amend.specs.parts.Marking.{Copied, Flags}

-- flags that are copied are flags of the same
pub copied_flags : {P : ℕ → Type 0} {n : ℕ} {work reached : List ℕ} → Copied n work reached n → Flags P n (section 1 n work) → Flags P n reached
copied_flags c f =
    record {
      flag = λ v l. omega (arith, c.same v l, f.flag v l);
      holds = λ v l e. f.holds v l (omega (arith, c.same v l));
      marked = λ v l p. c.same v l ∙ f.marked v l p;
    }
