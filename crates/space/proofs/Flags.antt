-- A store into the flags of the work space.
use Prim.Native.Nat.{ℕ, ◌*◌, ◌<◌}
use mathlib.Core.Path.{◌≡◌, ap, ◌∙◌}
use mathlib.Core.List.{List}
use native.Mathlib.Omega.{arith}
use lib.ListN.{length, get_or}
use lib.Seq.{get_or-set_same, get_or-set_other}
use Rattle.space.specs.parts.Work.{section, CellSet}
use Rattle.space.proofs.Sections.{section_long}
use Rattle.space.specs.parts.Work.{FlagSet}

pub flag_set : {n v x : ℕ} {work work' : List ℕ} → length work ≡ 4 * n → v < n → CellSet n 0 v x work work' → FlagSet n v x work work'
flag_set {n} {v} {x} {work} {work'} long l s =
    record {
      long = s.long;
      here = ap (λ (f : List ℕ). get_or f v 0) s.here ∙ get_or-set_same (section 0 n work) v x 0 (omega (arith, section_long n work long 0 (omega arith)));
      other = λ u ne. ap (λ (f : List ℕ). get_or f u 0) s.here ∙ get_or-set_other (section 0 n work) v u x 0 ne;
      reached = s.other 1 (omega arith) (omega arith);
      queue = s.other 2 (omega arith) (omega arith);
      links = s.other 3 (omega arith) (omega arith);
    }
