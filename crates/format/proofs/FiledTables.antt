-- The tables that are filed, once 45 has passed: their lengths fit, and their starts cut the targets into stretches. So rows 1 and 4 of the
-- tables cannot come from a file, whichever rule turns the priorities.
use Prim.Native.Nat.{ℕ}
use mathlib.Core.Path.{◌≡◌, ap, sym, subst, ◌∙◌}
use mathlib.Core.List.{List}
use native.Mathlib.Omega.{arith}
use lib.ListN.{length}
use Rattle.game.specs.promise.Tables.{Tables, tables_of, Placed}
use Rattle.game.proofs.Sizes.{Fitting}
use Rattle.format.specs.promise.Format.{turned_of}
use Rattle.format.specs.promise.Filed.{rule_filed, owners_filed, priorities_filed, starts_filed, targets_filed, filed, tables_filed}
use Rattle.format.specs.parts.Tests.{Summed}
use Rattle.format.proofs.Lists.{owners_long, priorities_long, starts_long, targets_long, placed_filed}
use Rattle.format.proofs.Turning.{turned_long}

-- the tables, the priorities turned by a rule: by 0 they are as filed
abbrev pub turned_tables : List ℕ → ℕ → Tables
turned_tables file rule = tables_of (owners_filed file) (turned_of rule (priorities_filed file)) (starts_filed file) (targets_filed file)

-- so a file of rule 0 holds the tables of its game
pub as_filed : (file : List ℕ) → rule_filed file ≡ 0 → tables_filed file ≡ (filed file).tables
as_filed file e = ap (turned_tables file) e

module _ (file : List ℕ) (s : Summed file) where
  pub filed_fits : (rule : ℕ) → Fitting (turned_tables file rule)
  filed_fits rule =
      record {
        some = omega (arith, owners_long file, s.sized.some);
        few = omega (arith, owners_long file, s.sized.few);
        level = turned_long rule (priorities_filed file) ∙ priorities_long file ∙ sym (owners_long file);
        bounds = omega (arith, starts_long file, owners_long file);
        edges = omega (arith, targets_long file, s.sized.edges);
      }

  -- n being the length of the owners
  pub filed_placed : Placed (length (owners_filed file)) (starts_filed file) (targets_filed file)
  filed_placed = subst (λ (k : ℕ). Placed k (starts_filed file) (targets_filed file)) (sym (owners_long file)) (placed_filed file s)
