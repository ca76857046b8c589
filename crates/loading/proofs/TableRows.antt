-- The test of the filed tables says what the file's rows on its values say: rows 1 and 4 cannot apply to them.
use Prim.Native.Nat.{ℕ}
use mathlib.Core.Path.{subst}
use mathlib.Core.Logic.{inl, inr}
use mathlib.Core.List.{List, [], ◌∷◌, ◌++◌}
use lib.ListN.{length}
use Rattle.refusal.specs.promise.Row.{Row, row, NoPlace, First, Gives}
use Rattle.refusal.proofs.Rows.{later}
use Rattle.std.specs.Prelude.{Result, Ok, Err}
use Rattle.refusal.specs.promise.Number.{number_of, tested_said}
use Rattle.refusal.specs.declared.Refusal.{Refusal}
use Rattle.game.specs.promise.Faults.{Fault1, Fault2, Fault3, Fault4, Fault5, Fault6, Fault7, table_rows}
use Rattle.game.proofs.Sizes.{none_of_fitting}
use Rattle.game.proofs.Starts.{none_of_placed}
use Rattle.format.specs.promise.Filed.{vertices_filed, owners_filed, priorities_filed, starts_filed, targets_filed, filed}
use Rattle.format.specs.promise.Faults.{Fault45, filed_rows}
use Rattle.format.specs.parts.Tests.{Summed}
use Rattle.format.proofs.Lists.{owners_long}
use Rattle.format.proofs.FiledTables.{filed_fits, filed_placed}

-- a row that applies nowhere is left out
first_without : (rows : List Row) (r : Row) (more : List Row) (k x : ℕ) → NoPlace r.applies → First (rows ++ (r ∷ more)) k x → First (rows ++ more) k x
first_without [] r more k x none (inl here) = absurd (none x here.1.holds)
first_without [] r more k x none (inr later) = later.1
first_without (q ∷ rows) r more k x none (inl here) = inl here
first_without (q ∷ rows) r more k x none (inr later) = inr (later.0, first_without rows r more k x none later.1)

-- the rows on the values, n being the number of vertices
abbrev value_rows : List ℕ → ℕ → List Row
value_rows file n =
    row 2 (Fault2 (owners_filed file)) ∷
    row 3 (Fault3 (priorities_filed file)) ∷
    row 5 (Fault5 n (starts_filed file) (targets_filed file)) ∷
    row 6 (Fault6 n (targets_filed file)) ∷
    row 7 (Fault7 n (starts_filed file) (targets_filed file)) ∷ []

module _ (file : List ℕ) (s : Summed file) where
  none1 : NoPlace (Fault1 (filed file).tables)
  none1 = none_of_fitting (filed file).tables (filed_fits file s 0)

  none4 : NoPlace (Fault4 (starts_filed file) (targets_filed file))
  none4 = none_of_placed _ _ _ (filed_placed file s)

  without : (t : Result Unit Refusal) → Gives (table_rows (filed file).tables) (tested_said t) → Gives (value_rows file (length (owners_filed file))) (tested_said t)
  without (Ok u) g = (g.1.0, (g.1.1.0, g.1.1.1.1))
  without (Err r) g =
      let n = length (owners_filed file) in
      let before = row 2 (Fault2 (owners_filed file)) ∷ row 3 (Fault3 (priorities_filed file)) ∷ [] in
      let after = row 5 (Fault5 n (starts_filed file) (targets_filed file)) ∷ row 6 (Fault6 n (targets_filed file)) ∷ row 7 (Fault7 n (starts_filed file) (targets_filed file)) ∷ [] in
      let r4 = row 4 (Fault4 (starts_filed file) (targets_filed file)) in
      first_without before r4 after (number_of r.kind) r.place none4 (first_without [] (row 1 (Fault1 (filed file).tables)) (before ++ (r4 ∷ after)) (number_of r.kind) r.place none1 g)

  -- 45 has passed too
  pub filed_said : (t : Result Unit Refusal) → Gives (table_rows (filed file).tables) (tested_said t) → Gives (filed_rows file) (tested_said t)
  filed_said t g =
      later (row 45 (Fault45 file) ∷ []) (value_rows file (vertices_filed file)) t ((λ x f. f.wrong s.sum), tt) (subst (λ (n : ℕ). Gives (value_rows file n) (tested_said t)) (owners_long file) (without t g))
