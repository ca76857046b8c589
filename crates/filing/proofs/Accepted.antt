-- A file that no row refuses holds tables that pass the test of the tables, as they are filed and as they are turned.
use Prim.Native.Nat.{ℕ, ◌+◌, ◌<◌, ◌≤◌}
use mathlib.Core.Path.{◌≡◌, sym, subst}
use mathlib.Core.List.{List}
use native.Mathlib.Omega.{arith}
use native.Mathlib.Decide.{ℕ_discrete, dec_lt}
use lib.ListN.{length, get_or}
use Rattle.refusal.specs.promise.Row.{NoPlace, None}
use Rattle.refusal.proofs.Rows.{none_of}
use Rattle.game.specs.promise.Tables.{WellFormed}
use Rattle.game.specs.promise.Faults.{Fault5, Fault6, Fault7, table_rows}
use Rattle.game.proofs.Sizes.{none_of_fitting}
use Rattle.game.proofs.Starts.{none_of_placed}
use Rattle.game.proofs.WellFormed.{well_formed}
use Rattle.format.specs.promise.Format.{turned_of, highest_of}
use Rattle.format.specs.promise.Filed.{byte_at, vertices_filed, rule_filed, vertex_place, priorities_filed, starts_filed, targets_filed, filed, tables_filed}
use Rattle.format.specs.promise.Faults.{filed_rows, judged_rows}
use Rattle.format.proofs.AllRows.{all_filed, all_summed}
use Rattle.format.proofs.Lists.{owners_long, priorities_long, priority_at}
use Rattle.format.proofs.FiledTables.{turned_tables, filed_fits, filed_placed}
use Rattle.format.proofs.Turning.{highest_below, turned_long, turned_plain, turned_over, turned_past}

-- turned priorities stay below a bound that all priorities keep
turned_low : (rule : ℕ) (l : List ℕ) (b : ℕ) → ((k : ℕ) → k < length l → get_or l k 0 ≤ b) → (v : ℕ) → v < length l → get_or (turned_of rule l) v 0 ≤ b
turned_low rule l b all v m = at (ℕ_discrete rule 0)
  where
    at : Dec (rule ≡ 0) → get_or (turned_of rule l) v 0 ≤ b
    at (yes e) = let h : get_or l v 0 ≤ b = all v m in omega (arith, turned_plain rule l v e)
    at (no h) = let k : highest_of l ≤ b = highest_below l b all in omega (arith, turned_over rule l v h m)

module _ (file : List ℕ) (bytes : (i : ℕ) → get_or file i 0 < 256) (none : None (judged_rows file)) where
  values : None (filed_rows file)
  values = all_filed file none

  -- a filed priority is below 255, and so is a turned one
  ranked : (v : ℕ) → v < length (priorities_filed file) → get_or (priorities_filed file) v 0 ≤ 254
  ranked v l =
      let m : v < vertices_filed file = omega (arith, priorities_long file) in
      let b : byte_at file (vertex_place file v + 1) < 256 = bytes (vertex_place file v + 1) in
      let e : get_or (priorities_filed file) v 0 ≡ byte_at file (vertex_place file v + 1) = priority_at file v m in
      elim (ℕ_discrete (get_or (priorities_filed file) v 0) 255) [ yes q ↦ absurd (none_of 3 (filed_rows file) values v (record { vertex = l; top = q })) | no h ↦ omega arith ]

  -- the same under either rule: as they are filed (rule 0), and as they are read
  module _ (rule : ℕ) where
    abbrev turned : List ℕ
    turned = turned_of rule (priorities_filed file)

    turned_ranked : (v : ℕ) → v < length turned → get_or turned v 0 ≤ 254
    turned_ranked v l = turned_low rule (priorities_filed file) 254 ranked v (subst (λ (k : ℕ). v < k) (turned_long rule (priorities_filed file)) l)

    turned_byte : (v : ℕ) → get_or turned v 0 < 256
    turned_byte v = at (dec_lt v (length turned))
      where
        at : Dec (v < length turned) → get_or turned v 0 < 256
        at (yes l) = omega (arith, turned_ranked v l)
        at (no h) =
            let m : length (priorities_filed file) ≤ v = omega (arith, turned_long rule (priorities_filed file)) in
            omega (arith, turned_past rule (priorities_filed file) v m)

    -- the rows 1 to 7 of the tables: 2, 5, 6 and 7 are the file's own, n being the length of the owners
    table_rows_lem : None (table_rows (turned_tables file rule))
    table_rows_lem =
        let own = sym (owners_long file) in
        let rows = filed_rows file in
        let sum = all_summed file none in (
          none_of_fitting (turned_tables file rule) (filed_fits file sum rule),
          (
            none_of 2 rows values,
            (
              (λ x f. omega (arith, turned_ranked x f.vertex, f.top)),
              (
                none_of_placed _ _ _ (filed_placed file sum),
                (
                  subst (λ (k : ℕ). NoPlace (Fault5 k (starts_filed file) (targets_filed file))) own (none_of 5 rows values),
                  (
                    subst (λ (k : ℕ). NoPlace (Fault6 k (targets_filed file))) own (none_of 6 rows values),
                    (subst (λ (k : ℕ). NoPlace (Fault7 k (starts_filed file) (targets_filed file))) own (none_of 7 rows values), tt),
                  ),
                ),
              ),
            ),
          ),
        )

    well : WellFormed (turned_tables file rule)
    well = well_formed (turned_tables file rule) turned_byte table_rows_lem

  pub judged_well_formed : WellFormed (tables_filed file)
  judged_well_formed = well (rule_filed file)

  pub filed_well_formed : WellFormed (filed file).tables
  filed_well_formed = well 0
