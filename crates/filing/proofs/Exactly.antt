-- No row refuses a file exactly if it is the file of well-formed tables and a rule; and those are what is filed in it.
use Prim.Native.Nat.{ℕ, ◌<◌, ◌≤◌}
use mathlib.Core.Path.{◌≡◌, refl, sym, subst, subst₂, subst₃}
use mathlib.Core.Logic.{◌↔◌}
use mathlib.Core.List.{List}
use lib.ListN.{get_or}
use Rattle.refusal.specs.promise.Row.{NoPlace, None}
use Rattle.refusal.proofs.Rows.{none_of}
use Rattle.game.specs.promise.Tables.{tables_of, WellFormed}
use Rattle.game.specs.promise.Faults.{Fault2, Fault3, Fault5, Fault6, Fault7, table_rows}
use Rattle.game.proofs.WellFormed.{none_applies}
use Rattle.format.specs.promise.Format.{Filing, file_of}
use Rattle.format.specs.promise.Filed.{filed}
use Rattle.format.specs.promise.Faults.{filed_rows, judged_rows}
use Rattle.format.proofs.HeadTests.{head_first_block}
use Rattle.filing.proofs.RightBlock.{right_of}
use Rattle.format.proofs.AllRows.{all_head, judged_none}
use Rattle.filing.proofs.Written.{vertices_are, rule_is, owners_are, priorities_are, targets_are, starts_are}
use Rattle.filing.proofs.Framed.{Framed, framed_head, framed_turn, counts_add}
use Rattle.filing.proofs.Accepted.{filed_well_formed}
use Rattle.filing.proofs.Taken.{taken_is_file}

-- what may be filed
pub record Fileable (f : Filing) : Type 0 where
  pub tables : WellFormed f.tables
  pub rule_low : f.rule ≤ 1

module _ (f : Filing) (fine : Fileable f) where
  -- what is filed is read back
  pub filed_back : filed (file_of f) ≡ f
  filed_back =
      let o = owners_are f in
      let p = priorities_are f fine.tables.level in
      let s = starts_are f fine.tables.placed in
      let t = targets_are f in
      let r = rule_is f in
      λ i. record { tables = tables_of (o i) (p i) (s i) (t i); rule = r i }

  values : None (filed_rows (file_of f))
  values =
      let rows = table_rows f.tables in
      let none = none_applies f.tables fine.tables in
      let n = sym (vertices_are f) in
      let s = sym (starts_are f fine.tables.placed) in
      let t = sym (targets_are f) in (
        (λ x h. h.wrong (counts_add f fine.tables.placed)),
        (
          subst (λ (l : List ℕ). NoPlace (Fault2 l)) (sym (owners_are f)) (none_of 2 rows none),
          (
            subst (λ (l : List ℕ). NoPlace (Fault3 l)) (sym (priorities_are f fine.tables.level)) (none_of 3 rows none),
            (
              subst₃ (λ (k : ℕ) (a b : List ℕ). NoPlace (Fault5 k a b)) n s t (none_of 5 rows none),
              (
                subst₂ (λ (k : ℕ) (l : List ℕ). NoPlace (Fault6 k l)) n t (none_of 6 rows none),
                (subst₃ (λ (k : ℕ) (a b : List ℕ). NoPlace (Fault7 k a b)) n s t (none_of 7 rows none), tt),
              ),
            ),
          ),
        ),
      )

  pub file_is_judged : None (judged_rows (file_of f))
  file_is_judged =
      let framed : Framed f = record { some = fine.tables.sound.some; few = fine.tables.sound.few; edges = fine.tables.edges; rule_low = fine.rule_low } in
      judged_none (file_of f) (framed_head f framed) (framed_turn f framed) values

-- no row refuses the bytes exactly if they are such a file
pub judged_exactly_if : (file : List ℕ) → ((i : ℕ) → get_or file i 0 < 256) → None (judged_rows file) ↔ ((f : Filing) × Fileable f × (file ≡ file_of f))
judged_exactly_if file bytes = (there, back)
  where
    there : None (judged_rows file) → (f : Filing) × Fileable f × (file ≡ file_of f)
    there none = (
      filed file,
      record {
        tables = filed_well_formed file bytes none;
        rule_low = (right_of file 0 (head_first_block file (all_head file none))).is_rule refl;
      },
      taken_is_file file bytes none,
    )

    back : (f : Filing) × Fileable f × (file ≡ file_of f) → None (judged_rows file)
    back (f, fine, e) = subst (λ (l : List ℕ). None (judged_rows l)) (sym e) (file_is_judged f fine)
