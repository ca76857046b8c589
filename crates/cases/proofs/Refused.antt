-- The file of a loop with priority 255 under rule 1 is refused with 3 at 0, and the lent tables are as they were: nothing else is wrong with it.
use Prim.Native.Nat.{ℕ, zero, suc, ◌+◌, ◌<◌, ◌≤◌}
use mathlib.Core.Path.{◌≡◌, refl, sym, subst}
use mathlib.Core.Logic.{inl, inr}
use mathlib.Core.List.{List, [], ◌∷◌, ◌++◌}
use native.Mathlib.Omega.{arith}
use native.Mathlib.Nat.{not-suc-le-zero}
use lib.ListN.{get_or}
use Rattle.refusal.specs.promise.Row.{row, First, Lowest, NoPlace, refused}
use Rattle.refusal.proofs.Rows.{first_left, first_right, none_append}
use Rattle.game.specs.promise.Tables.{Tables, Placed}
use Rattle.game.specs.promise.Faults.{Fault2, Fault3}
use Rattle.game.specs.promise.Lent.{Fault8}
use Rattle.format.specs.promise.Format.{Filing}
use Rattle.format.specs.promise.Faults.{head_rows, turn_rows, filed_rows, judged_rows}
use Rattle.filing.proofs.Framed.{Framed, framed_head, framed_turn, counts_add}
use Rattle.filing.proofs.Written.{owners_are, priorities_are}
use Rattle.housefile.specs.promise.Faults.{table_sizes}
use Rattle.housefile.proofs.Determined.{determined}
use Rattle.cases.specs.promise.Games.{loop_of}
use Rattle.cases.specs.promise.Table.{Only}
use Rattle.cases.specs.promise.ShutOut.{Reading, Loaded, loaded, file255}

abbrev filing : Filing
filing = record { tables = loop_of 255; rule = 1 }

framed : Framed filing
framed = record { some = omega arith; few = omega arith; edges = omega arith; rule_low = omega arith }

placed : Placed 1 (0 ∷ 1 ∷ []) (0 ∷ [])
placed = record { bounds = refl; first = refl; onward = up; last = refl }
  where
    up : (v : ℕ) → v < 1 → get_or (0 ∷ 1 ∷ []) v 0 ≤ get_or (0 ∷ 1 ∷ []) (v + 1) 0
    up zero l = omega arith
    up (suc v) l = absurd (omega arith)

owned : NoPlace (Fault2 (1 ∷ []))
owned zero f = f.strange (omega arith)
owned (suc x) f = omega (arith, f.vertex)

top : Lowest (Fault3 (255 ∷ [])) 0
top = record { holds = record { vertex = omega arith; top = refl }; lower = λ y l f. not-suc-le-zero l }

values : First (filed_rows file255) 3 0
values =
    inr (
      (λ x h. h.wrong (counts_add filing placed)),
      inr (
        subst (λ (l : List ℕ). NoPlace (Fault2 l)) (sym (owners_are filing)) owned,
        inl (refl, subst (λ (l : List ℕ). Lowest (Fault3 l) 0) (sym (priorities_are filing refl)) top),
      ),
    )

pub read_255 : (lent : Tables) → Only (Reading file255 lent) (loaded (refused 3 0) lent)
read_255 lent = record { allowed = allowed; no_other = other }
  where
    judged : First (judged_rows file255) 3 0
    judged =
        first_right (head_rows file255 ++ turn_rows file255) (filed_rows file255) 3 0
        (none_append (head_rows file255) (turn_rows file255) (framed_head filing framed) (framed_turn filing framed)) values

    allowed : Reading file255 lent (loaded (refused 3 0) lent)
    allowed =
        record {
          first = first_left (judged_rows file255) (row 8 (Fault8 (table_sizes lent)) ∷ []) 3 0 judged;
          same = refl;
        }

    other : (o : Loaded) → Reading file255 lent o → o ≡ loaded (refused 3 0) lent
    other o p = let e = determined file255 lent o.left lent o.said (refused 3 0) p allowed in λ i. loaded (e.0 i) (e.1 i)
