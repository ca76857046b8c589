-- A is written into an output of three blocks, and of no other length.
use Prim.Native.Nat.{ℕ}
use mathlib.Core.Path.{◌≡◌, refl, sym, ap, ◌∙◌}
use mathlib.Core.Logic.{◌≢◌, inl}
use mathlib.Core.List.{List, [], ◌∷◌}
use native.Mathlib.Nat.{not-suc-le-zero}
use lib.ListN.{length}
use Rattle.refusal.specs.promise.Row.{success, refused, row, Lowest}
use Rattle.refusal.proofs.Rows.{first_right}
use Rattle.game.specs.promise.Tables.{WellFormed}
use Rattle.game.specs.promise.Faults.{table_rows}
use Rattle.game.proofs.WellFormed.{none_applies}
use Rattle.format.specs.promise.Format.{file_of, plain}
use Rattle.format.proofs.FileOf.{file_long}
use Rattle.writer.specs.promise.Faults.{Fault46}
use Rattle.writer.proofs.Determined.{determined}
use Rattle.writer.proofs.Exactly.{writable}
use Rattle.cases.specs.promise.Games.{A}
use Rattle.cases.specs.promise.Table.{answer_a, Only}
use Rattle.cases.specs.promise.ShutOut.{Wrote, wrote, Writing}
use Rattle.cases.proofs.Answers.{answered}

formed : WellFormed A
formed = (answered A answer_a tt).formed

three : length (file_of (plain A)) ≡ 1536
three = file_long (plain A)

module _ (output : List ℕ) where
  -- there is no other outcome than one that the promise allows
  only : (a : Wrote) → Writing A output a → Only (Writing A output) a
  only a allowed =
      record {
        allowed = allowed;
        no_other = λ o p. let e = determined A output o.left a.left o.said a.said p allowed in λ i. wrote (e.0 i) (e.1 i);
      }

  pub write_A : length output ≡ 1536 → Only (Writing A output) (wrote (success (1536 ∷ [])) (file_of (plain A)))
  write_A long = only _ (record { none = writable A output formed (long ∙ sym three); values_are = ap (λ (n : ℕ). n ∷ []) (sym three); file_is = refl })

  pub write_A_46 : length output ≢ 1536 → Only (Writing A output) (wrote (refused 46 0) output)
  write_A_46 other = only _ (record { first = first_right (table_rows A) (row 46 (Fault46 A output) ∷ []) 46 0 (none_applies A formed) (inl (refl, here)); same = refl })
    where
      here : Lowest (Fault46 A output) 0
      here = record { holds = record { place = refl; wrong = λ e. other (e ∙ three) }; lower = λ y l f. not-suc-le-zero l }
