-- The rows up to 45 and those behind them: what is said of the first part is said of all, and once it has passed the counts add up.
use Prim.Native.Nat.{ℕ}
use mathlib.Core.Path.{◌≡◌, sym, subst}
use mathlib.Core.Logic.{inl, inr}
use mathlib.Core.List.{List, [], ◌∷◌, ◌++◌}
use Rattle.std.specs.Prelude.{Result, Err}
use Rattle.refusal.specs.promise.Row.{Row, row, None, First, Gives}
use Rattle.refusal.specs.promise.Number.{number_of, tested_said}
use Rattle.refusal.specs.declared.Refusal.{Refusal}
use Rattle.refusal.proofs.Rows.{first_not_none, later, none_left, none_right}
use Rattle.game.specs.promise.Tables.{Tables}
use Rattle.format.specs.promise.Faults.{Fault45, head_rows, turn_rows, filed_rows, judged_rows}
use Rattle.format.specs.parts.Tests.{Summed}
use Rattle.format.proofs.HeadTests.{head_sized}
use Rattle.format.proofs.AllRows.{summed}
use Rattle.loading.specs.parts.Loading.{frame_rows, Loads}

-- a refusal by the last of some rows stays the first, whatever rows follow
first_followed : (rows : List Row) (r : Row) (more : List Row) (k x : ℕ) → First (rows ++ (r ∷ [])) k x → First (rows ++ (r ∷ more)) k x
first_followed [] r more k x (inl here) = inl here
first_followed [] r more k x (inr later) = absurd later.1
first_followed (q ∷ rows) r more k x (inl here) = inl here
first_followed (q ∷ rows) r more k x (inr later) = inr (later.0, first_followed rows r more k x later.1)

-- nothing is promised of the tables where a row applies
pub loads_refused : (rows : List Row) (file : List ℕ) (u : Tables) {t q : Result Unit Refusal} {r : Refusal} → Gives rows (tested_said t) → t ≡ Err r → q ≡ Err r → Loads rows file u q
loads_refused rows file u {r = r} g e d =
    let f : First rows (number_of r.kind) r.place = subst (λ (q : Result Unit Refusal). Gives rows (tested_said q)) e g in
    record {
      said = subst (λ (q : Result Unit Refusal). Gives rows (tested_said q)) (sym d) f;
      holds = λ none. absurd (first_not_none rows (number_of r.kind) r.place f none);
    }

module _ (file : List ℕ) where
  pub frame_first : {t : Result Unit Refusal} {r : Refusal} → Gives (frame_rows file) (tested_said t) → t ≡ Err r → Gives (judged_rows file) (tested_said t)
  frame_first {r = r} g e =
      let f : First (frame_rows file) (number_of r.kind) r.place = subst (λ (q : Result Unit Refusal). Gives (frame_rows file) (tested_said q)) e g in
      subst (λ (q : Result Unit Refusal). Gives (judged_rows file) (tested_said q)) (sym e) (first_followed (head_rows file ++ turn_rows file) (row 45 (Fault45 file)) _ (number_of r.kind) r.place f)

  module _ (none : None (frame_rows file)) where
    before : None (head_rows file ++ turn_rows file)
    before = none_left (head_rows file ++ turn_rows file) (row 45 (Fault45 file) ∷ []) none

    pub frame_summed : Summed file
    frame_summed =
        summed file (head_sized file (none_left (head_rows file) (turn_rows file) before)) (none_right (head_rows file ++ turn_rows file) (row 45 (Fault45 file) ∷ []) none).0

    -- 45 among the rows behind stays where it is: it has passed
    pub frame_said : (t : Result Unit Refusal) → Gives (filed_rows file) (tested_said t) → Gives (judged_rows file) (tested_said t)
    frame_said t g = later (head_rows file ++ turn_rows file) (filed_rows file) t before g
