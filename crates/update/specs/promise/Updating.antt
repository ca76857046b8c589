-- What the update promises: what it says, and what winners, moves and work space hold afterwards. (docs/RULES.md, Entry points)
use Rattle.std.specs.Prelude.{ℕ, ◌<◌, ◌≡◌, List, [], ◌∷◌, ◌++◌, Result, Ok, Err}
use Rattle.refusal.specs.promise.Row.{Row, Said, success, refused, None, First}
use Rattle.refusal.specs.promise.Number.{said_of}
use Rattle.refusal.specs.declared.Refusal.{Refusal}
use Rattle.game.specs.promise.Tables.{vertices}
use Rattle.storage.specs.promise.Lent.{Lent, Leaves}
use Rattle.checker.specs.promise.Checking.{IsRight, judge_rows}
use Rattle.solver.specs.promise.Solving.{Written}
use Rattle.amend.specs.promise.Amended.{CountOf}
use Rattle.inputs.specs.promise.Inputs.{Input, test_rows}
use Rattle.redo.specs.promise.Redone.{Redone, OldLine}

-- in numbers: the count, or the refusal
abbrev pub updated_said : Result ℕ Refusal → Said
updated_said (Ok count) = success (count ∷ [])
updated_said (Err r) = said_of r

-- and then 11 to 14 on the old answer
abbrev pub update_rows : Input → Lent → List Row
update_rows i l = test_rows i l ++ judge_rows i.first i.old

module _ (i : Input) (before after : Lent) where
  -- success: the old answer is right, a solution of the second game is written that keeps every line not reached, and the count is that of the others
  pub record Decided (values : List ℕ) : Type 0 where
    pub none : None (test_rows i before)
    pub right : IsRight i.first i.old
    pub count : ℕ
    pub value : values ≡ count ∷ []
    pub counted : CountOf (Redone i) (vertices i.first) count
    pub written : Written i.second before after
    pub kept : (v : ℕ) → v < vertices i.first → ¬ Redone i v → OldLine i.old after.answer v

  -- refusal: the first row that applies; the answer's lists are unchanged
  pub record Undecided (number place : ℕ) : Type 0 where
    pub first : First (update_rows i before) number place
    pub same : after.answer ≡ before.answer
    pub leaves : Leaves number before.work after.work

  -- the promise, by what is said
  abbrev pub Updates : Said → Type 0
  Updates (success values) = Decided values
  Updates (refused number place) = Undecided number place
