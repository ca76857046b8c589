-- What the writer promises: what it says and what the lent output holds afterwards. (docs/RULES.md, Entry points)
use Rattle.std.specs.Prelude.{ℕ, ◌≡◌, List, [], ◌∷◌, length, Result, Ok, Err}
use Rattle.refusal.specs.promise.Row.{Said, success, refused, None, First}
use Rattle.refusal.specs.promise.Number.{said_of}
use Rattle.refusal.specs.declared.Refusal.{Refusal}
use Rattle.game.specs.promise.Tables.{Tables}
use Rattle.format.specs.promise.Format.{file_of, plain}
use Rattle.writer.specs.promise.Faults.{write_rows}

-- in numbers: the file's length, or the refusal
abbrev pub written_said : Result ℕ Refusal → Said
written_said (Ok bytes) = success (bytes ∷ [])
written_said (Err r) = said_of r

module _ (t : Tables) (before after : List ℕ) where
  -- success: no row applies, and the output is the file of the tables by rule 0
  pub record Filed (values : List ℕ) : Type 0 where
    pub none : None (write_rows t before)
    pub values_are : values ≡ length (file_of (plain t)) ∷ []
    pub file_is : after ≡ file_of (plain t)

  -- refusal: the first row that applies, and the output unchanged
  pub record Unfiled (number place : ℕ) : Type 0 where
    pub first : First (write_rows t before) number place
    pub same : after ≡ before

  -- the promise, by what is said
  abbrev pub Writes : Said → Type 0
  Writes (success values) = Filed values
  Writes (refused number place) = Unfiled number place
