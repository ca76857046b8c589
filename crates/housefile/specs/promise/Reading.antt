-- What the reader promises: what it says and what the lent tables hold afterwards. (docs/RULES.md, Entry points)
use Rattle.std.specs.Prelude.{ℕ, ◌≡◌, List, [], ◌∷◌, Result, Ok, Err}
use Rattle.refusal.specs.promise.Row.{Said, success, refused, None, First}
use Rattle.refusal.specs.promise.Number.{said_of}
use Rattle.game.specs.promise.Tables.{Tables}
use Rattle.refusal.specs.declared.Refusal.{Refusal}
use Rattle.housefile.specs.declared.Header.{Header}
use Rattle.format.specs.promise.Filed.{vertices_filed, edges_filed, tables_filed}
use Rattle.decoding.specs.promise.Holding.{Holding}
use Rattle.housefile.specs.promise.Faults.{file_rows}

-- in numbers: n and the number of edges, or the refusal
abbrev pub read_said : Result Header Refusal → Said
read_said (Ok h) = success (h.vertices ∷ h.edges ∷ [])
read_said (Err r) = said_of r

module _ (file : List ℕ) (before after : Tables) where
  -- success: no row applies, and the tables hold those of the file's game
  pub record Taken (values : List ℕ) : Type 0 where
    pub none : None (file_rows file before)
    pub values_are : values ≡ vertices_filed file ∷ edges_filed file ∷ []
    pub holds : Holding (tables_filed file) after

  -- refusal: the first row that applies, and every table unchanged
  pub record Untaken (number place : ℕ) : Type 0 where
    pub first : First (file_rows file before) number place
    pub same : after ≡ before

  -- the promise, by what is said
  abbrev pub Reads : Said → Type 0
  Reads (success values) = Taken values
  Reads (refused number place) = Untaken number place
