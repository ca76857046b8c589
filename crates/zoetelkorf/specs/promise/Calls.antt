-- The promises of the five calls of the C interface, and below them an index of what they rest on.
use Rattle.std.specs.Prelude.{ℕ, List}
use Rattle.game.specs.promise.Tables.{Tables}
use Rattle.storage.specs.promise.Answer.{Answer}
use Rattle.storage.specs.promise.Lent.{Lent}
use Rattle.checker.specs.promise.Checking.{Checks}
use Rattle.solver.specs.promise.Solving.{Solves}
use Rattle.update.specs.promise.Updating.{Updates}
use Rattle.inputs.specs.promise.Inputs.{Input}
use Rattle.housefile.specs.promise.Reading.{Reads}
use Rattle.writer.specs.promise.Writing.{Writes}
use Rattle.told.specs.promise.Told.{Told}

-- `zoetelkorf_check`
abbrev pub ChecksBy : Tables → Answer → (work work' : List ℕ) (number value : ℕ) → Type 0
ChecksBy t a work work' = Told (Checks t a work work')

-- `zoetelkorf_solve`
abbrev pub SolvesBy : Tables → (before after : Lent) (number value : ℕ) → Type 0
SolvesBy t before after = Told (Solves t before after)

-- `zoetelkorf_update`
abbrev pub UpdatesBy : Input → (before after : Lent) (number value : ℕ) → Type 0
UpdatesBy i before after = Told (Updates i before after)

-- `zoetelkorf_read`
abbrev pub ReadsBy : (file : List ℕ) → (before after : Tables) (number value : ℕ) → Type 0
ReadsBy file before after = Told (Reads file before after)

-- `zoetelkorf_write`
abbrev pub WritesBy : Tables → (before after : List ℕ) (number value : ℕ) → Type 0
WritesBy t before after = Told (Writes t before after)

-- Index: the files of the folders `specs/promise` are what these promises rest on, read upwards:
--   player    Player      players, parity
--   refusal   Row         rows, the first that applies, what is said
--   refusal   Number      the number of each kind
--   game      Game        games, edges, what is asked of a game
--   game      Tables      how a game is stored, well-formed tables
--   game      Faults      1 to 7
--   game      Lent        8, how contracts speak of tables
--   storage   Answer      how an answer is stored
--   storage   Lent        the lent lists, 8 on them, how contracts speak of them
--   storage   Faults      11
--   winning   Walk, Cycle, Wins    what it is to win a vertex
--   winning   Answer      a solution, a right answer
--   winning   Faults      12 to 14
--   checker   Checking    `check`
--   solver    Solving     `solve`
--   amend     Amended     what an amendment reaches
--   inputs    Inputs      what is handed to an update, 9, the second game's rows
--   redo      Redone      which lines are decided anew, which are kept
--   update    Updating    `update`
--   format    Format      a file's bytes
--   format    Filed       what stands in a file
--   format    Faults      the rows that judge a file
--   decoding  Holding     what tables of the fixed sizes hold
--   housefile Faults      8 on the lent tables, behind the file's rows
--   housefile Reading     `read`
--   writer    Faults      46 on the lent output, behind the tables' rows
--   writer    Writing     `write`
--   told      Told        number and value of what is said
-- All other files under `specs`, in the folders `specs/parts`, say what internal functions ask of one another.
