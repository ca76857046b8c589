-- The number of every kind of refusal. (docs/RULES.md, Refusals)
use Rattle.std.specs.Prelude.{ℕ, ◌+◌, [], Result, Ok, Err}
use Rattle.refusal.specs.promise.Row.{Said, success, refused}
use Rattle.refusal.specs.declared.TableFault.{TableFault}
use Rattle.refusal.specs.declared.TableFault.TheVariants as table
use Rattle.refusal.specs.declared.AnswerFault.{AnswerFault}
use Rattle.refusal.specs.declared.AnswerFault.TheVariants as answer
use Rattle.refusal.specs.declared.FileFault.{FileFault}
use Rattle.refusal.specs.declared.FileFault.TheVariants as file
use Rattle.refusal.specs.declared.Kind.{Kind}
use Rattle.refusal.specs.declared.Kind.TheVariants.{Game, Buffer, Vertices, Claim, Second, Filed}
use Rattle.refusal.specs.declared.Refusal.{Refusal}

-- a game's tables
abbrev pub table_number : TableFault → ℕ
table_number table.Sizes = 1
table_number table.Owner = 2
table_number table.Priority = 3
table_number table.Start = 4
table_number table.Stuck = 5
table_number table.Target = 6
table_number table.Order = 7

-- an answer
abbrev pub answer_number : AnswerFault → ℕ
answer_number answer.Mark = 11
answer_number answer.Move = 12
answer_number answer.Escape = 13
answer_number answer.Cycle = 14

-- a file, or the output lent for one
abbrev pub file_number : FileFault → ℕ
file_number file.Length = 41
file_number file.Check = 42
file_number file.Kind = 43
file_number file.Bytes = 44
file_number file.Edges = 45
file_number file.Output = 46

-- any kind; the second game's faults are the first's, 20 higher
abbrev pub number_of : Kind → ℕ
number_of (Game f) = table_number f
number_of Buffer = 8
number_of Vertices = 9
number_of (Claim f) = answer_number f
number_of (Second f) = 20 + table_number f
number_of (Filed f) = file_number f

-- what a refusal says: its number and place
abbrev pub said_of : Refusal → Said
said_of r = refused (number_of r.kind) r.place

-- what tests say, and entry points that give no value: a success, or the refusal
abbrev pub tested_said : Result Unit Refusal → Said
tested_said (Ok u) = success []
tested_said (Err r) = said_of r
