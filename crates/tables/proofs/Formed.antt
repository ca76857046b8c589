-- Tables that pass 1 to 7 are well formed, as priorities are bytes.
use Prim.Native.Nat.{ℕ, ◌<◌}
use lib.ListN.{get_or}
use Rattle.std.specs.Prelude.{Result, Ok, Err, OnOk}
use Rattle.refusal.specs.promise.Row.{Gives}
use Rattle.refusal.specs.promise.Number.{tested_said}
use Rattle.refusal.specs.declared.Refusal.{Refusal}
use Rattle.game.specs.promise.Tables.{Tables, WellFormed}
use Rattle.game.specs.promise.Faults.{table_rows}
use Rattle.game.proofs.WellFormed.{well_formed}

pub formed : (t : Tables) (q : Result Unit Refusal) → ((v : ℕ) → get_or t.priorities v 0 < 256) → Gives (table_rows t) (tested_said q) → OnOk q (WellFormed t)
formed t (Ok u) bytes none = well_formed t bytes none
formed t (Err r) bytes first = tt
