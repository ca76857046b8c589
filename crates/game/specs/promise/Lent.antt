-- Row 8 on the lengths of what is lent, and how the clauses of a contract speak of lent tables. (docs/RULES.md, Memory)
use Rattle.std.specs.Prelude.{ℕ, ◌≡◌, List, [], ◌∷◌}
use Rattle.std.specs.Borrow.{MutBor}
use denote.Triple.Both.{Both}
use Rattle.game.specs.declared.tables.Tables as stored
use Rattle.game.specs.promise.Tables.{Tables, tables_of}

-- how long a lent list is, and how long it should be
pub record Sized : Type 0 where
  pub long : ℕ
  pub due : ℕ

-- each list is as long as it should be
abbrev pub Fit : List Sized → Type 0
Fit [] = Unit {0}
Fit (s ∷ l) = (s.long ≡ s.due) × Fit l

-- 8, at 0: some list is not
pub record Fault8 (l : List Sized) (x : ℕ) : Type 0 where
  pub place : x ≡ 0
  pub unfit : ¬ Fit l

-- such a pair, in this order
abbrev pub sized : (long due : ℕ) → Sized
sized long due = record { long = long; due = due }

-- the tables that a `requires` speaks of; behind four mutable references `tables_of` has them, with `.old`
abbrev pub asked : stored.Tables → Tables
asked t = tables_of t.owners.now t.priorities.now t.starts.now t.targets.now

-- the tables that an `ensures` speaks of: as they were at entry
abbrev pub lent : {A : Type 0} → Both stored.Tables A → Tables
lent t = asked t.entry

-- tables that a call has written: as they are at exit
abbrev pub written : {A B C D : Type 0} → Both A (MutBor (List ℕ)) → Both B (MutBor (List ℕ)) → Both C (MutBor (List ℕ)) → Both D (MutBor (List ℕ)) → Tables
written owners priorities starts targets = tables_of owners.exit.now priorities.exit.now starts.exit.now targets.exit.now
