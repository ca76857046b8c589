-- What a test of one row promises, and the refusal for what it finds.
use Rattle.std.specs.Prelude.{ℕ, ◌<◌, ◌≡◌, Option, Some, None, Result, Ok, Err}
use Rattle.refusal.specs.promise.Row.{Lowest, NoPlace}
use Rattle.refusal.specs.declared.Refusal.{Refusal}
use Rattle.refusal.specs.declared.Kind.{Kind}

-- the lowest place at which P holds, or nothing if it holds nowhere
abbrev pub Finds : (ℕ → Type 0) → Option ℕ → Type 0
Finds P (Some x) = Lowest P x
Finds P None = NoPlace P

-- the refusal for what is found, if anything is
abbrev pub refused_at : Option ℕ → Kind → Result Unit Refusal
refused_at (Some x) k = Err (record { kind = k; place = x })
refused_at None k = Ok tt

-- r is that
pub record Refuses (found : Option ℕ) (kind : Kind) (r : Result Unit Refusal) : Type 0 where
  pub is : r ≡ refused_at found kind

-- a scan goes over the places from 0 on: it has passed those below i, and P holds at none of them
pub record Scanned (P : ℕ → Type 0) (i : ℕ) : Type 0 where
  pub clear : (x : ℕ) → x < i → P x → ⊥
