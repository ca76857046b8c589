-- What handing on a refusal gives.
use Rattle.std.specs.Prelude.{ℕ, ◌≡◌}
use Rattle.refusal.specs.promise.Number.{said_of}
use Rattle.refusal.specs.declared.Refusal.{Refusal}
use Rattle.told.specs.promise.Told.{number_said, value_said}

-- a refusal's number and place
pub record Gave (r : Refusal) (number value : ℕ) : Type 0 where
  pub number_is : number ≡ number_said (said_of r)
  pub value_is : value ≡ value_said (said_of r)
