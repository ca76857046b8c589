-- What a test answers by yes or no.
use Rattle.std.specs.Prelude.{◌≡◌, Bool, true, false}

-- a test's answer: P holds exactly if it is true
pub record Says (P : Type 0) (b : Bool) : Type 0 where
  pub holds : b ≡ true → P
  pub fails : b ≡ false → ¬ P
