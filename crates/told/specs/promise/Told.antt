-- What a C caller gets of what is said: the refusal's number, 0 on success, and a value. (docs/RULES.md, Entry points)
use Rattle.std.specs.Prelude.{ℕ, ◌+◌, ◌*◌, ◌≡◌, List, [], ◌∷◌}
use Rattle.refusal.specs.promise.Row.{Said, success, refused}

-- the result: the refusal's number, or 0
abbrev pub number_said : Said → ℕ
number_said (success values) = 0
number_said (refused number place) = number

-- the value of a success: 0 (check, solve), the count (update), the bytes (write), edges × 65,536 + n (read)
abbrev pub value_of : List ℕ → ℕ
value_of [] = 0
value_of (a ∷ []) = a
value_of (a ∷ b ∷ l) = b * 65536 + a

-- the value: that, or the place of a refusal
abbrev pub value_said : Said → ℕ
value_said (success values) = value_of values
value_said (refused number place) = place

-- number and value are those of something said that keeps the promise P
pub record Told (P : Said → Type 0) (number value : ℕ) : Type 0 where
  pub said : Said
  pub promise : P said
  pub number_is : number ≡ number_said said
  pub value_is : value ≡ value_said said
