-- The bytes that name the players. (docs/RULES.md, Games)
use Rattle.std.specs.Prelude.{ℕ, ◌≡◌, Result, MatchResult}
use Rattle.player.specs.promise.Player.{IsPlayer}
use Rattle.player.specs.declared.Player.{Player}
use Rattle.player.specs.declared.Player.TheVariants.{Even, Odd}
use Rattle.player.specs.declared.Nobody.{Nobody}

-- the number of a player
abbrev pub bit_of : Player → ℕ
bit_of Even = 0
bit_of Odd = 1

-- what a byte names: the player of that number, or nobody
abbrev pub Names : ℕ → Result Player Nobody → Type 0
Names byte r = MatchResult r (λ player. bit_of player ≡ byte) (λ nobody. (nobody.0 ≡ byte) × ¬ IsPlayer byte)
