-- The two players, by number: 0 for Even, 1 for Odd. (docs/RULES.md, Games)
use Rattle.std.specs.Prelude.{ℕ, ◌-◌, ◌<◌, ◌%◌}

-- the numbers that name a player
abbrev pub IsPlayer : ℕ → Type 0
IsPlayer p = p < 2

-- the other player
abbrev pub opponent_of : ℕ → ℕ
opponent_of p = 1 - p

-- the player whose parity a priority has
abbrev pub parity_of : ℕ → ℕ
parity_of k = k % 2
