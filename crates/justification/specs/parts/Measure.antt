-- What falls in both steps: the sum over the vertices of c × (n+2)^priority.
use Rattle.std.specs.Prelude.{ℕ, zero, suc, ◌+◌, ◌*◌, ◌^◌, Bool, true, false, eqb}
use Rattle.player.specs.promise.Player.{parity_of}
use Rattle.game.specs.promise.Game.{Game}

-- the sum of f over the numbers below n
abbrev pub sum : ℕ → (ℕ → ℕ) → ℕ
sum zero f = 0
sum (suc n) f = f n + sum n f

-- c by the two tests 'settled' and 'marked with its own parity': n+2 for open, n+1 for settled with its own parity's mark, 0 for settled with the other
abbrev pub weight_by : ℕ → Bool → Bool → ℕ
weight_by n false own = n + 2
weight_by n true true = n + 1
weight_by n true false = 0

-- the sum over the vertices
unfoldable pub measure : Game → (mark settled : ℕ → ℕ) → ℕ
measure g mark settled =
    sum g.n (λ v. weight_by g.n (eqb (settled v) 1) (eqb (mark v) (parity_of (g.priority v))) * (g.n + 2) ^ g.priority v)
