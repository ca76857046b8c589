-- Row 11: what may be wrong with how winners are stored, and at which vertices. (docs/RULES.md, Refusals)
use Rattle.std.specs.Prelude.{ℕ, ◌<◌, List}
use Rattle.player.specs.promise.Player.{IsPlayer}
use Rattle.storage.specs.promise.Answer.{mark_of}

-- 11, at a vertex: its mark is no player
pub record Fault11 (n : ℕ) (winners : List ℕ) (x : ℕ) : Type 0 where
  pub vertex : x < n
  pub strange : ¬ IsPlayer (mark_of winners x)
