-- Every vertex has a winner, and one only.
use Prim.Native.Nat.{ℕ, ◌<◌}
use mathlib.Core.Path.{◌≡◌}
use Rattle.player.specs.promise.Player.{IsPlayer}
use Rattle.game.specs.promise.Game.{Game, Sound, Moving}
use Rattle.winning.specs.promise.Wins.{Wins}
use Rattle.winning.proofs.Accepted.{accepted_right}
use Rattle.winning.proofs.Won.{accepted_won}
use Rattle.winning.proofs.NobodyTwice.{same_winner}
use Rattle.justification.proofs.Determined.{answer_exists}

-- the one player who wins v
pub record Winner (g : Game) (v : ℕ) : Type 0 where
  pub winner : ℕ
  pub player : IsPlayer winner
  pub wins : Wins g winner v
  pub only : (p : ℕ) → IsPlayer p → Wins g p v → p ≡ winner

pub each_won : (g : Game) → Sound g → Moving g → (v : ℕ) → v < g.n → Winner g v
each_won g sound moving v l =
    let a = answer_exists g sound.owned in
    let won = accepted_won g a.0 a.1 sound moving a.2 v l in
    let player = (accepted_right g a.0 a.1 a.2).form.winner v l in
    record {
      winner = a.0 v;
      player = player;
      wins = won;
      only = λ p hp h. same_winner g sound moving v p (a.0 v) l hp player h won;
    }
