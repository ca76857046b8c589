-- Laws of players: the opponent's opponent is the player himself, nobody is his own opponent, and opponents and parities are players; a player is
-- known by his number, and which bytes name one.
use Prim.Native.Nat.{ℕ}
use mathlib.Core.Path.{◌≡◌, refl, subst}
use mathlib.Core.Logic.{◌≢◌}
use mathlib.Core.Bool.{true, false}
use native.Mathlib.Omega.{arith}
use Rattle.std.specs.Prelude.{Result, Ok, Err}
use Rattle.std.specs.Result.{is_err}
use Rattle.player.specs.promise.Player.{IsPlayer, opponent_of, parity_of}
use Rattle.player.specs.promise.Named.{bit_of, Names}
use Rattle.player.specs.declared.Player.{Player}
use Rattle.player.specs.declared.Player.TheVariants.{Even, Odd}
use Rattle.player.specs.declared.Nobody.{Nobody}

pub opponent_involution : (p : ℕ) → IsPlayer p → opponent_of (opponent_of p) ≡ p
opponent_involution p l = omega arith

pub opponent_other : (p : ℕ) → IsPlayer p → opponent_of p ≢ p
opponent_other p l = omega arith

pub opponent_player : (p : ℕ) → IsPlayer (opponent_of p)
opponent_player p = omega arith

pub parity_player : (k : ℕ) → IsPlayer (parity_of k)
parity_player k = omega arith

pub bit_player : (p : Player) → IsPlayer (bit_of p)
bit_player Even = omega arith
bit_player Odd = omega arith

pub bit_injective : (p q : Player) → bit_of p ≡ bit_of q → p ≡ q
bit_injective Even Even e = refl
bit_injective Even Odd e = absurd (omega (arith, e))
bit_injective Odd Even e = absurd (omega (arith, e))
bit_injective Odd Odd e = refl

-- whether a byte names a player
pub names_nobody : (byte : ℕ) (r : Result Player Nobody) → Names byte r → is_err r ≡ true → ¬ IsPlayer byte
names_nobody byte (Ok p) n e = absurd (cc)
names_nobody byte (Err o) n e = n.1

pub names_player : (byte : ℕ) (r : Result Player Nobody) → Names byte r → is_err r ≡ false → IsPlayer byte
names_player byte (Ok p) n e = subst IsPlayer n (bit_player p)
names_player byte (Err o) n e = absurd (cc)
