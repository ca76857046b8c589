-- Draining the pile: the engine goes on.
use Prim.Native.Nat.{ℕ, ◌-◌, ◌<◌, ◌≤◌}
use mathlib.Core.Path.{◌≡◌, sym, subst}
use mathlib.Core.Logic.{◌≢◌}
use mathlib.Core.List.{List}
use native.Mathlib.Omega.{arith}
use lib.ListN.{get_or}
use Rattle.game.specs.promise.Tables.{Tables, vertices}
use Rattle.space.specs.declared.desk.Desk.{Desk}
use Rattle.draw.specs.parts.Drawing.{DrawVisitable, Drawn}

-- the engine has moved, and no more is left of the budget than there was
pub record Going (budget left tail : ℕ) (tables : Tables) (ins froms winners₀ moves₀ work₀ : List ℕ) (d : Desk) (winners moves work : List ℕ) : Type 0 where
  pub at_most : left ≤ budget
  pub drawn : Drawn tail tables ins froms winners₀ moves₀ work₀ d winners moves work

-- the last of the pile is a vertex, and the rest is a pile
pub drain_visitable :
    {tail u : ℕ} {tables : Tables} {ins froms winners₀ moves₀ work₀ : List ℕ} {d : Desk} {winners moves work : List ℕ} →
    Drawn tail tables ins froms winners₀ moves₀ work₀ d winners moves work →
    tail ≢ 0 →
    u ≡ get_or d.pile (tail - 1) 0 →
    DrawVisitable u (tail - 1) tables ins froms d winners moves work
drain_visitable {tail} {u} {tables} x some is =
    record {
      drainable = record { engine = x.moved.engine; piled = record { within = omega (arith, x.piled.within); vertex = λ i l. x.piled.vertex i (omega arith) } };
      vertex = subst (λ (y : ℕ). y < vertices tables) (sym is) (x.piled.vertex (tail - 1) (omega arith));
    }
