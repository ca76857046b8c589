-- Attraction: a sweep, a pick and a probe one after the other.
use Prim.Native.Nat.{ℕ}
use mathlib.Core.Path.{◌≡◌}
use mathlib.Core.List.{List}
use Rattle.game.specs.promise.Tables.{Tables, vertices}
use Rattle.space.specs.declared.desk.Desk.{Desk}
use Rattle.std.specs.Prelude.{Option, Some, None}
use Rattle.pick.specs.parts.Order.{Picks}
use Rattle.step.proofs.Moving.{moved_more}
use Rattle.draw.specs.parts.Drawing.{Drawn}
use Rattle.orders.specs.declared.Ended.TheVariants.{Done}
use Rattle.orders.specs.parts.Ending.{Ran}
use Rattle.orders.proofs.Running.{none_below_zero, picked_moved, picked_least, picked_all}
use Rattle.probe.specs.parts.Probing.{Probable}

module _
    {tables : Tables} {ins froms winners₀ moves₀ work₀ : List ℕ} {d : Desk} {winners moves work : List ℕ} {d' : Desk} {r : Option ℕ}
    (x : Drawn 0 tables ins froms winners₀ moves₀ work₀ d winners moves work)
    (p : Picks (vertices tables) 0 d work d' r)
  where
    pub picked_probable : {v : ℕ} → r ≡ Some v → Probable v tables ins froms d' winners moves work
    picked_probable h =
        record {
          engine = (picked_moved x.moved.engine none_below_zero p).engine;
          least = picked_least x.moved.engine none_below_zero p h;
        }

    -- nothing is open
    pub attracted_all : r ≡ None → Ran tables ins froms winners₀ moves₀ work₀ d' winners moves work Done
    attracted_all h =
        record {
          moved = moved_more x.moved (picked_moved x.moved.engine none_below_zero p);
          ends = picked_all x.moved.engine none_below_zero p h;
        }
