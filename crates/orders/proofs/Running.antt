-- Steps of an order one after the other, from a pick to the next.
use Prim.Native.Nat.{ℕ, ◌+◌, ◌<◌, ◌≤◌}
use mathlib.Core.Path.{◌≡◌}
use mathlib.Core.List.{List}
use native.Mathlib.Omega.{arith}
use Rattle.game.specs.promise.Tables.{game_of, Tables, vertices}
use Rattle.storage.specs.promise.Answer.{mark_of}
use Rattle.justification.specs.parts.Measure.{measure}
use Rattle.space.specs.parts.Work.{section}
use Rattle.space.specs.declared.desk.Desk.{Desk}
use Rattle.std.specs.Prelude.{Option, Some, None}
use Rattle.pick.specs.parts.Order.{Picks}
use Rattle.waiting.specs.parts.Open.{LeastOpen, AllSettled, NoneBelow}
use Rattle.pick.proofs.Picking.{picked_at, picked_nothing, covered_dropped, standing_dropped}
use Rattle.levels.specs.parts.Levels.{settled_of}
use Rattle.step.specs.parts.Stepping.{Engine, Moved, Falls}
use Rattle.step.proofs.Least.{LeastSteppable, LeastStepped}
use Rattle.step.proofs.Moving.{moved_more, moved_lines}
use Rattle.orders.specs.declared.Ended.TheVariants.{Done}
use Rattle.orders.specs.parts.Ending.{Ran}

module _ {tables : Tables} {ins froms : List ℕ} {d : Desk} {winners moves work : List ℕ} (e : Engine tables ins froms d winners moves work) where
  module _ {from : ℕ} {d' : Desk} {r : Option ℕ} (b : NoneBelow (vertices tables) tables.priorities (section 0 (vertices tables) work) from) (p : Picks (vertices tables) from d work d' r) where
    -- some settled vertices have left their lines
    pub picked_moved : Moved tables ins froms winners moves work d' winners moves work
    picked_moved = moved_lines e (standing_dropped p.dropped e.standing) (covered_dropped p.dropped e.covered) p.dropped.lines_only.levels

    pub picked_least : {v : ℕ} → r ≡ Some v → LeastOpen (vertices tables) tables.priorities (section 0 (vertices tables) work) v
    picked_least h = picked_at h p e.standing e.covered b

    pub picked_steppable : {v : ℕ} → r ≡ Some v → LeastSteppable v tables ins froms d' winners moves work
    picked_steppable h = record { engine = picked_moved.engine; least = picked_least h }

    pub picked_all : r ≡ None → AllSettled (vertices tables) (section 0 (vertices tables) work)
    picked_all h = picked_nothing h p e.standing e.covered b

-- nothing at all is below 0
pub none_below_zero : {n : ℕ} {priorities flags : List ℕ} → NoneBelow n priorities flags 0
none_below_zero = record { above = λ u l f. omega arith }

-- the measure has fallen, or nothing was spent
pub record Spending (spent : ℕ) (tables : Tables) (winners₀ work₀ winners work : List ℕ) : Type 0 where
  pub not_more : measure (game_of tables) (mark_of winners) (settled_of (vertices tables) work) ≤ measure (game_of tables) (mark_of winners₀) (settled_of (vertices tables) work₀)
  pub less : 0 < spent → Falls tables winners₀ work₀ winners work

-- lowest first: the engine has moved, and nothing below the cursor is open
pub record Lowering (low spent : ℕ) (tables : Tables) (ins froms winners₀ moves₀ work₀ : List ℕ) (d : Desk) (winners moves work : List ℕ) : Type 0 where
  pub moved : Moved tables ins froms winners₀ moves₀ work₀ d winners moves work
  pub none_below : NoneBelow (vertices tables) tables.priorities (section 0 (vertices tables) work) low
  pub spending : Spending spent tables winners₀ work₀ winners work

module _
    {low spent : ℕ} {tables : Tables} {ins froms winners₀ moves₀ work₀ : List ℕ} {d : Desk} {winners moves work : List ℕ}
    (s : Lowering low spent tables ins froms winners₀ moves₀ work₀ d winners moves work)
  where
    pub lowering_step :
        {low' : ℕ} {d' : Desk} {winners' moves' work' : List ℕ} →
        LeastStepped tables ins froms winners moves work d' winners' moves' work' low' →
        Lowering low' (spent + 1) tables ins froms winners₀ moves₀ work₀ d' winners' moves' work'
    lowering_step x =
        let less = x.falls.less in
        let before = s.spending.not_more in
        record {
          moved = moved_more s.moved x.moved;
          none_below = x.none_below;
          spending = record { not_more = omega arith; less = λ h. record { less = omega arith } };
        }

    -- nothing is open
    pub lowering_all : {d₁ : Desk} {r : Option ℕ} → Picks (vertices tables) low d work d₁ r → r ≡ None → Ran tables ins froms winners₀ moves₀ work₀ d₁ winners moves work Done
    lowering_all p h =
        record {
          moved = moved_more s.moved (picked_moved s.moved.engine s.none_below p);
          ends = picked_all s.moved.engine s.none_below p h;
        }
