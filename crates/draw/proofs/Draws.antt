-- An offered line fits, so the step to it is one of the method.
use Prim.Native.Nat.{ℕ, ◌<◌}
use mathlib.Core.Path.{◌≡◌, refl, sym, subst}
use mathlib.Core.List.{List}
use native.Mathlib.Decide.{ℕ_discrete}
use lib.ListN.{length, get_or}
use Rattle.game.specs.promise.Tables.{game_of, Tables, vertices}
use Rattle.storage.specs.promise.Answer.{mark_of, move_of}
use Rattle.justification.specs.parts.Safe.{Above, Levelled}
use Rattle.justification.proofs.Eligible.{above_less}
use Rattle.levels.specs.parts.Levels.{settled_of, level_of}
use Rattle.levels.proofs.Floors.{floor_above}
use Rattle.player.specs.promise.Player.{parity_of}
use Rattle.space.specs.declared.desk.Desk.{Desk}
use Rattle.step.specs.parts.Stepping.{Engine, Fitting, Moved}
use Rattle.step.specs.parts.Outcome.{SteppedIn}
use Rattle.step.proofs.Steps.{stepped}
use Rattle.pile.specs.parts.Pile.{PushedOn}
use Rattle.offer.specs.parts.Offering.{Grounds, Offered}
use Rattle.draw.specs.parts.Drawing.{Drawable, Drawn}
use Rattle.draw.proofs.Onward.{engine_pile}

module _
    {x u tail : ℕ} {tables : Tables} {ins froms : List ℕ} {d : Desk} {winners moves work : List ℕ}
    (p : Drawable x u tail tables ins froms d winners moves work)
  where
    e : Engine tables ins froms d winners moves work
    e = p.drainable.engine

    level : length tables.priorities ≡ vertices tables
    level = e.state.well_formed.level

    -- from a vertex whose floor is not below k supports stay above k
    grounds_above : {k w : ℕ} → w < vertices tables → Grounds tables.priorities d.levels work k w → Above (game_of tables) (mark_of winners) (move_of moves) (settled_of (vertices tables) work) w k
    grounds_above {k} {w} l g =
        above_less (game_of tables) (mark_of winners) (move_of moves) (settled_of (vertices tables) work) g.high
        (subst (λ (n : ℕ). Above (game_of tables) (mark_of winners) (move_of moves) (settled_of n work) w g.floor) level
        (floor_above (game_of tables) (mark_of winners) (move_of moves) (λ v. refl)
        (subst (λ (n : ℕ). Levelled (game_of tables) (mark_of winners) (move_of moves) (settled_of n work) (level_of d.levels)) (sym level) e.levelled) l g.is))

    fitting : {q m k : ℕ} → Offered x q m k tables d.levels winners work → Fitting x q m k tables winners moves work
    fitting {q} {m} {k} o =
        record {
          player = o.player;
          tested = o.tested;
          eligible =
              record {
                vertex = p.edge.from;
                unsettled = λ s. o.unsettled (subst (λ (n : ℕ). settled_of n work x ≡ 1) (sym level) s);
                onward = λ w h f. above_less (game_of tables) (mark_of winners) (move_of moves) (settled_of (vertices tables) work) o.bounded (grounds_above h.to (o.grounds w h f));
              };
          onward = λ w h f. grounds_above h.to (o.grounds w h f);
        }

    -- x gets the line
    module _ {q m k low r : ℕ} {d₁ : Desk} {winners' moves' work' : List ℕ} (o : Offered x q m k tables d.levels winners work) (s : SteppedIn (length tables.priorities) x q m k low tables.priorities ins froms d winners moves work d₁ winners' moves' work' r) where
      moved : Moved tables ins froms winners moves work d₁ winners' moves' work'
      moved = (stepped x q m k tables ins froms d winners moves work e (fitting o) s).moved

      pile : d₁.pile ≡ d.pile
      pile = elim (ℕ_discrete q (parity_of (get_or tables.priorities x 0))) [ yes h ↦ (s.kept h).only.pile | no h ↦ (s.turned h).pile ]

      -- and goes on the pile
      pub drawn_one : {tail' : ℕ} {d₂ : Desk} → PushedOn x d₁ tail d₂ tail' → Drawn tail' tables ins froms winners moves work d₂ winners' moves' work'
      drawn_one a =
          record {
            moved = record { engine = engine_pile a.only moved.engine; winners_long = moved.winners_long; carried = moved.carried };
            piled = a.piled (vertices tables) p.edge.from (rw pile p.drainable.piled);
          }
