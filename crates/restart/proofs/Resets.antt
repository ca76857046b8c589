-- A fresh start opens a set again that holds whatever leans on it: the state stays safe and levelled, and every kept set is kept.
use Prim.Native.Nat.{ℕ, ◌<◌}
use mathlib.Core.Path.{◌≡◌, refl}
use mathlib.Core.List.{List}
use native.Mathlib.Decide.{ℕ_discrete}
use lib.ListN.{get_or}
use Rattle.game.specs.promise.Game.{Game, Edge}
use Rattle.game.specs.promise.Tables.{game_of, Tables, vertices}
use Rattle.storage.specs.promise.Answer.{mark_of, move_of}
use Rattle.winning.proofs.Walks.{follow, follow_back}
use Rattle.justification.specs.parts.Safe.{Support, Safe, Above, Levelled}
use Rattle.justification.specs.parts.Step.{Same, Reset, Downward}
use Rattle.justification.proofs.Lines.{within}
use Rattle.justification.proofs.ResetStep.{resets, reset_above}
use Rattle.reach.specs.parts.Closure.{Allowed}
use Rattle.space.specs.parts.Work.{section}
use Rattle.space.specs.declared.desk.Desk.{Desk}
use Rattle.levels.specs.parts.Levels.{settled_of, level_of}
use Rattle.levels.proofs.Flags.{flag_settled, settled_flag, same_settled}
use Rattle.step.specs.parts.State.{KeptSet, Carried}
use Rattle.step.specs.parts.Stepping.{Engine}
use Rattle.step.proofs.Supports.{allowed}
use Rattle.step.proofs.Carry.{carried_same}
use Rattle.restart.specs.parts.Restarting.{RestartedIn}

module _
    {tables : Tables} {ins froms : List ℕ} {d : Desk} {winners moves work : List ℕ} {d' : Desk} {winners' work' : List ℕ}
    (s : Engine tables ins froms d winners moves work)
    (t : RestartedIn (vertices tables) tables.priorities ins froms moves winners work d' winners' work')
  where
    abbrev g : Game
    g = game_of tables

    abbrev n : ℕ
    n = vertices tables

    -- the set: whatever leans on an open vertex
    abbrev R : ℕ → Type 0
    R u = get_or t.reached u 0 ≡ 1

    abbrev Old : ℕ → ℕ → Type 0
    Old = Support g (mark_of winners) (move_of moves) (settled_of n work)

    -- it holds where a support step into it starts
    back : (u w : ℕ) → Old u w → R w → R u
    back u w e one =
        t.open_reached.closed u w
        (allowed tables winners moves work ins froms s.state.well_formed.sound s.state.moves_long s.preds s.state.safe u w e) one

    -- the rest is as before
    same : (u : ℕ) → u < n → ¬ R u → Same (mark_of winners) (move_of moves) (settled_of n work) (mark_of winners') (move_of moves) (settled_of n work') u
    same u l out = record { marked = t.same_mark u l out; moved = refl; flag = same_settled n work work' u (t.same_flag u l out) }

    downward : Downward g (mark_of winners) (move_of moves) (settled_of n work) R
    downward = record { decided = λ u l. ℕ_discrete (get_or t.reached u 0) 1; closed = back }

    reset : Reset (mark_of winners) (move_of moves) (settled_of n work) (mark_of winners') (move_of moves) (settled_of n work') g R
    reset =
        record {
          reopened =
              λ u l one.
              let o = t.reopened u l one in
              (λ f. o.flag (settled_flag n work' u f), o.mark);
          elsewhere = same;
        }

    pub safe : Safe g (mark_of winners') (move_of moves) (settled_of n work')
    safe = resets g _ _ _ _ _ _ R downward reset s.state.safe

    -- from outside no support step leads to an open vertex
    firm : {v : ℕ} (k : ℕ) → v < n → ¬ R v → Above g (mark_of winners) (move_of moves) (settled_of n work) v k
    firm k l out =
        record {
          high =
              λ u w o.
              let end : u < n = within g (mark_of winners) (move_of moves) (settled_of n work) l w in
              absurd (out (follow_back R back (t.open_reached.itself u end (λ z. o (flag_settled n work u z))) w));
        }

    -- what is settled is outside
    pub levelled : Levelled g (mark_of winners') (move_of moves) (settled_of n work') (level_of d'.levels)
    levelled =
        record {
          above =
              λ v l f.
              let out : ¬ R v = λ one. (reset.reopened v l one).0 f in
              reset_above g _ _ _ _ _ _ R downward reset l out (firm (level_of d'.levels v) l out);
        }

    -- edges lead from a kept vertex to kept ones alone, so to no open one
    apart : (kept : List ℕ) → KeptSet tables work kept → (u : ℕ) → u < n → get_or kept u 0 ≡ 1 → ¬ R u
    apart kept h u l one r =
        let leads = t.open_reached.leads u l r in
        let k : (leads.0 < n) × (get_or kept leads.0 0 ≡ 1) = follow (λ y. (y < n) × (get_or kept y 0 ≡ 1)) stays (l, one) leads.2 in
        leads.1 (settled_flag n work leads.0 (h.settled leads.0 k.0 k.1))
      where
        stays : (x y : ℕ) → Allowed n ins froms (section 0 n work) moves 0 x y → (x < n) × (get_or kept x 0 ≡ 1) → (y < n) × (get_or kept y 0 ≡ 1)
        stays x y i k =
            let e : Edge g x y = s.preds.edge x y i.edge in
            (e.to, h.closed x y k.1 e)

    pub carried : Carried tables winners moves work winners' moves work'
    carried = carried_same (λ kept h u l one. same u l (apart kept h u l one))
