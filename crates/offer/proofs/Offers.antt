-- What is offered through u: its owner's move there, or all of x's successors.
use Prim.Native.Nat.{ℕ, ◌<◌, ◌≤◌}
use mathlib.Core.Path.{◌≡◌, refl, sym, subst}
use mathlib.Core.Logic.{◌≢◌}
use mathlib.Core.List.{List}
use native.Mathlib.Omega.{arith}
use lib.ListN.{length, get_or}
use Rattle.game.specs.promise.Game.{Listed}
use Rattle.game.specs.promise.Tables.{next_of, Tables, vertices}
use Rattle.game.specs.parts.Stretch.{Stretch}
use Rattle.storage.specs.promise.Answer.{mark_room, mark_of}
use Rattle.storage.proofs.Stores.{has_room}
use Rattle.space.specs.parts.Work.{section}
use Rattle.space.specs.declared.desk.Desk.{Desk}
use Rattle.game.proofs.Starts.{stretch_of}
use Rattle.winning.specs.promise.Answer.{no_move}
use Rattle.levels.specs.parts.Levels.{settled_of, Seen, FloorOf}
use Rattle.levels.proofs.Flags.{settled_flag}
use Rattle.offer.specs.parts.Offering.{Grounds, AllSeen, Grounded, Offerable, Offered}

module _ {x u : ℕ} {tables : Tables} {d : Desk} {winners work : List ℕ} (p : Offerable x u tables d winners work) where
  -- u has a priority
  to_seen : u < length tables.priorities
  to_seen = omega (arith, p.edge.to, p.well_formed.level)

  pub seen : Seen u tables.priorities d work
  seen = record { vertex = to_seen; small = p.known.small; laid = p.known.laid; work_long = p.known.work_long }

  pub room : u < mark_room winners
  room = has_room p.known.stored to_seen

  pub stretch : Stretch tables.starts tables.targets x
  stretch = stretch_of _ _ _ p.well_formed.placed x p.edge.from

  -- x's successors are seen
  pub all_seen : (r : List ℕ) → r ≡ next_of tables.starts tables.targets x → AllSeen r tables.priorities d winners work
  all_seen r e =
      record {
        known = p.known;
        vertex =
            λ i h.
            let k : get_or r i 0 < vertices tables = p.well_formed.sound.inside x _ p.edge.from (subst (Listed (get_or r i 0)) e (record { at = i; within = h; is = refl })) in
            omega (arith, p.well_formed.level);
      }

  module _ (flag : get_or (section 0 (length tables.priorities) work) x 0 ≢ 0) where
    unsettled : settled_of (length tables.priorities) work x ≢ 1
    unsettled s = flag (settled_flag (length tables.priorities) work x s)

    -- x's owner moves to u
    pub offered_own : {w bound floor : ℕ} → w ≡ mark_of winners u → get_or tables.owners x 0 ≡ w → FloorOf u tables.priorities d.levels work floor → bound ≤ floor → get_or tables.priorities x 0 ≤ bound → Offered x w u floor tables d.levels winners work
    offered_own {w} {bound} {floor} e o f b l =
        record {
          unsettled = unsettled;
          player = rw e (p.player u p.edge.to);
          tested = record { own = λ h. (p.edge, sym e); other = λ y ne. absurd (ne o); none = λ ne. absurd (ne o) };
          bounded = omega arith;
          grounds = λ y a h. subst (Grounds tables.priorities d.levels work floor) (sym (h o)) (record { floor = floor; is = f; high = omega arith });
        }

    -- all of x's successors have u's mark
    pub offered_other : {w bound : ℕ} {r : List ℕ} {level : ℕ} → w ≡ mark_of winners u → get_or tables.owners x 0 ≢ w → r ≡ next_of tables.starts tables.targets x → Grounded w bound r tables.priorities d.levels winners work level → get_or tables.priorities x 0 ≤ bound → Offered x w no_move level tables d.levels winners work
    offered_other {w} {bound} {r} {level} e o er a l =
        record {
          unsettled = unsettled;
          player = rw e (p.player u p.edge.to);
          tested = record { own = λ h. absurd (o h); other = λ y ne h. marked y h.listed; none = λ ne. refl };
          bounded = omega (arith, all.bounded);
          grounds = λ y h f. grounded y h.listed;
        }
      where
        all : Grounded w bound (next_of tables.starts tables.targets x) tables.priorities d.levels winners work level
        all = subst (λ (k : List ℕ). Grounded w bound k tables.priorities d.levels winners work level) er a

        marked : (y : ℕ) → Listed y (next_of tables.starts tables.targets x) → mark_of winners y ≡ w
        marked y h = subst (λ (k : ℕ). mark_of winners k ≡ w) h.is (all.mark h.at h.within)

        grounded : (y : ℕ) → Listed y (next_of tables.starts tables.targets x) → Grounds tables.priorities d.levels work level y
        grounded y h = subst (Grounds tables.priorities d.levels work level) h.is (all.grounds h.at h.within)
