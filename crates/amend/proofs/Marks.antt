-- What the closure reached, from the differing vertices over all edges, is what has a path to a differing vertex.
use Prim.Native.Nat.{ℕ}
use mathlib.Core.Path.{◌≡◌, sym, ap, subst, ◌∙◌}
use mathlib.Core.List.{List}
use native.Mathlib.Omega.{arith}
use lib.ListN.{length, get_or}
use Rattle.game.specs.promise.Game.{Game, Edge}
use Rattle.game.specs.promise.Tables.{game_of, Tables, vertices}
use Rattle.winning.specs.promise.Walk.{Walk}
use Rattle.winning.proofs.Walks.{map_walk, follow_back}
use Rattle.lists.specs.parts.Cells.{Filled}
use Rattle.storage.proofs.Zeros.{filled_zeroed}
use Rattle.space.specs.parts.Work.{section}
use Rattle.space.proofs.Sections.{section_long, section_filled}
use Rattle.reach.specs.parts.Closure.{Allowed}
use Rattle.reach.specs.parts.Queue.{ClosedIn}
use Rattle.amend.specs.promise.Amended.{Differs, CountOf}
use Rattle.amend.specs.parts.Marking.{Flags, Seeding, Copied, ReachedBy, Findable, FoundReached}
use Rattle.amend.proofs.Counts.{count_of}
use Rattle.amend.proofs.Copies.{copied_flags}

module _
    {tables : Tables} {tables2 : Tables} {ins froms reached work : List ℕ}
    (m : Findable tables tables2 ins froms reached work)
  where
    abbrev n : ℕ
    n = vertices tables2

    abbrev g : Game
    g = game_of tables

    abbrev h : Game
    h = game_of tables2

    -- seeded : the work space with the differing vertices as seeds
    module _ {seeded : List ℕ} {tail : ℕ} (s : Seeding (Differs g h) n work seeded tail n) where
      -- every edge of the second game is allowed, and nothing else is
      edge_of : {choice : List ℕ} {v w : ℕ} → Allowed n ins froms (section 0 n seeded) choice 0 v w → Edge h v w
      edge_of a = m.preds.edge _ _ a.edge

      allowed : {choice : List ℕ} → length choice ≡ 0 → {v w : ℕ} → Edge h v w → Allowed n ins froms (section 0 n seeded) choice 0 v w
      allowed {choice} none {v} {w} e =
          let l = e.from in
          let was : get_or (section 0 n work) v 0 ≡ 0 = (section_filled n work m.seedable.long m.seedable.blank 0 (omega arith)).all v (omega (arith, section_long n work m.seedable.long 0 (omega arith))) in
          let is : get_or (section 0 n seeded) v 0 ≡ 0 = ap (λ (l : List ℕ). get_or l v 0) s.beside.levels ∙ was in
          record {
            edge = m.preds.listed v w e;
            low = omega arith;
            fixed = λ l. absurd (omega arith);
          }

      -- closed : the work space after the closure
      module _ {choice closed : List ℕ} {r : ℕ} (q : ClosedIn n ins froms choice 0 seeded closed r) where
        -- without any choice
        module _ (none : length choice ≡ 0) where
          -- what reaches a reached vertex is reached
          back : {v u : ℕ} → Walk (Edge h) v u → get_or (section 1 n closed) u 0 ≡ 1 → get_or (section 1 n closed) v 0 ≡ 1
          back a e = follow_back (λ (v : ℕ). get_or (section 1 n closed) v 0 ≡ 1) (λ v w s. q.closed.closed.closed v w (allowed none s)) e a

          found : Flags (ReachedBy tables tables2) n (section 1 n closed)
          found =
              record {
                flag = q.closed.queued.flag;
                holds =
                    λ v l e.
                    let r = q.closed.closed.reason v l e in
                    let d = s.sound r.seed r.was_reached in
                    record {
                      to = r.seed;
                      vertex = d.1;
                      differs = d.0;
                      path = map_walk (λ x y a. edge_of a) r.walk;
                    };
                marked =
                    λ v l a.
                    back a.path (q.closed.closed.kept a.to a.vertex (s.all a.to a.vertex a.differs));
              }

          pub marked : {reached' work' : List ℕ} → Copied n closed reached' n → length work' ≡ length closed → Filled work' 0 → FoundReached tables tables2 work reached' work' r
          marked c e f =
              record {
                flags = copied_flags c found;
                number = subst (CountOf _ n) (sym q.closed.queued.counted) (count_of _ n (section 1 n closed) found);
                zeroed = filled_zeroed (e ∙ q.beside.long ∙ s.beside.long) f;
              }
