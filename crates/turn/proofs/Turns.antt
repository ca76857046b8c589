-- Turning a vertex: the closure, the reopening and the stores, one after the other, said of the lists alone.
use Prim.Native.Nat.{ℕ, ◌*◌, ◌<◌, ◌≤◌}
use mathlib.Core.Path.{◌≡◌, sym, ap, subst, ◌∙◌}
use mathlib.Core.Logic.{◌≢◌}
use mathlib.Core.List.{List}
use native.Mathlib.Omega.{arith}
use native.Mathlib.Decide.{ℕ_discrete}
use lib.ListN.{length, get_or}
use Rattle.storage.specs.promise.Answer.{mark_room}
use Rattle.storage.specs.parts.Answers.{MarkSet, MoveSet}
use Rattle.storage.proofs.Stores.{has_room, still_stored}
use Rattle.space.specs.declared.desk.Desk.{Desk}
use Rattle.winning.specs.promise.Walk.{Walk}
use Rattle.winning.proofs.Walks.{follow}
use Rattle.reach.specs.parts.Closure.{Allowed, ClosedFrom}
use Rattle.space.specs.parts.Work.{section, FlagSet}
use Rattle.reach.specs.parts.Queue.{SeedableIn, PushedIn, ClosableIn, ClosedIn, ClearableIn, ClearedIn}
use Rattle.space.proofs.Sections.{section_long}
use Rattle.reach.proofs.Queues.{fresh_in, pushed_queued}
use Rattle.waiting.specs.parts.Lines.{Lines, Covered}
use Rattle.waiting.specs.parts.Open.{NoneBelow}
use Rattle.waiting.proofs.Standings.{standing_lines}
use Rattle.levels.specs.parts.Levels.{LevelSet, LevelsOnly}
use Rattle.turn.specs.parts.Keeping.{Keepable}
use Rattle.reopen.specs.parts.Reopening.{Reopenable, Reopened}
use Rattle.turn.specs.parts.Turning.{Turnable, Reached, TurnedIn}

module _
    {n v : ℕ} {priorities ins froms : List ℕ} {d : Desk} {winners moves work : List ℕ}
    (p : Turnable n v priorities ins froms d winners moves work)
  where
    -- nothing is reached yet
    clean : (u : ℕ) → u < n → get_or (section 1 n work) u 0 ≡ 0
    clean u l = p.unreached.all u (omega (arith, section_long n work p.standing.work_long 1 (omega arith)))

    pub seedable : SeedableIn n v work 0
    seedable =
        record {
          long = p.standing.work_long;
          seedable =
              record {
                queued = fresh_in n work p.standing.work_long p.unreached;
                vertex = p.vertex;
                unreached = clean v p.vertex;
                small = p.standing.small;
              };
        }

    module _ {work₁ : List ℕ} {one : ℕ} (s : PushedIn n v work 0 work₁ one) where
      pub closable : ClosableIn n ins froms moves work₁ one
      closable =
          let long = s.beside.long ∙ p.standing.work_long in
          record {
            long = long;
            closable =
                record {
                  back = p.back;
                  small = p.standing.small;
                  level_long = section_long n work₁ long 0 (omega arith);
                  queued = pushed_queued s.pushed;
                };
          }

      module _ {work₂ : List ℕ} {tail : ℕ} (c : ClosedIn n ins froms moves 0 work₁ work₂ tail) where
        flags : section 0 n work₂ ≡ section 0 n work
        flags = c.beside.levels ∙ s.beside.levels

        pub reopenable : Reopenable n priorities d winners work₂ tail
        reopenable =
            record {
              standing =
                  standing_lines p.standing p.standing.laid (c.beside.long ∙ s.beside.long ∙ p.standing.work_long)
                  (rw (c.beside.spare ∙ s.beside.spare) p.standing.lines);
              covered = rw flags p.covered;
              stored = p.stored;
              queued = c.closed.queued;
            }

        -- the only seed is v, so whatever is marked leads to v
        leaning : Reached n ins froms (section 0 n work) moves v (section 1 n work₂)
        leaning = subst (λ (l : List ℕ). Reached n ins froms l moves v (section 1 n work₂)) s.beside.levels leads_to
          where
            close : ClosedFrom n ins froms (section 0 n work₁) moves 0 (section 1 n work₁) (section 1 n work₂)
            close = c.closed.closed

            ends : (x y : ℕ) → Allowed n ins froms (section 0 n work₁) moves 0 x y → y < n
            ends x y a = a.edge.vertex

            only : (u : ℕ) → u < n → get_or (section 1 n work₁) u 0 ≡ 1 → u ≡ v
            only u l one = elim (ℕ_discrete u v) [ yes e ↦ e | no ne ↦ absurd (omega (arith, clean u l, s.pushed.seeded.other u ne)) ]

            leads : (u : ℕ) → u < n → get_or (section 1 n work₂) u 0 ≡ 1 → Walk (Allowed n ins froms (section 0 n work₁) moves 0) u v
            leads u l one =
                let r = close.reason u l one in
                let end : r.seed < n = follow (λ (y : ℕ). y < n) (λ x y a k. ends x y a) l r.walk in
                subst (Walk (Allowed n ins froms (section 0 n work₁) moves 0) u) (only r.seed end r.was_reached) r.walk

            leads_to : Reached n ins froms (section 0 n work₁) moves v (section 1 n work₂)
            leads_to =
                record { itself = close.kept v p.vertex s.pushed.seeded.here; leads = leads; closed = close.closed }

        module _ {low : ℕ} {d₃ : Desk} {winners₃ work₃ : List ℕ} {least : ℕ} (r : Reopened n priorities d winners work₂ low d₃ winners₃ work₃ least) where
          pub clearable : ClearableIn n work₃ tail
          clearable =
              record {
                long = r.long ∙ reopenable.standing.work_long;
                small = p.standing.small;
                queued = rw (r.reached, r.queue) c.closed.queued;
              }

          pub mark_room_lem : v < mark_room winners₃
          mark_room_lem = has_room (still_stored p.stored r.winners_long) p.vertex

          module _ {work₄ : List ℕ} (x : ClearedIn n work₃ work₄) where
            long : length work₄ ≡ 4 * n
            long = x.beside.long ∙ clearable.long

            pub keepable : Keepable v d₃ moves work₄
            keepable =
                record {
                  small = omega (arith, p.standing.small, p.moves_long);
                  vertex = omega (arith, p.vertex, p.moves_long);
                  laid = r.lines_only.laid;
                  work_long = rw p.moves_long long;
                }

            module _ {work' : List ℕ} (settled₀ : FlagSet (length moves) v 0 work₄ work') where
              settled : FlagSet n v 0 work₄ work'
              settled = subst (λ (k : ℕ). FlagSet k v 0 work₄ work') p.moves_long settled₀

              pub long_kept : length work' ≡ length work
              long_kept = settled.long ∙ long ∙ sym p.standing.work_long

              -- the flags of all but v are those after the reopening
              flag_of : (u : ℕ) → u ≢ v → get_or (section 0 n work') u 0 ≡ get_or (section 0 n work₃) u 0
              flag_of u ne = settled.other u ne ∙ ap (λ (l : List ℕ). get_or l u 0) x.beside.levels

              not_v : (u : ℕ) → get_or (section 0 n work') u 0 ≢ 0 → u ≢ v
              not_v u f e = f (ap (λ (k : ℕ). get_or (section 0 n work') k 0) e ∙ settled.here)

              same_flag : (u : ℕ) → u < n → u ≢ v → get_or (section 1 n work₂) u 0 ≢ 1 → get_or (section 0 n work') u 0 ≡ get_or (section 0 n work) u 0
              same_flag u l ne out = flag_of u ne ∙ r.flag u l out ∙ ap (λ (k : List ℕ). get_or k u 0) flags

              -- what is open was open, so not below `low`, or is open again
              above : NoneBelow n priorities (section 0 n work) low → (u : ℕ) → u < n → get_or (section 0 n work') u 0 ≢ 0 → least ≤ get_or priorities u 0
              above b u l f =
                  elim (ℕ_discrete (get_or (section 1 n work₂) u 0) 1) [
                    | yes one ↦ r.below u l one
                    | no out ↦ omega (arith, r.most, b.above u l (λ z. f (same_flag u l (not_v u f) out ∙ z)))
                  ]

              lines' : Lines n priorities d₃.waiting d₃.firsts d₃.lasts (section 3 n work')
              lines' = subst (Lines n priorities d₃.waiting d₃.firsts d₃.lasts) (sym (settled.links ∙ x.beside.spare)) r.lines

              covered' : Covered n (section 0 n work') d₃.waiting
              covered' = record { waits = λ u l f. r.covered.waits u l (λ z. f (flag_of u (not_v u f) ∙ z)) }

              pub turned : {d' : Desk} {winners' moves' : List ℕ} {q m k : ℕ} → MarkSet winners₃ winners' v q → MoveSet moves moves' v m → LevelSet d₃.levels d'.levels v k → LevelsOnly d₃ d' → TurnedIn n v q m k low priorities ins froms d winners moves work d' winners' moves' work' least
              turned {d'} {k = k} mark move level only =
                  record {
                    reached = section 1 n work₂;
                    leaning = leaning;
                    winners_long = mark.long ∙ r.winners_long;
                    long = long_kept;
                    laid = only.laid;
                    pile = only.pile ∙ r.lines_only.pile;
                    mark = mark.here;
                    move = move;
                    level = subst (λ (l : List ℕ). LevelSet l d'.levels v k) r.lines_only.levels level;
                    flag = settled.here;
                    reopened =
                        λ u l ne one.
                        let o = r.reopened u l one in
                        record { flag = λ z. o.flag (sym (flag_of u ne) ∙ z); mark = mark.other u ne ∙ o.mark };
                    same_mark = λ u l ne out. mark.other u ne ∙ r.mark u l out;
                    same_flag = same_flag;
                    unreached = rw settled.reached x.filled;
                    lines = rw (only.waiting, only.firsts, only.lasts) lines';
                    covered = rw only.waiting covered';
                    none_below = λ b. record { above = above b };
                  }
