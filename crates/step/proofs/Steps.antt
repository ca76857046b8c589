-- A step of the lists is a step of the method: it keeps the state safe and levelled, makes the measure fall and carries every kept set.
use Prim.Native.Nat.{ℕ, ◌<◌}
use mathlib.Core.Path.{◌≡◌, refl, sym, subst, ◌∙◌}
use mathlib.Core.Logic.{◌≢◌}
use mathlib.Core.List.{List}
use native.Mathlib.Omega.{arith}
use native.Mathlib.Decide.{ℕ_discrete}
use lib.ListN.{length, get_or}
use Rattle.player.specs.promise.Player.{parity_of, opponent_of}
use Rattle.game.specs.promise.Game.{Game}
use Rattle.game.specs.promise.Tables.{game_of, Tables, vertices}
use Rattle.storage.specs.promise.Answer.{mark_of, move_of}
use Rattle.storage.proofs.Stores.{still_stored}
use Rattle.justification.specs.parts.Safe.{Safe, Onward, Eligible, Levelled}
use Rattle.justification.specs.parts.Step.{TestGives, Kept, Turned, Same, Leaning}
use Rattle.justification.proofs.KeepStep.{keeps}
use Rattle.justification.proofs.TurnStep.{turns}
use Rattle.justification.proofs.Falls.{keeps_falls, turns_falls}
use Rattle.justification.proofs.Levels.{kept_levelled, turned_levelled}
use Rattle.justification.proofs.Started.{never_reopened}
use Rattle.lists.specs.parts.Cells.{Filled}
use Rattle.space.specs.parts.Work.{section}
use Rattle.space.specs.declared.desk.Desk.{Desk}
use Rattle.space.specs.parts.Desk.{Laid}
use Rattle.waiting.specs.parts.Lines.{Covered}
use Rattle.waiting.specs.parts.Moves.{LinesOf}
use Rattle.waiting.proofs.Standings.{standing_lines}
use Rattle.levels.specs.parts.Levels.{settled_of, level_of}
use Rattle.levels.proofs.Flags.{flag_settled, settled_flag, same_settled}
use Rattle.step.specs.parts.State.{KeptSet}
use Rattle.step.specs.parts.Stepping.{Engine, Fitting, Moved, Falls}
use Rattle.turn.specs.parts.Turning.{Turnable, TurnedIn}
use Rattle.step.specs.parts.Outcome.{KeptIn, SteppedIn}
use Rattle.step.proofs.Supports.{leaning}
use Rattle.step.proofs.Carry.{carried_same}

-- the engine after a step, with a smaller measure
pub record Stepped (tables : Tables) (ins froms winners moves work : List ℕ) (d' : Desk) (winners' moves' work' : List ℕ) : Type 0 where
  pub moved : Moved tables ins froms winners moves work d' winners' moves' work'
  pub falls : Falls tables winners work winners' work'

module _
    (v p m k : ℕ) (tables : Tables) (ins froms : List ℕ) (d : Desk) (winners moves work : List ℕ)
    (s : Engine tables ins froms d winners moves work)
    (f : Fitting v p m k tables winners moves work)
  where
    abbrev g : Game
    g = game_of tables

    abbrev n : ℕ
    n = vertices tables

    safe : Safe g (mark_of winners) (move_of moves) (settled_of n work)
    safe = s.state.safe

    vertex : v < n
    vertex = f.eligible.vertex

    unsettled : settled_of n work v ≢ 1
    unsettled = f.eligible.unsettled

    -- v is in no kept set, since it is open
    outside : (kept : List ℕ) → KeptSet tables work kept → (u : ℕ) → get_or kept u 0 ≡ 1 → u ≢ v
    outside kept h u one e = unsettled (h.settled v vertex (subst (λ (x : ℕ). get_or kept x 0 ≡ 1) e one))

    module _ (d' : Desk) (winners' moves' work' : List ℕ) where
      abbrev SameAt : ℕ → Type 0
      SameAt = Same (mark_of winners) (move_of moves) (settled_of n work) (mark_of winners') (move_of moves') (settled_of n work')

      -- the engine of the lists after the step
      engine :
          length winners' ≡ length winners →
          length moves' ≡ length moves →
          length work' ≡ length work →
          Laid d' →
          Filled (section 1 n work') 0 →
          LinesOf n tables.priorities d' work' →
          Covered n (section 0 n work') d'.waiting →
          Safe g (mark_of winners') (move_of moves') (settled_of n work') →
          Levelled g (mark_of winners') (move_of moves') (settled_of n work') (level_of d'.levels) →
          Engine tables ins froms d' winners' moves' work'
      engine winners_long moves_long work_long laid unreached lines covered safe' levelled =
          let t = s.state in
          record {
            state =
                record {
                  well_formed = t.well_formed;
                  stored = still_stored t.stored winners_long;
                  moves_long = moves_long ∙ t.moves_long;
                  work_long = work_long ∙ t.work_long;
                  unreached = unreached;
                  safe = safe';
                };
            preds = s.preds;
            standing = standing_lines s.standing laid (work_long ∙ t.work_long) lines;
            covered = covered;
            levelled = levelled;
          }

    -- settling v with the mark that it has
    kept_stepped :
        {low r : ℕ} {d' : Desk} {winners' moves' work' : List ℕ} →
        p ≡ parity_of (get_or tables.priorities v 0) →
        KeptIn (vertices tables) v m k low d winners moves work d' winners' moves' work' r →
        Stepped tables ins froms winners moves work d' winners' moves' work'
    kept_stepped {low} {r} {d'} {winners'} {moves'} {work'} e t =
        rw t.winners_same
        (record {
          moved =
              record {
                engine =
                    engine d' winners moves' work' refl t.move.long t.flag.long t.only.laid
                    (rw t.flag.reached s.state.unreached) (rw (t.only.waiting, t.only.firsts, t.only.lasts, t.flag.links) s.standing.lines) (rw t.only.waiting covered)
                    (keeps g _ _ _ _ _ _ v m safe eligible tested kept)
                    (kept_levelled g _ _ _ _ _ _ v m eligible kept s.levelled onward (λ u l ne. t.level.other u ne));
                winners_long = refl;
                carried = carried_same (λ h a u l one. same u (outside h a u one));
              };
          falls = record { less = keeps_falls g _ _ _ _ _ _ v m safe vertex unsettled kept };
        })
      where
        eligible : Eligible (game_of tables) (mark_of winners) (move_of moves) (settled_of (vertices tables) work) v (parity_of (get_or tables.priorities v 0)) m
        eligible = rw e at f.eligible

        tested : TestGives (game_of tables) (mark_of winners) v (parity_of (get_or tables.priorities v 0)) m
        tested = rw e at f.tested

        onward : Onward (game_of tables) (mark_of winners) (move_of moves) (settled_of (vertices tables) work) v (parity_of (get_or tables.priorities v 0)) m (level_of d'.levels v)
        onward = rw (e, sym t.level.here) at f.onward

        same : (u : ℕ) → u ≢ v → Same (mark_of winners) (move_of moves) (settled_of (vertices tables) work) (mark_of winners) (move_of moves') (settled_of (vertices tables) work') u
        same u ne = record { marked = refl; moved = t.move.other u ne; flag = same_settled (vertices tables) work work' u (t.flag.other u ne) }

        kept : Kept (mark_of winners) (move_of moves) (settled_of (vertices tables) work) (mark_of winners) (move_of moves') (settled_of (vertices tables) work') (game_of tables) v m
        kept =
            record {
              here = record { marked = safe.default v vertex unsettled; moved = t.move.here; flag = flag_settled (vertices tables) work' v t.flag.here };
              elsewhere = λ u l ne. same u ne;
            }

        -- what is open now was open before
        covered : Covered (vertices tables) (section 0 (vertices tables) work') d.waiting
        covered = record { waits = λ u l o. s.covered.waits u l (λ z. o (t.flag.other u (not_v u o) ∙ z)) }
          where
            not_v : (u : ℕ) → get_or (section 0 (vertices tables) work') u 0 ≢ 0 → u ≢ v
            not_v u o e = o (subst (λ (x : ℕ). get_or (section 0 (vertices tables) work') x 0 ≡ 0) (sym e) t.flag.here)

    -- turning v
    turned_stepped :
        {low r : ℕ} {d' : Desk} {winners' moves' work' : List ℕ} →
        p ≢ parity_of (get_or tables.priorities v 0) →
        TurnedIn (vertices tables) v p m k low tables.priorities ins froms d winners moves work d' winners' moves' work' r →
        Stepped tables ins froms winners moves work d' winners' moves' work'
    turned_stepped {low} {r} {d'} {winners'} {moves'} {work'} ne t =
        record {
          moved =
              record {
                engine =
                    engine d' winners' moves' work' t.winners_long t.move.long t.long t.laid
                    t.unreached t.lines t.covered
                    (turns g _ _ _ _ _ _ _ v m safe eligible tested leans turned)
                    (turned_levelled g _ _ _ _ _ _ _ v m safe eligible tested leans turned s.levelled onward (λ u l ne. t.level.other u ne));
                winners_long = t.winners_long;
                carried = carried_same (λ h a u l one. same u l (outside h a u one) (apart h a u l one));
              };
          falls = record { less = turns_falls g _ _ _ _ _ _ _ v m safe vertex unsettled leans turned };
        }
      where
        e : p ≡ opponent_of (parity_of (get_or tables.priorities v 0))
        e = omega (arith, f.player)

        eligible : Eligible (game_of tables) (mark_of winners) (move_of moves) (settled_of (vertices tables) work) v (opponent_of (parity_of (get_or tables.priorities v 0))) m
        eligible = rw e at f.eligible

        tested : TestGives (game_of tables) (mark_of winners) v (opponent_of (parity_of (get_or tables.priorities v 0))) m
        tested = rw e at f.tested

        onward : Onward (game_of tables) (mark_of winners) (move_of moves) (settled_of (vertices tables) work) v (opponent_of (parity_of (get_or tables.priorities v 0))) m (level_of d'.levels v)
        onward = rw (e, sym t.level.here) at f.onward

        leans : Leaning (game_of tables) (mark_of winners) (move_of moves) (settled_of (vertices tables) work) v (λ u. get_or t.reached u 0 ≡ 1)
        leans = leaning tables winners moves work ins froms s.state.well_formed.sound s.state.moves_long s.preds safe t.leaning

        same : (u : ℕ) → u < vertices tables → u ≢ v → get_or t.reached u 0 ≢ 1 → Same (mark_of winners) (move_of moves) (settled_of (vertices tables) work) (mark_of winners') (move_of moves') (settled_of (vertices tables) work') u
        same u l ne out =
            record {
              marked = t.same_mark u l ne out;
              moved = t.move.other u ne;
              flag = same_settled (vertices tables) work work' u (t.same_flag u l ne out);
            }

        -- no kept vertex leans on v
        apart : (kept : List ℕ) → KeptSet tables work kept → (u : ℕ) → u < vertices tables → get_or kept u 0 ≡ 1 → get_or t.reached u 0 ≢ 1
        apart kept h u l one r =
            never_reopened g (mark_of winners) (move_of moves) (settled_of (vertices tables) work) (λ w. get_or kept w 0 ≡ 1) v u
            h.closed h.settled vertex unsettled one (leans.leads u l r)

        turned : Turned (mark_of winners) (move_of moves) (settled_of (vertices tables) work) (mark_of winners') (move_of moves') (settled_of (vertices tables) work') (game_of tables) (λ u. get_or t.reached u 0 ≡ 1) v m
        turned =
            record {
              here = record { marked = t.mark ∙ e; moved = t.move.here; flag = flag_settled (vertices tables) work' v t.flag };
              reopened =
                  λ u l ne r.
                  let o = t.reopened u l ne r in
                  (λ f. o.flag (settled_flag (vertices tables) work' u f), o.mark);
              elsewhere = same;
            }

    -- the step of the lists asks what the engine has
    pub turnable : Turnable (length tables.priorities) v tables.priorities ins froms d winners moves work
    turnable =
        let t = s.state in
        rw t.well_formed.level
        (record {
          vertex = vertex;
          standing = s.standing;
          covered = s.covered;
          stored = t.stored;
          moves_long = t.moves_long;
          unreached = t.unreached;
          back = s.preds.backward;
        })

    -- and gives a step of the method
    pub stepped :
        {low r : ℕ} {d' : Desk} {winners' moves' work' : List ℕ} →
        SteppedIn (length tables.priorities) v p m k low tables.priorities ins froms d winners moves work d' winners' moves' work' r →
        Stepped tables ins froms winners moves work d' winners' moves' work'
    stepped {low} {r} {d'} {winners'} {moves'} {work'} t =
        elim (ℕ_discrete p (parity_of (get_or tables.priorities v 0))) [
          | yes e ↦ kept_stepped e (subst (λ (x : ℕ). KeptIn x v m k low d winners moves work d' winners' moves' work' r) level (t.kept e))
          | no ne ↦ turned_stepped ne (subst (λ (x : ℕ). TurnedIn x v p m k low tables.priorities ins froms d winners moves work d' winners' moves' work' r) level (t.turned ne))
        ]
      where
        level : length tables.priorities ≡ vertices tables
        level = s.state.well_formed.level
