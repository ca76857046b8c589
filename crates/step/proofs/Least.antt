-- The test of an open vertex of least priority gives a line that fits it, and after the step nothing below the result is open.
use Prim.Native.Nat.{ℕ}
use mathlib.Core.Path.{◌≡◌, sym, subst, ◌∙◌}
use mathlib.Core.List.{List}
use native.Mathlib.Decide.{ℕ_discrete}
use lib.ListN.{length, get_or}
use Rattle.player.specs.promise.Player.{parity_of}
use Rattle.game.specs.promise.Tables.{game_of, Tables, vertices}
use Rattle.storage.specs.promise.Answer.{mark_of, move_of}
use Rattle.justification.specs.parts.Safe.{Eligible}
use Rattle.justification.proofs.Eligible.{least_eligible}
use Rattle.space.specs.parts.Work.{section}
use Rattle.space.specs.declared.desk.Desk.{Desk}
use Rattle.waiting.specs.parts.Open.{LeastOpen, NoneBelow}
use Rattle.levels.specs.parts.Levels.{settled_of}
use Rattle.levels.proofs.Flags.{flag_settled, settled_flag}
use Rattle.line.specs.parts.Testing.{Testable, TestedBy}
use Rattle.step.specs.parts.Stepping.{Engine, Fitting, Moved, Falls}
use Rattle.step.specs.parts.Outcome.{SteppedIn}
use Rattle.step.proofs.Steps.{stepped}

-- the engine, and an open vertex of least priority
pub record LeastSteppable (v : ℕ) (tables : Tables) (ins froms : List ℕ) (d : Desk) (winners moves work : List ℕ) : Type 0 where
  pub engine : Engine tables ins froms d winners moves work
  pub least : LeastOpen (vertices tables) tables.priorities (section 0 (vertices tables) work) v

-- the engine after one step, with a smaller measure; nothing below `low` is open
pub record LeastStepped (tables : Tables) (ins froms winners moves work : List ℕ) (d' : Desk) (winners' moves' work' : List ℕ) (low : ℕ) : Type 0 where
  pub moved : Moved tables ins froms winners moves work d' winners' moves' work'
  pub falls : Falls tables winners work winners' work'
  pub none_below : NoneBelow (vertices tables) tables.priorities (section 0 (vertices tables) work') low

module _
    (v : ℕ) (tables : Tables) (ins froms : List ℕ) (d : Desk) (winners moves work : List ℕ)
    (s : LeastSteppable v tables ins froms d winners moves work)
  where
    pub testable : Testable v tables winners
    testable =
        let t = s.engine.state in
        record { well_formed = t.well_formed; vertex = s.least.vertex; stored = t.stored; player = t.safe.player }

    -- whatever line the test gives, v's own priority will do as its level
    pub fitting : {p m k : ℕ} → TestedBy v tables winners p m → k ≡ get_or tables.priorities v 0 → Fitting v p m k tables winners moves work
    fitting {p} {m} {k} t e =
        let fits = eligible p m in
        record { player = t.player; tested = t.tested; eligible = fits; onward = rw e fits.onward }
      where
        eligible : (p m : ℕ) → Eligible (game_of tables) (mark_of winners) (move_of moves) (settled_of (vertices tables) work) v p m
        eligible p m =
            least_eligible (game_of tables) (mark_of winners) (move_of moves) (settled_of (vertices tables) work) s.least.vertex
            (λ e. s.least.unsettled (settled_flag (vertices tables) work v e))
            (λ u l f. s.least.least u l (λ z. f (flag_settled (vertices tables) work u z)))

    -- nothing below v is open before
    none_below : NoneBelow (vertices tables) tables.priorities (section 0 (vertices tables) work) (get_or tables.priorities v 0)
    none_below = record { above = s.least.least }

    pub least_stepped :
        {p m k r : ℕ} {d' : Desk} {winners' moves' work' : List ℕ} →
        TestedBy v tables winners p m →
        k ≡ get_or tables.priorities v 0 →
        SteppedIn (length tables.priorities) v p m k (get_or tables.priorities v 0) tables.priorities ins froms d winners moves work d' winners' moves' work' r →
        LeastStepped tables ins froms winners moves work d' winners' moves' work' r
    least_stepped {p} {m} {k} {r} {d'} {winners'} {moves'} {work'} t e x =
        let y = stepped v p m k tables ins froms d winners moves work s.engine (fitting t e) x in
        record {
          moved = y.moved;
          falls = y.falls;
          none_below = subst (λ (n : ℕ). NoneBelow n tables.priorities (section 0 n work') r) s.engine.state.well_formed.level below;
        }
      where
        before : NoneBelow (length tables.priorities) tables.priorities (section 0 (length tables.priorities) work) (get_or tables.priorities v 0)
        before = subst (λ (n : ℕ). NoneBelow n tables.priorities (section 0 n work) (get_or tables.priorities v 0)) (sym s.engine.state.well_formed.level) none_below

        below : NoneBelow (length tables.priorities) tables.priorities (section 0 (length tables.priorities) work') r
        below = elim (ℕ_discrete p (parity_of (get_or tables.priorities v 0))) [ yes e ↦ kept e | no ne ↦ (x.turned ne).none_below before ]
          where
            kept : p ≡ parity_of (get_or tables.priorities v 0) → NoneBelow (length tables.priorities) tables.priorities (section 0 (length tables.priorities) work') r
            kept e =
                let t = x.kept e in
                rw t.low_same
                (record {
                  above =
                      λ u l o.
                      before.above u l
                      (λ z. o (elim (ℕ_discrete u v) [ yes h ↦ subst (λ (y : ℕ). get_or (section 0 (length tables.priorities) work') y 0 ≡ 0) (sym h) t.flag.here | no ne ↦ t.flag.other u ne ∙ z ]));
                })
