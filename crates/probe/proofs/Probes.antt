-- A probe: the test of a vertex, and attraction from it.
use Prim.Native.Nat.{ℕ}
use mathlib.Core.Path.{◌≡◌}
use mathlib.Core.List.{List}
use lib.ListN.{length, get_or}
use Rattle.game.specs.promise.Tables.{Tables, vertices}
use Rattle.space.specs.declared.desk.Desk.{Desk}
use Rattle.line.specs.parts.Testing.{TestedBy}
use Rattle.step.specs.parts.Stepping.{Moved}
use Rattle.step.specs.parts.Outcome.{SteppedIn}
use Rattle.step.proofs.Least.{least_stepped}
use Rattle.step.proofs.Moving.{moved_more}
use Rattle.pile.specs.parts.Pile.{PushedOn}
use Rattle.draw.specs.parts.Drawing.{Drainable, Drawn}
use Rattle.pile.proofs.Piles.{piled_none}
use Rattle.draw.proofs.Onward.{engine_pile}
use Rattle.probe.specs.parts.Probing.{Probable}

module _
    {v bit to level low : ℕ} {tables : Tables} {ins froms : List ℕ} {d : Desk} {winners moves work : List ℕ} {d' : Desk} {winners' moves' work' : List ℕ}
    (p : Probable v tables ins froms d winners moves work)
    (tested : TestedBy v tables winners bit to)
    (own : level ≡ get_or tables.priorities v 0)
    (s : SteppedIn (length tables.priorities) v bit to level (get_or tables.priorities v 0) tables.priorities ins froms d winners moves work d' winners' moves' work' low)
  where
    moved : Moved tables ins froms winners moves work d' winners' moves' work'
    moved = (least_stepped v tables ins froms d winners moves work (record { engine = p.engine; least = p.least }) tested own s).moved

    -- v goes on an empty pile
    pub probe_drainable : {tail : ℕ} {d'' : Desk} → PushedOn v d' 0 d'' tail → Drainable tail tables ins froms d'' winners' moves' work'
    probe_drainable x = record { engine = engine_pile x.only moved.engine; piled = x.piled (vertices tables) p.least.vertex piled_none }

    pub probed :
        {d'' : Desk} {winners'' moves'' work'' : List ℕ} →
        Drawn 0 tables ins froms winners' moves' work' d'' winners'' moves'' work'' →
        Drawn 0 tables ins froms winners moves work d'' winners'' moves'' work''
    probed x = record { moved = moved_more moved x.moved; piled = x.piled }
