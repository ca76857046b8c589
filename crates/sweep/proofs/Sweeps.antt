-- Sweeping the lines: the engine goes on.
use Prim.Native.Nat.{ℕ}
use mathlib.Core.List.{List}
use Rattle.game.specs.promise.Tables.{Tables, vertices}
use Rattle.space.specs.declared.desk.Desk.{Desk}
use Rattle.waiting.proofs.Standings.{standing_lines}
use Rattle.step.proofs.Moving.{moved_more, moved_lines}
use Rattle.draw.specs.parts.Drawing.{Drawn}
use Rattle.draw.proofs.Visits.{drawn_more}
use Rattle.sweep.specs.parts.Gathering.{Gathered}

module _ {tables : Tables} {ins froms winners₀ moves₀ work₀ : List ℕ} {d : Desk} {winners moves work : List ℕ} (x : Drawn 0 tables ins froms winners₀ moves₀ work₀ d winners moves work) where
  -- the lines after the gathering, and the pile
  pub sweep_gathered : {tail : ℕ} {d' : Desk} → Gathered (vertices tables) d work d' tail → Drawn tail tables ins froms winners₀ moves₀ work₀ d' winners moves work
  sweep_gathered g =
      let e = x.moved.engine in
      record {
        moved =
            moved_more x.moved
            (moved_lines e
            (standing_lines e.standing g.laid e.standing.work_long (g.lines tables.priorities e.standing.lines))
            (record { waits = λ u l o. g.kept u l o (e.covered.waits u l o) })
            g.levels);
        piled = g.piled;
      }

  pub sweep_more :
      {tail : ℕ} {d₁ d' : Desk} {winners' moves' work' : List ℕ} →
      Gathered (vertices tables) d work d₁ tail →
      Drawn 0 tables ins froms winners moves work d' winners' moves' work' →
      Drawn 0 tables ins froms winners₀ moves₀ work₀ d' winners' moves' work'
  sweep_more g y = drawn_more (sweep_gathered g) y
