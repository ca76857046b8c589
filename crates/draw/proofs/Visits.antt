-- Going over the predecessors of u: each has an edge to it.
use Prim.Native.Nat.{ℕ, ◌+◌, ◌<◌, ◌≤◌}
use mathlib.Core.Path.{◌≡◌, sym}
use mathlib.Core.List.{List}
use lib.ListN.{get_or}
use Rattle.game.specs.promise.Tables.{Tables}
use Rattle.space.specs.declared.desk.Desk.{Desk}
use Rattle.step.proofs.Moving.{moved_none, moved_more}
use Rattle.draw.specs.parts.Drawing.{Drainable, DrawVisitable, Drawable, Drawn}

pub drawn_more :
    {tail tail' : ℕ} {tables : Tables} {ins froms winners₀ moves₀ work₀ : List ℕ} {d : Desk} {winners moves work : List ℕ} {d' : Desk} {winners' moves' work' : List ℕ} →
    Drawn tail tables ins froms winners₀ moves₀ work₀ d winners moves work →
    Drawn tail' tables ins froms winners moves work d' winners' moves' work' →
    Drawn tail' tables ins froms winners₀ moves₀ work₀ d' winners' moves' work'
drawn_more a b = record { moved = moved_more a.moved b.moved; piled = b.piled }

pub drawn_same :
    {tail : ℕ} {tables : Tables} {ins froms : List ℕ} {d : Desk} {winners moves work : List ℕ} →
    Drainable tail tables ins froms d winners moves work →
    Drawn tail tables ins froms winners moves work d winners moves work
drawn_same p = record { moved = moved_none p.engine; piled = p.piled }

-- at u's place i stands a vertex with an edge to u
pub visiting_drawable :
    {u tail end x i : ℕ} {tables : Tables} {ins froms : List ℕ} {d₀ : Desk} {winners₀ moves₀ work₀ : List ℕ} {d : Desk} {winners moves work : List ℕ} →
    DrawVisitable u tail tables ins froms d₀ winners₀ moves₀ work₀ →
    get_or ins u 0 ≤ i →
    i < get_or ins (u + 1) 0 →
    x ≡ get_or froms i 0 →
    Drawn end tables ins froms winners₀ moves₀ work₀ d winners moves work →
    Drawable x u end tables ins froms d winners moves work
visiting_drawable {u} {tail} {end} {x} {i} p begun before at s =
    record {
      drainable = record { engine = s.moved.engine; piled = s.piled };
      edge = p.drainable.engine.preds.edge x u (record { vertex = p.vertex; at = i; begins = begun; ends = before; is = sym at });
    }
