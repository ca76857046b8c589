-- One round after the other: the engine goes on, and what the last leaves is the answer.
use Prim.Native.Nat.{ℕ}
use mathlib.Core.Path.{sym, ◌∙◌}
use mathlib.Core.List.{List}
use lib.ListN.{length}
use Rattle.game.specs.promise.Tables.{Tables}
use Rattle.space.specs.declared.desk.Desk.{Desk}
use Rattle.step.specs.parts.Stepping.{Engine, Moved}
use Rattle.step.proofs.Moving.{moved_more}
use Rattle.draw.specs.parts.Drawing.{Drawn}
use Rattle.pile.proofs.Piles.{piled_none}
use Rattle.orders.specs.declared.Ended.{Ended}
use Rattle.orders.specs.parts.Ending.{Ran}
use Rattle.restart.specs.parts.Restarting.{RestartedIn}
use Rattle.restart.proofs.Moves.{restarted_moved}
use Rattle.rounds.specs.parts.Settled.{SettledTo}

module _
    {tables : Tables} {ins froms winners₀ moves₀ work₀ : List ℕ} {d : Desk} {winners moves work : List ℕ} {d₁ : Desk} {winners₁ moves₁ work₁ : List ℕ} {r : Ended}
    (y : Drawn 0 tables ins froms winners₀ moves₀ work₀ d winners moves work)
    (x : Ran tables ins froms winners moves work d₁ winners₁ moves₁ work₁ r)
  where
    pub round_again :
        {d₂ : Desk} {winners₂ work₂ : List ℕ} →
        RestartedIn (length tables.priorities) tables.priorities ins froms moves₁ winners₁ work₁ d₂ winners₂ work₂ →
        Drawn 0 tables ins froms winners₀ moves₀ work₀ d₂ winners₂ moves₁ work₂
    round_again z = record { moved = moved_more (moved_more y.moved x.moved) (restarted_moved x.moved.engine z); piled = piled_none }

-- what is settled from where the engine has come to is settled from where it began
pub settled_after :
    {tables : Tables} {ins froms : List ℕ} {d₀ : Desk} {winners₀ moves₀ work₀ : List ℕ} {d : Desk} {winners moves work winners' moves' work' : List ℕ} →
    Engine tables ins froms d₀ winners₀ moves₀ work₀ →
    Moved tables ins froms winners₀ moves₀ work₀ d winners moves work →
    SettledTo tables winners moves work winners' moves' work' →
    SettledTo tables winners₀ moves₀ work₀ winners' moves' work'
settled_after e m t =
    record {
      winners_long = t.winners_long ∙ m.winners_long;
      moves_long = t.moves_long ∙ m.engine.state.moves_long ∙ sym e.state.moves_long;
      work_long = t.work_long ∙ m.engine.state.work_long ∙ sym e.state.work_long;
      accepted = t.accepted;
      unmoved =
          record {
            mark = λ kept k v l one. t.unmoved.mark kept (m.carried.kept kept k) v l one ∙ m.carried.mark kept k v l one;
            move = λ kept k v l one. t.unmoved.move kept (m.carried.kept kept k) v l one ∙ m.carried.move kept k v l one;
          };
    }
