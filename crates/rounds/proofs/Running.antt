-- When nothing is open the answer is accepted, and no line of a kept set has changed.
use Prim.Native.Nat.{ℕ}
use mathlib.Core.Path.{◌≡◌, sym, subst, ◌∙◌}
use mathlib.Core.List.{List}
use Rattle.game.specs.promise.Tables.{game_of, Tables, vertices}
use Rattle.storage.specs.promise.Answer.{mark_of, move_of}
use Rattle.justification.proofs.Finished.{finished}
use Rattle.space.specs.parts.Work.{section}
use Rattle.space.specs.declared.desk.Desk.{Desk}
use Rattle.waiting.specs.parts.Open.{AllSettled}
use Rattle.levels.specs.parts.Levels.{settled_of}
use Rattle.levels.proofs.Flags.{flag_settled}
use Rattle.step.specs.parts.Stepping.{Engine, Moved}
use Rattle.orders.specs.declared.Ended.{Ended}
use Rattle.orders.specs.declared.Ended.TheVariants.{Done}
use Rattle.orders.specs.parts.Ending.{Ends, Ran}
use Rattle.rounds.specs.parts.Settled.{SettledTo}

module _
    {tables : Tables} {ins froms : List ℕ} {d₀ : Desk} {winners₀ moves₀ work₀ : List ℕ} {d : Desk} {winners moves work : List ℕ}
    (e : Engine tables ins froms d₀ winners₀ moves₀ work₀)
    (m : Moved tables ins froms winners₀ moves₀ work₀ d winners moves work)
  where
    pub settled_all : AllSettled (vertices tables) (section 0 (vertices tables) work) → SettledTo tables winners₀ moves₀ work₀ winners moves work
    settled_all all =
        record {
          winners_long = m.winners_long;
          moves_long = m.engine.state.moves_long ∙ sym e.state.moves_long;
          work_long = m.engine.state.work_long ∙ sym e.state.work_long;
          accepted =
              finished (game_of tables) (mark_of winners) (move_of moves) (settled_of (vertices tables) work) m.engine.state.safe
              (λ v l. flag_settled (vertices tables) work v (all v l));
          unmoved = record { mark = m.carried.mark; move = m.carried.move };
        }

-- what a caller that has looked at the answer knows
pub ran_done :
    {tables : Tables} {ins froms winners moves work : List ℕ} {d' : Desk} {winners' moves' work' : List ℕ} {r : Ended} → r ≡ Done →
    Ran tables ins froms winners moves work d' winners' moves' work' r → AllSettled (vertices tables) (section 0 (vertices tables) work')
ran_done {tables} {work' = work'} h x = subst (Ends (vertices tables) (section 0 (vertices tables) work')) h x.ends
