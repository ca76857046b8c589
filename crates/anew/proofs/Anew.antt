-- Deciding anew: the prepared start may be settled, and the settled answer keeps the old line of every untouched vertex.
use Prim.Native.Nat.{ℕ}
use mathlib.Core.Path.{◌≡◌, sym, ◌∙◌}
use mathlib.Core.List.{List}
use lib.ListN.{length}
use Rattle.game.specs.promise.Tables.{Tables, vertices}
use Rattle.lists.specs.parts.Cells.{Filled}
use Rattle.storage.proofs.Zeros.{filled_zeroed}
use Rattle.engine.specs.parts.Settling.{Settleable}
use Rattle.rounds.specs.parts.Settled.{SettledTo}
use Rattle.anew.specs.parts.Deciding.{Decidable, DecidedAnew}
use Rattle.start.specs.parts.Preparing.{Prepared}
use Rattle.anew.proofs.Keeping.{untouched, state_of, flag_of, kept_set}

module _
    {tables : Tables} {old_winners old_moves reached ins froms winners moves work : List ℕ}
    (d : Decidable tables old_winners old_moves reached ins froms winners moves work)
    {winners₁ moves₁ work₁ : List ℕ}
    (p : Prepared (vertices tables) tables.priorities old_winners old_moves reached winners₁ moves₁ work₁ (vertices tables))
  where
    pub settling_asks : Settleable tables ins froms winners₁ moves₁ work₁
    settling_asks =
        record {
          state = state_of d.kept p d.well_formed;
          preds = d.preds;
        }

    pub decided_anew :
        {winners₂ moves₂ work₂ work₃ : List ℕ} → length winners₁ ≡ length winners →
        SettledTo tables winners₁ moves₁ work₁ winners₂ moves₂ work₂ → length work₃ ≡ length work₂ → Filled work₃ 0 →
        DecidedAnew tables old_winners old_moves reached winners moves work winners₂ moves₂ work₃
    decided_anew long s e f =
        let room = d.preparable.reached_room in
        let set = kept_set d.kept p room in
        let flag = flag_of d.kept p room in
        record {
          winners_long = s.winners_long ∙ long;
          moves_long = s.moves_long ∙ p.moves_long ∙ sym d.preparable.moves_long;
          accepted = s.accepted;
          kept_mark = λ v l k. s.unmoved.mark (untouched reached) set v l (flag v l k) ∙ (p.winner v l).kept k;
          kept_move = λ v l k. s.unmoved.move (untouched reached) set v l (flag v l k) ∙ p.move v l;
          zeroed = filled_zeroed (e ∙ s.work_long ∙ p.work_long ∙ sym d.preparable.work_long) f;
        }
