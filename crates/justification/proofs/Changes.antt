-- The two steps as functions: the new marks, moves and flags, and that they are what the steps' relations say.
use Prim.Native.Nat.{ℕ}
use mathlib.Core.Path.{◌≡◌, refl, ◌∙◌}
use mathlib.Core.Logic.{◌≢◌, ite, if_pos, if_neg}
use native.Mathlib.Decide.{ℕ_discrete}
use native.Mathlib.Omega.{arith}
use Rattle.player.specs.promise.Player.{parity_of, opponent_of}
use Rattle.game.specs.promise.Game.{Game}
use Rattle.justification.specs.parts.Step.{Kept, Turned}

-- f with x at v
unfoldable pub put : ℕ → ℕ → (ℕ → ℕ) → ℕ → ℕ
put v x f u = ite (ℕ_discrete u v) x (f u)

put_here : (v x : ℕ) (f : ℕ → ℕ) → put v x f v ≡ x
unfolding put
put_here v x f = if_pos (ℕ_discrete v v) refl x (f v)

put_other : {v u : ℕ} (x : ℕ) (f : ℕ → ℕ) → u ≢ v → put v x f u ≡ f u
unfolding put
put_other {v} {u} x f d = if_neg (ℕ_discrete u v) d x (f u)

module _ (g : Game) (mark move settled : ℕ → ℕ) (v m : ℕ) where
  pub kept : Kept mark move settled (put v (parity_of (g.priority v)) mark) (put v m move) (put v 1 settled) g v m
  kept =
      record {
        here = record { marked = put_here v _ mark; moved = put_here v m move; flag = put_here v 1 settled };
        elsewhere = λ u l d. record { marked = put_other _ mark d; moved = put_other m move d; flag = put_other 1 settled d };
      }

  module _ (R : ℕ → Type 0) (decided : (u : ℕ) → Dec (R u)) where
    -- open again in R: with one's own parity, and no flag
    unfoldable pub reset_mark : ℕ → ℕ
    reset_mark u = ite (decided u) (parity_of (g.priority u)) (mark u)

    unfoldable pub reset_flag : ℕ → ℕ
    reset_flag u = ite (decided u) 0 (settled u)

    pub turned : Turned mark move settled (put v (opponent_of (parity_of (g.priority v))) reset_mark) (put v m move) (put v 1 reset_flag) g R v m
    unfolding reset_mark reset_flag
    turned =
        record {
          here = record { marked = put_here v _ reset_mark; moved = put_here v m move; flag = put_here v 1 reset_flag };
          reopened =
              λ u l d r.
              let flag : put v 1 reset_flag u ≡ 0 = put_other 1 reset_flag d ∙ if_pos (decided u) r 0 (settled u) in
              (omega arith, put_other _ reset_mark d ∙ if_pos (decided u) r _ _);
          elsewhere =
              λ u l d r.
              record {
                marked = put_other _ reset_mark d ∙ if_neg (decided u) r _ _;
                moved = put_other m move d;
                flag = put_other 1 reset_flag d ∙ if_neg (decided u) r _ _;
              };
        }
