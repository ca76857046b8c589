-- The checker's promise has no second outcome, and an answer that fits is accepted exactly if it is right.
use Prim.Native.Nat.{ℕ}
use mathlib.Core.Path.{◌≡◌, refl, sym, ap, ◌∙◌}
use mathlib.Core.List.{List, []}
use lib.ListN.{length}
use Rattle.std.specs.Prelude.{Result, Ok, Err}
use Rattle.refusal.specs.promise.Row.{Said, success, refused, None}
use Rattle.refusal.specs.declared.Refusal.{Refusal}
use Rattle.refusal.specs.promise.Number.{number_of, tested_said}
use Rattle.refusal.proofs.Rows.{first_not_none, first_unique, none_append}
use Rattle.refusal.proofs.Numbers.{refusal_unique}
use Rattle.game.specs.promise.Tables.{Tables, vertices, WellFormed}
use Rattle.storage.specs.promise.Answer.{Answer}
use Rattle.game.specs.promise.Lent.{Fit}
use Rattle.storage.specs.promise.Lent.{lent_sizes}
use Rattle.storage.proofs.Zeros.{leaves_unique, zeroed_unique}
use Rattle.storage.proofs.Passed.{lent_fits}
use Rattle.checker.specs.promise.Checking.{IsRight, judge_rows, before_rows, check_rows, Checks}
use Rattle.checker.proofs.Verdicts.{none_of_right}

-- what is said determines the verdict
said_unique : (v w : Result Unit Refusal) → tested_said v ≡ tested_said w → v ≡ w
said_unique (Ok x) (Ok y) e = refl
said_unique (Ok x) (Err r) e = absurd (cc)
said_unique (Err q) (Ok y) e = absurd (cc)
said_unique (Err q) (Err r) e = ap Err (refusal_unique q r e)

module _ (t : Tables) (a : Answer) (work : List ℕ) where
  -- none of the rows applies to a right answer that 1 to 8 let pass
  none_at_all : None (before_rows t a work) → IsRight t a → None (check_rows t a work)
  none_at_all n r = none_append (before_rows t a work) (judge_rows t a) n (none_of_right t a r)

  -- two outcomes on the same input say the same and leave the same work space
  pub checks_unique : (work1 work2 : List ℕ) (v w : Said) → Checks t a work work1 v → Checks t a work work2 w → (v ≡ w) × (work1 ≡ work2)
  checks_unique work1 work2 (success p) (success q) x y = (ap success (x.no_value ∙ sym y.no_value), zeroed_unique x.zeroed y.zeroed)
  checks_unique work1 work2 (success p) (refused l u) x y = absurd (first_not_none (check_rows t a work) l u y.first (none_at_all x.none x.right))
  checks_unique work1 work2 (refused k z) (success q) x y = absurd (first_not_none (check_rows t a work) k z x.first (none_at_all y.none y.right))
  checks_unique work1 work2 (refused k z) (refused l u) x y =
      let e : refused k z ≡ refused l u = first_unique (check_rows t a work) k l z u x.first y.first in
      let same : k ≡ l = cc in
      (e, leaves_unique same x.leaves y.leaves)

  -- so no second verdict satisfies the promise
  pub answer_unique : (work1 work2 : List ℕ) (v w : Result Unit Refusal) → Checks t a work work1 (tested_said v) → Checks t a work work2 (tested_said w) → v ≡ w
  answer_unique work1 work2 v w x y = said_unique v w (checks_unique work1 work2 (tested_said v) (tested_said w) x y).0

  -- an accepted answer is right, and a right one to a well-formed game, in lists that fit, is accepted
  pub accepted_is_right : (work' : List ℕ) → Checks t a work work' (success []) → IsRight t a
  accepted_is_right work' x = x.right

  pub right_is_accepted :
      (work' : List ℕ) (v : Result Unit Refusal) → WellFormed t → Fit (lent_sizes (vertices t) (length a.winners) (length a.moves) (length work)) → IsRight t a →
      Checks t a work work' (tested_said v) → v ≡ Ok tt
  right_is_accepted work' (Ok u) w f r x = refl
  right_is_accepted work' (Err q) w f r x =
      absurd (first_not_none (check_rows t a work) (number_of q.kind) q.place x.first (none_at_all (lent_fits t _ _ _ w f) r))
