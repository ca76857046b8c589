-- A block at which none of 42, 43, 44 applies is one whose bytes are right, and the other way round.
use Prim.Native.Nat.{ℕ, ◌+◌, ◌*◌, ◌<◌, ◌≤◌}
use mathlib.Core.Path.{◌≡◌, refl}
use mathlib.Core.List.{List}
use native.Mathlib.Omega.{arith}
use native.Mathlib.Decide.{ℕ_discrete, dec_lt}
use Rattle.refusal.specs.promise.Row.{NoPlace, None}
use Rattle.format.specs.promise.Format.{check_of, kind_of, used_of}
use Rattle.format.specs.promise.Filed.{byte_at, word_at, vertices_filed, edges_filed, rule_filed}
use Rattle.format.specs.promise.Faults.{Fault43, Fault44, number, kind, byte3, used, unused, rule, block_rows}

pub record Right (file : List ℕ) (b : ℕ) : Type 0 where
  pub is_number : word_at file (512 * b) ≡ b
  pub is_kind : byte_at file (512 * b + 2) ≡ kind_of (vertices_filed file) b
  pub is_zero : byte_at file (512 * b + 3) ≡ 0
  pub is_used : word_at file (512 * b + 4) ≡ used_of (vertices_filed file) (edges_filed file) b
  pub is_clean : (k : ℕ) → used_of (vertices_filed file) (edges_filed file) b ≤ k → k < 504 → byte_at file (512 * b + 6 + k) ≡ 0
  pub is_rule : b ≡ 0 → rule_filed file ≤ 1
  pub is_check : word_at file (512 * b + 510) ≡ check_of (λ i. byte_at file (512 * b + i))

-- an equation that cannot fail holds
holds : (x y : ℕ) → ¬ (¬ (x ≡ y)) → x ≡ y
holds x y h = elim (ℕ_discrete x y) [ yes e ↦ e | no n ↦ absurd (h n) ]

module _ (file : List ℕ) (b : ℕ) where
  pub right_of : None (block_rows file b) → Right file b
  right_of none =
      record {
        is_number = holds _ _ (λ n. none.1.0 b (number refl n));
        is_kind = holds _ _ (λ n. none.1.0 b (kind refl n));
        is_zero = holds _ _ (λ n. none.1.1.0 b (byte3 refl n));
        is_used = holds _ _ (λ n. none.1.1.0 b (used refl n));
        is_clean = λ k l m. holds _ _ (λ n. none.1.1.0 b (unused refl k l m n));
        is_rule = λ z. elim (dec_lt 1 (rule_filed file)) [ yes l ↦ absurd (none.1.1.0 b (rule refl z l)) | no h ↦ omega arith ];
        is_check = holds _ _ (λ n. none.0 b (record { place = refl; wrong = n }));
      }

  pub none_of_right : Right file b → None (block_rows file b)
  none_of_right r = ((λ x f. f.wrong r.is_check), (none43, (none44, tt)))
    where
      none43 : NoPlace (Fault43 file b)
      none43 x (number _ n) = n r.is_number
      none43 x (kind _ n) = n r.is_kind

      none44 : NoPlace (Fault44 file b)
      none44 x (byte3 _ n) = n r.is_zero
      none44 x (used _ n) = n r.is_used
      none44 x (unused _ k l m n) = n (r.is_clean k l m)
      none44 x (rule _ z l) = let h : rule_filed file ≤ 1 = r.is_rule z in omega arith
