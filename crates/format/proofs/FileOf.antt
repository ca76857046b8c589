-- The file of a filing, read by block and byte.
use Prim.Native.Nat.{ℕ, ◌+◌, ◌*◌, ◌/◌, ◌%◌, ◌<◌}
use mathlib.Core.Path.{◌≡◌, ap₂, ◌∙◌}
use native.Mathlib.Omega.{arith}
use lib.ListN.{length, get_or}
use Rattle.game.specs.promise.Tables.{vertices}
use Rattle.format.specs.promise.Format.{Filing, blocks_of, block_byte, file_of}
use Rattle.lists.proofs.Tabulate.{length_tabulate, tabulate_at}

module _ (f : Filing) where
  pub file_long : length (file_of f) ≡ 512 * blocks_of (vertices f.tables) (length f.tables.targets)
  unfolding file_of
  file_long = length_tabulate (512 * blocks_of (vertices f.tables) (length f.tables.targets)) (λ i. block_byte f (i / 512) (i % 512))

  pub file_at : (i : ℕ) → i < 512 * blocks_of (vertices f.tables) (length f.tables.targets) → get_or (file_of f) i 0 ≡ block_byte f (i / 512) (i % 512)
  unfolding file_of
  file_at i l = tabulate_at (512 * blocks_of (vertices f.tables) (length f.tables.targets)) (λ i. block_byte f (i / 512) (i % 512)) i l

  pub file_byte : (b i : ℕ) → b < blocks_of (vertices f.tables) (length f.tables.targets) → i < 512 → get_or (file_of f) (512 * b + i) 0 ≡ block_byte f b i
  file_byte b i l m =
      let q : (512 * b + i) / 512 ≡ b = omega arith in
      let r : (512 * b + i) % 512 ≡ i = omega arith in
      file_at (512 * b + i) (omega arith) ∙ ap₂ (block_byte f) q r
