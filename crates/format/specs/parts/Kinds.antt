-- The kinds of block, by their numbers in a file.
use Rattle.std.specs.Prelude.{ℕ}
use Rattle.format.specs.declared.extent.BlockKind.{BlockKind}
use Rattle.format.specs.declared.extent.BlockKind.TheVariants as kind

abbrev pub kind_number : BlockKind → ℕ
kind_number kind.Header = 1
kind_number kind.Vertices = 2
kind_number kind.Targets = 3
