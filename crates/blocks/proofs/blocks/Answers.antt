-- `blocks::blocks` meets its contract. Each block in turn. Invariant `Passing`: no row applies to the blocks passed.
use Prim.Native.Nat.{ℕ}
use mathlib.Core.List.{List}
use mathlib.Core.Path.{◌≡◌, ap₂, ◌∙◌}
use borrow.Author.Rules.{rules}
use Rattle.refusal.proofs.Rows.{passed_front}
use Rattle.format.specs.promise.Format.{blocks_of}
use Rattle.format.specs.promise.Filed.{vertices_filed, edges_filed}
use Rattle.format.specs.promise.Faults.{block_rows}
use Rattle.format.proofs.InTurn.{passing_none, passing_more, passing_first, passing_all, passing_present}
use Rattle.blocks.proofs.blocks.Goals as goal

-- how many blocks there are
all_is : (file : List ℕ) {n m all : ℕ} → all ≡ blocks_of n m → n ≡ vertices_filed file → m ≡ edges_filed file → all ≡ blocks_of (vertices_filed file) (edges_filed file)
all_is file e n m = e ∙ ap₂ blocks_of n m

pub loop-b-init : goal.loop-b-init
loop-b-init c = passing_none

pub block-requires : goal.block-requires
block-requires c = passing_present _ _ (all_is c.args.file.now c.all_blocks-b-end.ensures c.vertices.ensures.is c.edges.ensures.is) _ c.requires c.loop-b-test.true

pub returns-in_err-block : goal.returns-in_err-block
returns-in_err-block c =
    passing_first _ _ (all_is c.args.file.now c.all_blocks-b-end.ensures c.vertices.ensures.is c.edges.ensures.is) _ c.loop-b.invariant c.loop-b.auto.b c.loop-b-test.true c.block.ensures c.in_err-block.was (search rules)

pub loop-b-preserved : goal.loop-b-preserved
loop-b-preserved c = passing_more c.loop-b.invariant (passed_front (block_rows _ _) c.block.ensures c.in_ok-block.was)

pub returns : goal.returns
returns c = passing_all _ _ (all_is c.args.file.now c.all_blocks-b-end.ensures c.vertices.ensures.is c.edges.ensures.is) _ c.loop-b.invariant c.loop-b-test.false
