-- `decoding::fields::targets` meets its contract: the blank table is filled.
use mathlib.Core.Path.{sym, ◌∙◌}
use native.Mathlib.Omega.{arith}
use borrow.Author.Rules.{rules}
use Rattle.format.proofs.Lists.{targets_long}
use Rattle.decoding.proofs.Filling.{padded_front}
use Rattle.decoding.proofs.fields.targets.Goals as goal

pub returns : goal.returns
returns c =
    padded_front _ c.requires.1 (omega arith) (c.edges.ensures.is ∙ sym (targets_long c.args.file.now)) (omega (arith, c.requires.0.edges)) c.fill.ensures.long (λ k l. (let p = c.fill.ensures.filled k 0 l in search rules))
