-- `decoding::fields::priorities` meets its contract: the blank table is filled.
use mathlib.Core.Path.{sym, ◌∙◌}
use native.Mathlib.Omega.{arith}
use borrow.Author.Rules.{rules}
use Rattle.format.proofs.Lists.{priorities_long}
use Rattle.decoding.proofs.Filling.{padded_front}
use Rattle.decoding.proofs.fields.priorities.Goals as goal

pub returns : goal.returns
returns c =
    padded_front _ c.requires.1 (omega arith) (c.vertices.ensures.is ∙ sym (priorities_long c.args.file.now)) (omega (arith, c.requires.0.few)) c.fill.ensures.long (λ k l. (let p = c.fill.ensures.filled k 0 l in search rules))
