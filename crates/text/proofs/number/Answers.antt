-- `text::number` meets its contract. The library's digits are the number's (Decimals), and the word appends them.
use mathlib.Core.Path.{sym}
use native.Mathlib.Omega.{arith}
use Rattle.text.proofs.Appending.{room_as, appended_as}
use Rattle.text.proofs.Decimals.{spelled}
use Rattle.text.proofs.number.Goals as goal

pub word-requires : goal.word-requires
word-requires c = room_as (sym (spelled (omega (arith, c.ranges.n)) c.decimal-k.ensures.len c.decimal-k.ensures.digits)) c.requires

pub returns : goal.returns
returns c = appended_as (spelled (omega (arith, c.ranges.n)) c.decimal-k.ensures.len c.decimal-k.ensures.digits) c.word.ensures
