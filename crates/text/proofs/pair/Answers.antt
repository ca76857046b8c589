-- `text::pair` meets its contract. The word, the space, then the two fields (Fields).
use mathlib.Core.List.{[], ◌∷◌}
use Rattle.text.specs.promise.Text.{decimal_of, line_of}
use Rattle.text.proofs.Appending.{appended_both}
use Rattle.text.proofs.Fields.{field_both}
use Rattle.text.proofs.pair.Goals as goal

pub returns : goal.returns
returns c =
    let n = decimal_of c.args.n in
    let m = decimal_of c.args.m in
    appended_both c.args.first.now (32 ∷ line_of (n ∷ m ∷ [])) c.word-a.ensures
    (appended_both (32 ∷ []) (line_of (n ∷ m ∷ [])) c.byte-b.ensures (field_both n 32 _ c.field-c.ensures c.field.ensures))
