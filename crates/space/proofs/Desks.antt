-- Desks: a store keeps the sizes.
use Prim.Native.Nat.{ℕ}
use mathlib.Core.Path.{◌≡◌, sym, subst, ◌∙◌}
use lib.ListN.{length-set}
use Rattle.space.specs.declared.desk.Desk.{Desk}
use Rattle.space.specs.parts.Desk.{Laid, put_first, put_last, put_waits, put_level, put_piled}

pub laid_first : {d d' : Desk} (k x : ℕ) → d' ≡ put_first k x d → Laid d → Laid d'
laid_first {d} k x e l = subst Laid (sym e) (record { firsts_long = length-set d.firsts k x ∙ l.firsts_long; lasts_long = l.lasts_long; waiting_long = l.waiting_long; levels_long = l.levels_long; pile_long = l.pile_long })

pub laid_last : {d d' : Desk} (k x : ℕ) → d' ≡ put_last k x d → Laid d → Laid d'
laid_last {d} k x e l = subst Laid (sym e) (record { firsts_long = l.firsts_long; lasts_long = length-set d.lasts k x ∙ l.lasts_long; waiting_long = l.waiting_long; levels_long = l.levels_long; pile_long = l.pile_long })

pub laid_waits : {d d' : Desk} (v x : ℕ) → d' ≡ put_waits v x d → Laid d → Laid d'
laid_waits {d} v x e l = subst Laid (sym e) (record { firsts_long = l.firsts_long; lasts_long = l.lasts_long; waiting_long = length-set d.waiting v x ∙ l.waiting_long; levels_long = l.levels_long; pile_long = l.pile_long })

pub laid_level : {d d' : Desk} (v x : ℕ) → d' ≡ put_level v x d → Laid d → Laid d'
laid_level {d} v x e l = subst Laid (sym e) (record { firsts_long = l.firsts_long; lasts_long = l.lasts_long; waiting_long = l.waiting_long; levels_long = length-set d.levels v x ∙ l.levels_long; pile_long = l.pile_long })

pub laid_piled : {d d' : Desk} (i x : ℕ) → d' ≡ put_piled i x d → Laid d → Laid d'
laid_piled {d} i x e l = subst Laid (sym e) (record { firsts_long = l.firsts_long; lasts_long = l.lasts_long; waiting_long = l.waiting_long; levels_long = l.levels_long; pile_long = length-set d.pile i x ∙ l.pile_long })
