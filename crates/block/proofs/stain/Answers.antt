-- `block::stain` meets its contract: no unused byte before the one that is found is set.
use Rattle.std.proofs.Common.{ℕ, List, Option, Some, None, MatchOption, ◌≡◌, ◌≢◌, ◌+◌, ◌<◌, ◌≤◌, rules}
use Rattle.std.proofs.lemmas.Iterator.{first_from_Range}
use Rattle.refusal.specs.parts.Found.{Finds}
use Rattle.format.specs.promise.Filed.{byte_at}
use Rattle.block.specs.parts.Bytes.{Stain}
use Rattle.block.proofs.stain.Goals as goal

stain_first : (file : List ℕ) (from used : ℕ) (r : Option ℕ) → MatchOption r ((k : ℕ) → used ≤ k → k < 504 → byte_at file (from + 6 + k) ≡ 0) (λ i. (used ≤ i) × (i < 504) × (byte_at file (from + 6 + i) ≢ 0) × ((k : ℕ) → used ≤ k → k < i → byte_at file (from + 6 + k) ≡ 0)) → Finds (Stain file from used) r
stain_first file from used (Some i) m = record { holds = record { unused = m.0; payload = m.1; set = m.2 }; lower = λ y l s. s.set (m.3 y s.unused l) }
stain_first file from used None m = λ x s. s.set (m x s.unused s.payload)

pub returns : goal.returns
returns c =
    let byte = λ (k : ℕ). byte_at c.args.file.now (c.args.from + 6 + k) in
    stain_first _ _ _ _ (first_from_Range _ _ _ _ (λ k. byte k ≢ 0) (λ k. byte k ≡ 0) c.find.ensures.ran (λ k f e. search rules) (λ k f e. search rules))
