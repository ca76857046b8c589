-- 46, and the output block by block
pub mod Lengths
pub mod Blocks
-- theorems: success exactly if; no second outcome
pub mod Exactly
pub mod Determined
