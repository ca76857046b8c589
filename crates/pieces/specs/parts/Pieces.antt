-- What the pieces of a block ask, and which bytes they put, by place in the block.
use Rattle.std.specs.Prelude.{ℕ, zero, suc, ◌+◌, ◌-◌, ◌/◌, ◌%◌, ◌<◌, ◌≤◌, ◌≡◌, List, length, get_or}
use Rattle.game.specs.promise.Tables.{Tables, vertices}
use Rattle.format.specs.promise.Format.{Filing, low_high, head_byte, vertex_byte}

-- two numbers, each of which two bytes hold, and room for a block
pub record Words (x y : ℕ) (part : List ℕ) : Type 0 where
  pub first : x < 65536
  pub second : y < 65536
  pub long : length part ≡ 512

-- vertices from the first on, with room for a block
pub record Run (t : Tables) (first : ℕ) (part : List ℕ) : Type 0 where
  pub low : first < 65536
  pub level : length t.priorities ≡ vertices t
  pub bounds : length t.starts ≡ vertices t + 1
  pub onward : (v : ℕ) → v < vertices t → get_or t.starts v 0 ≤ get_or t.starts (v + 1) 0
  pub long : length part ≡ 512

-- the bytes before the payload: number, kind, zero, used count
abbrev pub name_byte : (b kind used i : ℕ) → ℕ
name_byte b kind used zero = b % 256
name_byte b kind used (suc zero) = b / 256
name_byte b kind used (suc (suc zero)) = kind
name_byte b kind used (suc (suc (suc zero))) = 0
name_byte b kind used (suc (suc (suc (suc k)))) = low_high used k

-- the header's payload
abbrev pub head_at : Filing → ℕ → ℕ
head_at f i = head_byte f (i - 6)

-- vertices from the first on, four bytes each
abbrev pub vertex_at : Tables → (first i : ℕ) → ℕ
vertex_at t first i = vertex_byte t (first + (i - 6) / 4) ((i - 6) % 4)

-- targets from the first on, two bytes each
abbrev pub target_at : List ℕ → (first i : ℕ) → ℕ
target_at targets first i = low_high (get_or targets (first + (i - 6) / 2) 0) ((i - 6) % 2)

-- the unused part
abbrev pub zero_byte : ℕ → ℕ
zero_byte i = 0
