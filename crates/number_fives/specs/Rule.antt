-- The rule of the table: what the leading 64 bits of a power of five are, over whole numbers alone. Assumes nothing.
use Rattle.std.specs.Prelude.{ℕ, suc, ◌+◌, ◌-◌, ◌*◌, ◌/◌, ◌^◌, ◌≤◌, ◌<◌}

-- Entry i belongs to 5 ^ (i - least), for i below `powers`: the exponents -342..308.
abbrev pub least : ℕ
least = 342

abbrev pub powers : ℕ
powers = 651

-- 5 ^ (i - 342) is x * 2 ^ (place i - 863) for an x of 64 bits and a remainder; 152170 / 65536 is a little above the binary logarithm of 5.
abbrev pub place : ℕ → ℕ
place i = (152170 * i + 386660) / 65536

-- x is the first 64 bits of 5 ^ (i - 342): one of the two powers of five is 1, by which side of `least` i is on.
pub record Leading (i x : ℕ) : Type 0 where
  pub low : x * 2 ^ place i * 5 ^ (least - i) ≤ 5 ^ (i - least) * 2 ^ 863
  pub high : 5 ^ (i - least) * 2 ^ 863 < suc x * 2 ^ place i * 5 ^ (least - i)
  pub full : 2 ^ 63 ≤ x
