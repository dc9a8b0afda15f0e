-- What one word of a power of five says of the float nearest to a literal, over whole numbers. Assumes nothing.
use Rattle.std.specs.Prelude.{◌≡◌, ◌⊎◌, ℕ, ◌+◌, ◌-◌, ◌*◌, ◌^◌, ◌≤◌, ◌<◌}
use Rattle.number_fives.specs.Rule.{least, place}
use Rattle.number_rounding.specs.Decided.{Best}
use Rattle.number_leading.specs.declared.Lead.{Lead}
use Rattle.number_leading.specs.declared.Lead.TheVariants.{Sure, Unsure}

-- n times ten to i - 342 is the fraction above / below
abbrev pub above : ℕ → ℕ → ℕ
above n i = n * 10 ^ (i - least)

abbrev pub below : ℕ → ℕ
below i = 10 ^ (least - i)

-- The fraction is at least c steps of 2 ^ k units and less than one and a half steps more.
pub record Between (n i c k : ℕ) : Type 0 where
  pub fit : c < 2 ^ 53
  pub full : (k ≡ 0) ⊎ (2 ^ 52 ≤ c)
  pub low : c * (below i * 2 ^ k) ≤ above n i * 2 ^ 1074
  pub high : above n i * 2 ^ 1074 * 2 < (c * 2 + 3) * (below i * 2 ^ k)

abbrev pub Leads : Lead → ℕ → ℕ → Type 0
Leads (Sure c k) n i = Best (above n i) (below i) c k × (k ≤ place i + i)
Leads (Unsure c k) n i = Between n i c k × (k ≤ place i + i)

-- ---- inside the crate

-- the fraction, in units of the smallest float and times 2 ^ (863 + s); and one grain of the leading word, as much larger
abbrev pub Fraction : ℕ → ℕ → ℕ → ℕ
Fraction n i s = above n i * 2 ^ 1074 * 2 ^ (863 + s)

abbrev pub Grain : ℕ → ℕ
Grain i = 2 ^ (place i + i + 796) * below i

-- the fraction is at least h grains of the word, and less than h + d
pub record Bracket (n i s h : ℕ) (d : ℕ) : Type 0 where
  pub low : h * Grain i ≤ Fraction n i s
  pub high : Fraction n i s < (h + d) * Grain i
