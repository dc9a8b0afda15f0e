-- `number_fives::five` meets its contract: antt computes the test over the whole table, once.
use mathlib.Core.Path.{◌≡◌, refl}
use mathlib.Core.List.{List, [], ◌++◌}
use Prim.Native.Nat.{ℕ, ◌+◌, ◌-◌, ◌≤◌, ◌<◌}
use native.Mathlib.Nat.{zero-add}
use native.Mathlib.Omega.{arith}
use lib.Dec.{T}
use Rattle.number_fives.proofs.LowEntries.{low}
use Rattle.number_fives.proofs.MiddleEntries.{middle}
use Rattle.number_fives.proofs.HighEntries.{high}
use Rattle.number_fives.proofs.Table.{every, right, ruled_part}
use Rattle.number_fives.proofs.five.Goals as goal

-- the whole table
fives : List ℕ
fives = low ++ (middle ++ high)

-- The test passes over it.
tested : T (every right 0 fives)
unfolding low middle high fives
tested = tt

behind : (b i : ℕ) → b ≤ i → b + (i - b) ≡ i
behind b i h = omega arith

within : (b n i : ℕ) → i < b + n → b ≤ i → i - b < n
within b n i h l = omega arith

pub returns-then-i-lt-MIDDLE_FROM : goal.returns-then-i-lt-MIDDLE_FROM
unfolding low middle high fives
returns-then-i-lt-MIDDLE_FROM c = ruled_part fives [] low (middle ++ high) tested refl c.args.i c.args.i (zero-add _) c.if-i-lt-MIDDLE_FROM.true

pub returns-then-i-lt-HIGH_FROM : goal.returns-then-i-lt-HIGH_FROM
unfolding low middle high fives
returns-then-i-lt-HIGH_FROM c = ruled_part fives low middle high tested refl c.args.i (c.args.i - 217) (behind 217 c.args.i c.if-i-lt-MIDDLE_FROM.false) (within 217 217 c.args.i c.if-i-lt-HIGH_FROM.true c.if-i-lt-MIDDLE_FROM.false)

pub returns : goal.returns
unfolding low middle high fives
returns c = ruled_part fives (low ++ middle) high [] tested refl c.args.i (c.args.i - 434) (behind 434 c.args.i c.if-i-lt-HIGH_FROM.false) (within 434 217 c.args.i c.requires c.if-i-lt-HIGH_FROM.false)
