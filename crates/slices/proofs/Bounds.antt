-- What the code's tests say of document 01's bounds: the element at a place, n added once, defaults, and the bringing into a range.
-- Assumes nothing.
use Prim.Native.Nat.{ℕ, zero, suc, ◌+◌, ◌≤◌, ◌<◌, zero-le}
use mathlib.Core.Path.{◌≡◌, refl, sym, ap, ◌∙◌, subst}
use mathlib.Core.List.{[], ◌∷◌}
use mathlib.Core.Bool.{Bool, true, false, cond, not}
use mathlib.Core.Option.{Option}
use native.Mathlib.Omega.{arith}
use borrow.Author.Tests.{lt-ltb, le-ltb, le-leb}
use lib.Dec.{T, leb→le, le→leb}
use lib.IntN.{ℤ, pos, negsuc, nat_abs, neg_ℤ, sub_ℕ, ◌+ℤ◌, ◌-ℤ◌, +ℤ-neg_ℤ_cancel, pos-ne-negsuc}
use lib.Signed.{mag, lt_z, non_neg, ◌≤ℤ◌, ≤ℤ_refl, lt_z_no}
use mir.Syntax.{w64}
use mir.Val.{SFits, Fits}
use Rattle.definition.specs.Limits.{max_int, max_nodes}
use Rattle.definition.specs.Literals.{in_range}
use Rattle.definition.specs.Slices.{add_once, element_at, clamp, slice_step, given_start, given_stop, slice_start, slice_stop}
use Rattle.slices.specs.Walks.{given, Between}
use Rattle.slices.proofs.Signs.{not-below, not_above, mag_sum, mag_negated, range_mag}

-- ---- n added once

pub added : (n : ℕ) (i : ℤ) → lt_z i (pos 0) ≡ true → i +ℤ pos n ≡ add_once n i
unfolding add_once
added n (pos k) e = not-below k e
added n (negsuc k) e = refl

pub not_added : (n : ℕ) (i : ℤ) → lt_z i (pos 0) ≡ false → i ≡ add_once n i
unfolding add_once
not_added n (pos k) e = refl
not_added n (negsuc k) e = not_above e

-- ---- the element at a place

pub element_before : (n : ℕ) (i : ℤ) → lt_z i (pos 0) ≡ true → [] ≡ element_at n i
unfolding element_at
element_before n (pos k) e = not-below k e
element_before n (negsuc k) e = refl

pub element_in : (n : ℕ) (i : ℤ) → lt_z i (pos 0) ≡ false → nat_abs i < n → nat_abs i ∷ [] ≡ element_at n i
unfolding element_at
element_in n (pos k) e h = rw (lt-ltb k n h)
element_in n (negsuc k) e h = not_above e

pub element_behind : (n : ℕ) (i : ℤ) → lt_z i (pos 0) ≡ false → n ≤ nat_abs i → [] ≡ element_at n i
unfolding element_at
element_behind n (pos k) e h = rw (le-ltb k n h)
element_behind n (negsuc k) e h = not_above e

-- ---- defaults

pub step_given : (b : Bool) (s : ℤ) → b ≡ true → s ≡ slice_step (given b s)
unfolding slice_step given
step_given true s e = refl
step_given false s e = not_above (sym e)

pub step_default : (b : Bool) (s : ℤ) → b ≡ false → pos 1 ≡ slice_step (given b s)
unfolding slice_step given
step_default true s e = not_above e
step_default false s e = refl

pub start_given : (n : ℕ) (b : Bool) (a s : ℤ) → b ≡ true → a ≡ given_start n (given b a) s
unfolding given_start given
start_given n true a s e = refl
start_given n false a s e = not_above (sym e)

pub start_last : (n : ℕ) (b : Bool) (a s : ℤ) → b ≡ false → lt_z s (pos 0) ≡ true → pos n -ℤ pos 1 ≡ given_start n (given b a) s
unfolding given_start given
start_last n true a s e h = not_above e
start_last n false a (pos k) e h = not-below k h
start_last n false a (negsuc k) e h = refl

pub start_first : (n : ℕ) (b : Bool) (a s : ℤ) → b ≡ false → lt_z s (pos 0) ≡ false → pos 0 ≡ given_start n (given b a) s
unfolding given_start given
start_first n true a s e h = not_above e
start_first n false a (pos k) e h = refl
start_first n false a (negsuc k) e h = not_above h

pub stop_given : (n : ℕ) (b : Bool) (a s : ℤ) → b ≡ true → a ≡ given_stop n (given b a) s
unfolding given_stop given
stop_given n true a s e = refl
stop_given n false a s e = not_above (sym e)

pub stop_before : (n : ℕ) (b : Bool) (a s : ℤ) → b ≡ false → lt_z s (pos 0) ≡ true → neg_ℤ (pos n) -ℤ pos 1 ≡ given_stop n (given b a) s
unfolding given_stop given
stop_before n true a s e h = not_above e
stop_before n false a (pos k) e h = not-below k h
stop_before n false a (negsuc k) e h = refl

pub stop_behind : (n : ℕ) (b : Bool) (a s : ℤ) → b ≡ false → lt_z s (pos 0) ≡ false → pos n ≡ given_stop n (given b a) s
unfolding given_stop given
stop_behind n true a s e h = not_above e
stop_behind n false a (pos k) e h = refl
stop_behind n false a (negsuc k) e h = not_above h

-- a number of small size is in range
small_in_range : (z : ℤ) → mag z < max_int → in_range z ≡ true
small_in_range (pos k) h = le-leb k max_int (omega arith)
small_in_range (negsuc k) h = le-leb (suc k) max_int (omega arith)

-- the defaults are in range
pub start_in_range : (n : ℕ) (b : Bool) (a s : ℤ) → n ≤ max_nodes → in_range a ≡ true → in_range (given_start n (given b a) s) ≡ true
unfolding given_start given
start_in_range n true a s h r = r
start_in_range n false a (pos k) h r = refl
start_in_range n false a (negsuc k) h r = small_in_range (pos n -ℤ pos 1) (omega (arith, mag_sum (pos n) (negsuc 0)))

pub stop_in_range : (n : ℕ) (b : Bool) (a s : ℤ) → n ≤ max_nodes → in_range a ≡ true → in_range (given_stop n (given b a) s) ≡ true
unfolding given_stop given
stop_in_range n true a s h r = r
stop_in_range n false a (pos k) h r = small_in_range (pos n) (omega arith)
stop_in_range n false a (negsuc k) h r = small_in_range (neg_ℤ (pos n) -ℤ pos 1) (omega (arith, mag_sum (neg_ℤ (pos n)) (negsuc 0), mag_negated n))

pub step_in_range : (b : Bool) (s : ℤ) → in_range s ≡ true → in_range (slice_step (given b s)) ≡ true
unfolding slice_step given
step_in_range true s r = r
step_in_range false s r = refl

-- ---- bringing into a range

-- a test for less that fails
not_less : (a b : ℤ) → lt_z a b ≡ false → b ≤ℤ a
not_less a b e = lt_z_no (subst (λ (t : Bool). T (not t)) (sym e) tt)

module _ (lo hi z : ℤ) where
  pub clamp_low : lt_z z lo ≡ true → lo ≡ clamp lo hi z
  unfolding clamp
  clamp_low e = rw e

  pub clamp_high : lt_z z lo ≡ false → lt_z hi z ≡ true → hi ≡ clamp lo hi z
  unfolding clamp
  clamp_high e h = rw (e, h)

  pub clamp_same : lt_z z lo ≡ false → lt_z hi z ≡ false → z ≡ clamp lo hi z
  unfolding clamp
  clamp_same e h = rw (e, h)

  -- what is brought into a range lies in it
  pub clamp_between : lo ≤ℤ hi → Between lo hi (clamp lo hi z)
  unfolding clamp
  clamp_between o = go (lt_z z lo) (lt_z hi z) refl refl
    where
      go : (p q : Bool) → lt_z z lo ≡ p → lt_z hi z ≡ q → Between lo hi (cond p lo (cond q hi z))
      go true q e f = record { low = ≤ℤ_refl lo; high = o }
      go false true e f = record { low = o; high = ≤ℤ_refl hi }
      go false false e f = record { low = not_less z lo e; high = not_less hi z f }

-- ---- from signed numbers to places

-- what lies at or above 0 is not below it
pub between_not_below : (i : ℤ) → pos 0 ≤ℤ i → lt_z i (pos 0) ≡ false
between_not_below (pos k) h = le-ltb k 0 zero-le
between_not_below (negsuc k) h = absurd h.le

pub not_below_same : (i : ℤ) → lt_z i (pos 0) ≡ false → pos (nat_abs i) ≡ i
not_below_same (pos k) h = refl
not_below_same (negsuc k) h = not_above h

-- of the numbers from -1 on, only -1 is below 0
pub minus_one_behind : (i : ℤ) → negsuc 0 ≤ℤ i → lt_z i (pos 0) ≡ true → pos 0 ≡ i +ℤ pos 1
minus_one_behind (pos k) l h = not-below k h
minus_one_behind (negsuc k) l h = rw (least k (leb→le k 0 l.le))
  where
    least : (k : ℕ) → k ≤ 0 → k ≡ 0
    least k h = omega arith

-- one more than a number that fits
pub behind_fits : (i : ℤ) → SFits w64 i → Fits w64 (nat_abs i + 1)
behind_fits (pos k) f = record { fits = omega (arith, f.sfits) }
behind_fits (negsuc k) f = record { fits = omega (arith, f.sfits) }

pub behind : (i : ℤ) → lt_z i (pos 0) ≡ false → pos (nat_abs i + 1) ≡ i +ℤ pos 1
behind (pos k) h = refl
behind (negsuc k) h = not_above h

-- a number in range without its sign
pub negated_fits : (i : ℤ) → in_range i ≡ true → SFits w64 (neg_ℤ i)
negated_fits (pos k) r = record { sfits = omega (arith, mag_negated k, range_mag (pos k) r) }
negated_fits (negsuc k) r = record { sfits = omega (arith, range_mag (negsuc k) r) }

pub negated_cast : (i : ℤ) → SFits w64 (neg_ℤ i) → lt_z i (pos 0) ≡ true → T (non_neg (neg_ℤ i)) × Fits w64 (nat_abs (neg_ℤ i))
negated_cast (pos k) f h = not-below k h
negated_cast (negsuc k) f h = (tt, record { fits = omega (arith, f.sfits) })

pub negated_size : (i : ℤ) → nat_abs (neg_ℤ i) ≡ nat_abs i
negated_size (pos zero) = refl
negated_size (pos (suc k)) = refl
negated_size (negsuc k) = refl

-- ---- places in their ranges

-- a range that ends later
pub between_more : (lo z : ℤ) (m n : ℕ) → m ≤ n → Between lo (pos m) z → Between lo (pos n) z
between_more lo z m n h b = record { low = b.low; high = later z b.high }
  where
    later : (z : ℤ) → z ≤ℤ pos m → z ≤ℤ pos n
    later (pos k) a = record { le = le→leb k n (omega (arith, leb→le k m a.le)) }
    later (negsuc k) a = record { le = tt }

-- a place is at most what its signed number is
pub at_most : (k n : ℕ) (z : ℤ) → pos k ≡ z → z ≤ℤ pos n → k ≤ n
at_most k n (pos j) e h = omega (arith, ap nat_abs e, leb→le j n h.le)
at_most k n (negsuc j) e h = absurd (pos-ne-negsuc k j e)

pub behind_at_most : (k n : ℕ) (z : ℤ) → pos k ≡ z +ℤ pos 1 → Between (negsuc 0) (pos n) z → k ≤ suc n
behind_at_most k n (pos j) e h = omega (arith, ap nat_abs e, leb→le j n h.high.le)
behind_at_most k n (negsuc j) e h = omega (arith, ap nat_abs (e ∙ sym (minus_one_behind (negsuc j) h.low refl)))

-- one more, and back
pub behind_back : (k : ℕ) (z : ℤ) → pos k ≡ z +ℤ pos 1 → sub_ℕ k 1 ≡ z
behind_back k z e = ap (λ (y : ℤ). y -ℤ pos 1) e ∙ +ℤ-neg_ℤ_cancel z (pos 1)

-- a size with its sign given back
pub sized_pos : (k : ℕ) (z : ℤ) → k ≡ nat_abs z → lt_z z (pos 0) ≡ true → 0 < k
sized_pos k (pos j) e h = not-below j h
sized_pos k (negsuc j) e h = omega arith

pub sized_below : (k : ℕ) (z : ℤ) → k ≡ nat_abs z → lt_z z (pos 0) ≡ true → neg_ℤ (pos k) ≡ z
sized_below k (pos j) e h = not-below j h
sized_below k (negsuc j) e h = rw e

pub sized_above : (k : ℕ) (z : ℤ) → k ≡ nat_abs z → lt_z z (pos 0) ≡ false → pos k ≡ z
sized_above k z e h = ap pos e ∙ not_below_same z h

-- document 01's start and stop lie in their ranges
pub start_between : (n : ℕ) (a : Option ℤ) (s : ℤ) → Between (pos 0) (pos n) (slice_start n a s)
unfolding slice_start
start_between n a s = clamp_between (pos 0) (pos n) (add_once n (given_start n a s)) (record { le = le→leb 0 n zero-le })

pub stop_between : (n : ℕ) (b : Option ℤ) (s : ℤ) → Between (negsuc 0) (pos n) (slice_stop n b s)
unfolding slice_stop
stop_between n b s = clamp_between (negsuc 0) (pos n) (add_once n (given_stop n b s)) (record { le = tt })
