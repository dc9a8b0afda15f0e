-- `number_leading::split` meets its contract: the word brackets the fraction, so that only the half of a step is left open.
use mathlib.Core.Path.{subst}
use Prim.Native.Nat.{ℕ, ◌-◌, ◌/◌, ◌%◌, ◌^◌, ◌<◌}
use native.Mathlib.Nat.{mod-lt, lt_of_lt_of_le}
use native.Mathlib.Omega.{arith}
use lib.Pow.{pow_pos, pow_mono}
use Rattle.number_leading.specs.Leads.{Between}
use Rattle.number_leading.proofs.Interval.{settled_down, settled_up, between, quotient_small, none_left}
use Rattle.number_leading.proofs.Shifts.{one_shl}
use Rattle.number_leading.proofs.split.Goals as goal

pub returns-then-j-gt63 : goal.returns-then-j-gt63
returns-then-j-gt63 c =
    let open_at : Between c.args.n c.args.i (c.args.h / 2 ^ c.args.j) c.args.k = between c.args.n c.args.i c.args.s c.args.h c.args.k c.args.j c.requires.bracket c.requires.s_value.0 c.requires.s_value.1 c.requires.s_value.2 (omega arith) in
    (subst (λ (q : ℕ). Between c.args.n c.args.i q c.args.k) (none_left c.args.h c.args.j (omega arith) c.if-j-gt63.true) open_at, c.requires.s_value.3)

pub nonzero_rem-rest : goal.nonzero_rem-rest
nonzero_rem-rest c = rw (one_shl c.args.j c.if-j-gt63.false) (pow_pos c.args.j)

pub overflow_add-rest : goal.overflow_add-rest
overflow_add-rest c =
    let b : c.args.h % 2 ^ c.args.j < 2 ^ 63 = lt_of_lt_of_le (mod-lt c.args.h (pow_pos c.args.j)) (pow_mono {i = c.args.j} {j = 63} c.if-j-gt63.false) in
    rw (one_shl c.args.j c.if-j-gt63.false) (omega arith)

pub returns-then-rest-half : goal.returns-then-rest-half
returns-then-rest-half c = (settled_down c.args.n c.args.i c.args.s c.args.h c.args.k c.args.j c.requires.bracket c.requires.s_value.0 c.requires.s_value.1 c.requires.s_value.2 (omega arith) (rw (one_shl c.args.j c.if-j-gt63.false, one_shl (c.args.j - 1) (omega arith)) at c.if-rest-half.true), c.requires.s_value.3)

pub overflow_add-result : goal.overflow_add-result
overflow_add-result c = let q = quotient_small c.args.h c.args.j (omega arith) c.requires.s_value.1 in omega arith

pub returns-then-half-rest : goal.returns-then-half-rest
returns-then-half-rest c = (settled_up c.args.n c.args.i c.args.s c.args.h c.args.k c.args.j c.requires.bracket c.requires.s_value.0 c.requires.s_value.1 c.requires.s_value.2 (omega arith) (rw (one_shl c.args.j c.if-j-gt63.false, one_shl (c.args.j - 1) (omega arith)) at c.if-half-rest.true), c.requires.s_value.3)

pub returns : goal.returns
returns c =
    let open_at : Between c.args.n c.args.i (c.args.h / 2 ^ c.args.j) c.args.k = between c.args.n c.args.i c.args.s c.args.h c.args.k c.args.j c.requires.bracket c.requires.s_value.0 c.requires.s_value.1 c.requires.s_value.2 (omega arith) in
    (open_at, c.requires.s_value.3)
