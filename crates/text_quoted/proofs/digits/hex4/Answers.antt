-- `text_quoted::digits::hex4` meets its contract. The four answers decide.
use native.Mathlib.Omega.{arith}
use Prim.Native.Nat.{◌+◌}
use lib.ListN.{get_or}
use Rattle.text_quoted.proofs.Hexes.{digits_short, first_wrong, second_wrong, third_wrong, fourth_wrong, four_digits, digit_small}
use Rattle.text_quoted.proofs.digits.hex4.Goals as goal

pub returns-then-s-at-lt4 : goal.returns-then-s-at-lt4
returns-then-s-at-lt4 c = digits_short c.args.s.now c.args.at c.if-s-at-lt4.true

pub returns-in_err-a : goal.returns-in_err-a
returns-in_err-a c = rw c.from_residual.ensures (first_wrong c.args.s.now c.args.at (omega arith) c.in_err-a.ensures)

pub returns-in_err-b : goal.returns-in_err-b
returns-in_err-b c = rw c.from_residual-in_err-b.ensures (second_wrong c.args.s.now c.args.at (omega arith) c.in_err-b.ensures)

pub returns-in_err-c : goal.returns-in_err-c
returns-in_err-c c = rw c.from_residual-in_err-c.ensures (third_wrong c.args.s.now c.args.at (omega arith) c.in_err-c.ensures)

pub returns-in_err-d : goal.returns-in_err-d
returns-in_err-d c = rw c.from_residual-in_err-d.ensures (fourth_wrong c.args.s.now c.args.at (omega arith) c.in_err-d.ensures)

pub joined-requires : goal.joined-requires
joined-requires c =
    let s = c.args.s.now in
    let at = c.args.at in (
      omega (arith, digit_small (get_or s at 0) c.in_ok-a.a c.in_ok-a.ensures),
      omega (arith, digit_small (get_or s (at + 1) 0) c.in_ok-b.b c.in_ok-b.ensures),
      omega (arith, digit_small (get_or s (at + 2) 0) c.in_ok-c.c c.in_ok-c.ensures),
      omega (arith, digit_small (get_or s (at + 3) 0) c.in_ok-d.d c.in_ok-d.ensures),
    )

pub returns : goal.returns
returns c = rw c.joined.ensures (four_digits c.args.s.now c.args.at (omega arith) c.in_ok-a.a c.in_ok-b.b c.in_ok-c.c c.in_ok-d.d c.in_ok-a.ensures c.in_ok-b.ensures c.in_ok-c.ensures c.in_ok-d.ensures)
