-- `text_quoted::digits::low_after` meets its contract. Backslash, u, four digits, and their range.
use native.Mathlib.Omega.{arith}
use Prim.Native.Nat.{◌+◌}
use mathlib.Core.Path.{◌≡◌}
use mathlib.Core.List.{◌∷◌}
use lib.ListN.{drop}
use Rattle.utf8_laws.specs.Bytes.{inside}
use Rattle.text_quoted.proofs.Hexes.{under, beyond}
use Rattle.text_quoted.proofs.Places.{here_two}
use Rattle.text_quoted.proofs.Lows.{low_short, low_slash, low_letter, low_digits, low_not, low_found}
use Rattle.text_quoted.proofs.digits.low_after.Goals as goal

pub returns-then-s-at-lt2 : goal.returns-then-s-at-lt2
returns-then-s-at-lt2 c = low_short c.args.s.now c.args.at c.if-s-at-lt2.true

pub returns-then-s-at-ne92 : goal.returns-then-s-at-ne92
returns-then-s-at-ne92 c = low_slash c.args.s.now c.args.at (omega arith) c.if-s-at-ne92.true

pub returns-then-s-at-ne117 : goal.returns-then-s-at-ne117
returns-then-s-at-ne117 c = low_letter c.args.s.now c.args.at (omega arith) c.if-s-at-ne117.true

pub returns-in_err-v : goal.returns-in_err-v
returns-in_err-v c =
    let begins : drop c.args.at c.args.s.now ≡ 0x5C ∷ 0x75 ∷ drop (c.args.at + 2) c.args.s.now = here_two c.args.s.now c.args.at 0x5C 0x75 (omega arith) c.if-s-at-ne92.false c.if-s-at-ne117.false in
    rw c.from_residual.ensures (low_digits c.args.s.now c.args.at begins c.in_err-v.ensures)

pub returns-then-v-lt-LOW_FIRST : goal.returns-then-v-lt-LOW_FIRST
returns-then-v-lt-LOW_FIRST c =
    let begins : drop c.args.at c.args.s.now ≡ 0x5C ∷ 0x75 ∷ drop (c.args.at + 2) c.args.s.now = here_two c.args.s.now c.args.at 0x5C 0x75 (omega arith) c.if-s-at-ne92.false c.if-s-at-ne117.false in
    low_not c.args.s.now c.args.at begins c.in_ok-v.v c.in_ok-v.ensures (under 0xDC00 0xDFFF c.in_ok-v.v (omega arith))

pub returns-then-v-gt-LOW_LAST : goal.returns-then-v-gt-LOW_LAST
returns-then-v-gt-LOW_LAST c =
    let begins : drop c.args.at c.args.s.now ≡ 0x5C ∷ 0x75 ∷ drop (c.args.at + 2) c.args.s.now = here_two c.args.s.now c.args.at 0x5C 0x75 (omega arith) c.if-s-at-ne92.false c.if-s-at-ne117.false in
    low_not c.args.s.now c.args.at begins c.in_ok-v.v c.in_ok-v.ensures (beyond 0xDC00 0xDFFF c.in_ok-v.v (omega arith))

pub returns : goal.returns
returns c =
    let begins : drop c.args.at c.args.s.now ≡ 0x5C ∷ 0x75 ∷ drop (c.args.at + 2) c.args.s.now = here_two c.args.s.now c.args.at 0x5C 0x75 (omega arith) c.if-s-at-ne92.false c.if-s-at-ne117.false in
    low_found c.args.s.now c.args.at begins c.in_ok-v.v c.in_ok-v.ensures (inside 0xDC00 0xDFFF c.in_ok-v.v (omega arith) (omega arith))
