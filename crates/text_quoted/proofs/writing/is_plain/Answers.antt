-- `text_quoted::writing::is_plain` meets its contract. Each test decides a byte or a range.
use native.Mathlib.Omega.{arith}
use Rattle.text_quoted.proofs.Letters.{plain_high, plain_control, plain_double, plain_single, plain_rest}
use Rattle.text_quoted.proofs.writing.is_plain.Goals as goal

pub returns-then-b-gt92 : goal.returns-then-b-gt92
returns-then-b-gt92 c = plain_high c.args.b (omega arith)

pub returns-then-b-lt32 : goal.returns-then-b-lt32
returns-then-b-lt32 c = plain_control c.args.b (omega arith)

pub returns-then-b-eq34 : goal.returns-then-b-eq34
returns-then-b-eq34 c = plain_double c.args.b c.if-b-eq34.true

pub returns-then-b-eq39 : goal.returns-then-b-eq39
returns-then-b-eq39 c = plain_single c.args.b c.if-b-eq39.true

pub returns : goal.returns
returns c = plain_rest c.args.b (omega arith) c.if-b-eq34.false c.if-b-eq39.false
