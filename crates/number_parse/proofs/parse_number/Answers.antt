-- `number_parse::parse_number` meets its contract: the parts that were read say which law of proofs/Together.antt answers.
use Prim.Native.Nat.{◌^◌, ◌<◌}
use native.Mathlib.Omega.{arith}
use lib.ListN.{length}
use Rattle.std.proofs.lemmas.Result.{err_from_is_err_and}
use Rattle.number_parse.proofs.Together.{whole_at, fraction_at, exponent_at, no_whole, wrong_fraction, no_exponent_lem, no_end, number_there}
use Rattle.number_parse.proofs.parse_number.Goals as goal

pub returns-in_err-whole : goal.returns-in_err-whole
returns-in_err-whole c =
    let p = err_from_is_err_and c.from_residual.result c.from_residual.ensures.1 in
    rw (p.1, p.2) (no_whole _ _ _ c.in_err-whole.ensures)

pub read_fraction-requires : goal.read_fraction-requires
read_fraction-requires c = let w = whole_at c.in_ok-whole.ensures in (w.to, omega (arith, w.value))

pub returns-in_err-fraction : goal.returns-in_err-fraction
returns-in_err-fraction c =
    let p = err_from_is_err_and c.from_residual-in_err-fraction.result c.from_residual-in_err-fraction.ensures.1 in
    rw (p.1, p.2) (wrong_fraction _ _ _ _ _ (whole_at c.in_ok-whole.ensures) _ c.in_err-fraction.ensures)

pub read_exponent-requires : goal.read_exponent-requires
read_exponent-requires c = (fraction_at c.in_ok-fraction.ensures).to

pub returns-in_err-exponent : goal.returns-in_err-exponent
returns-in_err-exponent c =
    let p = err_from_is_err_and c.from_residual-in_err-exponent.result c.from_residual-in_err-exponent.ensures.1 in
    rw (p.1, p.2) (no_exponent_lem _ _ _ _ _ (whole_at c.in_ok-whole.ensures) _ _ _ (fraction_at c.in_ok-fraction.ensures) _ c.in_err-exponent.ensures)

pub returns-then-not-ends : goal.returns-then-not-ends
returns-then-not-ends c =
    no_end _ _ _ _ _ (whole_at c.in_ok-whole.ensures) _ _ _ (fraction_at c.in_ok-fraction.ensures) _ _ _ _ (exponent_at c.in_ok-exponent.ensures) (rw c.if-not-ends.true at c.ends.ensures)

pub returns : goal.returns
returns c =
    let l : length c.args.s.now < 2 ^ 63 = omega (arith, c.well_formed.0.1) in
    number_there _ _ _ _ _ (whole_at c.in_ok-whole.ensures) _ _ _ (fraction_at c.in_ok-fraction.ensures) _ _ _ _ (exponent_at c.in_ok-exponent.ensures) _ l (rw c.if-not-ends.false at c.ends.ensures) c.numeral-value.ensures
