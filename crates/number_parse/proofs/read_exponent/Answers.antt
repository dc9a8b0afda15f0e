-- `number_parse::read_exponent` meets its contract: the letter, and the sign and the digits behind it.
use Rattle.number_parse.specs.Parts.{LetterAt}
use Rattle.number_parse.proofs.Exponents.{minus_power, plus_power, plain_power, without_letter}
use Rattle.number_parse.proofs.read_exponent.Goals as goal

pub returns-then-not-is_letter : goal.returns-then-not-is_letter
returns-then-not-is_letter c = without_letter _ _ c.requires (rw c.if-not-is_letter.true at c.is_letter.ensures)

pub is-requires : goal.is-requires
is-requires c =
    let letter : LetterAt c.args.s.now c.args.at = rw c.if-not-is_letter.false at c.is_letter.ensures in
    letter.to

pub read_power-requires : goal.read_power-requires
read_power-requires c = (rw c.if-is.true at c.is.ensures).0

pub returns-then-is : goal.returns-then-is
returns-then-is c =
    let letter : LetterAt c.args.s.now c.args.at = rw c.if-not-is_letter.false at c.is_letter.ensures in
    minus_power _ _ letter _ (rw c.if-is.true at c.is.ensures) c.read_power.ensures

pub is-requires-2 : goal.is-requires-2
is-requires-2 c =
    let letter : LetterAt c.args.s.now c.args.at = rw c.if-not-is_letter.false at c.is_letter.ensures in
    letter.to

pub read_power-requires-then-is-2 : goal.read_power-requires-then-is-2
read_power-requires-then-is-2 c = (rw c.if-is-2.true at c.is-2.ensures).0

pub returns-then-is-2 : goal.returns-then-is-2
returns-then-is-2 c =
    let letter : LetterAt c.args.s.now c.args.at = rw c.if-not-is_letter.false at c.is_letter.ensures in
    plus_power _ _ letter _ (rw c.if-is-2.true at c.is-2.ensures) c.read_power-then-is-2.ensures

pub read_power-requires-2 : goal.read_power-requires-2
read_power-requires-2 c =
    let letter : LetterAt c.args.s.now c.args.at = rw c.if-not-is_letter.false at c.is_letter.ensures in
    letter.to

pub returns : goal.returns
returns c =
    let letter : LetterAt c.args.s.now c.args.at = rw c.if-not-is_letter.false at c.is_letter.ensures in
    plain_power _ _ letter _ (rw c.if-is.false at c.is.ensures) (rw c.if-is-2.false at c.is-2.ensures) c.read_power-2.ensures
