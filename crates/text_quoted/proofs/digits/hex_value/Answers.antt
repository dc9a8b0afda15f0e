-- `text_quoted::digits::hex_value` meets its contract: std's digit in base 16 is the one that the definition has.
use Rattle.text_quoted.proofs.Hexes.{HexDigit-from_std}
use Rattle.text_quoted.proofs.digits.hex_value.Goals as goal

pub returns : goal.returns
returns c = HexDigit-from_std c.args.b c.to_digit.result (rw c.from.ensures at c.to_digit.ensures.value)
