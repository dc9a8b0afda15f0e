-- `parser_items::verdicts::call_verdict` meets its contract: the functions fall into three groups.
--
use mathlib.Core.Path.{◌≡◌}
use Rattle.compile_writes.specs.Sorts.{call_verdict}
use Rattle.parser_scan.specs.Text.{number_of_function}
use Rattle.parser_items.specs.Reads.{name_of, sorts_from}
use Rattle.parser_items.proofs.Typing.{by_two}
use Rattle.parser_items.proofs.verdicts.call_verdict.Goals as goal

pub returns-in_default : goal.returns-in_default
unfolding call_verdict
returns-in_default c = rw c.in_default.is

pub returns-in-Match : goal.returns-in-Match
unfolding call_verdict
returns-in-Match c = by_two (λ n. c.two_verdict.result ≡ call_verdict (name_of (number_of_function n)) (sorts_from c.args.sorts)) c.in-Some.is c.in-Match.is c.two_verdict.ensures c.two_verdict.ensures
