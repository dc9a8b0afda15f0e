-- `parser_items::verdicts::call_sort` meets its contract: the functions fall into three groups.
--
use mathlib.Core.Path.{◌≡◌, refl}
use Rattle.compile_writes.specs.Sorts.{named_sort}
use Rattle.parser_scan.specs.Text.{number_of_function}
use Rattle.parser_items.specs.Reads.{sort_number, name_of}
use Rattle.parser_items.proofs.Typing.{by_two, by_three}
use Rattle.parser_items.proofs.verdicts.call_sort.Goals as goal

pub returns-in_default : goal.returns-in_default
unfolding named_sort
returns-in_default c = rw c.in_default.is

pub returns-in-Match : goal.returns-in-Match
unfolding named_sort
returns-in-Match c = by_two (λ n. 4 ≡ sort_number (named_sort (name_of (number_of_function n)))) c.in-Some.is c.in-Match.is refl refl

pub returns-in-Count : goal.returns-in-Count
unfolding named_sort
returns-in-Count c = by_three (λ n. 3 ≡ sort_number (named_sort (name_of (number_of_function n)))) c.in-Some.is c.in-Count.is refl refl refl
