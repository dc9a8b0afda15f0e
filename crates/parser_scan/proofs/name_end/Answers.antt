-- `parser_scan::name_end` meets its contract: the run of name bytes.
use Rattle.parser_scan.specs.Text.{is_name_byte}
use Rattle.parser_scan.proofs.name_end.Goals as goal

pub returns : goal.returns
returns c = c.run_end.ensures is_name_byte (λ x b h k. k)
