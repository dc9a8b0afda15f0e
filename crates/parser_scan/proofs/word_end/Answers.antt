-- `parser_scan::word_end` meets its contract: the run of the characters of a function name.
use Rattle.definition.specs.Lexical.{is_function_char}
use Rattle.parser_scan.proofs.word_end.Goals as goal

pub returns : goal.returns
returns c = c.run_end.ensures is_function_char (λ x b h k. k)
