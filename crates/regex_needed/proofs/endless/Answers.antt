-- `regex_needed::endless` meets its contract.
use borrow.Author.Tests.{leb-true}
use Rattle.regex_needed.proofs.Writing.{lengths_product, long_enough}
use Rattle.regex_needed.proofs.endless.Goals as goal

pub overflow_mul-result : goal.overflow_mul-result
overflow_mul-result c = record { fits = lengths_product _ _ c.requires c.wide-h.ensures.1 }

pub returns-then-m-ne0 : goal.returns-then-m-ne0
returns-then-m-ne0 c = λ e. long_enough c.if-m-ne0.true c.wide-h.ensures.0 (leb-true _ _ e)
