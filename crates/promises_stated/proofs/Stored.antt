-- Plan bytes from anywhere: they are refused by 11 on every table and list, or they spell one query form and run as that form. Assumes nothing.
use Rattle.std.specs.Prelude.{ℕ, List}
use Rattle.definition.specs.Outcomes.{ChecksPlan}
use Rattle.promises_stated.specs.Promises.{Stored}
use Rattle.promises_stated.specs.Stored.{by_spelling}

-- what plan check answers tells which of the two it is
pub stored : {plan pool : List ℕ} {n : ℕ} → ChecksPlan plan pool n → Stored plan pool n
stored {plan} {pool} c = rw c.is (by_spelling c.reads)
