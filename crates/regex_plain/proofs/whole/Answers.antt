-- `regex_plain::whole` meets its contract.
use Rattle.regex_plain.proofs.Texts.{whole_yes, whole_no}
use native.Mathlib.Omega.{arith}
use Rattle.regex_plain.proofs.whole.Goals as goal

pub begins-requires : goal.begins-requires
begins-requires c = record { fact_1 = c.requires; fact_2 = omega arith; fact_3 = omega arith }

pub returns-in-Some : goal.returns-in-Some
returns-in-Some c = whole_yes _ _ _ _ c.in-Some.ensures

pub returns-in-None : goal.returns-in-None
returns-in-None c = whole_no _ _ _ _ c.in-None.ensures
