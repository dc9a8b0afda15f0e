-- `found_value` meets its contract, by a law for each byte.
use native.Mathlib.Omega.{arith}
use mir.Syntax.{w64}
use mir.ValLaws.{to_z_pos}
use Rattle.eval_filters.specs.Values.{found_counted, found_valued, found_headed}
use Rattle.eval_filters.proofs.values.found_value.Goals as goal

pub returns-then-mode-eq-COUNT : goal.returns-then-mode-eq-COUNT
returns-then-mode-eq-COUNT c = found_counted c.if-mode-eq-COUNT.true _ (to_z_pos w64 _ (omega (arith, c.requires.ask_found.few)))

pub returns-then-mode-eq-VALUE : goal.returns-then-mode-eq-VALUE
returns-then-mode-eq-VALUE c = found_valued c.if-mode-eq-VALUE.true _ c.only_value-v.ensures

pub returns : goal.returns
returns c = found_headed c.requires.ask_found.no_test c.if-mode-eq-COUNT.false c.if-mode-eq-VALUE.false _ c.first_value-v.ensures
