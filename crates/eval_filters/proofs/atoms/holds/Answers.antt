-- `holds` meets its contract: what is found under the name, tested or compared.
use native.Mathlib.Omega.{arith}
use Rattle.eval_filters.specs.Atoms.{told_one, atom_absent, atom_has, atom_asks, atom_compared}
use Rattle.eval_filters.proofs.atoms.holds.Goals as goal

pub named-found-requires : goal.named-found-requires
named-found-requires c = record { ask_one = told_one c.requires.ask_short c.requires.atom_at; start_value = (c.requires.atom_at.start_is, c.requires.atom_at.size_is) }

pub returns-in_default : goal.returns-in_default
returns-in_default c = atom_absent c.requires.ask_short c.requires.atom_at _ c.named-found.ensures c.in_default.is

pub overflow_sub-there : goal.overflow_sub-there
overflow_sub-there c = omega (arith, c.named-found.ensures.low _ c.in-Some.is, c.first_child.ensures)

pub returns-then-form-eq-HAS : goal.returns-then-form-eq-HAS
returns-then-form-eq-HAS c = atom_has c.requires.ask_short c.requires.atom_at _ c.named-found.ensures _ c.in-Some.is c.if-form-eq-HAS.true

pub compare_form-b-requires : goal.compare_form-b-requires
compare_form-b-requires c = record { ask_node = atom_asks c.requires.ask_short c.requires.atom_at _ c.named-found.ensures _ c.in-Some.is c.if-form-eq-HAS.false; form_against = c.requires.atom_at.form_is }

pub returns : goal.returns
returns c = atom_compared c.requires.ask_short c.requires.atom_at _ c.named-found.ensures _ c.in-Some.is c.if-form-eq-HAS.false _ c.compare_form-b.ensures
