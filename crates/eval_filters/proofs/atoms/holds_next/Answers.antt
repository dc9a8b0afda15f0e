-- `holds_next` meets its contract: what is found under the name, tested or compared.
use Rattle.eval_filters.specs.Atoms.{told_any, told_room, atom_absent, atom_has, atom_asks, atom_compared}
use native.Mathlib.Omega.{arith}
use Rattle.eval_filters.proofs.atoms.holds_next.Goals as goal

pub overflow_add-c-2 : goal.overflow_add-c-2
overflow_add-c-2 c = omega (arith, told_room c.requires.ask_short c.requires.atom_at)

pub select_one-found-requires : goal.select_one-found-requires
select_one-found-requires c = told_any c.requires.ask_short c.requires.atom_at

pub returns-in_default : goal.returns-in_default
returns-in_default c = atom_absent c.requires.ask_short c.requires.atom_at _ c.select_one-found.ensures c.in_default.is

pub returns-then-form-eq-HAS : goal.returns-then-form-eq-HAS
returns-then-form-eq-HAS c = atom_has c.requires.ask_short c.requires.atom_at _ c.select_one-found.ensures _ c.in-Some.is c.if-form-eq-HAS.true

pub overflow_add-c-3 : goal.overflow_add-c-3
overflow_add-c-3 c = omega (arith, told_room c.requires.ask_short c.requires.atom_at)

pub compare_node-requires : goal.compare_node-requires
compare_node-requires c = atom_asks c.requires.ask_short c.requires.atom_at _ c.select_one-found.ensures _ c.in-Some.is c.if-form-eq-HAS.false

pub returns : goal.returns
returns c = atom_compared c.requires.ask_short c.requires.atom_at _ c.select_one-found.ensures _ c.in-Some.is c.if-form-eq-HAS.false _ c.compare_node.ensures
