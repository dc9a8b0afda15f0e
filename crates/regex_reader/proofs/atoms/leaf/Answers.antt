-- `regex_reader::atoms::leaf` meets its contract.
use Rattle.regex_reader.proofs.OfAtoms.{leaf_class, leaf_dot, leaf_escape, leaf_normal}
use Rattle.regex_reader.proofs.atoms.leaf.Goals as goal

pub returns-then-is : goal.returns-then-is
returns-then-is c = leaf_class _ _ _ _ c.is.ensures c.if-is.true c.class.ensures

pub returns-then-is-2 : goal.returns-then-is-2
returns-then-is-2 c = leaf_dot _ _ _ _ c.is.ensures c.if-is.false c.is-2.ensures c.if-is-2.true c.put_dot.ensures

pub returns-then-is-3 : goal.returns-then-is-3
returns-then-is-3 c = leaf_escape _ _ _ _ c.is.ensures c.if-is.false c.is-2.ensures c.if-is-2.false c.is-3.ensures c.if-is-3.true c.escape-c.ensures c.put_read.ensures

pub returns : goal.returns
returns c = leaf_normal _ _ _ _ c.is.ensures c.if-is.false c.is-2.ensures c.if-is-2.false c.is-3.ensures c.if-is-3.false c.normal-c.ensures c.put_read-2.ensures
