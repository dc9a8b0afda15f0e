-- `regex_reader::classes::ranges` meets its contract.
use Rattle.basics.specs.Stores.{wrote_length}
use Rattle.regex_reader.proofs.OfClasses.{item_is, more_is, class_none, class_open, class_next}
use lib.ListN.{length-set}
use borrow.Author.Rules.{Fits-under}
use native.Mathlib.Omega.{arith}
use mathlib.Core.Path.{◌∙◌}
use Rattle.regex_reader.proofs.classes.ranges.Goals as goal

pub put_head-requires : goal.put_head-requires
put_head-requires c = let k = item_is c.in_ok-b.ensures in omega (arith, k.1, k.2, c.requires.0.fits)

pub items-requires : goal.items-requires
items-requires c = let k = item_is c.in_ok-b.ensures in let l = wrote_length c.put_head.ensures in (k.2, omega (arith, l, k.1, k.2, c.requires.0.fits), c.requires.0.small)

pub overflow_add-code : goal.overflow_add-code
overflow_add-code c = let d = more_is c.in_ok-e.ensures in Fits-under _ _ 4096 (omega (arith, d.from, d.to, c.requires.0.small)) tt

pub overflow_cast-code : goal.overflow_cast-code
overflow_cast-code c = let d = more_is c.in_ok-e.ensures in Fits-under _ _ 4096 (omega (arith, d.from, d.to, c.requires.0.small)) tt

pub bounds-code-len : goal.bounds-code-len
bounds-code-len c = let d = more_is c.in_ok-e.ensures in let k = item_is c.in_ok-b.ensures in let l = wrote_length c.put_head.ensures in let m = wrote_length d.buf in omega (arith, l, m, k.1, k.2, c.requires.0.fits)

pub returns-in_err-b : goal.returns-in_err-b
returns-in_err-b c = rw c.from_residual.ensures (class_none _ _ _ _ c.args.sign c.in_err-b.ensures)

pub returns-in_err-e : goal.returns-in_err-e
returns-in_err-e c = rw c.from_residual-in_err-e.ensures (class_open _ _ _ _ c.args.sign c.in_ok-b.ensures c.in_err-e.ensures)

pub shape_of-code : goal.shape_of-code
shape_of-code c = let d = more_is c.in_ok-e.ensures in rw length-set (wrote_length d.buf ∙ wrote_length c.put_head.ensures)

pub returns : goal.returns
returns c = class_next _ _ _ _ c.args.sign c.in_ok-b.ensures c.requires.1 c.put_head.ensures c.in_ok-e.ensures
