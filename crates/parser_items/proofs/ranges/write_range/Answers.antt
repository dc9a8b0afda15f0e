-- `parser_items::ranges::write_range` meets its contract: a colon behind the first int decides.
--
use Rattle.std.specs.Prelude.{is_some}
use mathlib.Core.Path.{ap}
use native.Mathlib.Omega.{arith}
use Rattle.parser_items.proofs.Ints.{bound_there, given_of, absent_of}
use Rattle.parser_items.proofs.Slices.{index_post, range_none}
use Rattle.parser_items.proofs.ranges.write_range.Goals as goal

pub is-requires : goal.is-requires
is-requires c = (bound_there (is_some c.read_int-p.result.value) c.read_int-p.ensures).to c.requires.at_in_bounds.0

pub write_slice-requires : goal.write_slice-requires
write_slice-requires c =
    let i = rw c.if-is.true at c.is.ensures in
    let b = bound_there (is_some c.read_int-p.result.value) c.read_int-p.ensures in
    record { room = omega (arith, c.requires.at_in_bounds.1, i.0, b.from); s_value = c.requires.s_value; no_text = c.requires.no_text; int_or_not = c.read_int-p.ensures; is = i }

pub returns-in_default : goal.returns-in_default
returns-in_default c = λ L. range_none c.args.st c.requires.no_text c.read_int-p.result (rw c.if-is.false at c.is.ensures) (absent_of c.read_int-p.ensures (ap is_some c.in_default.is))

pub put_index-a-requires : goal.put_index-a-requires
put_index-a-requires c =
    let h = given_of c.read_int-p.ensures (ap is_some c.in-Some.is) in
    omega (arith, c.requires.at_in_bounds.1, h.is.from, h.is.to)

pub returns : goal.returns
returns c = λ L. index_post c.args.st c.requires.no_text c.read_int-p.result (rw c.if-is.false at c.is.ensures) (given_of c.read_int-p.ensures (ap is_some c.in-Some.is)) c.in-Some.is L c.requires.s_value c.put_index-a.ensures (c.moved.ensures.place, (c.moved.ensures.lengths, c.moved.ensures.marks))
