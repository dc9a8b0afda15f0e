-- `parser_items::ranges::write_slice` meets its contract: the second bound and the step are read, and the slice is put.
--
use Rattle.std.specs.Prelude.{is_some}
use Rattle.parser_items.proofs.Ints.{bound_there}
use Rattle.parser_items.proofs.Slices.{slice_post}
use Rattle.parser_items.proofs.ranges.write_slice.Goals as goal

pub read_step-by-requires : goal.read_step-by-requires
read_step-by-requires c = (bound_there (is_some c.read_int-stop.result.value) c.read_int-stop.ensures).to c.skip_blanks-a.ensures.to

pub returns : goal.returns
returns c = λ L. slice_post c.args.st c.requires.no_text c.args.start c.requires.is (is_some c.args.start.value) c.requires.int_or_not c.skip_blanks-a.ensures (bound_there (is_some c.read_int-stop.result.value) c.read_int-stop.ensures) c.read_step-by.ensures L c.requires.s_value c.put_slice-c.ensures (c.moved.ensures.place, (c.moved.ensures.lengths, c.moved.ensures.marks))
