-- `text::parts::part_ends` meets its contract.
use mathlib.Core.Path.{ap, ◌∙◌}
use lib.ListN.{length}
use Rattle.text.proofs.Numbers.{part_lent}
use Rattle.text.proofs.Same.{ends_as}
use Rattle.definition_bytes.specs.Same.{part_length}
use Rattle.text.proofs.parts.part_ends.Goals as goal

pub returns : goal.returns
returns c =
    let e = part_lent c.args.s.now c.args.a c.args.n in
    ends_as (ap length e ∙ part_length c.args.s.now c.args.a c.args.n c.requires.n_in_bounds) e c.ends_of.ensures
