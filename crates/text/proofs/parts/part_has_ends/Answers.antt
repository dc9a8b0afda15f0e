-- `text::parts::part_has_ends` meets its contract.
use Prim.Native.Nat.{ℕ}
use mathlib.Core.Path.{ap, ◌∙◌}
use mathlib.Core.List.{List}
use Rattle.definition.specs.Bytes.{same_bytes}
use Rattle.text.proofs.Numbers.{part_lent}
use Rattle.text.proofs.parts.part_has_ends.Goals as goal

pub returns : goal.returns
returns c t e = c.has_ends.ensures t e ∙ ap (λ (s : List ℕ). same_bytes s t) (part_lent c.args.s.now c.args.a c.args.m)
