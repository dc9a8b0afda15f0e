-- `text::parts::has_ends` meets its contract.
use native.Mathlib.Omega.{arith}
use Rattle.text.proofs.Same.{ends_lengths, ends_first, ends_last}
use Rattle.text.proofs.parts.has_ends.Goals as goal

pub returns-then-a-n : goal.returns-then-a-n
returns-then-a-n c t e = ends_lengths c.args.a.now e c.if-a-n.true

pub returns-then-word32-low : goal.returns-then-word32-low
returns-then-word32-low c t e = ends_first c.args.a.now e c.word32.ensures c.if-word32-low.true

pub returns : goal.returns
returns c t e =
    let h = e.least in
    ends_last c.args.a.now e c.if-a-n.false (λ k. (c.type_inv.a k).fits) c.word32.ensures c.if-word32-low.false (omega arith) c.word32-2.ensures
