-- `regex_chars::char_at` meets its contract.
use Rattle.regex_chars.proofs.Bytes.{stands_one, stands_two, stands_three, stands_four, stands_short_two, stands_short_three, stands_short_four}
use mathlib.Core.Path.{refl}
use native.Mathlib.Omega.{arith}
use Rattle.regex_chars.proofs.char_at.Goals as goal

pub returns-then-b-lt128 : goal.returns-then-b-lt128
returns-then-b-lt128 c = stands_one _ _ _ c.requires.fact_1 c.requires.fact_2 c.from-b.ensures c.if-b-lt128.true

pub returns-then-to-at-lt2 : goal.returns-then-to-at-lt2
returns-then-to-at-lt2 c = stands_short_two _ _ _ c.requires.fact_1 c.requires.fact_2 c.from-b.ensures c.if-b-lt128.false c.if-to-at-lt2.true

pub returns-then-b-lt224 : goal.returns-then-b-lt224
returns-then-b-lt224 c = stands_two _ _ _ c.requires.fact_1 c.requires.fact_2 c.from-b.ensures c.if-b-lt128.false c.from-c.ensures c.if-b-lt224.true c.if-to-at-lt2.false refl

pub returns-then-to-at-lt3 : goal.returns-then-to-at-lt3
returns-then-to-at-lt3 c = stands_short_three _ _ _ c.requires.fact_1 c.requires.fact_2 c.from-b.ensures c.if-b-lt128.false c.if-b-lt224.false c.if-to-at-lt3.true

pub returns-then-b-lt240 : goal.returns-then-b-lt240
returns-then-b-lt240 c = stands_three _ _ _ c.requires.fact_1 c.requires.fact_2 c.from-b.ensures c.if-b-lt128.false c.if-b-lt224.false c.from-c.ensures c.from-d.ensures c.if-b-lt240.true c.if-to-at-lt3.false refl

pub returns-then-to-at-lt4 : goal.returns-then-to-at-lt4
returns-then-to-at-lt4 c = stands_short_four _ _ _ c.requires.fact_1 c.requires.fact_2 c.from-b.ensures c.if-b-lt128.false c.if-b-lt224.false c.if-b-lt240.false c.if-to-at-lt4.true

pub returns : goal.returns
returns c = stands_four _ _ _ c.requires.fact_1 c.requires.fact_2 c.from-b.ensures c.if-b-lt128.false c.if-b-lt224.false c.if-b-lt240.false (omega (arith, c.from-b.ensures, c.type_inv.text c.args.at)) c.from-c.ensures c.from-d.ensures c.from-e.ensures c.if-to-at-lt4.false refl
