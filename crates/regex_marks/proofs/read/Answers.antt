-- `regex_marks::read` meets its contract.
use native.Mathlib.Omega.{arith}
use mathlib.Core.Path.{refl, sym, ◌∙◌}
use Rattle.regex_marks.proofs.Words.{shifted_by}
use Rattle.regex_marks.proofs.Runs.{read_more, read_end_lem, read_dead, read_open}
use Rattle.regex_marks.proofs.read.Goals as goal

pub loop-i-init : goal.loop-i-init
loop-i-init c = (refl, c.requires.fact_2.0, c.requires.fact_2.1)

pub char_at-c-requires : goal.char_at-c-requires
char_at-c-requires c = record { fact_1 = c.loop-i-test.true; fact_2 = omega arith }

pub shift-p-requires : goal.shift-p-requires
shift-p-requires c = record { place = c.requires.fact_1.place; words = c.requires.fact_1.words; room = omega arith; few = omega (arith, c.requires.fact_1.few, c.loop-i.invariant.0) }

pub returns-then-last : goal.returns-then-last
returns-then-last c = read_open _ (sym (c.shift-p.ensures.long ∙ c.loop-i.invariant.0)) (c.requires.fact_3 c.if-grows.true) c.if-last.true (read_more _ _ c.loop-i-test.true c.char_at-c.ensures c.loop-i.invariant.2 (shifted_by c.unpack-last.ensures c.shift-p.ensures))

pub returns-then-dead : goal.returns-then-dead
returns-then-dead c = read_dead _ (sym (c.shift-p.ensures.long ∙ c.loop-i.invariant.0)) (omega (arith, c.char_at-c.ensures.after)) (c.dead.ensures c.if-dead.true) (read_more _ _ c.loop-i-test.true c.char_at-c.ensures c.loop-i.invariant.2 (shifted_by c.unpack-last.ensures c.shift-p.ensures))

pub loop-i-smaller : goal.loop-i-smaller
loop-i-smaller c = omega (arith, c.char_at-c.ensures.after, c.char_at-c.ensures.within)

pub loop-i-preserved : goal.loop-i-preserved
loop-i-preserved c = (c.shift-p.ensures.long ∙ c.loop-i.invariant.0, c.char_at-c.ensures.within, read_more _ _ c.loop-i-test.true c.char_at-c.ensures c.loop-i.invariant.2 (shifted_by c.unpack-last.ensures c.shift-p.ensures))

pub returns : goal.returns
returns c = read_end_lem _ _ _ _ _ (sym c.loop-i.invariant.0) c.loop-i-test.false c.loop-i.invariant.2
