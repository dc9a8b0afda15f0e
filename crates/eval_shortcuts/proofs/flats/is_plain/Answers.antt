-- `eval_shortcuts::flats::is_plain` meets its contract: each test that it passes says a part.
use native.Mathlib.Omega.{arith}
use Rattle.eval_shortcuts.specs.FlatLaws.{not_plain, below_parts, lone_next, lone_rest, plain_of}
use Rattle.eval_shortcuts.proofs.flats.is_plain.Goals as goal

pub overflow_add-pc : goal.overflow_add-pc
overflow_add-pc c = let x = below_parts _ _ c.requires.few _ _ _ _ c.requires.at in omega (arith, x.bound)

pub word16-requires : goal.word16-requires
word16-requires c = let x = below_parts _ _ c.requires.few _ _ _ _ c.requires.at in omega (arith, x.bound)

pub returns-then-word16-ne1 : goal.returns-then-word16-ne1
returns-then-word16-ne1 c = not_plain _ _

pub overflow_add-p : goal.overflow_add-p
overflow_add-p c = let x = below_parts _ _ c.requires.few _ _ _ _ c.requires.at in omega (arith, x.bound)

pub bounds-plan-p : goal.bounds-plan-p
bounds-plan-p c = (below_parts _ _ c.requires.few _ _ _ _ c.requires.at).bound

pub returns-then-k-eq-SLICE : goal.returns-then-k-eq-SLICE
returns-then-k-eq-SLICE c = not_plain _ _

pub returns-then-k-gt-WILDCARD : goal.returns-then-k-gt-WILDCARD
returns-then-k-gt-WILDCARD c = not_plain _ _

pub next_selector-rest-requires : goal.next_selector-rest-requires
next_selector-rest-requires c = lone_next _ _ c.requires.few _ _ _ _ c.requires.at _ c.word16.ensures c.if-word16-ne1.false

pub bounds-plan-rest : goal.bounds-plan-rest
bounds-plan-rest c = lone_rest _ _ c.requires.few _ _ _ _ c.requires.at _ c.word16.ensures c.if-word16-ne1.false _ c.next_selector-rest.ensures

pub returns : goal.returns
returns c = plain_of _ c.requires.few _ c.word16.ensures c.if-word16-ne1.false _ c.next_selector-rest.ensures (omega (arith, c.if-k-gt-WILDCARD.false)) c.if-k-eq-SLICE.false
