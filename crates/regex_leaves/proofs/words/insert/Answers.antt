-- `regex_leaves::words::insert` meets its contract. The loop's invariant: the words before i have moved up by one, and the one that i takes is carried.
use borrow.Author.Rules.{rules}
use Rattle.regex_leaves.proofs.Stores.{carry_length, carry_none, carry_more, inserted}
use lib.ListN.{length-set}
use Rattle.regex_leaves.proofs.words.insert.Goals as goal

pub loop-i-init : goal.loop-i-init
loop-i-init c = carry_none _ _ _ _ c.requires.0 c.requires.1

pub bounds-code-i : goal.bounds-code-i
bounds-code-i c = let n = carry_length c.loop-i.invariant in search (rules, n, c.requires.1)

pub bounds-code-i-in-loop-i : goal.bounds-code-i-in-loop-i
bounds-code-i-in-loop-i c = let n = carry_length c.loop-i.invariant in search (rules, n, c.requires.1)

pub loop-i-preserved : goal.loop-i-preserved
loop-i-preserved c = carry_more _ _ _ _ c.requires.0 c.requires.1 c.loop-i.invariant c.loop-i-test.true

pub bounds-code-to : goal.bounds-code-to
bounds-code-to c = let n = carry_length c.loop-i.invariant in search (rules, n, c.requires.1)

pub shape_of-code : goal.shape_of-code
shape_of-code c = rw length-set (carry_length c.loop-i.invariant)

pub returns : goal.returns
returns c = inserted _ _ _ _ c.requires.0 c.requires.1 c.loop-i.invariant c.loop-i-test.false
