-- The exported compile hands out what `compile` answers.
use borrow.Author.Rules.{rules}
use Rattle.exports.proofs.Answers.{settled_as}
use Rattle.exports.proofs.stewpebble_compile.Goals as goal

pub returns : goal.returns
returns c = settled_as c.compile-compiled.ensures (c.of_compile-numbers.ensures c.compile-compiled.new.plan c.compile-compiled.new.pool)
