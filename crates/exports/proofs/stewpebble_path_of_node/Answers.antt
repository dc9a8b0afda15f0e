-- The exported path of a node hands out what `path_of_node` answers.
use mathlib.Core.Path.{◌∙◌}
use borrow.Author.Rules.{rules}
use Rattle.exports.proofs.stewpebble_path_of_node.Goals as goal

pub returns : goal.returns
returns c = c.of_path-numbers.ensures c.path_of_node-written.new.room ∙ c.path_of_node-written.ensures
