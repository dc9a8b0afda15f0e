-- No such node, too little room, or the path.
use Rattle.table_path.proofs.Answers.{told_none, told_small, told_written}
use borrow.Author.Rules.{rules}
use Rattle.table_path.proofs.path_in.Goals as goal

pub returns-then-table-node : goal.returns-then-table-node
returns-then-table-node c = told_none c.args.table.now c.args.text.now c.args.node c.args.room.now c.if-table-node.true

pub returns-then-room-size : goal.returns-then-room-size
returns-then-room-size c = told_small c.args.table.now c.args.text.now c.args.node c.args.room.now c.if-table-node.false _ c.path_length-size.ensures c.if-room-size.true

pub returns : goal.returns
returns c = told_written c.args.table.now c.args.text.now c.args.node c.args.room.now c.if-table-node.false _ c.path_length-size.ensures c.if-room-size.false _ c.write_path.ensures
