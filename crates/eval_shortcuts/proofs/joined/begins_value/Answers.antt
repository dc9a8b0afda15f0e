-- `joined::begins_value` asks of each call what that needs.
use Rattle.eval_shortcuts.proofs.joined.begins_value.Goals as goal

pub read_path-requires : goal.read_path-requires
read_path-requires c = c.requires.0.query c.if-plan-p-gt-CURRENT.false
