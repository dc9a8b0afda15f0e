-- `text::encoding::is_utf8` meets its contract: ASCII texts are UTF-8, and texts whose bytes are all placed.
use mathlib.Core.Path.{sym}
use Rattle.text.proofs.States.{utf8_plain}
use Rattle.text.proofs.encoding.is_utf8.Goals as goal

pub returns-then-all_ascii : goal.returns-then-all_ascii
returns-then-all_ascii c = sym (utf8_plain c.args.s.now (c.all_ascii.ensures c.if-all_ascii.true))

pub returns-then-all_utf8 : goal.returns-then-all_utf8
returns-then-all_utf8 c = sym (c.all_utf8.ensures c.if-all_utf8.true)
