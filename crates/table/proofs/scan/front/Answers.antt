-- Of a UTF-8 text under a root that is no map some texts may be passed.
use native.Mathlib.Omega.{arith}
use Rattle.table.proofs.Front.{root_list, front_root}
use borrow.Author.Rules.{rules}
use Rattle.table.proofs.scan.front.Goals as goal

pub returns-then-known-ne-KNOWN_UTF8 : goal.returns-then-known-ne-KNOWN_UTF8
returns-then-known-ne-KNOWN_UTF8 c = front_root c.args.table.now c.args.text.now c.requires.table_nonzero.1

pub returns-then-kind-eq-KIND_MAP : goal.returns-then-kind-eq-KIND_MAP
returns-then-kind-eq-KIND_MAP c = front_root c.args.table.now c.args.text.now c.requires.table_nonzero.1

pub root_texts-requires : goal.root_texts-requires
root_texts-requires c = record { root_list = (root_list c.args.table.now c.args.text.now c.requires.table_nonzero.0 c.requires.table_nonzero.1 (λ m. c.if-kind-eq-KIND_MAP.false (omega arith)), c.requires.end_value.0); known = (record { ascii = λ z. absurd (omega arith); utf8 = λ _. c.requires.known.utf8 c.if-known-ne-KNOWN_UTF8.false }, c.requires.table_nonzero.1) }
