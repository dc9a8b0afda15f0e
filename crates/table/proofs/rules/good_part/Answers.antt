-- A part of an ASCII text is UTF-8; one of a UTF-8 text is tested by its ends, and one of another text by itself, once it is known to lie inside the text.
use native.Mathlib.Omega.{arith}
use mathlib.Core.Path.{◌≡◌, refl, sym, ap, ◌∙◌}
use Prim.Native.Nat.{ℕ, ◌+◌, ◌-◌}
use Rattle.definition.specs.Bytes.{part}
use Rattle.definition.specs.Utf8.{is_utf8}
use Rattle.table_laws.specs.Rights.{part_past, part_inside}
use Rattle.table_laws.specs.Keys.{part_tested}
use Rattle.text.proofs.States.{utf8_plain_part}
use borrow.Author.Rules.{rules}
use Rattle.table.proofs.rules.good_part.Goals as goal

pub returns-then-text-end : goal.returns-then-text-end
returns-then-text-end c = sym (part_past c.args.text.now c.args.at c.args.size (omega arith))

pub returns-then-known-eq-KNOWN_ASCII : goal.returns-then-known-eq-KNOWN_ASCII
returns-then-known-eq-KNOWN_ASCII c = sym (part_inside c.args.text.now c.args.at c.args.size (omega arith) ∙ utf8_plain_part c.args.text.now c.args.at c.args.size (c.requires.ascii c.if-known-eq-KNOWN_ASCII.true))

pub part_between-requires : goal.part_between-requires
part_between-requires c = (c.requires.utf8 c.if-known-eq-KNOWN_UTF8.true, omega arith)

pub returns-then-known-eq-KNOWN_UTF8 : goal.returns-then-known-eq-KNOWN_UTF8
returns-then-known-eq-KNOWN_UTF8 c =
    let e : c.args.at + c.args.size - c.args.at ≡ c.args.size = omega arith in
    c.part_between.ensures ∙ ap (λ (n : ℕ). is_utf8 (part c.args.text.now c.args.at n)) e ∙ sym (part_inside c.args.text.now c.args.at c.args.size (omega arith))

pub returns : goal.returns
returns c = c.is_utf8.ensures ∙ part_tested c.args.text.now c.args.at c.args.size (c.args.at + c.args.size) refl (omega arith)
