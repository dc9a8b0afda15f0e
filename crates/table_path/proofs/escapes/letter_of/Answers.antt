-- Each test decides a byte.
use borrow.Author.Tests.{ne_eqb}
use Rattle.table_path.specs.Words.{letter_of}
use borrow.Author.Rules.{rules}
use Rattle.table_path.proofs.escapes.letter_of.Goals as goal

pub returns-then-b-eq8 : goal.returns-then-b-eq8
unfolding letter_of
returns-then-b-eq8 c = rw c.if-b-eq8.true

pub returns-then-b-eq9 : goal.returns-then-b-eq9
unfolding letter_of
returns-then-b-eq9 c = rw c.if-b-eq9.true

pub returns-then-b-eq10 : goal.returns-then-b-eq10
unfolding letter_of
returns-then-b-eq10 c = rw c.if-b-eq10.true

pub returns-then-b-eq12 : goal.returns-then-b-eq12
unfolding letter_of
returns-then-b-eq12 c = rw c.if-b-eq12.true

pub returns-then-b-eq13 : goal.returns-then-b-eq13
unfolding letter_of
returns-then-b-eq13 c = rw c.if-b-eq13.true

pub returns-then-b-eq39 : goal.returns-then-b-eq39
unfolding letter_of
returns-then-b-eq39 c = rw c.if-b-eq39.true

pub returns-then-b-eq92 : goal.returns-then-b-eq92
unfolding letter_of
returns-then-b-eq92 c = rw c.if-b-eq92.true

pub returns : goal.returns
unfolding letter_of
returns c = rw (ne_eqb c.args.b 0x08 c.if-b-eq8.false, ne_eqb c.args.b 0x09 c.if-b-eq9.false, ne_eqb c.args.b 0x0A c.if-b-eq10.false, ne_eqb c.args.b 0x0C c.if-b-eq12.false, ne_eqb c.args.b 0x0D c.if-b-eq13.false, ne_eqb c.args.b 0x27 c.if-b-eq39.false, ne_eqb c.args.b 0x5C c.if-b-eq92.false)
