-- `compare_form` meets its contract: the form says of what kind the literal is.
use Prim.Native.Nat.{ℕ}
use mathlib.Core.Path.{sym, subst, ◌∙◌}
use Rattle.eval_filters.specs.Tests.{DoneNode}
use Rattle.eval_filters.proofs.atoms.compare_form.Goals as goal

pub compare_integers-requires : goal.compare_integers-requires
compare_integers-requires c = record { ask_node = c.requires.ask_node; q_value = (c.requires.form_against.integer_is c.if-form-eq-NUMBER.true, sym c.kind.ensures ∙ c.if-kind-eq-KIND_INTEGER.true) }

pub same_text-requires : goal.same_text-requires
same_text-requires c = record { ask_node = c.requires.ask_node; q_value = ((c.requires.form_against.text_is c.if-form-eq-WORDS.true).0, sym c.kind-then-form-eq-WORDS.ensures ∙ c.if-kind-eq-KIND_TEXT.true) }

pub returns-then-kind-eq-KIND_TEXT : goal.returns-then-kind-eq-KIND_TEXT
returns-then-kind-eq-KIND_TEXT c = subst (λ (o : ℕ). DoneNode c.args.plan.now c.args.pool.now c.args.table.now c.args.text.now c.args.m c.args.q o c.same_text.result) (sym (c.requires.form_against.text_is c.if-form-eq-WORDS.true).1) c.same_text.ensures
