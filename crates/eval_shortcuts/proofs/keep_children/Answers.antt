-- `eval_shortcuts::keep_children` meets its contract: a filter that is read once keeps what it selects, and else nothing is done.
use mathlib.Core.Path.{refl}
use native.Mathlib.Omega.{arith}
use Rattle.eval_filters.specs.Keeps.{test_code, tail_asked}
use Rattle.eval_asks.specs.Steady.{steady_refl, steady_wrote}
use Rattle.eval_shortcuts.specs.Entries.{keep_asked, keep_done}
use Rattle.eval_asks.specs.Kinds.{filter_bound, filter_inside, test_asked, rest_asked, rest_in, kept_none, kept_done}
use Rattle.eval_shortcuts.proofs.keep_children.Goals as goal

pub overflow_add-z : goal.overflow_add-z
overflow_add-z c = omega (arith, filter_bound c.requires.asked c.requires.ask_selector c.requires.ask_kind, c.requires.asked.given.few_p)

pub overflow_add-p : goal.overflow_add-p
overflow_add-p c = omega (arith, filter_bound c.requires.asked c.requires.ask_selector c.requires.ask_kind, c.requires.asked.given.few_p)

pub word16-requires : goal.word16-requires
word16-requires c = omega (arith, filter_bound c.requires.asked c.requires.ask_selector c.requires.ask_kind, c.requires.asked.given.few_p)

pub overflow_add-z-2 : goal.overflow_add-z-2
overflow_add-z-2 c = omega (arith, filter_inside c.requires.asked c.requires.ask_selector c.requires.ask_kind c.word16.ensures, (rest_in c.requires.asked c.requires.ask_selector).1, c.requires.asked.given.few_p)

pub overflow_add-p-2 : goal.overflow_add-p-2
overflow_add-p-2 c = omega (arith, filter_bound c.requires.asked c.requires.ask_selector c.requires.ask_kind, c.requires.asked.given.few_p)

pub read_form-requires : goal.read_form-requires
read_form-requires c = record { ask_code = test_code c.requires.asked.given.few_p (test_asked c.requires.asked c.requires.ask_selector c.requires.ask_kind c.word16.ensures); ask_tail = tail_asked c.requires.asked.given.few_p (rest_asked c.requires.asked c.requires.ask_selector c.requires.ask_kind c.word16.ensures) }

pub returns-in_default : goal.returns-in_default
returns-in_default c = record { steady = steady_refl _ _; done_keep = kept_none _ _ _ _ _ _ }

pub overflow_add-p-3 : goal.overflow_add-p-3
overflow_add-p-3 c = omega (arith, filter_bound c.requires.asked c.requires.ask_selector c.requires.ask_kind, c.requires.asked.given.few_p)

pub keep-next-requires : goal.keep-next-requires
keep-next-requires c = record { ask_kept = keep_asked c.requires.asked c.requires.ask_selector c.requires.ask_kind c.word16.ensures c.first_child-i.ensures c.child_count-n.ensures; ask_test = test_asked c.requires.asked c.requires.ask_selector c.requires.ask_kind c.word16.ensures; form_at = c.in-Some.ensures }

pub returns : goal.returns
returns c = record { steady = steady_wrote _ _ _ _ c.keep-next.auto.list refl; done_keep = kept_done _ _ _ _ _ _ _ _ (keep_done c.requires.asked c.requires.ask_selector c.requires.ask_kind c.word16.ensures c.first_child-i.ensures c.child_count-n.ensures _ _ c.keep-next.ensures) }
