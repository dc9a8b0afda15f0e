-- `keep` meets its contract.
use mathlib.Core.Path.{subst}
use Rattle.eval_filters.specs.Ways.{FormAt}
use Rattle.eval_filters.proofs.kept.keep.Goals as goal

pub keep_counts-requires : goal.keep_counts-requires
keep_counts-requires c = record { ask_kept = c.requires.ask_kept; ask_test = c.requires.ask_test; counts_at = subst (FormAt c.args.plan.now c.args.p c.args.z c.args.rest) c.in-Counted.is c.requires.form_at }

pub keep_itself-requires : goal.keep_itself-requires
keep_itself-requires c = record { ask_kept = c.requires.ask_kept; ask_test = c.requires.ask_test; itself_at = subst (FormAt c.args.plan.now c.args.p c.args.z c.args.rest) c.in-Itself.is c.requires.form_at }

pub keep_pair-requires : goal.keep_pair-requires
keep_pair-requires c = let w = subst (FormAt c.args.plan.now c.args.p c.args.z c.args.rest) c.in-Members.is c.requires.form_at in record { ask_kept = c.requires.ask_kept; ask_test = c.requires.ask_test; pair_at = w.0; tail_at = w.1 }
