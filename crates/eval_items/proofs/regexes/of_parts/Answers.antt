-- `eval_items::regexes::of_parts` meets its contract.
use Rattle.eval_items.specs.Regexes.{cut, cut_test}
use Rattle.definition.specs.Utf8.{is_utf8}
use mathlib.Core.Path.{ap, ◌∙◌}
use Rattle.eval_items.proofs.regexes.of_parts.Goals as goal

pub holds-requires : goal.holds-requires
holds-requires c = (ap is_utf8 (cut c.args.s.now c.args.a c.args.n) ∙ c.requires.n_in_bounds.1, ap is_utf8 (cut c.args.t.now c.args.b c.args.m) ∙ c.requires.m_in_bounds.1)

pub returns : goal.returns
returns c = c.holds.ensures ∙ cut_test _ c.args.s.now c.args.t.now c.args.a c.args.n c.args.b c.args.m
