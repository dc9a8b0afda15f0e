-- A filter that is read once: what stands in the plan for each of its forms. P is the plan. Assumes nothing: these are definitions.
use Rattle.std.specs.Prelude.{ℕ, ◌≤◌, ◌≡◌, List, get_or}
use Rattle.eval_filters.specs.Keeps.{TailAt, PairAt, CountsAt}
use Rattle.eval_filters.specs.Itself.{ItselfAt}
use Rattle.eval_filters.specs.declared.kept.Form.{Form}
use Rattle.eval_filters.specs.declared.kept.Form.TheVariants.{Members, Counted, Itself}

abbrev pub FormAt : List ℕ → ℕ → ℕ → ℕ → Form → Type 0
FormAt P p z rest (Members g tail) = PairAt P p z g.left g.join g.right × (TailAt P rest tail × (tail ≤ 1))
FormAt P p z rest (Counted op) = CountsAt P p z op × (get_or P rest 0 ≡ 0x0A)
FormAt P p z rest (Itself v) = ItselfAt P p z v.form v.op × (get_or P rest 0 ≡ 0x0A)
