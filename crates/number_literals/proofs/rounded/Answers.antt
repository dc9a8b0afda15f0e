-- `number_literals::rounded` meets its contract: the nearest float is the literal's unless it is past the largest.
use mathlib.Core.Path.{◌≡◌, sym, ap, ◌∙◌}
use mathlib.Core.Bool.{Bool}
use Rattle.definition.specs.Literals.{float, nearest}
use Rattle.definition.specs.Tables.{is_finite}
use Rattle.number_integers.specs.Signed.{signed}
use Rattle.number_literals.proofs.Ranges.{in_float, past_beyond}
use Rattle.number_literals.proofs.rounded.Goals as goal

pub returns-then-finite : goal.returns-then-finite
returns-then-finite c =
    let told : (t : Bool) → c.finite.result ≡ t → is_finite (nearest c.args.negative c.args.n (signed c.args.low c.args.k)) ≡ t = λ t e. ap is_finite (sym c.nearest-bits.ensures.is) ∙ sym c.finite.ensures ∙ e in
    ap float c.nearest-bits.ensures.is ∙ sym (in_float c.args.negative c.args.n (signed c.args.low c.args.k) c.requires.0 c.requires.1 (told _ c.if-finite.true))

pub returns : goal.returns
returns c =
    let told : (t : Bool) → c.finite.result ≡ t → is_finite (nearest c.args.negative c.args.n (signed c.args.low c.args.k)) ≡ t = λ t e. ap is_finite (sym c.nearest-bits.ensures.is) ∙ sym c.finite.ensures ∙ e in
    sym (past_beyond c.args.negative c.args.n (signed c.args.low c.args.k) (told _ c.if-finite.false))
