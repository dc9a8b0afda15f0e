-- `regex_needed::product` meets its contract.
use Prim.Native.Nat.{min, ◌*◌}
use mathlib.Core.Path.{ap, ◌∙◌}
use Rattle.regex_needed.proofs.Writing.{words_product}
use Rattle.regex_needed.proofs.product.Goals as goal

pub overflow_mul-h : goal.overflow_mul-h
overflow_mul-h c = record { fits = words_product _ _ c.wide-h.ensures.1 c.wide-k.ensures.1 }

pub returns : goal.returns
returns c = c.min-m.ensures ∙ ap (λ h. min (h * c.wide-k.result) c.args.n) c.wide-h.ensures.0 ∙ ap (λ h. min (c.args.a * h) c.args.n) c.wide-k.ensures.0
