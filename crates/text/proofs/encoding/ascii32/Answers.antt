-- `text::encoding::ascii32` meets its contract: four times eight ASCII bytes, one behind another.
use mathlib.Core.Path.{sym, ◌∙◌}
use mathlib.Core.Bool.{and-eq-true_iff}
use Rattle.text.specs.Chars.{is_ascii}
use Rattle.text.proofs.Ascii.{every_join}
use Rattle.text.proofs.encoding.ascii32.Goals as goal

pub returns : goal.returns
returns c =
    λ z.
    let t = (and-eq-true_iff _ c.ascii8-4.result).0 z in
    let u = (and-eq-true_iff _ c.ascii8-3.result).0 t.0 in
    let v = (and-eq-true_iff c.ascii8.result c.ascii8-2.result).0 u.0 in
    let two = every_join is_ascii c.args.s.now c.args.at 8 8 (sym c.ascii8.ensures ∙ v.0) (sym c.ascii8-2.ensures ∙ v.1) in
    let three = every_join is_ascii c.args.s.now c.args.at 16 8 two (sym c.ascii8-3.ensures ∙ u.1) in
    every_join is_ascii c.args.s.now c.args.at 24 8 three (sym c.ascii8-4.ensures ∙ t.1)
