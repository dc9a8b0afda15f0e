-- `text::encoding::ascii_few` meets its contract: every byte passes the test.
use Rattle.std.proofs.Common.{◌<◌, ◌≤◌, rules, tests}
use Rattle.std.proofs.lemmas.Iterator.{cases_from_all, YieldsList-from_slice}
use Rattle.text.proofs.Ascii.{ascii_from_all}
use Rattle.text.proofs.encoding.ascii_few.Goals as goal

pub returns : goal.returns
returns c =
    let s = c.args.s.now in
    ascii_from_all s c.all.result _ (cases_from_all _ _ _ (λ x. x < 0x80) (λ x. 0x80 ≤ x) c.all.ensures.ran (YieldsList-from_slice s cc) (λ x q k. search (rules, tests)) (λ x q k. search (rules, tests)))
