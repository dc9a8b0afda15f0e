-- `regex_plain::letters` meets its contract.
use Rattle.regex_plain.proofs.Codes.{spelt_start, spelt_more}
use Rattle.regex_plain.proofs.letters.Goals as goal

pub loop-n-init : goal.loop-n-init
loop-n-init c = spelt_start _ _ c.requires

pub loop-n-preserved : goal.loop-n-preserved
loop-n-preserved c = spelt_more _ _ (c.letter.ensures c.loop-n-test.true) c.loop-n.invariant
