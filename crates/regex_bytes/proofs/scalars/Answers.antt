-- `regex_bytes::scalars` meets its contract. The loop's invariant: the characters of the bytes that were passed are written.
use Rattle.basics.specs.Stores.{wrote_length}
use Rattle.regex_bytes.proofs.OfBytes.{passed_none, passed_more, passed_all}
use native.Mathlib.Omega.{arith}
use Rattle.regex_bytes.proofs.scalars.Goals as goal

pub loop-i-init : goal.loop-i-init
loop-i-init c = passed_none _ _

pub scalar-n-requires : goal.scalar-n-requires
scalar-n-requires c = (omega arith, let l = wrote_length c.loop-i.invariant.buf in omega (arith, l, c.requires, c.loop-i.invariant.few))

pub loop-i-preserved : goal.loop-i-preserved
loop-i-preserved c = passed_more c.loop-i.invariant (omega arith) c.scalar-n.ensures

pub shape_of-chars : goal.shape_of-chars
shape_of-chars c = wrote_length c.loop-i.invariant.buf

pub returns : goal.returns
returns c = passed_all c.loop-i.invariant (omega arith)
