-- `regex_bytes::point` meets its contract.
use Rattle.regex_bytes.proofs.OfBytes.{point_one, point_two, point_three, point_four}
use Rattle.regex_bytes.proofs.point.Goals as goal

pub returns-then-b-lt128 : goal.returns-then-b-lt128
returns-then-b-lt128 c = point_one c.args.s.now c.args.at _ c.byte_at-b.ensures.0 c.if-b-lt128.true

pub returns-then-b-lt224 : goal.returns-then-b-lt224
returns-then-b-lt224 c = point_two c.args.s.now c.args.at _ _ _ c.byte_at-b.ensures.0 c.byte_at-t.ensures.0 c.if-b-lt128.false c.if-b-lt224.true c.saturating_sub.ensures

pub returns-then-b-lt240 : goal.returns-then-b-lt240
returns-then-b-lt240 c = point_three c.args.s.now c.args.at _ _ _ _ c.byte_at-b.ensures.0 c.byte_at-t.ensures.0 c.byte_at-u.ensures.0 c.if-b-lt224.false c.if-b-lt240.true c.saturating_sub-then-b-lt240.ensures

pub returns : goal.returns
returns c = point_four c.args.s.now c.args.at _ _ _ _ _ c.byte_at-b.ensures.0 c.byte_at-t.ensures.0 c.byte_at-u.ensures.0 c.byte_at-v.ensures.0 c.if-b-lt240.false c.saturating_sub-2.ensures
