-- `regex_chars::ranges_have` meets its contract.
use Prim.Native.Nat.{◌+◌, ◌-◌, ◌*◌}
use mathlib.Core.Path.{◌≡◌}
use Rattle.regex_chars.proofs.Ranges.{scan_start, scan_end, scan_short, scan_found, scan_more}
use native.Mathlib.Omega.{arith}
use Rattle.regex_chars.proofs.ranges_have.Goals as goal

pub loop-k-init : goal.loop-k-init
loop-k-init c = let e : c.args.at + 2 * 0 ≡ c.args.at = omega arith in let f : c.args.n - 0 ≡ c.args.n = omega arith in rw (e, f) (scan_start _ _ _ _ c.requires)

pub returns-then-code-i-lt2 : goal.returns-then-code-i-lt2
returns-then-code-i-lt2 c = scan_short _ _ _ _ _ _ c.loop-k.invariant (omega arith) c.if-code-i-lt2.true

pub returns-then-between : goal.returns-then-between
returns-then-between c = scan_found _ _ _ _ _ _ c.loop-k.invariant (omega arith) c.between.ensures c.if-between.true

pub loop-k-preserved : goal.loop-k-preserved
loop-k-preserved c = let e : c.args.at + 2 * (c.loop-k.k + 1) ≡ c.args.at + 2 * c.loop-k.k + 2 = omega arith in let f : c.args.n - (c.loop-k.k + 1) ≡ c.args.n - c.loop-k.k - 1 = omega arith in rw (e, f) (scan_more _ _ _ _ _ _ c.loop-k.invariant (omega arith) c.if-code-i-lt2.false c.between.ensures c.if-between.false)

pub returns : goal.returns
returns c = scan_end _ _ _ _ _ _ c.loop-k.invariant (omega arith)
