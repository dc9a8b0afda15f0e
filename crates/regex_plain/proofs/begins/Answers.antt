-- `regex_plain::begins` meets its contract.
use Rattle.regex_plain.proofs.Texts.{pass_start, pass_all, pass_short, pass_differ, pass_more}
use Prim.Native.Nat.{◌+◌, ◌-◌, ◌*◌}
use mathlib.Core.Path.{◌≡◌}
use native.Mathlib.Omega.{arith}
use Rattle.regex_plain.proofs.begins.Goals as goal

pub loop-k-init : goal.loop-k-init
loop-k-init c = let e : c.args.at + 6 * 0 ≡ c.args.at = omega arith in let f : c.args.n - 0 ≡ c.args.n = omega arith in rw (e, f) (pass_start _ _ _ _ _ _ c.requires.fact_3 c.requires.fact_1 c.requires.fact_2)

pub returns-then-i-to : goal.returns-then-i-to
returns-then-i-to c = pass_short _ _ _ _ _ _ c.requires.fact_3 _ _ _ c.loop-k.invariant (omega arith) c.if-i-to.true

pub char_at-c-requires : goal.char_at-c-requires
char_at-c-requires c = record { fact_1 = omega (arith, c.loop-k.invariant.within, c.if-i-to.false); fact_2 = c.requires.fact_3 }

pub bounds-code-at : goal.bounds-code-at
bounds-code-at c = omega (arith, c.loop-k.invariant.place)

pub returns-then-c-code : goal.returns-then-c-code
returns-then-c-code c = pass_differ _ _ _ _ _ _ c.requires.fact_3 _ _ _ c.loop-k.invariant (omega arith) c.if-i-to.false c.char_at-c.ensures c.if-c-code.true

pub loop-k-preserved : goal.loop-k-preserved
loop-k-preserved c = let e : c.args.at + 6 * (c.loop-k.k + 1) ≡ c.args.at + 6 * c.loop-k.k + 6 = omega arith in let f : c.args.n - (c.loop-k.k + 1) ≡ c.args.n - c.loop-k.k - 1 = omega arith in rw (e, f) (pass_more _ _ _ _ _ _ c.requires.fact_3 _ _ _ c.loop-k.invariant (omega arith) c.if-i-to.false c.char_at-c.ensures c.if-c-code.false)

pub returns : goal.returns
returns c = pass_all _ _ _ _ _ _ c.requires.fact_3 _ _ _ c.loop-k.invariant (omega arith)
