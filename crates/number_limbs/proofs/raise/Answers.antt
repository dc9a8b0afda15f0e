-- `number_limbs::raise` meets its contract: chunks of factors, and the rest.
use mathlib.Core.Path.{sym, subst}
use Prim.Native.Nat.{ℕ, ◌^◌, ◌<◌}
use native.Mathlib.Nat.{one-le-pow}
use lib.ListN.{length}
use Rattle.number_limbs.specs.Limbs.{value}
use Rattle.number_limbs.proofs.Powers.{chunks_fit, rest_fits, raised}
use Rattle.number_limbs.proofs.Steps.{K}
use Rattle.number_limbs.proofs.raise.Goals as goal

pub mul_times-requires : goal.mul_times-requires
mul_times-requires c = (c.requires.0, c.requires.2, subst (λ (n : ℕ). 0 < n) (sym c.requires.1) (one-le-pow c.args.width c.args.base c.requires.4), chunks_fit (value c.args.x.now) c.args.base c.args.chunk c.args.width c.args.e c.requires.1 (K ^ length c.args.x.now) c.requires.4 c.requires.6)

pub mul_times-requires-2 : goal.mul_times-requires-2
mul_times-requires-2 c = (c.mul_times.ensures.1, c.requires.3, c.requires.4, rest_fits (value c.args.x.now) c.args.base c.args.chunk c.args.width c.args.e c.requires.1 (value c.mul_times.new.x) (length c.mul_times.new.x) (length c.args.x.now) c.mul_times.ensures.0 c.mul_times.auto.x c.requires.6)

pub returns : goal.returns
returns c = (raised (value c.args.x.now) c.args.base c.args.chunk c.args.width c.args.e c.requires.1 (value c.mul_times.new.x) (value c.mul_times-2.new.x) c.mul_times.ensures.0 c.mul_times-2.ensures.0, c.mul_times-2.ensures.1)
