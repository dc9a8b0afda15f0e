-- `number_limbs::scale` meets its contract: the number, then the powers of ten and of two.
use mathlib.Core.Path.{refl, ap, ◌∙◌}
use Prim.Native.Nat.{ℕ, ◌*◌, ◌^◌}
use native.Mathlib.Omega.{arith}
use lib.ListN.{length}
use Rattle.number_limbs.specs.Limbs.{value}
use Rattle.number_limbs.proofs.Powers.{first_fits, second_fits}
use Rattle.number_limbs.proofs.scale.Goals as goal

pub raise-requires : goal.raise-requires
raise-requires c = (c.fill.ensures.1, refl, omega arith, omega arith, omega arith, omega arith, first_fits (value c.fill.new.x) c.args.m c.args.p c.args.e (length c.fill.new.x) (length c.args.x.now) c.fill.ensures.0 c.fill.auto.x c.requires.3)

pub raise-requires-2 : goal.raise-requires-2
raise-requires-2 c = (
  c.raise.ensures.1,
  refl,
  omega arith,
  omega arith,
  omega arith,
  omega arith,
  second_fits (value c.raise.new.x) (value c.fill.new.x) c.args.m c.args.p c.args.e (length c.raise.new.x) (length c.args.x.now) c.raise.ensures.0 c.fill.ensures.0 (c.raise.auto.x ∙ c.fill.auto.x) c.requires.3,
)

pub returns : goal.returns
returns c = (c.raise-2.ensures.0 ∙ ap (λ (v : ℕ). v * 2 ^ c.args.e) (c.raise.ensures.0 ∙ ap (λ (v : ℕ). v * 10 ^ c.args.p) c.fill.ensures.0), c.raise-2.ensures.1)
