-- `number_limbs::mul_times` meets its contract: each turn is one product, and nothing runs over the end.
use native.Mathlib.Nat.{pow-zero}
use mathlib.Core.Path.{◌≡◌, refl, sym, ◌∙◌, ap, subst}
use Prim.Native.Nat.{ℕ, ◌*◌, ◌^◌, ◌<◌}
use native.Mathlib.Nat.{mul-one}
use native.Mathlib.Omega.{arith}
use lib.ListN.{length}
use Rattle.number_limbs.specs.Limbs.{value}
use Rattle.number_limbs.proofs.Steps.{K}
use Rattle.number_limbs.proofs.Whole.{no_carry}
use Rattle.number_limbs.proofs.mul_times.Goals as goal

pub loop-j-init : goal.loop-j-init
loop-j-init c =
    let v = value c.args.x.now in
    (refl, c.requires.0, sym (ap (λ (w : ℕ). v * w) (pow-zero c.args.m) ∙ mul-one v))

pub mul_add-requires : goal.mul_add-requires
mul_add-requires c = (c.loop-j.invariant.1, c.requires.1, omega arith)

pub loop-j-preserved : goal.loop-j-preserved
loop-j-preserved c = (
  c.mul_add.auto.x ∙ c.loop-j.invariant.0,
  c.mul_add.ensures.1,
  no_carry (value c.args.x.now) (value c.loop-j.x) (value c.mul_add.new.x) c.mul_add.result c.args.m c.args.e c.loop-j._j (K ^ length c.loop-j.x) c.mul_add.ensures.0 c.loop-j.invariant.2 (subst (λ (w : ℕ). value c.args.x.now * c.args.m ^ c.args.e < K ^ w) (sym c.loop-j.invariant.0) c.requires.3) c.requires.2 c.loop-j-test.true,
)

pub returns : goal.returns
returns c =
    let e : c.loop-j._j ≡ c.args.e = omega arith in
    (c.loop-j.invariant.2 ∙ ap (λ (w : ℕ). value c.args.x.now * c.args.m ^ w) e, c.loop-j.invariant.1)
