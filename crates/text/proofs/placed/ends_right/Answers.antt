-- `text::placed::ends_right` meets its contract: four tests.
use native.Mathlib.Omega.{arith}
use mathlib.Core.Path.{◌≡◌, subst}
use mathlib.Core.Bool.{and-eq-true_iff}
use Prim.Native.Nat.{ℕ, ◌+◌, ◌-◌}
use lib.ListN.{length, get_or}
use Rattle.text.specs.Placed.{Placed}
use Rattle.text.proofs.placed.ends_right.Goals as goal

pub returns : goal.returns
returns c =
    λ z.
    let t = (and-eq-true_iff _ c.is_placed-4.result).0 z in
    let u = (and-eq-true_iff _ c.is_placed-3.result).0 t.0 in
    let v = (and-eq-true_iff c.is_placed.result c.is_placed-2.result).0 u.0 in
    record {
      first = c.is_placed.ensures v.0;
      second = c.is_placed-2.ensures v.1;
      third = c.is_placed-3.ensures u.1;
      end = λ j e. let k : length c.args.s.now - 3 ≡ j = omega arith in subst (λ (x : ℕ). Placed (get_or c.args.s.now x 0) (get_or c.args.s.now (x + 1) 0) (get_or c.args.s.now (x + 2) 0) 0) k (c.is_placed-4.ensures t.1);
    }
