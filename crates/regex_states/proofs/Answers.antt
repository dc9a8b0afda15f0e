-- From a trace to what a test promises. Assumes nothing.
use mathlib.Core.Path.{◌≡◌, ap, sym, ◌∙◌}
use mathlib.Core.Bool.{Bool}
use mathlib.Core.List.{List}
use Prim.Native.Nat.{ℕ, ◌-◌, ◌≤◌}
use native.Mathlib.Omega.{arith}
use lib.ListN.{length, take}
use lib.Seq.{length-take-le}
use Rattle.definition.specs.Utf8.{scalars_of}
use Rattle.utf8_laws.specs.Decode.{decode}
use Rattle.utf8_laws.specs.Scalars.{scalars_encoded}
use Rattle.regex_definition.specs.Regexp.{described}
use Rattle.regex_definition.specs.Scope.{widen}
use Rattle.regex_definition.specs.Agree.{agree, told_same}
use Rattle.regex_marks.specs.Runs.{Ran}
use Rattle.regex_match.specs.Tested.{Tested}
use Rattle.regex_states.specs.Ready.{width, Tables, Ready}

-- the expression has as many marks as the head says
pub tested : {s t es ss : List ℕ} {b : Bool} → Tables s es ss → Ran s t (width ss) b → Tested s t b
tested {s} {t} {es} {ss} {b} g r =
    record {
      of =
          λ k x e u.
          let d = decode t u in
          let q : scalars_of t ≡ d.0 = ap scalars_of (sym d.2) ∙ scalars_encoded d.0 in
          told_same (r.of (widen k x) d.0 e (sym d.2) (omega (arith, (g.of (widen k x) e).wide))) (agree (widen k x) d.0)
          ∙ ap (described (widen k x)) (sym q);
    }

pub ready : {s es ss : List ℕ} → Tables s es ss → Ready s es ss
ready g = record { head = omega (arith, g.some, g.sets); tables = λ n. g }

-- as many marks are lent
pub lent : (ms : List ℕ) (n : ℕ) {m : ℕ} → n ≤ length ms → n ≡ m → length (take (n - 0) ms) ≡ m
lent ms n h e = length-take-le (n - 0) ms (omega arith) ∙ (let z : n - 0 ≡ n = omega arith in z ∙ e)
