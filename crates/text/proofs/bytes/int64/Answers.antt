-- `text::bytes::int64` meets its contract. From 2 ^ 63 on the number is one less than the negated complement.
use native.Mathlib.Omega.{arith}
use Prim.Native.Nat.{◌-◌, ◌^◌}
use mathlib.Core.Path.{◌≡◌, ap, ◌∙◌}
use mir.Syntax.{w64}
use mir.Val.{to_z}
use Rattle.definition.specs.Bytes.{signed64}
use Rattle.text.proofs.Numbers.{signed64_is}
use Rattle.text.proofs.bytes.int64.Goals as goal

pub returns-then-n-lt-SIGN_BIT : goal.returns-then-n-lt-SIGN_BIT
returns-then-n-lt-SIGN_BIT c = signed64_is c.word64-n.result ∙ ap signed64 c.word64-n.ensures.is

pub returns-else-n-lt-SIGN_BIT : goal.returns-else-n-lt-SIGN_BIT
returns-else-n-lt-SIGN_BIT c =
    let e : 2 ^ 64 - 1 - (2 ^ 64 - 1 - c.word64-n.result) ≡ c.word64-n.result = omega arith in
    ap (to_z w64) e ∙ signed64_is c.word64-n.result ∙ ap signed64 c.word64-n.ensures.is
