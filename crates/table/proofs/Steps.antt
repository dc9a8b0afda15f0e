-- An answer that may be none. Assumes nothing.
use Prim.Native.Nat.{ℕ}
use mathlib.Core.Path.{◌≡◌, refl}
use mathlib.Core.Bool.{Bool, true, false}
use Rattle.std.specs.Prelude.{Option, Some, None, is_some, OnSome}
use Rattle.std.specs.Bool.{then_some}

pub is_some_then : (b : Bool) (n : ℕ) → is_some (then_some b n) ≡ b
is_some_then true n = refl
is_some_then false n = refl

pub OnSome-always : {P : Type 0} (o : Option ℕ) → P → OnSome o P
OnSome-always None p = tt
OnSome-always (Some n) p = p

pub on_some_weaker : {P Q : Type 0} (o : Option ℕ) → (P → Q) → OnSome o P → OnSome o Q
on_some_weaker None f p = tt
on_some_weaker (Some n) f p = f p
