-- The two contracts leave one answer for each text and place, but for the place of the byte that is in the way: any two answers that they allow are the same. Assumes nothing.
use Rattle.std.specs.Prelude.{◌≡◌, refl, true, false, List, ℕ, ◌≤◌, ℤ, length, drop, Result, Ok, Err}
use Rattle.std.proofs.Common.{sym, ap, ◌∙◌, true≢false, arith, length-drop}
use Rattle.definition.specs.Lexical.{Int}
use Rattle.definition.specs.Literals.{int_value, in_range}
use Rattle.number_literals.specs.Values.{meaning}
use Rattle.number_literals.specs.declared.Literal.{Literal}
use Rattle.number_literals.specs.declared.Literal.TheVariants.{Int as IntLiteral, Float, Beyond}
use Rattle.number_parse.specs.Ints.{IntAt, IntAnswer, next_int, out_int, no_int}
use Rattle.number_parse.specs.Numbers.{NumberAnswer, next_number, no_number_lem}
use Rattle.number_parse.specs.declared.IntRead.{IntRead}
use Rattle.number_parse.specs.declared.IntError.{IntError}
use Rattle.number_parse.specs.declared.IntError.TheVariants.{OutOfRange, Nothing}
use Rattle.number_parse.specs.declared.NumberRead.{NumberRead}

-- The same rest begins at the same place.
same_place : (s : List ℕ) (a b : ℕ) → a ≤ length s → b ≤ length s → drop a s ≡ drop b s → a ≡ b
same_place s a b h k e = omega (arith, length-drop a s, length-drop b s, ap length e)

-- ---- ints

-- two answers are the same, whatever the places of the byte that is in the way
abbrev pub SameInt : Result IntRead IntError → Result IntRead IntError → Type 0
SameInt (Ok a) (Ok b) = (a.end ≡ b.end) × (a.value ≡ b.value)
SameInt (Ok a) (Err (OutOfRange b)) = ⊥
SameInt (Ok a) (Err (Nothing q)) = ⊥
SameInt (Err (OutOfRange a)) (Ok b) = ⊥
SameInt (Err (OutOfRange a)) (Err (OutOfRange b)) = a ≡ b
SameInt (Err (OutOfRange a)) (Err (Nothing q)) = ⊥
SameInt (Err (Nothing p)) (Ok b) = ⊥
SameInt (Err (Nothing p)) (Err (OutOfRange b)) = ⊥
SameInt (Err (Nothing p)) (Err (Nothing q)) = Unit {0}

-- Two ints at one place end at one place and have one value.
same_int : (s : List ℕ) (at a b : ℕ) (t u : Int) → IntAt s at a t → IntAt s at b u → (a ≡ b) × (int_value t ≡ int_value u)
same_int s at a b t u i j =
    let k = i.reads.only u (drop b s) j.may j.reads.eq in
    (same_place s a b i.to j.to (sym k.1), sym k.0)

in_and_out : (v w : ℤ) → v ≡ w → in_range v ≡ true → in_range w ≡ false → ⊥
in_and_out v w e h k = true≢false (sym h ∙ ap in_range e ∙ k)

pub one_int : (s : List ℕ) (at : ℕ) (x y : Result IntRead IntError) → IntAnswer s at x → IntAnswer s at y → SameInt x y
one_int s at (Ok a) (Ok b) (next_int t i e h) (next_int u j f k) = let m = same_int s at a.end b.end t u i j in (m.0, e ∙ m.1 ∙ sym f)
one_int s at (Ok a) (Err (OutOfRange b)) (next_int t i e h) (out_int u j k) = in_and_out a.value (int_value u) (e ∙ (same_int s at a.end b t u i j).1) h k
one_int s at (Ok a) (Err (Nothing q)) (next_int t i e h) (no_int l m n) = n.none t (drop a.end s) i.may i.reads.eq
one_int s at (Err (OutOfRange a)) (Ok b) (out_int t i h) (next_int u j f k) = in_and_out b.value (int_value t) (f ∙ sym (same_int s at a b.end t u i j).1) k h
one_int s at (Err (OutOfRange a)) (Err (OutOfRange b)) (out_int t i h) (out_int u j k) = (same_int s at a b t u i j).0
one_int s at (Err (OutOfRange a)) (Err (Nothing q)) (out_int t i h) (no_int l m n) = n.none t (drop a s) i.may i.reads.eq
one_int s at (Err (Nothing p)) (Ok b) (no_int l m n) (next_int u j f k) = n.none u (drop b.end s) j.may j.reads.eq
one_int s at (Err (Nothing p)) (Err (OutOfRange b)) (no_int l m n) (out_int u j k) = n.none u (drop b s) j.may j.reads.eq
one_int s at (Err (Nothing p)) (Err (Nothing q)) (no_int l m n) (no_int o r z) = tt

-- ---- number literals

abbrev pub SameNumber : Result NumberRead ℕ → Result NumberRead ℕ → Type 0
SameNumber (Ok a) (Ok b) = (a.end ≡ b.end) × (a.value ≡ b.value)
SameNumber (Ok a) (Err q) = ⊥
SameNumber (Err p) (Ok b) = ⊥
SameNumber (Err p) (Err q) = Unit {0}

-- Two cases that stand for the same are the same.
same_literal : (v w : Literal) → meaning v ≡ meaning w → v ≡ w
same_literal (IntLiteral x) (IntLiteral y) e = cc
same_literal (IntLiteral x) (Float y) e = cc
same_literal (IntLiteral x) Beyond e = cc
same_literal (Float x) (IntLiteral y) e = cc
same_literal (Float x) (Float y) e = cc
same_literal (Float x) Beyond e = cc
same_literal Beyond (IntLiteral y) e = cc
same_literal Beyond (Float y) e = cc
same_literal Beyond Beyond e = refl

pub one_number : (s : List ℕ) (at : ℕ) (x y : Result NumberRead ℕ) → NumberAnswer s at x → NumberAnswer s at y → SameNumber x y
one_number s at (Ok a) (Ok b) (next_number i) (next_number j) =
    let k = i.reads.only j.tree (drop b.end s) j.may j.reads.eq in
    (same_place s a.end b.end i.to j.to (sym k.1), same_literal a.value b.value (i.value ∙ sym k.0 ∙ sym j.value))
one_number s at (Ok a) (Err q) (next_number i) (no_number_lem l m n) = n.none i.tree (drop a.end s) i.may i.reads.eq
one_number s at (Err p) (Ok b) (no_number_lem l m n) (next_number j) = n.none j.tree (drop b.end s) j.may j.reads.eq
one_number s at (Err p) (Err q) (no_number_lem l m n) (no_number_lem o r z) = tt
