-- match and search of two operands. Assumes nothing.
use Rattle.std.specs.Prelude.{ℕ, ◌+◌, ◌-◌, ◌≤◌, ◌≡◌, refl, List, Bool as Bits, true, false, length, take, drop}
use Rattle.std.proofs.Common.{ap, ◌∙◌, arith}
use Rattle.std.proofs.Math.Option.{Option, none, some}
use Rattle.regex_definition.specs.Scope.{Scope}
use Rattle.definition.specs.Bytes.{part}
use Rattle.definition.specs.Utf8.{is_utf8}
use Rattle.definition.specs.Compare.{Value, text_of}
use Rattle.definition.specs.Plans.{scope_kind}
use Rattle.definition.specs.Regexps.{regex_test, regex_text, regex_values}
use Rattle.table_laws.specs.Accepted.{Accepted}
use Rattle.regex_rooms.specs.Rooms.{scope_for, scope_for_lem}
use Rattle.eval_values.specs.Means.{meaning, Fine, Pair, text_in}
use Rattle.eval_values.specs.Values.{text_means}
use Rattle.eval_values.specs.declared.Operand.{Operand}
use Rattle.eval_values.specs.declared.Operand.TheVariants.{Nothing, Null, Bool, Int, Float, Pool, Text, Node}

-- a text lies inside and is UTF-8
abbrev pub Spelled : List ℕ → List ℕ → Operand → Type 0
Spelled X L Nothing = Unit {0}
Spelled X L Null = Unit {0}
Spelled X L (Bool b) = Unit {0}
Spelled X L (Int z) = Unit {0}
Spelled X L (Float x) = Unit {0}
Spelled X L (Pool a n) = (a + n ≤ length L) × (is_utf8 (part L a n) ≡ true)
Spelled X L (Text a n) = (a + n ≤ length X) × (is_utf8 (part X a n) ≡ true)
Spelled X L (Node i) = Unit {0}

pub spelled_of : (S X L : List ℕ) (x : Operand) → Fine S X L x → Spelled X L x
spelled_of S X L Nothing f = tt
spelled_of S X L Null f = tt
spelled_of S X L (Bool b) f = tt
spelled_of S X L (Int z) f = tt
spelled_of S X L (Float x) f = tt
spelled_of S X L (Pool a n) f = f
spelled_of S X L (Text a n) f = f
spelled_of S X L (Node i) f = tt

-- the test of two texts, false where one is missing
abbrev pub regex_in : Scope → Option (List ℕ) → Option (List ℕ) → Bits
regex_in c none v = false
regex_in c (some t) none = false
regex_in c (some t) (some e) = regex_test c t e

-- it is the definition's, of the texts that two values are
text_regex : (c : Scope) (t : List ℕ) (w : Value) → regex_in c (some t) (text_of w) ≡ regex_text c t w
unfolding regex_text text_of
text_regex c t Value.nothing = refl
text_regex c t Value.null = refl
text_regex c t (Value.boolean b) = refl
text_regex c t (Value.integer z) = refl
text_regex c t (Value.float x) = refl
text_regex c t (Value.text e) = refl
text_regex c t (Value.list ks) = refl
text_regex c t (Value.map ks) = refl

pub value_regex : (c : Scope) (v w : Value) → regex_in c (text_of v) (text_of w) ≡ regex_values c v w
unfolding regex_values text_of
value_regex c Value.nothing w = refl
value_regex c Value.null w = refl
value_regex c (Value.boolean b) w = refl
value_regex c (Value.integer z) w = refl
value_regex c (Value.float x) w = refl
value_regex c (Value.text t) w = text_regex c t w
value_regex c (Value.list ks) w = refl
value_regex c (Value.map ks) w = refl

-- and so it is of two operands, by the kind of the scope
pub regex_means : (S X L : List ℕ) → Accepted S X → (c : Scope) (k : ℕ) (x y : Operand) → scope_kind c ≡ k → Pair S X L x y
    → regex_in (scope_for k) (text_in X L x) (text_in X L y) ≡ regex_values c (meaning S X L x) (meaning S X L y)
regex_means S X L tab c k x y e p =
    ap (λ (z : Scope). regex_in z (text_in X L x) (text_in X L y)) (scope_for_lem c k e)
    ∙ ap (λ (z : Option (List ℕ)). regex_in c z (text_in X L y)) (text_means S X L tab x p.first)
    ∙ ap (regex_in c (text_of (meaning S X L x))) (text_means S X L tab y p.second)
    ∙ value_regex c (meaning S X L x) (meaning S X L y)

-- the bytes from a up to a + n are the part of n bytes from a on
pub cut : (s : List ℕ) (a n : ℕ) → take (a + n - a) (drop a s) ≡ part s a n
cut s a n = let e : a + n - a ≡ n = omega arith in ap (λ (k : ℕ). take k (drop a s)) e

pub cut_test : (c : Scope) (s t : List ℕ) (a n b m : ℕ) → regex_test c (take (a + n - a) (drop a s)) (take (b + m - b) (drop b t)) ≡ regex_test c (part s a n) (part t b m)
cut_test c s t a n b m = ap (λ (l : List ℕ). regex_test c l (take (b + m - b) (drop b t))) (cut s a n) ∙ ap (regex_test c (part s a n)) (cut t b m)
