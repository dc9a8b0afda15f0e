-- Words written one behind the other are the code of an expression, and the code's answer is the definition's. Assumes nothing.
use Rattle.std.specs.Prelude.{Option as Answer, Some, None}
use mathlib.Core.Path.{◌≡◌, refl, ap, sym, ◌∙◌}
use mathlib.Core.Bool.{Bool, true, false}
use mathlib.Core.List.{List, [], ◌∷◌, ◌++◌}
use mathlib.Core.Option.{none, some}
use Prim.Native.Nat.{ℕ, ◌+◌, ◌*◌, ◌≤◌, ◌<◌}
use native.Mathlib.Omega.{arith}
use borrow.Author.Tests.{lt-leb, ne_eqb}
use lib.ListN.{length, take, set, length-append}
use Rattle.regex_definition.specs.Regexp.{Regexp, described}
use Rattle.regex_definition.specs.Scope.{Scope, whole, part, widen}
use Rattle.definition.specs.Utf8.{is_utf8, scalars_of}
use Rattle.definition.specs.Regexps.{regexp_of, test_by, regex_test}
use Rattle.basics.specs.Reads.{Wrote}
use Rattle.basics.specs.Stores.{wrote_then, wrote_length}
use Rattle.regex_code.specs.Flat.{flat}
use Rattle.regex_reader.proofs.Parts.{flat_behind}
use Rattle.regex_bytes.specs.Bytes.{IsCode, ReadsBytes}
use Rattle.regex_bytes.specs.Bytes.ReadsBytes.{code as bytes-code, outside as bytes-outside}
use Rattle.regex_match.specs.Tested.{Tested}
use Rattle.regex_rooms.specs.Rooms.{scope_for, IsWidened, Widened}
use Rattle.regex_rooms.specs.Rooms.Widened.{code, outside}
use Rattle.regex_leaves.proofs.Stores.{at_front}

-- ---- words

abbrev pub before : List ℕ
before = 2 ∷ 5 ∷ 0 ∷ 1 ∷ 1 ∷ 0 ∷ 2 ∷ []

abbrev pub anything : List ℕ
anything = 5 ∷ 0 ∷ 1 ∷ 1 ∷ 0 ∷ []

-- what stands before an expression
pub seven : {p q : List ℕ} → Wrote (set p 0 2) 1 anything q → Wrote p 0 before (set q 6 2)
seven {p} {q} w =
    let one : Wrote p 0 (2 ∷ []) (set p 0 2) = record { is = refl } in
    let last : Wrote q 6 (2 ∷ []) (set q 6 2) = record { is = refl } in
    wrote_then 6 (wrote_then 1 one refl w) refl last

-- the code of the widened expression
pub widened_words : (x : Regexp) → before ++ (flat x [] ++ anything) ≡ flat (widen part x) []
widened_words x = ap (λ (l : List ℕ). before ++ l) (sym (flat_behind x anything))

-- rooms for an expression of up to n bytes
pub rooms : (n : ℕ) {l p q : ℕ} → p ≡ n → q ≡ 8 * n + 15 → l ≤ n → (l ≤ p) × (8 * l + 15 ≤ q)
rooms n a b h = (omega arith, omega arith)

-- ---- an expression that was read

pub whole_read : {e p q : List ℕ} {r : Answer ℕ} → 8 * length e + 15 ≤ length p → ReadsBytes e p q 0 r → Widened whole e q r
whole_read {e} {p} h (bytes-code n d) =
    let g = d.grown in
    let k : n ≡ length (flat d.expr []) = omega arith in
    let f = d.few in
    let l = wrote_length d.buf in
    code n (record { expr = d.expr; is = d.is; inside = omega arith; code = at_front n d.buf k (omega arith) })
whole_read h (bytes-outside o) = outside o

module _ {e p₀ p q : List ℕ} {n : ℕ} (h : 8 * length e + 15 ≤ length p₀) (w : Wrote p₀ 0 before p) (d : IsCode e p q 7 n) where
  pub sought_room : n + 5 ≤ length q
  sought_room = let f = d.few in let l = wrote_length d.buf in let m = wrote_length w in omega arith

  pub sought_fits : n + 5 ≤ length p₀
  sought_fits = let f = d.few in omega arith

  pub sought_read : {q' : List ℕ} → Wrote q n anything q' → Widened part e q' (Some (n + 5))
  sought_read {q'} v =
      let f = d.few in
      let g = d.grown in
      let m = wrote_length w in
      let l = wrote_length d.buf in
      let k = wrote_length v in
      let x = d.expr in
      let a = wrote_then 7 w refl d.buf in
      let la = length-append before (flat x []) in
      let b = wrote_then n a (omega arith) v in
      let lb = length-append (before ++ flat x []) anything in
      code (n + 5) (record { expr = x; is = d.is; inside = omega arith; code = at_front (n + 5) b (omega arith) (omega arith) ∙ widened_words x })

pub sought_none : {e p q : List ℕ} {n : ℕ} {q' : List ℕ} → ReadsBytes e p q n None → Widened part e q' None
sought_none (bytes-outside o) = outside o

pub sought_code : {e p q : List ℕ} {k n : ℕ} → ReadsBytes e p q k (Some n) → IsCode e p q k n
sought_code (bytes-code n d) = d

-- ---- the kinds

pub for_search : {e q : List ℕ} {r : Answer ℕ} (k : ℕ) → k ≡ 0x1D → Widened part e q r → Widened (scope_for k) e q r
for_search k f w = rw f w

pub for_match : {e q : List ℕ} {r : Answer ℕ} (k : ℕ) → (k ≡ 0x1D → ⊥) → Widened whole e q r → Widened (scope_for k) e q r
for_match k f w = rw (ne_eqb k 0x1D f) w

-- ---- answers

by_some : (scope : Scope) (t e : List ℕ) (x : Regexp) (b : Bool) → regexp_of e ≡ some x → b ≡ described (widen scope x) (scalars_of t) → b ≡ regex_test scope t e
unfolding regex_test test_by
by_some scope t e x b i h = h ∙ ap (test_by scope (scalars_of t)) (sym i)

by_none : (scope : Scope) (t e : List ℕ) → regexp_of e ≡ none → false ≡ regex_test scope t e
unfolding regex_test test_by
by_none scope t e i = ap (test_by scope (scalars_of t)) (sym i)

outside_is : {scope : Scope} {e q : List ℕ} → Widened scope e q None → regexp_of e ≡ none
outside_is (outside o) = o

pub code_is : {scope : Scope} {e q : List ℕ} {n : ℕ} → Widened scope e q (Some n) → IsWidened scope e q n
code_is (code n w) = w

-- what is outside the part is false
pub holds_none : (scope : Scope) (t : List ℕ) {e q : List ℕ} → Widened scope e q None → false ≡ regex_test scope t e
holds_none scope t {e} w = by_none scope t e (outside_is w)

pub holds_some : (scope : Scope) (t : List ℕ) {e q : List ℕ} {n : ℕ} (b : Bool) → is_utf8 t ≡ true → IsWidened scope e q n → Tested (take n q) t b → b ≡ regex_test scope t e
holds_some scope t {e} b u w h = by_some scope t e w.expr b w.is (h.of scope w.expr w.code u)

-- an expression that is too long is outside the part
pub holds_long : (scope : Scope) (t e : List ℕ) → 1024 < length e → false ≡ regex_test scope t e
unfolding regexp_of
holds_long scope t e h = by_none scope t e (rw (lt-leb (length e) 1024 h) refl)
