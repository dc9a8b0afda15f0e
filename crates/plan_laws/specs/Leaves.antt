-- The parts of a plan that hold no other part: texts in the pool, integers, floats, small numbers, the bounds of a slice, literals.
-- Each is spelled in one way, and at a place where two are spelled they are equal.
use Prim.Native.Nat.{ℕ, zero, suc, ◌+◌, ◌*◌, ◌^◌, ◌≤◌, ◌<◌}
use Rattle.std.proofs.Common.{arith, sym, ◌∙◌, append_assoc}
use Rattle.std.specs.Prelude.{◌≡◌, List, [], ◌∷◌, ◌++◌, Bool, true, false, cond, ◌&&◌, ltb, ℤ, pos, negsuc, length}
use Rattle.std.proofs.Math.Path.{refl, ap}
use Rattle.std.proofs.lemmas.List.{append_cancel_left}
use Rattle.std.proofs.Math.Option.{Option, none, some}
use borrow.Author.Tests.{ltb-true}
use Rattle.definition.specs.Limits.{max_plan}
use Rattle.definition.specs.Bytes.{little_endian, unsigned64}
use Rattle.definition.specs.Utf8.{is_utf8}
use Rattle.definition.specs.Tables.{is_finite}
use Rattle.definition.specs.Forms.{Literal, Operator}
use Rattle.definition.specs.Forms.Literal.{null, boolean, integer, float, text}
use Rattle.definition.specs.Forms.Operator.{eq, ne, lt, le, gt, ge}
use Rattle.definition.specs.QueryForms.{inside_i64, literal_right, bound_right}
use Rattle.definition.specs.Plans.{pool_literal, two, eight, pooled, operator_byte, given, eight_of, code_literal}
use Rattle.definition_bytes.specs.Numbers.{range_inside, unsigned_fits}
use Rattle.basics.specs.Bools.{and_left, and_right}
use Rattle.basics.specs.Lists.{differ, same_tail}
use Rattle.plan_laws.specs.Lists.{append_same, number_same}
use Rattle.plan_laws.specs.Parts.{Part, Spelt, Unique, pool_left, kind_same}

-- ---- texts: "pool start 2, length 2"

abbrev pub texts : ℕ → Part (List ℕ)
texts σ = record { code = λ s p. two p ++ two (length s); pool = λ s. s; right = is_utf8; nest = λ s. 0; sort = λ s. σ; may = λ r. true }

pub unique_texts : (σ n : ℕ) → Unique (texts σ) n
unique_texts σ n = record { same = same }
  where
    same : {room room' p : ℕ} {s l r r' m m' : List ℕ} (x x' : List ℕ) → length s < n → length l ≤ max_plan → Spelt (texts σ) room s l p x r m → Spelt (texts σ) room' s l p x' r' m' → x ≡ x'
    same {p = p} {r = r} {r' = r'} {m = m} {m' = m'} x x' a b u v =
        let f : two p ++ (two (length x) ++ r) ≡ two p ++ (two (length x') ++ r') = sym (append_assoc (two p) (two (length x)) r) ∙ sym u.plan ∙ v.plan ∙ append_assoc (two p) (two (length x')) r' in
        let g = append_cancel_left (two p) (two (length x) ++ r) (two (length x') ++ r') f in
        let c = pool_left u in
        let d = pool_left v in
        let h = number_same 2 (length x) (length x') {s = two (length x) ++ r} (omega arith) (omega arith) refl g in
        (append_same x x' m m' h.0 (sym u.pool ∙ v.pool)).0

-- ---- integers in 8 bytes, two's complement

abbrev pub integers : (ℤ → Bool) → ℕ → Part ℤ
integers ok σ = record { code = λ z p. eight z; pool = λ z. []; right = ok; nest = λ z. 0; sort = λ z. σ; may = λ r. true }

-- and is told from every other one by them
pub unsigned_same : (y z : ℤ) → inside_i64 y ≡ true → inside_i64 z ≡ true → unsigned64 y ≡ unsigned64 z → y ≡ z
unfolding inside_i64
unsigned_same (pos n) (pos m) a b e = ap pos e
unsigned_same (pos n) (negsuc m) a b e = absurd (let f = ltb-true n (2 ^ 63) a in let g = ltb-true m (2 ^ 63) b in omega arith)
unsigned_same (negsuc n) (pos m) a b e = absurd (let f = ltb-true n (2 ^ 63) a in let g = ltb-true m (2 ^ 63) b in omega arith)
unsigned_same (negsuc n) (negsuc m) a b e = let f = ltb-true n (2 ^ 63) a in let g = ltb-true m (2 ^ 63) b in let h : n ≡ m = omega arith in ap negsuc h

-- two integers spelled in one place are equal
pub eight_same : {s r t : List ℕ} (y z : ℤ) → inside_i64 y ≡ true → inside_i64 z ≡ true → s ≡ eight y ++ r → s ≡ eight z ++ t → (y ≡ z) × (r ≡ t)
eight_same y z a b f g =
    let h = number_same 8 (unsigned64 y) (unsigned64 z) (unsigned_fits y a) (unsigned_fits z b) f g in
    (unsigned_same y z a b h.0, h.1)

pub unique_integers : (ok : ℤ → Bool) → ((z : ℤ) → ok z ≡ true → inside_i64 z ≡ true) → (σ n : ℕ) → Unique (integers ok σ) n
unique_integers ok inside σ n = record { same = λ x x' a b u v. (eight_same x x' (inside x u.right) (inside x' v.right) u.plan v.plan).0 }

-- ---- floats by their bits

abbrev pub floats : ℕ → Part ℕ
floats σ = record { code = λ b p. little_endian 8 b; pool = λ b. []; right = λ b. ltb b (2 ^ 64) && is_finite b; nest = λ b. 0; sort = λ b. σ; may = λ r. true }

pub unique_floats : (σ n : ℕ) → Unique (floats σ) n
unique_floats σ n = record {
  same = λ x x' a b u v.
      let f = ltb-true x (2 ^ 64) (and_left (ltb x (2 ^ 64)) (is_finite x) u.right) in
      let g = ltb-true x' (2 ^ 64) (and_left (ltb x' (2 ^ 64)) (is_finite x') v.right) in
      (number_same 8 x x' (omega arith) (omega arith) u.plan v.plan).0;
}

-- ---- one byte below a limit

abbrev pub smalls : ℕ → ℕ → Part ℕ
smalls limit σ = record { code = λ b p. b ∷ []; pool = λ b. []; right = λ b. ltb b limit; nest = λ b. 0; sort = λ b. σ; may = λ r. true }

pub unique_smalls : (limit σ n : ℕ) → Unique (smalls limit σ) n
unique_smalls limit σ n = record { same = λ x x' a b u v. let f = u.plan in let g = v.plan in cc }

-- ---- the bounds of a slice

pub record Bounds : Type 0 where
  pub start : Option ℤ
  pub stop : Option ℤ
  pub step : Option ℤ

-- bounds are equal if each is
pub bounds_equal : {a a' b b' c c' : Option ℤ} → a ≡ a' → b ≡ b' → c ≡ c' → ◌≡◌ {A = Bounds} (record { start = a; stop = b; step = c }) (record { start = a'; stop = b'; step = c' })
bounds_equal e f g = rw (e, f, g)

-- whether a bound is given, as a number
abbrev pub bit : Option ℤ → ℕ
bit none = 0
bit (some z) = 1

pub bit_low : (o : Option ℤ) → bit o ≤ 1
bit_low none = omega arith
bit_low (some z) = omega arith

pub given_bit : (o : Option ℤ) (b : ℕ) → given o b ≡ b * bit o
unfolding given
given_bit none b = omega arith
given_bit (some z) b = omega arith

-- the flags of three bounds
abbrev pub flags : Bounds → ℕ
flags b = given b.start 1 + given b.stop 2 + given b.step 4

pub flags_bits : (b : Bounds) → flags b ≡ bit b.start + 2 * bit b.stop + 4 * bit b.step
flags_bits b = rw (given_bit b.start 1, given_bit b.stop 2, given_bit b.step 4) (omega arith)

abbrev pub bounds_right : Bounds → Bool
bounds_right b = bound_right b.start && (bound_right b.stop && bound_right b.step)

abbrev pub slices : Part Bounds
slices = record { code = λ b p. flags b ∷ (eight_of b.start ++ (eight_of b.stop ++ eight_of b.step)); pool = λ b. []; right = bounds_right; nest = λ b. 0; sort = λ b. 0; may = λ r. true }

-- two bounds that are both given or both absent, spelled in one place, are equal
pub bound_same : {s r t : List ℕ} (a b : Option ℤ) → bit a ≡ bit b → bound_right a ≡ true → bound_right b ≡ true → s ≡ eight_of a ++ r → s ≡ eight_of b ++ t → (a ≡ b) × (r ≡ t)
unfolding eight_of bound_right
bound_same {r = r} {t = t} none none e u v f g = (refl, append_cancel_left (little_endian 8 0) r t (sym f ∙ g))
bound_same none (some z) e u v f g = absurd (omega arith)
bound_same (some y) none e u v f g = absurd (omega arith)
bound_same (some y) (some z) e u v f g =
    let h = eight_same y z (range_inside y u) (range_inside z v) f g in
    (ap some h.0, h.1)

-- three lists in front of a fourth
pub append_three : (a b c r : List ℕ) → (a ++ (b ++ c)) ++ r ≡ a ++ (b ++ (c ++ r))
append_three a b c r = simp append_assoc

pub unique_slices : (n : ℕ) → Unique slices n
unique_slices n = record { same = same }
  where
    same : {room room' p : ℕ} {s l r r' m m' : List ℕ} (x x' : Bounds) → length s < n → length l ≤ max_plan → Spelt slices room s l p x r m → Spelt slices room' s l p x' r' m' → x ≡ x'
    same {r = r} {r' = r'} x x' a b u v =
        let w : flags x ≡ flags x' = let f = u.plan in let g = v.plan in cc in
        let f = flags_bits x in
        let g = flags_bits x' in
        let b1 = bit_low x.start in
        let b2 = bit_low x.stop in
        let b3 = bit_low x.step in
        let c1 = bit_low x'.start in
        let c2 = bit_low x'.stop in
        let c3 = bit_low x'.step in
        let t : (eight_of x.start ++ (eight_of x.stop ++ eight_of x.step)) ++ r ≡ (eight_of x'.start ++ (eight_of x'.stop ++ eight_of x'.step)) ++ r' = same_tail u.plan v.plan in
        let t1 = sym (append_three (eight_of x.start) (eight_of x.stop) (eight_of x.step) r) ∙ t ∙ append_three (eight_of x'.start) (eight_of x'.stop) (eight_of x'.step) r' in
        let y2 = and_right (bound_right x.start) (bound_right x.stop && bound_right x.step) u.right in
        let z2 = and_right (bound_right x'.start) (bound_right x'.stop && bound_right x'.step) v.right in
        let h1 = bound_same x.start x'.start (omega arith) (and_left (bound_right x.start) (bound_right x.stop && bound_right x.step) u.right) (and_left (bound_right x'.start) (bound_right x'.stop && bound_right x'.step) v.right) refl t1 in
        let h2 = bound_same x.stop x'.stop (omega arith) (and_left (bound_right x.stop) (bound_right x.step) y2) (and_left (bound_right x'.stop) (bound_right x'.step) z2) refl h1.1 in
        let h3 = bound_same x.step x'.step (omega arith) (and_right (bound_right x.stop) (bound_right x.step) y2) (and_right (bound_right x'.stop) (bound_right x'.step) z2) refl h2.1 in
        bounds_equal h1.0 h2.0 h3.0

-- ---- literals

abbrev pub literals : Part Literal
literals = record { code = code_literal; pool = pool_literal; right = literal_right; nest = λ l. 0; sort = λ l. 2; may = λ r. true }

-- "13 constant: 1 byte: 0 false, 1 true, 2 null"
unfoldable pub constant_of : ℕ → Literal
constant_of zero = boolean false
constant_of (suc zero) = boolean true
constant_of (suc (suc n)) = null

-- a literal, by the kind of its item
pub data LiteralOf (room : ℕ) (s l : List ℕ) (p : ℕ) (r m : List ℕ) : Literal → Type 0 where
  of_integer : {s₁ : List ℕ} (z : ℤ) → s ≡ 0x10 ∷ s₁ → Spelt (integers inside_i64 2) room s₁ l p z r m → LiteralOf room s l p r m (integer z)
  of_float : {s₁ : List ℕ} (b : ℕ) → s ≡ 0x11 ∷ s₁ → Spelt (floats 2) room s₁ l p b r m → LiteralOf room s l p r m (float b)
  of_text : {s₁ : List ℕ} (t : List ℕ) → s ≡ 0x12 ∷ s₁ → Spelt (texts 2) room s₁ l p t r m → LiteralOf room s l p r m (text t)
  of_constant : {s₁ : List ℕ} {x : Literal} (c : ℕ) → s ≡ 0x13 ∷ s₁ → constant_of c ≡ x → Spelt (smalls 3 2) room s₁ l p c r m → LiteralOf room s l p r m x

pub literal_of : {room p : ℕ} {s l r m : List ℕ} (x : Literal) → Spelt literals room s l p x r m → LiteralOf room s l p r m x
unfolding code_literal pool_literal literal_right constant_of pooled
literal_of null u = of_constant 2 u.plan refl (record { plan = refl; pool = u.pool; right = refl; low = u.low; may = refl })
literal_of (boolean true) u = of_constant 1 u.plan refl (record { plan = refl; pool = u.pool; right = refl; low = u.low; may = refl })
literal_of (boolean false) u = of_constant 0 u.plan refl (record { plan = refl; pool = u.pool; right = refl; low = u.low; may = refl })
literal_of (integer z) u = of_integer z u.plan (record { plan = refl; pool = u.pool; right = u.right; low = u.low; may = refl })
literal_of (float b) u = of_float b u.plan (record { plan = refl; pool = u.pool; right = u.right; low = u.low; may = refl })
literal_of (text t) u = of_text t u.plan (record { plan = refl; pool = u.pool; right = u.right; low = u.low; may = refl })

-- and back
module _ {room p : ℕ} {s s₁ l r m : List ℕ} where
  pub as_integer : {z : ℤ} → s ≡ 0x10 ∷ s₁ → Spelt (integers inside_i64 2) room s₁ l p z r m → Spelt literals room s l p (integer z) r m
  unfolding code_literal pool_literal literal_right
  as_integer e u = record { plan = e ∙ ap (λ t. 0x10 ∷ t) u.plan; pool = u.pool; right = u.right; low = u.low; may = refl }

  pub as_float : {b : ℕ} → s ≡ 0x11 ∷ s₁ → Spelt (floats 2) room s₁ l p b r m → Spelt literals room s l p (float b) r m
  unfolding code_literal pool_literal literal_right
  as_float e u = record { plan = e ∙ ap (λ t. 0x11 ∷ t) u.plan; pool = u.pool; right = u.right; low = u.low; may = refl }

  pub as_text : {t : List ℕ} → s ≡ 0x12 ∷ s₁ → Spelt (texts 2) room s₁ l p t r m → Spelt literals room s l p (text t) r m
  unfolding code_literal pool_literal literal_right pooled
  as_text e u = record { plan = e ∙ ap (λ t. 0x12 ∷ t) u.plan; pool = u.pool; right = u.right; low = u.low; may = refl }

  pub as_constant : (c : ℕ) → s ≡ 0x13 ∷ s₁ → Spelt (smalls 3 2) room s₁ l p c r m → Spelt literals room s l p (constant_of c) r m
  unfolding code_literal pool_literal literal_right constant_of
  as_constant zero e u = record { plan = e ∙ ap (λ t. 0x13 ∷ t) u.plan; pool = u.pool; right = refl; low = u.low; may = refl }
  as_constant (suc zero) e u = record { plan = e ∙ ap (λ t. 0x13 ∷ t) u.plan; pool = u.pool; right = refl; low = u.low; may = refl }
  as_constant (suc (suc zero)) e u = record { plan = e ∙ ap (λ t. 0x13 ∷ t) u.plan; pool = u.pool; right = refl; low = u.low; may = refl }
  as_constant (suc (suc (suc n))) e u = absurd (let f = ltb-true (suc (suc (suc n))) 3 u.right in omega arith)

module _ (n : ℕ) where
  literal_same : {room room' p : ℕ} {s l r r' m m' : List ℕ} {x x' : Literal} → length s < suc n → length l ≤ max_plan → LiteralOf room s l p r m x → LiteralOf room' s l p r' m' x' → x ≡ x'
  literal_same a b (of_integer z e u) (of_integer z' e' u') = ap integer (kind_same (unique_integers inside_i64 (λ _ h. h) 2 n) a b e e' u u')
  literal_same a b (of_integer z e u) (of_float z' e' u') = absurd (differ 0x10 0x11 refl e e')
  literal_same a b (of_integer z e u) (of_text z' e' u') = absurd (differ 0x10 0x12 refl e e')
  literal_same a b (of_integer z e u) (of_constant z' e' c' u') = absurd (differ 0x10 0x13 refl e e')
  literal_same a b (of_float z e u) (of_integer z' e' u') = absurd (differ 0x11 0x10 refl e e')
  literal_same a b (of_float z e u) (of_float z' e' u') = ap float (kind_same (unique_floats 2 n) a b e e' u u')
  literal_same a b (of_float z e u) (of_text z' e' u') = absurd (differ 0x11 0x12 refl e e')
  literal_same a b (of_float z e u) (of_constant z' e' c' u') = absurd (differ 0x11 0x13 refl e e')
  literal_same a b (of_text z e u) (of_integer z' e' u') = absurd (differ 0x12 0x10 refl e e')
  literal_same a b (of_text z e u) (of_float z' e' u') = absurd (differ 0x12 0x11 refl e e')
  literal_same a b (of_text z e u) (of_text z' e' u') = ap text (kind_same (unique_texts 2 n) a b e e' u u')
  literal_same a b (of_text z e u) (of_constant z' e' c' u') = absurd (differ 0x12 0x13 refl e e')
  literal_same a b (of_constant z e c u) (of_integer z' e' u') = absurd (differ 0x13 0x10 refl e e')
  literal_same a b (of_constant z e c u) (of_float z' e' u') = absurd (differ 0x13 0x11 refl e e')
  literal_same a b (of_constant z e c u) (of_text z' e' u') = absurd (differ 0x13 0x12 refl e e')
  literal_same a b (of_constant z e c u) (of_constant z' e' c' u') = sym c ∙ ap constant_of (kind_same (unique_smalls 3 2 n) a b e e' u u') ∙ c'

  pub unique_literals : Unique literals (suc n)
  unique_literals = record { same = λ x x' a b u v. literal_same a b (literal_of x u) (literal_of x' v) }

-- a literal's item is of a kind in 10..13
pub literal_begins : (x : Literal) (p : ℕ) → (k : ℕ) × (c : List ℕ) × (code_literal x p ≡ k ∷ c) × (0x10 ≤ k) × (k ≤ 0x13)
unfolding code_literal pooled
literal_begins null p = (0x13, 2 ∷ [], refl, omega arith, omega arith)
literal_begins (boolean b) p = (0x13, cond b 1 0 ∷ [], refl, omega arith, omega arith)
literal_begins (integer z) p = (0x10, eight z, refl, omega arith, omega arith)
literal_begins (float b) p = (0x11, little_endian 8 b, refl, omega arith, omega arith)
literal_begins (text s) p = (0x12, two p ++ two (length s), refl, omega arith, omega arith)

-- ---- comparison operators

unfoldable pub operator_of : ℕ → Operator
operator_of zero = eq
operator_of (suc zero) = ne
operator_of (suc (suc zero)) = lt
operator_of (suc (suc (suc zero))) = le
operator_of (suc (suc (suc (suc zero)))) = gt
operator_of (suc (suc (suc (suc (suc n))))) = ge

pub operator_of_lem : (o : Operator) → operator_of (operator_byte o) ≡ o
unfolding operator_of operator_byte
operator_of_lem eq = refl
operator_of_lem ne = refl
operator_of_lem lt = refl
operator_of_lem le = refl
operator_of_lem gt = refl
operator_of_lem ge = refl

pub operator_low : (o : Operator) → operator_byte o < 6
unfolding operator_byte
operator_low eq = omega arith
operator_low ne = omega arith
operator_low lt = omega arith
operator_low le = omega arith
operator_low gt = omega arith
operator_low ge = omega arith

pub operator_byte_lem : (n : ℕ) → n < 6 → operator_byte (operator_of n) ≡ n
unfolding operator_of operator_byte
operator_byte_lem zero h = refl
operator_byte_lem (suc zero) h = refl
operator_byte_lem (suc (suc zero)) h = refl
operator_byte_lem (suc (suc (suc zero))) h = refl
operator_byte_lem (suc (suc (suc (suc zero)))) h = refl
operator_byte_lem (suc (suc (suc (suc (suc zero))))) h = refl
operator_byte_lem (suc (suc (suc (suc (suc (suc n)))))) h = absurd (omega arith)
