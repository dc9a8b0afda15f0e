-- The decimal digits of a number: they are digits, begin with no zero unless the number is 0, and stand for the number. Assumes nothing.
use Rattle.std.specs.Prelude.{ℕ, zero, suc, ◌+◌, ◌-◌, ◌*◌, ◌/◌, ◌%◌, ◌≤◌, ◌<◌, ◌≡◌, refl, List, [], ◌∷◌, ◌++◌, true, ltb, length}
use Rattle.std.proofs.Common.{sym, ap, ◌∙◌, append-nil, append_assoc, length-append, arith}
use Rattle.std.proofs.Math.Bool.{and-eq-true_iff}
use borrow.Author.Tests.{ltb-true, ltb-false, lt-ltb}
use Rattle.definition.specs.Bytes.{every}
use Rattle.definition.specs.Lexical.{is_digit, is_digit1, Natural}
use Rattle.definition.specs.Literals.{decimal_from, decimal, natural_digits}
use Rattle.utf8_laws.specs.Bytes.{by_test, inside, inside_low, inside_high}
use Rattle.utf8_laws.specs.Scan.{every_append, front, front_all, behind, behind_all}
use Rattle.definition.specs.Paths.{digits_up, written}

-- a digit more at the end
decimal_last : (n d : ℕ) (s : List ℕ) → decimal_from n (s ++ (d ∷ [])) ≡ decimal_from n s * 10 + (d - 0x30)
unfolding decimal_from
decimal_last n d [] = refl
decimal_last n d (c ∷ s) = decimal_last (n * 10 + (c - 0x30)) d s

-- what the digits of n are: a first one, which is no 0 where n is not 0, and digits behind it, which together stand for n
pub record Wrote (n : ℕ) (s : List ℕ) : Type 0 where
  pub first : ℕ
  pub more : List ℕ
  pub is : s ≡ first ∷ more
  pub is_first : is_digit first ≡ true
  pub are_more : every is_digit more ≡ true
  pub some_first : 0 < n → is_digit1 first ≡ true
  pub value : decimal (first ∷ more) ≡ n

one_digit : (n : ℕ) → n < 10 → Wrote n ((0x30 + n) ∷ [])
unfolding decimal_from
one_digit n l =
    record {
      first = 0x30 + n;
      more = [];
      is = refl;
      is_first = inside 0x30 0x39 (0x30 + n) (omega arith) (omega arith);
      are_more = refl;
      some_first = λ h. inside 0x31 0x39 (0x30 + n) (omega arith) (omega arith);
      value = omega arith;
    }

more_digits : (n : ℕ) (s : List ℕ) → 10 ≤ n → Wrote (n / 10) s → Wrote n (s ++ ((0x30 + n % 10) ∷ []))
more_digits n s l w =
    let d : is_digit (0x30 + n % 10) ≡ true = inside 0x30 0x39 (0x30 + n % 10) (omega arith) (omega arith) in
    record {
      first = w.first;
      more = w.more ++ ((0x30 + n % 10) ∷ []);
      is = ap (λ (x : List ℕ). x ++ ((0x30 + n % 10) ∷ [])) w.is;
      is_first = w.is_first;
      are_more = every_append is_digit w.more ((0x30 + n % 10) ∷ []) w.are_more (rw d);
      some_first = λ h. w.some_first (omega arith);
      value = decimal_last 0 (0x30 + n % 10) (w.first ∷ w.more) ∙ rw w.value (omega arith);
    }

wrote_up : (f n : ℕ) → n ≤ f → Wrote n (digits_up f n)
unfolding digits_up
wrote_up zero n h = one_digit n (omega arith)
wrote_up (suc f) n h =
    by_test (ltb n 10)
    (λ y. rw y (one_digit n (ltb-true n 10 y)))
    (λ y. let l = ltb-false n 10 y in rw y (more_digits n (digits_up f (n / 10)) l (wrote_up f (n / 10) (omega arith))))

-- the digits of a number
pub wrote : (n : ℕ) → Wrote n (written n)
unfolding written
wrote n = wrote_up n n (omega arith)

-- they are digits
pub written_digits : (n : ℕ) → every is_digit (written n) ≡ true
written_digits n = let w = wrote n in rw (w.is, w.is_first) w.are_more

-- they stand for the number
pub written_value : (n : ℕ) → decimal (written n) ≡ n
written_value n = let w = wrote n in ap decimal w.is ∙ w.value

-- digits end at a bracket, and the number is told from them
pub written_unique : (m n : ℕ) (r s : List ℕ) → written m ++ (0x5D ∷ r) ≡ written n ++ (0x5D ∷ s) → (m ≡ n) × (r ≡ s)
written_unique m n r s e =
    let a = front_all is_digit (written m) (0x5D ∷ r) (written_digits m) refl in
    let b = front_all is_digit (written n) (0x5D ∷ s) (written_digits n) refl in
    let c = behind_all is_digit (written m) (0x5D ∷ r) (written_digits m) refl in
    let d = behind_all is_digit (written n) (0x5D ∷ s) (written_digits n) refl in
    let same : written m ≡ written n = sym a ∙ ap (front is_digit) e ∙ b in
    let rest : 0x5D ∷ r ≡ 0x5D ∷ s = sym c ∙ ap (behind is_digit) e ∙ d in
    let t : r ≡ s = cc in
    (sym (written_value m) ∙ ap decimal same ∙ written_value n, t)

-- ---- no other digits

-- any number of digits from n on is enough
digits_enough : (f g n : ℕ) → n ≤ f → n ≤ g → digits_up f n ≡ digits_up g n
unfolding digits_up
digits_enough zero zero n h k = refl
digits_enough zero (suc g) n h k = rw (lt-ltb n 10 (omega arith))
digits_enough (suc f) zero n h k = rw (lt-ltb n 10 (omega arith))
digits_enough (suc f) (suc g) n h k =
    by_test (ltb n 10)
    (λ y. rw y)
    (λ y. let l = ltb-false n 10 y in rw y (ap (λ (s : List ℕ). s ++ ((0x30 + n % 10) ∷ [])) (digits_enough f g (n / 10) (omega arith) (omega arith))))

-- a number below 10 is one digit
pub written_one : (n : ℕ) → n < 10 → written n ≡ (0x30 + n) ∷ []
unfolding written digits_up
written_one n l = digits_enough n (suc n) n (omega arith) (omega arith) ∙ rw (lt-ltb n 10 l)

digits_step : (f n : ℕ) → 10 ≤ n → digits_up (suc f) n ≡ digits_up f (n / 10) ++ ((0x30 + n % 10) ∷ [])
unfolding digits_up
digits_step f n l = rw (borrow.Author.Tests.le-ltb n 10 l)

-- a digit behind a number that is not 0
pub written_more : (n d : ℕ) → 0 < n → d < 10 → written (n * 10 + d) ≡ written n ++ ((0x30 + d) ∷ [])
unfolding written
written_more n d l m =
    let v = n * 10 + d in
    let x : v / 10 ≡ n = omega arith in
    let y : v % 10 ≡ d = omega arith in
    digits_enough v (suc v) v (omega arith) (omega arith)
    ∙ digits_step v v (omega arith)
    ∙ rw (x, y) (ap (λ (s : List ℕ). s ++ ((0x30 + d) ∷ [])) (digits_enough v n n (omega arith) (omega arith)))

-- digits behind a number that is not 0
written_behind : (n : ℕ) (s : List ℕ) → 0 < n → every is_digit s ≡ true → written (decimal_from n s) ≡ written n ++ s
unfolding decimal_from
written_behind n [] l h = sym (append-nil (written n))
written_behind n (d ∷ s) l h =
    let t = (and-eq-true_iff (is_digit d) (every is_digit s)).0 h in
    let a = inside_low 0x30 0x39 d t.0 in
    let b = inside_high 0x30 0x39 d t.0 in
    let e : 0x30 + (d - 0x30) ≡ d = omega arith in
    written_behind (n * 10 + (d - 0x30)) s (omega arith) t.1
    ∙ ap (λ (x : List ℕ). x ++ s) (written_more n (d - 0x30) l (omega arith))
    ∙ append_assoc (written n) ((0x30 + (d - 0x30)) ∷ []) s
    ∙ ap (λ (x : ℕ). written n ++ (x ∷ s)) e

-- DIGIT1 *DIGIT are the digits of what they stand for
pub natural_written : (n : Natural) → written (decimal (natural_digits n)) ≡ natural_digits n
unfolding decimal_from
natural_written n =
    let a = inside_low 0x31 0x39 n.first n.is_first in
    let b = inside_high 0x31 0x39 n.first n.is_first in
    let c : 0 * 10 + (n.first - 0x30) ≡ n.first - 0x30 = omega arith in
    let e : 0x30 + (n.first - 0x30) ≡ n.first = omega arith in
    ap (λ (x : ℕ). written (decimal_from x n.more)) c
    ∙ written_behind (n.first - 0x30) n.more (omega arith) n.are_more
    ∙ ap (λ (x : List ℕ). x ++ n.more) (written_one (n.first - 0x30) (omega arith))
    ∙ ap (λ (x : ℕ). x ∷ n.more) e

-- ---- their number

length_up : (f n : ℕ) → length (digits_up f n) ≤ suc n
unfolding digits_up
length_up zero n = omega arith
length_up (suc f) n =
    by_test (ltb n 10)
    (λ y. rw y (omega arith))
    (λ y. let l = ltb-false n 10 y in let k = length_up f (n / 10) in rw (y, length-append (digits_up f (n / 10)) ((0x30 + n % 10) ∷ [])) (omega arith))

-- no more digits than the number and one
pub written_length : (n : ℕ) → length (written n) ≤ suc n
unfolding written
written_length n = length_up n n
