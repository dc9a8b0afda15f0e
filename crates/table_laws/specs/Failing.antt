-- The least number that fails a test. Assumes nothing.
use Prim.Native.Nat.{ℕ, zero, suc, ◌+◌, ◌≤◌, ◌<◌}
use Rattle.std.proofs.Math.Path.{◌≡◌, refl, subst}
use Rattle.std.proofs.Common.{sym, ap}
use Rattle.std.specs.Prelude.{Bool, true, cond, ltb}
use Rattle.std.proofs.Math.Bool.{false}
use Rattle.std.proofs.Math.Option.{Option, none, some}
use native.Mathlib.Omega.{arith}
use borrow.Author.Tests.{ltb-true, ltb-false}
use Rattle.definition.specs.Tables.{least_failing}
use Rattle.utf8_laws.specs.Bytes.{by_test}

-- a test holds of all numbers below n
abbrev pub Below : (ℕ → Bool) → ℕ → Type 0
Below f n = (k : ℕ) → k < n → f k ≡ true

module _ (f : ℕ → Bool) where
  -- one number more
  pub below_more : (i : ℕ) → Below f i → f i ≡ true → Below f (suc i)
  below_more i r h k l = by_test (ltb k i) (λ e. r k (ltb-true k i e)) (λ e. let m = ltb-false k i e in let s : i ≡ k = omega arith in subst (λ (x : ℕ). f x ≡ true) s h)

  -- the first number that fails is the least
  fails_at : (i : ℕ) → Below f i → f i ≡ false → (j n : ℕ) → j ≤ i → i < j + n → least_failing f j n ≡ some i
  unfolding least_failing
  fails_at i r w j zero a b = absurd (omega arith)
  fails_at i r w j (suc n) a b =
      by_test (ltb j i)
      (λ e. rw (r j (ltb-true j i e)) (fails_at i r w (suc j) n (ltb-true j i e) (omega arith)))
      (λ e.
      let m = ltb-false j i e in
      let s : i ≡ j = omega arith in
      let g : f j ≡ false = subst (λ (x : ℕ). f x ≡ false) s w in
      rw g (ap some (sym s)))

  pub least_found : (i n : ℕ) → Below f i → f i ≡ false → i < n → least_failing f 0 n ≡ some i
  least_found i n r w l = fails_at i r w 0 n (omega arith) (omega arith)

  -- none fails if and only if all hold
  none_from : (j n : ℕ) → Below f (j + n) → least_failing f j n ≡ none
  unfolding least_failing
  none_from j zero r = refl
  none_from j (suc n) r = rw (r j (omega arith)) (none_from (suc j) n (λ k l. r k (omega arith)))

  pub none_fails : (n : ℕ) → Below f n → least_failing f 0 n ≡ none
  none_fails n r = none_from 0 n (λ k l. r k (omega arith))

  hold_from : (j n : ℕ) → least_failing f j n ≡ none → (k : ℕ) → j ≤ k → k < j + n → f k ≡ true
  unfolding least_failing
  hold_from j zero e k a b = absurd (omega arith)
  hold_from j (suc n) e k a b =
      by_test (f j)
      (λ t. by_test (ltb j k)
      (λ l. hold_from (suc j) n (rw t at e) k (ltb-true j k l) (omega arith))
      (λ l. let m = ltb-false j k l in let s : j ≡ k = omega arith in subst (λ (x : ℕ). f x ≡ true) s t))
      (λ t. let z : some j ≡ none = rw t at e in let y : ◌≡◌ {A = ℕ} 0 1 = cc in absurd (omega arith))

  pub all_hold : (n : ℕ) → least_failing f 0 n ≡ none → Below f n
  all_hold n e k l = hold_from 0 n e k (omega arith) (omega arith)

  -- what is found fails, is in range, and all before it hold
  pub record Least (n k : ℕ) : Type 0 where
    pub inside : k < n
    pub fails : f k ≡ false
    pub before : Below f k

  is_from : (j n k : ℕ) → least_failing f j n ≡ some k → (j ≤ k) × (k < j + n) × (f k ≡ false) × ((m : ℕ) → j ≤ m → m < k → f m ≡ true)
  unfolding least_failing
  is_from j zero k e = let y : ◌≡◌ {A = ℕ} 0 1 = cc in absurd (omega arith)
  is_from j (suc n) k e =
      by_test (f j)
      (λ t.
      let w = is_from (suc j) n k (rw t at e) in
      let wa = w.0 in
      let wb = w.1 in (
        omega arith,
        omega arith,
        w.2,
        λ m a b. by_test (ltb j m) (λ l. w.3 m (ltb-true j m l) b) (λ l. let x = ltb-false j m l in let s : j ≡ m = omega arith in subst (λ (y : ℕ). f y ≡ true) s t),
      ))
      (λ t.
      let z : some j ≡ some k = rw t at e in
      let s : j ≡ k = cc in
      (omega arith, omega arith, subst (λ (x : ℕ). f x ≡ false) s t, λ m a b. absurd (omega arith)))

  pub least_is : (n k : ℕ) → least_failing f 0 n ≡ some k → Least n k
  least_is n k e = let w = is_from 0 n k e in let b = w.1 in record { inside = omega arith; fails = w.2; before = λ m l. w.3 m (omega arith) l }

-- tests that agree have one least failing number
same_from : (f g : ℕ → Bool) (j n : ℕ) → ((k : ℕ) → k < j + n → f k ≡ g k) → least_failing f j n ≡ least_failing g j n
unfolding least_failing
same_from f g j zero h = refl
same_from f g j (suc n) h = rw (h j (omega arith), same_from f g (suc j) n (λ k b. h k (omega arith)))

pub least_same : (f g : ℕ → Bool) (n : ℕ) → ((k : ℕ) → k < n → f k ≡ g k) → least_failing f 0 n ≡ least_failing g 0 n
least_same f g n h = same_from f g 0 n (λ k l. h k (omega arith))
