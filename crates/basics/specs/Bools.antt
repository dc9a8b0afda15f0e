-- Laws of tests: what one that is made of two says of each, and how one is made of two. Assumes nothing.
use Rattle.std.specs.Prelude.{◌≡◌, refl, ◌⊎◌, Bool, true, false, ◌&&◌, ◌||◌}
use Rattle.std.proofs.Common.{sym, ◌∙◌, inl, inr, true≢false}
use Rattle.std.proofs.lemmas.Bool.{false≢true}

-- ---- both of two tests

-- the first of two tests that both hold
pub and_left : (a b : Bool) → (a && b) ≡ true → a ≡ true
and_left true b h = refl
and_left false b h = h

-- the second of two tests that both hold
pub and_right : (a b : Bool) → (a && b) ≡ true → b ≡ true
and_right true b h = h
and_right false b h = absurd (false≢true h)

-- two tests that hold
pub and_both : (a b : Bool) → a ≡ true → b ≡ true → (a && b) ≡ true
and_both true b p q = q
and_both false b p q = p

-- the same where the tests are seen
pub both_true : {a b : Bool} → a ≡ true → b ≡ true → (a && b) ≡ true
both_true {a} {b} p q = and_both a b p q

-- a conjunction fails with its first test
pub and_not_left : (a b : Bool) → a ≡ false → (a && b) ≡ false
and_not_left true b h = absurd (true≢false h)
and_not_left false b h = refl

-- a conjunction fails with its second test
pub and_not_right : (a b : Bool) → b ≡ false → (a && b) ≡ false
and_not_right true b h = h
and_not_right false b h = refl

pub and_false : (a : Bool) → (a && false) ≡ false
and_false true = refl
and_false false = refl

-- ---- one of two tests

-- which of two tests holds
pub or_cases : (a b : Bool) → (a || b) ≡ true → (a ≡ true) ⊎ (b ≡ true)
or_cases true b h = inl refl
or_cases false b h = inr h

-- one of two tests holds where the first does
pub or_first : (a b : Bool) → a ≡ true → (a || b) ≡ true
or_first true b h = refl
or_first false b h = absurd (false≢true h)

-- and where the second does
pub or_second : (a b : Bool) → b ≡ true → (a || b) ≡ true
or_second true b h = refl
or_second false b h = h

-- where neither of two tests holds, the first fails
pub or_left : (a b : Bool) → (a || b) ≡ false → a ≡ false
or_left true b h = h
or_left false b h = refl

-- and the second fails
pub or_right : (a b : Bool) → (a || b) ≡ false → b ≡ false
or_right true b h = absurd (true≢false h)
or_right false b h = h

-- one of two tests holds, whatever the first says
pub or_true : (a : Bool) → (a || true) ≡ true
or_true true = refl
or_true false = refl

-- ---- a test and its answers

-- a test that does not hold fails
pub not_true_false : (a : Bool) → (a ≡ true → ⊥) → a ≡ false
not_true_false true h = absurd (h refl)
not_true_false false h = refl

-- the two answers of a test are different
pub both_answers : (a : Bool) → a ≡ true → a ≡ false → ⊥
both_answers a p q = true≢false (sym p ∙ q)
