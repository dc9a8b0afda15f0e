-- The laws of taking a plan: each way through the code is the definition's one outcome. Assumes nothing.
use Prim.Native.Nat.{ℕ, zero, suc, ◌+◌, ◌≤◌, ◌<◌}
use mathlib.Core.Path.{◌≡◌, refl, sym, ap, ◌∙◌, subst}
use mathlib.Core.Bool.{Bool, true, false}
use mathlib.Core.List.{List}
use native.Mathlib.Nat.{zero-add}
use native.Mathlib.Omega.{arith}
use lib.Dec.{leb}
use lib.ListN.{length, get_or}
use lib.Seq.{ext_get_or}
use borrow.Author.Tests.{le-leb, lt-leb}
use Rattle.definition.specs.Limits.{max_int}
use Rattle.definition.specs.Outcomes.{ChecksPlan}
use Rattle.plan_laws.specs.One.{checks_one}
use Rattle.plan_check.specs.Checks.{Accepts, accepted, refusal}
use Rattle.tally_laws.specs.Items.{kinds_of}
use Rattle.tally_laws.specs.Tallies.{TallyOutcome, Tallies, tally_by, fits, every_below, sum_at, with_plan}
use Rattle.tally_laws.specs.Series.{length_tabulate, get_d_tabulate}
use Rattle.tally.specs.Counts.{CountsOf, Fits, Sums}

-- an accepted plan has at most 65,535 bytes
pub plan_short : {P L : List ℕ} {b : Bool} → Accepts P L b → b ≡ true → length P ≤ 65535
plan_short {P} {L} a e = go (subst (Accepts P L) e a)
  where
    go : Accepts P L true → length P ≤ 65535
    go (accepted q t) = t.plan_fits

-- tests that agree below n hold together
every_same : (n : ℕ) (p q : ℕ → Bool) → ((k : ℕ) → k < n → p k ≡ q k) → every_below n p ≡ every_below n q
unfolding every_below
every_same zero p q h = refl
every_same (suc n) p q h = rw (every_same n p q (λ k l. h k (omega arith)), h n (omega arith)) refl

module _ (P L C : List ℕ) (n : ℕ) (b : Bool) (h : ChecksPlan P L (refusal b)) where
  -- o is the outcome, and there is no other
  abbrev Only : TallyOutcome → Type 0
  Only o = record { answers : Tallies P L C n o; only : (o' : TallyOutcome) → Tallies P L C n o' → o' ≡ o }

  only : {m : ℕ} {o : TallyOutcome} → refusal b ≡ m → o ≡ tally_by m P C n → Only o
  only {m} {o} e f =
      let k : ChecksPlan P L m = subst (ChecksPlan P L) e h in
      record { answers = record { checked = m; checks = k; is = f }; only = λ o' t. t.is ∙ ap (λ (z : ℕ). tally_by z P C n) (checks_one t.checks k) ∙ sym f }

  pub not_taken : b ≡ false → Only (record { refusal = 11; counts = C; plans = n })
  not_taken e = only (ap refusal e) refl

  module _ (e : b ≡ true) where
    pub too_many : max_int ≤ n → Only (record { refusal = 21; counts = C; plans = n })
    too_many l = only (ap refusal e) (sym (rw (lt-leb (n + 1) max_int (omega arith)) refl))

    module _ {M : List ℕ} (m : CountsOf (kinds_of P) M) (l : n < max_int) where
      -- what the code adds is what the definition adds
      same_sum : (k : ℕ) → k < 256 → get_or C k 0 + get_or M k 0 ≡ sum_at P C k
      same_sum k i = ap (λ (z : ℕ). get_or C k 0 + z) (m.each k i)

      fits_is : {r : Bool} → Fits M C r → fits P C n ≡ r
      fits_is {r} f =
          rw (le-leb (n + 1) max_int (omega arith)) (sym (f ∙ every_same 256 (λ k. leb (get_or C k 0 + get_or M k 0) max_int) (λ k. leb (sum_at P C k) max_int) (λ k i. ap (λ (z : ℕ). leb z max_int) (same_sum k i))))

      pub no_room : {r : Bool} → Fits M C r → r ≡ false → Only (record { refusal = 21; counts = C; plans = n })
      no_room f z = only (ap refusal e) (sym (rw (fits_is f ∙ z) refl))

      pub taken : {r : Bool} {R : List ℕ} → Fits M C r → r ≡ true → Sums M C R → Only (record { refusal = 0; counts = R; plans = n + 1 })
      taken {r} {R} f z s =
          let w : R ≡ with_plan P C = ext_get_or 0 R (with_plan P C) (s.room ∙ sym (length_tabulate 0 256 (sum_at P C)))
          (λ i j. s.each i (omega (arith, s.room)) ∙ same_sum i (omega (arith, s.room)) ∙ sym (get_d_tabulate 0 256 i (sum_at P C) (omega (arith, s.room)) ∙ ap (sum_at P C) (zero-add i))) in
          only (ap refusal e) (ap (λ (x : List ℕ). record { refusal = 0; counts = x; plans = n + 1 }) w ∙ sym (rw (fits_is f ∙ z) refl))
