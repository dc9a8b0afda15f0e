-- What is first in an order of refusals; and of a query: which of 1 to 6 and 8 is first, whatever rules stand behind them. Assumes nothing.
use Rattle.std.specs.Prelude.{ℕ, ◌≤◌, ◌<◌, ◌≡◌, ◌↔◌, ◌⊎◌, List, [], ◌∷◌, ◌++◌, Bool, cond, not, length}
use Rattle.std.proofs.Common.{arith, sym, ap, ◌∙◌, subst, ⊎_elim}
use Rattle.std.proofs.Math.Path.{refl}
use Rattle.std.proofs.Math.Logic.{inl, inr}
use Rattle.std.proofs.Math.Bool.{true, false, true≢false}
use borrow.Author.Tests.{ltb-true, ltb-false}
use Rattle.std.proofs.Math.Dec.{ltb}
use Rattle.definition.specs.Limits.{max_query}
use Rattle.definition.specs.Utf8.{is_utf8}
use Rattle.definition.specs.Brackets.{too_deep}
use Rattle.definition.specs.Grammar as G
use Rattle.definition.specs.Grammar.{spell}
use Rattle.definition.specs.Forms.{Query}
use Rattle.definition.specs.Walk.{Walked, walk}
use Rattle.definition.specs.Walk.Walked.{walked}
use Rattle.definition.specs.Outcomes.{Reading, Reads, early, judge, refusal_of}
use Rattle.definition.specs.Outcomes.Reading.{refused, form}
use Rattle.definition.specs.Outcomes.Reads.{too_early, no_tree, has_tree}
use Rattle.compile_forms.specs.Walks.{WalkNumber, four, five, six, Keeps, walk_keeps}
use Rattle.promises_stated.specs.Refusals.{TooLong, NotUtf8, TooDeep, WalkFinds, BeyondExact, NotInGrammar, Rule, rule, First, walk_rules, query_rules}

-- ---- what is first

-- there is one first
pub first_one : (rs : List Rule) {m n : ℕ} → First rs m → First rs n → m ≡ n
first_one [] a b = a ∙ sym b
first_one (r ∷ rs) (inl a) (inl b) = a.0 ∙ sym b.0
first_one (r ∷ rs) (inl a) (inr b) = absurd (b.0 a.1)
first_one (r ∷ rs) (inr a) (inl b) = absurd (a.0 b.1)
first_one (r ∷ rs) (inr a) (inr b) = first_one rs a.1 b.1

-- so a number that is first is n exactly where n is first
pub exactly : (rs : List Rule) {m : ℕ} → First rs m → (n : ℕ) → (m ≡ n) ↔ First rs n
exactly rs f n = (λ e. subst (First rs) e f, λ g. first_one rs f g)

-- ---- the refusals before the grammar

module _ (s : List ℕ) where
  -- the first of 1, 2, 3, or none of them
  pub data Early : ℕ → Type 0 where
    long : TooLong s → Early 1
    wrong : (TooLong s → ⊥) → NotUtf8 s → Early 2
    deep : (TooLong s → ⊥) → (NotUtf8 s → ⊥) → TooDeep s → Early 3
    passes : (TooLong s → ⊥) → (NotUtf8 s → ⊥) → (TooDeep s → ⊥) → Early 0

  pub early_is : Early (early s)
  unfolding early
  early_is = by (ltb max_query (length s)) (is_utf8 s) (too_deep s) refl refl refl
    where
      by : (a b c : Bool) → ltb max_query (length s) ≡ a → is_utf8 s ≡ b → too_deep s ≡ c → Early (cond a 1 (cond (not b) 2 (cond c 3 0)))
      by true b c x y z = long (ltb-true max_query (length s) x)
      by false false c x y z = wrong (λ h. omega (arith, ltb-false max_query (length s) x, h)) y
      by false true true x y z = deep (λ h. omega (arith, ltb-false max_query (length s) x, h)) (λ u. true≢false (sym y ∙ u)) z
      by false true false x y z = passes (λ h. omega (arith, ltb-false max_query (length s) x, h)) (λ u. true≢false (sym y ∙ u)) (λ u. true≢false (sym u ∙ z))

-- ---- the refusals of a query

-- a query is refused by a number from 1 to 8, of which 7 is given to none
same_number : {m n : ℕ} → refused m ≡ refused n → m ≡ n
same_number e = cc

early_range : {s : List ℕ} {n : ℕ} → Early s n → (n ≡ 0 → ⊥) → (0 < n) × (n < 9)
early_range (long a) z = (omega arith, omega arith)
early_range (wrong a b) z = (omega arith, omega arith)
early_range (deep a b c) z = (omega arith, omega arith)
early_range (passes a b c) z = absurd (z refl)

walk_range : {n : ℕ} → WalkNumber n → (0 < n) × (n < 9)
walk_range four = (omega arith, omega arith)
walk_range five = (omega arith, omega arith)
walk_range six = (omega arith, omega arith)

judge_range : (w : Walked Query) (n : ℕ) → Keeps w → judge w ≡ refused n → (0 < n) × (n < 9)
unfolding judge
judge_range (Walked.refused m) n k e = let f = walk_range k in (omega (arith, same_number e, f.0), omega (arith, same_number e, f.1))
judge_range (walked true q) n k e = (omega (arith, same_number e), omega (arith, same_number e))
judge_range (walked false q) n k e = let z : ◌≡◌ {A = ℕ} 0 1 = cc in absurd (omega (arith, z))

range_by : {s : List ℕ} (x : Reading) (n : ℕ) → Reads s x → x ≡ refused n → (0 < n) × (n < 9)
range_by {s} x n (too_early h) e = subst (λ (m : ℕ). (0 < m) × (m < 9)) (same_number e) (early_range (early_is s) h)
range_by x n (no_tree h f) e = (omega (arith, same_number e), omega (arith, same_number e))
range_by x n (has_tree h t g) e = judge_range (walk t) n (walk_keeps t) e

pub refusal_range : {s : List ℕ} {n : ℕ} → Reads s (refused n) → (0 < n) × (n < 9)
refusal_range {n = n} r = range_by (refused n) n r refl

-- So readings of one text that an operation answers by one number are refused by one number, or neither is.
pub alike_by : {s : List ℕ} (f : Reading → ℕ) → ((n : ℕ) → f (refused n) ≡ n) → ((q : Query) → (f (form q) ≡ 0) ⊎ (9 ≤ f (form q)))
    → (x y : Reading) → Reads s x → Reads s y → f y ≡ f x → refusal_of y ≡ refusal_of x
unfolding refusal_of
alike_by f g h (refused m) (refused n) r u e = sym (g n) ∙ e ∙ g m
alike_by f g h (form p) (form q) r u e = refl
alike_by f g h (refused m) (form q) r u e = let a = refusal_range r in ⊎_elim (λ z. absurd (omega (arith, g m, a.0, a.1))) (λ z. absurd (omega (arith, g m, a.0, a.1))) (h q)
alike_by f g h (form p) (refused n) r u e = let a = refusal_range u in ⊎_elim (λ z. absurd (omega (arith, g n, a.0, a.1))) (λ z. absurd (omega (arith, g n, a.0, a.1))) (h p)

-- what the walk finds, and what it reports, refuses the query so
pub finds_reads : {s : List ℕ} {n : ℕ} → early s ≡ 0 → WalkFinds s n → Reads s (refused n)
unfolding judge
finds_reads {s} h (t, g, w) = subst (Reads s) (ap judge w) (has_tree h t g)

beyond_reads : {s : List ℕ} → early s ≡ 0 → BeyondExact s → Reads s (refused 8)
unfolding judge
beyond_reads {s} h (t, g, q, w) = subst (Reads s) (ap judge w) (has_tree h t g)

-- the number of a reading, or k where it is a form
abbrev pub number_or : ℕ → Reading → ℕ
number_or k (refused n) = n
number_or k (form q) = k

-- A text, and the refusal m of whatever it reads as, 0 for a form. The rules of a query come first, and rs behind them.
module _ (s : List ℕ) (m : ℕ) (alike : (y : Reading) → Reads s y → refusal_of y ≡ m) (rs : List Rule) (k : ℕ) where
  -- no other refusal holds
  other : (n : ℕ) → (n ≡ m → ⊥) → Reads s (refused n) → ⊥
  unfolding refusal_of
  other n h r = h (alike (refused n) r)

  no_find : (n : ℕ) → early s ≡ 0 → (n ≡ m → ⊥) → WalkFinds s n → ⊥
  no_find n h e x = other n e (finds_reads h x)

  no_beyond : early s ≡ 0 → (8 ≡ m → ⊥) → BeyondExact s → ⊥
  no_beyond h e x = other 8 e (beyond_reads h x)

  -- with a tree: the first of 4, 5, 6 in the walk, then 8, then what is behind them
  by_tree : early s ≡ 0 → (t : G.Query) → spell t ≡ s → (w : Walked Query) → walk t ≡ w → Keeps w → refusal_of (judge w) ≡ m → ((q : Query) → judge w ≡ form q → First rs k)
      → First (walk_rules s ++ rs) (number_or k (judge w))
  unfolding judge refusal_of
  by_tree h t g (Walked.refused n) w four e f = inl (refl, (t, g, w))
  by_tree h t g (Walked.refused n) w five e f = inr (no_find 4 h (λ d. omega arith), inl (refl, (t, g, w)))
  by_tree h t g (Walked.refused n) w six e f = inr (no_find 4 h (λ d. omega arith), inr (no_find 5 h (λ d. omega arith), inl (refl, (t, g, w))))
  by_tree h t g (walked true q) w l e f =
      inr (no_find 4 h (λ d. omega arith), inr (no_find 5 h (λ d. omega arith), inr (no_find 6 h (λ d. omega arith), inl (refl, (t, g, q, w)))))
  by_tree h t g (walked false q) w l e f =
      inr (no_find 4 h (λ d. omega arith), inr (no_find 5 h (λ d. omega arith), inr (no_find 6 h (λ d. omega arith), inr (no_beyond h (λ d. omega arith), f q refl))))

  by_early : (n : ℕ) → Early s n → (n ≡ 0 → ⊥) → First (query_rules s ++ rs) n
  by_early n (long a) z = inl (refl, a)
  by_early n (wrong a b) z = inr (a, inl (refl, b))
  by_early n (deep a b c) z = inr (a, inr (b, inl (refl, c)))
  by_early n (passes a b c) z = absurd (z refl)

  behind_early : (n : ℕ) {i : ℕ} → Early s n → n ≡ 0 → First (rule 4 (NotInGrammar s) ∷ walk_rules s ++ rs) i → First (query_rules s ++ rs) i
  behind_early n (long a) z f = absurd (omega (arith, z))
  behind_early n (wrong a b) z f = absurd (omega (arith, z))
  behind_early n (deep a b c) z f = absurd (omega (arith, z))
  behind_early n (passes a b c) z f = inr (a, inr (b, inr (c, f)))

  -- What a text reads as is the first refusal whose condition holds; a form leaves the rules behind those of a query.
  pub query_first : (x : Reading) → Reads s x → ((q : Query) → x ≡ form q → First rs k) → First (query_rules s ++ rs) (number_or k x)
  query_first x (too_early h) f = by_early (early s) (early_is s) h
  query_first x (no_tree h g) f = behind_early (early s) (early_is s) h (inl (refl, g))
  query_first x (has_tree h t g) f = behind_early (early s) (early_is s) h (inr (λ n. n t g, by_tree h t g (walk t) refl (walk_keeps t) (alike (judge (walk t)) (has_tree h t g)) f))
