-- Where items end: laws over the bytes alone. Assumes nothing.
use Rattle.std.specs.Prelude.{ℕ, suc, ◌+◌, ◌-◌, ◌≤◌, ◌<◌, ◌≡◌, refl, List, ◌∷◌, ◌++◌, length, get_or}
use Rattle.std.proofs.Common.{sym, ◌∙◌, length-append, arith}
use Rattle.definition.specs.Bytes.{part, number, little_endian}
use Rattle.definition.specs.Limits.{max_plan}
use Rattle.definition.specs.Forms.{Literal, Segments, Selectors, Selector, many_selectors}
use Rattle.definition.specs.Forms.Literal.{null, boolean, integer, float, text}
use Rattle.definition.specs.Forms.Segments.{end, child, descendant}
use Rattle.definition.specs.Forms.Selectors.{one, and}
use Rattle.definition.specs.Forms.Selector.{name, index, slice, wildcard, filter}
use Rattle.definition.specs.Plans.{two, eight_of, pooled, code_slice, code_segments, code_selectors, code_selector, code_test, code_literal, pool_selectors, pool_selector}
use Rattle.definition_bytes.specs.Numbers.{bound_length, little_endian_length}
use Rattle.eval_laws.specs.Bytes.{Holds, holds_in, holds_first, holds_second, holds_head, holds_tail, holds_at, number_at, holds_after}
use Rattle.eval_laws.specs.Items.{selector_some, many_small, many_some, segments_some, selector_kind, kind_of_selector, framed_at, framed_long}
use Rattle.eval_items.specs.Ends.{AskLiteral, DoneNext, DoneLiteral}

-- ---- one selector

-- how long a selector is, by its kind
name_long : (s : Selector) (k : ℕ) → selector_kind s ≡ 5 → length (code_selector s k) ≡ 5
unfolding selector_kind code_selector pooled little_endian
name_long (name s) k e = refl
name_long (index z) k e = absurd (omega arith)
name_long (slice a b c) k e = absurd (omega arith)
name_long wildcard k e = absurd (omega arith)
name_long (filter t) k e = absurd (omega arith)

index_long : (s : Selector) (k : ℕ) → selector_kind s ≡ 6 → length (code_selector s k) ≡ 9
unfolding selector_kind code_selector little_endian
index_long (name s) k e = absurd (omega arith)
index_long (index z) k e = refl
index_long (slice a b c) k e = absurd (omega arith)
index_long wildcard k e = absurd (omega arith)
index_long (filter t) k e = absurd (omega arith)

slice_long : (s : Selector) (k : ℕ) → selector_kind s ≡ 7 → length (code_selector s k) ≡ 26
unfolding selector_kind code_selector code_slice
slice_long (name s) k e = absurd (omega arith)
slice_long (index z) k e = absurd (omega arith)
slice_long (slice a b c) k e = omega (arith, length-append (eight_of a) (eight_of b ++ eight_of c), length-append (eight_of b) (eight_of c), bound_length a, bound_length b, bound_length c)
slice_long wildcard k e = absurd (omega arith)
slice_long (filter t) k e = absurd (omega arith)

wildcard_long : (s : Selector) (k : ℕ) → selector_kind s ≡ 8 → length (code_selector s k) ≡ 1
unfolding selector_kind code_selector
wildcard_long (name s) k e = absurd (omega arith)
wildcard_long (index z) k e = absurd (omega arith)
wildcard_long (slice a b c) k e = absurd (omega arith)
wildcard_long wildcard k e = refl
wildcard_long (filter t) k e = absurd (omega arith)

module _ (P : List ℕ) (few : length P ≤ max_plan) (p : ℕ) where
  -- a filter: behind its kind stands the length of its code
  pub filter_ends : (s : Selector) (k : ℕ) → Holds P p (code_selector s k) → (get_or P p 0 ≡ 5 → ⊥) → (get_or P p 0 ≡ 6 → ⊥) → (get_or P p 0 ≡ 7 → ⊥) → (get_or P p 0 ≡ 8 → ⊥) → (p + 3 ≤ length P) × (length (code_selector s k) ≡ 3 + number (part P (p + 1) 2))
  unfolding selector_kind code_selector
  filter_ends (name s) k h n5 n6 n7 n8 = absurd (n5 (kind_of_selector P p k (name s) h))
  filter_ends (index z) k h n5 n6 n7 n8 = absurd (n6 (kind_of_selector P p k (index z) h))
  filter_ends (slice a b c) k h n5 n6 n7 n8 = absurd (n7 (kind_of_selector P p k (slice a b c) h))
  filter_ends wildcard k h n5 n6 n7 n8 = absurd (n8 (kind_of_selector P p k wildcard h))
  filter_ends (filter t) k h n5 n6 n7 n8 =
      let f = framed_at P p 9 (code_test t k) few h in
      let u = f.count in
      (f.bound, omega (arith, framed_long 9 (code_test t k)))

  -- the place behind a selector, by its kind
  pub next_name : get_or P p 0 ≡ 5 → DoneNext P p (p + 5)
  next_name e = λ s k h. omega (arith, name_long s k (sym (kind_of_selector P p k s h) ∙ e))

  pub next_index : get_or P p 0 ≡ 6 → DoneNext P p (p + 9)
  next_index e = λ s k h. omega (arith, index_long s k (sym (kind_of_selector P p k s h) ∙ e))

  pub next_slice : get_or P p 0 ≡ 7 → DoneNext P p (p + 26)
  next_slice e = λ s k h. omega (arith, slice_long s k (sym (kind_of_selector P p k s h) ∙ e))

  pub next_wildcard : get_or P p 0 ≡ 8 → DoneNext P p (p + 1)
  next_wildcard e = λ s k h. omega (arith, wildcard_long s k (sym (kind_of_selector P p k s h) ∙ e))

  pub next_filter : (get_or P p 0 ≡ 5 → ⊥) → (get_or P p 0 ≡ 6 → ⊥) → (get_or P p 0 ≡ 7 → ⊥) → (get_or P p 0 ≡ 8 → ⊥) → (n : ℕ) → n ≡ number (part P (p + 1) 2) → DoneNext P p (p + 3 + n)
  next_filter n5 n6 n7 n8 n e = λ s k h. let w = (filter_ends s k h n5 n6 n7 n8).1 in omega arith

-- a selector is not empty, and ends inside the plan
pub selector_end : (P : List ℕ) (p k : ℕ) (s : Selector) → Holds P p (code_selector s k) → (p < length P) × (p + length (code_selector s k) ≤ length P)
selector_end P p k s h = let w = holds_in P p (code_selector s k) h in (omega (arith, selector_some s k), w)

-- ---- selectors in turn

-- what a loop over selectors knows: those left, and that they end where all end
pub record Left (P : List ℕ) (q m stop : ℕ) (rs : Selectors) (k : ℕ) : Type 0 where
  pub holds : Holds P q (code_selectors rs k)
  pub number : many_selectors rs ≡ m
  pub place : q + length (code_selectors rs k) ≡ stop

-- one selector further, one fewer is left
pub left_step : (P : List ℕ) (q m stop : ℕ) (rs : Selectors) (k : ℕ) → Left P q m stop rs k → 1 < m → (q' : ℕ) → DoneNext P q q' → (others : Selectors) × (k' : ℕ) × Left P q' (m - 1) stop others k'
unfolding many_selectors code_selectors
left_step P q m stop (one s) k a l q' d = let n = a.number in absurd (omega arith)
left_step P q m stop (and s ss) k a l q' d =
    let k' = k + length (pool_selector s) in
    let h1 = holds_first P q (code_selector s k) (code_selectors ss k') a.holds in
    let e = d s k h1 in
    let n = a.number in
    let p = a.place in
    (ss, k', record { holds = holds_at P (q + length (code_selector s k)) q' _ e (holds_second P q (code_selector s k) (code_selectors ss k') a.holds); number = omega arith; place = omega (arith, length-append (code_selector s k) (code_selectors ss k')) })

-- some selector stands where they are left
pub left_first : (P : List ℕ) (q m stop : ℕ) (rs : Selectors) (k : ℕ) → Left P q m stop rs k → (s : Selector) × Holds P q (code_selector s k)
unfolding code_selectors
left_first P q m stop (one s) k a = (s, a.holds)
left_first P q m stop (and s ss) k a = (s, holds_first P q (code_selector s k) (code_selectors ss (k + length (pool_selector s))) a.holds)

-- behind the last one all end
pub left_last : (P : List ℕ) (q m stop : ℕ) (rs : Selectors) (k : ℕ) → Left P q m stop rs k → m ≤ 1 → (q' : ℕ) → DoneNext P q q' → q' ≡ stop
unfolding many_selectors code_selectors
left_last P q m stop (one s) k a l q' d = d s k a.holds ∙ a.place
left_last P q m stop (and s ss) k a l q' d = let n = a.number in absurd (omega (arith, many_some ss))

-- ---- the segments of a query in turn

-- what a loop over segments knows: some are left, and end where the query ends
pub record Rest (P : List ℕ) (p stop : ℕ) (g : Segments) (k : ℕ) : Type 0 where
  pub holds : Holds P p (code_segments g k)
  pub place : p + length (code_segments g k) ≡ stop

-- a segment, its selectors and what comes behind them
pub record Spans (P : List ℕ) (p stop : ℕ) : Type 0 where
  pub ss : Selectors
  pub k : ℕ
  pub bound : p + 3 ≤ length P
  pub count : number (part P (p + 1) 2) ≡ many_selectors ss
  pub holds : Holds P (p + 3) (code_selectors ss k)
  pub q : Segments
  pub k' : ℕ
  pub after : (p' : ℕ) → p' ≡ p + 3 + length (code_selectors ss k) → Rest P p' stop q k'

spans_of : (P : List ℕ) → length P ≤ max_plan → (p k k' x stop : ℕ) (ss : Selectors) (q : Segments) → Holds P p (x ∷ (two (many_selectors ss) ++ (code_selectors ss k ++ code_segments q k')))
    → p + suc (length (two (many_selectors ss) ++ (code_selectors ss k ++ code_segments q k'))) ≡ stop → Spans P p stop
spans_of P few p k k' x stop ss q h0 pl =
    let h1 = holds_tail P p x _ h0 in
    let h2 : Holds P (p + 1 + 2) (code_selectors ss k ++ code_segments q k') = holds_after P (p + 1) 2 (many_selectors ss) _ h1 in
    let e3 : p + 3 ≡ p + 1 + 2 = omega arith in
    let h3 = holds_at P (p + 1 + 2) (p + 3) _ e3 h2 in
    let i1 = holds_in P (p + 3) _ h3 in
    let l1 = length-append (code_selectors ss k) (code_segments q k') in
    let l2 = length-append (two (many_selectors ss)) (code_selectors ss k ++ code_segments q k') in
    let l3 = little_endian_length 2 (many_selectors ss) in
    let n1 = many_small ss k in
    record {
      ss = ss;
      k = k;
      bound = omega arith;
      count = number_at P (p + 1) 2 (many_selectors ss) _ (omega arith) h1;
      holds = holds_first P (p + 3) (code_selectors ss k) (code_segments q k') h3;
      q = q;
      k' = k';
      after = λ p' e. record { holds = holds_at P (p + 3 + length (code_selectors ss k)) p' _ e (holds_second P (p + 3) (code_selectors ss k) (code_segments q k') h3); place = omega arith };
    }

-- what does not end the query is a segment
pub spans : (P : List ℕ) → length P ≤ max_plan → (p k stop : ℕ) (g : Segments) → Rest P p stop g k → (get_or P p 0 ≡ 0x0A → ⊥) → Spans P p stop
unfolding code_segments
spans P few p k e end a n = absurd (n (holds_head P p _ _ a.holds).1)
spans P few p k e (child ss q) a n = spans_of P few p k (k + length (pool_selectors ss)) 3 e ss q a.holds a.place
spans P few p k e (descendant ss q) a n = spans_of P few p k (k + length (pool_selectors ss)) 4 e ss q a.holds a.place

-- behind the byte that ends a query it ends
pub rest_end : (P : List ℕ) (p k e : ℕ) (g : Segments) → Rest P p e g k → get_or P p 0 ≡ 0x0A → p + 1 ≡ e
unfolding code_segments
rest_end P p k e end a z = a.place
rest_end P p k e (child ss q) a z = let w = (holds_head P p _ _ a.holds).1 in absurd (omega arith)
rest_end P p k e (descendant ss q) a z = let w = (holds_head P p _ _ a.holds).1 in absurd (omega arith)

-- the rest of a query is not empty, and ends inside the plan
pub rest_in : (P : List ℕ) (p k e : ℕ) (g : Segments) → Rest P p e g k → (p < length P) × (e ≤ length P)
rest_in P p k e g a = let w = holds_in P p (code_segments g k) a.holds in let v = a.place in (omega (arith, segments_some g k), omega arith)

-- ---- literals

-- how long a literal is, by its kind
literal_ends : (l : Literal) (k : ℕ) (P : List ℕ) (q : ℕ) → Holds P q (code_literal l k) → (get_or P q 0 ≡ 0x13 → length (code_literal l k) ≡ 2) × (get_or P q 0 ≡ 0x12 → length (code_literal l k) ≡ 5) × ((get_or P q 0 ≡ 0x13 → ⊥) → (get_or P q 0 ≡ 0x12 → ⊥) → length (code_literal l k) ≡ 9)
unfolding code_literal pooled little_endian
literal_ends null k P q h = let w = (holds_head P q _ _ h).1 in ((λ e. refl), (λ e. absurd (omega arith)), (λ a b. absurd (a w)))
literal_ends (boolean b) k P q h = let w = (holds_head P q _ _ h).1 in ((λ e. refl), (λ e. absurd (omega arith)), (λ a b. absurd (a w)))
literal_ends (integer z) k P q h = let w = (holds_head P q _ _ h).1 in ((λ e. absurd (omega arith)), (λ e. absurd (omega arith)), (λ a b. refl))
literal_ends (float z) k P q h = let w = (holds_head P q _ _ h).1 in ((λ e. absurd (omega arith)), (λ e. absurd (omega arith)), (λ a b. refl))
literal_ends (text s) k P q h = let w = (holds_head P q _ _ h).1 in ((λ e. absurd (omega arith)), (λ e. refl), (λ a b. absurd (b w)))

-- the place behind a literal, by its kind
pub past_constant : (P : List ℕ) (q : ℕ) → get_or P q 0 ≡ 0x13 → DoneLiteral P q (q + 2)
past_constant P q e = λ l k h. omega (arith, (literal_ends l k P q h).0 e)

pub past_text : (P : List ℕ) (q : ℕ) → get_or P q 0 ≡ 0x12 → DoneLiteral P q (q + 5)
past_text P q e = λ l k h. omega (arith, (literal_ends l k P q h).1 e)

pub past_number : (P : List ℕ) (q : ℕ) → (get_or P q 0 ≡ 0x13 → ⊥) → (get_or P q 0 ≡ 0x12 → ⊥) → DoneLiteral P q (q + 9)
past_number P q a b = λ l k h. omega (arith, (literal_ends l k P q h).2 a b)

-- the shortest literal is a constant
pub literal_two : (l : Literal) (k : ℕ) → 2 ≤ length (code_literal l k)
unfolding code_literal pooled little_endian
literal_two null k = omega arith
literal_two (boolean b) k = omega arith
literal_two (integer z) k = omega arith
literal_two (float b) k = omega arith
literal_two (text s) k = omega arith

pub literal_in : (P : List ℕ) (q : ℕ) → AskLiteral P q → q + 2 ≤ length P
literal_in P q a = omega (arith, holds_in P q (code_literal a.l a.k) a.holds, literal_two a.l a.k)
