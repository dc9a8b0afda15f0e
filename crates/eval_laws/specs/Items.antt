-- The items of a plan: where the code of a form stands, taken apart by its first byte. P is the plan, L the pool, k where the pool stands when a part begins.
-- Assumes nothing.
use Rattle.std.specs.Prelude.{ℕ, zero, suc, ◌+◌, ◌*◌, ◌-◌, ◌/◌, ◌%◌, ◌≤◌, ◌<◌, ◌^◌, ◌≡◌, Bool, false, ◌&&◌, length, get_or, ℤ}
use Rattle.std.proofs.Math.Path.{refl}
use Rattle.std.proofs.Common.{sym, ap, ◌∙◌, subst, length-append, arith}
use mathlib.Core.List.{List, [], ◌∷◌, ◌++◌, append-nil}
use Rattle.std.proofs.Math.Bool.{true}
use Rattle.std.proofs.Math.Option.{Option}
use Rattle.definition.specs.Bytes.{part, number, little_endian, signed64}
use Rattle.definition.specs.Literals.{in_range}
use Rattle.definition.specs.Limits.{max_plan}
use Rattle.definition.specs.Forms.{Literal, Query, Segments, Selectors, Selector, Test, Argument, Function, many_selectors}
use Rattle.definition.specs.Forms.Start.{root, current}
use Rattle.definition.specs.Forms.Query.{query}
use Rattle.definition.specs.Forms.Segments.{end, child, descendant}
use Rattle.definition.specs.Forms.Selectors.{one, and}
use Rattle.definition.specs.Forms.Selector.{name, index, slice, wildcard, filter}
use Rattle.definition.specs.QueryForms.{query_right, segments_right, selectors_right, selector_right, bound_right, test_right}
use Rattle.definition.specs.Plans.{two, eight, eight_of, pooled, code_slice, framed, pool_query, pool_segments, pool_selectors, pool_selector, pool_test, code_query, code_segments, code_selectors, code_selector, code_test, code_argument}
use Rattle.definition_bytes.specs.Numbers.{bound_length, little_endian_length, range_inside}
use Rattle.basics.specs.Bools.{and_left, and_right}
use Rattle.eval_laws.specs.Bytes.{Holds, holds_in, holds_first, holds_second, holds_head, holds_tail, holds_at, holds_part, number_at, holds_after, signed_at}

-- ---- where a form stands

pub record SegmentsAt (P L : List ℕ) (p k : ℕ) (f : Segments) : Type 0 where
  pub holds : Holds P p (code_segments f k)
  pub pool : Holds L k (pool_segments f)
  pub right : segments_right f ≡ true

pub record SelectorsAt (P L : List ℕ) (p k : ℕ) (ss : Selectors) : Type 0 where
  pub holds : Holds P p (code_selectors ss k)
  pub pool : Holds L k (pool_selectors ss)
  pub right : selectors_right ss ≡ true

pub record SelectorAt (P L : List ℕ) (p k : ℕ) (s : Selector) : Type 0 where
  pub holds : Holds P p (code_selector s k)
  pub pool : Holds L k (pool_selector s)
  pub right : selector_right s ≡ true

pub record TestAt (P L : List ℕ) (p k : ℕ) (t : Test) : Type 0 where
  pub holds : Holds P p (code_test t k)
  pub pool : Holds L k (pool_test t)
  pub right : test_right t ≡ true

-- ---- lengths

pub selector_some : (s : Selector) (k : ℕ) → 0 < length (code_selector s k)
unfolding code_selector pooled code_slice
selector_some (name s) k = omega arith
selector_some (index z) k = omega arith
selector_some (slice a b c) k = omega arith
selector_some wildcard k = omega arith
selector_some (filter t) k = omega arith

-- a segment has no more selectors than bytes, and one at least
pub many_small : (ss : Selectors) (k : ℕ) → many_selectors ss ≤ length (code_selectors ss k)
unfolding many_selectors code_selectors
many_small (one s) k = selector_some s k
many_small (and s ss) k = omega (arith, selector_some s k, many_small ss (k + length (pool_selector s)), length-append (code_selector s k) (code_selectors ss (k + length (pool_selector s))))

pub many_some : (ss : Selectors) → 0 < many_selectors ss
unfolding many_selectors
many_some (one s) = omega arith
many_some (and s ss) = omega arith

-- a query's code has a byte at least
pub segments_some : (f : Segments) (k : ℕ) → 0 < length (code_segments f k)
unfolding code_segments
segments_some end k = omega arith
segments_some (child ss q) k = omega arith
segments_some (descendant ss q) k = omega arith

pub segments_in : (P L : List ℕ) (p k : ℕ) (f : Segments) → SegmentsAt P L p k f → p < length P
segments_in P L p k f a = omega (arith, holds_in P p (code_segments f k) a.holds, segments_some f k)

pub selector_in : (P L : List ℕ) (p k : ℕ) (s : Selector) → SelectorAt P L p k s → p < length P
selector_in P L p k s a = omega (arith, holds_in P p (code_selector s k) a.holds, selector_some s k)

-- ---- segments

-- the end of a query
pub is_end : (P : List ℕ) (p k : ℕ) (f : Segments) → Holds P p (code_segments f k) → get_or P p 0 ≡ 0x0A → f ≡ end
unfolding code_segments
is_end P p k end h e = refl
is_end P p k (child ss q) h e = let w = (holds_head P p _ _ h).1 in absurd (omega arith)
is_end P p k (descendant ss q) h e = let w = (holds_head P p _ _ h).1 in absurd (omega arith)

pub end_long : (P : List ℕ) (p k : ℕ) (f : Segments) → Holds P p (code_segments f k) → get_or P p 0 ≡ 0x0A → length (code_segments f k) ≡ 1
unfolding code_segments
end_long P p k f h e = rw (is_end P p k f h e)

-- a segment, its selectors and the rest of the query
pub record Parts (P L : List ℕ) (p k : ℕ) (f : Segments) : Type 0 where
  pub ss : Selectors
  pub q : Segments
  pub bound : p + 3 < length P
  pub count : number (part P (p + 1) 2) ≡ many_selectors ss
  pub selectors : SelectorsAt P L (p + 3) k ss
  pub after : SegmentsAt P L (p + 3 + length (code_selectors ss k)) (k + length (pool_selectors ss)) q
  pub is_child : get_or P p 0 ≡ 3 → f ≡ child ss q
  pub is_descendant : (get_or P p 0 ≡ 3 → ⊥) → f ≡ descendant ss q
  pub long : length (code_segments f k) ≡ 3 + length (code_selectors ss k) + length (code_segments q (k + length (pool_selectors ss)))

module _ (P L : List ℕ) (few : length P ≤ max_plan) where
  parts_of : (p k x : ℕ) (ss : Selectors) (q f : Segments) → (get_or P p 0 ≡ 3 → f ≡ child ss q) → ((get_or P p 0 ≡ 3 → ⊥) → f ≡ descendant ss q)
      → code_segments f k ≡ x ∷ (two (many_selectors ss) ++ (code_selectors ss k ++ code_segments q (k + length (pool_selectors ss))))
      → pool_segments f ≡ pool_selectors ss ++ pool_segments q → segments_right f ≡ (selectors_right ss && segments_right q)
      → SegmentsAt P L p k f → Parts P L p k f
  parts_of p k x ss q f a b c d e at =
      let k' = k + length (pool_selectors ss) in
      let h0 : Holds P p (x ∷ (two (many_selectors ss) ++ (code_selectors ss k ++ code_segments q k'))) = subst (Holds P p) c at.holds in
      let h1 = holds_tail P p x _ h0 in
      let h2 : Holds P (p + 1 + 2) (code_selectors ss k ++ code_segments q k') = holds_after P (p + 1) 2 (many_selectors ss) _ h1 in
      let e3 : p + 3 ≡ p + 1 + 2 = omega arith in
      let h3 = holds_at P (p + 1 + 2) (p + 3) _ e3 h2 in
      let pl : Holds L k (pool_selectors ss ++ pool_segments q) = subst (Holds L k) d at.pool in
      let i1 = holds_in P (p + 3) _ h3 in
      let l1 = length-append (code_selectors ss k) (code_segments q k') in
      let l2 = length-append (two (many_selectors ss)) (code_selectors ss k ++ code_segments q k') in
      let l3 = little_endian_length 2 (many_selectors ss) in
      let l4 : length (code_segments f k) ≡ suc (length (two (many_selectors ss) ++ (code_selectors ss k ++ code_segments q k'))) = ap length c in
      let s1 = segments_some q k' in
      let n1 = many_small ss k in
      let r : (selectors_right ss && segments_right q) ≡ true = sym e ∙ at.right in
      record {
        ss = ss;
        q = q;
        bound = omega arith;
        count = number_at P (p + 1) 2 (many_selectors ss) _ (omega arith) h1;
        selectors = record { holds = holds_first P (p + 3) (code_selectors ss k) (code_segments q k') h3; pool = holds_first L k (pool_selectors ss) (pool_segments q) pl; right = and_left (selectors_right ss) (segments_right q) r };
        after = record { holds = holds_second P (p + 3) (code_selectors ss k) (code_segments q k') h3; pool = holds_second L k (pool_selectors ss) (pool_segments q) pl; right = and_right (selectors_right ss) (segments_right q) r };
        is_child = a;
        is_descendant = b;
        long = omega arith;
      }

  pub parts : (p k : ℕ) (f : Segments) → SegmentsAt P L p k f → (get_or P p 0 ≡ 0x0A → ⊥) → Parts P L p k f
  unfolding code_segments pool_segments segments_right
  parts p k end at n = absurd (n (holds_head P p _ _ at.holds).1)
  parts p k (child ss q) at n = parts_of p k 3 ss q (child ss q) (λ e. refl) (λ e. absurd (e (holds_head P p _ _ at.holds).1)) refl refl refl at
  parts p k (descendant ss q) at n = let w = (holds_head P p _ _ at.holds).1 in parts_of p k 4 ss q (descendant ss q) (λ e. absurd (omega arith)) (λ e. refl) refl refl refl at

-- ---- selectors in turn

-- the last one
pub record Last (P L : List ℕ) (p k : ℕ) (ss : Selectors) : Type 0 where
  pub s : Selector
  pub made : ss ≡ one s
  pub here : SelectorAt P L p k s
  pub long : length (code_selectors ss k) ≡ length (code_selector s k)

pub last : (P L : List ℕ) (p k : ℕ) (ss : Selectors) → SelectorsAt P L p k ss → many_selectors ss ≤ 1 → Last P L p k ss
unfolding many_selectors code_selectors pool_selectors selectors_right
last P L p k (one s) a l = record { s = s; made = refl; here = record { holds = a.holds; pool = a.pool; right = a.right }; long = refl }
last P L p k (and s ss) a l = absurd (omega (arith, many_some ss))

-- one of several, and the others
pub record Front (P L : List ℕ) (p k : ℕ) (ss : Selectors) : Type 0 where
  pub s : Selector
  pub others : Selectors
  pub made : ss ≡ and s others
  pub here : SelectorAt P L p k s
  pub there : SelectorsAt P L (p + length (code_selector s k)) (k + length (pool_selector s)) others
  pub fewer : many_selectors others ≡ many_selectors ss - 1
  pub long : length (code_selectors ss k) ≡ length (code_selector s k) + length (code_selectors others (k + length (pool_selector s)))

pub front : (P L : List ℕ) (p k : ℕ) (ss : Selectors) → SelectorsAt P L p k ss → 1 < many_selectors ss → Front P L p k ss
unfolding many_selectors code_selectors pool_selectors selectors_right
front P L p k (one s) a l = absurd (omega arith)
front P L p k (and s ss) a l =
    let k' = k + length (pool_selector s) in
    record {
      s = s;
      others = ss;
      made = refl;
      here = record { holds = holds_first P p (code_selector s k) (code_selectors ss k') a.holds; pool = holds_first L k (pool_selector s) (pool_selectors ss) a.pool; right = and_left (selector_right s) (selectors_right ss) a.right };
      there = record { holds = holds_second P p (code_selector s k) (code_selectors ss k') a.holds; pool = holds_second L k (pool_selector s) (pool_selectors ss) a.pool; right = and_right (selector_right s) (selectors_right ss) a.right };
      fewer = omega arith;
      long = length-append (code_selector s k) (code_selectors ss k');
    }

-- ---- one selector, by its kind

unfoldable pub selector_kind : Selector → ℕ
selector_kind (name s) = 5
selector_kind (index z) = 6
selector_kind (slice a b c) = 7
selector_kind wildcard = 8
selector_kind (filter t) = 9

pub kind_of_selector : (P : List ℕ) (p k : ℕ) (s : Selector) → Holds P p (code_selector s k) → get_or P p 0 ≡ selector_kind s
unfolding code_selector pooled code_slice selector_kind
kind_of_selector P p k (name s) h = (holds_head P p _ _ h).1
kind_of_selector P p k (index z) h = (holds_head P p _ _ h).1
kind_of_selector P p k (slice a b c) h = (holds_head P p _ _ h).1
kind_of_selector P p k wildcard h = (holds_head P p _ _ h).1
kind_of_selector P p k (filter t) h = (holds_head P p _ _ h).1

-- "pool start 2, length 2"
pub record PooledAt (P L : List ℕ) (p k : ℕ) (s : List ℕ) : Type 0 where
  pub bound : p + 5 ≤ length P
  pub start : number (part P (p + 1) 2) ≡ k
  pub size : number (part P (p + 3) 2) ≡ length s
  pub inside : k + length s ≤ length L
  pub bytes : part L k (length s) ≡ s

pub pooled_at : (P L : List ℕ) (p k x : ℕ) (s : List ℕ) → length L ≤ max_plan → Holds P p (pooled x k s) → Holds L k s → PooledAt P L p k s
unfolding pooled
pooled_at P L p k x s few h b =
    let h1 = holds_tail P p x _ h in
    let i = holds_in L k s b in
    let h2 : Holds P (p + 1 + 2) (two (length s)) = holds_after P (p + 1) 2 k (two (length s)) h1 in
    let e3 : p + 3 ≡ p + 1 + 2 = omega arith in
    let h3 : Holds P (p + 3) (two (length s)) = holds_at P (p + 1 + 2) (p + 3) _ e3 h2 in
    let w = holds_in P (p + 3) (two (length s)) h3 in
    let v = little_endian_length 2 (length s) in
    record {
      bound = omega arith;
      start = number_at P (p + 1) 2 k (two (length s)) (omega arith) h1;
      size = number_at P (p + 3) 2 (length s) [] (omega arith) (subst (Holds P (p + 3)) (sym (append-nil (two (length s)))) h3);
      inside = i;
      bytes = holds_part L k s b;
    }

pub record Named (P L : List ℕ) (p k : ℕ) (x : Selector) : Type 0 where
  pub s : List ℕ
  pub made : x ≡ name s
  pub stands : PooledAt P L p k s
  pub long : length (code_selector x k) ≡ 5

pub record Indexed (P : List ℕ) (p k : ℕ) (x : Selector) : Type 0 where
  pub z : ℤ
  pub made : x ≡ index z
  pub bound : p + 9 ≤ length P
  pub inside : in_range z ≡ true
  pub value : signed64 (number (part P (p + 1) 8)) ≡ z
  pub long : length (code_selector x k) ≡ 9

pub record Sliced (P : List ℕ) (p k : ℕ) (x : Selector) : Type 0 where
  pub a : Option ℤ
  pub b : Option ℤ
  pub c : Option ℤ
  pub made : x ≡ slice a b c
  pub holds : Holds P p (code_slice a b c)
  pub right : (bound_right a && (bound_right b && bound_right c)) ≡ true
  pub long : length (code_selector x k) ≡ 26

pub record Filtered (P L : List ℕ) (p k : ℕ) (x : Selector) : Type 0 where
  pub t : Test
  pub made : x ≡ filter t
  pub bound : p + 3 ≤ length P
  pub count : number (part P (p + 1) 2) ≡ length (code_test t k)
  pub test : TestAt P L (p + 3) k t
  pub long : length (code_selector x k) ≡ 3 + length (code_test t k)

pub is_wildcard : (P : List ℕ) (p k : ℕ) (s : Selector) → Holds P p (code_selector s k) → get_or P p 0 ≡ 8 → (s ≡ wildcard) × (length (code_selector s k) ≡ 1)
unfolding selector_kind code_selector
is_wildcard P p k (name s) h e = absurd (omega (arith, kind_of_selector P p k (name s) h))
is_wildcard P p k (index z) h e = absurd (omega (arith, kind_of_selector P p k (index z) h))
is_wildcard P p k (slice a b c) h e = absurd (omega (arith, kind_of_selector P p k (slice a b c) h))
is_wildcard P p k wildcard h e = (refl, refl)
is_wildcard P p k (filter t) h e = absurd (omega (arith, kind_of_selector P p k (filter t) h))

-- the lengths of items
pooled_long : (x k : ℕ) (s : List ℕ) → length (pooled x k s) ≡ 5
unfolding pooled little_endian
pooled_long x k s = refl

index_long : (z : ℤ) (k : ℕ) → length (code_selector (index z) k) ≡ 9
unfolding code_selector little_endian
index_long z k = refl

slice_long : (a b c : Option ℤ) → length (code_slice a b c) ≡ 26
unfolding code_slice
slice_long a b c = omega (arith, length-append (eight_of a) (eight_of b ++ eight_of c), length-append (eight_of b) (eight_of c), bound_length a, bound_length b, bound_length c)

pub framed_long : (x : ℕ) (c : List ℕ) → length (framed x c) ≡ 3 + length c
framed_long x c = omega (arith, length-append (two (length c)) c, little_endian_length 2 (length c))

-- a framed code, its length and where it stands
pub record FramedAt (P : List ℕ) (p : ℕ) (c : List ℕ) : Type 0 where
  pub bound : p + 3 ≤ length P
  pub count : number (part P (p + 1) 2) ≡ length c
  pub holds : Holds P (p + 3) c

pub framed_at : (P : List ℕ) (p x : ℕ) (c : List ℕ) → length P ≤ max_plan → Holds P p (framed x c) → FramedAt P p c
framed_at P p x c few h =
    let h1 = holds_tail P p x _ h in
    let h2 : Holds P (p + 1 + 2) c = holds_after P (p + 1) 2 (length c) c h1 in
    let e3 : p + 3 ≡ p + 1 + 2 = omega arith in
    let h3 : Holds P (p + 3) c = holds_at P (p + 1 + 2) (p + 3) c e3 h2 in
    let i = holds_in P (p + 3) c h3 in
    record { bound = omega arith; count = number_at P (p + 1) 2 (length c) c (omega arith) h1; holds = h3 }

module _ (P L : List ℕ) (few_p : length P ≤ max_plan) (few_l : length L ≤ max_plan) (p k : ℕ) where
  pub is_name : (x : Selector) → SelectorAt P L p k x → get_or P p 0 ≡ 5 → Named P L p k x
  unfolding selector_kind code_selector pool_selector
  is_name (name s) a e = record { s = s; made = refl; stands = pooled_at P L p k 5 s few_l a.holds a.pool; long = pooled_long 5 k s }
  is_name (index z) a e = absurd (omega (arith, kind_of_selector P p k (index z) a.holds))
  is_name (slice b d c) a e = absurd (omega (arith, kind_of_selector P p k (slice b d c) a.holds))
  is_name wildcard a e = absurd (omega (arith, kind_of_selector P p k wildcard a.holds))
  is_name (filter t) a e = absurd (omega (arith, kind_of_selector P p k (filter t) a.holds))

  index_at : (z : ℤ) → SelectorAt P L p k (index z) → Indexed P p k (index z)
  unfolding code_selector selector_right
  index_at z a =
      let h1 = holds_tail P p 6 (eight z) a.holds in
      let i = holds_in P p (code_selector (index z) k) a.holds in
      let l = index_long z k in
      let r : in_range z ≡ true = a.right in
      record {
        z = z;
        made = refl;
        bound = omega arith;
        inside = r;
        value = signed_at P (p + 1) z [] (range_inside z r) (subst (Holds P (p + 1)) (sym (append-nil (eight z))) h1);
        long = l;
      }

  pub is_index : (x : Selector) → SelectorAt P L p k x → get_or P p 0 ≡ 6 → Indexed P p k x
  unfolding selector_kind
  is_index (name s) a e = absurd (omega (arith, kind_of_selector P p k (name s) a.holds))
  is_index (index z) a e = index_at z a
  is_index (slice b d c) a e = absurd (omega (arith, kind_of_selector P p k (slice b d c) a.holds))
  is_index wildcard a e = absurd (omega (arith, kind_of_selector P p k wildcard a.holds))
  is_index (filter t) a e = absurd (omega (arith, kind_of_selector P p k (filter t) a.holds))

  slice_at : (b d c : Option ℤ) → SelectorAt P L p k (slice b d c) → Sliced P p k (slice b d c)
  unfolding code_selector selector_right
  slice_at b d c a = record { a = b; b = d; c = c; made = refl; holds = a.holds; right = a.right; long = slice_long b d c }

  pub is_slice : (x : Selector) → SelectorAt P L p k x → get_or P p 0 ≡ 7 → Sliced P p k x
  unfolding selector_kind
  is_slice (name s) a e = absurd (omega (arith, kind_of_selector P p k (name s) a.holds))
  is_slice (index z) a e = absurd (omega (arith, kind_of_selector P p k (index z) a.holds))
  is_slice (slice b d c) a e = slice_at b d c a
  is_slice wildcard a e = absurd (omega (arith, kind_of_selector P p k wildcard a.holds))
  is_slice (filter t) a e = absurd (omega (arith, kind_of_selector P p k (filter t) a.holds))

  filter_at : (t : Test) → SelectorAt P L p k (filter t) → Filtered P L p k (filter t)
  unfolding code_selector pool_selector selector_right
  filter_at t a =
      let f = framed_at P p 9 (code_test t k) few_p a.holds in
      record { t = t; made = refl; bound = f.bound; count = f.count; test = record { holds = f.holds; pool = a.pool; right = a.right }; long = framed_long 9 (code_test t k) }

  pub is_filter : (x : Selector) → SelectorAt P L p k x → (get_or P p 0 ≡ 5 → ⊥) → (get_or P p 0 ≡ 6 → ⊥) → (get_or P p 0 ≡ 7 → ⊥) → (get_or P p 0 ≡ 8 → ⊥) → Filtered P L p k x
  unfolding selector_kind
  is_filter (name s) a n5 n6 n7 n8 = absurd (n5 (kind_of_selector P p k (name s) a.holds))
  is_filter (index z) a n5 n6 n7 n8 = absurd (n6 (kind_of_selector P p k (index z) a.holds))
  is_filter (slice b d c) a n5 n6 n7 n8 = absurd (n7 (kind_of_selector P p k (slice b d c) a.holds))
  is_filter wildcard a n5 n6 n7 n8 = absurd (n8 (kind_of_selector P p k wildcard a.holds))
  is_filter (filter t) a n5 n6 n7 n8 = filter_at t a
