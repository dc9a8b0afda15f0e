-- The laws of compile: a query read from its first byte to its last, what its marks come to, and the outcome. Assumes nothing.
use mathlib.Core.Path.{◌≡◌, refl, sym, ap, subst, ◌∙◌}
use mathlib.Core.Bool.{Bool, true, false, cond, not, ◌&&◌}
use mathlib.Core.List.{List, [], ◌∷◌, ◌++◌}
use mathlib.Core.Logic.{◌≢◌}
use Rattle.std.specs.Prelude.{Result, Ok, Err}
use Prim.Native.Nat.{ℕ, zero, suc, ◌+◌, ◌%◌, ◌≤◌, ◌<◌}
use native.Mathlib.Nat.{zero-add}
use native.Mathlib.Omega.{arith}
use borrow.Author.Tests.{ne_eqb, eqb-true, eqb-false, ltb-false, lt-ltb, le-ltb, lt-leb, le-leb}
use lib.Dec.{eqb, leb, ltb, lit<}
use lib.ListN.{length, take, drop, length-take, length-drop}
use lib.Seq.{sets, length-sets, sets-eq}
use Rattle.definition.specs.Utf8.{is_utf8}
use Rattle.definition.specs.Brackets.{too_deep}
use Rattle.definition.specs.Limits.{max_query}
use Rattle.definition.specs.Grammar as G
use Rattle.definition.specs.Grammar.{spell, spell_segments}
use Rattle.definition.specs.Forms.{Query}
use Rattle.definition.specs.Plans.{plan_of, pool_of}
use Rattle.definition.specs.Walk.{walk}
use Rattle.definition.specs.Outcomes.{CompileOutcome, early, judge, compile_by, write}
use Rattle.definition.specs.Outcomes.Reading.{refused}
use Rattle.definition.specs.Walk.{Walked}
use Rattle.definition.specs.Walk.Walked.{walked}
use Rattle.compile_forms.specs.Fits.{early_first}
use Rattle.compile_forms.specs.Walks.{WalkNumber, four, five, six, Keeps, walk_keeps}
use Rattle.basics.specs.Reads.{ReadsNone, Wrote}
use Rattle.utf8_laws.specs.Bytes.{by_test}
use Rattle.utf8_laws.specs.Encode.{utf8_ascii}
use Rattle.compile_writes.specs.Effects.{Marks, Effect}
use Rattle.compile_writes.specs.Sizes.{query_plan_fits, query_pool_fits}
use Rattle.compile_writes.specs.Writes.{write_query, write_from, write_segments}
use Rattle.compile_writes.specs.Agrees.{Agreed, Formed, agrees}
use Rattle.parser_follow.specs.Follow.{After}
use Rattle.parser_follow.specs.Pieces.{query_flag}
use Rattle.parser_scan.specs.Text.{Is}
use Rattle.parser_items.specs.Reads.{marks_at, marks_of, Asks, Read}
use Rattle.parser_items.specs.Laws.{after_end, join_none}
use Rattle.parser_items.specs.declared.Cursor.{Cursor}
use Rattle.compile_unique.specs.Readings.{OneReading, OneCompile, none_only, tree_only, early_only, compiles_only}
use Rattle.compile.specs.Outcomes.{outcome, number_of, QueryNumber}
use Rattle.compile.specs.Steps.{Enough, Sizes, Rooms, Parsed, ParsePost, whole, none, refusal_of, verdict_of}
use Rattle.compile.specs.declared.CompileRefusal.TheVariants as why
use Rattle.compile.specs.declared.Refusal.{Refusal}
use Rattle.compile.specs.declared.Refusal.TheVariants.{TooLong, NotUtf8, TooDeep, Malformed, Mistyped, UnknownFunction, BeyondRange}

-- ---- lists

-- the first n elements of a list that has as many are n
short : (l : List ℕ) (n : ℕ) → n ≤ length l → length (take n l) ≡ n
short l n h = omega (arith, length-take n l)

no_more : (l : List ℕ) → length l ≡ 0 → l ≡ []
no_more [] e = refl
no_more (x ∷ l) e = absurd (omega arith)

-- what is stored at the front of a list stands there
front : (p c : List ℕ) → length c ≤ length p → take (length c) (sets p 0 c) ≡ c
front p c h = ap (take (length c)) (sets-eq c p 0 (omega arith)) ∙ take_left c (drop (0 + length c) p)
  where
    take_left : (a b : List ℕ) → take (length a) (a ++ b) ≡ a
    take_left [] b = refl
    take_left (x ∷ a) b = ap (λ (l : List ℕ). x ∷ l) (take_left a b)

-- ---- before the grammar

early_utf8 : (a b c : Bool) → ◌≡◌ {A = ℕ} (cond a 1 (cond (not b) 2 (cond c 3 0))) 0 → b ≡ true
early_utf8 true b c e = absurd (omega (arith, e))
early_utf8 false true c e = refl
early_utf8 false false c e = absurd (omega (arith, e))

-- what no early refusal meets is UTF-8, and has at most 4,096 bytes
pub passed_utf8 : (s : List ℕ) → early s ≡ 0 → is_utf8 s ≡ true
unfolding early
passed_utf8 s e = early_utf8 (ltb max_query (length s)) (is_utf8 s) (too_deep s) e

pub passed_short : (s : List ℕ) → early s ≡ 0 → length s ≤ 4096
unfolding early
passed_short s e = ltb-false max_query (length s) (early_first (ltb max_query (length s)) (is_utf8 s) (too_deep s) e)

module _ (s : List ℕ) where
  -- the refusals in their order
  pub early_long : 4096 < length s → 1 ≡ early s
  unfolding early
  early_long h = sym (rw (lt-ltb max_query (length s) h))

  pub early_bytes : length s ≤ 4096 → is_utf8 s ≡ false → 2 ≡ early s
  unfolding early
  early_bytes h u = sym (rw (le-ltb max_query (length s) h, u))

  pub early_deep : length s ≤ 4096 → is_utf8 s ≡ true → too_deep s ≡ true → 3 ≡ early s
  unfolding early
  early_deep h u d = sym (rw (le-ltb max_query (length s) h, u, d))

  pub early_none : length s ≤ 4096 → is_utf8 s ≡ true → too_deep s ≡ false → 0 ≡ early s
  unfolding early
  early_none h u d = sym (rw (le-ltb max_query (length s) h, u, d))

-- ---- the numbers of a query's refusals

-- 0 stands for none
pub number_positive : (w : Refusal) → number_of w ≢ 0
number_positive TooLong e = omega arith
number_positive NotUtf8 e = omega arith
number_positive TooDeep e = omega arith
number_positive Malformed e = omega arith
number_positive Mistyped e = omega arith
number_positive UnknownFunction e = omega arith
number_positive BeyondRange e = omega arith

walk_number : {n : ℕ} → WalkNumber n → QueryNumber n
walk_number four = (omega arith, λ e. omega arith)
walk_number five = (omega arith, λ e. omega arith)
walk_number six = (omega arith, λ e. omega arith)

judge_number : (w : Walked Query) (n : ℕ) → Keeps w → judge w ≡ refused n → QueryNumber n
unfolding judge
judge_number (Walked.refused m) n k e = let f : m ≡ n = cc in subst QueryNumber f (walk_number k)
judge_number (walked true q) n k e = let f : 8 ≡ n = cc in (omega arith, λ z. omega arith)
judge_number (walked false q) n k e = let z : ◌≡◌ {A = ℕ} 0 1 = cc in absurd (omega (arith, z))

-- ---- the whole query

-- the cursor in front of the segments
abbrev pub first : Cursor
first = record { at = 1; len = 0; pool = 0; marks = 0 }

module _ {s P L : List ℕ} (h : Rooms s P L) where
  pub root_start : Is s 0 0x24 true → Asks 2 s P L first
  root_start i = record {
    text = i.0;
    plan = omega (arith, h.enough.plan, i.0);
    pool = omega (arith, h.enough.pool, i.0);
    small = h.enough.small;
    small_pool = h.enough.small_pool;
    utf8 = sym (utf8_ascii 0x24 (drop 1 s) (omega arith)) ∙ ap is_utf8 (sym i.1) ∙ h.utf8;
  }

  same_segments : Is s 0 0x24 true → (t : G.Query) → spell t ≡ s → drop 1 s ≡ spell_segments t.segments []
  same_segments i t e = go (sym i.1 ∙ sym e)
    where
      go : 0x24 ∷ drop 1 s ≡ 0x24 ∷ spell_segments t.segments [] → drop 1 s ≡ spell_segments t.segments []
      go x = cc

  -- no `$`
  pub no_root : {P' L' : List ℕ} {i : ℕ} → Is s 0 0x24 false → ParsePost s P P' L L' (Err i)
  no_root n = none (λ t e. n (spell_segments t.segments []) (sym e))

  -- no segments behind it
  pub no_segments : {P' L' : List ℕ} {i : ℕ} → Is s 0 0x24 true → ReadsNone spell_segments (After 1) (drop 1 s) → ParsePost s P P' L L' (Err i)
  no_segments i n = none (λ t e. n.none t.segments [] (after_end (lit< tt)) (same_segments i t e))

  module _ {P' L' : List ℕ} {b : Cursor} {f : ℕ} (i : Is s 0 0x24 true) (rd : Read spell_segments (λ t. write_from 1 (write_segments t)) query_flag 1 s P P' L L' first b f) where
    -- something is left behind the segments
    pub some_left : {j : ℕ} → b.at < length s → ParsePost s P P' L L' (Err j)
    some_left l = none (λ t e.
        let o = rd.reads.only t.segments [] (after_end (lit< tt)) (same_segments i t e) in
        let m = ap length o.1 in
        let d = length-drop b.at s in
        omega arith)

    -- nothing is left
    pub all_read : length s ≤ b.at → ParsePost s P P' L L' (Ok b)
    unfolding write_query marks_at
    all_read l =
        let t : G.Query = record { segments = rd.tree } in
        let e : drop b.at s ≡ [] = no_more (drop b.at s) (omega (arith, length-drop b.at s)) in
        let g : spell t ≡ s = sym (i.1 ∙ ap (λ (z : List ℕ). 0x24 ∷ z) (rd.reads.eq ∙ ap (spell_segments rd.tree) e)) in
        let x = write_query t 0 in
        let n : length x.plan ≤ length P = omega (arith, query_plan_fits t 0, ap length g, h.enough.plan) in
        let m : length x.pool ≤ length L = omega (arith, query_pool_fits t 0, ap length g, h.enough.pool) in
        let q = length-sets P 0 x.plan in
        let r = length-sets L 0 x.pool in
        whole {b = b} (record {
          tree = t;
          spells = g;
          only = λ t' e'. ap (λ (y : Effect × ℕ). y.0) (rd.reads.only t'.segments [] (after_end (lit< tt)) (same_segments i t' e')).0;
          plan = ap (λ (z : ℕ). take z P') (rd.done.len ∙ zero-add (length x.plan)) ∙ ap (take (length x.plan)) rd.done.plan ∙ front P x.plan n;
          pool = ap (λ (z : ℕ). take z L') (rd.done.pool ∙ zero-add (length x.pool)) ∙ ap (take (length x.pool)) rd.done.text ∙ front L x.pool m;
          len = omega (arith, rd.done.len, ap length rd.done.plan);
          pool_len = omega (arith, rd.done.pool, ap length rd.done.text);
          marks = rd.done.marks ∙ join_none x.marks;
        })

-- ---- what the marks come to

module _ {s P' L' : List ℕ} {b : Cursor} (p : Parsed s P' L' b) where
  agreed : Agreed (walk p.tree) (write_query p.tree 0)
  agreed = agrees p.tree

  pub reading : early s ≡ 0 → OneReading s (judge (walk p.tree))
  reading h = tree_only h p.tree p.spells p.only

  verdict_is : (marks_of b).verdict ≡ (write_query p.tree 0).marks.verdict
  verdict_is = ap (λ (m : Marks). m.verdict) p.marks

  beyond_is : (marks_of b).beyond ≡ (write_query p.tree 0).marks.beyond
  beyond_is = ap (λ (m : Marks). m.beyond) p.marks

  -- a refusal of the walk
  pub judged : (verdict_of b ≡ 0 → ⊥) → judge (walk p.tree) ≡ refused (verdict_of b)
  judged n =
      by_test (eqb (marks_of b).verdict 0)
      (λ z. beyond (eqb-true (marks_of b).verdict 0 z) z)
      (λ f. let g = eqb-false (marks_of b).verdict 0 f in agreed.refuses (positive (marks_of b).verdict g verdict_is) ∙ ap refused (sym verdict_is ∙ sym (rw f)))
    where
      positive : (x : ℕ) {y : ℕ} → (x ≡ 0 → ⊥) → x ≡ y → 0 < y
      positive zero k e = absurd (k refl)
      positive (suc x) k e = omega (arith, e)

      beyond : (marks_of b).verdict ≡ 0 → eqb (marks_of b).verdict 0 ≡ true → judge (walk p.tree) ≡ refused (verdict_of b)
      beyond v z =
          by_test (marks_of b).beyond
          (λ t. agreed.beyond (sym verdict_is ∙ v) (sym beyond_is ∙ t) ∙ ap refused (sym (rw (z, t))))
          (λ u. absurd (n (rw (z, u))))

  -- no refusal: a form
  pub formed : verdict_of b ≡ 0 → Formed (walk p.tree) (write_query p.tree 0)
  formed e =
      by_test (eqb (marks_of b).verdict 0)
      (λ z. by_test (marks_of b).beyond
      (λ t. absurd (eight (sym (rw (z, t)) ∙ e)))
      (λ u. agreed.forms (sym verdict_is ∙ eqb-true (marks_of b).verdict 0 z) (sym beyond_is ∙ u)))
      (λ f. absurd (eqb-false (marks_of b).verdict 0 f (sym (rw f) ∙ e)))
    where
      eight : ◌≡◌ {A = ℕ} 8 0 → ⊥
      eight x = omega arith

  pub numbered : QueryNumber (verdict_of b)
  numbered =
      by_test (eqb (verdict_of b) 0)
      (λ z. subst QueryNumber (sym (eqb-true (verdict_of b) 0 z)) (omega arith, λ e. omega arith))
      (λ f. judge_number (walk p.tree) (verdict_of b) (walk_keeps p.tree) (judged (eqb-false (verdict_of b) 0 f)))

  -- ---- the outcome

  pub outcome_refused : {P L : List ℕ} (w : Refusal) → early s ≡ 0 → (QueryNumber (verdict_of b) → number_of w ≡ verdict_of b) → OneCompile s P L (outcome (Err (why.Query w)) P L)
  unfolding compile_by
  outcome_refused {P} {L} w h k =
      let g : number_of w ≡ verdict_of b = k numbered in
      let j : judge (walk p.tree) ≡ refused (number_of w) = judged (λ z. number_positive w (g ∙ z)) ∙ ap refused (sym g) in
      compiles_only (subst (OneReading s) j (reading h)) refl

  pub outcome_form : {P L : List ℕ} {o : CompileOutcome} → early s ≡ 0 → (QueryNumber (verdict_of b) → 0 ≡ verdict_of b) → o ≡ write (leb b.len (length P) && leb b.pool (length L)) (take b.len P') (take b.pool L') P L → OneCompile s P L o
  unfolding compile_by
  outcome_form {P} {L} {o} h k w =
      let f = formed (sym (k numbered)) in
      let x : take b.len P' ≡ plan_of f.query = p.plan ∙ sym f.plan in
      let y : take b.pool L' ≡ pool_of f.query = p.pool ∙ sym f.pool in
      let l : b.len ≡ length (plan_of f.query) = sym (short P' b.len p.len) ∙ ap length x in
      let m : b.pool ≡ length (pool_of f.query) = sym (short L' b.pool p.pool_len) ∙ ap length y in
      compiles_only (subst (OneReading s) f.is (reading h)) (w ∙ (λ i. write (leb (l i) (length P) && leb (m i) (length L)) (x i) (y i) P L))

-- no tree
pub outcome_none : {s P L : List ℕ} → early s ≡ 0 → ((t : G.Query) → spell t ≡ s → ⊥) → OneCompile s P L (outcome (Err (why.Query Malformed)) P L)
unfolding compile_by
outcome_none h f = compiles_only (none_only h f) refl

-- a refusal before the grammar
pub outcome_early : {s P L : List ℕ} (w : Refusal) → number_of w ≡ early s → OneCompile s P L (outcome (Err (why.Query w)) P L)
unfolding compile_by
outcome_early {s} {P} {L} w e = compiles_only (early_only (λ z. number_positive w (e ∙ z))) (ap (λ (m : ℕ). record { refusal = m; plan_length = 0; pool_length = 0; plan_room = P; pool_room = L }) e)

-- ---- from the answer of parse

pub whole_of_lem : {s P P' L L' : List ℕ} {r : Result Cursor ℕ} {b : Cursor} → ParsePost s P P' L L' r → r ≡ Ok b → Parsed s P' L' b
whole_of_lem {s} {P} {P'} {L} {L'} h e = go (rw e at h)
  where
    go : {b : Cursor} → ParsePost s P P' L L' (Ok b) → Parsed s P' L' b
    go (whole p) = p

pub none_of : {s P P' L L' : List ℕ} {r : Result Cursor ℕ} → ParsePost s P P' L L' r → (i : ℕ) → r ≡ Err i → (t : G.Query) → spell t ≡ s → ⊥
none_of {s} {P} {P'} {L} {L'} h i e = go (rw e at h)
  where
    go : {i : ℕ} → ParsePost s P P' L L' (Err i) → (t : G.Query) → spell t ≡ s → ⊥
    go (none f) = f

-- ---- delivery

module _ (A B P L : List ℕ) {n m : ℕ} (h : n ≤ length A) (k : m ≤ length B) where
  too_small : (leb n (length P) && leb m (length L)) ≡ false → outcome (Err (why.SmallRoom (record { plan = n; pool = m }))) P L ≡ write (leb n (length P) && leb m (length L)) (take n A) (take m B) P L
  unfolding write
  too_small e = rw (e, short A n h, short B m k)

  -- the plan's room is too small
  pub small_plan_lem : length P < n → outcome (Err (why.SmallRoom (record { plan = n; pool = m }))) P L ≡ write (leb n (length P) && leb m (length L)) (take n A) (take m B) P L
  small_plan_lem x = too_small (rw (lt-leb n (length P) x))

  -- the pool's room is too small
  pub small_pool_lem : n ≤ length P → length L < m → outcome (Err (why.SmallRoom (record { plan = n; pool = m }))) P L ≡ write (leb n (length P) && leb m (length L)) (take n A) (take m B) P L
  small_pool_lem x y = too_small (rw (le-leb n (length P) x, lt-leb m (length L) y))

  -- both are large enough
  pub fits_both : {P' L' : List ℕ} → n ≤ length P → m ≤ length L → Wrote P 0 (take n A) P' → Wrote L 0 (take m B) L'
      → outcome (Ok (record { plan = n; pool = m })) P' L' ≡ write (leb n (length P) && leb m (length L)) (take n A) (take m B) P L
  unfolding write
  fits_both x y v w = rw (le-leb n (length P) x, le-leb m (length L) y, short A n h, short B m k, v.is, w.is)

-- ---- a query handed on whole

pub rooms_whole : {s s' P L : List ℕ} → s' ≡ s → Rooms s P L → Rooms s' P L
rooms_whole {P = P} {L = L} e h = subst (λ (z : List ℕ). Rooms z P L) (sym e) h

pub parse_whole : {s s' P P' L L' : List ℕ} {r : Result Cursor ℕ} → s' ≡ s → ParsePost s' P P' L L' r → ParsePost s P P' L L' r
parse_whole {P = P} {P' = P'} {L = L} {L' = L'} {r = r} e h = subst (λ (z : List ℕ). ParsePost z P P' L L' r) e h

-- ---- what a cursor's marks come to

module _ (n : ℕ) where
  pub refused_first : n % 256 ≢ 0 → n % 256 ≡ refusal_of (marks_at n)
  unfolding marks_at
  refused_first h = sym (rw (ne_eqb (n % 256) 0 h))

  -- what comes after the walk
  pub refused_late : {x : ℕ} → n % 256 ≡ 0 → x ≡ cond (leb 256 n) 8 0 → x ≡ refusal_of (marks_at n)
  unfolding marks_at
  refused_late e f = rw e f
  -- a refusal of the walk is the first

-- ---- rooms

pub rooms_of : {s P L : List ℕ} → Enough s P L → early s ≡ 0 → Rooms s P L
rooms_of {s} e h = record { enough = e; utf8 = passed_utf8 s h }

-- The largest rooms take every query.
pub enough_for_all : {s P L : List ℕ} → early s ≡ 0 → length P ≡ 61440 → length L ≡ 4096 → Enough s P L
enough_for_all {s} h p l = let n = passed_short s h in record { plan = omega arith; pool = omega arith; small = omega arith; small_pool = omega arith }

pub sizes_for_all : (s : List ℕ) → early s ≡ 0 → Sizes s 61440 4096
sizes_for_all s h = let n = passed_short s h in (omega arith, omega arith, omega arith, omega arith)
