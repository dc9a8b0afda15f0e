-- The laws of segments, bracketed selections and selectors, as the reader's functions need them. Assumes nothing.
use Rattle.std.specs.Prelude.{Ok, Err}
use mathlib.Core.Path.{◌≡◌, refl, sym, ap, subst, ◌∙◌}
use mathlib.Core.Bool.{Bool, true, false}
use mathlib.Core.List.{List, [], ◌∷◌}
use Prim.Native.Nat.{ℕ, ◌+◌, ◌-◌, ◌≤◌, ◌<◌, min}
use native.Mathlib.Omega.{arith}
use lib.Seq.{length-sets}
use lib.ListN.{length, drop}
use Rattle.definition.specs.Utf8.{is_utf8}
use Rattle.definition.specs.Grammar as G
use Rattle.definition.specs.Grammar.{spell_logical_or, spell_segments, spell_segment, spell_bracketed, spell_selector}
use Rattle.definition.specs.Grammar.Segment.{child_brackets, child_wild, child_name, descendant_brackets, descendant_wild, descendant_name}
use Rattle.definition.specs.Grammar.Segments.{no_segment}
use Rattle.definition.specs.Plans.{two}
use Rattle.parser_follow.specs.Blanks.{split_blanks}
use Rattle.basics.specs.Reads.{Reads, ReadsNone, StartsNot, Wrote}
use Rattle.utf8_laws.specs.Encode.{utf8_ascii}
use Rattle.compile_writes.specs.Effects.{Effect, Writer, join, skip, counted}
use Rattle.compile_writes.specs.Sorts.{Sort, sort_or_lem, singular_segments, tight_segments}
use Rattle.compile_writes.specs.Sizes.{sized_segment, sized_or, test_tail_lem}
use Rattle.compile_writes.specs.Writes.{write_or_lem, test_tail, write_segments, write_segment, write_selector}
use Rattle.parser_follow.specs.Follow.{hd, unblank, After, is_segment_byte}
use Rattle.parser_follow.specs.Numbers.{sort_number, sort_of, Known, path_number, segments_flag, segment_flag, plain_flag, bracketed_flag, no_flag, write_selection, sort_small}
use Rattle.parser_follow.specs.Leaves.{spell_dotted, write_dotted, dotted_flag, spell_plain, write_plain, is_plain}
use Rattle.parser_follow.specs.Pieces.{Filter, spell_filter, write_filter}
use Rattle.parser_scan.specs.Text.{Is, Both, Has, Skipped}
use Rattle.parser_items.specs.Reads.{Asks, Done, Read, Post, LoosePost, Put, next, stop, low}
use Rattle.parser_items.specs.Laws.{Moved, done_then, post_low, post_loose}
use Rattle.parser_items.specs.declared.Cursor.{Cursor}
use Rattle.parser_items.specs.Reads.{Step}
use Rattle.parser_laws.specs.So.{So, so_none}
use Rattle.parser_laws.specs.Rep.{behind}
use Rattle.parser_laws.specs.Segment.{me_segment, lowered, segment_no_dot, segment_dot, segment_dots_brackets, segment_dots}
use Rattle.parser_laws.specs.Segments.{me_segments, segments_more, segments_end, segments_none}
use Rattle.parser_laws.specs.Joins.{plain, within}
use Rattle.parser_laws.specs.Sorted.{sort_of_lem}
use Rattle.parser_laws.specs.Or.{me_or}
use Rattle.parser_laws.specs.Filter.{filter_reads, filter_none, filter_writes, me_plain, selector_filter, selector_plain}
use Rattle.parser_laws.specs.Selectors.{me_selector}
use Rattle.parser.proofs.Steps.{put_plain, done_within, asks_put, asks_moved, asks_skipped, asks_read, read_spent, done_is, done_moved, post_so, stay, Loop, empty, loop_start, join_then, join_empty, so_act}

-- ---- a tree that was read from a later place

module _ {T : Type 0} {sp : T → List ℕ → List ℕ} {w : T → Writer} {fl : T → ℕ} {k at : ℕ} {s P P' Q Q' : List ℕ} (a : Cursor) {b c : Cursor} {f : ℕ} (m : Moved a b at) where
  pub reads_moved : (h : Read sp w fl k s P P' Q Q' b c f) → Reads {M = Effect × ℕ} sp (λ t. (w t a.pool, fl t)) (After k) (drop at s) h.tree (drop c.at s)
  reads_moved h = subst (λ (n : ℕ). Reads {M = Effect × ℕ} sp (λ t. (w t a.pool, fl t)) (After k) (drop n s) h.tree (drop c.at s)) m.0 (subst (λ (n : ℕ). Reads {M = Effect × ℕ} sp (λ t. (w t n, fl t)) (After k) (drop b.at s) h.tree (drop c.at s)) m.1.0.1 h.reads)

  pub read_done : (h : Read sp w fl k s P P' Q Q' b c f) → Done P P' Q Q' a c (w h.tree a.pool)
  read_done h = done_moved m (subst (λ (n : ℕ). Done P P' Q Q' b c (w h.tree n)) m.1.0.1 h.done)

-- there is none at a later place
pub none_moved : {T : Type 0} {sp : T → List ℕ → List ℕ} {k at : ℕ} (s : List ℕ) (a b : Cursor) → Moved a b at → ReadsNone sp (After k) (drop b.at s) → ReadsNone sp (After k) (drop at s)
none_moved {sp = sp} {k = k} s a b m h = subst (λ (n : ℕ). ReadsNone sp (After k) (drop n s)) m.0 h

-- ---- segments

-- at the head of the loop
pub record SegmentsLoop (s P P' Q Q' : List ℕ) (a b : Cursor) (f : ℕ) : Type 0 where
  pub loop : Loop spell_segments write_segments segments_flag me_segments 1 s P P' Q Q' a b f
  pub small : f ≤ 2

path_least : (x y : Bool) → path_number x y ≡ min 2 (path_number x y)
path_least true true = refl
path_least true false = refl
path_least false true = refl
path_least false false = refl

pub segments_start : {s P Q : List ℕ} {a : Cursor} → Asks 0 s P Q a → SegmentsLoop s P P Q Q a a 2
segments_start {a = a} st = record { loop = loop_start 2 (λ t. ap (λ (n : ℕ). (write_segments t a.pool, n)) (path_least (singular_segments t) (tight_segments t))) st; small = omega arith }

-- a segment's code has a byte at least, so its spelling has one
segment_code : (x : G.Segment) (p : ℕ) → 1 ≤ length (write_segment x p).plan
unfolding write_segment counted
segment_code (child_brackets x) p = omega arith
segment_code child_wild p = omega arith
segment_code (child_name n) p = omega arith
segment_code (descendant_brackets x) p = omega arith
segment_code descendant_wild p = omega arith
segment_code (descendant_name n) p = omega arith

pub segment_long : {s P P' Q Q' : List ℕ} {a b : Cursor} {f : ℕ} → Read spell_segment write_segment segment_flag 0 s P P' Q Q' a b f → a.at < b.at
segment_long {a = a} h =
    let v = read_spent sized_segment h in
    let n = segment_code h.tree a.pool in
    omega (arith, v.plan)

no_segments : (f p : ℕ) → f ≤ 2 → me_segments f p no_segment ≡ (empty, f)
unfolding write_segments skip singular_segments tight_segments
no_segments f p h =
    let e : min f 2 ≡ f = omega arith in
    ap (λ (n : ℕ). (empty, n)) e

module _ {s P P' Q Q' : List ℕ} {a b : Cursor} {f e : ℕ} (lp : SegmentsLoop s P P' Q Q' a b f) (k : Skipped s b.at e) where
  segment_byte : {c : ℕ} {l : List ℕ} → is_segment_byte c ≡ true → drop e s ≡ c ∷ l → is_segment_byte (hd (unblank (drop b.at s))) ≡ true
  segment_byte g h = ap (λ (z : List ℕ). is_segment_byte (hd z)) (sym k.rest ∙ h) ∙ g

  no_segment_byte : StartsNot is_segment_byte (drop e s) → is_segment_byte (hd (unblank (drop b.at s))) ≡ false
  unfolding StartsNot
  no_segment_byte h = go (drop e s) k.rest h
    where
      go : (l : List ℕ) → l ≡ unblank (drop b.at s) → StartsNot is_segment_byte l → is_segment_byte (hd (unblank (drop b.at s))) ≡ false
      go [] g h = ap (λ (z : List ℕ). is_segment_byte (hd z)) (sym g)
      go (c ∷ l) g h = ap (λ (z : List ℕ). is_segment_byte (hd z)) (sym g) ∙ h

  -- no segment begins there
  pub segments_over : Has is_segment_byte s e false → Post spell_segments write_segments segments_flag 1 s P P' Q Q' a (Ok (b, f))
  segments_over h =
      let o = lp.loop in
      let q : ◌≡◌ {A = Effect × ℕ} (write_segments (o.so.fill no_segment) a.pool, segments_flag (o.so.fill no_segment)) (o.effect, f) = o.so.cod no_segment ∙ ap (behind o.effect) (no_segments f b.pool lp.small) ∙ ap (λ (y : Effect). (y, f)) (join_empty o.effect) in
      next {b = b} (record {
        tree = o.so.fill no_segment;
        reads = segments_end f b.pool (behind o.effect) o.so (no_segment_byte h);
        from = o.from;
        to = o.start.text;
        done = done_is (ap (λ (y : Effect × ℕ). y.0) q) o.done;
        flag = sym (ap (λ (y : Effect × ℕ). y.1) q);
        utf8 = o.start.utf8;
      })

  module _ (h : Has is_segment_byte s e true) {d : Cursor} (m : Moved b d e) where
    -- the function may read a segment there
    pub segments_begin : Asks 0 s P' Q' d
    segments_begin = asks_skipped lp.loop.start k m

    -- there is none
    pub segments_stop : {i : ℕ} {P₂ Q₂ : List ℕ} → ReadsNone spell_segment (After 0) (drop d.at s) → Post spell_segments write_segments segments_flag 1 s P P₂ Q Q₂ a (Err i)
    segments_stop n = stop (segments_none f b.pool (behind lp.loop.effect) lp.loop.so (segment_byte h.2 h.3) (subst (ReadsNone spell_segment (After 0)) k.rest (none_moved s b d m n)))

    -- one segment more
    pub segments_again : {P'' Q'' : List ℕ} {c : Cursor} {g n : ℕ} → Read spell_segment write_segment segment_flag 0 s P' P'' Q' Q'' d c g → n ≡ min f g → SegmentsLoop s P P'' Q Q'' a c n
    segments_again {c = c} {g = g} {n = n} rd e' =
        let o = lp.loop in
        let x = rd.tree in
        let w = write_segment x b.pool in
        let dn = read_done b m rd in
        let y = segments_more f b.pool (behind o.effect) o.so (segment_byte h.2 h.3) (subst (λ (l : List ℕ). Reads spell_segment (me_segment b.pool) (After 0) l x (drop c.at s)) k.rest (reads_moved b m rd)) in
        let z = so_act (λ m. behind o.effect (behind w m)) (behind (join o.effect w)) (join_then o.effect w) y in
        let fl : min f (segment_flag x) ≡ n = ap (min f) (sym rd.flag) ∙ sym e' in
        record {
          loop = record {
            effect = join o.effect w;
            so = subst (λ (v : ℕ). So {M = Effect × ℕ} spell_segments (λ t. (write_segments t a.pool, segments_flag t)) spell_segments (me_segments v c.pool) (After 1) (drop a.at s) (drop c.at s) (behind (join o.effect w))) fl
                (subst (λ (v : ℕ). So {M = Effect × ℕ} spell_segments (λ t. (write_segments t a.pool, segments_flag t)) spell_segments (me_segments (min f (segment_flag x)) v) (After 1) (drop a.at s) (drop c.at s) (behind (join o.effect w))) (sym dn.pool) z);
            done = done_then o.done dn;
            from = omega (arith, o.from, k.from, m.0, rd.from);
            start = asks_read sized_segment segments_begin rd (omega arith);
          };
          small = omega (arith, lp.small);
        }

-- ---- places behind bytes

module _ {x y c : ℕ} {s P L : List ℕ} {a b : Cursor} (st : Asks x s P L a) where
  -- behind a byte of the query
  pub asks_byte : c < 0x80 → Is s a.at c true → Moved a b (a.at + 1) → y ≤ 15 + x → Asks y s P L b
  asks_byte h i m l = asks_moved st m (omega arith) (omega (arith, i.0)) (sym (utf8_ascii c (drop (a.at + 1) s) h) ∙ ap is_utf8 (sym i.1) ∙ st.utf8) (omega arith)

  -- behind two
  pub asks_both : {d : ℕ} → c < 0x80 → d < 0x80 → Both s a.at c d true → Moved a b (a.at + 2) → y ≤ 30 + x → Asks y s P L b
  asks_both {d} h g i m l =
      asks_moved st m (omega arith) (omega (arith, i.0))
      (sym (utf8_ascii d (drop (a.at + 2) s) g) ∙ sym (utf8_ascii c (d ∷ drop (a.at + 2) s) h) ∙ ap is_utf8 (sym i.1) ∙ st.utf8)
      (omega arith)

-- all trees T at a come of the trees U at a later place
pub post_at : {T U : Type 0} {spT : T → List ℕ → List ℕ} {wT : T → Writer} {flT : T → ℕ} {spU : U → List ℕ → List ℕ} {wU : U → Writer} {flU : U → ℕ} {k : ℕ} (j : ℕ) {s P P' L L' : List ℕ} {a b : Cursor} {at : ℕ}
    → So {M = Effect × ℕ} spT (λ t. (wT t a.pool, flT t)) spU (λ u. (wU u a.pool, flU u)) (After k) (drop a.at s) (drop at s) (λ m. m) → j ≤ k → Moved a b at → a.at ≤ at
    → {r : Step} → Post spU wU flU j s P P' L L' b r → Post spT wT flT k s P P' L L' a r
post_at {spT = spT} {wT} {flT} {spU} {wU} {flU} {k} j {s = s} {a = a} so le m from p =
    post_so j (subst (λ (n : ℕ). So {M = Effect × ℕ} spT (λ t. (wT t a.pool, flT t)) spU (λ u. (wU u a.pool, flU u)) (After k) (drop a.at s) (drop n s) (λ m. m)) (sym m.0) so) le m (omega (arith, m.0)) p

-- ---- one segment

so_low : {T U : Type 0} {spT : T → List ℕ → List ℕ} {meT : T → Effect × ℕ} {spU : U → List ℕ → List ℕ} {w : U → Effect} {fl : U → ℕ} {May : List ℕ → Type 0} {s₀ s : List ℕ} → So {M = Effect × ℕ} spT meT spU (λ u. (w u, fl u)) May s₀ s lowered → So {M = Effect × ℕ} spT meT spU (λ u. (w u, no_flag u)) May s₀ s (λ m. m)
so_low so = record { fill = so.fill; fwd = so.fwd; cod = so.cod; bwd = so.bwd }

module _ {s P P' Q Q' : List ℕ} {a d : Cursor} {r : Step} where
  -- ".." and a bracketed selection
  pub segment_by_dots_brackets : Both s a.at 0x2E 0x2E true → Is s (a.at + 2) 0x5B true → Moved a d (a.at + 2) → Post spell_bracketed (write_selection 4) bracketed_flag 0 s P P' Q Q' d r → Post spell_segment write_segment segment_flag 0 s P P' Q Q' a (low r)
  segment_by_dots_brackets b i m p = post_at 0 (so_low (segment_dots_brackets a.pool b.1 i.1)) (omega arith) m (omega arith) (post_low p)

  -- ".." and a star or a name
  pub segment_by_dots : Both s a.at 0x2E 0x2E true → Is s (a.at + 2) 0x5B false → Moved a d (a.at + 2) → Post spell_dotted (write_dotted 4) dotted_flag 0 s P P' Q Q' d r → Post spell_segment write_segment segment_flag 0 s P P' Q Q' a (low r)
  segment_by_dots b i m p = post_at 0 (so_low (segment_dots a.pool b.1 i)) (omega arith) m (omega arith) (post_low p)

  -- "." and a star or a name
  pub segment_by_dot : Both s a.at 0x2E 0x2E false → Is s a.at 0x2E true → Moved a d (a.at + 1) → Post spell_dotted (write_dotted 3) dotted_flag 0 s P P' Q Q' d r → Post spell_segment write_segment segment_flag 0 s P P' Q Q' a r
  segment_by_dot b i m p = post_at 0 (segment_dot a.pool i.1 (λ l e. b l (i.1 ∙ ap (λ z. 0x2E ∷ z) e))) (omega arith) m (omega arith) p

-- a bracketed selection
pub segment_by_brackets : {s P P' Q Q' : List ℕ} {a : Cursor} {r : Step} → Is s a.at 0x2E false → Post spell_bracketed (write_selection 3) bracketed_flag 0 s P P' Q Q' a r → Post spell_segment write_segment segment_flag 0 s P P' Q Q' a r
segment_by_brackets {a = a} i p = post_at 0 (segment_no_dot a.pool i) (omega arith) (stay a) (omega arith) p

-- ---- one selector

pub known_sort : {f : ℕ} (x : Sort) → f ≡ sort_number x → Known f
known_sort x e = record { small = omega (arith, sort_small x) }

-- a filter
pub selector_by_filter : {s P P' Q Q' : List ℕ} {a d : Cursor} {r : Step} → Is s a.at 0x3F true → Moved a d (a.at + 1) → Post spell_filter write_filter no_flag 4 s P P' Q Q' d r → LoosePost spell_selector write_selector plain_flag 1 4 s P P' Q Q' a r
selector_by_filter {a = a} i m p = post_loose (post_at 4 (selector_filter a.pool i.1) (omega arith) m (omega arith) p)

-- one that does not nest
pub selector_by_plain : {s P P' Q Q' : List ℕ} {a : Cursor} {r : Step} → Is s a.at 0x3F false → LoosePost spell_plain write_plain is_plain 1 4 s P P' Q Q' a r → LoosePost spell_selector write_selector plain_flag 1 4 s P P' Q Q' a r
selector_by_plain {a = a} i (stop h) = stop (so_none (λ x. x) (selector_plain a.pool i) (λ l x. x) h)
selector_by_plain {s = s} {a = a} i (next {b = c} {f = f} h) =
    let so = selector_plain a.pool i in
    let e : me_selector a.pool (so.fill h.tree) ≡ me_plain a.pool h.tree = so.cod h.tree in
    next {b = c} {f = f} (record {
      tree = so.fill h.tree;
      eq = so.fwd h.tree (drop c.at s) h.eq;
      same = λ t' r' x q. let g = so.bwd t' r' x q in g.2 ∙ h.same g.0 r' x g.1 ∙ sym e;
      rest = λ t' r' x q. let g = so.bwd t' r' x q in h.rest g.0 r' x g.1;
      exact = λ o t' r' x q. let g = so.bwd t' r' x q in h.exact o g.0 r' x g.1;
      from = h.from;
      to = h.to;
      done = done_is (ap (λ (y : Effect × ℕ). y.0) e) h.done;
      flag = h.flag ∙ sym (ap (λ (y : Effect × ℕ). y.1) e);
      utf8 = h.utf8;
    })

-- ---- a filter

module _ {s P P₁ Q : List ℕ} {a d h : Cursor} {e : ℕ} (st : Asks 3 s P Q a) (sk : Skipped s a.at e) (mv : Moved a d e) (op : Put P P₁ d h (0x09 ∷ 0 ∷ 0 ∷ [])) where
  -- the expression may be read
  pub filter_begin : Asks 0 s P₁ Q h
  filter_begin = asks_put (asks_skipped st sk mv) op (omega arith)

  filter_none_at : ReadsNone spell_logical_or (After 4) (drop h.at s) → ReadsNone spell_filter (After 4) (drop a.at s)
  filter_none_at x = filter_none (subst (ReadsNone spell_logical_or (After 4)) (ap (λ (z : ℕ). drop z s) (op.at ∙ mv.0) ∙ sk.rest) x)

  -- there is none
  pub filter_stop : {i : ℕ} {P' Q' : List ℕ} → ReadsNone spell_logical_or (After 4) (drop h.at s) → Post spell_filter write_filter no_flag 4 s P P' Q Q' a (Err i)
  filter_stop x = stop (filter_none_at x)

  module _ {P₂ Q₁ : List ℕ} {n : Cursor} {f : ℕ} (rd : Read spell_logical_or (λ t. write_or_lem t true) (λ t. sort_number (sort_or_lem t)) 4 s P₁ P₂ Q Q₁ h n f) where
    -- room for what is behind it
    pub filter_room : Asks 3 s P₂ Q₁ n
    filter_room = asks_read (λ t r. sized_or t true r) filter_begin rd (omega arith)

    pub filter_known : Known f
    filter_known = known_sort (sort_or_lem rd.tree) rd.flag

    module _ {P₃ : List ℕ} {m : Cursor} (tl : Put P₂ P₃ n m (test_tail (sort_of f))) where
      filter_inner : Done P₁ P₃ Q Q₁ h m (join (write_or_lem rd.tree true h.pool) (plain (test_tail (sort_of f))))
      filter_inner = done_then rd.done (put_plain tl)

      -- the place of the length lies behind the kind
      pub filter_longer : a.len + 3 ≤ m.len
      filter_longer = omega (arith, filter_inner.len, op.len, mv.1.0.0)

      pub filter_length : m.len ≤ length P₃
      filter_length =
          let r = filter_room in
          let t = test_tail_lem (sort_of f) in
          let l = ap length tl.plan ∙ length-sets P₂ n.len (test_tail (sort_of f)) in
          omega (arith, r.plan, tl.len)

      pub filter_read : {P₄ : List ℕ} → Wrote P₃ (a.len + 1) (two (m.len - a.len - 3)) P₄ → Post spell_filter write_filter no_flag 4 s P P₄ Q Q₁ a (Ok (m, 0))
      filter_read {P₄} w =
          let x : Filter = record { blanks = (split_blanks (drop a.at s)).0; test = rd.tree } in
          let pl : h.pool ≡ a.pool = op.pool ∙ mv.1.0.1 in
          let σ : sort_of f ≡ sort_or_lem rd.tree = ap sort_of rd.flag ∙ sort_of_lem (sort_or_lem rd.tree) in
          let E : Effect = join (write_or_lem rd.tree true h.pool) (plain (test_tail (sort_of f))) in
          let dn : Done P P₄ Q Q₁ a m (within 0x09 E) = done_moved mv (done_within 0x09 op filter_inner (omega (arith, filter_inner.len, op.len, mv.1.0.0)) (subst (λ (z : ℕ). Wrote P₃ (z + 1) (two (m.len - a.len - 3)) P₄) (sym mv.1.0.0) w)) in
          let q : write_filter x a.pool ≡ within 0x09 E = filter_writes a.pool x ∙ (λ i. within 0x09 (join (write_or_lem rd.tree true (sym pl i)) (plain (test_tail (sym σ i))))) in
          next {b = m} (record {
            tree = x;
            reads = filter_reads a.pool (subst (λ (l : List ℕ). Reads spell_logical_or (me_or true a.pool) (After 4) l rd.tree (drop m.at s)) (ap (λ (z : ℕ). drop z s) (op.at ∙ mv.0) ∙ sk.rest)
                (subst (λ (z : ℕ). Reads spell_logical_or (me_or true a.pool) (After 4) (drop h.at s) rd.tree (drop z s)) (sym tl.at) (subst (λ (z : ℕ). Reads spell_logical_or (me_or true z) (After 4) (drop h.at s) rd.tree (drop n.at s)) pl rd.reads)));
            from = omega (arith, sk.from, mv.0, op.at, rd.from, tl.at);
            to = omega (arith, tl.at, rd.to);
            done = done_is q dn;
            flag = refl;
            utf8 = subst (λ (z : ℕ). is_utf8 (drop z s) ≡ true) (sym tl.at) rd.utf8;
          })
