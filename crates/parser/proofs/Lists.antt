-- The laws of *( S "," S selector ) and of the brackets around selectors, as the reader's functions need them. Assumes nothing.
use Rattle.std.specs.Prelude.{Ok, Err}
use mathlib.Core.Path.{◌≡◌, refl, sym, ap, subst, ◌∙◌}
use mathlib.Core.Bool.{true, false}
use mathlib.Core.List.{List, [], ◌∷◌, ◌++◌}
use Prim.Native.Nat.{ℕ, suc, ◌+◌, ◌≤◌}
use native.Mathlib.Nat.{zero-add}
use native.Mathlib.Omega.{arith}
use borrow.Author.Tests.{eqb-true, eqb-false, eq-eqb, ne_eqb}
use lib.Dec.{eqb}
use lib.ListN.{length, drop, length-append, length-drop}
use lib.Seq.{length-sets}
use Rattle.definition.specs.Utf8.{is_utf8}
use Rattle.definition.specs.Grammar as G
use Rattle.definition.specs.Literals.{text_bytes}
use Rattle.definition.specs.Grammar.{spell_logical_or, spell_bracketed, spell_selectors, spell_selector}
use Rattle.definition.specs.Grammar.Bracketed.{bracketed}
use Rattle.definition.specs.Grammar.Selector.{name_selector, wildcard_selector, slice_selector, index_selector, filter_selector}
use Rattle.definition.specs.Grammar.Selectors.{no_selector, more_selectors}
use Rattle.definition.specs.Plans.{two}
use Rattle.parser_follow.specs.Blanks.{split_blanks}
use Rattle.basics.specs.Reads.{Reads, ReadsNone, Wrote}
use Rattle.utf8_laws.specs.Bytes.{by_test}
use Rattle.utf8_laws.specs.Encode.{utf8_ascii}
use Rattle.compile_writes.specs.Effects.{Effect, join, skip, counted}
use Rattle.compile_writes.specs.Sorts.{is_empty}
use Rattle.compile_writes.specs.Spellings.{text_shrinks, int_spends, slice_spends}
use Rattle.compile_writes.specs.Sizes.{sized_selector, sized_or}
use Rattle.compile_writes.specs.Writes.{write_selectors, write_selector, count_more}
use Rattle.parser_follow.specs.Follow.{unblank, After}
use Rattle.parser_follow.specs.Numbers.{plain_flag, bracketed_flag, write_selection, brackets_number}
use Rattle.parser_scan.specs.Text.{Is, Skipped}
use Rattle.parser_items.specs.Reads.{Asks, Done, Post, LooseRead, LoosePost, Put, next, stop}
use Rattle.parser_items.specs.Laws.{Moved, done_then, done_counted, moved_done, asks_go, done_plan, done_pool}
use Rattle.parser_items.specs.declared.Cursor.{Cursor}
use Rattle.parser_laws.specs.Rep.{behind}
use Rattle.parser_laws.specs.Loose.{Loosely, Exactly}
use Rattle.parser_laws.specs.Selectors.{me_selector, me_selectors, Left, left_more, left_end, left_none}
use Rattle.parser_laws.specs.Brackets.{me_bracketed, spell_picked, me_picked, picked_reads, picked_exactly, picked_none, picked_none_more, bracketed_none, bracketed_open, bracketed_reads, brackets_mean_lem, no_more}
use Rattle.parser.proofs.Steps.{asks_moved, asks_put, loose_spent, done_is, done_moved, empty, none_join, join_then, join_empty, done_none}
use Rattle.parser.proofs.Picks.{none_moved}

-- ---- room behind a selector

-- a selector has a byte at least
selector_spends : (x : G.Selector) (r : List ℕ) → length r + 1 ≤ length (spell_selector x r)
selector_spends (name_selector t) r = omega (arith, text_shrinks t r, length-append (text_bytes t) r)
selector_spends wildcard_selector r = omega arith
selector_spends (slice_selector x) r = slice_spends x r
selector_spends (index_selector i) r = int_spends i r
selector_spends (filter_selector b e) r = omega (arith, length-append b.bytes (spell_logical_or e r), (sized_or e true r).pool 0)

-- there are no more of them than bytes
count_spends : (xs : G.Selectors) (r : List ℕ) → count_more xs + length r ≤ length (spell_selectors xs r)
unfolding count_more
count_spends no_selector r = omega arith
count_spends (more_selectors b c x xs) r =
    let h = count_spends xs r in
    let g = selector_spends x (spell_selectors xs r) in
    omega (arith, length-append b.bytes (0x2C ∷ (c.bytes ++ spell_selector x (spell_selectors xs r))), length-append c.bytes (spell_selector x (spell_selectors xs r)))

-- behind one that was read
pub asks_selector : {s P P' Q Q' : List ℕ} {a b : Cursor} {f : ℕ} → Asks 12 s P Q a → LooseRead spell_selector write_selector plain_flag 1 4 s P P' Q Q' a b f → Asks 0 s P' Q' b
asks_selector {s = s} {a = a} {b = b} st h =
    let v = loose_spent sized_selector h in
    let l = length-drop a.at s in
    let m = length-drop b.at s in
    let n = ap length h.eq in
    let o = selector_spends h.tree (drop b.at s) in
    asks_go st h.done h.from h.to h.utf8 (omega (arith, v.plan, st.text, h.to)) (omega (arith, v.pool))

-- ---- *( S "," S selector )

-- at the head of the loop: n selectors were read from a to b
pub record SelectorsLoop (s P P' Q Q' : List ℕ) (a b : Cursor) (n : ℕ) : Type 0 where
  pub effect : Effect
  pub left : Left {M = Effect × ℕ} (λ t. (write_selectors t a.pool, count_more t)) n b.pool (drop a.at s) (drop b.at s) (behind effect)
  pub done : Done P P' Q Q' a b effect
  pub from : a.at + n ≤ b.at
  pub start : Asks 0 s P' Q' b

pub selectors_start : {s P Q : List ℕ} {a : Cursor} → Asks 0 s P Q a → SelectorsLoop s P P Q Q a a 0
selectors_start {a = a} st =
    let h : (t : G.Selectors) → ◌≡◌ {A = Effect × ℕ} (write_selectors t a.pool, count_more t) (behind empty (me_selectors 0 a.pool t)) = λ t. ap (λ (n : ℕ). (write_selectors t a.pool, n)) (sym (zero-add (count_more t))) ∙ sym (none_join (me_selectors 0 a.pool t)) in
    record {
      effect = empty;
      left = record { fill = λ u. u; fwd = λ u r e. e; cod = h; bwd = λ t' r' m e. (t', r', e, refl, h t') };
      done = done_none;
      from = omega arith;
      start = st;
    }

no_selectors : (n p : ℕ) → me_selectors n p no_selector ≡ (empty, n)
unfolding write_selectors skip count_more
no_selectors n p =
    let e : n + 0 ≡ n = omega arith in
    ap (λ (k : ℕ). (empty, k)) e

module _ {s P P' Q Q' : List ℕ} {a b : Cursor} {n e : ℕ} (lp : SelectorsLoop s P P' Q Q' a b n) (k : Skipped s b.at e) where
  -- no comma stands there
  pub selectors_over : Is s e 0x2C false → LoosePost spell_selectors write_selectors count_more 0 5 s P P' Q Q' a (Ok (b, n))
  selectors_over h =
      let t = lp.left.fill no_selector in
      let o = left_end n b.pool (behind lp.effect) lp.left (λ l x. h l (k.rest ∙ x)) in
      let q : ◌≡◌ {A = Effect × ℕ} (write_selectors t a.pool, count_more t) (lp.effect, n) = lp.left.cod no_selector ∙ ap (behind lp.effect) (no_selectors n b.pool) ∙ ap (λ (y : Effect). (y, n)) (join_empty lp.effect) in
      let fl : n ≡ count_more t = sym (ap (λ (y : Effect × ℕ). y.1) q) in
      next {b = b} {f = n} (record {
        tree = t;
        eq = o.eq;
        same = o.same;
        rest = o.rest;
        exact = λ z t' r' m x.
            let u : t' ≡ no_selector = no_more t' (ap (λ (y : Effect × ℕ). y.1) (o.same t' r' m x) ∙ sym fl ∙ z) in
            let v : t ≡ no_selector = no_more t (sym fl ∙ z) in
            sym (x ∙ ap (λ (l : G.Selectors). spell_selectors l r') u) ∙ (o.eq ∙ ap (λ (l : G.Selectors). spell_selectors l (drop b.at s)) v);
        from = omega (arith, lp.from);
        to = lp.start.text;
        done = done_is (ap (λ (y : Effect × ℕ). y.0) q) lp.done;
        flag = fl;
        utf8 = lp.start.utf8;
      })

  module _ (h : Is s e 0x2C true) {e' : ℕ} (k' : Skipped s (e + 1) e') {d : Cursor} (m : Moved b d e') where
    -- a selector may be read behind it
    pub selectors_begin : Asks 12 s P' Q' d
    selectors_begin =
        let u : is_utf8 (drop e s) ≡ true = k.utf8 lp.start.utf8 in
        let v : is_utf8 (drop (e + 1) s) ≡ true = sym (utf8_ascii 0x2C (drop (e + 1) s) (omega arith)) ∙ ap is_utf8 (sym h.1) ∙ u in
        asks_moved lp.start m (omega (arith, k.from, k'.from)) k'.to (k'.utf8 v) (omega (arith, k.from, k'.from))

    comma : unblank (drop b.at s) ≡ 0x2C ∷ drop (e + 1) s
    comma = sym k.rest ∙ h.1

    -- there is none
    pub selectors_stop : {i : ℕ} {P₂ Q₂ : List ℕ} → ReadsNone spell_selector (After 4) (drop d.at s) → LoosePost spell_selectors write_selectors count_more 0 5 s P P₂ Q Q₂ a (Err i)
    selectors_stop x = stop (left_none n b.pool (behind lp.effect) lp.left comma (subst (ReadsNone spell_selector (After 4)) k'.rest (none_moved s b d m x)))

    -- one selector more
    pub selectors_again : {P'' Q'' : List ℕ} {c : Cursor} {g : ℕ} → LooseRead spell_selector write_selector plain_flag 1 4 s P' P'' Q' Q'' d c g → SelectorsLoop s P P'' Q Q'' a c (n + 1)
    selectors_again {P''} {Q''} {c = c} rd =
        let x = rd.tree in
        let w = write_selector x b.pool in
        let pl : d.pool ≡ b.pool = m.1.0.1 in
        let dn : Done P' P'' Q' Q'' b c w = done_moved m (subst (λ (z : ℕ). Done P' P'' Q' Q'' d c (write_selector x z)) pl rd.done) in
        let at : drop d.at s ≡ unblank (drop (e + 1) s) = ap (λ (z : ℕ). drop z s) m.0 ∙ k'.rest in
        let o : Loosely spell_selector (me_selector b.pool) (After 4) (drop d.at s) x (drop c.at s) = subst (λ (z : ℕ). Loosely spell_selector (me_selector z) (After 4) (drop d.at s) x (drop c.at s)) pl (record { eq = rd.eq; same = rd.same; rest = rd.rest }) in
        let y = left_more n b.pool (behind lp.effect) lp.left comma (subst (λ (l : List ℕ). Loosely spell_selector (me_selector b.pool) (After 4) l x (drop c.at s)) at o) in
        let z : Left {M = Effect × ℕ} (λ t. (write_selectors t a.pool, count_more t)) (n + 1) (b.pool + length w.pool) (drop a.at s) (drop c.at s) (behind (join lp.effect w)) = record {
          fill = y.fill;
          fwd = y.fwd;
          cod = λ u. y.cod u ∙ join_then lp.effect w (me_selectors (n + 1) (b.pool + length w.pool) u);
          bwd = λ t' r' f q. let v = y.bwd t' r' f q in (v.0, v.1, v.2, v.3, v.4 ∙ join_then lp.effect w (me_selectors (n + 1) (b.pool + length w.pool) v.0));
        } in
        record {
          effect = join lp.effect w;
          left = subst (λ (v : ℕ). Left {M = Effect × ℕ} (λ t. (write_selectors t a.pool, count_more t)) (n + 1) v (drop a.at s) (drop c.at s) (behind (join lp.effect w))) (sym dn.pool) z;
          done = done_then lp.done dn;
          from = omega (arith, lp.from, k.from, k'.from, m.0, rd.from);
          start = asks_selector selectors_begin rd;
        }

-- ---- "[" S selector *( S "," S selector ) S "]"

-- blanks that were skipped are none where the place did not move
skipped_empty : {s : List ℕ} {a r : ℕ} → a ≤ length s → Skipped s a r → eqb r a ≡ is_empty (split_blanks (drop a s)).0
unfolding is_empty
skipped_empty {s} {a} {r} h k =
    let b = split_blanks (drop a s) in
    let l = length-drop a s in
    let m = length-drop r s in
    let n = ap length k.rest in
    let o = ap length b.1 ∙ length-append b.0.bytes (unblank (drop a s)) in
    let g = k.from in
    let u = k.to in
    by_test (eqb r a)
    (λ t. let e = eqb-true r a t in t ∙ sym (eq-eqb (length b.0.bytes) 0 (omega arith)))
    (λ f. let e = eqb-false r a f in f ∙ sym (ne_eqb (length b.0.bytes) 0 (λ z. e (omega arith))))

counted_is : (kind c n : ℕ) (E : Effect) (p : ℕ) → c ≡ n → record { plan = kind ∷ (two (suc n) ++ E.plan); pool = E.pool; marks = E.marks } ≡ counted kind (c + 1) (λ p. E) p
unfolding counted
counted_is kind c n E p e =
    let f : suc n ≡ c + 1 = omega arith in
    ap (λ (k : ℕ). record { plan = kind ∷ (two k ++ E.plan); pool = E.pool; marks = E.marks }) f

-- what no bracket begins is no bracketed selection
pub brackets_none : {s P P' Q Q' : List ℕ} (kind : ℕ) {a : Cursor} {i : ℕ} → Is s a.at 0x5B false → Post spell_bracketed (write_selection kind) bracketed_flag 0 s P P' Q Q' a (Err i)
brackets_none {s} kind {a} n = stop (record { none = none })
  where
    none : (t' : G.Bracketed) (r' : List ℕ) → After 0 r' → drop a.at s ≡ spell_bracketed t' r' → ⊥
    none (bracketed b x xs c) r' f e = n _ e

module _ (kind : ℕ) {s P Q : List ℕ} {a d : Cursor} {e : ℕ} (st : Asks 0 s P Q a) (i : Is s a.at 0x5B true) (sk : Skipped s (a.at + 1) e) (mv : Moved a d e) where
  -- room for the kind and a count
  pub brackets_room : Asks 15 s P Q d
  brackets_room =
      let v : is_utf8 (drop (a.at + 1) s) ≡ true = sym (utf8_ascii 0x5B (drop (a.at + 1) s) (omega arith)) ∙ ap is_utf8 (sym i.1) ∙ st.utf8 in
      asks_moved st mv (omega (arith, sk.from)) sk.to (sk.utf8 v) (omega (arith, sk.from))

  module _ {P₁ : List ℕ} {h : Cursor} (op : Put P P₁ d h (kind ∷ 0 ∷ 0 ∷ [])) where
    -- a selector may be read
    pub brackets_begin : Asks 12 s P₁ Q h
    brackets_begin = asks_put brackets_room op (omega arith)

    at : drop h.at s ≡ unblank (drop (a.at + 1) s)
    at = ap (λ (z : ℕ). drop z s) (op.at ∙ mv.0) ∙ sk.rest

    pl : h.pool ≡ a.pool
    pl = op.pool ∙ mv.1.0.1

    -- there is none
    pub brackets_stop : {j : ℕ} {P' Q' : List ℕ} → ReadsNone spell_selector (After 4) (drop h.at s) → Post spell_bracketed (write_selection kind) bracketed_flag 0 s P P' Q Q' a (Err j)
    brackets_stop x = stop (bracketed_none kind a.pool i.1 (picked_none (subst (ReadsNone spell_selector (After 4)) at x)))

    module _ {P₂ Q₁ : List ℕ} {n : Cursor} {f : ℕ} (rd : LooseRead spell_selector write_selector plain_flag 1 4 s P₁ P₂ Q Q₁ h n f) where
      -- more selectors may be read
      pub brackets_more : Asks 0 s P₂ Q₁ n
      brackets_more = asks_selector brackets_begin rd

      first : Loosely spell_selector (me_selector a.pool) (After 4) (unblank (drop (a.at + 1) s)) rd.tree (drop n.at s)
      first = subst (λ (l : List ℕ). Loosely spell_selector (me_selector a.pool) (After 4) l rd.tree (drop n.at s)) at (subst (λ (z : ℕ). Loosely spell_selector (me_selector z) (After 4) (drop h.at s) rd.tree (drop n.at s)) pl (record { eq = rd.eq; same = rd.same; rest = rd.rest }))

      -- a comma with no selector behind it
      pub brackets_stop_more : {j : ℕ} {P' Q' : List ℕ} → ReadsNone spell_selectors (After 5) (drop n.at s) → Post spell_bracketed (write_selection kind) bracketed_flag 0 s P P' Q Q' a (Err j)
      brackets_stop_more x = stop (bracketed_none kind a.pool i.1 (picked_none_more a.pool first x))

      module _ {P₃ Q₂ : List ℕ} {m : Cursor} {c : ℕ} (rs : LooseRead spell_selectors write_selectors count_more 0 5 s P₂ P₃ Q₁ Q₂ n m c) where
        -- the pool behind the first selector
        pn : n.pool ≡ a.pool + length (write_selector rd.tree a.pool).pool
        pn = rd.done.pool ∙ (λ x. pl x + length (write_selector rd.tree (pl x)).pool)

        others : Loosely spell_selectors (me_selectors 0 (a.pool + length (write_selector rd.tree a.pool).pool)) (After 5) (drop n.at s) rs.tree (drop m.at s)
        others = subst (λ (z : ℕ). Loosely spell_selectors (me_selectors 0 z) (After 5) (drop n.at s) rs.tree (drop m.at s)) pn (record { eq = rs.eq; same = λ t' r' x q. ap (λ (y : Effect × ℕ). (y.0, 0 + y.1)) (rs.same t' r' x q); rest = rs.rest })

        all : Loosely spell_picked (me_picked a.pool) (After 5) (unblank (drop (a.at + 1) s)) (record { one = rd.tree; more = rs.tree }) (drop m.at s)
        all = picked_reads a.pool first others

        -- there are no more of them than bytes
        pub brackets_few : n.at + c ≤ m.at
        brackets_few =
            let l = length-drop n.at s in
            let k = length-drop m.at s in
            let x = ap length rs.eq in
            let y = count_spends rs.tree (drop m.at s) in
            omega (arith, rs.flag, rs.from, rs.to)

        -- plan and pool keep their lengths
        pub brackets_plan : length P₃ ≡ length P
        brackets_plan = done_plan rs.done ∙ done_plan rd.done ∙ ap length op.plan ∙ length-sets P d.len (kind ∷ 0 ∷ 0 ∷ [])

        pub brackets_pool : length Q₂ ≡ length Q
        brackets_pool = done_pool rs.done ∙ done_pool rd.done

        pub brackets_written : {k : ℕ} {x P₄ : List ℕ} → Wrote P₃ k x P₄ → length P₄ ≡ length P
        brackets_written {k} {x} w = ap length w.is ∙ length-sets P₃ k x ∙ brackets_plan

        module _ {e₂ : ℕ} (sk₂ : Skipped s m.at e₂) where
          -- the bracket is not closed
          pub brackets_open : {j : ℕ} {P' Q' : List ℕ} → Is s e₂ 0x5D false → Post spell_bracketed (write_selection kind) bracketed_flag 0 s P P' Q Q' a (Err j)
          brackets_open x = stop (bracketed_open kind a.pool i.1 all (λ l y. x l (sk₂.rest ∙ y)))

          inner : Done P₁ P₃ Q Q₂ h m (me_picked a.pool (record { one = rd.tree; more = rs.tree })).effect
          inner = done_is (λ x. join (write_selector rd.tree (sym pl x)) (write_selectors rs.tree (sym pn x))) (done_then rd.done rs.done)

          -- the place of the count lies in the plan
          pub brackets_length : a.len + 3 ≤ length P₃
          brackets_length =
              let x = brackets_room.plan in
              let y = ap length op.plan ∙ length-sets P d.len (kind ∷ 0 ∷ 0 ∷ []) in
              let z = done_plan inner in
              omega (arith, mv.1.0.0)

          pub brackets_read : {P₄ : List ℕ} {o : Cursor} {g : ℕ} → Is s e₂ 0x5D true → Wrote P₃ (a.len + 1) (two (c + 1)) P₄ → Moved m o (e₂ + 1) → g ≡ brackets_number f c (eqb e (a.at + 1)) (eqb e₂ m.at) → Post spell_bracketed (write_selection kind) bracketed_flag 0 s P P₄ Q Q₂ a (Ok (o, g))
          brackets_read {P₄} {o} {g} j w mo q =
              let x = rd.tree in
              let xs = rs.tree in
              let b0 = (split_blanks (drop (a.at + 1) s)).0 in
              let b1 = (split_blanks (drop m.at s)).0 in
              let E = (me_picked a.pool (record { one = x; more = xs })).effect in
              let cl : unblank (drop m.at s) ≡ 0x5D ∷ drop (e₂ + 1) s = sym sk₂.rest ∙ j.1 in
              let ex : plain_flag x ≡ 1 → count_more xs ≡ 0 → Exactly spell_picked (After 5) (unblank (drop (a.at + 1) s)) (drop m.at s) = λ y z. picked_exactly a.pool first others (λ t' r' u v. rd.exact (rd.flag ∙ y) t' r' u (at ∙ v)) z in
              let cd : Done P P₄ Q Q₂ a m (counted kind (c + 1) (λ p. E) a.pool) = done_moved mv (subst (λ (z : ℕ). Done P P₄ Q Q₂ d m (counted kind (c + 1) (λ p. E) z)) mv.1.0.1 (done_counted kind (c + 1) (λ p. E) op inner (subst (λ (z : ℕ). Wrote P₃ (z + 1) (two (c + 1)) P₄) (sym mv.1.0.0) w))) in
              let me = brackets_mean_lem kind a.pool b0 x xs b1 in
              let k0 : eqb e (a.at + 1) ≡ is_empty b0 = skipped_empty i.0 sk in
              let k1 : eqb e₂ m.at ≡ is_empty b1 = skipped_empty rs.to sk₂ in
              let u : is_utf8 (drop (e₂ + 1) s) ≡ true = sym (utf8_ascii 0x5D (drop (e₂ + 1) s) (omega arith)) ∙ ap is_utf8 (sym j.1) ∙ sk₂.utf8 rs.utf8 in
              next {b = o} {f = g} (record {
                tree = bracketed b0 x xs b1;
                reads = subst (λ (z : ℕ). Reads spell_bracketed (me_bracketed kind a.pool) (After 0) (drop a.at s) (bracketed b0 x xs b1) (drop z s)) (sym mo.0) (bracketed_reads kind a.pool i.1 all cl ex);
                from = omega (arith, sk.from, mv.0, op.at, rd.from, rs.from, sk₂.from, mo.0);
                to = omega (arith, mo.0, j.0);
                done = moved_done (done_is (ap (λ (y : Effect × ℕ). y.0) me ∙ counted_is kind c (count_more xs) E a.pool rs.flag) cd) mo;
                flag = q ∙ (λ y. brackets_number (rd.flag y) (rs.flag y) (k0 y) (k1 y)) ∙ sym (ap (λ (y : Effect × ℕ). y.1) me);
                utf8 = subst (λ (z : ℕ). is_utf8 (drop z s) ≡ true) (sym mo.0) u;
              })
