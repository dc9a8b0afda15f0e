-- The laws of the reader's functions for `&&` and `||`: what a function asks and ensures, from what its callees ensure. Assumes nothing.
use Rattle.std.specs.Prelude.{Ok, Err}
use mathlib.Core.Path.{◌≡◌, refl, sym, ap, subst, ◌∙◌}
use mathlib.Core.Bool.{Bool, true, false}
use mathlib.Core.List.{List, [], ◌∷◌}
use Prim.Native.Nat.{ℕ, zero, suc, ◌+◌, ◌-◌, ◌^◌, ◌≤◌, ◌<◌}
use native.Mathlib.Omega.{arith}
use borrow.Author.Tests.{leb-true}
use lib.Dec.{eqb, leb, lit≤}
use lib.ListN.{length, drop, get_or, length-drop}
use lib.Seq.{length-sets}
use Rattle.definition.specs.Utf8.{is_utf8}
use Rattle.definition.specs.Plans.{two}
use Rattle.definition.specs.Grammar as G
use Rattle.definition.specs.Grammar.{spell_logical_or, spell_more_or, spell_logical_and, spell_more_and, spell_basic, spell_arguments}
use Rattle.definition.specs.Grammar.LogicalOr.{logical_or}
use Rattle.definition.specs.Grammar.LogicalAnd.{logical_and}
use Rattle.definition.specs.Grammar.MoreOr.{no_or}
use Rattle.definition.specs.Grammar.MoreAnd.{no_and}
use Rattle.compile_writes.specs.Laws.{effect_assoc}
use Rattle.basics.specs.Lists.{drop_at}
use Rattle.basics.specs.Reads.{Reads, ReadsNone, Wrote}
use Rattle.utf8_laws.specs.Bytes.{by_test}
use Rattle.utf8_laws.specs.Encode.{utf8_ascii}
use Rattle.compile_writes.specs.Effects.{Marks, join_marks, Effect, Writer, join, skip}
use Rattle.compile_writes.specs.Sorts.{Sort, sort_more_or, sort_more_and, sort_or_lem, sort_and_lem, sort_basic, sorts_of, compared_verdict}
use Rattle.compile_writes.specs.Writes.{write_or_lem, write_more_or, write_and_lem, write_more_and, write_basic, test_tail}
use Rattle.compile_writes.specs.Sizes.{sized_basic, sized_and, test_tail_lem}
use Rattle.parser_follow.specs.Follow.{unblank, After}
use Rattle.parser_follow.specs.Numbers.{arguments_from, sort_small}
use Rattle.parser_scan.specs.Text.{Skipped, Is, Both}
use Rattle.parser_items.specs.Reads.{marks_of, Asks, Done, Read, Post, Put, Opens, Room, Known, sort_number, sort_of, one_more_lem, next, stop}
use Rattle.parser_items.specs.Laws.{Moved, done_then, done_plan, asks_less}
use Rattle.parser_items.specs.declared.Cursor.{Cursor}
use Rattle.parser_items.specs.Reads.{Step}
use Rattle.parser_laws.specs.Joins.{plain, marked, within}
use Rattle.parser_laws.specs.Sorted.{sort_of_lem}
use Rattle.parser_laws.specs.And.{me_basic, me_and, me_more_and, and_reads, and_none_rest, write_and, sort_and}
use Rattle.parser_laws.specs.Or.{me_more_or, or_reads, or_none_rest, write_or, sort_or}
use Rattle.parser_laws.specs.MoreAnd.{ands, and_does}
use Rattle.parser_laws.specs.MoreOr.{ors, or_does}
use Rattle.parser.proofs.Steps.{asks_moved, asks_put, asks_read, done_is, done_moved, Loop, loop_start, loop_more, loop_end, loop_none, put_plain, judged_marked, done_within, empty}

-- ---- room

-- there is the room that a function may start with
pub room : (n : ℕ) {x : ℕ} {s P L : List ℕ} {a : Cursor} → n ≤ x → Asks x s P L a → Room n P a
room n h st = omega (arith, st.plan)

-- ---- numbers of sorts

-- a sort's number is a flag that is known
pub small_known : {f : ℕ} → f ≤ 4 → Known f
small_known h = record { small = omega arith }

module _ {T : Type 0} {sp : T → List ℕ → List ℕ} {w : T → Writer} (g : T → Sort) {k : ℕ} {s P P' L L' : List ℕ} {a b : Cursor} {f : ℕ} where
  -- what is told of a tree by its sort is a sort's number
  pub read_small : Read sp w (λ t. sort_number (g t)) k s P P' L L' a b f → f ≤ 4
  read_small h = subst (λ (n : ℕ). n ≤ 4) (sym h.flag) (sort_small (g h.tree))

  pub read_known : Read sp w (λ t. sort_number (g t)) k s P P' L L' a b f → Known f
  read_known h = small_known (read_small h)

  -- the number tells the sort
  pub read_sort : (h : Read sp w (λ t. sort_number (g t)) k s P P' L L' a b f) → sort_of f ≡ g h.tree
  read_sort h = ap sort_of h.flag ∙ sort_of_lem (g h.tree)

-- a number up to 4 is that of its sort
pub number_sort : (n : ℕ) → n ≤ 4 → sort_number (sort_of n) ≡ n
number_sort zero h = refl
number_sort (suc zero) h = refl
number_sort (suc (suc zero)) h = refl
number_sort (suc (suc (suc zero))) h = refl
number_sort (suc (suc (suc (suc zero)))) h = refl
number_sort (suc (suc (suc (suc (suc n))))) h = absurd (omega arith)

-- one argument more keeps the number of the arguments' sorts small
one_more_small : (n s : ℕ) → s ≤ 4 → one_more_lem n s ≤ 31
one_more_small n s h = by_test (eqb n 0) (λ t. rw t (omega arith)) (λ f. rw f (by_test (leb n 5) (λ t. let k = leb-true n 5 t in rw t (omega arith)) (λ g. rw g (omega arith))))

arguments_from_lem : (n : ℕ) (ss : List Sort) → n ≤ 31 → arguments_from n ss ≤ 31
unfolding arguments_from
arguments_from_lem n [] h = h
arguments_from_lem n (s ∷ ss) h = arguments_from_lem (one_more_lem n (sort_number s)) ss (one_more_small n (sort_number s) (sort_small s))

-- what is told of arguments is at most 31
pub arguments_small : {w : G.Arguments → Writer} {k : ℕ} {s P P' L L' : List ℕ} {a b : Cursor} {f : ℕ} → Read spell_arguments w (λ t. arguments_from 0 (sorts_of t)) k s P P' L L' a b f → f ≤ 31
arguments_small h = subst (λ (n : ℕ). n ≤ 31) (sym h.flag) (arguments_from_lem 0 (sorts_of h.tree) (lit≤ tt))

-- ---- bytes that were passed over

-- behind an ASCII byte the text is UTF-8 still
pub utf8_is : (c a : ℕ) (s : List ℕ) → c < 0x80 → Is s a c true → is_utf8 (drop a s) ≡ true → is_utf8 (drop (a + 1) s) ≡ true
utf8_is c a s h i u = sym (utf8_ascii c (drop (a + 1) s) h) ∙ ap is_utf8 (sym i.1) ∙ u

pub utf8_both : (c d a : ℕ) (s : List ℕ) → c < 0x80 → d < 0x80 → Both s a c d true → is_utf8 (drop a s) ≡ true → is_utf8 (drop (a + 2) s) ≡ true
utf8_both c d a s h g i u = sym (utf8_ascii d (drop (a + 2) s) g) ∙ sym (utf8_ascii c (d ∷ drop (a + 2) s) h) ∙ ap is_utf8 (sym i.1) ∙ u

-- the byte at the cursor's place, with the place behind it
pub opens_is : {x : ℕ} {s : List ℕ} {a : Cursor} → Opens x s a → Is s a.at x true
opens_is {x} {s} {a} o =
    let h : a.at < length s = omega (arith, sym (length-drop a.at s) ∙ ap length o.is) in
    let e : get_or s a.at 0 ∷ drop (a.at + 1) s ≡ x ∷ o.rest = sym (drop_at s a.at h) ∙ o.is in
    let q : get_or s a.at 0 ≡ x = cc in
    (omega arith, drop_at s a.at h ∙ ap (λ (n : ℕ). n ∷ drop (a.at + 1) s) q)

-- ---- cursors that differ in marks, or in bytes that were there

-- what `judged` ensures of the place
abbrev pub Stays : Cursor → Cursor → Type 0
Stays a b = (b.at ≡ a.at) × (b.len ≡ a.len) × (b.pool ≡ a.pool)

pub asks_judged : {x : ℕ} {s P L : List ℕ} {a b : Cursor} → Asks x s P L a → Stays a b → Asks x s P L b
asks_judged {s = s} st j = record {
  text = omega (arith, st.text, j.0);
  plan = omega (arith, st.plan, j.0, j.1);
  pool = omega (arith, st.pool, j.0, j.2);
  small = st.small;
  small_pool = st.small_pool;
  utf8 = subst (λ (n : ℕ). is_utf8 (drop n s) ≡ true) (sym j.0) st.utf8;
}

asks_wrote : {x n : ℕ} {s P P' L c : List ℕ} {a : Cursor} → Asks x s P L a → Wrote P n c P' → Asks x s P' L a
asks_wrote {n = n} {P = P} {c = c} st w =
    let l = ap length w.is ∙ length-sets P n c in
    record { text = st.text; plan = omega (arith, st.plan); pool = st.pool; small = omega (arith, st.small); small_pool = st.small_pool; utf8 = st.utf8 }

-- ---- an operator of two bytes, the tail of the operand before it, and the head of the frame for the operand behind it

-- Between the cursor now, behind an operand, and the cursor head, at the next one, `x x` was passed over and `tail` and the frame's head were written; left is the cursor before the frame.
pub record Ready (x code : ℕ) (tail s P P₁ P₂ L : List ℕ) (now left head : Cursor) : Type 0 where
  pub rest : List ℕ
  pub sep : unblank (drop now.at s) ≡ x ∷ x ∷ rest
  pub here : drop head.at s ≡ unblank rest
  pub from : now.at + 2 ≤ head.at
  pub pool : head.pool ≡ now.pool
  pub tailed : Done P P₁ L L now left (plain tail)
  pub framed : Put P₁ P₂ left head (code ∷ 0 ∷ 0 ∷ [])
  pub start : Asks 24 s P₂ L head

-- behind the operator there is room for 30 bytes more than is kept for what is unread
pub asks_operator : (x : ℕ) {a b : ℕ} {s P L : List ℕ} {now mv : Cursor} → x < 0x80 → Asks 0 s P L now → Skipped s now.at a → Both s a x x true → Skipped s (a + 2) b → Moved now mv b → Asks 30 s P L mv
asks_operator x {a} {b} {s} h st k i j m =
    asks_moved st m (omega (arith, k.from, j.from)) j.to (j.utf8 (utf8_both x x a s h h i (k.utf8 st.utf8))) (omega (arith, k.from, j.from))

-- and so behind the tail
pub asks_tailed : {s P P' L : List ℕ} {a b : Cursor} (σ : Sort) {x : ℕ} → Asks (x + 3) s P L a → Put P P' a b (test_tail σ) → Asks x s P' L b
asks_tailed σ st p = asks_put st p (omega (arith, test_tail_lem σ))

pub ready : (x : ℕ) (σ : Sort) {code a b : ℕ} {s P P₁ P₂ L : List ℕ} {now mv left hd : Cursor} → x < 0x80 → Asks 0 s P L now → Skipped s now.at a → Both s a x x true → Skipped s (a + 2) b → Moved now mv b
    → Put P P₁ mv left (test_tail σ) → Put P₁ P₂ left hd (code ∷ 0 ∷ 0 ∷ []) → Ready x code (test_tail σ) s P P₁ P₂ L now left hd
ready x σ {a = a} {s = s} {mv = mv} {left = left} {hd = hd} h st k i j m p q =
    let at : hd.at ≡ mv.at = q.at ∙ p.at in
    record {
      rest = drop (a + 2) s;
      sep = sym k.rest ∙ i.1;
      here = ap (λ (n : ℕ). drop n s) (at ∙ m.0) ∙ j.rest;
      from = omega (arith, k.from, j.from, m.0);
      pool = q.pool ∙ p.pool ∙ m.1.0.1;
      tailed = done_moved m (put_plain p);
      framed = q;
      start = asks_put (asks_tailed σ {x = 27} (asks_operator x h st k i j m) p) q (lit≤ tt);
    }

-- a frame that is open at the end of a plan: its head stands at left, and m is behind what it holds
pub record Framed (P : List ℕ) (left m : Cursor) : Type 0 where
  pub above : left.len + 3 ≤ m.len
  pub fits : m.len ≤ length P
  pub small : length P < 65536

module _ {P : List ℕ} {left m : Cursor} (h : Framed P left m) where
  -- the sums and differences that give the frame's length and the place for it
  pub framed_place : left.len + 1 < 2 ^ 64
  framed_place = omega (arith, h.above, h.fits, h.small)

  pub framed_order : left.len ≤ m.len
  framed_order = omega (arith, h.above)

  pub framed_length : 3 ≤ m.len - left.len
  framed_length = omega (arith, h.above)

  pub framed_room : left.len + 1 + 2 ≤ length P
  framed_room = omega (arith, h.above, h.fits)

module _ {x code : ℕ} {tail s P P₁ P₂ L : List ℕ} {now left hd : Cursor} (r : Ready x code tail s P P₁ P₂ L now left hd) where
  -- what the operand behind the operator writes, with its tail, stands in the frame
  framed_done : {P₃ P₄ P₅ L' tail' : List ℕ} {n m : Cursor} {e : Effect} → Done P₂ P₃ L L' hd n e → Put P₃ P₄ n m tail' → Wrote P₄ (left.len + 1) (two (m.len - left.len - 3)) P₅
      → Done P P₅ L L' now m (join (plain tail) (within code (join e (plain tail'))))
  framed_done d p w =
      let g = done_then d (put_plain p) in
      done_then r.tailed (done_within code r.framed g (omega (arith, g.len, r.framed.len)) w)

  -- the operand behind the operator, as it is read from the cursor before the operator
  ready_reads : {T : Type 0} {sp : T → List ℕ → List ℕ} {w : T → Writer} {fl : T → ℕ} {k f : ℕ} {P₃ L' : List ℕ} {n : Cursor} (o : Cursor) → o.at ≡ n.at → (h : Read sp w fl k s P₂ P₃ L L' hd n f)
      → Reads {M = Effect × ℕ} sp (λ t. (w t now.pool, fl t)) (After k) (unblank r.rest) h.tree (drop o.at s)
  ready_reads {sp = sp} {w = w} {fl = fl} {k = k} {n = n} o e h =
      subst (λ (c : ℕ). Reads {M = Effect × ℕ} sp (λ t. (w t now.pool, fl t)) (After k) (unblank r.rest) h.tree (drop c s)) (sym e)
      (subst (λ (l : List ℕ). Reads {M = Effect × ℕ} sp (λ t. (w t now.pool, fl t)) (After k) l h.tree (drop n.at s)) r.here
      (subst (λ (c : ℕ). Reads {M = Effect × ℕ} sp (λ t. (w t c, fl t)) (After k) (drop hd.at s) h.tree (drop n.at s)) r.pool h.reads))

  -- the plan is as long as it was
  pub ready_plan : length P₂ ≡ length P
  ready_plan = ap length r.framed.plan ∙ length-sets P₁ left.len (code ∷ 0 ∷ 0 ∷ []) ∙ done_plan r.tailed

  -- behind the operand less is unread
  pub ready_less : {T : Type 0} {sp : T → List ℕ → List ℕ} {w : T → Writer} {fl : T → ℕ} {k f : ℕ} {P₃ L' : List ℕ} {n : Cursor} (o : Cursor) → o.at ≡ n.at → Read sp w fl k s P₂ P₃ L L' hd n f → length s - o.at < length s - now.at
  ready_less o e h = omega (arith, r.from, h.from, h.to)

  -- the frame's two bytes stand below what was written behind them, and the plan is short
  pub framed_fits : {T : Type 0} {sp : T → List ℕ → List ℕ} {w : T → Writer} {fl : T → ℕ} {k f y : ℕ} {P₃ P₄ L' tail' : List ℕ} {n m : Cursor} → Read sp w fl k s P₂ P₃ L L' hd n f → Put P₃ P₄ n m tail' → Asks y s P₄ L' m → Framed P₄ left m
  framed_fits h p st = record { above = omega (arith, r.framed.len, h.done.len, p.len); fits = omega (arith, st.plan); small = st.small }

-- a verdict alone
abbrev pub judgement : ℕ → Marks
judgement v = record { verdict = v; beyond = false }

-- ---- *( S "&&" S basic-expr )

and_ends : (a : Bool) (σ : Sort) (p f : ℕ) → sort_number σ ≡ f → me_more_and σ a p no_and ≡ (empty, f)
unfolding write_more_and sort_more_and skip
and_ends a σ p f e = ap (λ (n : ℕ). (empty, n)) e

-- what is known at the head of the loop
pub record AndLoop (sort : ℕ) (asked : Bool) (s P P' Q Q' : List ℕ) (a b : Cursor) (kind : ℕ) : Type 0 where
  pub loop : Loop spell_more_and (λ t. write_more_and t (sort_of sort) asked) (λ t. sort_number (sort_more_and t (sort_of sort))) (λ σ p. me_more_and σ asked p) 3 s P P' Q Q' a b (sort_of kind)
  pub small : kind ≤ 4

pub and_loop : {s P Q : List ℕ} {a : Cursor} (sort : ℕ) (asked : Bool) → sort ≤ 4 → Asks 0 s P Q a → AndLoop sort asked s P P Q Q a a sort
and_loop sort asked h st = record { loop = loop_start (sort_of sort) (λ t. refl) st; small = h }

module _ {sort kind : ℕ} {asked : Bool} {s P P' Q Q' : List ℕ} {a b : Cursor} (lp : AndLoop sort asked s P P' Q Q' a b kind) where
  abbrev AndPost : Step → List ℕ → List ℕ → Type 0
  AndPost r P'' Q'' = Post spell_more_and (λ t. write_more_and t (sort_of sort) asked) (λ t. sort_number (sort_more_and t (sort_of sort))) 3 s P P'' Q Q'' a r

  -- no operator stands there
  pub and_end : {e : ℕ} → Skipped s b.at e → Both s e 0x26 0x26 false → AndPost (Ok (b, kind)) P' Q'
  unfolding ands
  and_end k n = next {b = b} {f = kind} (loop_end (ands asked) lp.loop (λ s₁ e. n s₁ (k.rest ∙ e)) (and_ends asked (sort_of kind) b.pool kind (number_sort kind lp.small)))

  module _ {P₁ P₂ : List ℕ} {left hd : Cursor} (r : Ready 0x26 22 (test_tail (sort_of kind)) s P' P₁ P₂ Q' b left hd) where
    -- an operator with no operand behind it
    pub and_stop : {i : ℕ} {P'' Q'' : List ℕ} → ReadsNone spell_basic (After 2) (drop hd.at s) → AndPost (Err i) P'' Q''
    unfolding ands
    and_stop n = stop (loop_none (ands asked) lp.loop r.sep (subst (ReadsNone spell_basic (After 2)) r.here n))

    -- behind the operand there is room for its tail
    pub and_behind : {f : ℕ} {P₃ L' : List ℕ} {n : Cursor} → Read spell_basic write_basic (λ t. sort_number (sort_basic t)) 2 s P₂ P₃ Q' L' hd n f → Asks 27 s P₃ L' n
    and_behind h = asks_read sized_basic r.start h (lit≤ tt)

    -- and the frame is open
    pub and_framed : {f : ℕ} {P₃ P₄ L' : List ℕ} {n m : Cursor} → Read spell_basic write_basic (λ t. sort_number (sort_basic t)) 2 s P₂ P₃ Q' L' hd n f → Put P₃ P₄ n m (test_tail (sort_of f)) → Framed P₄ left m
    and_framed {f} h p = framed_fits r h p (asks_tailed (sort_of f) {x = 24} (and_behind h) p)

    -- one operand more
    pub and_more : {v f : ℕ} {P₃ P₄ P₅ L' : List ℕ} {n m o : Cursor} → Read spell_basic write_basic (λ t. sort_number (sort_basic t)) 2 s P₂ P₃ Q' L' hd n f → Put P₃ P₄ n m (test_tail (sort_of f))
        → Wrote P₄ (left.len + 1) (two (m.len - left.len - 3)) P₅ → Stays m o → marks_of o ≡ join_marks (marks_of m) (judgement v) → v ≡ compared_verdict asked (sort_of f) → AndLoop sort asked s P P₅ Q L' a o 4
    unfolding ands
    and_more {v = v} {f = f} {P₄ = P₄} {P₅ = P₅} {L' = L'} {n = n} {m = m} {o = o} h p w j k e =
        let i : G.Basic = h.tree in
        let d = framed_done r h.done p w in
        let g : Done P' P₅ Q' L' b o (join (plain (test_tail (sort_of kind))) (join (within 22 (join (write_basic i hd.pool) (plain (test_tail (sort_of f))))) (marked (judgement v)))) =
        done_is (sym (effect_assoc (plain (test_tail (sort_of kind))) (within 22 (join (write_basic i hd.pool) (plain (test_tail (sort_of f))))) (marked (judgement v)))) (done_then d (judged_marked (judgement v) j k)) in
        let q : and_does asked (sort_of kind) (me_basic b.pool i) ≡ join (plain (test_tail (sort_of kind))) (join (within 22 (join (write_basic i hd.pool) (plain (test_tail (sort_of f))))) (marked (judgement v))) =
        rw (e, h.flag, r.pool) refl in
        let s₁ : Asks 24 s P₄ L' m = asks_tailed (sort_of f) (and_behind h) p in
        record {
          loop = loop_more (ands asked) lp.loop r.sep (ready_reads r o (j.0 ∙ p.at) h)
              (done_is q g) (omega (arith, r.from, h.from, p.at, j.0)) (asks_less (lit≤ tt) (asks_judged (asks_wrote s₁ w) j));
          small = lit≤ tt;
        }

-- ---- *( S "||" S logical-and-expr )

or_ends : (a : Bool) (σ : Sort) (p f : ℕ) → sort_number σ ≡ f → me_more_or σ a p no_or ≡ (empty, f)
unfolding write_more_or sort_more_or skip
or_ends a σ p f e = ap (λ (n : ℕ). (empty, n)) e

-- what is known at the head of the loop
pub record OrLoop (sort : ℕ) (asked : Bool) (s P P' Q Q' : List ℕ) (a b : Cursor) (kind : ℕ) : Type 0 where
  pub loop : Loop spell_more_or (λ t. write_more_or t (sort_of sort) asked) (λ t. sort_number (sort_more_or t (sort_of sort))) (λ σ p. me_more_or σ asked p) 4 s P P' Q Q' a b (sort_of kind)
  pub small : kind ≤ 4

pub or_loop : {s P Q : List ℕ} {a : Cursor} (sort : ℕ) (asked : Bool) → sort ≤ 4 → Asks 0 s P Q a → OrLoop sort asked s P P Q Q a a sort
or_loop sort asked h st = record { loop = loop_start (sort_of sort) (λ t. refl) st; small = h }

module _ {sort kind : ℕ} {asked : Bool} {s P P' Q Q' : List ℕ} {a b : Cursor} (lp : OrLoop sort asked s P P' Q Q' a b kind) where
  abbrev OrPost : Step → List ℕ → List ℕ → Type 0
  OrPost r P'' Q'' = Post spell_more_or (λ t. write_more_or t (sort_of sort) asked) (λ t. sort_number (sort_more_or t (sort_of sort))) 4 s P P'' Q Q'' a r

  -- no operator stands there
  pub or_end : {e : ℕ} → Skipped s b.at e → Both s e 0x7C 0x7C false → OrPost (Ok (b, kind)) P' Q'
  unfolding ors
  or_end k n = next {b = b} {f = kind} (loop_end (ors asked) lp.loop (λ s₁ e. n s₁ (k.rest ∙ e)) (or_ends asked (sort_of kind) b.pool kind (number_sort kind lp.small)))

  module _ {P₁ P₂ : List ℕ} {left hd : Cursor} (r : Ready 0x7C 23 (test_tail (sort_of kind)) s P' P₁ P₂ Q' b left hd) where
    -- an operator with no operand behind it
    pub or_stop : {i : ℕ} {P'' Q'' : List ℕ} → ReadsNone spell_logical_and (After 3) (drop hd.at s) → OrPost (Err i) P'' Q''
    unfolding ors
    or_stop n = stop (loop_none (ors asked) lp.loop r.sep (subst (ReadsNone spell_logical_and (After 3)) r.here n))

    -- behind the operand there is room for its tail
    pub or_behind : {f : ℕ} {P₃ L' : List ℕ} {n : Cursor} → Read spell_logical_and (λ t. write_and_lem t asked) (λ t. sort_number (sort_and_lem t)) 3 s P₂ P₃ Q' L' hd n f → Asks 27 s P₃ L' n
    or_behind h = asks_read (λ t l. sized_and t asked l) r.start h (lit≤ tt)

    -- and the frame is open
    pub or_framed : {f : ℕ} {P₃ P₄ L' : List ℕ} {n m : Cursor} → Read spell_logical_and (λ t. write_and_lem t asked) (λ t. sort_number (sort_and_lem t)) 3 s P₂ P₃ Q' L' hd n f → Put P₃ P₄ n m (test_tail (sort_of f)) → Framed P₄ left m
    or_framed {f} h p = framed_fits r h p (asks_tailed (sort_of f) {x = 24} (or_behind h) p)

    -- one operand more
    pub or_more : {f : ℕ} {P₃ P₄ P₅ L' : List ℕ} {n m : Cursor} → Read spell_logical_and (λ t. write_and_lem t asked) (λ t. sort_number (sort_and_lem t)) 3 s P₂ P₃ Q' L' hd n f → Put P₃ P₄ n m (test_tail (sort_of f))
        → Wrote P₄ (left.len + 1) (two (m.len - left.len - 3)) P₅ → OrLoop sort asked s P P₅ Q L' a m 4
    unfolding ors
    or_more {f = f} {P₄ = P₄} {L' = L'} {m = m} h p w =
        let i : G.LogicalAnd = h.tree in
        let q : or_does (sort_of kind) (me_and asked b.pool i) ≡ join (plain (test_tail (sort_of kind))) (within 23 (join (write_and_lem i asked hd.pool) (plain (test_tail (sort_of f))))) = rw (h.flag, r.pool) refl in
        let s₁ : Asks 24 s P₄ L' m = asks_tailed (sort_of f) (or_behind h) p in
        record {
          loop = loop_more (ors asked) lp.loop r.sep (ready_reads r m p.at h) (done_is q (framed_done r h.done p w)) (omega (arith, r.from, h.from, p.at)) (asks_less (lit≤ tt) (asks_wrote s₁ w));
          small = lit≤ tt;
        }

-- ---- logical-and-expr

module _ {s P P' L L' : List ℕ} {a n : Cursor} {f : ℕ} (h : Read spell_basic write_basic (λ t. sort_number (sort_basic t)) 2 s P P' L L' a n f) where
  -- behind the first operand
  pub asks_operand : {o : Cursor} → Asks 0 s P L a → Stays n o → Asks 0 s P' L' o
  asks_operand st j = asks_judged (asks_read sized_basic st h (lit≤ tt)) j

  -- the first operand with its verdict, and the chain behind it
  pub and_post : (asked : Bool) {v : ℕ} {P'' L'' : List ℕ} {o : Cursor} {r : Step} → v ≡ compared_verdict asked (sort_of f) → Stays n o → marks_of o ≡ join_marks (marks_of n) (judgement v)
      → Post spell_more_and (λ t. write_more_and t (sort_of f) asked) (λ t. sort_number (sort_more_and t (sort_of f))) 3 s P' P'' L' L'' o r → Post spell_logical_and (λ t. write_and_lem t asked) (λ t. sort_number (sort_and_lem t)) 3 s P P'' L L'' a r
  and_post asked e j k (stop q) = stop (and_none_rest a.pool h.reads (subst (λ (c : ℕ). ReadsNone spell_more_and (After 3) (drop c s)) j.0 q))
  and_post asked {v} {P''} {L''} {o} e j k (next {b = b} {f = g} q) =
      let x : G.Basic = h.tree in
      let p : o.pool ≡ a.pool + length (write_basic x a.pool).pool = j.2 ∙ h.done.pool in
      let σ : sort_of f ≡ sort_basic x = read_sort sort_basic h in
      let q' : Read spell_more_and (λ t. write_more_and t (sort_basic x) asked) (λ t. sort_number (sort_more_and t (sort_basic x))) 3 s P' P'' L' L'' o b g =
      subst (λ (z : Sort). Read spell_more_and (λ t. write_more_and t z asked) (λ t. sort_number (sort_more_and t z)) 3 s P' P'' L' L'' o b g) σ q in
      let u : G.MoreAnd = q'.tree in
      let d : Done P' P'' L' L'' o b (write_more_and u (sort_basic x) asked (a.pool + length (write_basic x a.pool).pool)) = subst (λ (c : ℕ). Done P' P'' L' L'' o b (write_more_and u (sort_basic x) asked c)) p q'.done in
      let w : v ≡ compared_verdict asked (sort_basic x) = e ∙ ap (compared_verdict asked) σ in
      next {b = b} {f = g} (record {
        tree = logical_and x u;
        reads = and_reads asked a.pool h.reads
            (subst (λ (c : ℕ). Reads spell_more_and (me_more_and (sort_basic x) asked c) (After 3) (drop n.at s) u (drop b.at s)) p (subst (λ (c : ℕ). Reads spell_more_and (me_more_and (sort_basic x) asked o.pool) (After 3) (drop c s) u (drop b.at s)) j.0 q'.reads));
        from = omega (arith, h.from, q'.from, j.0);
        to = q'.to;
        done = done_is (write_and asked a.pool x u) (done_then h.done (done_then (judged_marked (judgement (compared_verdict asked (sort_basic x))) j (k ∙ ap (λ (z : ℕ). join_marks (marks_of n) (judgement z)) w)) d));
        flag = q'.flag ∙ ap sort_number (sym (sort_and x u));
        utf8 = q'.utf8;
      })

-- ---- logical-or-expr

module _ (asked : Bool) {s P P' L L' : List ℕ} {a n : Cursor} {f : ℕ} (h : Read spell_logical_and (λ t. write_and_lem t asked) (λ t. sort_number (sort_and_lem t)) 3 s P P' L L' a n f) where
  -- behind the first operand
  pub asks_chain : Asks 0 s P L a → Asks 0 s P' L' n
  asks_chain st = asks_read (λ t l. sized_and t asked l) st h (lit≤ tt)

  -- the first operand and the chain behind it
  pub or_post : {P'' L'' : List ℕ} {r : Step} → Post spell_more_or (λ t. write_more_or t (sort_of f) asked) (λ t. sort_number (sort_more_or t (sort_of f))) 4 s P' P'' L' L'' n r → Post spell_logical_or (λ t. write_or_lem t asked) (λ t. sort_number (sort_or_lem t)) 4 s P P'' L L'' a r
  or_post (stop q) = stop (or_none_rest asked a.pool h.reads q)
  or_post {P''} {L''} (next {b = b} {f = g} q) =
      let x : G.LogicalAnd = h.tree in
      let p : n.pool ≡ a.pool + length (write_and_lem x asked a.pool).pool = h.done.pool in
      let q' : Read spell_more_or (λ t. write_more_or t (sort_and_lem x) asked) (λ t. sort_number (sort_more_or t (sort_and_lem x))) 4 s P' P'' L' L'' n b g =
      subst (λ (z : Sort). Read spell_more_or (λ t. write_more_or t z asked) (λ t. sort_number (sort_more_or t z)) 4 s P' P'' L' L'' n b g) (read_sort sort_and_lem h) q in
      let u : G.MoreOr = q'.tree in
      next {b = b} {f = g} (record {
        tree = logical_or x u;
        reads = or_reads asked a.pool h.reads (subst (λ (c : ℕ). Reads spell_more_or (me_more_or (sort_and_lem x) asked c) (After 4) (drop n.at s) u (drop b.at s)) p q'.reads);
        from = omega (arith, h.from, q'.from);
        to = q'.to;
        done = done_is (write_or asked a.pool x u) (done_then h.done (subst (λ (c : ℕ). Done P' P'' L' L'' n b (write_more_or u (sort_and_lem x) asked c)) p q'.done));
        flag = q'.flag ∙ ap sort_number (sym (sort_or x u));
        utf8 = q'.utf8;
      })
