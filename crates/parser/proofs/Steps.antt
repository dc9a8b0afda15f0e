-- The laws that every function of the reader shares: room behind a step, a tree read in pieces, and one tree that is made of another. Assumes nothing.
use Rattle.std.specs.Prelude.{}
use mathlib.Core.Path.{◌≡◌, refl, sym, ap, subst, ◌∙◌}
use mathlib.Core.Bool.{true}
use mathlib.Core.List.{List, [], ◌∷◌, append-nil}
use Prim.Native.Nat.{ℕ, ◌+◌, ◌*◌, ◌-◌, ◌≤◌}
use native.Mathlib.Omega.{arith}
use lib.ListN.{length, drop, length-drop}
use lib.Seq.{length-sets}
use Rattle.definition.specs.Utf8.{is_utf8}
use Rattle.definition.specs.Plans.{two}
use Rattle.compile_writes.specs.Laws.{effect_assoc, join_none as join-noMarks}
use Rattle.basics.specs.Reads.{Reads, ReadsNone, Wrote}
use Rattle.compile_writes.specs.Effects.{Marks, Effect, Writer, no_marks, join_marks, join, seq, bytes, mark, frame}
use Rattle.compile_writes.specs.Sizes.{Sized}
use Rattle.parser_follow.specs.Follow.{unblank, After, after_weaken}
use Rattle.parser_scan.specs.Text.{Skipped}
use Rattle.parser_items.specs.Reads.{marks_at, marks_of, Asks, Done, Read, Post, LooseRead, Put, PutMarked, next, stop}
use Rattle.parser_items.specs.Laws.{Moved, done_then, done_from, asks_go, join_none, put_done, mark_done, marked_done, done_frame}
use Rattle.parser_items.specs.declared.Cursor.{Cursor}
use Rattle.parser_items.specs.Reads.{Step}
use Rattle.parser_laws.specs.So.{So, so_reads, so_none}
use Rattle.parser_laws.specs.Rep.{Rep, behind, rep_more, rep_end, rep_none}
use Rattle.parser_laws.specs.Joins.{plain, marked, within}

-- ---- room

-- at a later place of the query there is the room of what was passed over
pub asks_moved : {x y at : ℕ} {s P L : List ℕ} {a b : Cursor} → Asks x s P L a → Moved a b at → a.at ≤ at → at ≤ length s → is_utf8 (drop at s) ≡ true → y ≤ 15 * (at - a.at) + x → Asks y s P L b
asks_moved {at = at} {s = s} st m from to u h =
    record {
      text = omega (arith, m.0);
      plan = omega (arith, st.plan, m.0, m.1.0.0);
      pool = omega (arith, st.pool, m.0, m.1.0.1);
      small = st.small;
      small_pool = st.small_pool;
      utf8 = subst (λ (n : ℕ). is_utf8 (drop n s) ≡ true) (sym m.0) u;
    }

-- behind blanks
pub asks_skipped : {x at : ℕ} {s P L : List ℕ} {a b : Cursor} → Asks x s P L a → Skipped s a.at at → Moved a b at → Asks x s P L b
asks_skipped st k m = asks_moved st m k.from k.to (k.utf8 st.utf8) (omega (arith, k.from))

-- behind bytes that were put
pub asks_put : {x y : ℕ} {s P P' L : List ℕ} {a b : Cursor} {c : List ℕ} → Asks x s P L a → Put P P' a b c → length c + y ≤ x → Asks y s P' L b
asks_put {s = s} {P = P} {a = a} {c = c} st p h =
    let l = ap length p.plan ∙ length-sets P a.len c in
    record {
      text = omega (arith, st.text, p.at);
      plan = omega (arith, st.plan, p.len, p.at);
      pool = omega (arith, st.pool, p.pool, p.at);
      small = omega (arith, st.small);
      small_pool = st.small_pool;
      utf8 = subst (λ (n : ℕ). is_utf8 (drop n s) ≡ true) (sym p.at) st.utf8;
    }

-- how much was written for a tree that was read
pub record Spent (over : ℕ) (a b : Cursor) (e : Effect) (spare : ℕ) : Type 0 where
  pub plan : length e.plan + spare + 13 * a.at ≤ 13 * b.at + over
  pub pool : length e.pool + a.at ≤ b.at

spent : {spare over : ℕ} {f : Writer} (p : ℕ) (s : List ℕ) (a b : Cursor) → Sized spare over f (drop b.at s) (drop a.at s) → a.at ≤ b.at → b.at ≤ length s → Spent over a b (f p) spare
spent p s a b z from to =
    let l = length-drop a.at s in
    let m = length-drop b.at s in
    record { plan = omega (arith, z.plan p, l, m); pool = omega (arith, z.pool p, l, m) }

module _ {T : Type 0} {sp : T → List ℕ → List ℕ} {w : T → Writer} {fl : T → ℕ} {spare over : ℕ} (z : (t : T) (r : List ℕ) → Sized spare over (w t) r (sp t r)) where
  pub read_spent : {k : ℕ} {s P P' L L' : List ℕ} {a b : Cursor} {f : ℕ} (h : Read sp w fl k s P P' L L' a b f) → Spent over a b (w h.tree a.pool) spare
  read_spent {s = s} {a = a} {b = b} h = spent a.pool s a b (subst (Sized spare over (w h.tree) (drop b.at s)) (sym h.reads.eq) (z h.tree (drop b.at s))) h.from h.to

  -- behind a tree that was read
  pub asks_read : {x y k : ℕ} {s P P' L L' : List ℕ} {a b : Cursor} {f : ℕ} → Asks x s P L a → Read sp w fl k s P P' L L' a b f → over + y ≤ spare + x → Asks y s P' L' b
  asks_read st h n =
      let v = read_spent h in
      asks_go st h.done h.from h.to h.utf8 (omega (arith, v.plan, h.from)) (omega (arith, v.pool))

  -- behind one that was read up to blanks
  pub loose_spent : {n k : ℕ} {s P P' L L' : List ℕ} {a b : Cursor} {f : ℕ} (h : LooseRead sp w fl n k s P P' L L' a b f) → Spent over a b (w h.tree a.pool) spare
  loose_spent {s = s} {a = a} {b = b} h = spent a.pool s a b (subst (Sized spare over (w h.tree) (drop b.at s)) (sym h.eq) (z h.tree (drop b.at s))) h.from h.to

-- ---- the effect of a tree, from the effects of its parts

pub done_is : {P P' L L' : List ℕ} {a b : Cursor} {e e' : Effect} → e' ≡ e → Done P P' L L' a b e → Done P P' L L' a b e'
done_is {P} {P'} {L} {L'} {a} {b} q d = subst (λ (x : Effect). Done P P' L L' a b x) (sym q) d

-- a step that begins at another place
pub done_moved : {at : ℕ} {P P' L L' : List ℕ} {a o b : Cursor} {e : Effect} → Moved o a at → Done P P' L L' a b e → Done P P' L L' o b e
done_moved m d = done_from m.1.0 (ap marks_at m.1.1) d

-- ---- one tree that is made of another

module _ {T U : Type 0} {spT : T → List ℕ → List ℕ} {wT : T → Writer} {flT : T → ℕ} {spU : U → List ℕ → List ℕ} {wU : U → Writer} {flU : U → ℕ} {k : ℕ} (j : ℕ) {s P P' L L' : List ℕ} {a b : Cursor} {at : ℕ} where
  -- All trees T at a come of the trees U at b, a later place of the query, with the same effect and the same number told.
  pub read_so : So {M = Effect × ℕ} spT (λ t. (wT t a.pool, flT t)) spU (λ u. (wU u a.pool, flU u)) (After k) (drop a.at s) (drop b.at s) (λ m. m) → j ≤ k → Moved a b at → a.at ≤ b.at
      → {c : Cursor} {f : ℕ} → Read spU wU flU j s P P' L L' b c f → Read spT wT flT k s P P' L L' a c f
  read_so so le m from {c = c} h =
      let q : b.pool ≡ a.pool = m.1.0.1 in
      let e : ◌≡◌ {A = Effect × ℕ} (wT (so.fill h.tree) a.pool, flT (so.fill h.tree)) (wU h.tree a.pool, flU h.tree) = so.cod h.tree in
      record {
        tree = so.fill h.tree;
        reads = so_reads (λ x. x) so (λ l x. after_weaken _ _ le x) (subst (λ (n : ℕ). Reads {M = Effect × ℕ} spU (λ u. (wU u n, flU u)) (After j) (drop b.at s) h.tree (drop c.at s)) q h.reads);
        from = omega (arith, from, h.from);
        to = h.to;
        done = done_is (ap (λ (x : Effect × ℕ). x.0) e) (done_moved m (subst (λ (n : ℕ). Done P P' L L' b c (wU h.tree n)) q h.done));
        flag = h.flag ∙ sym (ap (λ (x : Effect × ℕ). x.1) e);
        utf8 = h.utf8;
      }

  pub post_so : So {M = Effect × ℕ} spT (λ t. (wT t a.pool, flT t)) spU (λ u. (wU u a.pool, flU u)) (After k) (drop a.at s) (drop b.at s) (λ m. m) → j ≤ k → Moved a b at → a.at ≤ b.at
      → {r : Step} → Post spU wU flU j s P P' L L' b r → Post spT wT flT k s P P' L L' a r
  post_so so le m from (next {b = c} {f = f} h) = next {b = c} {f = f} (read_so so le m from h)
  post_so so le m from (stop h) = stop (so_none (λ x. x) so (λ l x. after_weaken _ _ le x) h)

-- a cursor at its own place
pub stay : (a : Cursor) → Moved a a a.at
stay a = (refl, ((refl, refl), refl))

-- ---- what is read up to blanks

-- ---- *( S sep S item ): what is known at the head of the loop

-- Of the list that begins at a, what is left stands at b, in the context κ; e is what was brought about.
pub record Loop {L K : Type 0} (spL : L → List ℕ → List ℕ) (w : L → Writer) (fl : L → ℕ) (me : K → ℕ → L → Effect × ℕ) (k : ℕ) (s P P' Q Q' : List ℕ) (a b : Cursor) (κ : K) : Type 0 where
  pub effect : Effect
  pub so : So {M = Effect × ℕ} spL (λ t. (w t a.pool, fl t)) spL (me κ b.pool) (After k) (drop a.at s) (drop b.at s) (behind effect)
  pub done : Done P P' Q Q' a b effect
  pub from : a.at ≤ b.at
  pub start : Asks 0 s P' Q' b

abbrev pub empty : Effect
empty = record { plan = []; pool = []; marks = no_marks }

pub none_join : (m : Effect × ℕ) → behind empty m ≡ m
unfolding join
none_join m = rw (join_none m.0.marks)

pub join_then : (e d : Effect) (m : Effect × ℕ) → behind e (behind d m) ≡ behind (join e d) m
join_then e d m = ap (λ (x : Effect). (x, m.1)) (sym (effect_assoc e d m.0))

-- what is known may be said in another way
pub so_act : {T U M N : Type 0} {spT : T → List ℕ → List ℕ} {meT : T → M} {spU : U → List ℕ → List ℕ} {meU : U → N} {May : List ℕ → Type 0} {s₀ s : List ℕ} (act act' : N → M) → ((m : N) → act m ≡ act' m) → So spT meT spU meU May s₀ s act → So spT meT spU meU May s₀ s act'
so_act {meU = meU} act act' h so = record {
  fill = so.fill;
  fwd = so.fwd;
  cod = λ u. so.cod u ∙ h (meU u);
  bwd = λ t' r' a e. let g = so.bwd t' r' a e in (g.0, g.1, g.2 ∙ h (meU g.0));
}

pub join_empty : (e : Effect) → join e empty ≡ e
unfolding join
join_empty e = rw (append-nil e.plan, append-nil e.pool, join-noMarks e.marks)

pub done_none : {P L : List ℕ} {a : Cursor} → Done P P L L a a empty
done_none {a = a} = record { len = omega arith; pool = omega arith; plan = refl; text = refl; marks = sym (join-noMarks (marks_of a)) }

module _ {L K : Type 0} {spL : L → List ℕ → List ℕ} {w : L → Writer} {fl : L → ℕ} {me : K → ℕ → L → Effect × ℕ} {k : ℕ} {s P Q : List ℕ} {a : Cursor} where
  -- before the first item
  pub loop_start : (κ : K) → ((t : L) → ◌≡◌ {A = Effect × ℕ} (w t a.pool, fl t) (me κ a.pool t)) → Asks 0 s P Q a → Loop spL w fl me k s P P Q Q a a κ
  loop_start κ h st = record {
    effect = empty;
    so = record { fill = λ u. u; fwd = λ u r e. e; cod = λ u. h u ∙ sym (none_join (me κ a.pool u)); bwd = λ t' r' m e. (t', e, h t' ∙ sym (none_join (me κ a.pool t'))) };
    done = done_none;
    from = omega arith;
    start = st;
  }

  module _ {I : Type 0} {spI : I → List ℕ → List ℕ} {tell : ℕ → I → Effect × ℕ} {j x : ℕ} (R : Rep spI tell j spL me k x) {P' Q' : List ℕ} {b : Cursor} {κ : K} (lp : Loop spL w fl me k s P P' Q Q' a b κ) where
    -- one item more
    pub loop_more : {s₁ P'' Q'' : List ℕ} {i : I} {c : Cursor} → unblank (drop b.at s) ≡ R.sep s₁ → Reads spI (tell (R.from κ b.pool)) (After j) (unblank s₁) i (drop c.at s)
        → Done P' P'' Q' Q'' b c (R.does κ b.pool (tell (R.from κ b.pool) i)) → b.at ≤ c.at → Asks 0 s P'' Q'' c → Loop spL w fl me k s P P'' Q Q'' a c (R.then κ (tell (R.from κ b.pool) i))
    loop_more {i = i} {c = c} n o d from st =
        let e = R.does κ b.pool (tell (R.from κ b.pool) i) in
        let κ' = R.then κ (tell (R.from κ b.pool) i) in
        let g = so_act (λ m. behind lp.effect (behind e m)) (behind (join lp.effect e)) (join_then lp.effect e) (rep_more R κ b.pool (behind lp.effect) lp.so n o) in
        record {
          effect = join lp.effect e;
          so = subst (λ (p : ℕ). So {M = Effect × ℕ} spL (λ t. (w t a.pool, fl t)) spL (me κ' p) (After k) (drop a.at s) (drop c.at s) (behind (join lp.effect e))) (sym d.pool) g;
          done = done_then lp.done d;
          from = omega (arith, lp.from, from);
          start = st;
        }

    -- no item more
    pub loop_end : {f : ℕ} → ((s₁ : List ℕ) → unblank (drop b.at s) ≡ R.sep s₁ → ⊥) → me κ b.pool R.nil ≡ (empty, f) → Read spL w fl k s P P' Q Q' a b f
    loop_end {f} n e =
        let q : ◌≡◌ {A = Effect × ℕ} (w (lp.so.fill R.nil) a.pool, fl (lp.so.fill R.nil)) (lp.effect, f) = lp.so.cod R.nil ∙ ap (behind lp.effect) e ∙ ap (λ (y : Effect). (y, f)) (join_empty lp.effect) in
        record {
          tree = lp.so.fill R.nil;
          reads = rep_end R κ b.pool (behind lp.effect) lp.so n;
          from = lp.from;
          to = lp.start.text;
          done = done_is (ap (λ (y : Effect × ℕ). y.0) q) lp.done;
          flag = sym (ap (λ (y : Effect × ℕ). y.1) q);
          utf8 = lp.start.utf8;
        }

    -- a separator with no item behind it
    pub loop_none : {s₁ : List ℕ} → unblank (drop b.at s) ≡ R.sep s₁ → ReadsNone spI (After j) (unblank s₁) → ReadsNone spL (After k) (drop a.at s)
    loop_none n o = rep_none R κ b.pool (behind lp.effect) lp.so n o

-- ---- bytes, marks and frames as effects

pub put_plain : {P P' L : List ℕ} {a b : Cursor} {c : List ℕ} → Put P P' a b c → Done P P' L L a b (plain c)
unfolding bytes
put_plain h = put_done h

-- a mark, and bytes behind it
pub put_marked : {P P' L : List ℕ} {a b : Cursor} {c : List ℕ} {m : Marks} → PutMarked P P' a b c m → Done P P' L L a b (join (marked m) (plain c))
unfolding seq mark bytes
put_marked h = marked_done h

pub judged_marked : (m : Marks) {P L : List ℕ} {a b : Cursor} → (b.at ≡ a.at) × (b.len ≡ a.len) × (b.pool ≡ a.pool) → marks_of b ≡ join_marks (marks_of a) m → Done P P L L a b (marked m)
unfolding mark
judged_marked m h k = mark_done m (h.1, h.2) k

-- a kind with two bytes behind it, then a step, and then the two bytes are set to the length of what it wrote
pub done_within : (kind : ℕ) {n : ℕ} {P P' P'' P₃ L L' : List ℕ} {a b c : Cursor} {e : Effect} → Put P P' a b (kind ∷ 0 ∷ 0 ∷ []) → Done P' P'' L L' b c e → n ≡ length e.plan → Wrote P'' (a.len + 1) (two n) P₃ → Done P P₃ L L' a c (within kind e)
unfolding frame
done_within kind {e = e} h d q w = done_frame kind (λ p. e) h d q w
