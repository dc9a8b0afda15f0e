-- The laws of the reader's words: stores in a row, marks, what a sequence of steps brings about, blanks, and what may follow a tree.
-- Assumes nothing.
use Rattle.std.specs.Prelude.{◌≡◌, refl, Bool, true, false, ℕ, suc, ◌+◌, ◌*◌, ◌-◌, ◌≤◌, ◌<◌, eqb, take, drop, set, Option, Some, None, Result, Ok, Err, is_some}
use Rattle.std.proofs.Math.Path.{sym, ap}
use Rattle.std.proofs.Common.{subst, ◌∙◌, add_assoc, add-zero, arith, set-set, take_all}
use mathlib.Core.List.{List, [], ◌∷◌, ◌++◌, append-nil}
use Rattle.std.proofs.Math.ListN.{length, length-append}
use Rattle.std.proofs.lemmas.List.Edits.{sets}
use Rattle.std.proofs.Math.Seq.{length-sets}
use Rattle.definition.specs.Bytes.{little_endian}
use Rattle.definition.specs.Plans.{two, pooled}
use Rattle.definition.specs.Utf8.{is_utf8}
use Rattle.definition.specs.Lexical.{is_blank, is_function_char, Blanks, spell_blanks, spell_name, spell_function_name}
use Rattle.definition.specs.Grammar.{spell_operator}
use Rattle.definition_bytes.specs.Numbers.{little_endian_length}
use Rattle.basics.specs.Lists.{set_sets, sets_append}
use Rattle.compile_writes.specs.Laws.{effect_assoc, join_assoc as joinMarks-assoc, join_none as join-noMarks}
use Rattle.parser_follow.specs.Blanks.{unblank_blanks, unblank_byte}
use Rattle.basics.specs.Reads.{ReadsNone, StartsNot, Wrote}
use Rattle.parser_follow.specs.Follow.{after_not}
use Rattle.utf8_laws.specs.Bytes.{by_test}
use Rattle.parser_scan.specs.Text as scanned
use Rattle.parser_scan.specs.Text.{unblank, is_name_byte, NameAt, ReadsName, WordAt, ReadsWord, OperatorAt, ReadsOperator}
use Rattle.compile_writes.specs.Effects.{Marks, no_marks, join_marks, Effect, join, Writer, skip, bytes, pooling, mark, seq, frame, counted}
use Rattle.parser_items.specs.Reads.{level_of, After, marks_at, marks_of, Asks, Done, Read, Post, LooseRead, LoosePost, next, stop, no_flag, Put, PutMarked, Pooled, low, Operates}
use Rattle.parser_items.specs.declared.Cursor.{Cursor}
use Rattle.parser_items.specs.Reads.{Step}

-- ---- stores in a row

-- a run of stores before another may be made first
pub sets_sets : (p : List ℕ) (i : ℕ) (x : List ℕ) (n : ℕ) (c : List ℕ) → i + length x ≤ n → sets (sets p n c) i x ≡ sets (sets p i x) n c
sets_sets p i [] n c h = refl
sets_sets p i (y ∷ x) n c h =
    ap (λ (l : List ℕ). sets l (suc i) x) (set_sets p i y n c (omega arith)) ∙ sets_sets (set p i y) (suc i) x n c (omega arith)

-- a run of stores over one of the same length undoes it
pub sets_over : (p : List ℕ) (n : ℕ) (x y : List ℕ) → length x ≡ length y → sets (sets p n x) n y ≡ sets p n y
sets_over p n [] [] e = refl
sets_over p n [] (b ∷ y) e = absurd (omega arith)
sets_over p n (a ∷ x) [] e = absurd (omega arith)
sets_over p n (a ∷ x) (b ∷ y) e =
    ap (λ (l : List ℕ). sets l (suc n) y) (set_sets (set p n a) n b (suc n) x (omega arith) ∙ ap (λ (l : List ℕ). sets l (suc n) x) (set-set p n a b))
    ∙ sets_over (set p n b) (suc n) x y (omega arith)

-- a run of stores inside one that was made, over as many bytes
pub sets_inside : (p : List ℕ) (n : ℕ) (a x y c : List ℕ) → length x ≡ length y → sets (sets p n (a ++ (x ++ c))) (n + length a) y ≡ sets p n (a ++ (y ++ c))
sets_inside p n a x y c e =
    let q : List ℕ = sets p n a in
    let m : ℕ = n + length a in
    let f : sets p n (a ++ (x ++ c)) ≡ sets (sets q m x) (m + length x) c = sym (sets_append p n a (x ++ c)) ∙ sym (sets_append q m x c) in
    let g : sets p n (a ++ (y ++ c)) ≡ sets (sets q m y) (m + length y) c = sym (sets_append p n a (y ++ c)) ∙ sym (sets_append q m y c) in
    ap (λ (l : List ℕ). sets l m y) f
    ∙ sets_sets (sets q m x) m y (m + length x) c (omega arith)
    ∙ ap (λ (l : List ℕ). sets l (m + length x) c) (sets_over q m x y e)
    ∙ ap (λ (k : ℕ). sets (sets q m y) (m + k) c) e
    ∙ sym g

-- ---- marks

-- no marks before change nothing
pub join_none : (m : Marks) → join_marks no_marks m ≡ m
unfolding join_marks
join_none m = refl

-- ---- effects and writers

-- writers in a row may be joined in any grouping
pub seq_assoc : (f g h : Writer) (p : ℕ) → seq (seq f g) h p ≡ seq f (seq g h) p
unfolding seq join
seq_assoc f g h p =
    let q : ℕ = p + length (f p).pool in
    let e : p + length ((f p).pool ++ (g q).pool) ≡ q + length (g q).pool = rw (length-append (f p).pool (g q).pool) (sym (add_assoc p (length (f p).pool) (length (g q).pool))) in
    rw e (effect_assoc (f p) (g q) (h (q + length (g q).pool)))

-- nothing before a writer changes nothing
pub skip_seq : (f : Writer) (p : ℕ) → seq skip f p ≡ f p
unfolding seq skip join
skip_seq f p = rw (add-zero p, join_none (f p).marks)

-- nothing behind a writer changes nothing
pub seq_skip : (f : Writer) (p : ℕ) → seq f skip p ≡ f p
unfolding seq skip join
seq_skip f p = rw (append-nil (f p).plan, append-nil (f p).pool, join-noMarks (f p).marks)

-- ---- steps: from cursor to cursor with an effect

module _ {P P' L L' : List ℕ} {a b : Cursor} {e : Effect} where
  -- two steps in a row bring about both effects
  pub done_then : {P'' L'' : List ℕ} {c : Cursor} {f : Effect} → Done P P' L L' a b e → Done P' P'' L' L'' b c f → Done P P'' L L'' a c (join e f)
  unfolding join
  done_then {f = f} d g =
      record {
        len = g.len ∙ rw (d.len, length-append e.plan f.plan) (add_assoc a.len (length e.plan) (length f.plan));
        pool = g.pool ∙ rw (d.pool, length-append e.pool f.pool) (add_assoc a.pool (length e.pool) (length f.pool));
        plan = g.plan ∙ rw (d.plan, d.len) (sets_append P a.len e.plan f.plan);
        text = g.text ∙ rw (d.text, d.pool) (sets_append L a.pool e.pool f.pool);
        marks = g.marks ∙ rw d.marks (joinMarks-assoc (marks_of a) e.marks f.marks);
      }

  -- a step keeps the lengths of plan and pool
  pub done_plan : Done P P' L L' a b e → length P' ≡ length P
  done_plan d = ap length d.plan ∙ length-sets P a.len e.plan

  pub done_pool : Done P P' L L' a b e → length L' ≡ length L
  done_pool d = ap length d.text ∙ length-sets L a.pool e.pool

  -- a step may begin at a cursor that differs in its place alone
  pub done_from : {o : Cursor} → (a.len ≡ o.len) × (a.pool ≡ o.pool) → marks_of a ≡ marks_of o → Done P P' L L' a b e → Done P P' L L' o b e
  done_from h m d =
      record {
        len = d.len ∙ ap (λ (n : ℕ). n + length e.plan) h.0;
        pool = d.pool ∙ ap (λ (n : ℕ). n + length e.pool) h.1;
        plan = d.plan ∙ ap (λ (n : ℕ). sets P n e.plan) h.0;
        text = d.text ∙ ap (λ (n : ℕ). sets L n e.pool) h.1;
        marks = d.marks ∙ ap (λ (n : Marks). join_marks n e.marks) m;
      }

  -- a step may end at a cursor that differs in its place alone
  pub done_to : {o : Cursor} → (o.len ≡ b.len) × (o.pool ≡ b.pool) → marks_of o ≡ marks_of b → Done P P' L L' a b e → Done P P' L L' a o e
  done_to h m d = record { len = h.0 ∙ d.len; pool = h.1 ∙ d.pool; plan = d.plan; text = d.text; marks = m ∙ d.marks }

-- two writers in a row, the second at the place where the first left the pool
pub done_seq : (f g : Writer) {P P' P'' L L' L'' : List ℕ} {a b c : Cursor} → Done P P' L L' a b (f a.pool) → Done P' P'' L' L'' b c (g b.pool) → Done P P'' L L'' a c (seq f g a.pool)
unfolding seq
done_seq f g {P' = P'} {P'' = P''} {L' = L'} {L'' = L''} {b = b} {c = c} d h = done_then d (subst (λ (n : ℕ). Done P' P'' L' L'' b c (g n)) d.pool h)

-- a cursor that stays brings about nothing
pub done_skip : {P L : List ℕ} {a : Cursor} → Done P P L L a a (skip a.pool)
unfolding skip
done_skip {a = a} = record { len = sym (add-zero a.len); pool = sym (add-zero a.pool); plan = refl; text = refl; marks = sym (join-noMarks (marks_of a)) }

-- bytes at the end of the plan
pub put_done : {P P' L : List ℕ} {a b : Cursor} {c : List ℕ} → Put P P' a b c → Done P P' L L a b (bytes c a.pool)
unfolding bytes
put_done {a = a} h = record { len = h.len; pool = h.pool ∙ sym (add-zero a.pool); plan = h.plan; text = refl; marks = h.marks ∙ sym (join-noMarks (marks_of a)) }

-- a mark alone
pub mark_done : (m : Marks) {P L : List ℕ} {a b : Cursor} → (b.len ≡ a.len) × (b.pool ≡ a.pool) → marks_of b ≡ join_marks (marks_of a) m → Done P P L L a b (mark m a.pool)
unfolding mark
mark_done m {a = a} h k = record { len = h.0 ∙ sym (add-zero a.len); pool = h.1 ∙ sym (add-zero a.pool); plan = refl; text = refl; marks = k }

module _ {P P' L : List ℕ} {a b : Cursor} {c : List ℕ} {m : Marks} where
  -- bytes at the end of the plan, behind a mark
  pub marked_done : PutMarked P P' a b c m → Done P P' L L a b (seq (mark m) (bytes c) a.pool)
  unfolding seq join mark bytes
  marked_done h = record { len = h.len; pool = h.pool ∙ sym (add-zero a.pool); plan = h.plan; text = refl; marks = h.marks ∙ ap (join_marks (marks_of a)) (sym (join-noMarks m)) }

  -- bytes at the end of the plan, before a mark
  pub done_marked : PutMarked P P' a b c m → Done P P' L L a b (seq (bytes c) (mark m) a.pool)
  unfolding seq join mark bytes
  done_marked h =
      record {
        len = h.len ∙ ap (λ (l : List ℕ). a.len + length l) (sym (append-nil c));
        pool = h.pool ∙ sym (add-zero a.pool);
        plan = h.plan ∙ ap (sets P a.len) (sym (append-nil c));
        text = refl;
        marks = h.marks ∙ ap (join_marks (marks_of a)) (sym (join_none m));
      }

-- nothing put
pub put_none : {P : List ℕ} {a : Cursor} → Put P P a a []
put_none {a = a} = record { at = refl; len = sym (add-zero a.len); pool = refl; marks = refl; plan = refl }

-- bytes put behind bytes
pub put_put : {P P' P'' : List ℕ} {a b c : Cursor} {x y : List ℕ} → Put P P' a b x → Put P' P'' b c y → Put P P'' a c (x ++ y)
put_put {P} {a = a} {x = x} {y = y} g h =
    record {
      at = h.at ∙ g.at;
      len = h.len ∙ rw (g.len, length-append x y) (add_assoc a.len (length x) (length y));
      pool = h.pool ∙ g.pool;
      marks = h.marks ∙ g.marks;
      plan = h.plan ∙ rw (g.plan, g.len) (sets_append P a.len x y);
    }

-- from a to b nothing changed but that a mark was set
pub record Marked (a b : Cursor) (m : Marks) : Type 0 where
  pub at : b.at ≡ a.at
  pub len : b.len ≡ a.len
  pub pool : b.pool ≡ a.pool
  pub marks : marks_of b ≡ join_marks (marks_of a) m

pub marked_of : {a b : Cursor} {m : Marks} → (b.at ≡ a.at) × (b.len ≡ a.len) × (b.pool ≡ a.pool) → marks_of b ≡ join_marks (marks_of a) m → Marked a b m
marked_of h k = record { at = h.0; len = h.1; pool = h.2; marks = k }

-- a mark and bytes
pub marked_put : {P P' : List ℕ} {a b c : Cursor} {m : Marks} {x : List ℕ} → Marked a b m → Put P P' b c x → PutMarked P P' a c x m
marked_put {P} {x = x} g h =
    record {
      at = h.at ∙ g.at;
      len = h.len ∙ ap (λ (n : ℕ). n + length x) g.len;
      pool = h.pool ∙ g.pool;
      marks = h.marks ∙ g.marks;
      plan = h.plan ∙ ap (λ (n : ℕ). sets P n x) g.len;
    }

-- a mark and another
pub marked_then : {a b c : Cursor} {m n : Marks} → Marked a b m → Marked b c n → Marked a c (join_marks m n)
marked_then {a} {m = m} {n = n} g h =
    record { at = h.at ∙ g.at; len = h.len ∙ g.len; pool = h.pool ∙ g.pool; marks = h.marks ∙ ap (λ (k : Marks). join_marks k n) g.marks ∙ joinMarks-assoc (marks_of a) m n }

-- a kind with two bytes behind it, then a step, and then the two bytes are set to a count
pub done_counted : (kind n : ℕ) (f : Writer) {P P' P'' P''' L L' : List ℕ} {a b c : Cursor} →
    Put P P' a b (kind ∷ 0 ∷ 0 ∷ []) → Done P' P'' L L' b c (f b.pool) → Wrote P'' (a.len + 1) (two n) P''' → Done P P''' L L' a c (counted kind n f a.pool)
unfolding counted
done_counted kind n f {P} {P'} {P''} {P'''} {L} {L'} {a} {b} {c} h d w =
    let e : Effect = f a.pool in
    let d' : Done P' P'' L L' b c e = subst (λ (k : ℕ). Done P' P'' L L' b c (f k)) h.pool d in
    let t : length (two n) ≡ 2 = little_endian_length 2 n in
    let q : P'' ≡ sets P a.len (kind ∷ 0 ∷ 0 ∷ e.plan) = d'.plan ∙ rw (h.plan, h.len) (sets_append P a.len (kind ∷ 0 ∷ 0 ∷ []) e.plan) in
    record {
      len = d'.len ∙ rw h.len (omega (arith, length-append (two n) e.plan));
      pool = d'.pool ∙ rw h.pool;
      plan = w.is ∙ rw q (sets_inside P a.len (kind ∷ []) (0 ∷ 0 ∷ []) (two n) e.plan (sym t));
      text = d'.text ∙ rw h.pool;
      marks = d'.marks ∙ rw h.marks;
    }

-- the same with the length of what the step wrote
pub done_frame : (kind : ℕ) (f : Writer) {n : ℕ} {P P' P'' P''' L L' : List ℕ} {a b c : Cursor} →
    Put P P' a b (kind ∷ 0 ∷ 0 ∷ []) → Done P' P'' L L' b c (f b.pool) → n ≡ length (f b.pool).plan → Wrote P'' (a.len + 1) (two n) P''' → Done P P''' L L' a c (frame kind f a.pool)
unfolding counted frame
done_frame kind f {a = a} h d e w = done_counted kind (length (f a.pool).plan) f h d (rw (e, h.pool) at w)

-- ---- blanks

pub unblank_starts : (s : List ℕ) → StartsNot is_blank s → unblank s ≡ s
unfolding StartsNot
unblank_starts [] h = refl
unblank_starts (c ∷ s) h = unblank_byte c s h

-- without the blanks that it begins with, a text begins with no blank
pub unblank_not : (s : List ℕ) → StartsNot is_blank (unblank s)
unfolding StartsNot
unblank_not [] = tt
unblank_not (c ∷ s) = by_test (is_blank c) (λ t. rw t (unblank_not s)) (λ f. rw f f)

pub unblank_twice : (s : List ℕ) → unblank (unblank s) ≡ unblank s
unblank_twice s = unblank_starts (unblank s) (unblank_not s)

-- ---- what may follow

-- blanks may stand before what may follow
pub after_blanks : {k : ℕ} (b : Blanks) {r : List ℕ} → After k r → After k (spell_blanks b r)
after_blanks b {r} a = record { above = rw (unblank_blanks b r) a.above }

-- what may follow with blanks before it may follow without them
pub after_unblanks : {k : ℕ} (b : Blanks) {r : List ℕ} → After k (spell_blanks b r) → After k r
after_unblanks b {r} a = record { above = rw (unblank_blanks b r) at a.above }

-- a byte of a higher level may follow
pub after_byte_lem : {k : ℕ} (c : ℕ) (r : List ℕ) → is_blank c ≡ false → k < level_of c → After k (c ∷ r)
after_byte_lem c r e h = record { above = rw e h }

-- the end may follow
pub after_end : {k : ℕ} → k < 6 → After k []
after_end h = record { above = h }

-- where the bytes that pass a test are no blanks and have no higher level, what follows begins with none of them
pub after_starts : (p : ℕ → Bool) {k : ℕ} (r : List ℕ) → ((c : ℕ) → p c ≡ true → (is_blank c ≡ false) × (level_of c ≤ k)) → After k r → StartsNot p r
unfolding StartsNot
after_starts p [] f a = tt
after_starts p (c ∷ r) f a =
    by_test (p c)
    (λ t. let h = f c t in absurd (after_not _ {s = c ∷ r} c {r = r} (unblank_byte c r h.0) h.1 a))
    (λ n. n)

-- ---- what a function tells of its reading

module _ {T : Type 0} {sp : T → List ℕ → List ℕ} {w : T → Writer} {fl : T → ℕ} {k : ℕ} {s P P' L L' : List ℕ} {a : Cursor} where
  read_next : {b : Cursor} {f : ℕ} → Post sp w fl k s P P' L L' a (Ok (b, f)) → Read sp w fl k s P P' L L' a b f
  read_next (next h) = h

  none_stop : {i : ℕ} → Post sp w fl k s P P' L L' a (Err i) → ReadsNone sp (After k) (drop a.at s)
  none_stop (stop h) = h

  -- the tree that was read, from the answer that tells it
  pub read_of : {r : Step} {b : Cursor} {f : ℕ} → Post sp w fl k s P P' L L' a r → r ≡ Ok (b, f) → Read sp w fl k s P P' L L' a b f
  read_of h e = read_next (rw e at h)

  -- that there is no tree, from the answer that tells it
  pub none_of : {r : Step} {i : ℕ} → Post sp w fl k s P P' L L' a r → r ≡ Err i → ReadsNone sp (After k) (drop a.at s)
  none_of h e = none_stop (rw e at h)

-- ---- room

-- Behind a step a function may start with what is left: 15 bytes of plan for each byte that was read, less those that were written.
pub asks_go : {x y : ℕ} {s P P' L L' : List ℕ} {a b : Cursor} {e : Effect} → Asks x s P L a → Done P P' L L' a b e → a.at ≤ b.at → b.at ≤ length s → is_utf8 (drop b.at s) ≡ true →
    length e.plan + y ≤ 15 * (b.at - a.at) + x → length e.pool ≤ b.at - a.at → Asks y s P' L' b
asks_go st d from to u h g =
    let p = done_plan d in
    let q = done_pool d in
    record {
      text = to;
      plan = omega (arith, st.plan, d.len);
      pool = omega (arith, st.pool, d.pool);
      small = omega (arith, st.small);
      small_pool = omega (arith, st.small_pool);
      utf8 = u;
    }

-- ---- a query handed on whole, as the part from its first byte on

pub whole : (l : List ℕ) → take (length l - 0) (drop 0 l) ≡ l
whole l = take_all (length l - 0) l (omega arith)

pub asks_whole : {x : ℕ} {s s' P L : List ℕ} {a : Cursor} → s' ≡ s → Asks x s P L a → Asks x s' P L a
asks_whole {x} {P = P} {L = L} {a = a} e h = subst (λ (z : List ℕ). Asks x z P L a) (sym e) h

pub post_whole : {T : Type 0} {sp : T → List ℕ → List ℕ} {w : T → Writer} {fl : T → ℕ} {k : ℕ} {s s' P P' L L' : List ℕ} {a : Cursor} {r : Step} → s' ≡ s → Post sp w fl k s' P P' L L' a r → Post sp w fl k s P P' L L' a r
post_whole {sp = sp} {w = w} {fl = fl} {k = k} {P = P} {P' = P'} {L = L} {L' = L'} {a = a} {r = r} e h = subst (λ (z : List ℕ). Post sp w fl k z P P' L L' a r) e h

-- ---- places

-- what `moved` ensures: the cursor at another place
abbrev pub Moved : Cursor → Cursor → ℕ → Type 0
Moved a b at = (b.at ≡ at) × (((b.len ≡ a.len) × (b.pool ≡ a.pool)) × (b.marks ≡ a.marks))

pub moved_done : {P P' L L' : List ℕ} {a b c : Cursor} {e : Effect} {at : ℕ} → Done P P' L L' a b e → Moved b c at → Done P P' L L' a c e
moved_done d m = done_to m.1.0 (ap marks_at m.1.1) d

-- ---- names and texts

-- the item of a name or a text, and its bytes in the pool
pub pooled_done : (kind : ℕ) (t : List ℕ) {n : ℕ} {P P' L L' : List ℕ} {a b : Cursor} → Pooled P P' a b kind n → Wrote L a.pool t L' → n ≡ length t → Done P P' L L' a b (pooling kind t a.pool)
unfolding pooling pooled
pooled_done kind t {P = P} {a = a} h w e =
    let l = length-append (two a.pool) (two (length t)) in
    let x = little_endian_length 2 a.pool in
    let y = little_endian_length 2 (length t) in
    record {
      len = h.len ∙ ap (λ (k : ℕ). a.len + k) (omega arith);
      pool = h.pool ∙ ap (λ (k : ℕ). a.pool + k) e;
      plan = h.plan ∙ ap (λ (k : ℕ). sets P a.len (kind ∷ (two a.pool ++ two k))) e;
      text = w.is;
      marks = h.marks ∙ sym (join-noMarks (marks_of a));
    }

-- a kind with the count 1, and then a step
pub done_single : (kind : ℕ) (f : Writer) {P P' P'' L L' : List ℕ} {a b c : Cursor} → Put P P' a b (kind ∷ 1 ∷ 0 ∷ []) → Done P' P'' L L' b c (f b.pool) → Done P P'' L L' a c (counted kind 1 f a.pool)
unfolding counted join join_marks bytes little_endian
done_single kind f {P' = P'} {P'' = P''} {L = L} {L' = L'} {b = b} {c = c} h d = done_then (put_done h) (subst (λ (n : ℕ). Done P' P'' L L' b c (f n)) h.pool d)

-- the same answer with 0 told tells of the same tree
pub post_low : {T : Type 0} {sp : T → List ℕ → List ℕ} {w : T → Writer} {fl : T → ℕ} {k : ℕ} {s P P' L L' : List ℕ} {a : Cursor} {r : Step} → Post sp w fl k s P P' L L' a r → Post sp w no_flag k s P P' L L' a (low r)
post_low (stop h) = stop h
post_low (next {b = b} h) =
    next {b = b} (record {
      tree = h.tree;
      reads = record {
        eq = h.reads.eq;
        only = λ t r m e. let o = h.reads.only t r m e in (ap (λ (x : Effect × ℕ). (x.0, 0)) o.0, o.1);
      };
      from = h.from;
      to = h.to;
      done = h.done;
      flag = refl;
      utf8 = h.utf8;
    })

-- ---- what the scanner tells

name_at : {s : List ℕ} {a e : ℕ} → ReadsName s a (Ok e) → NameAt s a e
name_at (scanned.ReadsName.at h) = h

name_nothing : {s : List ℕ} {a i : ℕ} → ReadsName s a (Err i) → ReadsNone spell_name (StartsNot is_name_byte) (drop a s)
name_nothing (scanned.ReadsName.nothing h) = h

word_at : {s : List ℕ} {a e : ℕ} → ReadsWord s a (Ok e) → WordAt s a e
word_at (scanned.ReadsWord.at h) = h

word_nothing : {s : List ℕ} {a i : ℕ} → ReadsWord s a (Err i) → ReadsNone spell_function_name (StartsNot is_function_char) (drop a s)
word_nothing (scanned.ReadsWord.nothing h) = h

operator_is : {s : List ℕ} {a e o : ℕ} → ReadsOperator s a (Some (e, o)) → OperatorAt s a e o
operator_is (scanned.ReadsOperator.is h) = h

operator_nothing : {s : List ℕ} {a : ℕ} → ReadsOperator s a None → ReadsNone spell_operator (StartsNot (eqb 0x3D)) (drop a s)
operator_nothing (scanned.ReadsOperator.nothing h) = h

module _ {s : List ℕ} {a : ℕ} {r : Result ℕ ℕ} where
  -- the name that was read, or that there is none
  pub name_of : {e : ℕ} → ReadsName s a r → r ≡ Ok e → NameAt s a e
  name_of h e = name_at (rw e at h)

  pub no_name_of : {i : ℕ} → ReadsName s a r → r ≡ Err i → ReadsNone spell_name (StartsNot is_name_byte) (drop a s)
  no_name_of h e = name_nothing (rw e at h)

  -- the function name that was read, or that there is none
  pub word_of : {e : ℕ} → ReadsWord s a r → r ≡ Ok e → WordAt s a e
  word_of h e = word_at (rw e at h)

  pub no_word_of : {i : ℕ} → ReadsWord s a r → r ≡ Err i → ReadsNone spell_function_name (StartsNot is_function_char) (drop a s)
  no_word_of h e = word_nothing (rw e at h)

module _ {s : List ℕ} {a : ℕ} {r : Option (ℕ × ℕ)} where
  -- the operator that was read, or that there is none
  pub operator_of_lem : {e o : ℕ} → ReadsOperator s a r → r ≡ Some (e, o) → OperatorAt s a e o
  operator_of_lem h e = operator_is (rw e at h)

  pub no_operator_of : ReadsOperator s a r → r ≡ None → ReadsNone spell_operator (StartsNot (eqb 0x3D)) (drop a s)
  no_operator_of h e = operator_nothing (rw e at h)

-- whether an operator stands there
pub operates_of : {s : List ℕ} {a : ℕ} {r : Option (ℕ × ℕ)} → ReadsOperator s a r → Operates s a (is_some r)
operates_of (scanned.ReadsOperator.is {r = e} {o = o} h) = (e, o, h)
operates_of (scanned.ReadsOperator.nothing h) = h

-- ---- room

-- where bytes are unread there is room
pub asks_room : {x : ℕ} {s P L : List ℕ} {a : Cursor} (n m : ℕ) → Asks x s P L a → a.at + m ≤ length s → n ≤ 15 * m + x → a.len + n ≤ length P
asks_room n m st h k = omega (arith, st.plan)

-- behind bytes that were put there is the room that they left
pub put_room : {P P' : List ℕ} {a b : Cursor} {c : List ℕ} (n : ℕ) → Put P P' a b c → a.len + (length c + n) ≤ length P → b.len + n ≤ length P'
put_room {P} {a = a} {c = c} n h k =
    let l = ap length h.plan ∙ length-sets P a.len c in
    omega (arith, h.len)

-- a function that needs less room may start there too
pub asks_less : {x y : ℕ} {s P L : List ℕ} {a : Cursor} → y ≤ x → Asks x s P L a → Asks y s P L a
asks_less h st = record { text = st.text; plan = omega (arith, st.plan); pool = st.pool; small = st.small; small_pool = st.small_pool; utf8 = st.utf8 }

-- ---- what is left up to blanks

module _ {T : Type 0} {sp : T → List ℕ → List ℕ} {w : T → Writer} {fl : T → ℕ} {n k : ℕ} {s P P' L L' : List ℕ} {a : Cursor} where
  loose_next : {b : Cursor} {f : ℕ} → LoosePost sp w fl n k s P P' L L' a (Ok (b, f)) → LooseRead sp w fl n k s P P' L L' a b f
  loose_next (next h) = h

  loose_stop : {i : ℕ} → LoosePost sp w fl n k s P P' L L' a (Err i) → ReadsNone sp (After k) (drop a.at s)
  loose_stop (stop h) = h

  -- the tree that was read, or that there is none
  pub loose_of : {r : Step} {b : Cursor} {f : ℕ} → LoosePost sp w fl n k s P P' L L' a r → r ≡ Ok (b, f) → LooseRead sp w fl n k s P P' L L' a b f
  loose_of h e = loose_next (rw e at h)

  pub loose_none_of : {r : Step} {i : ℕ} → LoosePost sp w fl n k s P P' L L' a r → r ≡ Err i → ReadsNone sp (After k) (drop a.at s)
  loose_none_of h e = loose_stop (rw e at h)

  -- what is settled wholly is settled up to blanks
  pub post_loose : {r : Step} → Post sp w fl k s P P' L L' a r → LoosePost sp w fl n k s P P' L L' a r
  post_loose (stop h) = stop h
  post_loose (next {b = b} h) =
      next {b = b} (record {
        tree = h.tree;
        eq = h.reads.eq;
        same = λ t r m e. (h.reads.only t r m e).0;
        rest = λ t r m e. ap unblank (h.reads.only t r m e).1;
        exact = λ o t r m e. (h.reads.only t r m e).1;
        from = h.from;
        to = h.to;
        done = h.done;
        flag = h.flag;
        utf8 = h.utf8;
      })
