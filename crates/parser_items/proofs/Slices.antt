-- Slices and indices: an int with a colon behind its blanks begins a slice, and any other is an index.
-- Assumes nothing.
use Rattle.std.specs.Prelude.{Some, None, Ok, Err}
use mathlib.Core.Path.{◌≡◌, refl, sym, ap, subst, ◌∙◌}
use mathlib.Core.Bool.{Bool, true, false}
use mathlib.Core.List.{List, ◌∷◌}
use Prim.Native.Nat.{ℕ, ◌+◌, ◌≤◌}
use native.Mathlib.Omega.{arith}
use lib.ListN.{length, drop}
use Rattle.definition.specs.Bytes.{little_endian}
use Rattle.definition.specs.Lexical as X
use Rattle.definition.specs.Lexical.{is_digit, Int, Bound, Slice, spell_blanks, spell_int, spell_bound, spell_step, spell_slice}
use Rattle.definition.specs.Lexical.Bound.{no_bound, bound}
use Rattle.definition.specs.Lexical.Step.{no_step, colon, step}
use Rattle.definition.specs.Utf8.{is_utf8}
use Rattle.parser_follow.specs.Blanks.{split_blanks, unblank_blanks}
use Rattle.basics.specs.Reads.{StartsNot}
use Rattle.parser_follow.specs.Follow.{after_not}
use Rattle.utf8_laws.specs.Encode.{utf8_ascii}
use Rattle.parser_scan.specs.Text.{Is, Skipped, unblank}
use Rattle.compile_writes.specs.Effects.{Effect, Writer, bytes, mark, seq}
use Rattle.compile_writes.specs.Writes.{write_index, write_slice, bound_bit, bound_bytes, bound_verdict, step_bit, step_bytes, step_verdict}
use Rattle.parser_follow.specs.Leaves.{text_plain, wild_plain, slice_plain, index_plain}
use Rattle.parser_items.specs.Reads.{After, Done, LoosePost, next, stop, PutMarked, Plain, spell_plain, write_plain, is_plain}
use Rattle.parser_items.specs.Laws.{Moved, moved_done, done_marked, unblank_twice}
use Rattle.parser_items.specs.Follow.{is_int_start, inner_digit, after_digit, after_int}
use Rattle.parser_items.specs.Ranges.{Field, int_field, no_field, bound_field, step_field, field_of, bits_of, verdict_of, IntThere, NoInt, IntOrNot, StepThere, NoText, bit_of, slice_bytes, slice_marks}
use Rattle.parser_items.specs.declared.ranges.Piece.{Piece}
use Rattle.parser_items.specs.declared.ranges.Value.{Value}
use Rattle.parser_items.specs.declared.Cursor.{Cursor}
use Rattle.parser_items.proofs.Quotes.{no_quoted}
use Rattle.parser_items.proofs.Ints.{int_not, int_unblank, int_utf8, after_no_int, starts_digit, starts_blanks, field_same, BoundThere, bound_there}

-- a colon is no blank, and nothing that begins with one may follow a tree
after_no_colon : {k : ℕ} (l r : List ℕ) → unblank l ≡ 0x3A ∷ r → After k l → ⊥
after_no_colon l r e a = after_not _ {s = l} 0x3A {r = r} e (omega arith) a

-- ---- the step

module _ (s : List ℕ) (a : ℕ) where
  -- no colon: there is no step
  pub step_none : a ≤ length s → Is s a 0x3A false → StepThere s a (record { end = a; at = a; value = None })
  step_none l n = record { tree = no_step; eq = refl; only = only; from = omega arith; to = l; utf8 = λ u. u; field = refl }
    where
      only : (t' : X.Step) (r' : List ℕ) → After 4 r' → drop a s ≡ spell_step t' r' → (step_field t' ≡ no_field) × (r' ≡ drop a s)
      only no_step r' m e = (refl, sym e)
      only colon r' m e = absurd (n r' e)
      only (step b i) r' m e = absurd (n (spell_blanks b (spell_int i r')) e)

  module _ {b : ℕ} (i : Is s a 0x3A true) (k : Skipped s (a + 1) b) where
    colon_utf8 : is_utf8 (drop a s) ≡ true → is_utf8 (drop (a + 1) s) ≡ true
    colon_utf8 u = sym (utf8_ascii 0x3A (drop (a + 1) s) (omega arith)) ∙ (rw i.1 at u)

    -- a colon with no int behind it
    pub step_colon : {q : Piece} → NoInt s b q → StepThere s a (record { end = a + 1; at = a + 1; value = q.value })
    step_colon {q} n = record { tree = colon; eq = i.1; only = only; from = omega arith; to = i.0; utf8 = colon_utf8; field = n.field }
      where
        only : (t' : X.Step) (r' : List ℕ) → After 4 r' → drop a s ≡ spell_step t' r' → (step_field t' ≡ no_field) × (r' ≡ drop (a + 1) s)
        only no_step r' m f = absurd (after_no_colon r' (drop (a + 1) s) (ap unblank (sym f ∙ i.1)) m)
        only colon r' m f = let g = i.1 in (refl, cc)
        only (step c j) r' m f =
            let g = i.1 in
            let h : drop (a + 1) s ≡ spell_blanks c (spell_int j r') = cc in
            absurd (n.reads.none j r' (after_digit r' m) (k.rest ∙ ap unblank h ∙ unblank_blanks c (spell_int j r') ∙ int_unblank j r'))

    -- a colon with an int behind it
    pub step_int : {q : Piece} → IntThere s b q → StepThere s a (record { end = q.end; at = q.end; value = q.value })
    step_int {q} h =
        let c = split_blanks (drop (a + 1) s) in
        record {
          tree = step c.0 h.int;
          eq = i.1 ∙ ap (λ (l : List ℕ). 0x3A ∷ l) (c.1 ∙ ap (spell_blanks c.0) (sym k.rest ∙ h.is.reads.eq));
          only = only;
          from = omega (arith, k.from, h.is.from);
          to = h.is.to;
          utf8 = λ u. sym (int_utf8 h.int (drop q.end s)) ∙ (rw h.is.reads.eq at (k.utf8 (colon_utf8 u)));
          field = h.field;
        }
      where
        only : (t' : X.Step) (r' : List ℕ) → After 4 r' → drop a s ≡ spell_step t' r' → (step_field t' ≡ int_field h.int) × (r' ≡ drop q.end s)
        only no_step r' m f = absurd (after_no_colon r' (drop (a + 1) s) (ap unblank (sym f ∙ i.1)) m)
        only colon r' m f =
            let g = i.1 in
            let e : drop (a + 1) s ≡ r' = cc in
            absurd (after_no_int h.int (drop q.end s) r' (ap unblank (sym e) ∙ sym k.rest ∙ h.is.reads.eq) m)
        only (step c j) r' m f =
            let g = i.1 in
            let e : drop (a + 1) s ≡ spell_blanks c (spell_int j r') = cc in
            let o = h.is.reads.only j r' (after_digit r' m) (k.rest ∙ ap unblank e ∙ unblank_blanks c (spell_int j r') ∙ int_unblank j r') in
            (field_same j h.int o.0, o.1)

-- ---- a slice

-- A bound and a step behind blanks: what is left behind them may be taken without its blanks, so that they begin with none.
record Settled (t : Bound) (v : X.Step) (r : List ℕ) : Type 0 where
  rest : List ℕ
  may : After 4 rest
  same : unblank rest ≡ unblank r
  is : unblank (spell_bound t (spell_step v r)) ≡ spell_bound t (spell_step v rest)

settle : (t : Bound) (v : X.Step) (r : List ℕ) → After 4 r → Settled t v r
settle no_bound no_step r m = record { rest = unblank r; may = record { above = rw (unblank_twice r) m.above }; same = unblank_twice r; is = refl }
settle no_bound colon r m = record { rest = r; may = m; same = refl; is = refl }
settle no_bound (step b i) r m = record { rest = r; may = m; same = refl; is = refl }
settle (bound i b) v r m = record { rest = r; may = m; same = refl; is = int_unblank i (spell_blanks b (spell_step v r)) }

-- no int follows a bound
step_starts : (v : X.Step) (r : List ℕ) → After 4 r → StartsNot is_int_start (spell_step v r)
unfolding StartsNot
step_starts no_step r m = after_int r m
step_starts colon r m = refl
step_starts (step b i) r m = refl

colon_starts : (r : List ℕ) → StartsNot is_int_start (0x3A ∷ r)
unfolding StartsNot
colon_starts r = refl

module _ (s : List ℕ) {a b : ℕ} {p q u : Piece} (x : BoundThere s a p) (i : Is s p.at 0x3A true) (k : Skipped s (p.at + 1) b) (y : BoundThere s b q) (z : StepThere s q.at u) where
  -- the slice that stands there
  abbrev slice_there : Slice
  slice_there = record { start = x.tree; blanks = (split_blanks (drop (p.at + 1) s)).0; stop = y.tree; by = z.tree }

  slice_eq : drop a s ≡ spell_slice slice_there (drop u.at s)
  slice_eq =
      let c = split_blanks (drop (p.at + 1) s) in
      x.eq ∙ ap (spell_bound x.tree) (i.1 ∙ ap (λ (l : List ℕ). 0x3A ∷ l) (c.1 ∙ ap (spell_blanks c.0) (sym k.rest ∙ y.eq ∙ ap (spell_bound y.tree) z.eq)))

  -- what is left behind the second bound begins with no blank
  behind_solid : unblank (drop q.at s) ≡ drop q.at s
  behind_solid = y.solid (rw k.rest (unblank_twice (drop (p.at + 1) s)))

  slice_step_lem : (v : X.Step) (r : List ℕ) → After 4 r → unblank (spell_step v r) ≡ drop q.at s → (step_field v ≡ step_field z.tree) × (unblank r ≡ unblank (drop u.at s))
  slice_step_lem no_step r m e =
      let o = z.only no_step (drop q.at s) (record { above = rw (behind_solid, ← e) m.above }) refl in
      (o.0, e ∙ sym behind_solid ∙ ap unblank o.1)
  slice_step_lem colon r m e = let o = z.only colon r m (sym e) in (o.0, ap unblank o.1)
  slice_step_lem (step c j) r m e = let o = z.only (step c j) r m (sym e) in (o.0, ap unblank o.1)

  slice_only : (t : Slice) (r : List ℕ) → After 4 r → drop a s ≡ spell_slice t r →
      (bound_field t.start ≡ bound_field x.tree) × ((bound_field t.stop ≡ bound_field y.tree) × ((step_field t.by ≡ step_field z.tree) × (unblank r ≡ unblank (drop u.at s))))
  slice_only t r m e =
      let inner : List ℕ = spell_bound t.stop (spell_step t.by r) in
      let o = x.only t.start (0x3A ∷ spell_blanks t.blanks inner) (colon_starts (spell_blanks t.blanks inner)) e in
      let f : 0x3A ∷ spell_blanks t.blanks inner ≡ 0x3A ∷ drop (p.at + 1) s = o.1 ∙ ap unblank i.1 in
      let g : spell_blanks t.blanks inner ≡ drop (p.at + 1) s = cc in
      let c = settle t.stop t.by r m in
      let h : drop b s ≡ spell_bound t.stop (spell_step t.by c.rest) = k.rest ∙ ap unblank (sym g) ∙ unblank_blanks t.blanks inner ∙ c.is in
      let n = y.only t.stop (spell_step t.by c.rest) (step_starts t.by c.rest c.may) h in
      let l = slice_step_lem t.by c.rest c.may (n.1 ∙ behind_solid) in
      (o.0, (n.0, (l.0, sym c.same ∙ l.1)))

-- ---- what is written for a slice and for an index

bit_bound : (t : Bound) (n : ℕ) → bound_bit t n ≡ bit_of (bound_field t).given n
unfolding bound_bit
bit_bound no_bound n = refl
bit_bound (bound i b) n = refl

bytes_bound : (t : Bound) → bound_bytes t ≡ (bound_field t).bytes
unfolding bound_bytes
bytes_bound no_bound = refl
bytes_bound (bound i b) = refl

verdict_bound : (t : Bound) → bound_verdict t ≡ (bound_field t).verdict
unfolding bound_verdict
verdict_bound no_bound = refl
verdict_bound (bound i b) = refl

bit_step : (t : X.Step) → step_bit t ≡ bit_of (step_field t).given 4
unfolding step_bit
bit_step no_step = refl
bit_step colon = refl
bit_step (step b i) = refl

bytes_step : (t : X.Step) → step_bytes t ≡ (step_field t).bytes
unfolding step_bytes
bytes_step no_step = refl
bytes_step colon = refl
bytes_step (step b i) = refl

verdict_step : (t : X.Step) → step_verdict t ≡ (step_field t).verdict
unfolding step_verdict
verdict_step no_step = refl
verdict_step colon = refl
verdict_step (step b i) = refl

-- what is written for three fields
abbrev slice_writer : Field → Field → Field → Writer
slice_writer f g h = seq (bytes (slice_bytes f g h)) (mark (slice_marks f g h))

slice_written : (t : Slice) (n : ℕ) → write_slice t n ≡ slice_writer (bound_field t.start) (bound_field t.stop) (step_field t.by) n
unfolding write_slice
slice_written t n =
    rw (bit_bound t.start 1, bit_bound t.stop 2, bit_step t.by, bytes_bound t.start, bytes_bound t.stop, bytes_step t.by, verdict_bound t.start, verdict_bound t.stop, verdict_step t.by)

-- what is written for the field of an int
abbrev index_writer : Field → Writer
index_writer f = seq (bytes (0x06 ∷ f.bytes)) (mark (record { verdict = f.verdict; beyond = false }))

index_written : (i : Int) (n : ℕ) → write_index i n ≡ index_writer (int_field i) n
unfolding write_index
index_written i n = refl

-- ---- the answers

module _ {s : List ℕ} (a : Cursor) (no : NoText s a.at) where
  module _ (p : Piece) (colonThere : Is s p.at 0x3A true) where
    -- where a colon stands behind the blanks of an int, or with no int, there is no index
    no_index : (g : Bool) → IntOrNot s a.at p g → (i : Int) (r : List ℕ) → After 4 r → drop a.at s ≡ spell_int i r → ⊥
    no_index true h i r m e =
        let o = h.is.reads.only i r (after_digit r m) e in
        after_no_colon r (drop (p.at + 1) s) (ap unblank o.1 ∙ sym h.skipped.rest ∙ colonThere.1) m
    no_index false h i r m e = h.reads.none i r (after_digit r m) e

    module _ {b : ℕ} {q u : Piece} (g : Bool) (h : IntOrNot s a.at p g) (k : Skipped s (p.at + 1) b) (y : BoundThere s b q) (z : StepThere s q.at u) where
      slice_alone : (t : Plain) (r : List ℕ) → After 4 r → drop a.at s ≡ spell_plain t r →
          (◌≡◌ {A = Effect × ℕ} (write_plain t a.pool, is_plain t) (slice_writer (field_of p) (field_of q) (field_of u) a.pool, 0)) × (unblank r ≡ unblank (drop u.at s))
      slice_alone (text_plain t) r m e = absurd (no_quoted s a.at no.double no.single t r e)
      slice_alone wild_plain r m e = absurd (no.star r e)
      slice_alone (index_plain i) r m e = absurd (no_index g h i r m e)
      slice_alone (slice_plain t) r m e =
          let x = bound_there g h in
          let o = slice_only s x colonThere k y z t r m e in
          (ap (λ (w : Effect). (w, 0)) (slice_written t a.pool ∙ rw (o.0 ∙ sym x.field, o.1.0 ∙ sym y.field, o.1.1.0 ∙ sym z.field)), o.1.1.1)

      -- a slice is read and written
      pub slice_post : {P P' : List ℕ} (L : List ℕ) {c d : Cursor} → is_utf8 (drop a.at s) ≡ true → PutMarked P P' a c (slice_bytes (field_of p) (field_of q) (field_of u)) (slice_marks (field_of p) (field_of q) (field_of u)) → Moved c d u.at →
          LoosePost spell_plain write_plain is_plain 1 4 s P P' L L a (Ok (d, 0))
      slice_post {P} {P'} L {c} {d} v w m =
          let x = bound_there g h in
          let t : Slice = slice_there s x colonThere k y z in
          let f : slice_writer (field_of p) (field_of q) (field_of u) a.pool ≡ write_slice t a.pool = sym (slice_written t a.pool ∙ rw (sym x.field, sym y.field, sym z.field)) in
          next {b = d} (record {
            tree = slice_plain t;
            eq = rw m.0 (slice_eq s x colonThere k y z);
            same = λ t' r' n e. (slice_alone t' r' n e).0 ∙ ap (λ (w' : Effect). (w', 0)) f;
            rest = λ t' r' n e. rw m.0 (slice_alone t' r' n e).1;
            exact = λ (o : ◌≡◌ {A = ℕ} 0 1). absurd (omega arith);
            from = omega (arith, m.0, x.from, k.from, y.from, z.from);
            to = omega (arith, m.0, z.to);
            done = moved_done {b = c} (subst (λ (e : Effect). Done P P' L L a c e) f (done_marked w)) m;
            flag = refl;
            utf8 = rw m.0 (z.utf8 (y.utf8 (k.utf8 (colon_utf8 s p.at colonThere k (x.utf8 v)))));
          })

  module _ (p : Piece) (colonNot : Is s p.at 0x3A false) where
    -- where no colon stands behind the blanks of an int, there is no slice
    no_slice : (h : IntThere s a.at p) (t : Slice) (r : List ℕ) → drop a.at s ≡ spell_slice t r → ⊥
    no_slice h t r e = by t.start (spell_blanks t.blanks (spell_bound t.stop (spell_step t.by r))) e
      where
        by : (c : Bound) (l : List ℕ) → drop a.at s ≡ spell_bound c (0x3A ∷ l) → ⊥
        by no_bound l q = int_not h.int (drop p.end s) 0x3A l refl q h.is.reads.eq
        by (bound j b) l q =
            let o = h.is.reads.only j (spell_blanks b (0x3A ∷ l)) (starts_blanks is_digit inner_digit b (0x3A ∷ l) (starts_digit (0x3A ∷ l) (colon_starts l))) q in
            colonNot l (h.skipped.rest ∙ ap unblank (sym o.1) ∙ unblank_blanks b (0x3A ∷ l))

    -- where neither a colon nor an int stands, there is neither
    pub range_none : {P P' L L' : List ℕ} {j : ℕ} → NoInt s a.at p → LoosePost spell_plain write_plain is_plain 1 4 s P P' L L' a (Err j)
    range_none h = stop (record { none = none })
      where
        bounded : (c : Bound) (l : List ℕ) → drop a.at s ≡ spell_bound c (0x3A ∷ l) → ⊥
        bounded no_bound l q = colonNot l (rw h.at q)
        bounded (bound j b) l q = h.reads.none j (spell_blanks b (0x3A ∷ l)) (starts_blanks is_digit inner_digit b (0x3A ∷ l) (starts_digit (0x3A ∷ l) (colon_starts l))) q

        none : (t : Plain) (r : List ℕ) → After 4 r → drop a.at s ≡ spell_plain t r → ⊥
        none (text_plain t) r m e = no_quoted s a.at no.double no.single t r e
        none wild_plain r m e = no.star r e
        none (slice_plain t) r m e = bounded t.start (spell_blanks t.blanks (spell_bound t.stop (spell_step t.by r))) e
        none (index_plain i) r m e = h.reads.none i r (after_digit r m) e

    module _ (h : IntThere s a.at p) where
      index_alone : (t : Plain) (r : List ℕ) → After 4 r → drop a.at s ≡ spell_plain t r →
          (◌≡◌ {A = Effect × ℕ} (write_plain t a.pool, is_plain t) (index_writer (field_of p) a.pool, 1)) × (r ≡ drop p.end s)
      index_alone (text_plain t) r m e = absurd (no_quoted s a.at no.double no.single t r e)
      index_alone wild_plain r m e = absurd (no.star r e)
      index_alone (slice_plain t) r m e = absurd (no_slice h t r e)
      index_alone (index_plain i) r m e =
          let o = h.is.reads.only i r (after_digit r m) e in
          (ap (λ (w : Effect). (w, 1)) (index_written i a.pool ∙ ap (λ (f : Field). index_writer f a.pool) (field_same i h.int o.0 ∙ sym h.field)), o.1)

      -- an index is read and written
      pub index_post : {x : Value} → p.value ≡ Some x → {P P' : List ℕ} (L : List ℕ) {c d : Cursor} → is_utf8 (drop a.at s) ≡ true → PutMarked P P' a c (0x06 ∷ little_endian 8 x.bits) (record { verdict = x.verdict; beyond = false }) → Moved c d p.end →
          LoosePost spell_plain write_plain is_plain 1 4 s P P' L L a (Ok (d, 1))
      index_post {x} k {P} {P'} L {c} {d} v w m =
          let o : PutMarked P P' a c (0x06 ∷ little_endian 8 (bits_of p.value)) (record { verdict = verdict_of p.value; beyond = false }) = rw k w in
          let f : index_writer (field_of p) a.pool ≡ write_index h.int a.pool = sym (index_written h.int a.pool ∙ ap (λ (g : Field). index_writer g a.pool) (sym h.field)) in
          next {b = d} (record {
            tree = index_plain h.int;
            eq = rw m.0 h.is.reads.eq;
            same = λ t' r' n e. (index_alone t' r' n e).0 ∙ ap (λ (w' : Effect). (w', 1)) f;
            rest = λ t' r' n e. rw m.0 (ap unblank (index_alone t' r' n e).1);
            exact = λ o t' r' n e. rw m.0 (index_alone t' r' n e).1;
            from = omega (arith, m.0, h.is.from);
            to = omega (arith, m.0, h.is.to);
            done = moved_done {b = c} (subst (λ (e : Effect). Done P P' L L a c e) f (done_marked o)) m;
            flag = refl;
            utf8 = rw m.0 (sym (int_utf8 h.int (drop p.end s)) ∙ (rw h.is.reads.eq at v));
          })
