-- Ints in a text: what they begin with, what may follow them, and the bounds that they make with the blanks behind them.
-- Assumes nothing.
use Rattle.std.specs.Prelude.{Some, None, Result, Ok, Err, is_some}
use mathlib.Core.Path.{◌≡◌, refl, sym, ap, subst, ◌∙◌}
use mathlib.Core.Bool.{Bool, true, false, true≢false, and-eq-true_iff}
use mathlib.Core.List.{List, [], ◌∷◌, ◌++◌}
use Prim.Native.Nat.{ℕ, ◌≤◌, ◌<◌}
use native.Mathlib.Omega.{arith}
use lib.IntN.{ℤ}
use lib.ListN.{length, drop}
use mir.Syntax.{w64}
use mir.Val.{to_z, of_z}
use Rattle.definition.specs.Bytes.{every, unsigned64}
use Rattle.definition.specs.Lexical.{is_blank, is_digit, is_digit1, Natural, Int, Bound, Blanks, spell_blanks, spell_natural, spell_int, spell_bound}
use Rattle.definition.specs.Lexical.Int.{zero_int, plain_int, minus_int}
use Rattle.definition.specs.Lexical.Bound.{no_bound, bound}
use Rattle.definition.specs.Literals.{int_value, in_range}
use Rattle.definition.specs.Utf8.{is_utf8}
use Rattle.parser_follow.specs.Blanks.{split_blanks, unblank_blanks, unblank_byte}
use Rattle.basics.specs.Reads.{ReadsNone, StartsNot}
use Rattle.number_parse.specs.Ints as N
use Rattle.number_parse.specs.Ints.{IntAt, IntAnswer}
use Rattle.number_parse.specs.declared.IntRead.{IntRead}
use Rattle.number_parse.specs.declared.IntError.{IntError}
use Rattle.number_parse.specs.declared.IntError.TheVariants as error
use Rattle.utf8_laws.specs.Bytes.{by_test, inside, inside_low, inside_high}
use Rattle.utf8_laws.specs.Encode.{utf8_ascii}
use Rattle.parser_scan.specs.Text.{Skipped, unblank}
use Rattle.compile_writes.specs.Writes.{kept_int, verdict_int}
use Rattle.parser_items.specs.Reads.{level_of, After}
use Rattle.parser_items.specs.Laws.{unblank_twice}
use Rattle.parser_items.specs.Follow.{Inner, is_int_start, inner_int, inner_digit}
use Rattle.parser_items.specs.Ranges.{int_field, no_field, bound_field, field_of, IntThere, NoInt, IntOrNot}
use Rattle.parser_items.specs.declared.ranges.Piece.{Piece}
use Rattle.parser_items.proofs.Bits.{range_bits}

-- ---- the first byte of an int

-- a digit that may begin a number is a digit
pub first_digit : (c : ℕ) → is_digit1 c ≡ true → is_digit c ≡ true
first_digit c e =
    let l = inside_low 0x31 0x39 c e in
    let h = inside_high 0x31 0x39 c e in
    inside 0x30 0x39 c (omega arith) h

-- an int begins with a digit or a minus
pub record Begun (s : List ℕ) : Type 0 where
  pub byte : ℕ
  pub rest : List ℕ
  pub is : s ≡ byte ∷ rest
  pub good : is_int_start byte ≡ true

pub int_begun : (i : Int) (r : List ℕ) → Begun (spell_int i r)
int_begun zero_int r = record { byte = 0x30; rest = r; is = refl; good = refl }
int_begun (plain_int n) r = record { byte = n.first; rest = n.more ++ r; is = refl; good = rw (first_digit n.first n.is_first) }
int_begun (minus_int n) r = record { byte = 0x2D; rest = spell_natural n r; is = refl; good = refl }

-- so no other byte begins one
pub int_not : {s : List ℕ} (i : Int) (r : List ℕ) (x : ℕ) (l : List ℕ) → is_int_start x ≡ false → s ≡ x ∷ l → s ≡ spell_int i r → ⊥
int_not i r x l f e q =
    let g = int_begun i r in
    let h = g.is in
    let j : x ≡ g.byte = cc in
    true≢false (sym g.good ∙ (rw j at f))

-- what begins no int is none
pub int_starts : (i : Int) (r : List ℕ) → StartsNot is_int_start (spell_int i r) → ⊥
unfolding StartsNot
int_starts i r h =
    let g = int_begun i r in
    true≢false (sym g.good ∙ (rw g.is at h))

-- an int begins with no blank
pub int_unblank : (i : Int) (r : List ℕ) → unblank (spell_int i r) ≡ spell_int i r
int_unblank i r =
    let g = int_begun i r in
    rw g.is (unblank_byte g.byte g.rest (inner_int g.byte g.good).solid)

-- no int may follow a tree
pub after_no_int : {k : ℕ} (i : Int) (r l : List ℕ) → unblank l ≡ spell_int i r → After k l → ⊥
after_no_int {k} i r l e a =
    let g = int_begun i r in
    let n = inner_int g.byte g.good in
    let f : k < level_of g.byte = rw (e ∙ g.is) at a.above in
    omega (arith, n.unlevelled)

-- ---- UTF-8 behind an int

pub digit_ascii : (c : ℕ) → is_digit c ≡ true → c < 0x80
digit_ascii c e = let h = inside_high 0x30 0x39 c e in omega arith

-- bytes of a class of ASCII in front of a text leave it UTF-8, or not, as it was
pub every_utf8 : (p : ℕ → Bool) → ((c : ℕ) → p c ≡ true → c < 0x80) → (a r : List ℕ) → every p a ≡ true → is_utf8 (a ++ r) ≡ is_utf8 r
every_utf8 p f [] r e = refl
every_utf8 p f (c ∷ a) r e =
    let t = (and-eq-true_iff (p c) (every p a)).0 e in
    utf8_ascii c (a ++ r) (f c t.0) ∙ every_utf8 p f a r t.1

pub natural_utf8 : (n : Natural) (r : List ℕ) → is_utf8 (spell_natural n r) ≡ is_utf8 r
natural_utf8 n r = utf8_ascii n.first (n.more ++ r) (digit_ascii n.first (first_digit n.first n.is_first)) ∙ every_utf8 is_digit digit_ascii n.more r n.are_more

pub int_utf8 : (i : Int) (r : List ℕ) → is_utf8 (spell_int i r) ≡ is_utf8 r
int_utf8 zero_int r = utf8_ascii 0x30 r (omega arith)
int_utf8 (plain_int n) r = natural_utf8 n r
int_utf8 (minus_int n) r = utf8_ascii 0x2D (spell_natural n r) (omega arith) ∙ natural_utf8 n r

-- ---- what follows an int

starts_bytes : (p : ℕ → Bool) → ((c : ℕ) → p c ≡ true → Inner c) → (b r : List ℕ) → every is_blank b ≡ true → StartsNot p r → StartsNot p (b ++ r)
unfolding StartsNot
starts_bytes p f [] r e h = h
starts_bytes p f (c ∷ b) r e h =
    let t = (and-eq-true_iff (is_blank c) (every is_blank b)).0 e in
    by_test (p c) (λ y. absurd (true≢false (sym t.0 ∙ (f c y).solid))) (λ n. n)

-- blanks in front of a text that begins with no byte of a class change nothing in that
pub starts_blanks : (p : ℕ → Bool) → ((c : ℕ) → p c ≡ true → Inner c) → (b : Blanks) (r : List ℕ) → StartsNot p r → StartsNot p (spell_blanks b r)
starts_blanks p f b r h = starts_bytes p f b.bytes r b.good h

-- what begins no int begins with no digit
pub starts_digit : (r : List ℕ) → StartsNot is_int_start r → StartsNot is_digit r
unfolding StartsNot
starts_digit [] h = tt
starts_digit (c ∷ r) h = by_test (is_digit c) (λ t. absurd (true≢false (rw t at h))) (λ f. f)

-- ---- the field of an int

-- what is written for an int goes by its value
pub field_same : (i j : Int) → int_value i ≡ int_value j → int_field i ≡ int_field j
unfolding kept_int verdict_int
field_same i j e = rw e

-- ---- what the reader of ints tells

int_next : {s : List ℕ} {a : ℕ} {r : IntRead} → IntAnswer s a (Ok r) → (i : Int) × IntAt s a r.end i × (r.value ≡ int_value i) × (in_range r.value ≡ true)
int_next (N.next_int t h e r) = (t, h, e, r)

int_out : {s : List ℕ} {a e : ℕ} → IntAnswer s a (Err (error.OutOfRange e)) → (i : Int) × IntAt s a e i × (in_range (int_value i) ≡ false)
int_out (N.out_int t h r) = (t, h, r)

int_nothing : {s : List ℕ} {a i : ℕ} → IntAnswer s a (Err (error.Nothing i)) → ReadsNone spell_int (StartsNot is_digit) (drop a s)
int_nothing (N.no_int l h r) = r

module _ {s : List ℕ} {a : ℕ} {r : Result IntRead IntError} (h : IntAnswer s a r) where
  pub next_of : {v : IntRead} → r ≡ Ok v → (i : Int) × IntAt s a v.end i × (v.value ≡ int_value i) × (in_range v.value ≡ true)
  next_of q = int_next (rw q at h)

  pub out_of : {e : ℕ} → r ≡ Err (error.OutOfRange e) → (i : Int) × IntAt s a e i × (in_range (int_value i) ≡ false)
  out_of q = int_out (rw q at h)

  pub nothing_of : {i : ℕ} → r ≡ Err (error.Nothing i) → ReadsNone spell_int (StartsNot is_digit) (drop a s)
  nothing_of q = int_nothing (rw q at h)

-- ---- the int that was read, as a piece

-- one in range
pub there_next : {s : List ℕ} {a e b n : ℕ} {v : ℤ} → (i : Int) × IntAt s a e i × (v ≡ int_value i) × (in_range v ≡ true) → Skipped s e b → n ≡ unsigned64 (to_z w64 (of_z w64 v)) →
    IntThere s a (record { end = e; at = b; value = Some (record { bits = n; verdict = 0 }) })
unfolding kept_int verdict_int
there_next {v = v} h k q =
    let w : in_range (int_value h.0) ≡ true = rw h.2 at h.3 in
    record { int = h.0; is = h.1; skipped = k; field = rw (w, q ∙ ap unsigned64 (range_bits v h.3 ∙ h.2)) }

-- one out of range
pub there_out : {s : List ℕ} {a e b : ℕ} → (i : Int) × IntAt s a e i × (in_range (int_value i) ≡ false) → Skipped s e b →
    IntThere s a (record { end = e; at = b; value = Some (record { bits = 0; verdict = 4 }) })
unfolding kept_int verdict_int
there_out h k = record { int = h.0; is = h.1; skipped = k; field = rw h.2 }

-- none
pub there_none : (s : List ℕ) (a : ℕ) {e : ℕ} → ReadsNone spell_int (StartsNot is_digit) (drop a s) → NoInt s a (record { end = e; at = a; value = None })
there_none s a n = record { reads = n; at = refl; field = refl }

-- ---- a bound: an int with the blanks behind it, or nothing

-- What stands at a place as a bound, and that a bound which no int follows has the same field and leaves the same text, but for blanks.
pub record BoundThere (s : List ℕ) (a : ℕ) (p : Piece) : Type 0 where
  pub tree : Bound
  pub eq : drop a s ≡ spell_bound tree (drop p.at s)
  pub only : (t' : Bound) (r' : List ℕ) → StartsNot is_int_start r' → drop a s ≡ spell_bound t' r' → (bound_field t' ≡ bound_field tree) × (unblank r' ≡ unblank (drop p.at s))
  pub field : field_of p ≡ bound_field tree
  pub solid : unblank (drop a s) ≡ drop a s → unblank (drop p.at s) ≡ drop p.at s
  pub from : a ≤ p.at
  pub to : a ≤ length s → p.at ≤ length s
  pub utf8 : is_utf8 (drop a s) ≡ true → is_utf8 (drop p.at s) ≡ true

module _ {s : List ℕ} {a : ℕ} {p : Piece} where
  given_only : (h : IntThere s a p) (t' : Bound) (r' : List ℕ) → StartsNot is_int_start r' → drop a s ≡ spell_bound t' r' → (bound_field t' ≡ int_field h.int) × (unblank r' ≡ unblank (drop p.at s))
  given_only h no_bound r' m q = absurd (int_starts h.int (drop p.end s) (rw (sym q ∙ h.is.reads.eq) at m))
  given_only h (bound i b) r' m q =
      let o = h.is.reads.only i (spell_blanks b r') (starts_blanks is_digit inner_digit b r' (starts_digit r' m)) q in
      (field_same i h.int o.0, sym (unblank_blanks b r') ∙ ap unblank o.1 ∙ sym (unblank_twice (drop p.end s)) ∙ ap unblank (sym h.skipped.rest))

  bound_given : IntThere s a p → BoundThere s a p
  bound_given h =
      let b = split_blanks (drop p.end s) in
      record {
        tree = bound h.int b.0;
        eq = h.is.reads.eq ∙ ap (spell_int h.int) (b.1 ∙ ap (spell_blanks b.0) (sym h.skipped.rest));
        only = given_only h;
        field = h.field;
        solid = λ e. rw h.skipped.rest (unblank_twice (drop p.end s));
        from = omega (arith, h.is.from, h.skipped.from);
        to = λ l. h.skipped.to;
        utf8 = λ u. h.skipped.utf8 (sym (int_utf8 h.int (drop p.end s)) ∙ (rw h.is.reads.eq at u));
      }

  absent_only : (h : NoInt s a p) (t' : Bound) (r' : List ℕ) → StartsNot is_int_start r' → drop a s ≡ spell_bound t' r' → (bound_field t' ≡ no_field) × (unblank r' ≡ unblank (drop p.at s))
  absent_only h no_bound r' m q = (refl, rw h.at (ap unblank (sym q)))
  absent_only h (bound i b) r' m q = absurd (h.reads.none i (spell_blanks b r') (starts_blanks is_digit inner_digit b r' (starts_digit r' m)) q)

  bound_absent : NoInt s a p → BoundThere s a p
  bound_absent h =
      record {
        tree = no_bound;
        eq = rw h.at;
        only = absent_only h;
        field = h.field;
        solid = λ e. rw h.at e;
        from = omega (arith, h.at);
        to = λ l. omega (arith, h.at);
        utf8 = λ u. rw h.at u;
      }

-- what was read as an int or none is a bound
pub bound_there : {s : List ℕ} {a : ℕ} {p : Piece} (g : Bool) → IntOrNot s a p g → BoundThere s a p
bound_there true h = bound_given h
bound_there false h = bound_absent h

-- the two cases of a piece
pub given_of : {s : List ℕ} {a : ℕ} {p : Piece} → IntOrNot s a p (is_some p.value) → is_some p.value ≡ true → IntThere s a p
given_of {s} {a} {p} h e = subst (IntOrNot s a p) e h

pub absent_of : {s : List ℕ} {a : ℕ} {p : Piece} → IntOrNot s a p (is_some p.value) → is_some p.value ≡ false → NoInt s a p
absent_of {s} {a} {p} h e = subst (IntOrNot s a p) e h
