-- Number literals: what stands for each is written, and what may follow a number goes on with none of its characters.
-- Assumes nothing.
use Rattle.std.specs.Prelude.{Result, Ok, Err}
use mathlib.Core.Path.{◌≡◌, refl, sym, ap, subst, ◌∙◌}
use mathlib.Core.Bool.{true, false, true≢false}
use mathlib.Core.List.{List, [], ◌∷◌, ◌++◌}
use Prim.Native.Nat.{ℕ, ◌+◌, ◌≤◌, ◌<◌}
use native.Mathlib.Omega.{arith}
use borrow.Author.Tests.{eqb-true}
use lib.Dec.{eqb}
use lib.IntN.{ℤ}
use lib.ListN.{drop}
use mir.Syntax.{w64}
use mir.Val.{SFits, to_z, of_z}
use mir.ValLaws.{to_z-of_z}
use Rattle.definition.specs.Bytes.{little_endian, unsigned64}
use Rattle.definition.specs.Lexical as X
use Rattle.definition.specs.Lexical.{is_blank, is_digit, is_e, Digits, Whole, Fraction, Exponent, Number, spell_digits, spell_whole, spell_fraction, spell_sign, spell_exponent, spell_number, spell_text}
use Rattle.definition.specs.Lexical.Whole.{int_whole, minus_zero}
use Rattle.definition.specs.Lexical.Fraction.{no_fraction, fraction}
use Rattle.definition.specs.Lexical.Sign.{no_sign, plus_sign, minus_sign}
use Rattle.definition.specs.Lexical.Exponent.{no_exponent, exponent}
use Rattle.definition.specs.Literals.{Numeral, numeral, text_bytes}
use Rattle.definition.specs.Utf8.{is_utf8}
use Rattle.basics.specs.Reads.{ReadsNone, StartsNot}
use Rattle.parser_follow.specs.Follow.{after_weaken}
use Rattle.number_literals.specs.Values.{meaning}
use Rattle.number_literals.specs.declared.Literal.{Literal}
use Rattle.number_literals.specs.declared.Literal.TheVariants as literal
use Rattle.number_parse.specs.Parts.{is_point}
use Rattle.number_parse.specs.Numbers as N
use Rattle.number_parse.specs.Numbers.{is_number_char, NumberAt, NumberAnswer}
use Rattle.number_parse.specs.declared.NumberRead.{NumberRead}
use Rattle.utf8_laws.specs.Bytes.{by_test}
use Rattle.utf8_laws.specs.Encode.{utf8_ascii}
use Rattle.parser_scan.specs.Text.{Is}
use Rattle.compile_writes.specs.Effects.{Effect, pooling}
use Rattle.compile_writes.specs.Writes.{write_numeral}
use Rattle.parser_follow.specs.Leaves.{number_constant, text_constant}
use Rattle.parser_items.specs.Reads.{level_of, After, Done, Post, next, stop, no_flag, Put, Constant, spell_constant, write_constant}
use Rattle.parser_items.specs.Laws.{Moved, moved_done, put_put, put_done, Marked, marked_put, done_marked, after_starts}
use Rattle.parser_items.specs.Follow.{inner_digit, is_int_start}
use Rattle.parser_items.specs.declared.Cursor.{Cursor}
use Rattle.parser_items.specs.Reads.{Step}
use Rattle.parser_items.proofs.Ints.{digit_ascii, every_utf8, int_utf8, int_not}
use Rattle.parser_items.proofs.Quotes.{no_quoted}

-- ---- what is written

module _ {P P' P'' : List ℕ} {a b c : Cursor} (v : Literal) where
  -- an integer
  pub put_integer : {z : ℤ} {n : ℕ} (L : List ℕ) → v ≡ literal.Int z → SFits w64 z → n ≡ unsigned64 (to_z w64 (of_z w64 z)) → Put P P' a b (0x10 ∷ []) → Put P' P'' b c (little_endian 8 n) → Done P P'' L L a c (write_numeral (meaning v) a.pool)
  unfolding write_numeral
  put_integer {z} {n} L e f q g h = rw e (rw (q ∙ ap unsigned64 (to_z-of_z w64 z f)) at (put_done {L = L} (put_put g h)))

  -- a float
  pub put_float : {n : ℕ} (L : List ℕ) → v ≡ literal.Float n → Put P P' a b (0x11 ∷ []) → Put P' P'' b c (little_endian 8 n) → Done P P'' L L a c (write_numeral (meaning v) a.pool)
  unfolding write_numeral
  put_float L e g h = rw e (put_done (put_put g h))

  -- a float beyond the range of literals
  pub put_beyond : {d : Cursor} (L : List ℕ) → v ≡ literal.Beyond → Marked a b (record { verdict = 0; beyond = true }) → Put P P' b c (0x13 ∷ []) → Put P' P'' c d (2 ∷ []) → Done P P'' L L a d (write_numeral (meaning v) a.pool)
  unfolding write_numeral
  put_beyond L e k g h = rw e (done_marked (marked_put k (put_put g h)))

-- ---- what follows a number

letter_ascii : (c : ℕ) → is_e c ≡ true → c < 0x80
letter_ascii c e = by_test (eqb c 0x65) (λ t. let q = eqb-true c 0x65 t in omega arith) (λ f. let q = eqb-true c 0x45 (rw f at e) in omega arith)

-- neither a blank nor a byte of a level above 1 goes on with a number
number_apart : (c : ℕ) → is_number_char c ≡ true → (is_blank c ≡ false) × (level_of c ≤ 1)
number_apart c e =
    by_test (is_digit c) (λ t. let i = inner_digit c t in (i.solid, rw i.unlevelled (omega arith))) (λ f.
    by_test (is_point c) (λ t. let q : c ≡ 0x2E = eqb-true c 0x2E t in rw q (refl, omega arith)) (λ g.
    by_test (eqb c 0x65) (λ t. let q : c ≡ 0x65 = eqb-true c 0x65 t in rw q (refl, omega arith)) (λ h.
    let q : c ≡ 0x45 = eqb-true c 0x45 (rw (f, g, h) at e) in rw q (refl, omega arith))))

-- what follows a literal goes on with no number
after_number : (r : List ℕ) → After 1 r → StartsNot is_number_char r
after_number r a = after_starts is_number_char r number_apart a

-- ---- UTF-8 behind a number

digits_utf8 : (d : Digits) (r : List ℕ) → is_utf8 (spell_digits d r) ≡ is_utf8 r
digits_utf8 d r = utf8_ascii d.first (d.more ++ r) (digit_ascii d.first d.is_first) ∙ every_utf8 is_digit digit_ascii d.more r d.are_more

whole_utf8 : (w : Whole) (r : List ℕ) → is_utf8 (spell_whole w r) ≡ is_utf8 r
whole_utf8 (int_whole i) r = int_utf8 i r
whole_utf8 minus_zero r = utf8_ascii 0x2D (0x30 ∷ r) (omega arith) ∙ utf8_ascii 0x30 r (omega arith)

fraction_utf8 : (f : Fraction) (r : List ℕ) → is_utf8 (spell_fraction f r) ≡ is_utf8 r
fraction_utf8 no_fraction r = refl
fraction_utf8 (fraction d) r = utf8_ascii 0x2E (spell_digits d r) (omega arith) ∙ digits_utf8 d r

sign_utf8 : (s : X.Sign) (r : List ℕ) → is_utf8 (spell_sign s r) ≡ is_utf8 r
sign_utf8 no_sign r = refl
sign_utf8 plus_sign r = utf8_ascii 0x2B r (omega arith)
sign_utf8 minus_sign r = utf8_ascii 0x2D r (omega arith)

exponent_utf8 : (x : Exponent) (r : List ℕ) → is_utf8 (spell_exponent x r) ≡ is_utf8 r
exponent_utf8 no_exponent r = refl
exponent_utf8 (exponent e h s d) r = utf8_ascii e (spell_sign s (spell_digits d r)) (letter_ascii e h) ∙ sign_utf8 s (spell_digits d r) ∙ digits_utf8 d r

-- a number in front of a text leaves it UTF-8, or not, as it was
pub number_utf8 : (n : Number) (r : List ℕ) → is_utf8 (spell_number n r) ≡ is_utf8 r
number_utf8 n r = whole_utf8 n.whole (spell_fraction n.frac (spell_exponent n.exp r)) ∙ fraction_utf8 n.frac (spell_exponent n.exp r) ∙ exponent_utf8 n.exp r

-- ---- the answers

number_next : {s : List ℕ} {a : ℕ} {r : NumberRead} → NumberAnswer s a (Ok r) → NumberAt s a r.end (meaning r.value)
number_next (N.next_number h) = h

number_nothing : {s : List ℕ} {a i : ℕ} → NumberAnswer s a (Err i) → ReadsNone spell_number (StartsNot is_number_char) (drop a s)
number_nothing (N.no_number_lem l h r) = r

module _ {s : List ℕ} {a : ℕ} {r : Result NumberRead ℕ} (h : NumberAnswer s a r) where
  -- the number that was read, or that there is none
  pub number_of : {v : NumberRead} → r ≡ Ok v → NumberAt s a v.end (meaning v.value)
  number_of q = number_next (rw q at h)

  pub no_number_of : {i : ℕ} → r ≡ Err i → ReadsNone spell_number (StartsNot is_number_char) (drop a s)
  no_number_of q = number_nothing (rw q at h)

module _ {s : List ℕ} (a : Cursor) (f : Is s a.at 0x22 false) (g : Is s a.at 0x27 false) where
  -- neither a number nor a quoted text stands there
  pub constant_none : {P P' L L' : List ℕ} {i : ℕ} → ReadsNone spell_number (StartsNot is_number_char) (drop a.at s) → Post spell_constant write_constant no_flag 1 s P P' L L' a (Err i)
  constant_none n = stop (record { none = none })
    where
      none : (t : Constant) (r : List ℕ) → After 1 r → drop a.at s ≡ spell_constant t r → ⊥
      none (number_constant x) r m e = n.none x r (after_number r m) e
      none (text_constant x) r m e = no_quoted s a.at f g x r e

  -- a number is read and written
  pub constant_number : {P P' L : List ℕ} {c d : Cursor} {e : ℕ} {v : Numeral} → NumberAt s a.at e v → is_utf8 (drop a.at s) ≡ true → Done P P' L L a c (write_numeral v a.pool) → Moved c d e →
      Post spell_constant write_constant no_flag 1 s P P' L L a (Ok (d, 0))
  constant_number {P} {P'} {L} {c} {d} {e} {v} n u h m =
      next {b = d} (record {
        tree = number_constant n.tree;
        reads = rw m.0 (record { eq = n.reads.eq; only = only });
        from = omega (arith, m.0, n.from);
        to = omega (arith, m.0, n.to);
        done = moved_done {b = c} (subst (λ (k : Numeral). Done P P' L L a c (write_numeral k a.pool)) n.value h) m;
        flag = refl;
        utf8 = rw m.0 (sym (number_utf8 n.tree (drop e s)) ∙ (rw n.reads.eq at u));
      })
    where
      only : (t : Constant) (r : List ℕ) → After 1 r → drop a.at s ≡ spell_constant t r → ◌≡◌ {A = Effect × ℕ} (write_constant t a.pool, 0) (write_numeral (numeral n.tree) a.pool, 0) × (r ≡ drop e s)
      only (number_constant x) r k q = let o = n.reads.only x r (after_number r k) q in (ap (λ (y : Numeral). (write_numeral y a.pool, 0)) o.0, o.1)
      only (text_constant x) r k q = absurd (no_quoted s a.at f g x r q)

-- ---- a quoted text as a literal

-- a number begins with a digit or a minus
number_not : {s : List ℕ} (n : Number) (r : List ℕ) (x : ℕ) (l : List ℕ) → is_int_start x ≡ false → s ≡ x ∷ l → s ≡ spell_number n r → ⊥
number_not {s} n r x l f e q = by n.whole q
  where
    by : (w : Whole) → s ≡ spell_whole w (spell_fraction n.frac (spell_exponent n.exp r)) → ⊥
    by (int_whole i) g = int_not i (spell_fraction n.frac (spell_exponent n.exp r)) x l f e g
    by minus_zero g = let h : x ≡ 0x2D = cc in true≢false (rw h at f)

-- a quoted text is a literal
pub constant_text : {s P P' L L' : List ℕ} (a : Cursor) {r : Step} (x : ℕ) → is_int_start x ≡ false → Is s a.at x true → Post spell_text (λ t. pooling 0x12 (text_bytes t)) (λ t. 0) 0 s P P' L L' a r →
    Post spell_constant write_constant no_flag 1 s P P' L L' a r
constant_text {s} a x f i (stop h) = stop (record { none = none })
  where
    none : (t : Constant) (r : List ℕ) → After 1 r → drop a.at s ≡ spell_constant t r → ⊥
    none (number_constant n) r m e = number_not n r x (drop (a.at + 1) s) f i.1 e
    none (text_constant t) r m e = h.none t r (after_weaken _ _ (omega arith) m) e
constant_text {s} a x f i (next {b = b} h) =
    next {b = b} (record {
      tree = text_constant h.tree;
      reads = record { eq = h.reads.eq; only = only };
      from = h.from;
      to = h.to;
      done = h.done;
      flag = h.flag;
      utf8 = h.utf8;
    })
  where
    only : (t : Constant) (r : List ℕ) → After 1 r → drop a.at s ≡ spell_constant t r → ◌≡◌ {A = Effect × ℕ} (write_constant t a.pool, 0) (write_constant (text_constant h.tree) a.pool, 0) × (r ≡ drop b.at s)
    only (number_constant n) r m e = absurd (number_not n r x (drop (a.at + 1) s) f i.1 e)
    only (text_constant t) r m e = h.reads.only t r (after_weaken _ _ (omega arith) m) e
