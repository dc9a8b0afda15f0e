-- Names and function names: the run of their bytes is the one tree of the grammar that stands there.
-- Assumes nothing.
use mathlib.Core.Path.{◌≡◌, refl, sym, ap, ◌∙◌}
use mathlib.Core.Bool.{Bool, true, false, ◌||◌, or-true, or-false, and-false, true≢false}
use mathlib.Core.List.{List, [], ◌∷◌, ◌++◌}
use Prim.Native.Nat.{ℕ, ◌+◌, ◌-◌, ◌≤◌, ◌<◌}
use native.Mathlib.Omega.{arith}
use borrow.Author.Tests.{lt-ltb, lt-leb, le-leb, ne_eqb, ltb-true, ltb-false}
use lib.Dec.{eqb, ltb}
use lib.ListN.{length, drop, get_or, length-append, drop_of_length-le}
use Rattle.definition.specs.Bytes.{part}
use Rattle.definition.specs.Lexical.{is_alpha, is_digit, is_lcalpha, is_function_char, FunctionName, name_bytes, spell_name, spell_function_name}
use Rattle.definition.specs.Utf8.{encode, encode_all, is_utf8}
use Rattle.basics.specs.Lists.{drop_at}
use Rattle.basics.specs.Reads.{ReadsNone, StartsNot}
use Rattle.utf8_laws.specs.Bytes.{by_test, inside_low, inside_high}
use Rattle.utf8_laws.specs.Decode.{encode_long}
use Rattle.utf8_laws.specs.Scan.{front, behind, front_behind, front_every, front_all, behind_all}
use Rattle.utf8_laws.specs.Names.{name_byte, first_byte, name_begins, Named, named, named_only}
use Rattle.parser_scan.specs.Text.{is_name_byte, Run, NameAt, WordAt}
use Rattle.parser_scan.proofs.Runs.{empty_not, starts_front, behind_utf8, run_first}

-- ---- the bytes of names

below : (a e d : Bool) → ((a || (e || (false || false))) || d) ≡ (a || (e || (d || false)))
below true e d = refl
below false true d = refl
below false false d = sym (or-false d)

-- the bytes that the scanner tests for are those of the characters of names
name_byte_lem : (c : ℕ) → is_name_byte c ≡ name_byte c
name_byte_lem c =
    by_test (ltb c 0x80)
    (λ t.
    let h : c < 0x80 = ltb-true c 0x80 t in
    rw (t, lt-leb 0x80 c h, lt-leb 0xE000 c (omega arith)) (sym (below (is_alpha c) (eqb c 0x5F) (is_digit c))))
    (λ f. rw (f, le-leb 0x80 c (ltb-false c 0x80 f)) (simp or-true))

front_same : (s : List ℕ) → front is_name_byte s ≡ front name_byte s
front_same [] = refl
front_same (c ∷ s) = rw (name_byte_lem c, front_same s)

behind_same : (s : List ℕ) → behind is_name_byte s ≡ behind name_byte s
behind_same [] = refl
behind_same (c ∷ s) = rw (name_byte_lem c, behind_same s)

-- a byte of a name that is no digit may begin one
name_first : (c : ℕ) → is_digit c ≡ false → is_name_byte c ≡ true → first_byte c ≡ true
name_first c d e =
    by_test (ltb c 0x80)
    (λ t.
    let h : c < 0x80 = ltb-true c 0x80 t in
    rw (t, lt-leb 0x80 c h, lt-leb 0xE000 c (omega arith)) (rw (d, lt-leb 0x80 c h) at e))
    (λ f. rw f)

-- a digit begins no name
digit_first : (c : ℕ) → is_digit c ≡ true → first_byte c ≡ false
digit_first c e =
    let l = inside_low 0x30 0x39 c e in
    let h = inside_high 0x30 0x39 c e in
    rw (lt-ltb c 0x80 (omega arith), lt-leb 0x41 c (omega arith), lt-leb 0x61 c (omega arith), ne_eqb c 0x5F (λ q. omega arith), lt-leb 0x80 c (omega arith), lt-leb 0xE000 c (omega arith))

either_false : (a e d : Bool) → (a || (e || (d || false))) ≡ false → (a || (e || (false || false))) ≡ false
either_false true e d q = q
either_false false true d q = q
either_false false false d q = refl

-- a byte that is none of a name begins none
other_first : (c : ℕ) → is_name_byte c ≡ false → first_byte c ≡ false
other_first c e =
    by_test (ltb c 0x80)
    (λ t.
    let h : c < 0x80 = ltb-true c 0x80 t in
    rw (t, lt-leb 0x80 c h, lt-leb 0xE000 c (omega arith)) (either_false (is_alpha c) (eqb c 0x5F) (is_digit c) (rw (lt-leb 0x80 c h) at e)))
    (λ f. absurd (true≢false (sym (name_byte_lem c ∙ rw f) ∙ e)))

-- ---- a name at a place

module _ (s : List ℕ) (a : ℕ) where
  -- where the first byte begins no name, none stands
  no_name : a < length s → first_byte (get_or s a 0) ≡ false → ReadsNone spell_name (StartsNot is_name_byte) (drop a s)
  no_name h e = record {
    none = λ t r m q. true≢false (sym (name_begins t (get_or s a 0) r (drop (a + 1) s) (sym q ∙ drop_at s a h)) ∙ e);
  }

  pub no_name_digit : a < length s → is_digit (get_or s a 0) ≡ true → ReadsNone spell_name (StartsNot is_name_byte) (drop a s)
  no_name_digit h e = no_name h (digit_first (get_or s a 0) e)

  pub no_name_other : a < length s → is_name_byte (get_or s a 0) ≡ false → ReadsNone spell_name (StartsNot is_name_byte) (drop a s)
  no_name_other h e = no_name h (other_first (get_or s a 0) e)

  -- at the end none stands
  pub no_name_end : length s ≤ a → ReadsNone spell_name (StartsNot is_name_byte) (drop a s)
  no_name_end h = record {
    none = λ t r m q.
        let e = ap length (sym (drop_of_length-le s h) ∙ q) in
        let l = encode_long t.first in
        let k = length-append (name_bytes t) r in
        let j = length-append (encode t.first) (encode_all t.more) in
        omega arith;
  }

  -- a byte of a name that is no digit and the run of such bytes behind it is the name
  pub name_at : {r : ℕ} → is_utf8 (drop a s) ≡ true → a < length s → is_digit (get_or s a 0) ≡ false → is_name_byte (get_or s a 0) ≡ true → Run is_name_byte s (a + 1) r → NameAt s a r
  name_at {r} u h d e j =
      let f : first_byte (get_or s a 0) ≡ true = name_first (get_or s a 0) d e in
      let k : Run is_name_byte s a r = run_first is_name_byte s h e j in
      let n : Named (drop a s) = rw (drop_at s a h) (named (get_or s a 0) (drop (a + 1) s) (rw (drop_at s a h) at u) f) in
      let rest : drop r s ≡ behind name_byte (drop a s) = k.rest ∙ behind_same (drop a s) in
      let bytes : part s a (r - a) ≡ name_bytes n.name = k.bytes ∙ front_same (drop a s) ∙ sym n.is in
      record {
        name = n.name;
        reads = record {
          eq = rw (n.is, rest) (sym (front_behind name_byte (drop a s)));
          only = λ t r' m q.
              let o = named_only t (drop a s) r' q (sym (front_same r') ∙ starts_front is_name_byte r' m) in
              (o.0 ∙ sym n.is, o.1 ∙ sym rest);
        };
        from = k.from;
        to = k.to;
        bytes = bytes;
        utf8 = rw rest n.sound;
      }

-- ---- a function name at a place

-- the bytes of function names are ASCII
pub word_ascii : (c : ℕ) → is_function_char c ≡ true → c < 0x80
word_ascii c e =
    by_test (ltb c 0x80) (λ t. ltb-true c 0x80 t) (λ f.
    let h : 0x80 ≤ c = ltb-false c 0x80 f in
    absurd (true≢false (sym e ∙ rw (lt-leb c 0x7A (omega arith), ne_eqb c 0x5F (λ q. omega arith), lt-leb c 0x39 (omega arith)) (simp and-false))))

module _ (s : List ℕ) (a : ℕ) where
  -- where the first byte is no small letter, no function name stands
  pub no_word : a < length s → is_lcalpha (get_or s a 0) ≡ false → ReadsNone spell_function_name (StartsNot is_function_char) (drop a s)
  no_word h e = record {
    none = λ t r m q.
        let d = drop_at s a h in
        let f : t.first ≡ get_or s a 0 = cc in
        true≢false (sym t.is_first ∙ rw f e);
  }

  -- at the end none stands
  pub no_word_end : length s ≤ a → ReadsNone spell_function_name (StartsNot is_function_char) (drop a s)
  no_word_end h = record { none = λ t r m q. empty_not s a h q }

  -- a small letter and the run of function characters behind it is the function name
  pub word_at : {r : ℕ} → a < length s → is_lcalpha (get_or s a 0) ≡ true → Run is_function_char s (a + 1) r → WordAt s a r
  word_at {r} h e k =
      let c : ℕ = get_or s a 0 in
      let w : FunctionName = record { first = c; more = front is_function_char (drop (a + 1) s); is_first = e; are_more = front_every is_function_char (drop (a + 1) s) } in
      let j : Run is_function_char s a r = run_first is_function_char s h (rw e) k in
      let d = drop_at s a h in
      record {
        word = w;
        reads = record {
          eq = d ∙ ap (λ (l : List ℕ). c ∷ l) (rw k.rest (sym (front_behind is_function_char (drop (a + 1) s))));
          only = λ t r' m q.
              let f : t.first ≡ c = cc in
              let g : drop (a + 1) s ≡ t.more ++ r' = cc in
              let n : front is_function_char r' ≡ [] = starts_front is_function_char r' m in
              let o : front is_function_char (drop (a + 1) s) ≡ t.more = rw g (front_all is_function_char t.more r' t.are_more n) in
              let b : behind is_function_char (drop (a + 1) s) ≡ r' = rw g (behind_all is_function_char t.more r' t.are_more n) in
              (rw (f, o), sym b ∙ sym k.rest);
        };
        from = j.from;
        to = j.to;
        bytes = j.bytes ∙ rw (d, e);
        utf8 = λ u. rw j.rest (behind_utf8 is_function_char word_ascii (drop a s) u);
      }
