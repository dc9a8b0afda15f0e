-- The literals that are words: true, false and null, each a function name that no character of such a name follows.
-- Assumes nothing.
use Rattle.parser_scan.specs.declared.Keyword as scanned
use Rattle.parser_scan.specs.declared.Keyword.TheVariants as word
use Rattle.std.specs.Prelude.{Ok, Err, Some}
use mathlib.Core.Path.{◌≡◌, refl, sym, ap, subst, ◌∙◌}
use mathlib.Core.Logic.{◌≢◌}
use mathlib.Core.Bool.{true, cond}
use mathlib.Core.List.{List, [], ◌∷◌, ◌++◌}
use Prim.Native.Nat.{ℕ, ◌-◌}
use native.Mathlib.Omega.{arith}
use lib.Dec.{eqb}
use lib.ListN.{drop}
use Rattle.definition.specs.Bytes.{part, same_bytes}
use Rattle.definition.specs.Lexical.{FunctionName, function_bytes, spell_function_name}
use Rattle.definition.specs.Utf8.{is_utf8}
use Rattle.definition_bytes.specs.Same.{same_true}
use Rattle.utf8_laws.specs.Bytes.{by_test}
use Rattle.parser_scan.specs.Text.{WordAt, keyword_number, number_of_keyword}
use Rattle.compile_writes.specs.Effects.{Effect, bytes}
use Rattle.compile_writes.specs.Writes.{write_literal}
use Rattle.parser_follow.specs.Leaves.{true_word, false_word, null_word}
use Rattle.parser_items.specs.Reads.{After, Done, Post, next, stop, Put, no_flag, Keyword, spell_keyword, write_keyword, word_byte}
use Rattle.parser_items.specs.Laws.{Moved, moved_done, put_put, put_done}
use Rattle.parser_items.specs.Follow.{after_word}
use Rattle.parser_items.specs.declared.Cursor.{Cursor}

-- a word as a function name, and its number
abbrev word_of : Keyword → FunctionName
word_of true_word = record { first = 0x74; more = 0x72 ∷ 0x75 ∷ 0x65 ∷ []; is_first = refl; are_more = refl }
word_of false_word = record { first = 0x66; more = 0x61 ∷ 0x6C ∷ 0x73 ∷ 0x65 ∷ []; is_first = refl; are_more = refl }
word_of null_word = record { first = 0x6E; more = 0x75 ∷ 0x6C ∷ 0x6C ∷ []; is_first = refl; are_more = refl }

abbrev number_of : Keyword → ℕ
number_of true_word = 1
number_of false_word = 2
number_of null_word = 3

-- the word with a number
abbrev numbered : ℕ → Keyword
numbered n = cond (eqb n 1) true_word (cond (eqb n 2) false_word null_word)

number_word : (t : Keyword) → numbered (number_of t) ≡ t
number_word true_word = refl
number_word false_word = refl
number_word null_word = refl

word_number : (t : Keyword) → keyword_number (function_bytes (word_of t)) ≡ number_of t
unfolding keyword_number same_bytes
word_number true_word = refl
word_number false_word = refl
word_number null_word = refl

word_some : (t : Keyword) → number_of t ≢ 0
word_some true_word = λ e. omega arith
word_some false_word = λ e. omega arith
word_some null_word = λ e. omega arith

word_spelled : (t : Keyword) (r : List ℕ) → spell_keyword t r ≡ spell_function_name (word_of t) r
word_spelled true_word r = refl
word_spelled false_word r = refl
word_spelled null_word r = refl

word_written : (t : Keyword) (p : ℕ) → bytes (0x13 ∷ word_byte (number_of t) ∷ []) p ≡ write_keyword t p
unfolding write_literal
word_written true_word p = refl
word_written false_word p = refl
word_written null_word p = refl

-- bytes with a number are those of a word
found : (l : List ℕ) → keyword_number l ≢ 0 → (t : Keyword) × (l ≡ function_bytes (word_of t))
unfolding keyword_number
found l h =
    by_test (same_bytes l (function_bytes (word_of true_word))) (λ t. (true_word, same_true l (function_bytes (word_of true_word)) t)) (λ f.
    by_test (same_bytes l (function_bytes (word_of false_word))) (λ t. (false_word, same_true l (function_bytes (word_of false_word)) t)) (λ g.
    by_test (same_bytes l (function_bytes (word_of null_word))) (λ t. (null_word, same_true l (function_bytes (word_of null_word)) t)) (λ k.
    absurd (h (rw (f, g, k))))))

-- a word of the code has a number
pub keyword_some : (k : scanned.Keyword) → number_of_keyword (Some k) ≢ 0
keyword_some word.True e = omega arith
keyword_some word.False e = omega arith
keyword_some word.Null e = omega arith

module _ {s : List ℕ} (a : Cursor) {e : ℕ} (w : WordAt s a.at e) where
  -- whatever word is read there has the number of the bytes that stand there
  alike : (t : Keyword) (r : List ℕ) → After 1 r → drop a.at s ≡ spell_keyword t r → (number_of t ≡ keyword_number (part s a.at (e - a.at))) × (r ≡ drop e s)
  alike t r m q =
      let o = w.reads.only (word_of t) r (after_word r m) (q ∙ word_spelled t r) in
      (sym (word_number t) ∙ ap keyword_number (o.0 ∙ sym w.bytes), o.1)

  -- no word stands there
  pub word_none : {P P' L L' : List ℕ} {k i : ℕ} → k ≡ keyword_number (part s a.at (e - a.at)) → k ≡ 0 → Post spell_keyword write_keyword no_flag 1 s P P' L L' a (Err i)
  word_none h z = stop (record { none = λ t r m q. word_some t ((alike t r m q).0 ∙ sym h ∙ z) })

  -- the word is read and written
  pub word_done : {P P' P'' : List ℕ} (L : List ℕ) {k : ℕ} {b c d : Cursor} → k ≡ keyword_number (part s a.at (e - a.at)) → k ≢ 0 → is_utf8 (drop a.at s) ≡ true →
      Put P P' a b (0x13 ∷ []) → Put P' P'' b c (word_byte k ∷ []) → Moved c d e → Post spell_keyword write_keyword no_flag 1 s P P'' L L a (Ok (d, 0))
  word_done {P} {P'' = P''} L {k} {c = c} {d = d} h z u g j m =
      let f = found (part s a.at (e - a.at)) (λ q. z (h ∙ q)) in
      let t : Keyword = f.0 in
      let n : k ≡ number_of t = h ∙ ap keyword_number f.1 ∙ word_number t in
      let o : (t' : Keyword) (r : List ℕ) → After 1 r → drop a.at s ≡ spell_keyword t' r → t' ≡ t = λ t' r x q. sym (number_word t') ∙ ap numbered ((alike t' r x q).0 ∙ sym h ∙ n) ∙ number_word t in
      next {b = d} (record {
        tree = t;
        reads = rw m.0 (record {
          eq = w.reads.eq ∙ ap (λ (l : List ℕ). l ++ drop e s) (sym w.bytes ∙ f.1) ∙ sym (word_spelled t (drop e s));
          only = λ t' r x q. (ap (λ (y : Keyword). (write_keyword y a.pool, 0)) (o t' r x q), (alike t' r x q).1);
        });
        from = omega (arith, m.0, w.from);
        to = omega (arith, m.0, w.to);
        done = moved_done {b = c} (subst (λ (e : Effect). Done P P'' L L a c e) (ap (λ (n : ℕ). bytes (0x13 ∷ word_byte n ∷ []) a.pool) n ∙ word_written t a.pool) (put_done (put_put g j))) m;
        flag = refl;
        utf8 = rw m.0 (w.utf8 u);
      })
