-- An operand that begins with a word: a call of a function, or one of the literals true, false and null; and one that begins with none.
use Rattle.std.specs.Prelude.{◌≡◌, Bool, true, false, ◌⊎◌, ℕ, ◌<◌, eqb}
use Rattle.std.proofs.Math.Path.{refl, ap, subst}
use Rattle.std.proofs.Common.{sym, ◌∙◌, true≢false, inl, inr, ⊎_elim, arith, ne_eqb, eqb-true, le-leb}
use mathlib.Core.List.{List, [], ◌∷◌}
use Rattle.std.proofs.lemmas.Bool.{lt-leb}
use Rattle.definition.specs.Lexical.{is_digit, is_lcalpha, is_function_char, FunctionName, function_bytes, spell_function_name}
use Rattle.definition.specs.Grammar.FilterQuery.{rel_query, abs_query}
use Rattle.definition.specs.Grammar.Function.{function}
use Rattle.definition.specs.Grammar.Literal.{number_literal, text_literal, true_literal, false_literal, null_literal}
use Rattle.definition.specs.Walk.{named}
use Rattle.basics.specs.Lists.{same_tail}
use Rattle.basics.specs.Bools.{or_cases}
use Rattle.basics.specs.Reads.{Reads, ReadsNone, StartsNot}
use Rattle.utf8_laws.specs.Bytes.{inside_low, inside_high}
use Rattle.compile_writes.specs.Effects.{Effect, seq, mark, bytes}
use Rattle.compile_writes.specs.Sorts.{named_sort, sort_function, sorts_of, call_verdict}
use Rattle.compile_writes.specs.Writes.{write_arguments, write_function, call_bytes, write_literal}
use Rattle.parser_follow.specs.Follow.{unblank, level_of, After}
use Rattle.parser_follow.specs.Numbers.{sort_number, name_of}
use Rattle.parser_follow.specs.Leaves.{Constant, Keyword, spell_constant, write_constant, spell_keyword, write_keyword, keyword_literal}
use Rattle.parser_follow.specs.Leaves.Constant.{number_constant, text_constant}
use Rattle.parser_follow.specs.Leaves.Keyword.{true_word, false_word, null_word}
use Rattle.parser_follow.specs.Pieces.{Operand, spell_operand, Call, spell_call, write_call, call_sort}
use Rattle.parser_follow.specs.Pieces.Operand.{literal_operand, query_operand, function_operand}
use Rattle.parser_laws.specs.Begins.{Begins, begins_not, number_begins, text_begins, is_constant_byte}
use Rattle.parser_laws.specs.Starts.{solid}
use Rattle.parser_laws.specs.So.{So}
use Rattle.parser_laws.specs.Query.{me_operand}

-- ---- what may follow an operand is no byte of a word

-- a byte that is none of those that have a level has none
no_level : (c : ℕ) → 0x2F < c → (c < 0x3C) ⊎ (0x5D < c) → (0x7C < c) ⊎ (c < 0x7C) → c < 0x100 → level_of c ≡ 0
no_level c a b d e = rw (
  ne_eqb c 0x2E (λ z. omega arith),
  ne_eqb c 0x5B (λ z. ⊎_elim (λ y. omega arith) (λ y. omega arith) b),
  ne_eqb c 0x3D (λ z. ⊎_elim (λ y. omega arith) (λ y. omega arith) b),
  ne_eqb c 0x21 (λ z. omega arith),
  ne_eqb c 0x3C (λ z. ⊎_elim (λ y. omega arith) (λ y. omega arith) b),
  ne_eqb c 0x3E (λ z. ⊎_elim (λ y. omega arith) (λ y. omega arith) b),
  ne_eqb c 0x26 (λ z. omega arith),
  ne_eqb c 0x7C (λ z. ⊎_elim (λ y. omega arith) (λ y. omega arith) d),
  ne_eqb c 0x2C (λ z. omega arith),
  ne_eqb c 0x5D (λ z. ⊎_elim (λ y. omega arith) (λ y. omega arith) b),
  ne_eqb c 256 (λ z. omega arith),
  ne_eqb c 0x29 (λ z. omega arith),
) refl

-- a byte of a word has no level, and is no blank
word_level : (c : ℕ) → is_function_char c ≡ true → (level_of c ≡ 0) × (0x20 < c)
word_level c e =
    ⊎_elim
    (λ a. (no_level c (omega (arith, inside_low 0x61 0x7A c a)) (inr (omega (arith, inside_low 0x61 0x7A c a))) (inr (omega (arith, inside_high 0x61 0x7A c a))) (omega (arith, inside_high 0x61 0x7A c a)), omega (arith, inside_low 0x61 0x7A c a)))
    (λ b.
    ⊎_elim
    (λ a. (no_level c (omega (arith, eqb-true c 0x5F a)) (inr (omega (arith, eqb-true c 0x5F a))) (inr (omega (arith, eqb-true c 0x5F a))) (omega (arith, eqb-true c 0x5F a)), omega (arith, eqb-true c 0x5F a)))
    (λ a. (no_level c (omega (arith, inside_low 0x30 0x39 c a)) (inl (omega (arith, inside_high 0x30 0x39 c a))) (inr (omega (arith, inside_high 0x30 0x39 c a))) (omega (arith, inside_high 0x30 0x39 c a)), omega (arith, inside_low 0x30 0x39 c a)))
    (or_cases (eqb c 0x5F) (is_digit c) b))
    (or_cases (is_lcalpha c) _ e)

-- what may follow a tree begins with no byte of a word
pub after_word : (k : ℕ) (r : List ℕ) → After k r → StartsNot is_function_char r
unfolding StartsNot
after_word k [] a = tt
after_word k (c ∷ r) a = go (is_function_char c) refl
  where
    go : (t : Bool) → is_function_char c ≡ t → t ≡ false
    go true e =
        let w = word_level c e in
        let s : unblank (c ∷ r) ≡ c ∷ r = solid c r w.1 in
        let g : k < level_of c = rw s at a.above in
        absurd (omega (arith, w.0))
    go false e = refl

-- ---- the words that are literals

abbrev keyword_name : Keyword → FunctionName
keyword_name true_word = record { first = 0x74; more = 0x72 ∷ 0x75 ∷ 0x65 ∷ []; is_first = refl; are_more = refl }
keyword_name false_word = record { first = 0x66; more = 0x61 ∷ 0x6C ∷ 0x73 ∷ 0x65 ∷ []; is_first = refl; are_more = refl }
keyword_name null_word = record { first = 0x6E; more = 0x75 ∷ 0x6C ∷ 0x6C ∷ []; is_first = refl; are_more = refl }

keyword_name_lem : (k : Keyword) (r : List ℕ) → spell_keyword k r ≡ spell_function_name (keyword_name k) r
keyword_name_lem true_word r = refl
keyword_name_lem false_word r = refl
keyword_name_lem null_word r = refl

abbrev pub me_keyword : ℕ → Keyword → Effect × ℕ
me_keyword p k = (write_keyword k p, 0)

abbrev pub me_constant : ℕ → Constant → Effect × ℕ
me_constant p x = (write_constant x p, 0)

abbrev pub me_call : ℕ → ℕ → Call → Effect × ℕ
me_call name p x = (write_call name x p, call_sort name x)

-- a name that ends before a byte is the name that was read
module _ {s s₁ : List ℕ} {w : FunctionName} (o : Reads spell_function_name function_bytes (StartsNot is_function_char) s w s₁) where
  -- the text begins with a small letter
  begins_word : Begins is_lcalpha s
  begins_word = record { byte = w.first; rest = _; good = w.is_first; is = o.eq }

  no_constant : {p : ℕ → Bool} {z : List ℕ} → s ≡ z → Begins p z → ((c : ℕ) → is_lcalpha c ≡ true → p c ≡ false) → ⊥
  no_constant {p} e b f =
      let g : b.byte ≡ w.first = cc (b.is, o.eq) in
      true≢false (sym b.good ∙ ap p g ∙ f w.first w.is_first)

-- a small letter begins no number and no quoted text
letter_digit : (c : ℕ) → is_lcalpha c ≡ true → is_digit c ≡ false
letter_digit c e = rw (le-leb 0x30 c (omega (arith, inside_low 0x61 0x7A c e)), lt-leb c 0x39 (omega (arith, inside_low 0x61 0x7A c e)))

letter_constant : (c : ℕ) → is_lcalpha c ≡ true → is_constant_byte c ≡ false
letter_constant c e =
    let l = inside_low 0x61 0x7A c e in
    rw (ne_eqb c 0x22 (λ z. omega arith), ne_eqb c 0x27 (λ z. omega arith), ne_eqb c 0x2D (λ z. omega arith), letter_digit c e) refl

call_writes : (name p : ℕ) (n : FunctionName) (x : Call) → named (function_bytes n) ≡ name_of name
    → me_operand p (function_operand (function n x.before x.arguments x.after)) ≡ me_call name p x
unfolding write_function sort_function
call_writes name p n x e =
    λ i. (seq (write_arguments x.arguments) (seq (mark (record { verdict = call_verdict (e i) (sorts_of x.arguments); beyond = false })) (bytes (call_bytes (e i)))) p, sort_number (named_sort (e i)))

module _ (p : ℕ) {s s₁ : List ℕ} {w : FunctionName} (o : Reads spell_function_name function_bytes (StartsNot is_function_char) s w s₁) where
  -- a word that a "(" follows: a call
  pub operand_call : (name : ℕ) {s₂ : List ℕ} → named (function_bytes w) ≡ name_of name → s₁ ≡ 0x28 ∷ s₂ → So spell_operand (me_operand p) spell_call (me_call name p) (After 1) s s₂ (λ m. m)
  unfolding StartsNot
  operand_call name {s₂} i d = record {
    fill = λ x. function_operand (function w x.before x.arguments x.after);
    fwd = λ x r e. o.eq ∙ ap (spell_function_name w) (d ∙ ap (λ l. 0x28 ∷ l) e);
    cod = λ x. call_writes name p w x i;
    bwd = bwd;
  }
    where
      keyword : (k : Keyword) (r' : List ℕ) → After 1 r' → s ≡ spell_keyword k r' → ⊥
      keyword k r' f e =
          let h = o.only (keyword_name k) r' (after_word 1 r' f) (e ∙ keyword_name_lem k r') in
          let a : After 1 (0x28 ∷ s₂) = subst (After 1) (h.1 ∙ d) f in
          omega (arith, a.above)

      bwd : (t' : Operand) (r' : List ℕ) → After 1 r' → s ≡ spell_operand t' r' → (u' : Call) × (s₂ ≡ spell_call u' r') × (me_operand p t' ≡ me_call name p u')
      bwd (literal_operand (number_literal n)) r' f e = absurd (no_constant o e (number_begins n r') letter_constant)
      bwd (literal_operand (text_literal t)) r' f e = absurd (no_constant o e (text_begins t r') letter_constant)
      bwd (literal_operand true_literal) r' f e = absurd (keyword true_word r' f e)
      bwd (literal_operand false_literal) r' f e = absurd (keyword false_word r' f e)
      bwd (literal_operand null_literal) r' f e = absurd (keyword null_word r' f e)
      bwd (query_operand (rel_query xs)) r' f e = absurd (begins_not 0x40 (begins_word o) refl e)
      bwd (query_operand (abs_query xs)) r' f e = absurd (begins_not 0x24 (begins_word o) refl e)
      bwd (function_operand (function n b xs c)) r' f e =
          let h = o.only n (0x28 ∷ _) refl e in
          (record { before = b; arguments = xs; after = c }, same_tail d (sym h.1), call_writes name p n (record { before = b; arguments = xs; after = c }) (ap named h.0 ∙ i))

  -- a word that no "(" follows: true, false or null
  pub operand_keyword : ((l : List ℕ) → s₁ ≡ 0x28 ∷ l → ⊥) → So spell_operand (me_operand p) spell_keyword (me_keyword p) (After 1) s s (λ m. m)
  unfolding StartsNot
  operand_keyword n = record { fill = λ k. literal_operand (keyword_literal k); fwd = λ k r e. e; cod = λ k. refl; bwd = bwd }
    where
      bwd : (t' : Operand) (r' : List ℕ) → After 1 r' → s ≡ spell_operand t' r' → (u' : Keyword) × (s ≡ spell_keyword u' r') × (me_operand p t' ≡ me_keyword p u')
      bwd (literal_operand (number_literal m)) r' f e = absurd (no_constant o e (number_begins m r') letter_constant)
      bwd (literal_operand (text_literal t)) r' f e = absurd (no_constant o e (text_begins t r') letter_constant)
      bwd (literal_operand true_literal) r' f e = (true_word, e, refl)
      bwd (literal_operand false_literal) r' f e = (false_word, e, refl)
      bwd (literal_operand null_literal) r' f e = (null_word, e, refl)
      bwd (query_operand (rel_query xs)) r' f e = absurd (begins_not 0x40 (begins_word o) refl e)
      bwd (query_operand (abs_query xs)) r' f e = absurd (begins_not 0x24 (begins_word o) refl e)
      bwd (function_operand (function m b xs c)) r' f e =
          let h = o.only m (0x28 ∷ _) refl e in
          absurd (n _ (sym h.1))

-- no word stands there, and neither "@" nor "$": a number or a quoted text
pub operand_constant : (p : ℕ) {s : List ℕ} → ReadsNone spell_function_name (StartsNot is_function_char) s → ((l : List ℕ) → s ≡ 0x40 ∷ l → ⊥) → ((l : List ℕ) → s ≡ 0x24 ∷ l → ⊥)
    → So spell_operand (me_operand p) spell_constant (me_constant p) (After 1) s s (λ m. m)
unfolding StartsNot write_literal
operand_constant p {s} n a b = record { fill = fill; fwd = fwd; cod = cod; bwd = bwd }
  where
    fill : Constant → Operand
    fill (number_constant m) = literal_operand (number_literal m)
    fill (text_constant t) = literal_operand (text_literal t)

    fwd : (u : Constant) (r : List ℕ) → s ≡ spell_constant u r → s ≡ spell_operand (fill u) r
    fwd (number_constant m) r e = e
    fwd (text_constant t) r e = e

    cod : (u : Constant) → me_operand p (fill u) ≡ me_constant p u
    cod (number_constant m) = refl
    cod (text_constant t) = refl

    keyword : (k : Keyword) (r' : List ℕ) → After 1 r' → s ≡ spell_keyword k r' → ⊥
    keyword k r' f e = n.none (keyword_name k) r' (after_word 1 r' f) (e ∙ keyword_name_lem k r')

    bwd : (t' : Operand) (r' : List ℕ) → After 1 r' → s ≡ spell_operand t' r' → (u' : Constant) × (s ≡ spell_constant u' r') × (me_operand p t' ≡ me_constant p u')
    bwd (literal_operand (number_literal m)) r' f e = (number_constant m, e, refl)
    bwd (literal_operand (text_literal t)) r' f e = (text_constant t, e, refl)
    bwd (literal_operand true_literal) r' f e = absurd (keyword true_word r' f e)
    bwd (literal_operand false_literal) r' f e = absurd (keyword false_word r' f e)
    bwd (literal_operand null_literal) r' f e = absurd (keyword null_word r' f e)
    bwd (query_operand (rel_query xs)) r' f e = absurd (a _ e)
    bwd (query_operand (abs_query xs)) r' f e = absurd (b _ e)
    bwd (function_operand (function m c xs d)) r' f e = absurd (n.none m (0x28 ∷ _) refl e)
