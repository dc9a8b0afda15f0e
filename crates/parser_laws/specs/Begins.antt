-- The byte that a tree begins with, by its rule.
use Rattle.std.specs.Prelude.{◌≡◌, refl, Bool, true, false, ◌||◌, List, ◌∷◌, ℕ, eqb}
use Rattle.std.proofs.Common.{sym, subst, ◌∙◌, true≢false, arith}
use Rattle.definition.specs.Lexical.{is_digit, is_digit1, is_lcalpha, Natural, Int, Whole, Number, Text, Quote, own_byte, spell_int, spell_whole, spell_number, spell_text}
use Rattle.utf8_laws.specs.Bytes.{inside, inside_low, inside_high}
use Rattle.definition.specs.Lexical.Int.{zero_int, plain_int, minus_int}
use Rattle.definition.specs.Lexical.Whole.{int_whole, minus_zero}
use Rattle.definition.specs.Lexical.Quote.{double, single}
use Rattle.definition.specs.Grammar as G
use Rattle.definition.specs.Grammar.{spell_literal, spell_filter_query, spell_comparable, spell_basic, spell_test, spell_function, spell_logical_or, spell_argument}
use Rattle.definition.specs.Grammar.Singular.{rel_singular, abs_singular}
use Rattle.definition.specs.Grammar.Literal.{number_literal, text_literal, true_literal, false_literal, null_literal}
use Rattle.definition.specs.Grammar.LogicalAnd.{logical_and}
use Rattle.definition.specs.Grammar.LogicalOr.{logical_or}
use Rattle.definition.specs.Grammar.Basic.{paren_basic, not_paren, comparison, test_basic, not_test}
use Rattle.definition.specs.Grammar.Paren.{paren}
use Rattle.definition.specs.Grammar.Test.{query_test, function_test}
use Rattle.definition.specs.Grammar.FilterQuery.{rel_query, abs_query}
use Rattle.definition.specs.Grammar.Comparable.{literal_comparable, singular_comparable, function_comparable}
use Rattle.definition.specs.Grammar.Function.{function}
use Rattle.definition.specs.Grammar.Argument.{literal_argument, query_argument, logical_argument, function_argument}
use Rattle.basics.specs.Bools.{or_first, or_second}

-- s begins with a byte that passes a test
pub record Begins (p : ℕ → Bool) (s : List ℕ) : Type 0 where
  pub byte : ℕ
  pub rest : List ℕ
  pub good : p byte ≡ true
  pub is : s ≡ byte ∷ rest

-- a byte that fails the test is not the first
pub begins_not : {p : ℕ → Bool} {s : List ℕ} (c : ℕ) {l : List ℕ} → Begins p s → p c ≡ false → s ≡ c ∷ l → ⊥
begins_not {p} c b e f =
    let h : b.byte ≡ c = cc b.is in
    let g : p c ≡ true = subst (λ z. p z ≡ true) h b.good in
    let z : ◌≡◌ {A = Bool} true false = sym g ∙ e in
    true≢false z

-- a weaker test passes too
pub begins_more : {p q : ℕ → Bool} {s : List ℕ} → ((c : ℕ) → p c ≡ true → q c ≡ true) → Begins p s → Begins q s
begins_more f b = record { byte = b.byte; rest = b.rest; good = f b.byte b.good; is = b.is }

-- `"` and `'`, `-` and digits: the literals that are no words
abbrev pub is_constant_byte : ℕ → Bool
is_constant_byte c = eqb c 0x22 || (eqb c 0x27 || (eqb c 0x2D || is_digit c))

-- and words
abbrev pub is_literal_byte : ℕ → Bool
is_literal_byte c = is_lcalpha c || is_constant_byte c

-- `@`, `$`, and what a literal or a function begins with
abbrev pub is_operand_byte : ℕ → Bool
is_operand_byte c = eqb c 0x40 || (eqb c 0x24 || is_literal_byte c)

-- `(` and `!` besides
abbrev pub is_basic_byte : ℕ → Bool
is_basic_byte c = eqb c 0x28 || (eqb c 0x21 || is_operand_byte c)

-- ---- the rules

natural_begins : (n : Natural) (r : List ℕ) → Begins is_constant_byte (n.first ∷ r)
natural_begins n r = record { byte = n.first; rest = r; good = or_second (eqb n.first 0x22) _ (or_second (eqb n.first 0x27) _ (or_second (eqb n.first 0x2D) _ (digit1 n.first n.is_first))); is = refl }
  where
    digit1 : (c : ℕ) → is_digit1 c ≡ true → is_digit c ≡ true
    digit1 c e = inside 0x30 0x39 c (omega (arith, inside_low 0x31 0x39 c e)) (inside_high 0x31 0x39 c e)

pub int_begins : (i : Int) (r : List ℕ) → Begins is_constant_byte (spell_int i r)
int_begins zero_int r = record { byte = 0x30; rest = r; good = refl; is = refl }
int_begins (plain_int n) r = natural_begins n _
int_begins (minus_int n) r = record { byte = 0x2D; rest = _; good = refl; is = refl }

whole_begins : (w : Whole) (r : List ℕ) → Begins is_constant_byte (spell_whole w r)
whole_begins (int_whole i) r = int_begins i r
whole_begins minus_zero r = record { byte = 0x2D; rest = _; good = refl; is = refl }

pub quote_begins : (q : Quote) (r : List ℕ) → Begins is_constant_byte (own_byte q ∷ r)
quote_begins double r = record { byte = 0x22; rest = r; good = refl; is = refl }
quote_begins single r = record { byte = 0x27; rest = r; good = refl; is = refl }

pub number_begins : (n : Number) (r : List ℕ) → Begins is_constant_byte (spell_number n r)
number_begins n r = whole_begins n.whole _

pub text_begins : (t : Text) (r : List ℕ) → Begins is_constant_byte (spell_text t r)
text_begins t r = quote_begins t.quote _

constant_literal : (c : ℕ) → is_constant_byte c ≡ true → is_literal_byte c ≡ true
constant_literal c e = or_second (is_lcalpha c) _ e

pub literal_operand_lem : (c : ℕ) → is_literal_byte c ≡ true → is_operand_byte c ≡ true
literal_operand_lem c e = or_second (eqb c 0x40) _ (or_second (eqb c 0x24) _ e)

pub operand_basic : (c : ℕ) → is_operand_byte c ≡ true → is_basic_byte c ≡ true
operand_basic c e = or_second (eqb c 0x28) _ (or_second (eqb c 0x21) _ e)

pub literal_begins : (l : G.Literal) (r : List ℕ) → Begins is_literal_byte (spell_literal l r)
literal_begins (number_literal n) r = begins_more constant_literal (number_begins n r)
literal_begins (text_literal t) r = begins_more constant_literal (text_begins t r)
literal_begins true_literal r = record { byte = 0x74; rest = _; good = refl; is = refl }
literal_begins false_literal r = record { byte = 0x66; rest = _; good = refl; is = refl }
literal_begins null_literal r = record { byte = 0x6E; rest = _; good = refl; is = refl }

pub function_begins : (f : G.Function) (r : List ℕ) → Begins is_lcalpha (spell_function f r)
function_begins (function n b xs c) r = record { byte = n.first; rest = _; good = n.is_first; is = refl }

pub lower_literal : (c : ℕ) → is_lcalpha c ≡ true → is_literal_byte c ≡ true
lower_literal c e = or_first (is_lcalpha c) _ e

pub query_begins : (q : G.FilterQuery) (r : List ℕ) → Begins is_operand_byte (spell_filter_query q r)
query_begins (rel_query xs) r = record { byte = 0x40; rest = _; good = refl; is = refl }
query_begins (abs_query xs) r = record { byte = 0x24; rest = _; good = refl; is = refl }

pub comparable_begins : (x : G.Comparable) (r : List ℕ) → Begins is_operand_byte (spell_comparable x r)
comparable_begins (literal_comparable l) r = begins_more literal_operand_lem (literal_begins l r)
comparable_begins (singular_comparable (rel_singular xs)) r = record { byte = 0x40; rest = _; good = refl; is = refl }
comparable_begins (singular_comparable (abs_singular xs)) r = record { byte = 0x24; rest = _; good = refl; is = refl }
comparable_begins (function_comparable f) r = begins_more literal_operand_lem (begins_more lower_literal (function_begins f r))

pub test_begins : (t : G.Test) (r : List ℕ) → Begins is_operand_byte (spell_test t r)
test_begins (query_test q) r = query_begins q r
test_begins (function_test f) r = begins_more literal_operand_lem (begins_more lower_literal (function_begins f r))

pub basic_begins : (x : G.Basic) (r : List ℕ) → Begins is_basic_byte (spell_basic x r)
basic_begins (paren_basic (paren b e c)) r = record { byte = 0x28; rest = _; good = refl; is = refl }
basic_begins (not_paren b p) r = record { byte = 0x21; rest = _; good = refl; is = refl }
basic_begins (comparison x b o c y) r = begins_more operand_basic (comparable_begins x _)
basic_begins (test_basic t) r = begins_more operand_basic (test_begins t r)
basic_begins (not_test b t) r = record { byte = 0x21; rest = _; good = refl; is = refl }

pub or_begins : (e : G.LogicalOr) (r : List ℕ) → Begins is_basic_byte (spell_logical_or e r)
or_begins (logical_or (logical_and x xs) ys) r = basic_begins x _

pub argument_begins : (x : G.Argument) (r : List ℕ) → Begins is_basic_byte (spell_argument x r)
argument_begins (literal_argument l) r = begins_more operand_basic (begins_more literal_operand_lem (literal_begins l r))
argument_begins (query_argument q) r = begins_more operand_basic (query_begins q r)
argument_begins (logical_argument e) r = or_begins e r
argument_begins (function_argument f) r = begins_more operand_basic (begins_more literal_operand_lem (begins_more lower_literal (function_begins f r)))
