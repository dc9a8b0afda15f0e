-- The first byte of a tree: no tree of these rules begins with a blank.
use Rattle.std.specs.Prelude.{◌≡◌, refl, false, List, ◌∷◌, ℕ, ◌<◌}
use Rattle.std.proofs.Common.{arith, ne_eqb}
use Rattle.definition.specs.Lexical.{is_blank, Natural, Int, Whole, Quote, own_byte, spell_int, spell_whole}
use Rattle.definition.specs.Lexical.Int.{zero_int, plain_int, minus_int}
use Rattle.definition.specs.Lexical.Whole.{int_whole, minus_zero}
use Rattle.definition.specs.Lexical.Quote.{double, single}
use Rattle.definition.specs.Grammar as G
use Rattle.definition.specs.Grammar.{spell_literal, spell_comparable, spell_basic, spell_test, spell_function, spell_logical_and, spell_logical_or}
use Rattle.definition.specs.Grammar.Singular.{rel_singular, abs_singular}
use Rattle.definition.specs.Grammar.Literal.{number_literal, text_literal, true_literal, false_literal, null_literal}
use Rattle.definition.specs.Grammar.LogicalAnd.{logical_and}
use Rattle.definition.specs.Grammar.LogicalOr.{logical_or}
use Rattle.definition.specs.Grammar.Basic.{paren_basic, not_paren, comparison, test_basic, not_test}
use Rattle.definition.specs.Grammar.Paren.{paren}
use Rattle.definition.specs.Grammar.Test.{query_test, function_test}
use Rattle.definition.specs.Grammar.FilterQuery.{rel_query, abs_query}
use Rattle.definition.specs.Grammar.Comparable.{literal_comparable, singular_comparable, function_comparable}
use Rattle.definition.specs.Grammar.Function.{function}
use Rattle.utf8_laws.specs.Bytes.{inside_low}
use Rattle.parser_follow.specs.Follow.{unblank}

-- a byte above the blank is no blank
above_blank : (c : ℕ) → 0x20 < c → is_blank c ≡ false
above_blank c h = rw (ne_eqb c 0x20 (λ e. omega arith), ne_eqb c 0x09 (λ e. omega arith), ne_eqb c 0x0A (λ e. omega arith), ne_eqb c 0x0D (λ e. omega arith))

-- so a text that begins with it has no blanks to leave out
pub solid : (c : ℕ) (r : List ℕ) → 0x20 < c → unblank (c ∷ r) ≡ c ∷ r
solid c r h = rw (above_blank c h)

natural_start : (n : Natural) (r : List ℕ) → unblank (n.first ∷ r) ≡ n.first ∷ r
natural_start n r = solid n.first r (omega (arith, inside_low 0x31 0x39 n.first n.is_first))

pub int_start : (i : Int) (r : List ℕ) → unblank (spell_int i r) ≡ spell_int i r
int_start zero_int r = refl
int_start (plain_int n) r = natural_start n _
int_start (minus_int n) r = refl

whole_start : (w : Whole) (r : List ℕ) → unblank (spell_whole w r) ≡ spell_whole w r
whole_start (int_whole i) r = int_start i r
whole_start minus_zero r = refl

pub quote_start : (q : Quote) (r : List ℕ) → unblank (own_byte q ∷ r) ≡ own_byte q ∷ r
quote_start double r = refl
quote_start single r = refl

pub literal_start : (l : G.Literal) (r : List ℕ) → unblank (spell_literal l r) ≡ spell_literal l r
literal_start (number_literal n) r = whole_start n.whole _
literal_start (text_literal t) r = quote_start t.quote _
literal_start true_literal r = refl
literal_start false_literal r = refl
literal_start null_literal r = refl

pub function_start : (f : G.Function) (r : List ℕ) → unblank (spell_function f r) ≡ spell_function f r
function_start (function n b xs c) r = solid n.first _ (omega (arith, inside_low 0x61 0x7A n.first n.is_first))

pub comparable_start : (x : G.Comparable) (r : List ℕ) → unblank (spell_comparable x r) ≡ spell_comparable x r
comparable_start (literal_comparable l) r = literal_start l r
comparable_start (singular_comparable (rel_singular xs)) r = refl
comparable_start (singular_comparable (abs_singular xs)) r = refl
comparable_start (function_comparable f) r = function_start f r

pub test_start : (t : G.Test) (r : List ℕ) → unblank (spell_test t r) ≡ spell_test t r
test_start (query_test (rel_query xs)) r = refl
test_start (query_test (abs_query xs)) r = refl
test_start (function_test f) r = function_start f r

pub basic_start : (x : G.Basic) (r : List ℕ) → unblank (spell_basic x r) ≡ spell_basic x r
basic_start (paren_basic (paren b e c)) r = refl
basic_start (not_paren b p) r = refl
basic_start (comparison x b o c y) r = comparable_start x _
basic_start (test_basic t) r = test_start t r
basic_start (not_test b t) r = refl

pub and_start : (x : G.LogicalAnd) (r : List ℕ) → unblank (spell_logical_and x r) ≡ spell_logical_and x r
and_start (logical_and x xs) r = basic_start x _

pub or_start : (x : G.LogicalOr) (r : List ℕ) → unblank (spell_logical_or x r) ≡ spell_logical_or x r
or_start (logical_or x xs) r = and_start x _
