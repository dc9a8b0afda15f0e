-- Small laws that a wrong definition would break: slices stay inside the list, escape-free spellings mean themselves, and a function argument means the same whichever alternative of its rule is taken.
use Rattle.std.specs.Prelude.{ℕ, zero, suc, ◌≡◌, refl, List, [], ◌∷◌, ◌++◌, Bool, true, false, cond, ◌&&◌, ◌||◌, ℤ, pos, negsuc, ◌+ℤ◌, ltb}
use Rattle.std.proofs.Common.{ap, sym, ◌∙◌, append_assoc}
use Rattle.std.proofs.Math.Option.{Option}
use Rattle.definition.specs.Bytes.{every}
use Rattle.definition.specs.Utf8.{encode, encode_all}
use Rattle.definition.specs.Lexical.{Name, Char, Quote, is_unescaped, name_bytes, spell_chars, spell_text, own_byte}
use Rattle.definition.specs.Lexical.Char.{plain}
use Rattle.definition.specs.Literals.{char_bytes, chars_bytes, text_bytes}
use Rattle.definition.specs.Slices.{element_at, goes_on, walk_places, slice_start, slice_stop, slice_step, slice_places}
use Rattle.definition.specs.Grammar as G
use Rattle.definition.specs.Grammar.{spell_argument}
use Rattle.definition.specs.Grammar.LogicalOr.{logical_or}
use Rattle.definition.specs.Grammar.MoreOr.{no_or}
use Rattle.definition.specs.Grammar.LogicalAnd.{logical_and}
use Rattle.definition.specs.Grammar.MoreAnd.{no_and}
use Rattle.definition.specs.Grammar.Basic.{test_basic}
use Rattle.definition.specs.Grammar.Test.{query_test, function_test}
use Rattle.definition.specs.Grammar.Argument.{query_argument, logical_argument, function_argument}
use Rattle.definition.specs.Forms as F
use Rattle.definition.specs.Walk.{Walked, Expression, Operand, also, next, fine, compared, walk_filter_query, walk_function, walk_argument}
use Rattle.definition.specs.Walk.Walked.{refused, walked}
use Rattle.definition.specs.Walk.Expression.{nodes, valued, logical}
use Rattle.definition.specs.Walk.Operand.{expression}

-- ---- slices

-- a test that an element passes leaves the question to the others
both_true : (a b c : Bool) → (a && b) ≡ true → (b ≡ true → c ≡ true) → (a && c) ≡ true
both_true true b c h f = f h
both_true false b c h f = h

-- what holds of every element of two lists holds of every element of both end to end
every_append : (p : ℕ → Bool) (s t : List ℕ) → every p s ≡ true → every p t ≡ true → every p (s ++ t) ≡ true
every_append p [] t a b = b
every_append p (x ∷ s) t a b = both_true (p x) (every p s) (every p (s ++ t)) a (λ h. every_append p s t h b)

-- a place that is handed out is below n
element_below : (n : ℕ) (z : ℤ) → every (λ k. ltb k n) (element_at n z) ≡ true
unfolding element_at
element_below n (pos k) = go (ltb k n) refl
  where
    go : (b : Bool) → ltb k n ≡ b → every (λ m. ltb m n) (cond b (k ∷ []) []) ≡ true
    go true e = rw e
    go false e = refl
element_below n (negsuc k) = refl

cond_every : (p : ℕ → Bool) (b : Bool) (s : List ℕ) → every p s ≡ true → every p (cond b s []) ≡ true
cond_every p true s h = h
cond_every p false s h = refl

walk_below : (f n : ℕ) (i b s : ℤ) → every (λ k. ltb k n) (walk_places f n i b s) ≡ true
unfolding walk_places
walk_below zero n i b s = refl
walk_below (suc f) n i b s =
    cond_every (λ k. ltb k n) (goes_on s i b) (element_at n i ++ walk_places f n (i +ℤ s) b s)
    (every_append (λ k. ltb k n) (element_at n i) (walk_places f n (i +ℤ s) b s) (element_below n i) (walk_below f n (i +ℤ s) b s))

-- a slice selects only indices below n
pub slice_below : (n : ℕ) (a b c : Option ℤ) → every (λ k. ltb k n) (slice_places n a b c) ≡ true
unfolding slice_places
slice_below n a b c = walk_below (suc n) n (slice_start n a (slice_step c)) (slice_stop n b (slice_step c)) (slice_step c)

-- ---- spellings without escapes

-- the characters of a quoted text, each written as itself
pub data Plain : List ℕ → List Char → Type 0 where
  no_char : Plain [] []
  more_chars : {c : ℕ} {cs : List ℕ} {xs : List Char} (h : is_unescaped c ≡ true) → Plain cs xs → Plain (c ∷ cs) (plain c h ∷ xs)

-- they stand for their own UTF-8 bytes
plain_means : (q : Quote) {cs : List ℕ} {xs : List Char} → Plain cs xs → chars_bytes q xs ≡ encode_all cs
unfolding chars_bytes char_bytes encode_all
plain_means q no_char = refl
plain_means q (more_chars {c = c} h p) = ap (λ s. encode c ++ s) (plain_means q p)

-- and they are spelled by those bytes
plain_spells : (q : Quote) {cs : List ℕ} {xs : List Char} (r : List ℕ) → Plain cs xs → spell_chars q xs r ≡ encode_all cs ++ r
unfolding encode_all
plain_spells q r no_char = refl
plain_spells q {cs = c ∷ cs} r (more_chars h p) = ap (λ s. encode c ++ s) (plain_spells q r p) ∙ sym (append_assoc (encode c) (encode_all cs) r)

-- a quoted text without escapes is its quote, the bytes that it stands for, and its quote
pub text_is_itself : (q : Quote) {cs : List ℕ} {xs : List Char} (r : List ℕ) → Plain cs xs
    → spell_text (record { quote = q; chars = xs }) r ≡ own_byte q ∷ (text_bytes (record { quote = q; chars = xs }) ++ own_byte q ∷ r)
unfolding text_bytes
text_is_itself q r p = rw (plain_spells q (own_byte q ∷ r) p, plain_means q p)

-- a shorthand name selects the same key as its characters in quotes
pub name_is_text : (n : Name) (q : Quote) {xs : List Char} → Plain (n.first ∷ n.more) xs → text_bytes (record { quote = q; chars = xs }) ≡ name_bytes n
unfolding text_bytes encode_all
name_is_text n q p = plain_means q p

-- ---- function arguments: a query or a function is the same argument whether it is taken as itself or as a logical expression

abbrev pub alone : G.Test → G.Argument
alone t = logical_argument (logical_or (logical_and (test_basic t) no_and) no_or)

-- a report of nothing may be left out
spare : (b : Bool) (x : Operand) → walked (b || false) x ≡ walked (((b || false) || false) || false) x
spare true x = refl
spare false x = refl

-- what the walk of the logical expression does with a test, and what it does with the test taken as an argument
abbrev chained : Walked Expression → Walked Operand
chained m = next (next (next m (λ e. next (compared false e) (λ f. fine f))) (λ e. fine e)) (λ e. fine (expression e))

-- nothing is refused or reported on the way from an expression to the operand
chained_same : (m : Walked Expression) → next m (λ e. fine (expression e)) ≡ chained m
unfolding next also compared
chained_same (refused n) = refl
chained_same (walked b (nodes q)) = spare b (expression (nodes q))
chained_same (walked b (valued f)) = spare b (expression (valued f))
chained_same (walked b (logical t)) = spare b (expression (logical t))

nodes_first : (m : Walked F.Query) → next m (λ q. fine (expression (nodes q))) ≡ next (next m (λ q. fine (nodes q))) (λ e. fine (expression e))
unfolding next also
nodes_first (refused n) = refl
nodes_first (walked true q) = refl
nodes_first (walked false q) = refl

pub query_argument_means : (q : G.FilterQuery) → walk_argument (query_argument q) ≡ walk_argument (alone (query_test q))
unfolding walk_argument
query_argument_means q = nodes_first (walk_filter_query q) ∙ chained_same (next (walk_filter_query q) (λ x. fine (nodes x)))

pub function_argument_means : (f : G.Function) → walk_argument (function_argument f) ≡ walk_argument (alone (function_test f))
unfolding walk_argument
function_argument_means f = chained_same (walk_function f)

-- and both alternatives are spelled alike
pub query_argument_spells : (q : G.FilterQuery) (r : List ℕ) → spell_argument (query_argument q) r ≡ spell_argument (alone (query_test q)) r
query_argument_spells q r = refl

pub function_argument_spells : (f : G.Function) (r : List ℕ) → spell_argument (function_argument f) r ≡ spell_argument (alone (function_test f)) r
function_argument_spells f r = refl
