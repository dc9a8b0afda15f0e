-- Which forms are query forms: a wrong part is found wherever it stands, and the nesting of 128 is met exactly by every part that counts.
use Rattle.std.specs.Prelude.{ℕ, zero, suc, ◌≡◌, refl, [], ◌∷◌, Bool, true, not, ◌&&◌, pos, negsuc}
use Rattle.std.proofs.Math.Option.{none, some}
use Rattle.regex_definition.specs.Scope.{whole, part}
use Rattle.definition.specs.Forms as F
use Rattle.definition.specs.Forms.Literal.{integer, float, text}
use Rattle.definition.specs.Forms.Operator.{eq}
use Rattle.definition.specs.Forms.Start.{root, current}
use Rattle.definition.specs.Forms.Query.{query}
use Rattle.definition.specs.Forms.Segments.{end, child, descendant}
use Rattle.definition.specs.Forms.Selectors.{one, and}
use Rattle.definition.specs.Forms.Selector.{name, index, slice, wildcard, filter}
use Rattle.definition.specs.Forms.Test.{exists, compare, regex, not_value, both, either}
use Rattle.definition.specs.Forms.Argument.{literal, singular, value}
use Rattle.definition.specs.Forms.Function.{count_of, length_of, value_of}
use Rattle.definition.specs.QueryForms.{is_form}
use Rattle.definition_examples.specs.Computes.{computes}
use Rattle.definition_examples.specs.Texts.{hex}
use Rattle.definition_examples.specs.Gives.{all}

-- `$[s]`, and `$[?t]`
abbrev picked : F.Selector → F.Query
picked s = query root (child (one s) end)

abbrev filtered : F.Test → F.Query
filtered t = picked (filter t)

-- `@`, `@[s]`, and `@==a`
abbrev at : F.Query
at = query current end

abbrev at_picked : F.Selector → F.Query
at_picked s = query current (child (one s) end)

abbrev equals : F.Argument → F.Test
equals a = compare eq (singular at) a

-- ---- parts at their ends: the first is right, the second is not

abbrev between : F.Query → F.Query → Bool
between a b = is_form a && not (is_form b)

abbrev literals : F.Literal → F.Literal → Bool
literals a b = between (filtered (equals (literal a))) (filtered (equals (literal b)))

pub ends :
    all
    (between (picked (index (pos 9007199254740991))) (picked (index (pos 9007199254740992))) ∷
    between (picked (index (negsuc 9007199254740990))) (picked (index (negsuc 9007199254740991))) ∷
    between (picked (slice (some (pos 9007199254740991)) none none)) (picked (slice (some (pos 9007199254740992)) none none)) ∷
    between (picked (slice none (some (pos 9007199254740991)) none)) (picked (slice none (some (pos 9007199254740992)) none)) ∷
    between (picked (slice none none (some (negsuc 9007199254740990)))) (picked (slice none none (some (negsuc 9007199254740991)))) ∷
    between (picked (name (hex "C3 A9"))) (picked (name (hex "C3"))) ∷
    literals (text (hex "C3 A9")) (text (hex "C3")) ∷
    literals (integer (pos 9223372036854775807)) (integer (pos 9223372036854775808)) ∷
    literals (integer (negsuc 9223372036854775807)) (integer (negsuc 9223372036854775808)) ∷
    literals (float 0x7FEFFFFFFFFFFFFF) (float 0x7FF0000000000000) ∷
    literals (float 0xFFEFFFFFFFFFFFFF) (float 0x10000000000000000) ∷
    between (query root end) (query current end) ∷
    []) ≡ true
unfolding computes
ends = refl

-- ---- a wrong part is found wherever it stands

abbrev bad : F.Selector
bad = index (pos 9007199254740992)

-- a place of a query for a selector: with a good one it is a query form, with a bad one it is none
abbrev looks : (F.Selector → F.Query) → Bool
looks f = between (f (index (pos 0))) (f bad)

abbrev tests : (F.Test → F.Test) → Bool
tests f = looks (λ s. filtered (f (exists (at_picked s))))

pub places :
    all
    (looks (λ s. query root (child (one wildcard) (child (one s) end))) ∷
    looks (λ s. query root (descendant (one s) end)) ∷
    looks (λ s. query root (descendant (one wildcard) (child (one s) end))) ∷
    looks (λ s. query root (child (and s (one wildcard)) end)) ∷
    looks (λ s. query root (child (and wildcard (one s)) end)) ∷
    tests (λ t. t) ∷
    tests F.Test.not ∷
    tests (λ t. both t (exists at)) ∷
    tests (λ t. both (exists at) t) ∷
    tests (λ t. either t (exists at)) ∷
    tests (λ t. either (exists at) t) ∷
    looks (λ s. filtered (compare eq (singular (at_picked s)) (singular at))) ∷
    looks (λ s. filtered (compare eq (singular at) (singular (at_picked s)))) ∷
    looks (λ s. filtered (regex whole (singular (at_picked s)) (singular at))) ∷
    looks (λ s. filtered (regex part (singular at) (singular (at_picked s)))) ∷
    looks (λ s. filtered (not_value (count_of (at_picked s)))) ∷
    looks (λ s. filtered (equals (value (count_of (at_picked s))))) ∷
    looks (λ s. filtered (equals (value (length_of (singular (at_picked s)))))) ∷
    looks (λ s. filtered (equals (value (value_of (at_picked s))))) ∷
    []) ≡ true
unfolding computes
places = refl

-- what is no singular query is compared by no form
abbrev singly : F.Query → Bool
singly q = not (is_form (filtered (equals (singular q))))

pub singulars :
    all
    (is_form (filtered (equals (singular (query root (child (one (name [])) (child (one (index (pos 0))) end)))))) ∷
    singly (at_picked wildcard) ∷
    singly (at_picked (slice none none none)) ∷
    singly (at_picked (filter (exists at))) ∷
    singly (query current (descendant (one (name [])) end)) ∷
    singly (query current (child (and (name []) (one (name []))) end)) ∷
    singly (query current (child (one (name [])) (child (one wildcard) end))) ∷
    []) ≡ true
unfolding computes
singulars = refl

-- ---- "no item inside more than 128 filters, functions, nots and right operands"

abbrev times : {A : Type 0} → ℕ → (A → A) → A → A
times zero f x = x
times (suc n) f x = f (times n f x)

-- n of f around a test, in a filter, are a query form, and one more is none
abbrev nests : ℕ → (F.Test → F.Test) → F.Test → Bool
nests n f t = between (filtered (times n f t)) (filtered (times (suc n) f t))

abbrev in_filter : F.Test → F.Query
in_filter t = at_picked (filter t)

-- a test with 127 around it, which a filter makes 128, and one with 128
abbrev deep : F.Test
deep = times 127 F.Test.not (exists at)

abbrev deeper : F.Test
deeper = F.Test.not deep

-- a place for a test, with nothing around it that counts but the test's filter
abbrev level : (F.Selector → F.Query) → Bool
level f = between (f (filter deep)) (f (filter deeper))

pub nestings :
    all
    (nests 127 F.Test.not (exists at) ∷
    nests 127 (λ t. both (exists at) t) (exists at) ∷
    nests 127 (λ t. either (exists at) t) (exists at) ∷
    nests 127 (λ t. exists (in_filter t)) (exists at) ∷
    nests 63 (λ t. equals (value (count_of (in_filter t)))) (F.Test.not (exists at)) ∷
    nests 63 (λ t. compare eq (value (value_of (in_filter t))) (singular at)) (F.Test.not (exists at)) ∷
    nests 42 (λ t. not_value (count_of (in_filter t))) (F.Test.not (exists at)) ∷
    nests 42 (λ t. regex whole (value (count_of (in_filter t))) (singular at)) (F.Test.not (exists at)) ∷
    nests 42 (λ t. regex part (singular at) (value (value_of (in_filter t)))) (F.Test.not (exists at)) ∷
    between (filtered (equals (times 127 (λ a. value (length_of a)) (literal F.Literal.null)))) (filtered (equals (times 128 (λ a. value (length_of a)) (literal F.Literal.null)))) ∷
    is_form (filtered (times 300 (λ t. both t (exists at)) (exists at))) ∷
    is_form (filtered (times 300 (λ t. either t (exists at)) (exists at))) ∷
    []) ≡ true
unfolding computes
nestings = refl

pub levels :
    all
    (level picked ∷
    level (λ s. query root (child (one wildcard) (child (one s) end))) ∷
    level (λ s. query root (child (one s) (child (one wildcard) end))) ∷
    level (λ s. query root (descendant (one s) (descendant (one wildcard) end))) ∷
    level (λ s. query root (descendant (one wildcard) (descendant (one s) end))) ∷
    level (λ s. query root (child (and s (one wildcard)) end)) ∷
    level (λ s. query root (child (and wildcard (one s)) end)) ∷
    []) ≡ true
unfolding computes
levels = refl
