-- The bytes of the format, each taken from what the definition writes for a small form.
use Rattle.std.specs.Prelude.{ℕ, List, [], ◌∷◌, true, false, pos, length, get_or, take}
use Rattle.std.proofs.Math.Option.{none}
use Rattle.regex_definition.specs.Scope.{whole, part}
use Rattle.definition.specs.Bytes.{number}
use Rattle.definition.specs.Forms.{Segments, Selector, Test}
use Rattle.definition.specs.Forms.Operator.{eq, ne, lt, le, gt, ge}
use Rattle.definition.specs.Forms.Literal.{null, boolean, integer, float, text}
use Rattle.definition.specs.Forms.Start.{root, current}
use Rattle.definition.specs.Forms.Query.{query}
use Rattle.definition.specs.Forms.Segments.{end, child, descendant}
use Rattle.definition.specs.Forms.Selectors.{one}
use Rattle.definition.specs.Forms.Selector.{name, index, slice, wildcard, filter}
use Rattle.definition.specs.Forms.Test.{exists, compare, not, both, either}
use Rattle.definition.specs.Forms.Argument.{literal}
use Rattle.definition.specs.Forms.Function.{count_of, length_of, value_of}
use Rattle.definition.specs.Plans.{start_kind, operator_byte, scope_kind, code_segments, code_selector, code_literal, code_test, code_function, framed}

-- ---- small forms, and the code of parts of them

-- the test `@`, which takes three bytes, and the comparison of null with itself, whose operands take two each
abbrev here : Test
here = exists (query current end)

abbrev code : Test → List ℕ
code t = code_test t 0

abbrev selector : Selector → List ℕ
selector s = code_selector s 0

abbrev alone : Selector → Segments
alone s = child (one s) end

-- the byte at a place
abbrev byte : ℕ → List ℕ → ℕ
byte i s = get_or s i 0

-- ---- kinds

-- ascending, up to or
abbrev pub kinds : List ℕ
kinds =
    start_kind root
    ∷ start_kind current
    ∷ byte 0 (code_segments (alone wildcard) 0)
    ∷ byte 0 (code_segments (descendant (one wildcard) end) 0)
    ∷ byte 0 (selector (name []))
    ∷ byte 0 (selector (index (pos 0)))
    ∷ byte 0 (selector (slice none none none))
    ∷ byte 0 (selector wildcard)
    ∷ byte 0 (selector (filter here))
    ∷ byte 0 (code_segments end 0)
    ∷ byte 0 (code_literal (integer (pos 0)) 0)
    ∷ byte 0 (code_literal (float 0) 0)
    ∷ byte 0 (code_literal (text []) 0)
    ∷ byte 0 (code_literal null 0)
    ∷ byte 4 (code (compare eq (literal null) (literal null)))
    ∷ byte 3 (code (not here))
    ∷ byte 3 (code (both here here))
    ∷ byte 3 (code (either here here))
    ∷ []

-- behind operands: test, count, length, value, match, search
abbrev pub calls : List ℕ
calls =
    byte 2 (code here)
    ∷ byte 2 (code_function (count_of (query current end)) 0)
    ∷ byte 2 (code_function (length_of (literal null)) 0)
    ∷ byte 2 (code_function (value_of (query current end)) 0)
    ∷ scope_kind whole
    ∷ scope_kind part
    ∷ []

-- ---- bodies

abbrev pub operators : List ℕ
operators = operator_byte eq ∷ operator_byte ne ∷ operator_byte lt ∷ operator_byte le ∷ operator_byte gt ∷ operator_byte ge ∷ []

abbrev pub words : List ℕ
words = byte 1 (code_literal (boolean false) 0) ∷ byte 1 (code_literal (boolean true) 0) ∷ byte 1 (code_literal null 0) ∷ []

-- how long an item is that has no body, a number of code or selectors, a text, a number, a byte, a slice
abbrev pub lengths : List ℕ
lengths =
    length (selector wildcard)
    ∷ length (framed 0 [])
    ∷ length (selector (name []))
    ∷ length (selector (index (pos 0)))
    ∷ length (code_literal null 0)
    ∷ length (selector (slice none none none))
    ∷ []

-- the first four bytes of a child segment of one name, index, slice, wildcard or filter, as a number
abbrev head : Selector → ℕ
head s = number (take 4 (code_segments (alone s) 0))

abbrev pub heads : List ℕ
heads = head (name []) ∷ head (index (pos 0)) ∷ head (slice none none none) ∷ head wildcard ∷ head (filter here) ∷ []
