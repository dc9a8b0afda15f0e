-- What match and search say of small texts and expressions, as tables of rows, each under one computed test. A text and an expression are
-- written as the characters that stand in the pool: what a query's own escapes make of it is done.
use Rattle.std.specs.Prelude.{ℕ, ◌≡◌, refl, List, [], ◌∷◌, Bool, true, false, ◌&&◌, not, replicate}
use Prim.Native.Char.{code}
use Prim.Native.String.{String, [] as noChar, ◌∷◌ as ◌before◌}
use Rattle.std.proofs.Math.Option.{Option, none, some}
use Rattle.definition.specs.Utf8.{encode, encode_all, leading, continued, scalars_of}
use Rattle.definition.specs.Regexps.{regexp_of, test_by, regex_test}
use Rattle.regex_definition.specs.Regexp.{Regexp}
use Rattle.regex_definition.specs.Scope.{whole, part}
use Rattle.regex_definition.specs.Read.{read_ccchar, read_end, read_item, read_first, read_items, read_ranges, read_class, count_from, read_count, read_upper, read_braces, read_quantifier, read_leaf, read_alternatives, read_branch, read_piece, read_atom, read_regexp}

-- one name that opens every definition
unfoldable pub computes : ℕ
unfolding encode encode_all leading continued scalars_of regexp_of test_by regex_test read_ccchar read_end read_item read_first read_items read_ranges read_class count_from read_count read_upper read_braces read_quantifier read_leaf read_alternatives read_branch read_piece read_atom read_regexp
computes = 0

abbrev codes : String → List ℕ
codes noChar = []
codes (c before s) = code c ∷ codes s

abbrev bytes : String → List ℕ
bytes s = encode_all (codes s)

abbrev all : List Bool → Bool
all [] = true
all (b ∷ bs) = b && all bs

-- match and search hold of a text and an expression, or do not
abbrev match : String → String → Bool
match t e = regex_test whole (bytes t) (bytes e)

abbrev search : String → String → Bool
search t e = regex_test part (bytes t) (bytes e)

abbrev is_some : Option Regexp → Bool
is_some none = false
is_some (some x) = true

-- an expression is one of the part
abbrev in_part : String → Bool
in_part e = is_some (regexp_of (bytes e))

abbrev all_in : List String → Bool
all_in [] = true
all_in (e ∷ es) = in_part e && all_in es

abbrev none_in : List String → Bool
none_in [] = true
none_in (e ∷ es) = not (in_part e) && none_in es

-- ---- what is outside the part is false as a whole; no anchors; the escapes

pub outside :
    all
    (not (match "b" "\\p{L}|b") ∷
    not (search "b" "\\P{L}|b") ∷
    not (match "a" "(") ∷
    not (search "(" "(") ∷
    match "^a$" "^a$" ∷
    not (match "a" "^a$") ∷
    match "^" "\\^" ∷
    none_in ("\\$" ∷ "\\/" ∷ "\\d" ∷ "\\s" ∷ "\\u" ∷ "\\'" ∷ "\\\"" ∷ "\\a" ∷ "\\" ∷ "a\\" ∷ "[\\p{L}]" ∷ "(" ∷ ")" ∷ "a)" ∷ "(a" ∷ []) ∷
    match "()*+-.?[\\]^{|}" "\\(\\)\\*\\+\\-\\.\\?\\[\\\\\\]\\^\\{\\|\\}" ∷
    match "\n\r\t" "\\n\\r\\t" ∷
    not (match "n" "\\n") ∷
    []) ≡ true
unfolding computes
outside = refl

-- ---- characters

pub characters :
    all
    (not (search "\n" ".") ∷
    not (search "\r" ".") ∷
    match "\u{85}" "." ∷
    match "\u{2028}" "." ∷
    match "\u{b}\u{c}" ".." ∷
    match "-,/\"" "-,/\"" ∷
    match "\0\u{1f}" "\0\u{1f}" ∷
    none_in ("]" ∷ "}" ∷ "{" ∷ "[" ∷ "a]" ∷ []) ∷
    match "é" "." ∷
    not (match "é" ".") ∷
    match "😀" "[😀-😂]" ∷
    match "😀" "." ∷
    not (match "A" "a") ∷
    not (match "é" "é") ∷
    []) ≡ true
unfolding computes
characters = refl

-- ---- repeats

pub repeats :
    all
    (match "aaa" "a{2,}" ∷
    not (match "a" "a{2,}") ∷
    match "b" "a{2,1}|b" ∷
    not (match "aa" "a{2,1}") ∷
    not (match "a" "a{2,1}") ∷
    all_in ("a{064}" ∷ "a{0,64}" ∷ "a{64,}" ∷ "a{0000000000000000000000000064}" ∷ "((a{64}){64}){64}" ∷ []) ∷
    none_in ("a{65}" ∷ "a{0,65}" ∷ "a{65,}" ∷ "a{18446744073709551617}" ∷ "a{}" ∷ "a{,2}" ∷ "a{1" ∷ "a{1," ∷ "a{1,2" ∷ "a{ 1}" ∷ "a{1 }" ∷ "a**" ∷ "a{1}{2}" ∷ "a+?" ∷ "*a" ∷ "|*" ∷ "(*)" ∷ "*" ∷ "+" ∷ "?" ∷ "{1}" ∷ []) ∷
    match "" "a?" ∷
    match "a" "a?" ∷
    not (match "aa" "a?") ∷
    match "" "a*" ∷
    match "aaa" "a*" ∷
    not (match "" "a+") ∷
    match "aa" "a+" ∷
    match "aa" "a{2}" ∷
    not (match "aaa" "a{2}") ∷
    match "aaa" "a{2,3}" ∷
    not (match "aaaa" "a{2,3}") ∷
    match "abab" "(ab){2}" ∷
    not (match "abab" "ab{2}") ∷
    match "aaaaaaaa" "((a{2}){2}){2}" ∷
    not (match "aaaaaaa" "((a{2}){2}){2}") ∷
    []) ≡ true
unfolding computes
repeats = refl

-- ---- classes

pub classes :
    all
    (match "c" "[b-ac]" ∷
    match "x" "[^b-a]" ∷
    not (match "a" "[b-a]") ∷
    none_in ("[]" ∷ "[^]" ∷ "[a" ∷ "[" ∷ "[^" ∷ "[a-" ∷ "[a-b-c]" ∷ "[---]" ∷ "[+--]" ∷ "[[]" ∷ "[a[]" ∷ "[]a]" ∷ "[\\" ∷ "[\\]" ∷ "[\\d]" ∷ "[--a]" ∷ []) ∷
    match "^" "[^a]" ∷
    not (match "a" "[^a]") ∷
    match "b" "[^-a]" ∷
    not (match "-" "[^-a]") ∷
    not (match "a" "[^-a]") ∷
    match "^" "[\\^a]" ∷
    not (match "^" "[^^]") ∷
    match "-" "[-a]" ∷
    match "a" "[-a]" ∷
    match "-" "[a-]" ∷
    match "a" "[a-]" ∷
    match "-" "[-]" ∷
    match "-" "[--]" ∷
    match "a" "[^-]" ∷
    not (match "-" "[^-]") ∷
    match "-" "[a\\-z]" ∷
    not (match "b" "[a\\-z]") ∷
    match "b" "[a-z]" ∷
    match "." "[.]" ∷
    not (match "a" "[.]") ∷
    match "*" "[*]" ∷
    match "{" "[{]" ∷
    match "|" "[|]" ∷
    match "^" "[a^]" ∷
    match "[" "[\\[]" ∷
    match "]" "[\\]]" ∷
    match "\\" "[\\\\]" ∷
    match "\n" "[\\t-\\r]" ∷
    match "-" "[+-\\-]" ∷
    match "q" "[^a-cx]" ∷
    not (match "x" "[^a-cx]") ∷
    []) ≡ true
unfolding computes
classes = refl

-- ---- branches, groups, and parts of a text

pub branches :
    all
    (match "" "" ∷
    match "a" "a|" ∷
    match "" "a|" ∷
    match "" "()*" ∷
    match "" "()" ∷
    match "" "|" ∷
    search "" "" ∷
    search "abc" "" ∷
    search "" "a*" ∷
    match "b" "a|b|c" ∷
    not (match "ab" "a|b|c") ∷
    match "ad" "a(b|c|d)" ∷
    match "xaby" "x(a|b)*y" ∷
    search "xaby" "ab" ∷
    search "ab" "ab" ∷
    not (match "xaby" "ab") ∷
    not (search "ba" "ab") ∷
    search "abc" "b" ∷
    []) ≡ true
unfolding computes
branches = refl

-- ---- the limit of 1,024 bytes, of the expression's UTF-8

pub longest : is_some (regexp_of (replicate 1024 0x61)) ≡ true
unfolding computes
longest = refl

pub too_long : is_some (regexp_of (replicate 1025 0x61)) ≡ false
unfolding computes
too_long = refl

-- 513 characters of two bytes are too many
pub too_many_bytes : is_some (regexp_of (encode_all (replicate 513 0xE9))) ≡ false
unfolding computes
too_many_bytes = refl
