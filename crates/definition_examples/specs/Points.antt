-- Queries at the points where the walk and the translation to a plan could go wrong: each comes to a refusal, or to a plan and a pool.
use Rattle.std.specs.Prelude.{ℕ, ◌≡◌, refl, List, [], ◌∷◌, Bool, true, false, ◌&&◌, eqb}
use Prim.Native.String.{String}
use Rattle.std.proofs.Math.Option.{Option, none, some}
use Rattle.definition.specs.Bytes.{same_bytes}
use Rattle.definition.specs.Grammar as G
use Rattle.definition.specs.Grammar.{spell}
use Rattle.definition.specs.Forms.{Query, Test}
use Rattle.definition.specs.Forms.Literal.{text}
use Rattle.definition.specs.Forms.Start.{root, current}
use Rattle.definition.specs.Forms.Query.{query}
use Rattle.definition.specs.Forms.Segments.{end, child}
use Rattle.definition.specs.Forms.Selectors.{one}
use Rattle.definition.specs.Forms.Selector.{name, filter}
use Rattle.definition.specs.Forms.Test.{exists, not, not_value, either}
use Rattle.definition.specs.Forms.Argument.{literal}
use Rattle.definition.specs.Forms.Function.{count_of, length_of}
use Rattle.definition.specs.QueryForms.{is_form}
use Rattle.definition.specs.Walk.{walk}
use Rattle.definition.specs.Plans.{plan_of, pool_of}
use Rattle.definition.specs.Selecting.{Reading, early, judge}
use Rattle.definition.specs.Selecting.Reading.{form, refused}
use Rattle.definition_examples.specs.Computes.{computes}
use Rattle.definition_examples.specs.Texts.{codes, bytes, hex}
use Rattle.definition_examples.specs.Trees.{tree_of}
use Rattle.definition_examples.specs.Gives.{is_translated}

-- a query that is refused, by which number; or one that has a form, with its plan in hexadecimal and its pool as text; or a form that no query has, with both
pub data Point : Type 0 where
  refuses : String → ℕ → Point
  plans : String → String → String → Point
  stored : Query → String → String → Point

abbrev pub is_refused : Reading → ℕ → Bool
is_refused (refused n) m = eqb n m
is_refused (form q) m = false

abbrev pub is_planned : Reading → List ℕ → List ℕ → Bool
is_planned (refused n) plan pool = false
is_planned (form q) plan pool = is_form q && (same_bytes (plan_of q) plan && same_bytes (pool_of q) pool)

-- whether some tree spells the bytes, none of refusals 1 to 3 comes before it, and what the tree comes to passes a test
abbrev pub reads_by : Option G.Query → List ℕ → (Reading → Bool) → Bool
reads_by none s p = false
reads_by (some t) s p = same_bytes (spell t) s && (eqb (early s) 0 && p (judge (walk t)))

abbrev pub reads : String → (Reading → Bool) → Bool
reads q p = reads_by (tree_of (codes q)) (bytes q) p

abbrev pub holds : Point → Bool
holds (refuses q n) = reads q (λ r. is_refused r n)
holds (plans q plan pool) = reads q (λ r. is_planned r (hex plan) (bytes pool))
holds (stored q plan pool) = is_translated q (hex plan) (bytes pool)

abbrev pub all_hold : List Point → Bool
all_hold [] = true
all_hold (x ∷ xs) = holds x && all_hold xs

-- ---- refusals 4 to 6

abbrev pub refusals : List Point
refusals =
    -- the first of 4 and 6 in written order
    refuses "$[?foo()][9007199254740992]" 6 ∷
    refuses "$[9007199254740992][?foo()]" 4 ∷
    -- match and search are neither nodes nor values, and take two values
    refuses "$[?count(match(@,@))==1]" 5 ∷
    refuses "$[?length(search('a','b'))==1]" 5 ∷
    refuses "$[?match(match('a','b'),'c')]" 5 ∷
    refuses "$[?1==match('a','b')]" 5 ∷
    refuses "$[?search('a','b')==true]" 5 ∷
    refuses "$[?match('a')]" 5 ∷
    refuses "$[?match('a','b','c')]" 5 ∷
    refuses "$[?match(@.*,'b')]" 5 ∷
    refuses "$[?search('a',@..b)]" 5 ∷
    -- arguments before the name lookup
    refuses "$[?foo(match('a','b'))]" 6 ∷
    refuses "$[?true(@)]" 6 ∷
    refuses "$[?foo(count())]" 5 ∷
    refuses "$[?foo(@[9007199254740992])]" 4 ∷
    refuses "$[?count(@, foo())==1]" 6 ∷
    -- then the argument count
    refuses "$[?count(@,@)==1]" 5 ∷
    refuses "$[?length()==1]" 5 ∷
    -- a value function alone, but not straight in an argument
    refuses "$[?count(@)]" 5 ∷
    refuses "$[?(count(@))]" 5 ∷
    refuses "$[?!(count(@.*))]" 5 ∷
    refuses "$[?@.a && count(@)]" 5 ∷
    refuses "$[?@.a || count(@)]" 5 ∷
    refuses "$[?foo(length('a') && @)]" 6 ∷
    refuses "$[?foo(@ && length('a'))]" 6 ∷
    refuses "$[?foo(@ || length('a'))]" 6 ∷
    refuses "$[?foo((length('a')))]" 5 ∷
    -- `!` straight before a value function: what is wrong inside comes first, what stands behind comes later (document 02, W12)
    refuses "$[?!count(@.*)]" 5 ∷
    refuses "$[?!length('a')]" 5 ∷
    refuses "$[?! value(@)]" 5 ∷
    refuses "$[?!(!count(@))]" 5 ∷
    refuses "$[?!count(@.a)||@.b]" 5 ∷
    refuses "$[?!count(foo())]" 6 ∷
    refuses "$[?!foo(@)]" 6 ∷
    refuses "$[?!count(@[9007199254740992])]" 4 ∷
    refuses "$[?!count(@) && foo()]" 5 ∷
    refuses "$[?foo(!count(@))]" 5 ∷
    refuses "$[?!count(@) || match('a','b')]" 5 ∷
    -- types of arguments
    refuses "$[?length((count(@)))==0]" 5 ∷
    refuses "$[?length((@.*))==0]" 5 ∷
    refuses "$[?length(@['a','b'])==0]" 5 ∷
    refuses "$[?length(@[0:1])==0]" 5 ∷
    refuses "$[?length(@..a)==0]" 5 ∷
    refuses "$[?length(@[?@])==0]" 5 ∷
    refuses "$[?length(!@.a)==0]" 5 ∷
    refuses "$[?length(@.a && @.b)==0]" 5 ∷
    refuses "$[?count('a')==1]" 5 ∷
    refuses "$[?count(1==1)==1]" 5 ∷
    refuses "$[?value(value(@))==1]" 5 ∷
    -- both sides of a comparison before either is judged
    refuses "$[?match('a','b')==foo()]" 6 ∷
    refuses "$[?match('a','b')==@[9007199254740992]]" 4 ∷
    -- indices, bounds and steps out of range
    refuses "$[-9007199254740992]" 4 ∷
    refuses "$[9007199254740992:]" 4 ∷
    refuses "$[1:9007199254740992]" 4 ∷
    refuses "$[::-9007199254740992]" 4 ∷
    []

pub refusals_hold : all_hold refusals ≡ true
unfolding computes
refusals_hold = refl

-- ---- plans

-- a query that begins at `@`, of one name, and a filter at the root
abbrev at : List ℕ → Query
at s = query current (child (one (name s)) end)

abbrev filtered : Test → Query
filtered t = query root (child (one (filter t)) end)

abbrev pub forms : List Point
forms =
    -- operators
    plans "$[?@ != 1]" "01 03 01 00 09 0D 00 02 0A 10 01 00 00 00 00 00 00 00 14 01 0A" "" ∷
    plans "$[?@<1]" "01 03 01 00 09 0D 00 02 0A 10 01 00 00 00 00 00 00 00 14 02 0A" "" ∷
    plans "$[?@<=1]" "01 03 01 00 09 0D 00 02 0A 10 01 00 00 00 00 00 00 00 14 03 0A" "" ∷
    plans "$[?@>1]" "01 03 01 00 09 0D 00 02 0A 10 01 00 00 00 00 00 00 00 14 04 0A" "" ∷
    plans "$[?@>=1]" "01 03 01 00 09 0D 00 02 0A 10 01 00 00 00 00 00 00 00 14 05 0A" "" ∷
    -- chains group from the left, and `&&` before `||`
    plans "$[?@.a||@.b]" "01 03 01 00 09 19 00 02 03 01 00 05 00 00 01 00 0A 18 17 0B 00 02 03 01 00 05 01 00 01 00 0A 18 0A" "ab" ∷
    plans "$[?@.a&&@.b&&@.c]" "01 03 01 00 09 27 00 02 03 01 00 05 00 00 01 00 0A 18 16 0B 00 02 03 01 00 05 01 00 01 00 0A 18 16 0B 00 02 03 01 00 05 02 00 01 00 0A 18 0A" "abc" ∷
    plans "$[?@.a&&(@.b&&@.c)]" "01 03 01 00 09 27 00 02 03 01 00 05 00 00 01 00 0A 18 16 19 00 02 03 01 00 05 01 00 01 00 0A 18 16 0B 00 02 03 01 00 05 02 00 01 00 0A 18 0A" "abc" ∷
    plans "$[?@||@||$]" "01 03 01 00 09 0F 00 02 0A 18 17 03 00 02 0A 18 17 03 00 01 0A 18 0A" "" ∷
    -- not, before a query and a parenthesis
    plans "$[?!(!@)]" "01 03 01 00 09 05 00 02 0A 18 15 15 0A" "" ∷
    plans "$[?!@.*]" "01 03 01 00 09 08 00 02 03 01 00 08 0A 18 15 0A" "" ∷
    plans "$[?!@.a||@.b]" "01 03 01 00 09 1A 00 02 03 01 00 05 00 00 01 00 0A 18 15 17 0B 00 02 03 01 00 05 01 00 01 00 0A 18 0A" "ab" ∷
    plans "$[?!(@==1)]" "01 03 01 00 09 0E 00 02 0A 10 01 00 00 00 00 00 00 00 14 00 15 0A" "" ∷
    -- not before a value function, which only a stored plan holds: the forms that `!count(@.a)||@.b`, `!(!count(@.a))` and `!length('a')` had
    stored (filtered (either (not_value (count_of (at (0x61 ∷ [])))) (exists (at (0x62 ∷ []))))) "01 03 01 00 09 1B 00 02 03 01 00 05 00 00 01 00 0A 19 18 15 17 0B 00 02 03 01 00 05 01 00 01 00 0A 18 0A" "ab" ∷
    stored (filtered (not (not_value (count_of (at (0x61 ∷ [])))))) "01 03 01 00 09 0E 00 02 03 01 00 05 00 00 01 00 0A 19 18 15 15 0A" "a" ∷
    stored (filtered (not_value (length_of (literal (text (0x61 ∷ [])))))) "01 03 01 00 09 08 00 12 00 00 01 00 1A 18 15 0A" "a" ∷
    -- arguments, in parentheses or not
    plans "$[?count(((@.a)))==1]" "01 03 01 00 09 16 00 02 03 01 00 05 00 00 01 00 0A 19 10 01 00 00 00 00 00 00 00 14 00 0A" "a" ∷
    plans "$[?length((@.a))==0]" "01 03 01 00 09 16 00 02 03 01 00 05 00 00 01 00 0A 1A 10 00 00 00 00 00 00 00 00 14 00 0A" "a" ∷
    plans "$[?length(@[ 'a' ])==0]" "01 03 01 00 09 16 00 02 03 01 00 05 00 00 01 00 0A 1A 10 00 00 00 00 00 00 00 00 14 00 0A" "a" ∷
    plans "$[?value($)==null]" "01 03 01 00 09 07 00 01 0A 1B 13 02 14 00 0A" "" ∷
    plans "$[?length(count(@))=='ab']" "01 03 01 00 09 0B 00 02 0A 19 1A 12 00 00 02 00 14 00 0A" "ab" ∷
    -- match and search: two values in written order, then 1C or 1D, and no 18 (document 02, W4); no expression is looked at
    plans "$[?match('a','b')]" "01 03 01 00 09 0B 00 12 00 00 01 00 12 01 00 01 00 1C 0A" "ab" ∷
    plans "$[?!match('a','b')]" "01 03 01 00 09 0C 00 12 00 00 01 00 12 01 00 01 00 1C 15 0A" "ab" ∷
    plans "$[?search(@,'(')]" "01 03 01 00 09 08 00 02 0A 12 00 00 01 00 1D 0A" "(" ∷
    plans "$[?search(@.a,$.b) && !match(length(@),value(@))]" "01 03 01 00 09 20 00 02 03 01 00 05 00 00 01 00 0A 01 03 01 00 05 01 00 01 00 0A 1D 16 08 00 02 0A 1A 02 0A 1B 1C 15 0A" "ab" ∷
    -- constants
    plans "$[?@==true||@==false]" "01 03 01 00 09 0F 00 02 0A 13 01 14 00 17 06 00 02 0A 13 00 14 00 0A" "" ∷
    -- texts: the pool's places run on through names, literals and operands
    plans "$['\\t\\uD83D\\uDE00\\u0041\\u00e9\\'\"']" "01 03 01 00 05 00 00 0A 00 0A" "\t😀Aé'\"" ∷
    plans "$[\"\\\"'\\/\\b\\f\\n\\r\\\\\"]" "01 03 01 00 05 00 00 08 00 0A" "\"'/\u{8}\u{c}\n\r\\" ∷
    plans "$['\\uD800\\uDC00\\uDBFF\\uDFFF\\uFFFF\\uD7FF\\uE000']" "01 03 01 00 05 00 00 11 00 0A" "𐀀\u{10ffff}\u{ffff}\u{d7ff}\u{e000}" ∷
    plans "$.aé['bc'][?@.d=='ef' && 'g'==@.h].i" "01 03 01 00 05 00 00 03 00 03 01 00 05 03 00 02 00 03 01 00 09 25 00 02 03 01 00 05 05 00 01 00 0A 12 06 00 02 00 14 00 16 11 00 12 08 00 01 00 02 03 01 00 05 09 00 01 00 0A 14 00 03 01 00 05 0A 00 01 00 0A" "aébcdefghi" ∷
    plans "$[?count(@.a)==length('b') || value(@.c)==@.d]" "01 03 01 00 09 2D 00 02 03 01 00 05 00 00 01 00 0A 19 12 01 00 01 00 1A 14 00 17 17 00 02 03 01 00 05 02 00 01 00 0A 1B 02 03 01 00 05 03 00 01 00 0A 14 00 0A" "abcd" ∷
    -- segments, selectors, slices
    plans "$..['a', 'b'][1:-2:3, ::, 5]" "01 04 02 00 05 00 00 01 00 05 01 00 01 00 03 03 00 07 07 01 00 00 00 00 00 00 00 FE FF FF FF FF FF FF FF 03 00 00 00 00 00 00 00 07 00 00 00 00 00 00 00 00 00 00 00 00 00 00 00 00 00 00 00 00 00 00 00 00 00 06 05 00 00 00 00 00 00 00 0A" "ab" ∷
    plans "$[1:]" "01 03 01 00 07 01 01 00 00 00 00 00 00 00 00 00 00 00 00 00 00 00 00 00 00 00 00 00 00 00 0A" "" ∷
    plans "$[:1]" "01 03 01 00 07 02 00 00 00 00 00 00 00 00 01 00 00 00 00 00 00 00 00 00 00 00 00 00 00 00 0A" "" ∷
    plans "$[::1]" "01 03 01 00 07 04 00 00 00 00 00 00 00 00 00 00 00 00 00 00 00 00 01 00 00 00 00 00 00 00 0A" "" ∷
    plans "$[-9007199254740991]" "01 03 01 00 06 01 00 00 00 00 00 E0 FF 0A" "" ∷
    plans "$..*.*..a" "01 04 01 00 08 03 01 00 08 04 01 00 05 00 00 01 00 0A" "a" ∷
    plans "$[?@ .b [0]==1]" "01 03 01 00 09 21 00 02 03 01 00 05 00 00 01 00 03 01 00 06 00 00 00 00 00 00 00 00 0A 10 01 00 00 00 00 00 00 00 14 00 0A" "b" ∷
    plans "$[?$['a']==@]" "01 03 01 00 09 0E 00 01 03 01 00 05 00 00 01 00 0A 02 0A 14 00 0A" "a" ∷
    []

pub forms_hold : all_hold forms ≡ true
unfolding computes
forms_hold = refl
