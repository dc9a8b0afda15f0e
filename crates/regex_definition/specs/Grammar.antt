-- The part of RFC 9485's grammar that document 02, W4, names: its grammar without the category escapes `\p{..}` and `\P{..}`.
-- One type of trees for each rule, with a function that spells a tree in characters, followed by the characters r, and one that gives
-- its meaning. A leaf carries the proof that its characters are of their class, so every tree is a text of the part.
use Rattle.std.specs.Prelude.{◌≡◌, Bool, true, false, List, [], ◌∷◌, ◌++◌, ℕ, ◌+◌, ◌-◌, ◌*◌, eqb, leb}
use Rattle.regex_definition.specs.Chars.{max_repeat, every, is_normal, is_escaped, is_class_char, is_digit, escape_value}
use Rattle.regex_definition.specs.Words.{Most, upto, any}
use Rattle.regex_definition.specs.Regexp.{Range, Regexp, empty, class, then, or, times}

-- ---- characters

-- NormalChar
pub record NormalChar : Type 0 where
  pub char : ℕ
  pub good : is_normal char ≡ true

-- SingleCharEsc = "\" and one of the characters that isEscaped lists
pub record SingleCharEsc : Type 0 where
  pub letter : ℕ
  pub good : is_escaped letter ≡ true

abbrev pub spell_escape : SingleCharEsc → List ℕ → List ℕ
spell_escape e r = 0x5C ∷ e.letter ∷ r

-- the one character c as a range, and as an expression
abbrev pub only : ℕ → Range
only c = record { low = c; high = c }

abbrev pub char : ℕ → Regexp
char c = class false (only c ∷ [])

-- "." is every character but line feed and carriage return
abbrev pub dot : Regexp
dot = class true (only 0x0A ∷ only 0x0D ∷ [])

-- ---- classes

-- CCchar
pub data CCchar : Type 0 where
  bare_char : (c : ℕ) → is_class_char c ≡ true → CCchar
  escaped_char : SingleCharEsc → CCchar

abbrev pub spell_ccchar : CCchar → List ℕ → List ℕ
spell_ccchar (bare_char c g) r = c ∷ r
spell_ccchar (escaped_char e) r = spell_escape e r

abbrev pub char_of : CCchar → ℕ
char_of (bare_char c g) = c
char_of (escaped_char e) = escape_value e.letter

-- CCE1 = CCchar [ "-" CCchar ]
pub data CCE1 : Type 0 where
  single_item : CCchar → CCE1
  range_item : CCchar → CCchar → CCE1

abbrev pub spell_item : CCE1 → List ℕ → List ℕ
spell_item (single_item a) r = spell_ccchar a r
spell_item (range_item a b) r = spell_ccchar a (0x2D ∷ spell_ccchar b r)

abbrev pub range_of : CCE1 → Range
range_of (single_item a) = only (char_of a)
range_of (range_item a b) = record { low = char_of a; high = char_of b }

-- *CCE1
pub data CCE1s : Type 0 where
  no_item : CCE1s
  more_items : CCE1 → CCE1s → CCE1s

abbrev pub spell_items : CCE1s → List ℕ → List ℕ
spell_items no_item r = r
spell_items (more_items i is) r = spell_item i (spell_items is r)

abbrev pub ranges_of : CCE1s → List Range → List Range
ranges_of no_item gs = gs
ranges_of (more_items i is) gs = range_of i ∷ ranges_of is gs

-- "-" / CCE1
pub data First : Type 0 where
  dash_first : First
  item_first : CCE1 → First

abbrev pub spell_first : First → List ℕ → List ℕ
spell_first dash_first r = 0x2D ∷ r
spell_first (item_first i) r = spell_item i r

abbrev pub first_of : First → Range
first_of dash_first = only 0x2D
first_of (item_first i) = range_of i

-- [ "-" ] and "]"
abbrev pub spell_last : Bool → List ℕ → List ℕ
spell_last false r = 0x5D ∷ r
spell_last true r = 0x2D ∷ 0x5D ∷ r

abbrev pub last_of : Bool → List Range
last_of false = []
last_of true = only 0x2D ∷ []

-- whether a class would begin with a bare "^", which is the sign of the complement there
abbrev pub is_caret : CCchar → Bool
is_caret (bare_char c g) = eqb c 0x5E
is_caret (escaped_char e) = false

abbrev pub begins_caret : First → Bool
begins_caret dash_first = false
begins_caret (item_first (single_item a)) = is_caret a
begins_caret (item_first (range_item a b)) = is_caret a

-- charClassExpr = "[" [ "^" ] ( "-" / CCE1 ) *CCE1 [ "-" ] "]"
pub data CharClassExpr : Type 0 where
  positive_class : (f : First) → begins_caret f ≡ false → CCE1s → Bool → CharClassExpr
  complement_class : First → CCE1s → Bool → CharClassExpr

abbrev pub spell_ranges : First → CCE1s → Bool → List ℕ → List ℕ
spell_ranges f is l r = spell_first f (spell_items is (spell_last l r))

abbrev pub spell_class : CharClassExpr → List ℕ → List ℕ
spell_class (positive_class f g is l) r = 0x5B ∷ spell_ranges f is l r
spell_class (complement_class f is l) r = 0x5B ∷ 0x5E ∷ spell_ranges f is l r

abbrev pub meaning_class : CharClassExpr → Regexp
meaning_class (positive_class f g is l) = class false (first_of f ∷ ranges_of is (last_of l))
meaning_class (complement_class f is l) = class true (first_of f ∷ ranges_of is (last_of l))

-- ---- quantifiers

-- what digits behind the number v stand for
abbrev pub decimal_from : ℕ → List ℕ → ℕ
decimal_from v [] = v
decimal_from v (c ∷ s) = decimal_from (v * 10 + (c - 0x30)) s

-- 1*DIGIT, a number of at most 64
pub record Count : Type 0 where
  pub first : ℕ
  pub more : List ℕ
  pub is_first : is_digit first ≡ true
  pub are_more : every is_digit more ≡ true
  pub is_small : leb (decimal_from 0 (first ∷ more)) max_repeat ≡ true

abbrev pub spell_count : Count → List ℕ → List ℕ
spell_count n r = n.first ∷ (n.more ++ r)

abbrev pub count_of : Count → ℕ
count_of n = decimal_from 0 (n.first ∷ n.more)

-- quantifier = "*" / "+" / "?" / "{" 1*DIGIT [ "," [ 1*DIGIT ] ] "}"
pub data Quantifier : Type 0 where
  star : Quantifier
  plus : Quantifier
  option : Quantifier
  exactly : Count → Quantifier
  at_least : Count → Quantifier
  between : Count → Count → Quantifier

abbrev pub spell_quantifier : Quantifier → List ℕ → List ℕ
spell_quantifier star r = 0x2A ∷ r
spell_quantifier plus r = 0x2B ∷ r
spell_quantifier option r = 0x3F ∷ r
spell_quantifier (exactly n) r = 0x7B ∷ spell_count n (0x7D ∷ r)
spell_quantifier (at_least n) r = 0x7B ∷ spell_count n (0x2C ∷ 0x7D ∷ r)
spell_quantifier (between n m) r = 0x7B ∷ spell_count n (0x2C ∷ spell_count m (0x7D ∷ r))

abbrev pub least : Quantifier → ℕ
least star = 0
least plus = 1
least option = 0
least (exactly n) = count_of n
least (at_least n) = count_of n
least (between n m) = count_of n

abbrev pub most : Quantifier → Most
most star = any
most plus = any
most option = upto 1
most (exactly n) = upto (count_of n)
most (at_least n) = any
most (between n m) = upto (count_of m)

-- ---- the rules that nest

mutual
  -- i-regexp = branch *( "|" branch )
  pub data Alternatives : Type 0 where
    last_branch : Branch → Alternatives
    more_branches : Branch → Alternatives → Alternatives

  -- branch = *piece
  pub data Branch : Type 0 where
    no_piece : Branch
    more_pieces : Piece → Branch → Branch

  -- piece = atom [ quantifier ]
  pub data Piece : Type 0 where
    plain_piece : Atom → Piece
    repeated_piece : Atom → Quantifier → Piece

  -- atom = NormalChar / "." / SingleCharEsc / charClassExpr / "(" i-regexp ")"
  pub data Atom : Type 0 where
    char_atom : NormalChar → Atom
    dot_atom : Atom
    escape_atom : SingleCharEsc → Atom
    class_atom : CharClassExpr → Atom
    group_atom : Alternatives → Atom

abbrev mutual
  pub spell_alternatives : Alternatives → List ℕ → List ℕ
  spell_alternatives (last_branch b) r = spell_branch b r
  spell_alternatives (more_branches b a) r = spell_branch b (0x7C ∷ spell_alternatives a r)

  pub spell_branch : Branch → List ℕ → List ℕ
  spell_branch no_piece r = r
  spell_branch (more_pieces p b) r = spell_piece p (spell_branch b r)

  pub spell_piece : Piece → List ℕ → List ℕ
  spell_piece (plain_piece a) r = spell_atom a r
  spell_piece (repeated_piece a q) r = spell_atom a (spell_quantifier q r)

  pub spell_atom : Atom → List ℕ → List ℕ
  spell_atom (char_atom c) r = c.char ∷ r
  spell_atom dot_atom r = 0x2E ∷ r
  spell_atom (escape_atom e) r = spell_escape e r
  spell_atom (class_atom k) r = spell_class k r
  spell_atom (group_atom a) r = 0x28 ∷ spell_alternatives a (0x29 ∷ r)

-- the characters of an expression
abbrev pub spell : Alternatives → List ℕ
spell t = spell_alternatives t []

abbrev mutual
  pub meaning : Alternatives → Regexp
  meaning (last_branch b) = meaning_branch b
  meaning (more_branches b a) = or (meaning_branch b) (meaning a)

  pub meaning_branch : Branch → Regexp
  meaning_branch no_piece = empty
  meaning_branch (more_pieces p b) = then (meaning_piece p) (meaning_branch b)

  pub meaning_piece : Piece → Regexp
  meaning_piece (plain_piece a) = meaning_atom a
  meaning_piece (repeated_piece a q) = times (least q) (most q) (meaning_atom a)

  pub meaning_atom : Atom → Regexp
  meaning_atom (char_atom c) = char c.char
  meaning_atom dot_atom = dot
  meaning_atom (escape_atom e) = char (escape_value e.letter)
  meaning_atom (class_atom k) = meaning_class k
  meaning_atom (group_atom a) = meaning a

-- THE READING OF AN EXPRESSION: a tree spells the characters, and its meaning is the expression
pub record Spells (s : List ℕ) (x : Regexp) : Type 0 where
  pub tree : Alternatives
  pub spells : spell tree ≡ s
  pub means : meaning tree ≡ x
