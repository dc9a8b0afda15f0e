-- What a tree spells is read, and its meaning is what is read. Assumes nothing.
use Rattle.std.specs.Prelude.{◌≡◌, refl, Bool, true, false, ◌&&◌, not, List, [], ◌∷◌, ◌++◌, ℕ, zero, suc, ◌+◌, ◌-◌, ◌*◌, ◌≤◌, ◌<◌, eqb, length}
use Rattle.std.proofs.Common.{ap, ◌∙◌, true≢false, append_assoc, append-nil, arith, le_refl, eqb-true, le-leb, leb-true, length-append}
use Rattle.std.proofs.Math.Bool.{and-eq-true_iff}
use Rattle.std.proofs.Math.Option.{some}
use Rattle.regex_definition.specs.Chars.{every, is_normal, is_class_char, is_digit}
use Rattle.regex_definition.specs.Regexp.{Range, Regexp, class, then, or, times}
use Rattle.regex_definition.specs.Grammar.{CCchar, bare_char, escaped_char, spell_ccchar, char_of, CCE1, single_item, range_item, spell_item, range_of, CCE1s, no_item, more_items, spell_items, ranges_of, First, dash_first, item_first, spell_first, first_of, spell_last, last_of, begins_caret, positive_class, complement_class, spell_ranges, decimal_from, Count, spell_count, count_of, Quantifier, star, plus, option, exactly, at_least, between, spell_quantifier, least, most, Alternatives, last_branch, more_branches, Branch, no_piece, more_pieces, Piece, plain_piece, repeated_piece, Atom, char_atom, dot_atom, escape_atom, class_atom, group_atom, spell_alternatives, spell_branch, spell_piece, spell_atom, spell, meaning, meaning_branch, meaning_piece, meaning_atom}
use Rattle.regex_definition.specs.Read.{begins, rest, stops, begins_digit, steps, read_ccchar, read_end, read_item, read_first, read_items, read_ranges, read_class, count_from, read_count, read_upper, read_braces, read_quantifier, read_leaf, read_atom, read_piece, read_branch, read_alternatives, read_regexp}
use Rattle.regex_laws.specs.Steps.{apart, alternatives_step, branch_step, piece_step, atom_step}
use Rattle.utf8_laws.specs.Bytes.{by_test}

-- ---- classes

pub ccchar_read : (a : CCchar) (r : List ℕ) → read_ccchar (spell_ccchar a r) ≡ some (char_of a, r)
unfolding read_ccchar
ccchar_read (bare_char c g) r = rw (apart is_class_char c 0x5C g refl, g) refl
ccchar_read (escaped_char e) r = rw e.good refl

-- a character of a class begins with no other than one of the class, or a backslash
ccchar_not : (a : CCchar) (x : ℕ) (r : List ℕ) → is_class_char x ≡ false → eqb 0x5C x ≡ false → begins x (spell_ccchar a r) ≡ false
ccchar_not (bare_char c g) x r h e = apart is_class_char c x g h
ccchar_not (escaped_char d) x r h e = e

item_not : (i : CCE1) (x : ℕ) (r : List ℕ) → is_class_char x ≡ false → eqb 0x5C x ≡ false → begins x (spell_item i r) ≡ false
item_not (single_item a) x r h e = ccchar_not a x r h e
item_not (range_item a b) x r h e = ccchar_not a x (0x2D ∷ spell_ccchar b r) h e

ccchar_longer : (a : CCchar) (r : List ℕ) → length r < length (spell_ccchar a r)
ccchar_longer (bare_char c g) r = omega arith
ccchar_longer (escaped_char e) r = omega arith

item_longer : (i : CCE1) (r : List ℕ) → length r < length (spell_item i r)
item_longer (single_item a) r = ccchar_longer a r
item_longer (range_item a b) r = let x = ccchar_longer b r in let y = ccchar_longer a (0x2D ∷ spell_ccchar b r) in omega arith

item_read : (i : CCE1) (r : List ℕ) → (begins 0x2D r && not (begins 0x5D (rest r))) ≡ false → read_item (spell_item i r) ≡ some (range_of i, r)
unfolding read_item read_end
item_read (single_item a) r e = rw (ccchar_read a r, e) refl
item_read (range_item a b) r e = rw (ccchar_read a (0x2D ∷ spell_ccchar b r), ccchar_not b 0x5D r refl refl, ccchar_read b r) refl

-- behind an item stands no "-" but the last
items_free : (is : CCE1s) (l : Bool) (r : List ℕ) → (begins 0x2D (spell_items is (spell_last l r)) && not (begins 0x5D (rest (spell_items is (spell_last l r))))) ≡ false
items_free no_item false r = refl
items_free no_item true r = refl
items_free (more_items i is) l r = rw (item_not i 0x2D (spell_items is (spell_last l r)) refl refl) refl

last_read : (l : Bool) (n : ℕ) (gs : List Range) (r : List ℕ) → length (spell_last l r) < n → read_items n gs (spell_last l r) ≡ some (gs ++ last_of l, r)
unfolding read_items
last_read false zero gs r h = absurd (omega arith)
last_read false (suc n) gs r h = rw (append-nil gs) refl
last_read true zero gs r h = absurd (omega arith)
last_read true (suc n) gs r h = refl

items_step : (n : ℕ) (gs : List Range) (i : CCE1) (r : List ℕ) → 0 < n → (begins 0x2D r && not (begins 0x5D (rest r))) ≡ false → read_items n gs (spell_item i r) ≡ read_items (n - 1) (gs ++ range_of i ∷ []) r
unfolding read_items
items_step zero gs i r h e = absurd (omega arith)
items_step (suc n) gs i r h e =
    let z : suc n - 1 ≡ n = omega arith in
    rw (z, item_not i 0x5D r refl refl, item_not i 0x2D r refl refl, item_read i r e) refl

items_read : (is : CCE1s) (n : ℕ) (gs : List Range) (l : Bool) (r : List ℕ) → length (spell_items is (spell_last l r)) < n
    → read_items n gs (spell_items is (spell_last l r)) ≡ some (gs ++ ranges_of is (last_of l), r)
items_read no_item n gs l r h = last_read l n gs r h
items_read (more_items i is) n gs l r h =
    let k = item_longer i (spell_items is (spell_last l r)) in
    items_step n gs i (spell_items is (spell_last l r)) (omega arith) (items_free is l r)
    ∙ items_read is (n - 1) (gs ++ range_of i ∷ []) l r (omega arith)
    ∙ ap (λ (g : List Range). some (g, r)) (append_assoc gs (range_of i ∷ []) (ranges_of is (last_of l)))

first_read : (f : First) (r : List ℕ) → (begins 0x2D r && not (begins 0x5D (rest r))) ≡ false → read_first (spell_first f r) ≡ some (first_of f, r)
unfolding read_first
first_read dash_first r e = refl
first_read (item_first i) r e = rw (item_not i 0x2D r refl refl) (item_read i r e)

first_longer : (f : First) (r : List ℕ) → length r < length (spell_first f r)
first_longer dash_first r = omega arith
first_longer (item_first i) r = item_longer i r

ranges_read : (f : First) (is : CCE1s) (l : Bool) (n : ℕ) (comp : Bool) (r : List ℕ) → length (spell_ranges f is l r) ≤ n
    → read_ranges n comp (spell_ranges f is l r) ≡ some (class comp (first_of f ∷ ranges_of is (last_of l)), r)
unfolding read_ranges
ranges_read f is l n comp r h =
    let k = first_longer f (spell_items is (spell_last l r)) in
    rw (first_read f (spell_items is (spell_last l r)) (items_free is l r), items_read is n (first_of f ∷ []) l r (omega arith)) refl

caret : (f : First) (r : List ℕ) → begins_caret f ≡ false → begins 0x5E (spell_first f r) ≡ false
caret dash_first r e = refl
caret (item_first (single_item (bare_char c g))) r e = e
caret (item_first (single_item (escaped_char d))) r e = refl
caret (item_first (range_item (bare_char c g) b)) r e = e
caret (item_first (range_item (escaped_char d) b)) r e = refl

positive_read_lem : (f : First) (is : CCE1s) (l : Bool) (n : ℕ) (r : List ℕ) → begins_caret f ≡ false → length (spell_ranges f is l r) ≤ n
    → read_class n (spell_ranges f is l r) ≡ some (class false (first_of f ∷ ranges_of is (last_of l)), r)
unfolding read_class
positive_read_lem f is l n r g h = rw (caret f (spell_items is (spell_last l r)) g) (ranges_read f is l n false r h)

complement_read : (f : First) (is : CCE1s) (l : Bool) (n : ℕ) (r : List ℕ) → length (spell_ranges f is l r) ≤ n
    → read_class n (0x5E ∷ spell_ranges f is l r) ≡ some (class true (first_of f ∷ ranges_of is (last_of l)), r)
unfolding read_class
complement_read f is l n r h = ranges_read f is l n true r h

-- ---- quantifiers

decimal_grows : (s : List ℕ) (v : ℕ) → v ≤ decimal_from v s
decimal_grows [] v = le_refl v
decimal_grows (c ∷ s) v = let h = decimal_grows s (v * 10 + (c - 0x30)) in omega arith

from_read : (s : List ℕ) (v : ℕ) (r : List ℕ) → every is_digit s ≡ true → decimal_from v s ≤ 64 → begins_digit r ≡ false → count_from v (s ++ r) ≡ some (decimal_from v s, r)
unfolding count_from
from_read [] v [] e h d = refl
from_read [] v (c ∷ r) e h d = rw d refl
from_read (c ∷ s) v r e h d =
    let t = (and-eq-true_iff (is_digit c) (every is_digit s)).0 e in
    let g = decimal_grows s (v * 10 + (c - 0x30)) in
    rw (t.0, le-leb (v * 10 + (c - 0x30)) 64 (omega arith)) (from_read s (v * 10 + (c - 0x30)) r t.1 h d)

count_read : (n : Count) (r : List ℕ) → begins_digit r ≡ false → read_count (spell_count n r) ≡ some (count_of n, r)
unfolding read_count
count_read n r d =
    let e : every is_digit (n.first ∷ n.more) ≡ true = rw n.is_first n.are_more in
    let f = from_read (n.first ∷ n.more) 0 r e (leb-true (count_of n) 64 n.is_small) d in
    rw n.is_first f

quantifier_read : (q : Quantifier) (x : Regexp) (r : List ℕ) → read_quantifier x (spell_quantifier q r) ≡ some (times (least q) (most q) x, r)
unfolding read_quantifier read_braces read_upper
quantifier_read star x r = refl
quantifier_read plus x r = refl
quantifier_read option x r = refl
quantifier_read (exactly n) x r = rw (count_read n (0x7D ∷ r) refl) refl
quantifier_read (at_least n) x r = rw (count_read n (0x2C ∷ 0x7D ∷ r) refl) refl
quantifier_read (between n m) x r =
    rw (count_read n (0x2C ∷ spell_count m (0x7D ∷ r)) refl, apart is_digit m.first 0x7D m.is_first refl, count_read m (0x7D ∷ r) refl) refl

-- no quantifier stands here
record Free (r : List ℕ) : Type 0 where
  pub no_star : begins 0x2A r ≡ false
  pub no_plus : begins 0x2B r ≡ false
  pub no_option : begins 0x3F r ≡ false
  pub no_brace : begins 0x7B r ≡ false

none_read : (x : Regexp) (r : List ℕ) → Free r → read_quantifier x r ≡ some (x, r)
unfolding read_quantifier
none_read x r f = rw (f.no_star, f.no_plus, f.no_option, f.no_brace) refl

free_stop : (r : List ℕ) → stops r ≡ true → Free r
free_stop [] e = record { no_star = refl; no_plus = refl; no_option = refl; no_brace = refl }
free_stop (c ∷ r) e =
    by_test (eqb c 0x7C)
    (λ t. let q : c ≡ 0x7C = eqb-true c 0x7C t in record { no_star = rw q refl; no_plus = rw q refl; no_option = rw q refl; no_brace = rw q refl })
    (λ t.
    let q : c ≡ 0x29 = eqb-true c 0x29 (rw t at e) in
    record { no_star = rw q refl; no_plus = rw q refl; no_option = rw q refl; no_brace = rw q refl })

free_atom : (a : Atom) (r : List ℕ) → Free (spell_atom a r)
free_atom (char_atom c) r =
    record {
      no_star = apart is_normal c.char 0x2A c.good refl;
      no_plus = apart is_normal c.char 0x2B c.good refl;
      no_option = apart is_normal c.char 0x3F c.good refl;
      no_brace = apart is_normal c.char 0x7B c.good refl;
    }
free_atom dot_atom r = record { no_star = refl; no_plus = refl; no_option = refl; no_brace = refl }
free_atom (escape_atom e) r = record { no_star = refl; no_plus = refl; no_option = refl; no_brace = refl }
free_atom (class_atom (positive_class f g is l)) r = record { no_star = refl; no_plus = refl; no_option = refl; no_brace = refl }
free_atom (class_atom (complement_class f is l)) r = record { no_star = refl; no_plus = refl; no_option = refl; no_brace = refl }
free_atom (group_atom a) r = record { no_star = refl; no_plus = refl; no_option = refl; no_brace = refl }

free_branch : (b : Branch) (r : List ℕ) → stops r ≡ true → Free (spell_branch b r)
free_branch no_piece r e = free_stop r e
free_branch (more_pieces (plain_piece a) b) r e = free_atom a (spell_branch b r)
free_branch (more_pieces (repeated_piece a q) b) r e = free_atom a (spell_quantifier q (spell_branch b r))

-- a piece goes on
atom_goes : (a : Atom) (r : List ℕ) → stops (spell_atom a r) ≡ false
atom_goes (char_atom c) r = rw (apart is_normal c.char 0x7C c.good refl, apart is_normal c.char 0x29 c.good refl) refl
atom_goes dot_atom r = refl
atom_goes (escape_atom e) r = refl
atom_goes (class_atom (positive_class f g is l)) r = refl
atom_goes (class_atom (complement_class f is l)) r = refl
atom_goes (group_atom a) r = refl

piece_goes : (p : Piece) (r : List ℕ) → stops (spell_piece p r) ≡ false
piece_goes (plain_piece a) r = atom_goes a r
piece_goes (repeated_piece a q) r = atom_goes a (spell_quantifier q r)

-- ---- lengths

last_longer : (l : Bool) (r : List ℕ) → length r < length (spell_last l r)
last_longer false r = omega arith
last_longer true r = omega arith

items_longer : (is : CCE1s) (r : List ℕ) → length r ≤ length (spell_items is r)
items_longer no_item r = le_refl _
items_longer (more_items i is) r = let x = items_longer is r in let y = item_longer i (spell_items is r) in omega arith

ranges_longer : (f : First) (is : CCE1s) (l : Bool) (r : List ℕ) → length r < length (spell_ranges f is l r)
ranges_longer f is l r =
    let x = last_longer l r in
    let y = items_longer is (spell_last l r) in
    let z = first_longer f (spell_items is (spell_last l r)) in
    omega arith

count_longer : (n : Count) (r : List ℕ) → length r < length (spell_count n r)
count_longer n r = let x = length-append n.more r in omega arith

quantifier_longer : (q : Quantifier) (r : List ℕ) → length r < length (spell_quantifier q r)
quantifier_longer star r = omega arith
quantifier_longer plus r = omega arith
quantifier_longer option r = omega arith
quantifier_longer (exactly n) r = let x = count_longer n (0x7D ∷ r) in omega arith
quantifier_longer (at_least n) r = let x = count_longer n (0x2C ∷ 0x7D ∷ r) in omega arith
quantifier_longer (between n m) r = let x = count_longer m (0x7D ∷ r) in let y = count_longer n (0x2C ∷ spell_count m (0x7D ∷ r)) in omega arith

mutual
  alternatives_longer : (t : Alternatives) (r : List ℕ) → length r ≤ length (spell_alternatives t r)
  alternatives_longer (last_branch b) r = branch_longer b r
  alternatives_longer (more_branches b a) r =
      let x = alternatives_longer a r in
      let y = branch_longer b (0x7C ∷ spell_alternatives a r) in
      omega arith

  branch_longer : (b : Branch) (r : List ℕ) → length r ≤ length (spell_branch b r)
  branch_longer no_piece r = le_refl _
  branch_longer (more_pieces p b) r = let x = branch_longer b r in let y = piece_longer p (spell_branch b r) in omega arith

  piece_longer : (p : Piece) (r : List ℕ) → length r < length (spell_piece p r)
  piece_longer (plain_piece a) r = atom_longer a r
  piece_longer (repeated_piece a q) r = let x = quantifier_longer q r in let y = atom_longer a (spell_quantifier q r) in omega arith

  atom_longer : (a : Atom) (r : List ℕ) → length r < length (spell_atom a r)
  atom_longer (char_atom c) r = omega arith
  atom_longer dot_atom r = omega arith
  atom_longer (escape_atom e) r = omega arith
  atom_longer (class_atom (positive_class f g is l)) r = let x = ranges_longer f is l r in omega arith
  atom_longer (class_atom (complement_class f is l)) r = let x = ranges_longer f is l r in omega arith
  atom_longer (group_atom a) r = let x = alternatives_longer a (0x29 ∷ r) in omega arith

-- ---- the rules that nest

-- an atom that is no group
char_read : (n c : ℕ) (r : List ℕ) → is_normal c ≡ true → (begins 0x28 (c ∷ r) ≡ false) × (read_leaf n (c ∷ r) ≡ some (class false (record { low = c; high = c } ∷ []), r))
unfolding read_leaf
char_read n c r g =
    (apart is_normal c 0x28 g refl, rw (apart is_normal c 0x5B g refl, apart is_normal c 0x2E g refl, apart is_normal c 0x5C g refl, g) refl)

leaf_read : (n : ℕ) (a : Atom) (r : List ℕ) → length (spell_atom a r) ≤ n → begins 0x28 (spell_atom a r) ≡ false → read_leaf n (spell_atom a r) ≡ some (meaning_atom a, r)
unfolding read_leaf
leaf_read n (char_atom c) r h e = (char_read n c.char r c.good).1
leaf_read n dot_atom r h e = refl
leaf_read n (escape_atom d) r h e = rw d.good refl
leaf_read n (class_atom (positive_class f g is l)) r h e = positive_read_lem f is l n r g (omega arith)
leaf_read n (class_atom (complement_class f is l)) r h e = complement_read f is l n r (omega arith)
leaf_read n (group_atom a) r h e = absurd (true≢false e)

leaf_atom : (n : ℕ) (a : Atom) (r : List ℕ) → 4 * length (spell_atom a r) + 1 ≤ n → begins 0x28 (spell_atom a r) ≡ false → read_atom n (spell_atom a r) ≡ some (meaning_atom a, r)
leaf_atom n a r h e = atom_step n (spell_atom a r) (omega arith) ∙ rw e (leaf_read (n - 1) a r (omega arith) e)

mutual
  alternatives_read : (t : Alternatives) (n : ℕ) (k : Regexp → Regexp) (r : List ℕ) → stops r ≡ true → begins 0x7C r ≡ false → 4 * length (spell_alternatives t r) + 4 ≤ n
      → read_alternatives n k (spell_alternatives t r) ≡ some (k (meaning t), r)
  alternatives_read (last_branch b) n k r s e h =
      alternatives_step n k (spell_branch b r) (omega arith) ∙ rw (branch_read b (n - 1) (λ x. x) r s (omega arith), e) refl
  alternatives_read (more_branches b a) n k r s e h =
      let x = branch_longer b (0x7C ∷ spell_alternatives a r) in
      alternatives_step n k (spell_branch b (0x7C ∷ spell_alternatives a r)) (omega arith)
      ∙ rw (branch_read b (n - 1) (λ x. x) (0x7C ∷ spell_alternatives a r) refl (omega arith)) (alternatives_read a (n - 1) (λ x. k (or (meaning_branch b) x)) r s e (omega arith))

  branch_read : (b : Branch) (n : ℕ) (k : Regexp → Regexp) (r : List ℕ) → stops r ≡ true → 4 * length (spell_branch b r) + 3 ≤ n → read_branch n k (spell_branch b r) ≡ some (k (meaning_branch b), r)
  branch_read no_piece n k r s h = branch_step n k r (omega arith) ∙ rw s refl
  branch_read (more_pieces p b) n k r s h =
      let x = piece_longer p (spell_branch b r) in
      branch_step n k (spell_piece p (spell_branch b r)) (omega arith)
      ∙ rw (piece_goes p (spell_branch b r), piece_read p (n - 1) (spell_branch b r) (free_branch b r s) (omega arith)) (branch_read b (n - 1) (λ x. k (then (meaning_piece p) x)) r s (omega arith))

  piece_read : (p : Piece) (n : ℕ) (r : List ℕ) → Free r → 4 * length (spell_piece p r) + 2 ≤ n → read_piece n (spell_piece p r) ≡ some (meaning_piece p, r)
  piece_read (plain_piece a) n r f h =
      piece_step n (spell_atom a r) (omega arith) ∙ rw (atom_read a (n - 1) r (omega arith)) (none_read (meaning_atom a) r f)
  piece_read (repeated_piece a q) n r f h =
      piece_step n (spell_atom a (spell_quantifier q r)) (omega arith) ∙ rw (atom_read a (n - 1) (spell_quantifier q r) (omega arith)) (quantifier_read q (meaning_atom a) r)

  atom_read : (a : Atom) (n : ℕ) (r : List ℕ) → 4 * length (spell_atom a r) + 1 ≤ n → read_atom n (spell_atom a r) ≡ some (meaning_atom a, r)
  atom_read (char_atom c) n r h = leaf_atom n (char_atom c) r h (char_read n c.char r c.good).0
  atom_read dot_atom n r h = leaf_atom n dot_atom r h refl
  atom_read (escape_atom e) n r h = leaf_atom n (escape_atom e) r h refl
  atom_read (class_atom (positive_class f g is l)) n r h = leaf_atom n (class_atom (positive_class f g is l)) r h refl
  atom_read (class_atom (complement_class f is l)) n r h = leaf_atom n (class_atom (complement_class f is l)) r h refl
  atom_read (group_atom a) n r h =
      atom_step n (0x28 ∷ spell_alternatives a (0x29 ∷ r)) (omega arith)
      ∙ rw (alternatives_read a (n - 1) (λ x. x) (0x29 ∷ r) refl refl (omega arith)) refl

-- the expression of what a tree spells is the tree's meaning
pub complete : (t : Alternatives) → read_regexp (spell t) ≡ some (meaning t)
unfolding read_regexp
complete t = rw (alternatives_read t (steps (spell t)) (λ x. x) [] refl refl (le_refl _)) refl
