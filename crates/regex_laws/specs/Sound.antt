-- What is read, a tree spells, and its meaning is what was read. Assumes nothing.
use Rattle.std.specs.Prelude.{◌≡◌, refl, Bool, true, false, cond, ◌&&◌, not, List, [], ◌∷◌, ◌++◌, ℕ, zero, suc, ◌+◌, ◌-◌, ◌*◌, ◌≤◌, leb}
use Rattle.std.proofs.Common.{ap, ap₂, sym, ◌∙◌, append_assoc, append-nil, arith, le-leb, leb-true}
use Rattle.std.proofs.Math.Bool.{and-eq-true_iff}
use Rattle.std.proofs.Math.Option.{Option, none, some}
use Rattle.regex_definition.specs.Chars.{every, is_normal, is_escaped, is_class_char, is_digit, escape_value}
use Rattle.regex_definition.specs.Words.{Most, upto, any}
use Rattle.regex_definition.specs.Regexp.{Range, Regexp, empty, class, then, or, times}
use Rattle.regex_definition.specs.Grammar.{only, char, dot, bare_char, escaped_char, spell_ccchar, char_of, single_item, range_item, spell_item, range_of, CCE1s, no_item, more_items, spell_items, ranges_of, First, dash_first, item_first, spell_first, first_of, spell_last, last_of, begins_caret, positive_class, complement_class, spell_ranges, spell_class, meaning_class, decimal_from, Count, spell_count, count_of, Quantifier, star, plus, option, exactly, at_least, between, spell_quantifier, least, most, last_branch, more_branches, no_piece, more_pieces, plain_piece, repeated_piece, char_atom, dot_atom, escape_atom, class_atom, group_atom, spell_alternatives, spell_branch, spell_piece, spell_atom, meaning, meaning_branch, meaning_piece, meaning_atom}
use Rattle.regex_definition.specs.Read.{begins, rest, and_then, stops, read_escape, read_bare, read_ccchar, read_end, read_item, read_first, read_items, read_ranges, read_class, count_from, read_count, read_upper, read_braces, read_quantifier, read_leaf, read_atom, read_piece, read_branch, read_alternatives}
use Rattle.regex_laws.specs.Steps.{none_some, then_inv, some_left, some_right, begun}
use Rattle.utf8_laws.specs.Bytes.{by_test}

-- s is what a tree spells, with r behind it, and x is the tree's meaning
pub record Sound {T M : Type 0} (sp : T → List ℕ → List ℕ) (me : T → M) (s : List ℕ) (x : M) (r : List ℕ) : Type 0 where
  pub tree : T
  pub spells : s ≡ sp tree r
  pub means : x ≡ me tree

-- ---- characters

bare_sound : (p : ℕ → Bool) (s : List ℕ) (c : ℕ) (r : List ℕ) → read_bare p s ≡ some (c, r) → (s ≡ c ∷ r) × (p c ≡ true)
bare_sound p [] c r e = absurd (none_some e)
bare_sound p (d ∷ s) c r e =
    by_test (p d)
    (λ t.
    let f : ◌≡◌ {A = Option (ℕ × List ℕ)} (some (d, s)) (some (c, r)) = rw t at e in
    let g : d ≡ c = some_left f in
    let h : s ≡ r = some_right f in
    (cc, rw g at t))
    (λ n. absurd (none_some (rw n at e)))

escape_sound : (s : List ℕ) (c : ℕ) (r : List ℕ) → read_escape s ≡ some (c, r) → (l : ℕ) × (is_escaped l ≡ true) × (s ≡ l ∷ r) × (c ≡ escape_value l)
escape_sound [] c r e = absurd (none_some e)
escape_sound (d ∷ s) c r e =
    by_test (is_escaped d)
    (λ t.
    let f : ◌≡◌ {A = Option (ℕ × List ℕ)} (some (escape_value d, s)) (some (c, r)) = rw t at e in
    let h : s ≡ r = some_right f in
    (d, t, ap (λ (l : List ℕ). d ∷ l) h, sym (some_left f)))
    (λ n. absurd (none_some (rw n at e)))

ccchar_sound : (s : List ℕ) (c : ℕ) (r : List ℕ) → read_ccchar s ≡ some (c, r) → Sound spell_ccchar char_of s c r
unfolding read_ccchar
ccchar_sound s c r e =
    by_test (begins 0x5C s)
    (λ t.
    let h = escape_sound (rest s) c r (rw t at e) in
    record { tree = escaped_char (record { letter = h.0; good = h.1 }); spells = begun 0x5C s t ∙ ap (λ (l : List ℕ). 0x5C ∷ l) h.2; means = h.3 })
    (λ f. let h = bare_sound is_class_char s c r (rw f at e) in record { tree = bare_char c h.1; spells = h.0; means = refl })

-- ---- classes

-- behind the first character of an item: its end, or nothing of it
data Ends (a : ℕ) (s : List ℕ) (g : Range) (r : List ℕ) : Type 0 where
  alone : g ≡ only a → s ≡ r → Ends a s g r
  up_to : (b : ℕ) → s ≡ 0x2D ∷ rest s → Sound spell_ccchar char_of (rest s) b r → g ≡ record { low = a; high = b } → Ends a s g r

end_sound : (a : ℕ) (s : List ℕ) (g : Range) (r : List ℕ) → read_end a s ≡ some (g, r) → Ends a s g r
unfolding read_end
end_sound a s g r e =
    by_test (begins 0x2D s && not (begins 0x5D (rest s)))
    (λ t.
    let i = then_inv (read_ccchar (rest s)) (λ b r. some (record { low = a; high = b }, r)) (rw t at e) in
    let b = ((and-eq-true_iff (begins 0x2D s) (not (begins 0x5D (rest s)))).0 t).0 in
    let q : i.1 ≡ r = some_right i.3 in
    up_to i.0 (begun 0x2D s b) (ccchar_sound (rest s) i.0 r (i.2 ∙ ap (λ (l : List ℕ). some (i.0, l)) q)) (sym (some_left i.3)))
    (λ f.
    let h : ◌≡◌ {A = Option (Range × List ℕ)} (some (only a, s)) (some (g, r)) = rw f at e in
    alone (sym (some_left h)) (some_right h))

item_of : (s : List ℕ) (a : ℕ) (r₁ : List ℕ) (g : Range) (r : List ℕ) → Sound spell_ccchar char_of s a r₁ → Ends a r₁ g r → Sound spell_item range_of s g r
item_of s a r₁ g r c (alone e f) =
    record { tree = single_item c.tree; spells = c.spells ∙ ap (spell_ccchar c.tree) f; means = e ∙ ap only c.means }
item_of s a r₁ g r c (up_to b e f h) =
    record {
      tree = range_item c.tree f.tree;
      spells = c.spells ∙ ap (spell_ccchar c.tree) (e ∙ ap (λ (l : List ℕ). 0x2D ∷ l) f.spells);
      means = h ∙ rw (c.means, f.means) refl;
    }

item_sound : (s : List ℕ) (g : Range) (r : List ℕ) → read_item s ≡ some (g, r) → Sound spell_item range_of s g r
unfolding read_item
item_sound s g r e =
    let i = then_inv (read_ccchar s) read_end e in
    item_of s i.0 i.1 g r (ccchar_sound s i.0 i.1 i.2) (end_sound i.0 i.1 g r i.3)

first_sound : (s : List ℕ) (g : Range) (r : List ℕ) → read_first s ≡ some (g, r) → Sound spell_first first_of s g r
unfolding read_first
first_sound s g r e =
    by_test (begins 0x2D s)
    (λ t.
    let h : ◌≡◌ {A = Option (Range × List ℕ)} (some (only 0x2D, rest s)) (some (g, r)) = rw t at e in
    record { tree = dash_first; spells = begun 0x2D s t ∙ ap (λ (l : List ℕ). 0x2D ∷ l) (some_right h); means = sym (some_left h) })
    (λ f. let h = item_sound s g r (rw f at e) in record { tree = item_first h.tree; spells = h.spells; means = h.means })

-- the items behind the first and the end of the class
record Items (gs : List Range) (s : List ℕ) (hs : List Range) (r : List ℕ) : Type 0 where
  pub items : CCE1s
  pub last : Bool
  pub spells : s ≡ spell_items items (spell_last last r)
  pub means : hs ≡ gs ++ ranges_of items (last_of last)

items_sound : (n : ℕ) (gs : List Range) (s : List ℕ) (hs : List Range) (r : List ℕ) → read_items n gs s ≡ some (hs, r) → Items gs s hs r
unfolding read_items
items_sound zero gs s hs r e = absurd (none_some e)
items_sound (suc n) gs s hs r e =
    by_test (begins 0x5D s)
    (λ t.
    let h : ◌≡◌ {A = Option (List Range × List ℕ)} (some (gs, rest s)) (some (hs, r)) = rw t at e in
    record { items = no_item; last = false; spells = begun 0x5D s t ∙ ap (λ (l : List ℕ). 0x5D ∷ l) (some_right h); means = sym (some_left h) ∙ sym (append-nil gs) })
    (λ f.
    by_test (begins 0x2D s && begins 0x5D (rest s))
    (λ t.
    let h : ◌≡◌ {A = Option (List Range × List ℕ)} (some (gs ++ only 0x2D ∷ [], rest (rest s))) (some (hs, r)) = rw (f, t) at e in
    let b = (and-eq-true_iff (begins 0x2D s) (begins 0x5D (rest s))).0 t in
    record {
      items = no_item;
      last = true;
      spells = begun 0x2D s b.0 ∙ ap (λ (l : List ℕ). 0x2D ∷ l) (begun 0x5D (rest s) b.1 ∙ ap (λ (l : List ℕ). 0x5D ∷ l) (some_right h));
      means = sym (some_left h);
    })
    (λ g.
    let i = then_inv (read_item s) (λ x q. read_items n (gs ++ x ∷ []) q) (rw (f, g) at e) in
    let c = item_sound s i.0 i.1 i.2 in
    let d = items_sound n (gs ++ i.0 ∷ []) i.1 hs r i.3 in
    record {
      items = more_items c.tree d.items;
      last = d.last;
      spells = c.spells ∙ ap (spell_item c.tree) d.spells;
      means = d.means ∙ append_assoc gs (i.0 ∷ []) (ranges_of d.items (last_of d.last)) ∙ ap (λ (x : Range). gs ++ x ∷ ranges_of d.items (last_of d.last)) c.means;
    }))

record Ranges (comp : Bool) (s : List ℕ) (x : Regexp) (r : List ℕ) : Type 0 where
  pub head : First
  pub items : CCE1s
  pub last : Bool
  pub spells : s ≡ spell_ranges head items last r
  pub means : x ≡ class comp (first_of head ∷ ranges_of items (last_of last))

ranges_sound : (n : ℕ) (comp : Bool) (s : List ℕ) (x : Regexp) (r : List ℕ) → read_ranges n comp s ≡ some (x, r) → Ranges comp s x r
unfolding read_ranges
ranges_sound n comp s x r e =
    let i = then_inv (read_first s) (λ g q. and_then (read_items n (g ∷ []) q) (λ gs q'. some (class comp gs, q'))) e in
    let j = then_inv (read_items n (i.0 ∷ []) i.1) (λ gs q'. some (class comp gs, q')) i.3 in
    let c = first_sound s i.0 i.1 i.2 in
    let d = items_sound n (i.0 ∷ []) i.1 j.0 j.1 j.2 in
    let q : j.1 ≡ r = some_right j.3 in
    record {
      head = c.tree;
      items = d.items;
      last = d.last;
      spells = c.spells ∙ ap (spell_first c.tree) (d.spells ∙ ap (λ (l : List ℕ). spell_items d.items (spell_last d.last l)) q);
      means = sym (some_left j.3) ∙ ap (class comp) (d.means ∙ ap (λ (g : Range). g ∷ ranges_of d.items (last_of d.last)) c.means);
    }

caret_none : (f : First) (r : List ℕ) → begins 0x5E (spell_first f r) ≡ false → begins_caret f ≡ false
caret_none dash_first r e = refl
caret_none (item_first (single_item (bare_char c g))) r e = e
caret_none (item_first (single_item (escaped_char d))) r e = refl
caret_none (item_first (range_item (bare_char c g) b)) r e = e
caret_none (item_first (range_item (escaped_char d) b)) r e = refl

class_sound : (n : ℕ) (s : List ℕ) (x : Regexp) (r : List ℕ) → read_class n s ≡ some (x, r) → Sound spell_class meaning_class (0x5B ∷ s) x r
unfolding read_class
class_sound n s x r e =
    by_test (begins 0x5E s)
    (λ t.
    let h = ranges_sound n true (rest s) x r (rw t at e) in
    record {
      tree = complement_class h.head h.items h.last;
      spells = ap (λ (l : List ℕ). 0x5B ∷ l) (begun 0x5E s t ∙ ap (λ (l : List ℕ). 0x5E ∷ l) h.spells);
      means = h.means;
    })
    (λ f.
    let h = ranges_sound n false s x r (rw f at e) in
    let g : begins 0x5E (spell_first h.head (spell_items h.items (spell_last h.last r))) ≡ false = ap (begins 0x5E) (sym h.spells) ∙ f in
    record {
      tree = positive_class h.head (caret_none h.head (spell_items h.items (spell_last h.last r)) g) h.items h.last;
      spells = ap (λ (l : List ℕ). 0x5B ∷ l) h.spells;
      means = h.means;
    })

-- ---- quantifiers

record Digits (v : ℕ) (s : List ℕ) (w : ℕ) (r : List ℕ) : Type 0 where
  pub digits : List ℕ
  pub good : every is_digit digits ≡ true
  pub spells : s ≡ digits ++ r
  pub means : w ≡ decimal_from v digits
  pub small : w ≤ 64

from_sound : (s : List ℕ) (v w : ℕ) (r : List ℕ) → v ≤ 64 → count_from v s ≡ some (w, r) → Digits v s w r
unfolding count_from
from_sound [] v w r h e = let q : v ≡ w = some_left e in record { digits = []; good = refl; spells = some_right e; means = sym q; small = omega arith }
from_sound (c ∷ s) v w r h e =
    by_test (is_digit c)
    (λ t.
    by_test (leb (v * 10 + (c - 0x30)) 64)
    (λ u.
    let d = from_sound s (v * 10 + (c - 0x30)) w r (leb-true (v * 10 + (c - 0x30)) 64 u) (rw (t, u) at e) in
    record { digits = c ∷ d.digits; good = rw t d.good; spells = ap (λ (l : List ℕ). c ∷ l) d.spells; means = d.means; small = d.small })
    (λ u. absurd (none_some (rw (t, u) at e))))
    (λ f.
    let g : ◌≡◌ {A = Option (ℕ × List ℕ)} (some (v, c ∷ s)) (some (w, r)) = rw f at e in
    let q : v ≡ w = some_left g in
    record { digits = []; good = refl; spells = some_right g; means = sym q; small = omega arith })

count_sound : (s : List ℕ) (w : ℕ) (r : List ℕ) → read_count s ≡ some (w, r) → Sound spell_count count_of s w r
unfolding read_count count_from
count_sound [] w r e = absurd (none_some e)
count_sound (c ∷ s) w r e =
    by_test (is_digit c)
    (λ t.
    by_test (leb (0 * 10 + (c - 0x30)) 64)
    (λ u.
    let d = from_sound s (0 * 10 + (c - 0x30)) w r (leb-true (0 * 10 + (c - 0x30)) 64 u) (rw (t, u) at e) in
    record {
      tree = record { first = c; more = d.digits; is_first = t; are_more = d.good; is_small = le-leb (decimal_from 0 (c ∷ d.digits)) 64 (rw d.means at d.small) };
      spells = ap (λ (l : List ℕ). c ∷ l) d.spells;
      means = d.means;
    })
    (λ u. absurd (none_some (rw (t, u) at e))))
    (λ f. absurd (none_some (rw f at e)))

-- the braces, with the "{" before them
record Braces (s : List ℕ) (q : ℕ × Most) (r : List ℕ) : Type 0 where
  pub tree : Quantifier
  pub spells : 0x7B ∷ s ≡ spell_quantifier tree r
  pub lo : q.0 ≡ least tree
  pub hi : q.1 ≡ most tree

upper_sound : (s : List ℕ) (n : Count) (s' : List ℕ) (q : ℕ × Most) (r : List ℕ) → s ≡ spell_count n (0x2C ∷ s') → read_upper (count_of n) s' ≡ some (q, r) → Braces s q r
unfolding read_upper
upper_sound s n s' q r e u =
    by_test (begins 0x7D s')
    (λ t.
    let h : ◌≡◌ {A = Option ((ℕ × Most) × List ℕ)} (some ((count_of n, any), rest s')) (some (q, r)) = rw t at u in
    let k : ◌≡◌ {A = ℕ × Most} (count_of n, any) q = some_left h in
    record {
      tree = at_least n;
      spells = ap (λ (l : List ℕ). 0x7B ∷ l) (e ∙ ap (λ (l : List ℕ). spell_count n (0x2C ∷ l)) (begun 0x7D s' t ∙ ap (λ (l : List ℕ). 0x7D ∷ l) (some_right h)));
      lo = ap (λ (p : ℕ × Most). p.0) (sym k);
      hi = ap (λ (p : ℕ × Most). p.1) (sym k);
    })
    (λ f.
    let i = then_inv (read_count s') (λ hi r. cond (begins 0x7D r) (some ((count_of n, upto hi), rest r)) none) (rw f at u) in
    let c = count_sound s' i.0 i.1 i.2 in
    by_test (begins 0x7D i.1)
    (λ t.
    let h : ◌≡◌ {A = Option ((ℕ × Most) × List ℕ)} (some ((count_of n, upto i.0), rest i.1)) (some (q, r)) = rw t at i.3 in
    let k : ◌≡◌ {A = ℕ × Most} (count_of n, upto i.0) q = some_left h in
    record {
      tree = between n c.tree;
      spells = ap (λ (l : List ℕ). 0x7B ∷ l) (e ∙ ap (λ (l : List ℕ). spell_count n (0x2C ∷ l)) (c.spells ∙ ap (spell_count c.tree) (begun 0x7D i.1 t ∙ ap (λ (l : List ℕ). 0x7D ∷ l) (some_right h))));
      lo = ap (λ (p : ℕ × Most). p.0) (sym k);
      hi = ap (λ (p : ℕ × Most). p.1) (sym k) ∙ ap upto c.means;
    })
    (λ g. absurd (none_some (rw g at i.3))))

braces_sound : (s : List ℕ) (q : ℕ × Most) (r : List ℕ) → read_braces s ≡ some (q, r) → Braces s q r
unfolding read_braces
braces_sound s q r e =
    let i = then_inv (read_count s) (λ lo r. cond (begins 0x7D r) (some ((lo, upto lo), rest r)) (cond (begins 0x2C r) (read_upper lo (rest r)) none)) e in
    let c = count_sound s i.0 i.1 i.2 in
    by_test (begins 0x7D i.1)
    (λ t.
    let h : ◌≡◌ {A = Option ((ℕ × Most) × List ℕ)} (some ((i.0, upto i.0), rest i.1)) (some (q, r)) = rw t at i.3 in
    let k : ◌≡◌ {A = ℕ × Most} (i.0, upto i.0) q = some_left h in
    record {
      tree = exactly c.tree;
      spells = ap (λ (l : List ℕ). 0x7B ∷ l) (c.spells ∙ ap (spell_count c.tree) (begun 0x7D i.1 t ∙ ap (λ (l : List ℕ). 0x7D ∷ l) (some_right h)));
      lo = ap (λ (p : ℕ × Most). p.0) (sym k) ∙ c.means;
      hi = ap (λ (p : ℕ × Most). p.1) (sym k) ∙ ap upto c.means;
    })
    (λ f.
    by_test (begins 0x2C i.1)
    (λ t.
    let u : read_upper i.0 (rest i.1) ≡ some (q, r) = rw (f, t) at i.3 in
    upper_sound s c.tree (rest i.1) q r (c.spells ∙ ap (spell_count c.tree) (begun 0x2C i.1 t)) (rw c.means at u))
    (λ g. absurd (none_some (rw (f, g) at i.3))))

-- behind the atom x
data Quantified (x : Regexp) (s : List ℕ) (y : Regexp) (r : List ℕ) : Type 0 where
  once : y ≡ x → s ≡ r → Quantified x s y r
  repeated : (q : Quantifier) → s ≡ spell_quantifier q r → y ≡ times (least q) (most q) x → Quantified x s y r

quantifier_sound : (x : Regexp) (s : List ℕ) (y : Regexp) (r : List ℕ) → read_quantifier x s ≡ some (y, r) → Quantified x s y r
unfolding read_quantifier
quantifier_sound x s y r e =
    by_test (begins 0x2A s)
    (λ t.
    let h : ◌≡◌ {A = Option (Regexp × List ℕ)} (some (times 0 any x, rest s)) (some (y, r)) = rw t at e in
    repeated star (begun 0x2A s t ∙ ap (λ (l : List ℕ). 0x2A ∷ l) (some_right h)) (sym (some_left h)))
    (λ a.
    by_test (begins 0x2B s)
    (λ t.
    let h : ◌≡◌ {A = Option (Regexp × List ℕ)} (some (times 1 any x, rest s)) (some (y, r)) = rw (a, t) at e in
    repeated plus (begun 0x2B s t ∙ ap (λ (l : List ℕ). 0x2B ∷ l) (some_right h)) (sym (some_left h)))
    (λ b.
    by_test (begins 0x3F s)
    (λ t.
    let h : ◌≡◌ {A = Option (Regexp × List ℕ)} (some (times 0 (upto 1) x, rest s)) (some (y, r)) = rw (a, b, t) at e in
    repeated option (begun 0x3F s t ∙ ap (λ (l : List ℕ). 0x3F ∷ l) (some_right h)) (sym (some_left h)))
    (λ c.
    by_test (begins 0x7B s)
    (λ t.
    let i = then_inv (read_braces (rest s)) (λ q r. some (times q.0 q.1 x, r)) (rw (a, b, c, t) at e) in
    let d = braces_sound (rest s) i.0 r (i.2 ∙ ap (λ (l : List ℕ). some (i.0, l)) (some_right i.3)) in
    repeated d.tree (begun 0x7B s t ∙ d.spells) (sym (some_left i.3) ∙ ap₂ (λ (l : ℕ) (h : Most). times l h x) d.lo d.hi))
    (λ f.
    let h : ◌≡◌ {A = Option (Regexp × List ℕ)} (some (x, s)) (some (y, r)) = rw (a, b, c, f) at e in
    once (sym (some_left h)) (some_right h)))))

-- ---- the rules that nest

leaf_sound : (n : ℕ) (s : List ℕ) (x : Regexp) (r : List ℕ) → read_leaf n s ≡ some (x, r) → Sound spell_atom meaning_atom s x r
unfolding read_leaf
leaf_sound n s x r e =
    by_test (begins 0x5B s)
    (λ t.
    let h = class_sound n (rest s) x r (rw t at e) in
    record { tree = class_atom h.tree; spells = begun 0x5B s t ∙ h.spells; means = h.means })
    (λ a.
    by_test (begins 0x2E s)
    (λ t.
    let h : ◌≡◌ {A = Option (Regexp × List ℕ)} (some (dot, rest s)) (some (x, r)) = rw (a, t) at e in
    record { tree = dot_atom; spells = begun 0x2E s t ∙ ap (λ (l : List ℕ). 0x2E ∷ l) (some_right h); means = sym (some_left h) })
    (λ b.
    by_test (begins 0x5C s)
    (λ t.
    let i = then_inv (read_escape (rest s)) (λ c r. some (char c, r)) (rw (a, b, t) at e) in
    let h = escape_sound (rest s) i.0 i.1 i.2 in
    record {
      tree = escape_atom (record { letter = h.0; good = h.1 });
      spells = begun 0x5C s t ∙ ap (λ (l : List ℕ). 0x5C ∷ l) (h.2 ∙ ap (λ (l : List ℕ). h.0 ∷ l) (some_right i.3));
      means = sym (some_left i.3) ∙ ap char h.3;
    })
    (λ f.
    let i = then_inv (read_bare is_normal s) (λ c r. some (char c, r)) (rw (a, b, f) at e) in
    let h = bare_sound is_normal s i.0 i.1 i.2 in
    record {
      tree = char_atom (record { char = i.0; good = h.1 });
      spells = h.0 ∙ ap (λ (l : List ℕ). i.0 ∷ l) (some_right i.3);
      means = sym (some_left i.3);
    })))

piece_of : (s : List ℕ) (a : Regexp) (r₁ : List ℕ) (y : Regexp) (r : List ℕ) → Sound spell_atom meaning_atom s a r₁ → Quantified a r₁ y r → Sound spell_piece meaning_piece s y r
piece_of s a r₁ y r c (once e f) = record { tree = plain_piece c.tree; spells = c.spells ∙ ap (spell_atom c.tree) f; means = e ∙ c.means }
piece_of s a r₁ y r c (repeated q e f) =
    record {
      tree = repeated_piece c.tree q;
      spells = c.spells ∙ ap (spell_atom c.tree) e;
      means = f ∙ ap (times (least q) (most q)) c.means;
    }

mutual
  unfolding read_alternatives read_branch read_piece read_atom

  pub alternatives_sound : (n : ℕ) (k : Regexp → Regexp) (s : List ℕ) (x : Regexp) (r : List ℕ) → read_alternatives n k s ≡ some (x, r) → Sound spell_alternatives (λ t. k (meaning t)) s x r
  alternatives_sound zero k s x r e = absurd (none_some e)
  alternatives_sound (suc n) k s x r e =
      let i = then_inv (read_branch n (λ x. x) s) (λ b r. cond (begins 0x7C r) (read_alternatives n (λ x. k (or b x)) (rest r)) (some (k b, r))) e in
      let c = branch_sound n (λ x. x) s i.0 i.1 i.2 in
      by_test (begins 0x7C i.1)
      (λ t.
      let d = alternatives_sound n (λ y. k (or i.0 y)) (rest i.1) x r (rw t at i.3) in
      record {
        tree = more_branches c.tree d.tree;
        spells = c.spells ∙ ap (spell_branch c.tree) (begun 0x7C i.1 t ∙ ap (λ (l : List ℕ). 0x7C ∷ l) d.spells);
        means = d.means ∙ ap (λ (b : Regexp). k (or b (meaning d.tree))) c.means;
      })
      (λ f.
      let h : ◌≡◌ {A = Option (Regexp × List ℕ)} (some (k i.0, i.1)) (some (x, r)) = rw f at i.3 in
      record {
        tree = last_branch c.tree;
        spells = c.spells ∙ ap (spell_branch c.tree) (some_right h);
        means = sym (some_left h) ∙ ap k c.means;
      })

  branch_sound : (n : ℕ) (k : Regexp → Regexp) (s : List ℕ) (x : Regexp) (r : List ℕ) → read_branch n k s ≡ some (x, r) → Sound spell_branch (λ t. k (meaning_branch t)) s x r
  branch_sound zero k s x r e = absurd (none_some e)
  branch_sound (suc n) k s x r e =
      by_test (stops s)
      (λ t.
      let h : ◌≡◌ {A = Option (Regexp × List ℕ)} (some (k empty, s)) (some (x, r)) = rw t at e in
      record { tree = no_piece; spells = some_right h; means = sym (some_left h) })
      (λ f.
      let i = then_inv (read_piece n s) (λ p r. read_branch n (λ y. k (then p y)) r) (rw f at e) in
      let c = piece_sound n s i.0 i.1 i.2 in
      let d = branch_sound n (λ y. k (then i.0 y)) i.1 x r i.3 in
      record {
        tree = more_pieces c.tree d.tree;
        spells = c.spells ∙ ap (spell_piece c.tree) d.spells;
        means = d.means ∙ ap (λ (p : Regexp). k (then p (meaning_branch d.tree))) c.means;
      })

  piece_sound : (n : ℕ) (s : List ℕ) (x : Regexp) (r : List ℕ) → read_piece n s ≡ some (x, r) → Sound spell_piece meaning_piece s x r
  piece_sound zero s x r e = absurd (none_some e)
  piece_sound (suc n) s x r e =
      let i = then_inv (read_atom n s) read_quantifier e in
      piece_of s i.0 i.1 x r (atom_sound n s i.0 i.1 i.2) (quantifier_sound i.0 i.1 x r i.3)

  atom_sound : (n : ℕ) (s : List ℕ) (x : Regexp) (r : List ℕ) → read_atom n s ≡ some (x, r) → Sound spell_atom meaning_atom s x r
  atom_sound zero s x r e = absurd (none_some e)
  atom_sound (suc n) s x r e =
      by_test (begins 0x28 s)
      (λ t.
      let i = then_inv (read_alternatives n (λ y. y) (rest s)) (λ y r. cond (begins 0x29 r) (some (y, rest r)) none) (rw t at e) in
      let c = alternatives_sound n (λ y. y) (rest s) i.0 i.1 i.2 in
      by_test (begins 0x29 i.1)
      (λ u.
      let h : ◌≡◌ {A = Option (Regexp × List ℕ)} (some (i.0, rest i.1)) (some (x, r)) = rw u at i.3 in
      record {
        tree = group_atom c.tree;
        spells = begun 0x28 s t ∙ ap (λ (l : List ℕ). 0x28 ∷ l) (c.spells ∙ ap (spell_alternatives c.tree) (begun 0x29 i.1 u ∙ ap (λ (l : List ℕ). 0x29 ∷ l) (some_right h)));
        means = sym (some_left h) ∙ c.means;
      })
      (λ u. absurd (none_some (rw u at i.3))))
      (λ f. leaf_sound n s x r (rw f at e))
