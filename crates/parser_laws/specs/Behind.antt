-- What stands behind an operand with a flag: nothing, or a comparison operator and a comparable.
use Rattle.std.specs.Prelude.{◌≡◌, refl, Bool, true, false, cond, List, [], ◌∷◌, ◌++◌, ℕ, eqb}
use Rattle.std.proofs.Common.{sym, ap, subst, ◌∙◌, true≢false, arith, eqb-true}
use Rattle.definition.specs.Bytes.{every}
use Rattle.definition.specs.Lexical.{Blanks, is_blank, spell_blanks}
use Rattle.definition.specs.Grammar as G
use Rattle.definition.specs.Grammar.{spell_comparable, spell_operator}
use Rattle.definition.specs.Grammar.Operator.{eq_operator, ne_operator, lt_operator, le_operator, gt_operator, ge_operator}
use Rattle.basics.specs.Bools.{and_left}
use Rattle.parser_follow.specs.Blanks.{split_blanks, unblank_blanks}
use Rattle.basics.specs.Reads.{Reads, ReadsNone, StartsNot}
use Rattle.compile_writes.specs.Effects.{Effect}
use Rattle.parser_follow.specs.Follow.{hd, unblank, level_of, After}
use Rattle.parser_follow.specs.Numbers.{sort_of, sort_number, is_comparable, operator_number}
use Rattle.parser_follow.specs.Pieces.{Side, spell_side, write_side, Behind, spell_behind, Allowed, BehindOf, spell_behind_of, write_behind_of, behind_of_sort}
use Rattle.parser_follow.specs.Pieces.Behind.{alone, compared}
use Rattle.parser_laws.specs.Begins.{Begins, begins_not, comparable_begins, is_operand_byte}
use Rattle.parser_laws.specs.Sides.{me_side}

abbrev pub me_behind : (f p : ℕ) → BehindOf f → Effect × ℕ
me_behind f p x = (write_behind_of f x p, behind_of_sort f x)

-- ---- operators

-- an operator is no blank, and what may follow a test does not begin with one
operator_start : (o : G.Operator) (r : List ℕ) → unblank (spell_operator o r) ≡ spell_operator o r
operator_start eq_operator r = refl
operator_start ne_operator r = refl
operator_start lt_operator r = refl
operator_start le_operator r = refl
operator_start gt_operator r = refl
operator_start ge_operator r = refl

pub operator_level : (o : G.Operator) (r : List ℕ) → level_of (hd (spell_operator o r)) ≡ 2
operator_level eq_operator r = refl
operator_level ne_operator r = refl
operator_level lt_operator r = refl
operator_level le_operator r = refl
operator_level gt_operator r = refl
operator_level ge_operator r = refl

-- a blank is no "="
blank_not_equal : (c : ℕ) → is_blank c ≡ true → eqb 0x3D c ≡ false
blank_not_equal c e = go (eqb 0x3D c) refl
  where
    go : (t : Bool) → eqb 0x3D c ≡ t → t ≡ false
    go true h = absurd (true≢false (sym (subst (λ z. is_blank z ≡ true) (sym (eqb-true 0x3D c h)) e)))
    go false h = refl

-- a comparable behind blanks begins with no "="
side_no_equal : (x : Side) (r : List ℕ) → StartsNot (eqb 0x3D) (spell_side x r)
unfolding StartsNot
side_no_equal x r = go x.blanks.bytes x.blanks.good
  where
    first : (z : List ℕ) → Begins is_operand_byte z → StartsNot (eqb 0x3D) z
    first [] b = tt
    first (c ∷ z) b = test (eqb 0x3D c) refl
      where
        test : (t : Bool) → eqb 0x3D c ≡ t → t ≡ false
        test true h = absurd (begins_not 0x3D b refl (ap (λ y. y ∷ z) (sym (eqb-true 0x3D c h))))
        test false h = refl

    go : (l : List ℕ) → every is_blank l ≡ true → StartsNot (eqb 0x3D) (l ++ spell_comparable x.side r)
    go [] g = first (spell_comparable x.side r) (comparable_begins x.side r)
    go (c ∷ l) g = blank_not_equal c (and_left (is_blank c) (every is_blank l) g)

-- ---- nothing behind the operand

pub some_allowed : (f : ℕ) → eqb f 0 ≡ false → Allowed f alone
some_allowed f e = subst (λ t. cond t ⊥ (Unit {0})) (sym e) tt

pub compared_allowed : (f : ℕ) (b : Blanks) (o : G.Operator) (x : Side) → is_comparable f ≡ true → Allowed f (compared b o x)
compared_allowed f b o x e = subst (λ t. cond t (Unit {0}) ⊥) (sym e) tt

never_alone : (f : ℕ) → eqb f 0 ≡ true → Allowed f alone → ⊥
never_alone f e a = subst (λ t. cond t ⊥ (Unit {0})) e a

never_compared : (f : ℕ) (b : Blanks) (o : G.Operator) (x : Side) → is_comparable f ≡ false → Allowed f (compared b o x) → ⊥
never_compared f b o x e a = subst (λ t. cond t (Unit {0}) ⊥) e a

-- how a comparison stands in the text
compared_inside : {s : List ℕ} (b : Blanks) (o : G.Operator) (x : Side) (r : List ℕ) → s ≡ spell_behind (compared b o x) r → unblank s ≡ spell_operator o (spell_side x r)
compared_inside b o x r e = ap unblank e ∙ unblank_blanks b _ ∙ operator_start o _

module _ (f p : ℕ) {s : List ℕ} (n : ReadsNone spell_operator (StartsNot (eqb 0x3D)) (unblank s)) where
  -- no operator stands there: the operand is alone
  pub behind_alone : (e : eqb f 0 ≡ false) → Reads (spell_behind_of f) (me_behind f p) (After 2) s (record { tree = alone; allowed = some_allowed f e }) s
  behind_alone e = record { eq = refl; only = λ t' r' a g. go t'.tree t'.allowed r' a g }
    where
      go : (t : Behind) (w : Allowed f t) (r' : List ℕ) → After 2 r' → s ≡ spell_behind t r' → (me_behind f p (record { tree = t; allowed = w }) ≡ me_behind f p (record { tree = alone; allowed = some_allowed f e })) × (r' ≡ s)
      go alone w r' a g = (refl, sym g)
      go (compared b o x) w r' a g = absurd (n.none o (spell_side x r') (side_no_equal x r') (compared_inside b o x r' g))

  -- which a literal may not be
  pub behind_literal : eqb f 0 ≡ true → ReadsNone (spell_behind_of f) (After 2) s
  behind_literal e = record { none = λ t' r' a g. go t'.tree t'.allowed r' g }
    where
      go : (t : Behind) → Allowed f t → (r' : List ℕ) → s ≡ spell_behind t r' → ⊥
      go alone w r' g = never_alone f e w
      go (compared b o x) w r' g = n.none o (spell_side x r') (side_no_equal x r') (compared_inside b o x r' g)

-- ---- an operator behind the operand

module _ (f p : ℕ) {s s₁ : List ℕ} {o : G.Operator} (h : Reads spell_operator operator_number (StartsNot (eqb 0x3D)) (unblank s) o s₁) where
  -- what may follow a test is not what stands there
  not_alone : (r' : List ℕ) → After 2 r' → s ≡ r' → ⊥
  not_alone r' a g =
      let e : level_of (hd (unblank r')) ≡ 2 = ap (λ z. level_of (hd (unblank z))) (sym g) ∙ ap (λ z. level_of (hd z)) h.eq ∙ operator_level o s₁ in
      omega (arith, a.above)

  pub behind_compared : {x : Side} {r : List ℕ} (c : is_comparable f ≡ true) → Reads spell_side (me_side (sort_number (sort_of f)) (operator_number o) p) (After 2) s₁ x r
      → Reads (spell_behind_of f) (me_behind f p) (After 2) s (record { tree = compared (split_blanks s).0 o x; allowed = compared_allowed f (split_blanks s).0 o x c }) r
  behind_compared {x} {r} c k = record {
    eq = (split_blanks s).1 ∙ ap (spell_blanks (split_blanks s).0) (h.eq ∙ ap (spell_operator o) k.eq);
    only = λ t' r' a g. go t'.tree t'.allowed r' a g;
  }
    where
      go : (t : Behind) (w : Allowed f t) (r' : List ℕ) → After 2 r' → s ≡ spell_behind t r'
          → (me_behind f p (record { tree = t; allowed = w }) ≡ me_behind f p (record { tree = compared (split_blanks s).0 o x; allowed = compared_allowed f (split_blanks s).0 o x c })) × (r' ≡ r)
      go alone w r' a g = absurd (not_alone r' a g)
      go (compared b o' x') w r' a g =
          let u = h.only o' (spell_side x' r') (side_no_equal x' r') (compared_inside b o' x' r' g) in
          let v = k.only x' r' a (sym u.1) in
          let q : write_side (sort_number (sort_of f)) (operator_number o') x' p ≡ write_side (sort_number (sort_of f)) (operator_number o) x p = ap (λ z. write_side (sort_number (sort_of f)) z x' p) u.0 ∙ ap (λ z. z.0) v.0 in
          ((λ i. (q i, 4)), v.1)

  pub behind_none : ReadsNone spell_side (After 2) s₁ → ReadsNone (spell_behind_of f) (After 2) s
  behind_none k = record { none = λ t' r' a g. go t'.tree t'.allowed r' a g }
    where
      go : (t : Behind) → Allowed f t → (r' : List ℕ) → After 2 r' → s ≡ spell_behind t r' → ⊥
      go alone w r' a g = not_alone r' a g
      go (compared b o' x') w r' a g =
          let u = h.only o' (spell_side x' r') (side_no_equal x' r') (compared_inside b o' x' r' g) in
          k.none x' r' a (sym u.1)

  pub behind_incomparable : is_comparable f ≡ false → ReadsNone (spell_behind_of f) (After 2) s
  behind_incomparable c = record { none = λ t' r' a g. go t'.tree t'.allowed r' a g }
    where
      go : (t : Behind) → Allowed f t → (r' : List ℕ) → After 2 r' → s ≡ spell_behind t r' → ⊥
      go alone w r' a g = not_alone r' a g
      go (compared b o' x') w r' a g = never_compared f b o' x' c w
