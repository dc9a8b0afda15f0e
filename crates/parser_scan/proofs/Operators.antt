-- Comparison operators: what stands at a place is one operator at most, since no operator but a longer one goes on with `=`.
-- Assumes nothing.
use Rattle.std.specs.Prelude.{Some, None}
use mathlib.Core.Path.{◌≡◌, refl, sym, ap, ◌∙◌}
use mathlib.Core.Bool.{Bool, true, false, cond, true≢false}
use mathlib.Core.List.{List, [], ◌∷◌}
use Prim.Native.Nat.{ℕ, ◌+◌, ◌≤◌, ◌<◌}
use native.Mathlib.Omega.{arith}
use borrow.Author.Tests.{eqb-true}
use lib.Dec.{eqb}
use lib.ListN.{length, drop}
use Rattle.definition.specs.Utf8.{is_utf8}
use Rattle.definition.specs.Grammar as G
use Rattle.definition.specs.Grammar.{spell_operator}
use Rattle.definition.specs.Grammar.Operator.{eq_operator, ne_operator, lt_operator, le_operator, gt_operator, ge_operator}
use Rattle.definition.specs.Plans.{operator_byte}
use Rattle.definition.specs.Walk.{operator_form}
use Rattle.basics.specs.Reads.{StartsNot}
use Rattle.utf8_laws.specs.Bytes.{by_test}
use Rattle.utf8_laws.specs.Encode.{utf8_ascii}
use Rattle.parser_scan.specs.Text.{Is, Both, OperatorAt, ReadsOperator, is, nothing}
use Rattle.parser_follow.specs.Numbers.{operator_number}

-- the first byte of an operator, and whether `=` is its second
abbrev pub lead : G.Operator → ℕ
lead eq_operator = 0x3D
lead ne_operator = 0x21
lead lt_operator = 0x3C
lead le_operator = 0x3C
lead gt_operator = 0x3E
lead ge_operator = 0x3E

abbrev pub long : G.Operator → Bool
long eq_operator = true
long ne_operator = true
long lt_operator = false
long le_operator = true
long gt_operator = false
long ge_operator = true

abbrev pub behind_lead : Bool → List ℕ → List ℕ
behind_lead true r = 0x3D ∷ r
behind_lead false r = r

spelled : (o : G.Operator) (r : List ℕ) → spell_operator o r ≡ lead o ∷ behind_lead (long o) r
spelled eq_operator r = refl
spelled ne_operator r = refl
spelled lt_operator r = refl
spelled le_operator r = refl
spelled gt_operator r = refl
spelled ge_operator r = refl

-- the number of an operator, from its first byte and its length
abbrev pub number_by : ℕ → Bool → ℕ
number_by c w = cond (eqb c 0x3D) 0 (cond (eqb c 0x21) 1 (cond (eqb c 0x3C) (cond w 3 2) (cond w 5 4)))

numbered : (o : G.Operator) → operator_number o ≡ number_by (lead o) (long o)
unfolding operator_form operator_byte
numbered eq_operator = refl
numbered ne_operator = refl
numbered lt_operator = refl
numbered le_operator = refl
numbered gt_operator = refl
numbered ge_operator = refl

no_equals : (r l : List ℕ) → StartsNot (eqb 0x3D) r → r ≡ 0x3D ∷ l → ⊥
unfolding StartsNot
no_equals [] l m e = let z : ◌≡◌ {A = ℕ} 0 1 = cc in omega arith
no_equals (c ∷ r) l m e = let q : c ≡ 0x3D = cc in true≢false (rw q at m)

not_equals : (r : List ℕ) → ((l : List ℕ) → r ≡ 0x3D ∷ l → ⊥) → StartsNot (eqb 0x3D) r
unfolding StartsNot
not_equals [] f = tt
not_equals (c ∷ r) f = by_test (eqb 0x3D c) (λ t. absurd (f r (ap (λ (k : ℕ). k ∷ r) (sym (eqb-true 0x3D c t))))) (λ k. k)

-- two operators on one text are of one length, if `=` goes on with neither of the short ones
alike : (v w : Bool) (r r' : List ℕ) → (v ≡ false → StartsNot (eqb 0x3D) r) → StartsNot (eqb 0x3D) r' → behind_lead v r ≡ behind_lead w r' → (w ≡ v) × (r' ≡ r)
alike true true r r' f m e = (refl, cc)
alike true false r r' f m e = absurd (no_equals r' r m (sym e))
alike false true r r' f m e = absurd (no_equals r r' (f refl) e)
alike false false r r' f m e = (refl, sym e)

module _ (o : G.Operator) {s : List ℕ} {a r : ℕ} where
  -- the operator o stands at a and ends at r
  pub operator_at : a ≤ r → r ≤ length s → drop a s ≡ spell_operator o (drop r s) → (long o ≡ false → StartsNot (eqb 0x3D) (drop r s)) →
      (is_utf8 (drop a s) ≡ is_utf8 (drop r s)) → OperatorAt s a r (operator_number o)
  operator_at from to e f u =
      record {
        operator = o;
        reads = record {
          eq = e;
          only = λ t r' m q.
              let g : lead o ∷ behind_lead (long o) (drop r s) ≡ lead t ∷ behind_lead (long t) r' = sym (spelled o (drop r s)) ∙ sym e ∙ q ∙ spelled t r' in
              let h : lead t ≡ lead o = cc in
              let k : behind_lead (long o) (drop r s) ≡ behind_lead (long t) r' = cc in
              let j = alike (long o) (long t) (drop r s) r' f m k in
              (numbered t ∙ rw (h, j.0) (sym (numbered o)), j.1);
        };
        from = from;
        to = to;
        number = refl;
        utf8 = λ v. sym u ∙ v;
      }

module _ {s : List ℕ} {a : ℕ} where
  -- an operator of two bytes
  pub long_operator : (o : G.Operator) (x : ℕ) → spell_operator o (drop (a + 2) s) ≡ x ∷ 0x3D ∷ drop (a + 2) s → long o ≡ true → x < 0x80 → Both s a x 0x3D true →
      ReadsOperator s a (Some (a + 2, operator_number o))
  long_operator o x e l h b =
      is (operator_at o (omega arith) b.0 (b.1 ∙ sym e) (λ f. absurd (true≢false (sym l ∙ f))) (rw b.1 (utf8_ascii x (0x3D ∷ drop (a + 2) s) h ∙ utf8_ascii 0x3D (drop (a + 2) s) (omega arith))))

  -- an operator of one byte, which `=` does not follow
  pub short_operator : (o : G.Operator) (x : ℕ) → spell_operator o (drop (a + 1) s) ≡ x ∷ drop (a + 1) s → x < 0x80 → Both s a x 0x3D false → Is s a x true →
      ReadsOperator s a (Some (a + 1, operator_number o))
  short_operator o x e h n b =
      is (operator_at o (omega arith) b.0 (b.1 ∙ sym e) (λ f. not_equals (drop (a + 1) s) (λ l q. n l (b.1 ∙ ap (λ (t : List ℕ). x ∷ t) q))) (rw b.1 (utf8_ascii x (drop (a + 1) s) h)))

  -- where none of the six stands there is no operator
  pub no_operator : Both s a 0x3D 0x3D false → Both s a 0x21 0x3D false → Both s a 0x3C 0x3D false → Is s a 0x3C false → Both s a 0x3E 0x3D false → Is s a 0x3E false → ReadsOperator s a None
  no_operator eq ne le lt ge gt = nothing (record { none = by })
    where
      by : (t : G.Operator) (r : List ℕ) → StartsNot (eqb 0x3D) r → drop a s ≡ spell_operator t r → ⊥
      by eq_operator r m q = eq r q
      by ne_operator r m q = ne r q
      by lt_operator r m q = lt r q
      by le_operator r m q = le r q
      by gt_operator r m q = gt r q
      by ge_operator r m q = ge r q
