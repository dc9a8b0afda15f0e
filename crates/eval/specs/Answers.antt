-- What is asked of a query in a filter's code, from how many nodes it finds and the first of them. Assumes nothing.
use Rattle.std.specs.Prelude.{ℕ, zero, suc, ◌+◌, ◌-◌, ◌≤◌, ◌<◌, ◌≡◌, refl, List, [], ◌∷◌, Bool as Bits, true, false, eqb, ltb, ℤ, pos, length, get_or}
use Rattle.std.proofs.Common.{sym, ap, ◌∙◌, subst, true≢false, arith, eqb-true, eq-eqb}
use Rattle.std.proofs.Math.Bool.{or-true}
use Rattle.std.proofs.lemmas.Bool.{eqb-false}
use Rattle.definition.specs.Limits.{max_int}
use Rattle.definition.specs.Values.{Json}
use Rattle.definition.specs.Compare.{Value}
use Rattle.definition.specs.Plans.{code_segments}
use Rattle.definition.specs.Evaluation.{first_value, eval_segments}
use Rattle.eval_laws.specs.Founds.{Found, found_test, found_count, found_first, found_none, found_only, found_not_one}
use Rattle.eval_laws.specs.Todos.{Todo, QueryAt, todo_to}
use Rattle.eval_values.specs.Means.{meaning, OfNode}
use Rattle.eval_values.specs.declared.Operand.{Operand}
use Rattle.eval_values.specs.declared.Operand.TheVariants.{Nothing, Null, Int}
use Rattle.eval_items.specs.Leaves.{cap_for}
use Rattle.eval_items.specs.OpLaws.{regs}
use Rattle.eval_items.specs.declared.Regs.{Regs}
use Rattle.eval_asks.specs.Asks.{is_function, OfFunction, OfFirst, AskAnswer, DoneAnswer}

-- ---- caps by what is asked

cap_count : (m : ℕ) → m ≡ 0x19 → cap_for m ≡ max_int - 1
cap_count m e = rw e

cap_value : (m : ℕ) → m ≡ 0x1B → cap_for m ≡ 1
cap_value m e = rw e

found_cap : {S X : List ℕ} {ns : List Json} (c d n first : ℕ) → c ≡ d → Found S X ns c n first → Found S X ns d n first
found_cap c d n first e f = rw e at f

-- ---- the functions

pub no_function_lem : (m : ℕ) → is_function m ≡ false → (m ≡ 0x19 → ⊥) × (m ≡ 0x1B → ⊥)
no_function_lem m e = ((λ z. true≢false (rw (eq-eqb m 0x19 z) at e)), (λ z. true≢false (rw (eq-eqb m 0x1B z, or-true (eqb m 0x19)) at e)))

module _ (S X : List ℕ) (mode n first : ℕ) where
  pub function_count : mode ≡ 0x19 → (v : ℤ) → v ≡ pos n → OfFunction S X mode n first (Int v)
  function_count e v t = record { fine = λ L. tt; is_count = λ i L. ap Value.integer t; is_value = λ i. absurd (omega arith); is_null_lem = λ i. absurd (omega arith) }

  pub function_value : (mode ≡ 0x19 → ⊥) → n ≡ 1 → (v : Operand) → OfNode S X first v → OfFunction S X mode n first v
  function_value a o v t = record { fine = t.fine; is_count = λ i. absurd (a i); is_value = λ i j. t.means; is_null_lem = λ i j. absurd (j o) }

  pub function_null : (mode ≡ 0x19 → ⊥) → (n ≡ 1 → ⊥) → OfFunction S X mode n first Null
  function_null a o = record { fine = λ L. tt; is_count = λ i. absurd (a i); is_value = λ i j. absurd (o j); is_null_lem = λ i j L. refl }

-- ---- the first node

pub first_some : (S X : List ℕ) (n first : ℕ) → 0 < n → (v : Operand) → OfNode S X first v → OfFirst S X n first v
first_some S X n first o v t = record { fine = t.fine; is_some = λ i. t.means; is_none = λ i. absurd (omega arith) }

pub first_none : (S X : List ℕ) (n first : ℕ) → n ≤ 0 → OfFirst S X n first Nothing
first_none S X n first o = record { fine = λ L. tt; is_some = λ i. absurd (omega arith); is_none = λ i L. refl }

-- which function it is, and whether `value` has one node
data Kind (m n : ℕ) : Type 0 where
  counts : m ≡ 0x19 → Kind m n
  values : m ≡ 0x1B → n ≡ 1 → Kind m n
  nulls : m ≡ 0x1B → (n ≡ 1 → ⊥) → Kind m n

kind_of : (m n : ℕ) → is_function m ≡ true → Kind m n
kind_of m n e = go (eqb m 0x19) refl (eqb n 1) refl
  where
    other : eqb m 0x19 ≡ false → m ≡ 0x1B
    other i = eqb-true m 0x1B (rw i at e)

    go : (a : Bits) → eqb m 0x19 ≡ a → (d : Bits) → eqb n 1 ≡ d → Kind m n
    go true i d k = counts (eqb-true m 0x19 i)
    go false i true k = values (other i) (eqb-true n 1 k)
    go false i false k = nulls (other i) (eqb-false n 1 k)

-- ---- the registers

module _ {S X : List ℕ} {s : Regs} {z n first : ℕ} (mode : ℕ) (a : AskAnswer S X s z n first) where
  -- a test
  pub answer_test : mode ≡ 0x18 → (b : Bits) → b ≡ ltb 0 n → DoneAnswer S X s mode z n first (regs b Nothing Nothing (z + 1))
  answer_test e b t =
      let p = a.place in
      record {
        pair = λ L f. record { first = tt; second = tt };
        further = omega arith;
        goes = λ P L end R N want J y i m f.
            todo_to P L _ (z + 1) end R N _ b _ _ _ _ want (ap (λ (x : ℕ). x + 1) i) refl refl refl
            (y.is_test (subst (λ (x : ℕ). get_or P x 0 ≡ 0x18) i (sym m ∙ e)) b (t ∙ found_test S X _ _ n first f));
      }

  module _ (v : Operand) (t : OfFunction S X mode n first v) where
    -- what the function gives is what is asked
    function_goes : (P L : List ℕ) (end : ℕ) (R N : Json) (want : Bits) (J : Json) (y : QueryAt P L s.q end R N s.acc (meaning S X L s.x) (meaning S X L s.y) want J)
        → mode ≡ get_or P (s.q + 1 + length (code_segments y.f y.k)) 0 → Found S X (eval_segments y.f J (J ∷ [])) (cap_for mode) n first
        → Kind mode n → Todo P L (s.q + 1 + length (code_segments y.f y.k) + 1) end R N s.acc (meaning S X L s.y) (meaning S X L v) want
    function_goes P L end R N want J y m f (counts e) = y.is_count (sym m ∙ e) (meaning S X L v) (t.is_count e L ∙ found_count S X _ n first (found_cap _ _ n first (cap_count mode e) f))
    function_goes P L end R N want J y m f (values e o) = y.is_value (sym m ∙ e) (meaning S X L v) (t.is_value e o L ∙ found_only S X _ n first (found_cap _ _ n first (cap_value mode e) f) o)
    function_goes P L end R N want J y m f (nulls e o) = y.is_value (sym m ∙ e) (meaning S X L v) (t.is_null_lem e o L ∙ found_not_one S X _ n first (found_cap _ _ n first (cap_value mode e) f) o)

    pub answer_function : is_function mode ≡ true → DoneAnswer S X s mode z n first (regs s.acc s.y v (z + 1))
    answer_function e =
        let p = a.place in
        record {
          pair = λ L f. record { first = f; second = t.fine L };
          further = omega arith;
          goes = λ P L end R N want J y i m f.
              todo_to P L _ (z + 1) end R N _ _ _ _ _ _ want (ap (λ (x : ℕ). x + 1) i) refl refl refl
              (function_goes P L end R N want J y (m ∙ ap (λ (x : ℕ). get_or P x 0) i) f (kind_of mode n e));
        }

  -- the value of a singular query's node
  pub answer_first : (mode ≡ 0x18 → ⊥) → is_function mode ≡ false → (v : Operand) → OfFirst S X n first v → DoneAnswer S X s mode z n first (regs s.acc s.y v z)
  answer_first n1 e v t =
      let g = no_function_lem mode e in
      record {
        pair = λ L f. record { first = f; second = t.fine L };
        further = a.place;
        goes = λ P L end R N want J y i m f.
            let b : mode ≡ get_or P (s.q + 1 + length (code_segments y.f y.k)) 0 = m ∙ ap (λ (x : ℕ). get_or P x 0) i in
            todo_to P L _ z end R N _ _ _ _ _ _ want i refl refl refl
            (y.is_first_lem (λ u. n1 (b ∙ u)) (λ u. g.0 (b ∙ u)) (λ u. g.1 (b ∙ u)) (meaning S X L v)
            (first_by v t L _ _ f n refl));
      }
    where
      first_by : (v : Operand) → OfFirst S X n first v → (L : List ℕ) (ns : List Json) (c : ℕ) → Found S X ns c n first → (k : ℕ) → n ≡ k → meaning S X L v ≡ first_value ns
      first_by v t L ns c f zero e = t.is_none e L ∙ found_none S X ns c n first f e
      first_by v t L ns c f (suc k) e = t.is_some (omega arith) L ∙ found_first S X ns c n first f (omega arith)
