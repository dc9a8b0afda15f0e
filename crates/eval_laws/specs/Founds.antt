-- A query run with one place: how many nodes it selects up to a cap, and the first of them. Assumes nothing.
use Prim.Native.Nat.{ℕ, zero, suc, ◌+◌, ◌-◌, ◌≤◌, ◌<◌, min}
use Rattle.std.specs.Prelude.{◌≡◌, Bool, true, false, cond, get_or, set, eqb, ltb, pos}
use Rattle.std.proofs.Math.Path.{refl, sym, ap}
use Rattle.std.proofs.Common.{◌∙◌, subst, length-set}
use mathlib.Core.List.{List, [], ◌∷◌, ◌++◌}
use Rattle.std.proofs.Math.ListN.{length, length-map}
use Rattle.std.proofs.Math.Seq.{set_out}
use native.Mathlib.Omega.{arith}
use borrow.Author.Tests.{ne_eqb, lt-ltb, le-ltb}
use Rattle.definition.specs.Limits.{max_int}
use Rattle.definition.specs.Values.{Json, id_of}
use Rattle.definition.specs.Tables.{node_at, node_count}
use Rattle.definition.specs.Forms.{Segments}
use Rattle.definition.specs.Compare.{Value, node_value}
use Rattle.definition.specs.Evaluation.{is_found, first_value, only_value, count_value, eval_segments}
use Rattle.table_laws.specs.Accepted.{Accepted}
use Rattle.eval_laws.specs.Operations.{Ask, asked, ask_of}
use Rattle.eval_laws.specs.Operations.Ask.{for_test, for_count, for_value, for_first}
use Rattle.eval_laws.specs.States.{State, st, push, emit, emit_next}
use Rattle.eval_laws.specs.Segments.{ids}
use Rattle.eval_laws.specs.Emits.{go}
use Rattle.eval_laws.specs.Within.{In, AllIn, all_segments, node_in}

-- what is counted for what is asked is within the integers
pub cap_most : (m : Ask) → (asked m).cap + 1 ≤ max_int
cap_most for_test = omega arith
cap_most for_count = omega arith
cap_most for_value = omega arith
cap_most for_first = omega arith

-- one node is enough, but for `count` and `value`
pub cap_other : (b : ℕ) → (b ≡ 0x19 → ⊥) → (b ≡ 0x1B → ⊥) → (asked (ask_of b)).cap ≡ 0
cap_other b n m = go (eqb b 0x18)
  where
    go : (t : Bool) → (asked (cond t for_test (cond (eqb b 0x19) for_count (cond (eqb b 0x1B) for_value for_first)))).cap ≡ 0
    go true = refl
    go false = rw (ne_eqb b 0x19 n, ne_eqb b 0x1B m)

-- Of the nodes ns, counted up to one more than the cap: how many, and the number of the first.
pub record Found (T X : List ℕ) (ns : List Json) (cap count first : ℕ) : Type 0 where
  pub number : count ≡ min (length ns) (cap + 1)
  pub inside : 0 < count → first < node_count T
  pub node : 0 < count → first_value ns ≡ node_value (node_at T X first)

-- behind the last place nothing is written
emit_out : (xs : List ℕ) (s : State) → length s.places ≤ s.next → s.next ≤ s.cap + 1 → length s.places ≤ s.cap + 1 → (emit xs s).places ≡ s.places
unfolding emit push
emit_out [] s h b w = refl
emit_out (x ∷ xs) s h b w =
    let e = set_out s.places s.next x h in
    let l = length-set s.places s.next x in
    emit_out xs (push x s) (omega arith) (omega arith) (omega arith) ∙ e

module _ (T X : List ℕ) where
  found_by : (ns : List Json) → AllIn T X ns → (cap : ℕ) (l : List ℕ) (r : ℕ) → st cap l r ≡ emit (ids ns) (st cap (0 ∷ []) 0) → Found T X ns cap r (get_or l 0 0)
  unfolding AllIn first_value emit push
  found_by [] a cap l r e =
      let n = ap (λ (s : State). s.next) e in
      record { number = omega arith; inside = λ z. absurd (omega arith); node = λ z. absurd (omega arith) }
  found_by (x ∷ xs) a cap l r e =
      let n = ap (λ (s : State). s.next) e ∙ emit_next (id_of x ∷ ids xs) (st cap (0 ∷ []) 0) (omega arith) in
      let c : length (ids xs) ≡ length xs = length-map xs id_of in
      let p : l ≡ id_of x ∷ [] = ap (λ (s : State). s.places) e ∙ emit_out (ids xs) (st cap (id_of x ∷ []) (min (0 + 1) (cap + 1))) (omega arith) (omega arith) (omega arith) in
      record { number = omega arith; inside = λ z. rw p a.0.below; node = λ z. rw p (ap node_value a.0.node) }

  -- what a query selects from a node
  pub found_at : Accepted T X → (i : ℕ) → i < node_count T → (f : Segments) (cap : ℕ) (l : List ℕ) (r : ℕ) → st cap l r ≡ go f (node_at T X i) (node_at T X i ∷ []) (st cap (0 ∷ []) 0)
      → Found T X (eval_segments f (node_at T X i) (node_at T X i ∷ [])) cap r (get_or l 0 0)
  unfolding go AllIn
  found_at tab i h f cap l r e = found_by (eval_segments f (node_at T X i) (node_at T X i ∷ [])) (all_segments T X tab f (node_at T X i) (node_at T X i ∷ []) (node_in T X tab i h, tt)) cap l r e

  -- whether there is one; with a cap of 0 evaluation stops at the first
  pub found_test : (ns : List Json) (cap count first : ℕ) → Found T X ns cap count first → ltb 0 count ≡ is_found ns
  unfolding is_found
  found_test [] cap count first f = let n = f.number in le-ltb 0 count (omega arith)
  found_test (x ∷ xs) cap count first f = let n = f.number in lt-ltb 0 count (omega arith)

  -- how many, up to 2^53-1
  pub found_count : (ns : List Json) (count first : ℕ) → Found T X ns (max_int - 1) count first → Value.integer (pos count) ≡ count_value ns
  unfolding count_value
  found_count ns count first f = let n = f.number in let e : count ≡ min (length ns) max_int = omega arith in ap (λ (k : ℕ). Value.integer (pos k)) e

  -- the value of the first, or of the only one
  pub found_first : (ns : List Json) (cap count first : ℕ) → Found T X ns cap count first → 0 < count → node_value (node_at T X first) ≡ first_value ns
  found_first ns cap count first f h = sym (f.node h)

  pub found_none : (ns : List Json) (cap count first : ℕ) → Found T X ns cap count first → count ≡ 0 → Value.nothing ≡ first_value ns
  unfolding first_value
  found_none [] cap count first f h = refl
  found_none (x ∷ xs) cap count first f h = let n = f.number in absurd (omega arith)

  pub found_only : (ns : List Json) (count first : ℕ) → Found T X ns 1 count first → count ≡ 1 → node_value (node_at T X first) ≡ only_value ns
  unfolding only_value first_value
  found_only [] count first f h = let n = f.number in absurd (omega arith)
  found_only (x ∷ []) count first f h = sym (f.node (omega arith))
  found_only (x ∷ y ∷ xs) count first f h = let n = f.number in absurd (omega arith)

  pub found_not_one : (ns : List Json) (count first : ℕ) → Found T X ns 1 count first → (count ≡ 1 → ⊥) → Value.null ≡ only_value ns
  unfolding only_value
  found_not_one [] count first f h = refl
  found_not_one (x ∷ []) count first f h = let n = f.number in absurd (h (omega arith))
  found_not_one (x ∷ y ∷ xs) count first f h = refl
