-- A test of one member is false for a node that is not a map, whatever the root is: under the name there is nothing, and nothing compares with no literal.
-- P is the plan, L the pool, S the table, X the text. Assumes nothing.
use Rattle.std.specs.Prelude.{ℕ, ◌+◌, ◌≤◌, ◌<◌, ◌≡◌, refl, List, [], ◌∷◌, Bool as Bits, true, false, eqb, length, get_or, None}
use Rattle.std.proofs.Common.{sym, ap, ◌∙◌, arith, eqb-true}
use Rattle.std.proofs.lemmas.Bool.{eqb-false}
use Rattle.definition.specs.Values.{Json}
use Rattle.definition.specs.Forms.{Test}
use Rattle.definition.specs.Plans.{code_segments}
use Rattle.definition.specs.Compare.{Value}
use Rattle.definition.specs.Tables.{node_count, node_at, kind_at, kind_map}
use Rattle.definition.specs.Evaluation.{eval_segments, eval_test}
use Rattle.eval_laws.specs.Founds.{Found, found_test, found_none}
use Rattle.eval_laws.specs.Todos.{Todo, todo_start, todo_end, todo_to, at_query, QueryAt}
use Rattle.eval_items.specs.Leaves.{cap_for}
use Rattle.eval_items.specs.LeafLaws.{name_else}
use Rattle.eval_front.specs.Visits.{Query, Given}
use Rattle.eval_filters.specs.Queries.{found_lost}
use Rattle.eval_filters.specs.Tests.{Left, compared, none_compares}
use Rattle.eval_filters.specs.Kept.{Tested}
use Rattle.eval_filters.specs.Atoms.{AtomAt, name_long, name_one, name_lost}
use Rattle.eval_filters.specs.declared.atoms.Atom.{Atom}

module _ {P L S X : List ℕ} (given : Given P L S X) {m q e : ℕ} (node_in : m < node_count S) (other : kind_at S m ≡ kind_map → ⊥) {t : Atom} (b : AtomAt P q e t) where
  module _ (R : Json) (acc want : Bits) (d : Left P L q e R (node_at S X m) acc want) (more : q < e) where
    -- the query of the test, from the node itself
    scalar_query : QueryAt P L q e R (node_at S X m) acc Value.nothing Value.nothing want (node_at S X m)
    scalar_query =
        let c = b.current in
        at_query P L q e R (node_at S X m) acc Value.nothing Value.nothing want d more (omega arith) (node_at S X m) (λ z. absurd (omega arith)) (λ z. refl)

    scalar_place : q + 1 + length (code_segments scalar_query.f scalar_query.k) ≡ q + 1 + 9
    scalar_place = ap (λ (x : ℕ). q + 1 + x) (name_long given.few_p b.here scalar_query.at)

    -- it finds nothing
    scalar_found : Found S X (eval_segments scalar_query.f (node_at S X m) (node_at S X m ∷ [])) (cap_for 0x19) 0 0
    scalar_found =
        let y = scalar_query in
        let w : Query P L (q + 1) = record { f = y.f; k = y.k; at = y.at } in
        let o = name_else (name_one given node_in w b.here) other in
        found_lost P L S X given.tab m q node_in _ (name_lost given node_in w b.here None o refl) refl 0x19 y.f y.k y.at

    scalar_tested : t.form ≡ 1 → Left P L t.next e R (node_at S X m) false want
    scalar_tested i =
        let y = scalar_query in
        let h = b.has i in
        let h1 = h.1 in
        let p = scalar_place in
        todo_to P L _ t.next e _ _ _ _ _ _ _ _ want (omega arith) refl refl refl (y.is_test (ap (λ (x : ℕ). get_or P x 0) p ∙ h.0) false (found_test S X _ _ 0 0 scalar_found))

    -- the value to compare is nothing
    scalar_behind : 0x10 ≤ get_or P (q + 1 + 9) 0 → get_or P (q + 1 + 9) 0 ≤ 0x13 → Todo P L (q + 1 + 9) e R (node_at S X m) acc Value.nothing Value.nothing want
    scalar_behind lo hi =
        let y = scalar_query in
        let p = scalar_place in
        let g : get_or P (q + 1 + length (code_segments y.f y.k)) 0 ≡ get_or P (q + 1 + 9) 0 = ap (λ (x : ℕ). get_or P x 0) p in
        todo_to P L _ (q + 1 + 9) e _ _ _ _ _ _ _ _ want (sym p) refl refl refl
        (y.is_first_lem (λ i. absurd (omega arith)) (λ i. absurd (omega arith)) (λ i. absurd (omega arith)) Value.nothing (found_none S X _ _ 0 0 scalar_found refl))

    scalar_compared : (t.form ≡ 1 → ⊥) → Left P L t.next e R (node_at S X m) false want
    scalar_compared i =
        let g = b.compared i in
        todo_to P L (g.w + 2) t.next e _ _ _ _ _ _ _ _ want g.next_is refl refl refl
        (compared P L (q + 1 + 9) g.w e g.past g.low g.high g.more g.inside R (node_at S X m) acc Value.nothing want (scalar_behind g.low g.high) g.compare_is false (λ l k h p r. none_compares _ _))

    pub scalar_goes : Left P L t.next e R (node_at S X m) false want
    scalar_goes = by (eqb t.form 1) refl
      where
        by : (x : Bits) → eqb t.form 1 ≡ x → Left P L t.next e R (node_at S X m) false want
        by true j = scalar_tested (eqb-true t.form 1 j)
        by false j = scalar_compared (eqb-false t.form 1 j)

  -- a test that is no more than that
  pub scalar_false : q < e → t.next ≡ e → (R : Json) (x : Test) (k : ℕ) → Tested P L q e x k → eval_test x R (node_at S X m) ≡ false
  scalar_false more n R x k h =
      let d = todo_start P L q e k R (node_at S X m) false Value.nothing Value.nothing x h.test h.place in
      sym (todo_end P L t.next e R (node_at S X m) false Value.nothing Value.nothing _ (scalar_goes R false _ d more) (omega arith))
