-- `plan_items::relation` meets its contract.
use Rattle.plan_items.proofs.Words.{kind_in_at}
use Rattle.plan_items.proofs.Related.{relation_compares, relation_match, relation_search, relation_none}
use native.Mathlib.Omega.{arith}
use Rattle.plan_items.proofs.relation.Goals as goal

pub overflow_add-at : goal.overflow_add-at
overflow_add-at c = omega (arith, kind_in_at c.kind-k.ensures c.if-k-eq-COMPARE.true)

pub returns-then-k-eq-COMPARE : goal.returns-then-k-eq-COMPARE
returns-then-k-eq-COMPARE c = relation_compares c.kind-k.ensures c.if-k-eq-COMPARE.true c.small.ensures

pub overflow_add-result : goal.overflow_add-result
overflow_add-result c = omega (arith, kind_in_at c.kind-k.ensures c.if-k-eq-MATCH.true)

pub returns-then-k-eq-MATCH : goal.returns-then-k-eq-MATCH
returns-then-k-eq-MATCH c = relation_match c.kind-k.ensures c.if-k-eq-MATCH.true

pub overflow_add-result-then-k-eq-SEARCH : goal.overflow_add-result-then-k-eq-SEARCH
overflow_add-result-then-k-eq-SEARCH c = omega (arith, kind_in_at c.kind-k.ensures c.if-k-eq-SEARCH.true)

pub returns-then-k-eq-SEARCH : goal.returns-then-k-eq-SEARCH
returns-then-k-eq-SEARCH c = relation_search c.kind-k.ensures c.if-k-eq-SEARCH.true

pub returns : goal.returns
returns c = relation_none c.kind-k.ensures c.if-k-eq-COMPARE.false c.if-k-eq-MATCH.false c.if-k-eq-SEARCH.false
