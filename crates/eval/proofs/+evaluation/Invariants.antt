-- The measures and invariants of the cycle of calls {apply_selector, apply_selectors, descend_flats, each_child, each_place, eval_filter, eval_filter_expr, eval_query, eval_test, evaluate_segment, next_kept, recursive_descent, rows-keep, rows-tell, rows-turn}.
use Prim.Native.Nat.{ℕ, ◌+◌, ◌*◌, ◌-◌, ◌<◌, ◌≤◌}
use mathlib.Core.List.{List}
use lib.ListN.{length}
use Rattle.definition.specs.Limits.{max_depth}
use Rattle.definition.specs.Tables.{depth_at}
use Rattle.eval_asks.specs.Lent.{plan_of, table_of, pool_of, text_of}
use Rattle.eval.specs.Calls.{InSelectors, InDescent}
use mathlib.Core.Path.{◌≡◌}
use Rattle.eval_asks.specs.Kinds.{InEach, InPlaces, InFilter, InNext}
use Rattle.eval.specs.Columns.{InCells}
use Rattle.eval.specs.Loops.{InTest, InRest}
use Rattle.eval_asks.specs.Cells.{Column}
use Rattle.eval.proofs.+evaluation.Given as goal

-- 64 for each byte that is left of the plan
abbrev pub left : List ℕ → ℕ → ℕ
left P p = 64 * (length P - p)

abbrev pub decreases-apply_selector : goal.decreases-apply_selector
decreases-apply_selector l = left (plan_of l.lent.now) l.p + 100

abbrev pub decreases-apply_selectors : goal.decreases-apply_selectors
decreases-apply_selectors l = left (plan_of l.lent.now) l.pc + 1

abbrev pub decreases-descend_flats : goal.decreases-descend_flats
decreases-descend_flats l = left (plan_of l.lent.now) l.pc + 2 + (max_depth - depth_at (table_of l.lent.now) l.node)

abbrev pub decreases-each_child : goal.decreases-each_child
decreases-each_child l = left (plan_of l.lent.now) l.rest + 71

abbrev pub decreases-each_place : goal.decreases-each_place
decreases-each_place l = left (plan_of l.lent.now) l.rest + 71

abbrev pub decreases-eval_filter : goal.decreases-eval_filter
decreases-eval_filter l = left (plan_of l.lent.now) l.p + 90

abbrev pub decreases-eval_filter_expr : goal.decreases-eval_filter_expr
decreases-eval_filter_expr l = left (plan_of l.lent.now) l.p + 79

abbrev pub decreases-eval_query : goal.decreases-eval_query
decreases-eval_query l = left (plan_of l.lent.now) l.s.q + 77

abbrev pub decreases-eval_test : goal.decreases-eval_test
decreases-eval_test l = left (plan_of l.lent.now) l.p + 78

abbrev pub decreases-evaluate_segment : goal.decreases-evaluate_segment
decreases-evaluate_segment l = left (plan_of l.lent.now) l.pc + 70

abbrev pub decreases-next_kept : goal.decreases-next_kept
decreases-next_kept l = left (plan_of l.lent.now) l.p + 80

abbrev pub decreases-recursive_descent : goal.decreases-recursive_descent
decreases-recursive_descent l = left (plan_of l.lent.now) l.pc + 2 + (max_depth - depth_at (table_of l.lent.now) l.node)

abbrev pub decreases-rows::keep : goal.decreases-rows::keep
decreases-rows::keep l = left (plan_of l.lent.now) l.p + 82

abbrev pub decreases-rows::tell : goal.decreases-rows::tell
decreases-rows::tell l = left (plan_of l.lent.now) l.p + 81

abbrev pub decreases-rows::turn : goal.decreases-rows::turn
decreases-rows::turn l = left (plan_of l.lent.now) l.q + 80

abbrev pub invariant-apply_selectors-loop-m : goal.invariant-apply_selectors-loop-m
invariant-apply_selectors-loop-m l = InSelectors l.lent l.node l.pc l.rest l.initial.state l.initial.list l.state l.list l.m l.p

abbrev pub decreases-apply_selectors-loop-m : goal.decreases-apply_selectors-loop-m
decreases-apply_selectors-loop-m l = l.m

abbrev pub invariant-descend_flats-loop-j : goal.invariant-descend_flats-loop-j
invariant-descend_flats-loop-j l = InDescent l.lent l.pc l.e l.initial.j l.initial.state l.initial.list l.state l.list l.j

abbrev pub decreases-descend_flats-loop-j : goal.decreases-descend_flats-loop-j
decreases-descend_flats-loop-j l = l.e - l.j

abbrev pub invariant-each_child-loop-j : goal.invariant-each_child-loop-j
invariant-each_child-loop-j l = InEach l.lent l.i l.e l.rest l.initial.state l.initial.list l.state l.list l.j

abbrev pub invariant-each_place-loop-w : goal.invariant-each_place-loop-w
invariant-each_place-loop-w l = InPlaces l.lent l.rest l.initial.w l.initial.state l.initial.list l.state l.list l.w

abbrev pub decreases-each_place-loop-w : goal.decreases-each_place-loop-w
decreases-each_place-loop-w l = l.w.left

abbrev pub invariant-eval_filter-loop-v : goal.invariant-eval_filter-loop-v
invariant-eval_filter-loop-v l = InFilter l.lent l.k l.e (l.p + 3) l.z l.rest l.initial.state l.initial.list l.state l.list l.v.node l.v.call

abbrev pub decreases-eval_filter-loop-v : goal.decreases-eval_filter-loop-v
decreases-eval_filter-loop-v l = l.e - l.v.node

abbrev pub invariant-eval_filter_expr-loop-q : goal.invariant-eval_filter_expr-loop-q
invariant-eval_filter_expr-loop-q l = InTest (plan_of l.lent) (pool_of l.lent) (table_of l.lent) (text_of l.lent) l.root l.node l.acc l.p l.e l.b l.q

abbrev pub decreases-eval_filter_expr-loop-q : goal.decreases-eval_filter_expr-loop-q
decreases-eval_filter_expr-loop-q l = l.e - l.q

abbrev pub invariant-eval_test-loop-s : goal.invariant-eval_test-loop-s
invariant-eval_test-loop-s l = InRest (plan_of l.lent) (pool_of l.lent) (table_of l.lent) (text_of l.lent) l.root l.node l.acc l.p l.e l.s

abbrev pub decreases-eval_test-loop-s : goal.decreases-eval_test-loop-s
decreases-eval_test-loop-s l = l.e - l.s.q

abbrev pub invariant-next_kept-loop-j : goal.invariant-next_kept-loop-j
invariant-next_kept-loop-j l = InNext l.lent l.root l.i l.e l.p l.z l.j

abbrev pub invariant-recursive_descent-loop-j : goal.invariant-recursive_descent-loop-j
invariant-recursive_descent-loop-j l = InDescent l.lent l.pc l.e l.initial.j l.initial.state l.initial.list l.state l.list l.j

abbrev pub decreases-recursive_descent-loop-j : goal.decreases-recursive_descent-loop-j
decreases-recursive_descent-loop-j l = l.e - l.j

abbrev pub invariant-rows::keep-loop-j : goal.invariant-rows::keep-loop-j
invariant-rows::keep-loop-j l = InCells l.lent l.initial.j l.e l.p l.z l.rest l.initial.state l.initial.list l.state l.list l.b l.k l.j l.column

abbrev pub decreases-rows::keep-loop-j : goal.decreases-rows::keep-loop-j
decreases-rows::keep-loop-j l = l.e - l.j + (l.e - l.k)

abbrev pub invariant-rows::tell-loop-q : goal.invariant-rows::tell-loop-q
invariant-rows::tell-loop-q l = Column (plan_of l.lent) (pool_of l.lent) (table_of l.lent) (text_of l.lent) l.root l.i l.e l.p l.z l.column × ((length l.column ≡ length l.initial.column) × (l.q < l.z → l.p ≤ l.q))

abbrev pub decreases-rows::tell-loop-q : goal.decreases-rows::tell-loop-q
decreases-rows::tell-loop-q l = l.z - l.q

abbrev pub invariant-rows::turn-loop-j : goal.invariant-rows::turn-loop-j
invariant-rows::turn-loop-j l = (l.i ≤ l.j) × (Column (plan_of l.lent) (pool_of l.lent) (table_of l.lent) (text_of l.lent) l.root l.i l.e l.p l.z l.column × (length l.column ≡ length l.initial.column))
