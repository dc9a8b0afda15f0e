-- The answers of the cycle of calls {same_elements, same_members, same_nodes, same_values}.
use Rattle.eval_values.specs.Same.{not_taken, not_left, with_nothing, with_null, with_bool, with_node, node_node, node_else, node_height, child_height, of_nodes, at_nodes, kinds_differ, counts_differ, lists_same, maps_same, map_else, elements_start, elements_step, elements_stop, elements_end, members_step, members_stop, members_end, elements_are, members_are, members_start, with_ranked, not_ranked}
use Rattle.eval_laws.specs.Ranges.{range_of_lem, child_at}
use mathlib.Core.Bool.{true, not}
use native.Mathlib.Omega.{arith}
use mathlib.Core.Path.{◌∙◌, refl, ap}
use Rattle.eval_values.proofs.Partners.{firsts, turn_in, turn_deeper, turn_asks, turn_missing, turn_between, turn_found}
use Rattle.eval_values.specs.Values.{ranked_of}
use Rattle.eval_values.proofs.+equality.Goals as goal

-- same_elements
pub same_elements-first_child-a-requires : goal.same_elements-first_child-a-requires
same_elements-first_child-a-requires t c = c.requires.both.0.first

-- same_elements
pub same_elements-first_child-b-requires : goal.same_elements-first_child-b-requires
same_elements-first_child-b-requires t c = c.requires.both.0.second

-- same_elements
pub same_elements-child_count-count-requires : goal.same_elements-child_count-count-requires
same_elements-child_count-count-requires t c = c.requires.both.0.first

-- same_elements
pub same_elements-loop-k-init : goal.same_elements-loop-k-init
same_elements-loop-k-init t c = (elements_start _ _ _ _ _ true, omega arith)

-- same_elements
pub same_elements-overflow_add-a : goal.same_elements-overflow_add-a
same_elements-overflow_add-a t c = omega (arith, (child_at c.args.table.now c.args.text.now c.requires.accepted c.args.i c.requires.both.0.first _ _ (range_of_lem c.args.table.now c.args.text.now c.requires.accepted c.args.i c.requires.both.0.first _ _ c.first_child-a.ensures c.child_count-count.ensures) c.loop-k.k c.loop-k-test.true).0)

-- same_elements
pub same_elements-get_value-x-requires : goal.same_elements-get_value-x-requires
same_elements-get_value-x-requires t c = (c.requires.accepted, (child_at c.args.table.now c.args.text.now c.requires.accepted c.args.i c.requires.both.0.first _ _ (range_of_lem c.args.table.now c.args.text.now c.requires.accepted c.args.i c.requires.both.0.first _ _ c.first_child-a.ensures c.child_count-count.ensures) c.loop-k.k c.loop-k-test.true).0)

-- same_elements
pub same_elements-overflow_add-b : goal.same_elements-overflow_add-b
same_elements-overflow_add-b t c = omega (arith, (child_at c.args.table.now c.args.text.now c.requires.accepted c.args.j c.requires.both.0.second _ _ (range_of_lem c.args.table.now c.args.text.now c.requires.accepted c.args.j c.requires.both.0.second _ _ c.first_child-b.ensures (c.child_count-count.ensures ∙ c.requires.both.1)) c.loop-k.k c.loop-k-test.true).0)

-- same_elements
pub same_elements-get_value-y-requires : goal.same_elements-get_value-y-requires
same_elements-get_value-y-requires t c = (c.requires.accepted, (child_at c.args.table.now c.args.text.now c.requires.accepted c.args.j c.requires.both.0.second _ _ (range_of_lem c.args.table.now c.args.text.now c.requires.accepted c.args.j c.requires.both.0.second _ _ c.first_child-b.ensures (c.child_count-count.ensures ∙ c.requires.both.1)) c.loop-k.k c.loop-k-test.true).0)

-- same_elements
pub same_elements-same_values-requires : goal.same_elements-same_values-requires
same_elements-same_values-requires t c = (child_height c.args.table.now c.args.text.now c.requires.accepted c.args.i _ _ _ c.get_value-x.ensures (child_at c.args.table.now c.args.text.now c.requires.accepted c.args.i c.requires.both.0.first _ _ (range_of_lem c.args.table.now c.args.text.now c.requires.accepted c.args.i c.requires.both.0.first _ _ c.first_child-a.ensures c.child_count-count.ensures) c.loop-k.k c.loop-k-test.true).0 (child_at c.args.table.now c.args.text.now c.requires.accepted c.args.i c.requires.both.0.first _ _ (range_of_lem c.args.table.now c.args.text.now c.requires.accepted c.args.i c.requires.both.0.first _ _ c.first_child-a.ensures c.child_count-count.ensures) c.loop-k.k c.loop-k-test.true).1 c.decreases, (c.requires.accepted, of_nodes c.args.table.now c.args.text.now c.args.pool.now _ _ _ _ c.get_value-x.ensures c.get_value-y.ensures))

-- same_elements
pub same_elements-returns-then-not-same_values : goal.same_elements-returns-then-not-same_values
same_elements-returns-then-not-same_values t c = elements_stop c.args.table.now c.args.text.now _ _ _ _ c.loop-k.k c.loop-k-test.true _ (at_nodes c.args.table.now c.args.text.now c.args.pool.now _ _ _ _ c.get_value-x.ensures c.get_value-y.ensures _ c.same_values.ensures) (not_taken _ (ap not c.if-not-same_values.true)) c.loop-k.invariant.0 ∙ elements_are c.args.table.now c.args.text.now c.requires.accepted _ _ c.requires.both.0 _ _ _ (range_of_lem c.args.table.now c.args.text.now c.requires.accepted c.args.i c.requires.both.0.first _ _ c.first_child-a.ensures c.child_count-count.ensures) (range_of_lem c.args.table.now c.args.text.now c.requires.accepted c.args.j c.requires.both.0.second _ _ c.first_child-b.ensures (c.child_count-count.ensures ∙ c.requires.both.1))

-- same_elements
pub same_elements-loop-k-preserved : goal.same_elements-loop-k-preserved
same_elements-loop-k-preserved t c = (elements_step c.args.table.now c.args.text.now _ _ _ _ c.loop-k.k c.loop-k-test.true _ (at_nodes c.args.table.now c.args.text.now c.args.pool.now _ _ _ _ c.get_value-x.ensures c.get_value-y.ensures _ c.same_values.ensures) (not_left _ (ap not c.if-not-same_values.false)) c.loop-k.invariant.0, omega arith)

-- same_elements
pub same_elements-returns : goal.same_elements-returns
same_elements-returns t c = elements_end c.args.table.now c.args.text.now _ _ _ _ c.loop-k.k c.loop-k-test.false c.loop-k.invariant.0 ∙ elements_are c.args.table.now c.args.text.now c.requires.accepted _ _ c.requires.both.0 _ _ _ (range_of_lem c.args.table.now c.args.text.now c.requires.accepted c.args.i c.requires.both.0.first _ _ c.first_child-a.ensures c.child_count-count.ensures) (range_of_lem c.args.table.now c.args.text.now c.requires.accepted c.args.j c.requires.both.0.second _ _ c.first_child-b.ensures (c.child_count-count.ensures ∙ c.requires.both.1))

-- same_members
pub same_members-first_child-a-requires : goal.same_members-first_child-a-requires
same_members-first_child-a-requires t c = c.requires.both.0.first

-- same_members
pub same_members-first_child-b-requires : goal.same_members-first_child-b-requires
same_members-first_child-b-requires t c = c.requires.both.0.second

-- same_members
pub same_members-child_count-count-requires : goal.same_members-child_count-count-requires
same_members-child_count-count-requires t c = c.requires.both.0.first

-- same_members
pub same_members-child_count-many-requires : goal.same_members-child_count-many-requires
same_members-child_count-many-requires t c = c.requires.both.0.second

-- same_members
pub same_members-loop-k-init : goal.same_members-loop-k-init
same_members-loop-k-init t c = (members_start _ _ _ _ _, omega arith)

-- same_members
pub same_members-overflow_add-a : goal.same_members-overflow_add-a
same_members-overflow_add-a t c = omega (arith, turn_in c.requires.accepted c.requires.both c.first_child-a.ensures c.first_child-b.ensures c.child_count-count.ensures c.child_count-many.ensures c.loop-k-test.true)

-- same_members
pub same_members-partner-found-requires : goal.same_members-partner-found-requires
same_members-partner-found-requires t c = record { accepted = (c.requires.accepted, turn_asks c.requires.accepted c.requires.both c.first_child-a.ensures c.first_child-b.ensures c.child_count-count.ensures c.child_count-many.ensures c.loop-k-test.true); first_value = (c.first_child-b.ensures, c.child_count-many.ensures) }

-- same_members
pub same_members-returns-in_default : goal.same_members-returns-in_default
same_members-returns-in_default t c =
    let w = turn_missing c.requires.accepted c.requires.both c.first_child-a.ensures c.first_child-b.ensures c.child_count-count.ensures c.child_count-many.ensures c.loop-k-test.true c.partner-found.ensures c.in_default.is in
    members_stop c.args.table.now c.args.text.now _ _ _ _ c.loop-k.k c.loop-k-test.true _ w refl c.loop-k.invariant.0
    ∙ members_are c.args.table.now c.args.text.now c.requires.accepted _ _ c.requires.both.0 _ _ (firsts c.requires.accepted c.requires.both c.first_child-a.ensures c.first_child-b.ensures c.child_count-count.ensures c.child_count-many.ensures)

-- same_members
pub same_members-overflow_add-a-in-loop-k : goal.same_members-overflow_add-a-in-loop-k
same_members-overflow_add-a-in-loop-k t c = omega (arith, turn_in c.requires.accepted c.requires.both c.first_child-a.ensures c.first_child-b.ensures c.child_count-count.ensures c.child_count-many.ensures c.loop-k-test.true)

-- same_members
pub same_members-get_value-x-requires : goal.same_members-get_value-x-requires
same_members-get_value-x-requires t c = (c.requires.accepted, turn_in c.requires.accepted c.requires.both c.first_child-a.ensures c.first_child-b.ensures c.child_count-count.ensures c.child_count-many.ensures c.loop-k-test.true)

-- same_members
pub same_members-get_value-y-requires : goal.same_members-get_value-y-requires
same_members-get_value-y-requires t c = (c.requires.accepted, omega (arith, turn_in c.requires.accepted c.requires.both c.first_child-a.ensures c.first_child-b.ensures c.child_count-count.ensures c.child_count-many.ensures c.loop-k-test.true, (turn_between c.requires.accepted c.requires.both c.first_child-a.ensures c.first_child-b.ensures c.child_count-count.ensures c.child_count-many.ensures c.loop-k-test.true c.partner-found.ensures c.in-Some.is).1))

-- same_members
pub same_members-same_values-requires : goal.same_members-same_values-requires
same_members-same_values-requires t c = (
  child_height c.args.table.now c.args.text.now c.requires.accepted c.args.i _ _ _ c.get_value-x.ensures (turn_in c.requires.accepted c.requires.both c.first_child-a.ensures c.first_child-b.ensures c.child_count-count.ensures c.child_count-many.ensures c.loop-k-test.true) (turn_deeper c.requires.accepted c.requires.both c.first_child-a.ensures c.first_child-b.ensures c.child_count-count.ensures c.child_count-many.ensures c.loop-k-test.true) c.decreases,
  (c.requires.accepted, of_nodes c.args.table.now c.args.text.now c.args.pool.now _ _ _ _ c.get_value-x.ensures c.get_value-y.ensures),
)

-- same_members
pub same_members-returns-then-not-same_values : goal.same_members-returns-then-not-same_values
same_members-returns-then-not-same_values t c =
    let w = turn_found c.requires.accepted c.requires.both c.first_child-a.ensures c.first_child-b.ensures c.child_count-count.ensures c.child_count-many.ensures c.loop-k-test.true c.partner-found.ensures c.in-Some.is
    (at_nodes c.args.table.now c.args.text.now c.args.pool.now _ _ _ _ c.get_value-x.ensures c.get_value-y.ensures _ c.same_values.ensures) in
    members_stop c.args.table.now c.args.text.now _ _ _ _ c.loop-k.k c.loop-k-test.true _ w (not_taken _ (ap not c.if-not-same_values.true)) c.loop-k.invariant.0
    ∙ members_are c.args.table.now c.args.text.now c.requires.accepted _ _ c.requires.both.0 _ _ (firsts c.requires.accepted c.requires.both c.first_child-a.ensures c.first_child-b.ensures c.child_count-count.ensures c.child_count-many.ensures)

-- same_members
pub same_members-overflow_sub-near : goal.same_members-overflow_sub-near
same_members-overflow_sub-near t c =
    let g = turn_between c.requires.accepted c.requires.both c.first_child-a.ensures c.first_child-b.ensures c.child_count-count.ensures c.child_count-many.ensures c.loop-k-test.true c.partner-found.ensures c.in-Some.is in
    g.0

-- same_members
pub same_members-overflow_add-near : goal.same_members-overflow_add-near
same_members-overflow_add-near t c =
    let g = turn_between c.requires.accepted c.requires.both c.first_child-a.ensures c.first_child-b.ensures c.child_count-count.ensures c.child_count-many.ensures c.loop-k-test.true c.partner-found.ensures c.in-Some.is in
    omega (arith, g.0, g.1)

-- same_members
pub same_members-loop-k-preserved : goal.same_members-loop-k-preserved
same_members-loop-k-preserved t c =
    let w = turn_found c.requires.accepted c.requires.both c.first_child-a.ensures c.first_child-b.ensures c.child_count-count.ensures c.child_count-many.ensures c.loop-k-test.true c.partner-found.ensures c.in-Some.is
    (at_nodes c.args.table.now c.args.text.now c.args.pool.now _ _ _ _ c.get_value-x.ensures c.get_value-y.ensures _ c.same_values.ensures) in
    (members_step c.args.table.now c.args.text.now _ _ _ _ c.loop-k.k c.loop-k-test.true _ w (not_left _ (ap not c.if-not-same_values.false)) c.loop-k.invariant.0, omega arith)

-- same_members
pub same_members-returns : goal.same_members-returns
same_members-returns t c =
    members_end c.args.table.now c.args.text.now _ _ _ _ c.loop-k.k c.loop-k-test.false c.loop-k.invariant.0
    ∙ members_are c.args.table.now c.args.text.now c.requires.accepted _ _ c.requires.both.0 _ _ (firsts c.requires.accepted c.requires.both c.first_child-a.ensures c.first_child-b.ensures c.child_count-count.ensures c.child_count-many.ensures)

-- same_nodes
pub same_nodes-kind-k-requires : goal.same_nodes-kind-k-requires
same_nodes-kind-k-requires t c = c.requires.both.first

-- same_nodes
pub same_nodes-kind-requires : goal.same_nodes-kind-requires
same_nodes-kind-requires t c = c.requires.both.second

-- same_nodes
pub same_nodes-returns-then-k-kind : goal.same_nodes-returns-then-k-kind
same_nodes-returns-then-k-kind t c = kinds_differ c.args.table.now c.args.text.now c.requires.accepted _ _ c.requires.both (omega (arith, c.kind-k.ensures, c.kind.ensures, c.if-k-kind.true))

-- same_nodes
pub same_nodes-child_count-requires : goal.same_nodes-child_count-requires
same_nodes-child_count-requires t c = c.requires.both.first

-- same_nodes
pub same_nodes-child_count-requires-2 : goal.same_nodes-child_count-requires-2
same_nodes-child_count-requires-2 t c = c.requires.both.second

-- same_nodes
pub same_nodes-returns-then-child_count : goal.same_nodes-returns-then-child_count
same_nodes-returns-then-child_count t c = counts_differ c.args.table.now c.args.text.now c.requires.accepted _ _ c.requires.both (omega (arith, c.kind-k.ensures, c.kind.ensures, c.if-k-kind.false)) (omega (arith, c.child_count.ensures, c.child_count-2.ensures, c.if-child_count.true))

-- same_nodes
pub same_nodes-same_elements-requires : goal.same_nodes-same_elements-requires
same_nodes-same_elements-requires t c = (omega (arith, c.decreases), (c.requires.accepted, (c.requires.both, omega (arith, c.child_count.ensures, c.child_count-2.ensures, c.if-child_count.false))))

-- same_nodes
pub same_nodes-returns-then-k-eq-KIND_LIST : goal.same_nodes-returns-then-k-eq-KIND_LIST
same_nodes-returns-then-k-eq-KIND_LIST t c = c.same_elements.ensures ∙ lists_same c.args.table.now c.args.text.now c.requires.accepted _ _ c.requires.both (omega (arith, c.kind-k.ensures, c.if-k-eq-KIND_LIST.true)) (omega (arith, c.kind-k.ensures, c.kind.ensures, c.if-k-kind.false, c.if-k-eq-KIND_LIST.true))

-- same_nodes
pub same_nodes-same_members-requires : goal.same_nodes-same_members-requires
same_nodes-same_members-requires t c = let m = map_else c.args.table.now c.args.text.now c.requires.accepted _ _ c.requires.both (λ e. c.if-k-eq-KIND_LIST.false (c.kind-k.ensures ∙ e)) in (omega (arith, c.decreases), (c.requires.accepted, (c.requires.both, m, omega (arith, c.kind-k.ensures, c.kind.ensures, c.if-k-kind.false))))

-- same_nodes
pub same_nodes-returns : goal.same_nodes-returns
same_nodes-returns t c = let m = map_else c.args.table.now c.args.text.now c.requires.accepted _ _ c.requires.both (λ e. c.if-k-eq-KIND_LIST.false (c.kind-k.ensures ∙ e)) in c.same_members.ensures ∙ maps_same c.args.table.now c.args.text.now c.requires.accepted _ _ c.requires.both m (omega (arith, c.kind-k.ensures, c.kind.ensures, c.if-k-kind.false)) (omega (arith, c.child_count.ensures, c.child_count-2.ensures, c.if-child_count.false))

-- same_values
pub same_values-is_equal-requires : goal.same_values-is_equal-requires
same_values-is_equal-requires t c = ranked_of c.args.table.now c.args.text.now c.args.pool.now c.requires.accepted c.args.x c.args.y c.requires.pair

-- same_values
pub same_values-returns-then-is_ranked : goal.same_values-returns-then-is_ranked
same_values-returns-then-is_ranked t c = with_ranked c.args.table.now c.args.text.now c.args.pool.now c.requires.accepted c.args.x c.args.y c.requires.pair _ c.is_ranked.ensures c.if-is_ranked.true _ c.is_equal.ensures

-- same_values
pub same_values-same_nodes-requires : goal.same_values-same_nodes-requires
same_values-same_nodes-requires t c = (node_height c.args.table.now c.args.text.now c.args.pool.now c.requires.accepted c.args.x c.args.y c.requires.pair _ _ c.in-Node.is c.decreases, (c.requires.accepted, with_node c.args.table.now c.args.text.now c.args.pool.now c.requires.accepted c.args.x c.args.y c.requires.pair _ _ c.in-Node.is _ c.as_node.ensures c.in-Some.is))

-- same_values
pub same_values-returns-in-Nothing : goal.same_values-returns-in-Nothing
same_values-returns-in-Nothing t c = with_nothing c.args.table.now c.args.text.now c.args.pool.now c.requires.accepted c.args.x c.args.y c.requires.pair c.in-Nothing.is

-- same_values
pub same_values-returns-in-Null : goal.same_values-returns-in-Null
same_values-returns-in-Null t c = with_null c.args.table.now c.args.text.now c.args.pool.now c.requires.accepted c.args.x c.args.y c.requires.pair c.in-Null.is _ c.is_null.ensures

-- same_values
pub same_values-returns-in-Bool : goal.same_values-returns-in-Bool
same_values-returns-in-Bool t c = with_bool c.args.table.now c.args.text.now c.args.pool.now c.requires.accepted c.args.x c.args.y c.requires.pair _ c.in-Bool.is _ c.is_bool.ensures

-- same_values
pub same_values-returns-in-Int : goal.same_values-returns-in-Int
same_values-returns-in-Int t c = absurd (not_ranked c.args.table.now c.args.text.now c.args.pool.now c.requires.accepted c.args.x c.args.y c.requires.pair _ c.is_ranked.ensures c.if-is_ranked.false _ c.in-Int.is refl)

-- same_values
pub same_values-returns-in-Float : goal.same_values-returns-in-Float
same_values-returns-in-Float t c = absurd (not_ranked c.args.table.now c.args.text.now c.args.pool.now c.requires.accepted c.args.x c.args.y c.requires.pair _ c.is_ranked.ensures c.if-is_ranked.false _ c.in-Float.is refl)

-- same_values
pub same_values-returns-in-Pool : goal.same_values-returns-in-Pool
same_values-returns-in-Pool t c = absurd (not_ranked c.args.table.now c.args.text.now c.args.pool.now c.requires.accepted c.args.x c.args.y c.requires.pair _ c.is_ranked.ensures c.if-is_ranked.false _ c.in-Pool.is refl)

-- same_values
pub same_values-returns-in-Text : goal.same_values-returns-in-Text
same_values-returns-in-Text t c = absurd (not_ranked c.args.table.now c.args.text.now c.args.pool.now c.requires.accepted c.args.x c.args.y c.requires.pair _ c.is_ranked.ensures c.if-is_ranked.false _ c.in-Text.is refl)

-- same_values
pub same_values-returns-in-Some : goal.same_values-returns-in-Some
same_values-returns-in-Some t c = node_node c.args.table.now c.args.text.now c.args.pool.now c.requires.accepted c.args.x c.args.y c.requires.pair _ _ c.in-Node.is _ c.as_node.ensures c.in-Some.is _ c.same_nodes.ensures

-- same_values
pub same_values-returns-in-None : goal.same_values-returns-in-None
same_values-returns-in-None t c = node_else c.args.table.now c.args.text.now c.args.pool.now c.requires.accepted c.args.x c.args.y c.requires.pair _ c.in-Node.is _ c.as_node.ensures c.in-None.is
