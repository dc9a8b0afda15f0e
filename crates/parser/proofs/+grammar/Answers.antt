-- The answers of the cycle of calls {all, any, call-argument, call-arguments, basic, behind, bracketed, call-chained, filter, call-function, call-more, more_and, more_or, negation, operand, paren, query, right, segment, segments, selector, selectors}.
use lib.ListN.{length}
use Rattle.std.proofs.lemmas.Result.{err_from_is_err_and}
use borrow.Author.Rules.{rules}
use native.Mathlib.Omega.{arith}
use Rattle.compile_writes.specs.Sorts.{sort_basic, sort_and_lem, sort_argument}
use Rattle.parser_scan.specs.Text.{number_of_function}
use Rattle.parser_items.specs.Reads.{stop, next, sort_of}
use Rattle.parser_items.specs.Laws.{read_of, none_of, whole, asks_whole, post_whole, operator_of_lem, no_operator_of, loose_of, loose_none_of, done_plan, done_pool, asks_less, word_of, no_word_of}
use Rattle.parser_laws.specs.And.{and_none}
use Rattle.parser.proofs.Logic.{asks_operator as asks_operator_logic, read_known, read_small, asks_operand, and_post, asks_chain, or_post, room, arguments_small, small_known, asks_tailed, ready, ready_plan, ready_less, framed_place, framed_order, framed_length, framed_room, and_loop, and_end, and_stop, and_behind, and_framed, and_more, or_loop, or_end, or_stop, or_behind, or_framed, or_more, opens_is}
use Rattle.parser_laws.specs.Or.{or_none}
use Rattle.parser.proofs.Chains.{argument_at_logical, argument_no_operand, argument_at_literal, argument_by_flag, argument_by_operator, argument_at_chain, chained_end, chained_no_behind, chained_no_and, asks_chained, chained_then}
use Rattle.parser.proofs.Operands.{asks_operand as asks_operand_there, asks_call as asks_call_there, known_operand, asks_byte, opens, told_behind, asks_behind, known_paren, operand_room, paren_room, word_room, operand_at_current, operand_at_root, operand_at_call, operand_at_keyword, operand_at_constant, told_segments, segments_room, query_none, query_read}
use borrow.Author.Tests.{not-true, not-false}
use mathlib.Core.Path.{refl, ap, sym, ◌∙◌}
use lib.Dec.{lit≤, lit<}
use Rattle.parser_laws.specs.Arguments.{arguments_none}
use Rattle.parser.proofs.Enclosed.{arguments_nothing, asks_argument, arguments_post, call_stop, call_start, call_unclosed, asks_call, call_closed, arguments_loop, arguments_last, asks_comma, arguments_stop, arguments_more, arguments_less, asks_paren, paren_stop, paren_unclosed, paren_closed}
use Rattle.parser.proofs.Basics.{basic_at_paren, basic_at_negation, basic_no_operand, basic_at_operand, asks_operator, behind_a_literal, behind_nothing, behind_not_compared, behind_by_operator, negation_at_paren, negation_no_paren, negation_no_operand, negation_of_literal, negation_at_operand, right_none, right_not_compared, right_read}
use Rattle.parser.proofs.Lists.{brackets_none, brackets_room, brackets_begin, brackets_stop, brackets_more, brackets_stop_more, brackets_few, brackets_plan, brackets_pool, brackets_written, brackets_open, brackets_length, brackets_read, selectors_start, selectors_over, selectors_begin, selectors_stop, selectors_again}
use Rattle.parser.proofs.Picks.{filter_begin, filter_stop, filter_room, filter_known, filter_longer, filter_length, filter_read, asks_both, segment_by_dots_brackets, segment_by_dots, segment_by_dot, segment_by_brackets, segments_start, segments_over, segments_begin, segments_stop, segments_again, segment_long, selector_by_filter, selector_by_plain}
use Rattle.parser.proofs.Steps.{asks_skipped, asks_put}
use mathlib.Core.Bool.{not}
use Rattle.parser.proofs.+grammar.Goals as goal
use Rattle.parser.proofs.+grammar.Goals.{call::argument-then-flag-eq0+else-not-begins_operator, call::argument-else-flag-eq0}

-- all
pub all-basic-requires : goal.all-basic-requires
all-basic-requires t c = (omega (arith, c.decreases), c.requires)

-- all
pub all-returns-in_err-n : goal.all-returns-in_err-n
all-returns-in_err-n t c = rw (err_from_is_err_and c.from_residual.result c.from_residual.ensures.1).1 (stop (and_none c.args.asked (none_of c.basic.ensures c.in_err-n.was)))

-- all
pub all-compared-requires : goal.all-compared-requires
all-compared-requires t c = read_known sort_basic (read_of c.basic.ensures c.in_ok-n.was)

-- all
pub all-more_and-requires : goal.all-more_and-requires
all-more_and-requires t c =
    let h = read_of c.basic.ensures c.in_ok-n.was in
    (omega (arith, h.from, c.judged.ensures.place.0, c.decreases), (asks_operand h c.requires c.judged.ensures.place, read_small sort_basic h))

-- all
pub all-returns : goal.all-returns
all-returns t c = and_post (read_of c.basic.ensures c.in_ok-n.was) c.args.asked c.compared.ensures c.judged.ensures.place c.judged.ensures.marks c.more_and.ensures

-- any
pub any-all-requires : goal.any-all-requires
any-all-requires t c = (omega (arith, c.decreases), c.requires)

-- any
pub any-returns-in_err-n : goal.any-returns-in_err-n
any-returns-in_err-n t c = rw (err_from_is_err_and c.from_residual.result c.from_residual.ensures.1).1 (stop (or_none (none_of c.all.ensures c.in_err-n.was)))

-- any
pub any-more_or-requires : goal.any-more_or-requires
any-more_or-requires t c =
    let h = read_of c.all.ensures c.in_ok-n.was in
    (omega (arith, h.from, c.decreases), (asks_chain c.args.asked h c.requires, read_small sort_and_lem h))

-- any
pub any-returns : goal.any-returns
any-returns t c = or_post c.args.asked (read_of c.all.ensures c.in_ok-n.was) c.more_or.ensures

-- call-argument
pub call::argument-any-requires : goal.call::argument-any-requires
call::argument-any-requires t c = (omega (arith, ap length (whole c.args.s.now), c.decreases), asks_whole (whole _) c.requires)

-- call-argument
pub call::argument-returns-then-is : goal.call::argument-returns-then-is
call::argument-returns-then-is t c = argument_at_logical refl (rw c.if-is.true at c.is.ensures) (post_whole (whole _) c.any.ensures)

-- call-argument
pub call::argument-any-requires-then-is-2 : goal.call::argument-any-requires-then-is-2
call::argument-any-requires-then-is-2 t c = (omega (arith, ap length (whole c.args.s.now), c.decreases), asks_whole (whole _) c.requires)

-- call-argument
pub call::argument-returns-then-is-2 : goal.call::argument-returns-then-is-2
call::argument-returns-then-is-2 t c = argument_at_logical refl (rw c.if-is-2.true at c.is-2.ensures) (post_whole (whole _) c.any-then-is-2.ensures)

-- call-argument
pub call::argument-operand-requires : goal.call::argument-operand-requires
call::argument-operand-requires t c = (omega (arith, ap length (whole c.args.s.now), c.decreases), asks_whole (whole _) c.requires)

-- call-argument
pub call::argument-returns-in_err-n : goal.call::argument-returns-in_err-n
call::argument-returns-in_err-n t c = rw (err_from_is_err_and c.from_residual.result c.from_residual.ensures.1).1 (argument_no_operand (rw c.if-is.false at c.is.ensures) (rw c.if-is-2.false at c.is-2.ensures) (none_of (post_whole (whole _) c.operand.ensures) c.in_err-n.was))

-- call-argument
pub call::argument-skip_blanks-a-requires : goal.call::argument-skip_blanks-a-requires
call::argument-skip_blanks-a-requires t c = (read_of (post_whole (whole c.args.s.now) c.operand.ensures) c.in_ok-n.was).to

-- call-argument
pub call::argument-returns-then-not-begins_operator : goal.call::argument-returns-then-not-begins_operator
call::argument-returns-then-not-begins_operator t c = next (argument_at_literal (rw c.if-is.false at c.is.ensures) (rw c.if-is-2.false at c.is-2.ensures) (read_of (post_whole (whole _) c.operand.ensures) c.in_ok-n.was) c.if-flag-eq0.true c.skip_blanks-a.ensures (rw (not-true c.begins_operator.result (ap not c.if-not-begins_operator.true)) at c.begins_operator.ensures))

-- call-argument
pub call::argument-chained-requires : goal.call::argument-chained-requires
call::argument-chained-requires t c =
    let h = read_of (post_whole (whole c.args.s.now) c.operand.ensures) c.in_ok-n.was in
    (omega (arith, ap length (whole c.args.s.now), c.decreases, h.from), (asks_whole (whole _) (asks_operand_there c.requires h), known_operand h))

-- call-argument
pub call::argument-returns : goal.call::argument-returns
call::argument-returns t c =
    let u = rw c.if-is.false at c.is.ensures in
    let v = rw c.if-is-2.false at c.is-2.ensures in
    let h = read_of (post_whole (whole _) c.operand.ensures) c.in_ok-n.was in
    argument_at_chain u v h (elim c.if-flag-eq0.branch [ call::argument-then-flag-eq0+else-not-begins_operator w ↦ argument_by_operator u v h w.skip_blanks-a.ensures (rw w.if-not-begins_operator.false at w.begins_operator.ensures) | call::argument-else-flag-eq0 w ↦ argument_by_flag u v h w.if-flag-eq0.false ]) (post_whole (whole _) c.chained.ensures)

-- call-arguments
pub call::arguments-returns-then-is : goal.call::arguments-returns-then-is
call::arguments-returns-then-is t c = next (arguments_nothing c.requires.0 (rw c.if-is.true at c.is.ensures))

-- call-arguments
pub call::arguments-argument-requires : goal.call::arguments-argument-requires
call::arguments-argument-requires t c = (omega (arith, c.decreases), c.requires.0)

-- call-arguments
pub call::arguments-returns-in_err-n : goal.call::arguments-returns-in_err-n
call::arguments-returns-in_err-n t c = rw (err_from_is_err_and c.from_residual.result c.from_residual.ensures.1).1 (stop (arguments_none c.requires.1 (none_of c.argument.ensures c.in_err-n.was) (rw c.if-is.false at c.is.ensures)))

-- call-arguments
pub call::arguments-one_more-requires : goal.call::arguments-one_more-requires
call::arguments-one_more-requires t c = (lit≤ tt, read_small sort_argument (read_of c.argument.ensures c.in_ok-n.was))

-- call-arguments
pub call::arguments-more-requires : goal.call::arguments-more-requires
call::arguments-more-requires t c =
    let h = read_of c.argument.ensures c.in_ok-n.was in
    (omega (arith, h.from, c.decreases), (asks_argument h c.requires.0, c.one_more.ensures.1))

-- call-arguments
pub call::arguments-returns : goal.call::arguments-returns
call::arguments-returns t c = arguments_post (read_of c.argument.ensures c.in_ok-n.was) c.one_more.ensures c.more.ensures

-- basic
pub basic-paren-requires : goal.basic-paren-requires
basic-paren-requires t c = (omega (arith, c.decreases), (c.requires, opens (rw c.if-is.true at c.is.ensures) refl))

-- basic
pub basic-returns-then-is : goal.basic-returns-then-is
basic-returns-then-is t c = basic_at_paren (rw c.if-is.true at c.is.ensures) c.paren.ensures

-- basic
pub basic-negation-requires : goal.basic-negation-requires
basic-negation-requires t c =
    let i = rw c.if-is-2.true at c.is-2.ensures in
    (omega (arith, c.decreases, i.0, c.moved.ensures.place), asks_byte c.requires (omega arith) i (c.moved.ensures.place, (c.moved.ensures.lengths, c.moved.ensures.marks)) (omega arith))

-- basic
pub basic-returns-then-is-2 : goal.basic-returns-then-is-2
basic-returns-then-is-2 t c = basic_at_negation (rw c.if-is-2.true at c.is-2.ensures) (c.moved.ensures.place, (c.moved.ensures.lengths, c.moved.ensures.marks)) c.negation.ensures

-- basic
pub basic-operand-requires : goal.basic-operand-requires
basic-operand-requires t c = (omega (arith, c.decreases), c.requires)

-- basic
pub basic-returns-in_err-n : goal.basic-returns-in_err-n
basic-returns-in_err-n t c = rw (err_from_is_err_and c.from_residual.result c.from_residual.ensures.1).1 (basic_no_operand (rw c.if-is.false at c.is.ensures) (rw c.if-is-2.false at c.is-2.ensures) (none_of c.operand.ensures c.in_err-n.was))

-- basic
pub basic-behind-requires : goal.basic-behind-requires
basic-behind-requires t c =
    let h = read_of c.operand.ensures c.in_ok-n.was in
    (omega (arith, c.decreases, h.from), (asks_operand_there c.requires h, known_operand h))

-- basic
pub basic-returns : goal.basic-returns
basic-returns t c = basic_at_operand (rw c.if-is.false at c.is.ensures) (rw c.if-is-2.false at c.is-2.ensures) (read_of c.operand.ensures c.in_ok-n.was) c.behind.ensures

-- behind
pub behind-returns-then-flag-eq0 : goal.behind-returns-then-flag-eq0
behind-returns-then-flag-eq0 t c = behind_a_literal c.args.flag c.skip_blanks-a.ensures (no_operator_of c.read_operator.ensures c.in-None.is) c.if-flag-eq0.true

-- behind
pub behind-returns-then-not-comparable : goal.behind-returns-then-not-comparable
behind-returns-then-not-comparable t c = behind_not_compared c.args.flag c.skip_blanks-a.ensures (operator_of_lem c.read_operator.ensures c.in-Some.is) (sym c.comparable.ensures ∙ not-true c.comparable.result (ap not c.if-not-comparable.true))

-- behind
pub behind-right-requires : goal.behind-right-requires
behind-right-requires t c =
    let w = operator_of_lem c.read_operator.ensures c.in-Some.is in
    (omega (arith, c.decreases, c.skip_blanks-a.ensures.from, w.from, c.moved.ensures.place), (asks_operator c.requires.0 c.skip_blanks-a.ensures w (c.moved.ensures.place, (c.moved.ensures.lengths, c.moved.ensures.marks)), record { small = omega (arith, c.plain_sort-in-Some.ensures.1) }))

-- behind
pub behind-returns-else-flag-eq0 : goal.behind-returns-else-flag-eq0
behind-returns-else-flag-eq0 t c = next (behind_nothing c.args.flag c.skip_blanks-a.ensures (no_operator_of c.read_operator.ensures c.in-None.is) c.requires.0 c.if-flag-eq0.false c.plain_sort.ensures.0)

-- behind
pub behind-returns-else-not-comparable : goal.behind-returns-else-not-comparable
behind-returns-else-not-comparable t c = behind_by_operator c.args.flag c.skip_blanks-a.ensures (operator_of_lem c.read_operator.ensures c.in-Some.is) (c.moved.ensures.place, (c.moved.ensures.lengths, c.moved.ensures.marks)) (sym c.comparable.ensures ∙ not-false c.comparable.result (ap not c.if-not-comparable.false)) c.plain_sort-in-Some.ensures.0 c.right.ensures

-- bracketed
pub bracketed-returns-then-not-is : goal.bracketed-returns-then-not-is
bracketed-returns-then-not-is t c = brackets_none c.args.kind (rw (not-true c.is.result (ap not c.if-not-is.true)) at c.is.ensures)

-- bracketed
pub bracketed-skip_blanks-a-requires : goal.bracketed-skip_blanks-a-requires
bracketed-skip_blanks-a-requires t c = (rw (not-false c.is.result (ap not c.if-not-is.false)) at c.is.ensures).0

-- bracketed
pub bracketed-opened-head-requires : goal.bracketed-opened-head-requires
bracketed-opened-head-requires t c = omega (arith, (brackets_room c.args.kind c.requires (rw (not-false c.is.result (ap not c.if-not-is.false)) at c.is.ensures) c.skip_blanks-a.ensures (c.moved.ensures.place, (c.moved.ensures.lengths, c.moved.ensures.marks))).plan)

-- bracketed
pub bracketed-selector-requires : goal.bracketed-selector-requires
bracketed-selector-requires t c = (omega (arith, c.decreases, (rw (not-false c.is.result (ap not c.if-not-is.false)) at c.is.ensures).0, c.skip_blanks-a.ensures.from, c.skip_blanks-a.ensures.to, c.moved.ensures.place, c.opened-head.ensures.at), brackets_begin c.args.kind c.requires (rw (not-false c.is.result (ap not c.if-not-is.false)) at c.is.ensures) c.skip_blanks-a.ensures (c.moved.ensures.place, (c.moved.ensures.lengths, c.moved.ensures.marks)) c.opened-head.ensures)

-- bracketed
pub bracketed-returns-in_err-n : goal.bracketed-returns-in_err-n
bracketed-returns-in_err-n t c = rw (err_from_is_err_and c.from_residual.result c.from_residual.ensures.1).1 (brackets_stop c.args.kind c.requires (rw (not-false c.is.result (ap not c.if-not-is.false)) at c.is.ensures) c.skip_blanks-a.ensures (c.moved.ensures.place, (c.moved.ensures.lengths, c.moved.ensures.marks)) c.opened-head.ensures (loose_none_of c.selector.ensures c.in_err-n.was))

-- bracketed
pub bracketed-selectors-requires : goal.bracketed-selectors-requires
bracketed-selectors-requires t c = (omega (arith, c.decreases, (rw (not-false c.is.result (ap not c.if-not-is.false)) at c.is.ensures).0, c.skip_blanks-a.ensures.from, c.skip_blanks-a.ensures.to, c.moved.ensures.place, c.opened-head.ensures.at, (loose_of c.selector.ensures c.in_ok-n.was).from, (loose_of c.selector.ensures c.in_ok-n.was).to), brackets_more c.args.kind c.requires (rw (not-false c.is.result (ap not c.if-not-is.false)) at c.is.ensures) c.skip_blanks-a.ensures (c.moved.ensures.place, (c.moved.ensures.lengths, c.moved.ensures.marks)) c.opened-head.ensures (loose_of c.selector.ensures c.in_ok-n.was))

-- bracketed
pub bracketed-returns-in_err-m : goal.bracketed-returns-in_err-m
bracketed-returns-in_err-m t c = rw (err_from_is_err_and c.from_residual-in_err-m.result c.from_residual-in_err-m.ensures.1).1 (brackets_stop_more c.args.kind c.requires (rw (not-false c.is.result (ap not c.if-not-is.false)) at c.is.ensures) c.skip_blanks-a.ensures (c.moved.ensures.place, (c.moved.ensures.lengths, c.moved.ensures.marks)) c.opened-head.ensures (loose_of c.selector.ensures c.in_ok-n.was) (loose_none_of c.selectors.ensures c.in_err-m.was))

-- bracketed
pub bracketed-skip_blanks-e-requires : goal.bracketed-skip_blanks-e-requires
bracketed-skip_blanks-e-requires t c = (loose_of c.selectors.ensures c.in_ok-m.was).to

-- bracketed
pub bracketed-shape_of-plan-then-not-is-2 : goal.bracketed-shape_of-plan-then-not-is-2
bracketed-shape_of-plan-then-not-is-2 t c = brackets_plan c.args.kind c.requires (rw (not-false c.is.result (ap not c.if-not-is.false)) at c.is.ensures) c.skip_blanks-a.ensures (c.moved.ensures.place, (c.moved.ensures.lengths, c.moved.ensures.marks)) c.opened-head.ensures (loose_of c.selector.ensures c.in_ok-n.was) (loose_of c.selectors.ensures c.in_ok-m.was)

-- bracketed
pub bracketed-shape_of-pool-then-not-is-2 : goal.bracketed-shape_of-pool-then-not-is-2
bracketed-shape_of-pool-then-not-is-2 t c = brackets_pool c.args.kind c.requires (rw (not-false c.is.result (ap not c.if-not-is.false)) at c.is.ensures) c.skip_blanks-a.ensures (c.moved.ensures.place, (c.moved.ensures.lengths, c.moved.ensures.marks)) c.opened-head.ensures (loose_of c.selector.ensures c.in_ok-n.was) (loose_of c.selectors.ensures c.in_ok-m.was)

-- bracketed
pub bracketed-returns-then-not-is-2 : goal.bracketed-returns-then-not-is-2
bracketed-returns-then-not-is-2 t c = brackets_open c.args.kind c.requires (rw (not-false c.is.result (ap not c.if-not-is.false)) at c.is.ensures) c.skip_blanks-a.ensures (c.moved.ensures.place, (c.moved.ensures.lengths, c.moved.ensures.marks)) c.opened-head.ensures (loose_of c.selector.ensures c.in_ok-n.was) (loose_of c.selectors.ensures c.in_ok-m.was) c.skip_blanks-e.ensures (rw (not-true c.is-2.result (ap not c.if-not-is-2.true)) at c.is-2.ensures)

-- bracketed
pub bracketed-overflow_add-len : goal.bracketed-overflow_add-len
bracketed-overflow_add-len t c = omega (arith, c.requires.plan, c.requires.small)

-- bracketed
pub bracketed-overflow_add-count : goal.bracketed-overflow_add-count
bracketed-overflow_add-count t c = omega (arith, c.well_formed.0, brackets_few c.args.kind c.requires (rw (not-false c.is.result (ap not c.if-not-is.false)) at c.is.ensures) c.skip_blanks-a.ensures (c.moved.ensures.place, (c.moved.ensures.lengths, c.moved.ensures.marks)) c.opened-head.ensures (loose_of c.selector.ensures c.in_ok-n.was) (loose_of c.selectors.ensures c.in_ok-m.was), c.skip_blanks-a.ensures.from, c.moved.ensures.place, c.opened-head.ensures.at, (loose_of c.selector.ensures c.in_ok-n.was).from, (loose_of c.selectors.ensures c.in_ok-m.was).to)

-- bracketed
pub bracketed-put16-requires : goal.bracketed-put16-requires
bracketed-put16-requires t c = omega (arith, brackets_length c.args.kind c.requires (rw (not-false c.is.result (ap not c.if-not-is.false)) at c.is.ensures) c.skip_blanks-a.ensures (c.moved.ensures.place, (c.moved.ensures.lengths, c.moved.ensures.marks)) c.opened-head.ensures (loose_of c.selector.ensures c.in_ok-n.was) (loose_of c.selectors.ensures c.in_ok-m.was) c.skip_blanks-e.ensures)

-- bracketed
pub bracketed-overflow_add-e : goal.bracketed-overflow_add-e
bracketed-overflow_add-e t c = omega (arith, c.well_formed.0, (rw (not-false c.is-2.result (ap not c.if-not-is-2.false)) at c.is-2.ensures).0)

-- bracketed
pub bracketed-overflow_add-at-2 : goal.bracketed-overflow_add-at-2
bracketed-overflow_add-at-2 t c = omega (arith, c.well_formed.0, (rw (not-false c.is.result (ap not c.if-not-is.false)) at c.is.ensures).0)

-- bracketed
pub bracketed-shape_of-plan : goal.bracketed-shape_of-plan
bracketed-shape_of-plan t c = brackets_written c.args.kind c.requires (rw (not-false c.is.result (ap not c.if-not-is.false)) at c.is.ensures) c.skip_blanks-a.ensures (c.moved.ensures.place, (c.moved.ensures.lengths, c.moved.ensures.marks)) c.opened-head.ensures (loose_of c.selector.ensures c.in_ok-n.was) (loose_of c.selectors.ensures c.in_ok-m.was) c.put16.ensures

-- bracketed
pub bracketed-shape_of-pool : goal.bracketed-shape_of-pool
bracketed-shape_of-pool t c = brackets_pool c.args.kind c.requires (rw (not-false c.is.result (ap not c.if-not-is.false)) at c.is.ensures) c.skip_blanks-a.ensures (c.moved.ensures.place, (c.moved.ensures.lengths, c.moved.ensures.marks)) c.opened-head.ensures (loose_of c.selector.ensures c.in_ok-n.was) (loose_of c.selectors.ensures c.in_ok-m.was)

-- bracketed
pub bracketed-returns : goal.bracketed-returns
bracketed-returns t c = brackets_read c.args.kind c.requires (rw (not-false c.is.result (ap not c.if-not-is.false)) at c.is.ensures) c.skip_blanks-a.ensures (c.moved.ensures.place, (c.moved.ensures.lengths, c.moved.ensures.marks)) c.opened-head.ensures (loose_of c.selector.ensures c.in_ok-n.was) (loose_of c.selectors.ensures c.in_ok-m.was) c.skip_blanks-e.ensures (rw (not-false c.is-2.result (ap not c.if-not-is-2.false)) at c.is-2.ensures) c.put16.ensures (c.moved-2.ensures.place, (c.moved-2.ensures.lengths, c.moved-2.ensures.marks)) c.brackets_flag.ensures

-- call-chained
pub call::chained-returns-then-is : goal.call::chained-returns-then-is
call::chained-returns-then-is t c = chained_end c.requires.0 c.if-flag-ne0.true c.skip_blanks-a.ensures (rw c.if-is.true at c.is.ensures) c.plain_sort.ensures

-- call-chained
pub call::chained-behind-requires : goal.call::chained-behind-requires
call::chained-behind-requires t c = (omega (arith, c.decreases), c.requires)

-- call-chained
pub call::chained-returns-in_err-n : goal.call::chained-returns-in_err-n
call::chained-returns-in_err-n t c = rw (err_from_is_err_and c.from_residual.result c.from_residual.ensures.1).1 (chained_no_behind c.args.flag (none_of c.behind.ensures c.in_err-n.was))

-- call-chained
pub call::chained-more_and-requires : goal.call::chained-more_and-requires
call::chained-more_and-requires t c =
    let h = read_of c.behind.ensures c.in_ok-n.was in
    (omega (arith, c.decreases, h.from), (asks_behind c.requires.0 h, told_behind h))

-- call-chained
pub call::chained-returns-in_err-m : goal.call::chained-returns-in_err-m
call::chained-returns-in_err-m t c = rw (err_from_is_err_and c.from_residual-in_err-m.result c.from_residual-in_err-m.ensures.1).1 (chained_no_and (read_of c.behind.ensures c.in_ok-n.was) (none_of c.more_and.ensures c.in_err-m.was))

-- call-chained
pub call::chained-more_or-requires : goal.call::chained-more_or-requires
call::chained-more_or-requires t c =
    let h = read_of c.behind.ensures c.in_ok-n.was in
    let g = read_of c.more_and.ensures c.in_ok-m.was in
    (omega (arith, c.decreases, h.from, g.from), asks_chained h g c.requires.0)

-- call-chained
pub call::chained-returns : goal.call::chained-returns
call::chained-returns t c = chained_then (read_of c.behind.ensures c.in_ok-n.was) (read_of c.more_and.ensures c.in_ok-m.was) c.more_or.ensures

-- filter
pub filter-any-requires : goal.filter-any-requires
filter-any-requires t c = (omega (arith, c.decreases, c.skip_blanks-a.ensures.from, c.moved.ensures.place, c.opened-head.ensures.at), filter_begin c.requires c.skip_blanks-a.ensures (c.moved.ensures.place, (c.moved.ensures.lengths, c.moved.ensures.marks)) c.opened-head.ensures)

-- filter
pub filter-returns-in_err-n : goal.filter-returns-in_err-n
filter-returns-in_err-n t c = rw (err_from_is_err_and c.from_residual.result c.from_residual.ensures.1).1 (filter_stop c.requires c.skip_blanks-a.ensures (c.moved.ensures.place, (c.moved.ensures.lengths, c.moved.ensures.marks)) c.opened-head.ensures (none_of c.any.ensures c.in_err-n.was))

-- filter
pub filter-test_tail-m-requires : goal.filter-test_tail-m-requires
filter-test_tail-m-requires t c = (omega (arith, (filter_room c.requires c.skip_blanks-a.ensures (c.moved.ensures.place, (c.moved.ensures.lengths, c.moved.ensures.marks)) c.opened-head.ensures (read_of c.any.ensures c.in_ok-n.was)).plan), filter_known c.requires c.skip_blanks-a.ensures (c.moved.ensures.place, (c.moved.ensures.lengths, c.moved.ensures.marks)) c.opened-head.ensures (read_of c.any.ensures c.in_ok-n.was))

-- filter
pub filter-overflow_add-len : goal.filter-overflow_add-len
filter-overflow_add-len t c = omega (arith, c.requires.plan, c.requires.small)

-- filter
pub filter-overflow_sub-out : goal.filter-overflow_sub-out
filter-overflow_sub-out t c = omega (arith, filter_longer c.requires c.skip_blanks-a.ensures (c.moved.ensures.place, (c.moved.ensures.lengths, c.moved.ensures.marks)) c.opened-head.ensures (read_of c.any.ensures c.in_ok-n.was) c.test_tail-m.ensures)

-- filter
pub filter-overflow_sub-out-2 : goal.filter-overflow_sub-out-2
filter-overflow_sub-out-2 t c = omega (arith, filter_longer c.requires c.skip_blanks-a.ensures (c.moved.ensures.place, (c.moved.ensures.lengths, c.moved.ensures.marks)) c.opened-head.ensures (read_of c.any.ensures c.in_ok-n.was) c.test_tail-m.ensures)

-- filter
pub filter-put16-requires : goal.filter-put16-requires
filter-put16-requires t c = omega (arith, filter_longer c.requires c.skip_blanks-a.ensures (c.moved.ensures.place, (c.moved.ensures.lengths, c.moved.ensures.marks)) c.opened-head.ensures (read_of c.any.ensures c.in_ok-n.was) c.test_tail-m.ensures, filter_length c.requires c.skip_blanks-a.ensures (c.moved.ensures.place, (c.moved.ensures.lengths, c.moved.ensures.marks)) c.opened-head.ensures (read_of c.any.ensures c.in_ok-n.was) c.test_tail-m.ensures)

-- filter
pub filter-returns : goal.filter-returns
filter-returns t c = filter_read c.requires c.skip_blanks-a.ensures (c.moved.ensures.place, (c.moved.ensures.lengths, c.moved.ensures.marks)) c.opened-head.ensures (read_of c.any.ensures c.in_ok-n.was) c.test_tail-m.ensures c.put16.ensures

-- call-function
pub call::function-arguments-requires : goal.call::function-arguments-requires
call::function-arguments-requires t c = (omega (arith, c.skip_blanks-a.ensures.from, c.moved.ensures.place, c.decreases), (asks_skipped c.requires c.skip_blanks-a.ensures (c.moved.ensures.place, (c.moved.ensures.lengths, c.moved.ensures.marks)), call_start c.skip_blanks-a.ensures (c.moved.ensures.place, (c.moved.ensures.lengths, c.moved.ensures.marks))))

-- call-function
pub call::function-returns-in_err-n : goal.call::function-returns-in_err-n
call::function-returns-in_err-n t c = rw (err_from_is_err_and c.from_residual.result c.from_residual.ensures.1).1 (stop (call_stop c.skip_blanks-a.ensures (c.moved.ensures.place, (c.moved.ensures.lengths, c.moved.ensures.marks)) (none_of c.arguments.ensures c.in_err-n.was)))

-- call-function
pub call::function-skip_blanks-e-requires : goal.call::function-skip_blanks-e-requires
call::function-skip_blanks-e-requires t c = (read_of c.arguments.ensures c.in_ok-n.was).to

-- call-function
pub call::function-returns-then-not-is : goal.call::function-returns-then-not-is
call::function-returns-then-not-is t c = stop (call_unclosed c.skip_blanks-a.ensures (c.moved.ensures.place, (c.moved.ensures.lengths, c.moved.ensures.marks)) (number_of_function c.args.name) (read_of c.arguments.ensures c.in_ok-n.was) c.skip_blanks-e.ensures (rw (not-true c.is.result (ap not c.if-not-is.true)) at c.is.ensures))

-- call-function
pub call::function-overflow_add-e : goal.call::function-overflow_add-e
call::function-overflow_add-e t c = record { fits = omega (arith, (rw (not-false c.is.result (ap not c.if-not-is.false)) at c.is.ensures).0, c.well_formed.0) }

-- call-function
pub call::function-write_call-requires : goal.call::function-write_call-requires
call::function-write_call-requires t c =
    let h = read_of c.arguments.ensures c.in_ok-n.was in
    (room 1 (lit≤ tt) (asks_call c.skip_blanks-a.ensures (c.moved.ensures.place, (c.moved.ensures.lengths, c.moved.ensures.marks)) (number_of_function c.args.name) h c.skip_blanks-e.ensures c.requires (rw (not-false c.is.result (ap not c.if-not-is.false)) at c.is.ensures) (c.moved-2.ensures.place, (c.moved-2.ensures.lengths, c.moved-2.ensures.marks))), arguments_small h)

-- call-function
pub call::function-returns : goal.call::function-returns
call::function-returns t c = next (call_closed c.skip_blanks-a.ensures (c.moved.ensures.place, (c.moved.ensures.lengths, c.moved.ensures.marks)) (number_of_function c.args.name) (read_of c.arguments.ensures c.in_ok-n.was) c.skip_blanks-e.ensures (rw (not-false c.is.result (ap not c.if-not-is.false)) at c.is.ensures) (c.moved-2.ensures.place, (c.moved-2.ensures.lengths, c.moved-2.ensures.marks)) c.write_call.ensures c.call_sort.ensures)

-- call-more
pub call::more-loop-now-init : goal.call::more-loop-now-init
call::more-loop-now-init t c = arguments_loop c.args.sorts c.requires.1 c.requires.0

-- call-more
pub call::more-skip_blanks-a-requires : goal.call::more-skip_blanks-a-requires
call::more-skip_blanks-a-requires t c = c.loop-now.invariant.loop.start.text

-- call-more
pub call::more-shape_of-plan-then-not-is : goal.call::more-shape_of-plan-then-not-is
call::more-shape_of-plan-then-not-is t c = done_plan c.loop-now.invariant.loop.done

-- call-more
pub call::more-shape_of-pool-then-not-is : goal.call::more-shape_of-pool-then-not-is
call::more-shape_of-pool-then-not-is t c = done_pool c.loop-now.invariant.loop.done

-- call-more
pub call::more-returns-then-not-is : goal.call::more-returns-then-not-is
call::more-returns-then-not-is t c = next (arguments_last c.loop-now.invariant c.skip_blanks-a.ensures (rw (not-true c.is.result (ap not c.if-not-is.true)) at c.is.ensures))

-- call-more
pub call::more-skip_blanks-b-requires : goal.call::more-skip_blanks-b-requires
call::more-skip_blanks-b-requires t c = (rw (not-false c.is.result (ap not c.if-not-is.false)) at c.is.ensures).0

-- call-more
pub call::more-argument-requires : goal.call::more-argument-requires
call::more-argument-requires t c = (omega (arith, c.loop-now.invariant.loop.from, c.skip_blanks-a.ensures.from, c.skip_blanks-b.ensures.from, c.skip_blanks-b.ensures.to, c.moved.ensures.place, c.decreases), asks_comma c.loop-now.invariant c.skip_blanks-a.ensures (rw (not-false c.is.result (ap not c.if-not-is.false)) at c.is.ensures) c.skip_blanks-b.ensures (c.moved.ensures.place, (c.moved.ensures.lengths, c.moved.ensures.marks)))

-- call-more
pub call::more-shape_of-plan-in_err-n : goal.call::more-shape_of-plan-in_err-n
call::more-shape_of-plan-in_err-n t c = c.argument.auto.plan ∙ done_plan c.loop-now.invariant.loop.done

-- call-more
pub call::more-shape_of-pool-in_err-n : goal.call::more-shape_of-pool-in_err-n
call::more-shape_of-pool-in_err-n t c = c.argument.auto.pool ∙ done_pool c.loop-now.invariant.loop.done

-- call-more
pub call::more-returns-in_err-n : goal.call::more-returns-in_err-n
call::more-returns-in_err-n t c = rw (err_from_is_err_and c.from_residual.result c.from_residual.ensures.1).1 (stop (arguments_stop c.loop-now.invariant c.skip_blanks-a.ensures (rw (not-false c.is.result (ap not c.if-not-is.false)) at c.is.ensures) c.skip_blanks-b.ensures (c.moved.ensures.place, (c.moved.ensures.lengths, c.moved.ensures.marks)) (none_of c.argument.ensures c.in_err-n.was)))

-- call-more
pub call::more-one_more-known-requires : goal.call::more-one_more-known-requires
call::more-one_more-known-requires t c = (c.loop-now.invariant.small, read_small sort_argument (read_of c.argument.ensures c.in_ok-n.was))

-- call-more
pub call::more-loop-now-smaller : goal.call::more-loop-now-smaller
call::more-loop-now-smaller t c = arguments_less c.loop-now.invariant c.skip_blanks-a.ensures (rw (not-false c.is.result (ap not c.if-not-is.false)) at c.is.ensures) c.skip_blanks-b.ensures (c.moved.ensures.place, (c.moved.ensures.lengths, c.moved.ensures.marks)) (read_of c.argument.ensures c.in_ok-n.was)

-- call-more
pub call::more-loop-now-preserved : goal.call::more-loop-now-preserved
call::more-loop-now-preserved t c = arguments_more c.loop-now.invariant c.skip_blanks-a.ensures (rw (not-false c.is.result (ap not c.if-not-is.false)) at c.is.ensures) c.skip_blanks-b.ensures (c.moved.ensures.place, (c.moved.ensures.lengths, c.moved.ensures.marks)) (read_of c.argument.ensures c.in_ok-n.was) c.one_more-known.ensures

-- more_and
pub more_and-loop-now-init : goal.more_and-loop-now-init
more_and-loop-now-init t c = and_loop c.args.sort c.args.asked c.requires.1 c.requires.0

-- more_and
pub more_and-skip_blanks-a-requires : goal.more_and-skip_blanks-a-requires
more_and-skip_blanks-a-requires t c = c.loop-now.invariant.loop.start.text

-- more_and
pub more_and-shape_of-plan-then-not-both : goal.more_and-shape_of-plan-then-not-both
more_and-shape_of-plan-then-not-both t c = done_plan c.loop-now.invariant.loop.done

-- more_and
pub more_and-shape_of-pool-then-not-both : goal.more_and-shape_of-pool-then-not-both
more_and-shape_of-pool-then-not-both t c = done_pool c.loop-now.invariant.loop.done

-- more_and
pub more_and-returns-then-not-both : goal.more_and-returns-then-not-both
more_and-returns-then-not-both t c = and_end c.loop-now.invariant c.skip_blanks-a.ensures (rw (not-true c.both.result (ap not c.if-not-both.true)) at c.both.ensures)

-- more_and
pub more_and-skip_blanks-b-requires : goal.more_and-skip_blanks-b-requires
more_and-skip_blanks-b-requires t c = (rw (not-false c.both.result (ap not c.if-not-both.false)) at c.both.ensures).0

-- more_and
pub more_and-test_tail-left-requires : goal.more_and-test_tail-left-requires
more_and-test_tail-left-requires t c = (room 3 (lit≤ tt) (asks_operator_logic 0x26 (lit< tt) c.loop-now.invariant.loop.start c.skip_blanks-a.ensures (rw (not-false c.both.result (ap not c.if-not-both.false)) at c.both.ensures) c.skip_blanks-b.ensures (c.moved.ensures.place, (c.moved.ensures.lengths, c.moved.ensures.marks))), small_known c.loop-now.invariant.small)

-- more_and
pub more_and-opened-head-requires : goal.more_and-opened-head-requires
more_and-opened-head-requires t c = room 3 (lit≤ tt) (asks_tailed (sort_of c.loop-now.kind) {x = 27} (asks_operator_logic 0x26 (lit< tt) c.loop-now.invariant.loop.start c.skip_blanks-a.ensures (rw (not-false c.both.result (ap not c.if-not-both.false)) at c.both.ensures) c.skip_blanks-b.ensures (c.moved.ensures.place, (c.moved.ensures.lengths, c.moved.ensures.marks))) c.test_tail-left.ensures)

-- more_and
pub more_and-basic-requires : goal.more_and-basic-requires
more_and-basic-requires t c =
    let r = (ready 0x26 (sort_of c.loop-now.kind) (lit< tt) c.loop-now.invariant.loop.start c.skip_blanks-a.ensures (rw (not-false c.both.result (ap not c.if-not-both.false)) at c.both.ensures) c.skip_blanks-b.ensures (c.moved.ensures.place, (c.moved.ensures.lengths, c.moved.ensures.marks)) c.test_tail-left.ensures c.opened-head.ensures) in
    (omega (arith, r.from, r.start.text, c.loop-now.invariant.loop.from, c.decreases), asks_less (lit≤ tt) r.start)

-- more_and
pub more_and-shape_of-plan-in_err-n : goal.more_and-shape_of-plan-in_err-n
more_and-shape_of-plan-in_err-n t c = c.basic.auto.plan ∙ ready_plan (ready 0x26 (sort_of c.loop-now.kind) (lit< tt) c.loop-now.invariant.loop.start c.skip_blanks-a.ensures (rw (not-false c.both.result (ap not c.if-not-both.false)) at c.both.ensures) c.skip_blanks-b.ensures (c.moved.ensures.place, (c.moved.ensures.lengths, c.moved.ensures.marks)) c.test_tail-left.ensures c.opened-head.ensures) ∙ done_plan c.loop-now.invariant.loop.done

-- more_and
pub more_and-shape_of-pool-in_err-n : goal.more_and-shape_of-pool-in_err-n
more_and-shape_of-pool-in_err-n t c = c.basic.auto.pool ∙ done_pool c.loop-now.invariant.loop.done

-- more_and
pub more_and-returns-in_err-n : goal.more_and-returns-in_err-n
more_and-returns-in_err-n t c = rw (err_from_is_err_and c.from_residual.result c.from_residual.ensures.1).1 (and_stop c.loop-now.invariant (ready 0x26 (sort_of c.loop-now.kind) (lit< tt) c.loop-now.invariant.loop.start c.skip_blanks-a.ensures (rw (not-false c.both.result (ap not c.if-not-both.false)) at c.both.ensures) c.skip_blanks-b.ensures (c.moved.ensures.place, (c.moved.ensures.lengths, c.moved.ensures.marks)) c.test_tail-left.ensures c.opened-head.ensures) (none_of c.basic.ensures c.in_err-n.was))

-- more_and
pub more_and-test_tail-m-requires : goal.more_and-test_tail-m-requires
more_and-test_tail-m-requires t c =
    let h = read_of c.basic.ensures c.in_ok-n.was in
    (room 3 (lit≤ tt) (and_behind c.loop-now.invariant (ready 0x26 (sort_of c.loop-now.kind) (lit< tt) c.loop-now.invariant.loop.start c.skip_blanks-a.ensures (rw (not-false c.both.result (ap not c.if-not-both.false)) at c.both.ensures) c.skip_blanks-b.ensures (c.moved.ensures.place, (c.moved.ensures.lengths, c.moved.ensures.marks)) c.test_tail-left.ensures c.opened-head.ensures) h), read_known sort_basic h)

-- more_and
pub more_and-overflow_add-len : goal.more_and-overflow_add-len
more_and-overflow_add-len t c = record { fits = framed_place (and_framed c.loop-now.invariant (ready 0x26 (sort_of c.loop-now.kind) (lit< tt) c.loop-now.invariant.loop.start c.skip_blanks-a.ensures (rw (not-false c.both.result (ap not c.if-not-both.false)) at c.both.ensures) c.skip_blanks-b.ensures (c.moved.ensures.place, (c.moved.ensures.lengths, c.moved.ensures.marks)) c.test_tail-left.ensures c.opened-head.ensures) (read_of c.basic.ensures c.in_ok-n.was) c.test_tail-m.ensures) }

-- more_and
pub more_and-overflow_sub-out : goal.more_and-overflow_sub-out
more_and-overflow_sub-out t c = framed_order (and_framed c.loop-now.invariant (ready 0x26 (sort_of c.loop-now.kind) (lit< tt) c.loop-now.invariant.loop.start c.skip_blanks-a.ensures (rw (not-false c.both.result (ap not c.if-not-both.false)) at c.both.ensures) c.skip_blanks-b.ensures (c.moved.ensures.place, (c.moved.ensures.lengths, c.moved.ensures.marks)) c.test_tail-left.ensures c.opened-head.ensures) (read_of c.basic.ensures c.in_ok-n.was) c.test_tail-m.ensures)

-- more_and
pub more_and-overflow_sub-out-in-loop-now : goal.more_and-overflow_sub-out-in-loop-now
more_and-overflow_sub-out-in-loop-now t c = framed_length (and_framed c.loop-now.invariant (ready 0x26 (sort_of c.loop-now.kind) (lit< tt) c.loop-now.invariant.loop.start c.skip_blanks-a.ensures (rw (not-false c.both.result (ap not c.if-not-both.false)) at c.both.ensures) c.skip_blanks-b.ensures (c.moved.ensures.place, (c.moved.ensures.lengths, c.moved.ensures.marks)) c.test_tail-left.ensures c.opened-head.ensures) (read_of c.basic.ensures c.in_ok-n.was) c.test_tail-m.ensures)

-- more_and
pub more_and-put16-requires : goal.more_and-put16-requires
more_and-put16-requires t c = framed_room (and_framed c.loop-now.invariant (ready 0x26 (sort_of c.loop-now.kind) (lit< tt) c.loop-now.invariant.loop.start c.skip_blanks-a.ensures (rw (not-false c.both.result (ap not c.if-not-both.false)) at c.both.ensures) c.skip_blanks-b.ensures (c.moved.ensures.place, (c.moved.ensures.lengths, c.moved.ensures.marks)) c.test_tail-left.ensures c.opened-head.ensures) (read_of c.basic.ensures c.in_ok-n.was) c.test_tail-m.ensures)

-- more_and
pub more_and-compared-requires : goal.more_and-compared-requires
more_and-compared-requires t c = read_known sort_basic (read_of c.basic.ensures c.in_ok-n.was)

-- more_and
pub more_and-loop-now-smaller : goal.more_and-loop-now-smaller
more_and-loop-now-smaller t c = ready_less (ready 0x26 (sort_of c.loop-now.kind) (lit< tt) c.loop-now.invariant.loop.start c.skip_blanks-a.ensures (rw (not-false c.both.result (ap not c.if-not-both.false)) at c.both.ensures) c.skip_blanks-b.ensures (c.moved.ensures.place, (c.moved.ensures.lengths, c.moved.ensures.marks)) c.test_tail-left.ensures c.opened-head.ensures) c.judged-now.result (c.judged-now.ensures.place.0 ∙ c.test_tail-m.ensures.at) (read_of c.basic.ensures c.in_ok-n.was)

-- more_and
pub more_and-loop-now-preserved : goal.more_and-loop-now-preserved
more_and-loop-now-preserved t c = and_more c.loop-now.invariant (ready 0x26 (sort_of c.loop-now.kind) (lit< tt) c.loop-now.invariant.loop.start c.skip_blanks-a.ensures (rw (not-false c.both.result (ap not c.if-not-both.false)) at c.both.ensures) c.skip_blanks-b.ensures (c.moved.ensures.place, (c.moved.ensures.lengths, c.moved.ensures.marks)) c.test_tail-left.ensures c.opened-head.ensures) (read_of c.basic.ensures c.in_ok-n.was) c.test_tail-m.ensures c.put16.ensures c.judged-now.ensures.place c.judged-now.ensures.marks c.compared.ensures

-- more_or
pub more_or-loop-now-init : goal.more_or-loop-now-init
more_or-loop-now-init t c = or_loop c.args.sort c.args.asked c.requires.1 c.requires.0

-- more_or
pub more_or-skip_blanks-a-requires : goal.more_or-skip_blanks-a-requires
more_or-skip_blanks-a-requires t c = c.loop-now.invariant.loop.start.text

-- more_or
pub more_or-shape_of-plan-then-not-both : goal.more_or-shape_of-plan-then-not-both
more_or-shape_of-plan-then-not-both t c = done_plan c.loop-now.invariant.loop.done

-- more_or
pub more_or-shape_of-pool-then-not-both : goal.more_or-shape_of-pool-then-not-both
more_or-shape_of-pool-then-not-both t c = done_pool c.loop-now.invariant.loop.done

-- more_or
pub more_or-returns-then-not-both : goal.more_or-returns-then-not-both
more_or-returns-then-not-both t c = or_end c.loop-now.invariant c.skip_blanks-a.ensures (rw (not-true c.both.result (ap not c.if-not-both.true)) at c.both.ensures)

-- more_or
pub more_or-skip_blanks-b-requires : goal.more_or-skip_blanks-b-requires
more_or-skip_blanks-b-requires t c = (rw (not-false c.both.result (ap not c.if-not-both.false)) at c.both.ensures).0

-- more_or
pub more_or-test_tail-left-requires : goal.more_or-test_tail-left-requires
more_or-test_tail-left-requires t c = (room 3 (lit≤ tt) (asks_operator_logic 0x7C (lit< tt) c.loop-now.invariant.loop.start c.skip_blanks-a.ensures (rw (not-false c.both.result (ap not c.if-not-both.false)) at c.both.ensures) c.skip_blanks-b.ensures (c.moved.ensures.place, (c.moved.ensures.lengths, c.moved.ensures.marks))), small_known c.loop-now.invariant.small)

-- more_or
pub more_or-opened-head-requires : goal.more_or-opened-head-requires
more_or-opened-head-requires t c = room 3 (lit≤ tt) (asks_tailed (sort_of c.loop-now.kind) {x = 27} (asks_operator_logic 0x7C (lit< tt) c.loop-now.invariant.loop.start c.skip_blanks-a.ensures (rw (not-false c.both.result (ap not c.if-not-both.false)) at c.both.ensures) c.skip_blanks-b.ensures (c.moved.ensures.place, (c.moved.ensures.lengths, c.moved.ensures.marks))) c.test_tail-left.ensures)

-- more_or
pub more_or-all-requires : goal.more_or-all-requires
more_or-all-requires t c =
    let r = (ready 0x7C (sort_of c.loop-now.kind) (lit< tt) c.loop-now.invariant.loop.start c.skip_blanks-a.ensures (rw (not-false c.both.result (ap not c.if-not-both.false)) at c.both.ensures) c.skip_blanks-b.ensures (c.moved.ensures.place, (c.moved.ensures.lengths, c.moved.ensures.marks)) c.test_tail-left.ensures c.opened-head.ensures) in
    (omega (arith, r.from, r.start.text, c.loop-now.invariant.loop.from, c.decreases), asks_less (lit≤ tt) r.start)

-- more_or
pub more_or-shape_of-plan-in_err-n : goal.more_or-shape_of-plan-in_err-n
more_or-shape_of-plan-in_err-n t c = c.all.auto.plan ∙ ready_plan (ready 0x7C (sort_of c.loop-now.kind) (lit< tt) c.loop-now.invariant.loop.start c.skip_blanks-a.ensures (rw (not-false c.both.result (ap not c.if-not-both.false)) at c.both.ensures) c.skip_blanks-b.ensures (c.moved.ensures.place, (c.moved.ensures.lengths, c.moved.ensures.marks)) c.test_tail-left.ensures c.opened-head.ensures) ∙ done_plan c.loop-now.invariant.loop.done

-- more_or
pub more_or-shape_of-pool-in_err-n : goal.more_or-shape_of-pool-in_err-n
more_or-shape_of-pool-in_err-n t c = c.all.auto.pool ∙ done_pool c.loop-now.invariant.loop.done

-- more_or
pub more_or-returns-in_err-n : goal.more_or-returns-in_err-n
more_or-returns-in_err-n t c = rw (err_from_is_err_and c.from_residual.result c.from_residual.ensures.1).1 (or_stop c.loop-now.invariant (ready 0x7C (sort_of c.loop-now.kind) (lit< tt) c.loop-now.invariant.loop.start c.skip_blanks-a.ensures (rw (not-false c.both.result (ap not c.if-not-both.false)) at c.both.ensures) c.skip_blanks-b.ensures (c.moved.ensures.place, (c.moved.ensures.lengths, c.moved.ensures.marks)) c.test_tail-left.ensures c.opened-head.ensures) (none_of c.all.ensures c.in_err-n.was))

-- more_or
pub more_or-test_tail-m-requires : goal.more_or-test_tail-m-requires
more_or-test_tail-m-requires t c =
    let h = read_of c.all.ensures c.in_ok-n.was in
    (room 3 (lit≤ tt) (or_behind c.loop-now.invariant (ready 0x7C (sort_of c.loop-now.kind) (lit< tt) c.loop-now.invariant.loop.start c.skip_blanks-a.ensures (rw (not-false c.both.result (ap not c.if-not-both.false)) at c.both.ensures) c.skip_blanks-b.ensures (c.moved.ensures.place, (c.moved.ensures.lengths, c.moved.ensures.marks)) c.test_tail-left.ensures c.opened-head.ensures) h), read_known sort_and_lem h)

-- more_or
pub more_or-overflow_add-len : goal.more_or-overflow_add-len
more_or-overflow_add-len t c = record { fits = framed_place (or_framed c.loop-now.invariant (ready 0x7C (sort_of c.loop-now.kind) (lit< tt) c.loop-now.invariant.loop.start c.skip_blanks-a.ensures (rw (not-false c.both.result (ap not c.if-not-both.false)) at c.both.ensures) c.skip_blanks-b.ensures (c.moved.ensures.place, (c.moved.ensures.lengths, c.moved.ensures.marks)) c.test_tail-left.ensures c.opened-head.ensures) (read_of c.all.ensures c.in_ok-n.was) c.test_tail-m.ensures) }

-- more_or
pub more_or-overflow_sub-out : goal.more_or-overflow_sub-out
more_or-overflow_sub-out t c = framed_order (or_framed c.loop-now.invariant (ready 0x7C (sort_of c.loop-now.kind) (lit< tt) c.loop-now.invariant.loop.start c.skip_blanks-a.ensures (rw (not-false c.both.result (ap not c.if-not-both.false)) at c.both.ensures) c.skip_blanks-b.ensures (c.moved.ensures.place, (c.moved.ensures.lengths, c.moved.ensures.marks)) c.test_tail-left.ensures c.opened-head.ensures) (read_of c.all.ensures c.in_ok-n.was) c.test_tail-m.ensures)

-- more_or
pub more_or-overflow_sub-out-in-loop-now : goal.more_or-overflow_sub-out-in-loop-now
more_or-overflow_sub-out-in-loop-now t c = framed_length (or_framed c.loop-now.invariant (ready 0x7C (sort_of c.loop-now.kind) (lit< tt) c.loop-now.invariant.loop.start c.skip_blanks-a.ensures (rw (not-false c.both.result (ap not c.if-not-both.false)) at c.both.ensures) c.skip_blanks-b.ensures (c.moved.ensures.place, (c.moved.ensures.lengths, c.moved.ensures.marks)) c.test_tail-left.ensures c.opened-head.ensures) (read_of c.all.ensures c.in_ok-n.was) c.test_tail-m.ensures)

-- more_or
pub more_or-put16-requires : goal.more_or-put16-requires
more_or-put16-requires t c = framed_room (or_framed c.loop-now.invariant (ready 0x7C (sort_of c.loop-now.kind) (lit< tt) c.loop-now.invariant.loop.start c.skip_blanks-a.ensures (rw (not-false c.both.result (ap not c.if-not-both.false)) at c.both.ensures) c.skip_blanks-b.ensures (c.moved.ensures.place, (c.moved.ensures.lengths, c.moved.ensures.marks)) c.test_tail-left.ensures c.opened-head.ensures) (read_of c.all.ensures c.in_ok-n.was) c.test_tail-m.ensures)

-- more_or
pub more_or-loop-now-smaller : goal.more_or-loop-now-smaller
more_or-loop-now-smaller t c = ready_less (ready 0x7C (sort_of c.loop-now.kind) (lit< tt) c.loop-now.invariant.loop.start c.skip_blanks-a.ensures (rw (not-false c.both.result (ap not c.if-not-both.false)) at c.both.ensures) c.skip_blanks-b.ensures (c.moved.ensures.place, (c.moved.ensures.lengths, c.moved.ensures.marks)) c.test_tail-left.ensures c.opened-head.ensures) c.test_tail-m.result c.test_tail-m.ensures.at (read_of c.all.ensures c.in_ok-n.was)

-- more_or
pub more_or-loop-now-preserved : goal.more_or-loop-now-preserved
more_or-loop-now-preserved t c = or_more c.loop-now.invariant (ready 0x7C (sort_of c.loop-now.kind) (lit< tt) c.loop-now.invariant.loop.start c.skip_blanks-a.ensures (rw (not-false c.both.result (ap not c.if-not-both.false)) at c.both.ensures) c.skip_blanks-b.ensures (c.moved.ensures.place, (c.moved.ensures.lengths, c.moved.ensures.marks)) c.test_tail-left.ensures c.opened-head.ensures) (read_of c.all.ensures c.in_ok-n.was) c.test_tail-m.ensures c.put16.ensures

-- negation
pub negation-paren-requires : goal.negation-paren-requires
negation-paren-requires t c = (omega (arith, c.decreases, c.skip_blanks-a.ensures.from, c.moved.ensures.place), (asks_skipped c.requires c.skip_blanks-a.ensures (c.moved.ensures.place, (c.moved.ensures.lengths, c.moved.ensures.marks)), opens (rw c.if-is.true at c.is.ensures) c.moved.ensures.place))

-- negation
pub negation-returns-in_err-n : goal.negation-returns-in_err-n
negation-returns-in_err-n t c = rw (err_from_is_err_and c.from_residual.result c.from_residual.ensures.1).1 (negation_no_paren c.skip_blanks-a.ensures (c.moved.ensures.place, (c.moved.ensures.lengths, c.moved.ensures.marks)) (rw c.if-is.true at c.is.ensures) (none_of c.paren.ensures c.in_err-n.was))

-- negation
pub negation-not_tail-requires : goal.negation-not_tail-requires
negation-not_tail-requires t c =
    let h = read_of c.paren.ensures c.in_ok-n.was in
    (paren_room (asks_skipped c.requires c.skip_blanks-a.ensures (c.moved.ensures.place, (c.moved.ensures.lengths, c.moved.ensures.marks))) h, known_paren h)

-- negation
pub negation-returns-then-is : goal.negation-returns-then-is
negation-returns-then-is t c = next (negation_at_paren c.skip_blanks-a.ensures (c.moved.ensures.place, (c.moved.ensures.lengths, c.moved.ensures.marks)) (rw c.if-is.true at c.is.ensures) (read_of c.paren.ensures c.in_ok-n.was) c.not_tail.ensures)

-- negation
pub negation-operand-requires : goal.negation-operand-requires
negation-operand-requires t c = (omega (arith, c.decreases, c.skip_blanks-a.ensures.from, c.moved-2.ensures.place), asks_skipped c.requires c.skip_blanks-a.ensures (c.moved-2.ensures.place, (c.moved-2.ensures.lengths, c.moved-2.ensures.marks)))

-- negation
pub negation-returns-in_err-m : goal.negation-returns-in_err-m
negation-returns-in_err-m t c = rw (err_from_is_err_and c.from_residual-in_err-m.result c.from_residual-in_err-m.ensures.1).1 (negation_no_operand c.skip_blanks-a.ensures (c.moved-2.ensures.place, (c.moved-2.ensures.lengths, c.moved-2.ensures.marks)) (rw c.if-is.false at c.is.ensures) (none_of c.operand.ensures c.in_err-m.was))

-- negation
pub negation-returns-then-flag-eq0 : goal.negation-returns-then-flag-eq0
negation-returns-then-flag-eq0 t c = negation_of_literal c.skip_blanks-a.ensures (c.moved-2.ensures.place, (c.moved-2.ensures.lengths, c.moved-2.ensures.marks)) (rw c.if-is.false at c.is.ensures) (read_of c.operand.ensures c.in_ok-m.was) c.if-flag-eq0.true

-- negation
pub negation-not_tail-requires-2 : goal.negation-not_tail-requires-2
negation-not_tail-requires-2 t c =
    let h = read_of c.operand.ensures c.in_ok-m.was in
    (operand_room (asks_skipped c.requires c.skip_blanks-a.ensures (c.moved-2.ensures.place, (c.moved-2.ensures.lengths, c.moved-2.ensures.marks))) h, known_operand h)

-- negation
pub negation-returns : goal.negation-returns
negation-returns t c = next (negation_at_operand c.skip_blanks-a.ensures (c.moved-2.ensures.place, (c.moved-2.ensures.lengths, c.moved-2.ensures.marks)) (rw c.if-is.false at c.is.ensures) (read_of c.operand.ensures c.in_ok-m.was) c.if-flag-eq0.false c.not_tail-2.ensures)

-- operand
pub operand-query-requires : goal.operand-query-requires
operand-query-requires t c =
    let i = rw c.if-is.true at c.is.ensures in
    (omega (arith, ap length (whole c.args.s.now), c.decreases, i.0, c.moved.ensures.place), asks_whole (whole _) (asks_byte c.requires (omega arith) i (c.moved.ensures.place, (c.moved.ensures.lengths, c.moved.ensures.marks)) (omega arith)))

-- operand
pub operand-returns-then-is : goal.operand-returns-then-is
operand-returns-then-is t c = operand_at_current (rw c.if-is.true at c.is.ensures) (c.moved.ensures.place, (c.moved.ensures.lengths, c.moved.ensures.marks)) (post_whole (whole _) c.query.ensures)

-- operand
pub operand-query-requires-then-is-2 : goal.operand-query-requires-then-is-2
operand-query-requires-then-is-2 t c =
    let i = rw c.if-is-2.true at c.is-2.ensures in
    (omega (arith, ap length (whole c.args.s.now), c.decreases, i.0, c.moved-then-is-2.ensures.place), asks_whole (whole _) (asks_byte c.requires (omega arith) i (c.moved-then-is-2.ensures.place, (c.moved-then-is-2.ensures.lengths, c.moved-then-is-2.ensures.marks)) (omega arith)))

-- operand
pub operand-returns-then-is-2 : goal.operand-returns-then-is-2
operand-returns-then-is-2 t c = operand_at_root (rw c.if-is-2.true at c.is-2.ensures) (c.moved-then-is-2.ensures.place, (c.moved-then-is-2.ensures.lengths, c.moved-then-is-2.ensures.marks)) (post_whole (whole _) c.query-then-is-2.ensures)

-- operand
pub operand-returns-in_default : goal.operand-returns-in_default
operand-returns-in_default t c = operand_at_constant (rw c.if-is.false at c.is.ensures) (rw c.if-is-2.false at c.is-2.ensures) (no_word_of c.read_word.ensures c.in_default.is) c.write_literal.ensures

-- operand
pub operand-is-requires-3 : goal.operand-is-requires-3
operand-is-requires-3 t c = (word_of c.read_word.ensures c.in-Ok.is).to

-- operand
pub operand-overflow_add-e : goal.operand-overflow_add-e
operand-overflow_add-e t c = search (rules, (rw c.if-is-3.true at c.is-3.ensures).0)

-- operand
pub operand-named_at-requires : goal.operand-named_at-requires
operand-named_at-requires t c =
    let w = word_of c.read_word.ensures c.in-Ok.is in
    (w.from, w.to)

-- operand
pub operand-function-requires : goal.operand-function-requires
operand-function-requires t c =
    let w = word_of c.read_word.ensures c.in-Ok.is in
    let i = rw c.if-is-3.true at c.is-3.ensures in
    (omega (arith, c.decreases, w.from, i.0, c.moved-then-is-3.ensures.place), asks_call_there c.requires w i (c.moved-then-is-3.ensures.place, (c.moved-then-is-3.ensures.lengths, c.moved-then-is-3.ensures.marks)))

-- operand
pub operand-returns-then-is-3 : goal.operand-returns-then-is-3
operand-returns-then-is-3 t c = operand_at_call (word_of c.read_word.ensures c.in-Ok.is) (rw c.if-is-3.true at c.is-3.ensures) (c.moved-then-is-3.ensures.place, (c.moved-then-is-3.ensures.lengths, c.moved-then-is-3.ensures.marks)) c.named_at.ensures c.function.ensures

-- operand
pub operand-write_keyword-requires : goal.operand-write_keyword-requires
operand-write_keyword-requires t c =
    let w = word_of c.read_word.ensures c.in-Ok.is in
    record { room = word_room 2 c.requires w (omega arith); s_value = c.requires.utf8; word_at = w }

-- operand
pub operand-returns : goal.operand-returns
operand-returns t c = operand_at_keyword (word_of c.read_word.ensures c.in-Ok.is) (rw c.if-is-3.false at c.is-3.ensures) (c.write_keyword.ensures c.args.pool.now)

-- paren
pub paren-skip_blanks-a-requires : goal.paren-skip_blanks-a-requires
paren-skip_blanks-a-requires t c = (opens_is c.requires.1).0

-- paren
pub paren-any-requires : goal.paren-any-requires
paren-any-requires t c = (omega (arith, c.skip_blanks-a.ensures.from, c.skip_blanks-a.ensures.to, c.moved.ensures.place, c.decreases), asks_paren c.requires.1 c.skip_blanks-a.ensures (c.moved.ensures.place, (c.moved.ensures.lengths, c.moved.ensures.marks)) c.requires.0)

-- paren
pub paren-returns-in_err-n : goal.paren-returns-in_err-n
paren-returns-in_err-n t c = rw (err_from_is_err_and c.from_residual.result c.from_residual.ensures.1).1 (stop (paren_stop c.requires.1 c.skip_blanks-a.ensures (c.moved.ensures.place, (c.moved.ensures.lengths, c.moved.ensures.marks)) (none_of c.any.ensures c.in_err-n.was)))

-- paren
pub paren-skip_blanks-e-requires : goal.paren-skip_blanks-e-requires
paren-skip_blanks-e-requires t c = (read_of c.any.ensures c.in_ok-n.was).to

-- paren
pub paren-returns-then-not-is : goal.paren-returns-then-not-is
paren-returns-then-not-is t c = stop (paren_unclosed c.requires.1 c.skip_blanks-a.ensures (c.moved.ensures.place, (c.moved.ensures.lengths, c.moved.ensures.marks)) (read_of c.any.ensures c.in_ok-n.was) c.skip_blanks-e.ensures (rw (not-true c.is.result (ap not c.if-not-is.true)) at c.is.ensures))

-- paren
pub paren-overflow_add-e : goal.paren-overflow_add-e
paren-overflow_add-e t c = record { fits = omega (arith, (rw (not-false c.is.result (ap not c.if-not-is.false)) at c.is.ensures).0, c.well_formed.0) }

-- paren
pub paren-returns : goal.paren-returns
paren-returns t c = next (paren_closed c.requires.1 c.skip_blanks-a.ensures (c.moved.ensures.place, (c.moved.ensures.lengths, c.moved.ensures.marks)) (read_of c.any.ensures c.in_ok-n.was) c.skip_blanks-e.ensures (rw (not-false c.is.result (ap not c.if-not-is.false)) at c.is.ensures) (c.moved-2.ensures.place, (c.moved-2.ensures.lengths, c.moved-2.ensures.marks)))

-- query
pub query-segments-requires : goal.query-segments-requires
query-segments-requires t c = (omega (arith, c.decreases, c.item-head.ensures.at), asks_put c.requires c.item-head.ensures (omega arith))

-- query
pub query-returns-in_err-n : goal.query-returns-in_err-n
query-returns-in_err-n t c = rw (err_from_is_err_and c.from_residual.result c.from_residual.ensures.1).1 (query_none c.item-head.ensures (none_of c.segments.ensures c.in_err-n.was))

-- query
pub query-item-requires : goal.query-item-requires
query-item-requires t c = segments_room (asks_put c.requires c.item-head.ensures (omega arith)) (read_of c.segments.ensures c.in_ok-n.was)

-- query
pub query-query_flag-requires : goal.query-query_flag-requires
query-query_flag-requires t c = told_segments (read_of c.segments.ensures c.in_ok-n.was)

-- query
pub query-returns : goal.query-returns
query-returns t c = next (query_read c.item-head.ensures (read_of c.segments.ensures c.in_ok-n.was) c.item.ensures c.query_flag.ensures)

-- right
pub right-operand-requires : goal.right-operand-requires
right-operand-requires t c = (omega (arith, c.decreases, c.skip_blanks-a.ensures.from, c.moved.ensures.place), asks_skipped c.requires.0 c.skip_blanks-a.ensures (c.moved.ensures.place, (c.moved.ensures.lengths, c.moved.ensures.marks)))

-- right
pub right-returns-in_err-n : goal.right-returns-in_err-n
right-returns-in_err-n t c = rw (err_from_is_err_and c.from_residual.result c.from_residual.ensures.1).1 (right_none c.skip_blanks-a.ensures (c.moved.ensures.place, (c.moved.ensures.lengths, c.moved.ensures.marks)) c.args.sort c.args.op (none_of c.operand.ensures c.in_err-n.was))

-- right
pub right-returns-then-not-comparable : goal.right-returns-then-not-comparable
right-returns-then-not-comparable t c = right_not_compared c.skip_blanks-a.ensures (c.moved.ensures.place, (c.moved.ensures.lengths, c.moved.ensures.marks)) (read_of c.operand.ensures c.in_ok-n.was) c.args.sort c.args.op (sym c.comparable.ensures ∙ not-true c.comparable.result (ap not c.if-not-comparable.true))

-- right
pub right-plain_sort-requires : goal.right-plain_sort-requires
right-plain_sort-requires t c = known_operand (read_of c.operand.ensures c.in_ok-n.was)

-- right
pub right-write_compare-requires : goal.right-write_compare-requires
right-write_compare-requires t c = (operand_room (asks_skipped c.requires.0 c.skip_blanks-a.ensures (c.moved.ensures.place, (c.moved.ensures.lengths, c.moved.ensures.marks))) (read_of c.operand.ensures c.in_ok-n.was), (c.requires.1, record { small = omega (arith, c.plain_sort.ensures.1) }))

-- right
pub right-returns : goal.right-returns
right-returns t c = next (right_read c.skip_blanks-a.ensures (c.moved.ensures.place, (c.moved.ensures.lengths, c.moved.ensures.marks)) (read_of c.operand.ensures c.in_ok-n.was) c.args.sort c.args.op (sym c.comparable.ensures ∙ not-false c.comparable.result (ap not c.if-not-comparable.false)) c.plain_sort.ensures.0 c.write_compare.ensures)

-- segment
pub segment-is-requires : goal.segment-is-requires
segment-is-requires t c = (rw c.if-both.true at c.both.ensures).0

-- segment
pub segment-bracketed-requires : goal.segment-bracketed-requires
segment-bracketed-requires t c = (omega (arith, c.decreases, (rw c.if-both.true at c.both.ensures).0, c.moved.ensures.place), asks_both c.requires (omega arith) (omega arith) (rw c.if-both.true at c.both.ensures) (c.moved.ensures.place, (c.moved.ensures.lengths, c.moved.ensures.marks)) (omega arith))

-- segment
pub segment-returns-then-is : goal.segment-returns-then-is
segment-returns-then-is t c = rw c.lowered.ensures (segment_by_dots_brackets (rw c.if-both.true at c.both.ensures) (rw c.if-is.true at c.is.ensures) (c.moved.ensures.place, (c.moved.ensures.lengths, c.moved.ensures.marks)) c.bracketed.ensures)

-- segment
pub segment-write_dotted-requires : goal.segment-write_dotted-requires
segment-write_dotted-requires t c = asks_both c.requires (omega arith) (omega arith) (rw c.if-both.true at c.both.ensures) (c.moved-then-both.ensures.place, (c.moved-then-both.ensures.lengths, c.moved-then-both.ensures.marks)) (omega arith)

-- segment
pub segment-returns-then-both : goal.segment-returns-then-both
segment-returns-then-both t c = rw c.lowered-then-both.ensures (segment_by_dots (rw c.if-both.true at c.both.ensures) (rw c.if-is.false at c.is.ensures) (c.moved-then-both.ensures.place, (c.moved-then-both.ensures.lengths, c.moved-then-both.ensures.marks)) c.write_dotted.ensures)

-- segment
pub segment-write_dotted-requires-then-is-2 : goal.segment-write_dotted-requires-then-is-2
segment-write_dotted-requires-then-is-2 t c = asks_byte c.requires (omega arith) (rw c.if-is-2.true at c.is-2.ensures) (c.moved-then-is-2.ensures.place, (c.moved-then-is-2.ensures.lengths, c.moved-then-is-2.ensures.marks)) (omega arith)

-- segment
pub segment-returns-then-is-2 : goal.segment-returns-then-is-2
segment-returns-then-is-2 t c = segment_by_dot (rw c.if-both.false at c.both.ensures) (rw c.if-is-2.true at c.is-2.ensures) (c.moved-then-is-2.ensures.place, (c.moved-then-is-2.ensures.lengths, c.moved-then-is-2.ensures.marks)) c.write_dotted-then-is-2.ensures

-- segment
pub segment-bracketed-requires-2 : goal.segment-bracketed-requires-2
segment-bracketed-requires-2 t c = (omega (arith, c.decreases), c.requires)

-- segment
pub segment-returns : goal.segment-returns
segment-returns t c = segment_by_brackets (rw c.if-is-2.false at c.is-2.ensures) c.bracketed-2.ensures

-- segments
pub segments-loop-now-init : goal.segments-loop-now-init
segments-loop-now-init t c = segments_start c.requires

-- segments
pub segments-skip_blanks-a-requires : goal.segments-skip_blanks-a-requires
segments-skip_blanks-a-requires t c = c.loop-now.invariant.loop.start.text

-- segments
pub segments-shape_of-plan-then-not-begins_segment : goal.segments-shape_of-plan-then-not-begins_segment
segments-shape_of-plan-then-not-begins_segment t c = done_plan c.loop-now.invariant.loop.done

-- segments
pub segments-shape_of-pool-then-not-begins_segment : goal.segments-shape_of-pool-then-not-begins_segment
segments-shape_of-pool-then-not-begins_segment t c = done_pool c.loop-now.invariant.loop.done

-- segments
pub segments-returns-then-not-begins_segment : goal.segments-returns-then-not-begins_segment
segments-returns-then-not-begins_segment t c = segments_over c.loop-now.invariant c.skip_blanks-a.ensures (rw (not-true c.begins_segment.result (ap not c.if-not-begins_segment.true)) at c.begins_segment.ensures)

-- segments
pub segments-segment-requires : goal.segments-segment-requires
segments-segment-requires t c = (omega (arith, c.decreases, c.loop-now.invariant.loop.from, c.skip_blanks-a.ensures.from, c.moved.ensures.place), segments_begin c.loop-now.invariant c.skip_blanks-a.ensures (rw (not-false c.begins_segment.result (ap not c.if-not-begins_segment.false)) at c.begins_segment.ensures) (c.moved.ensures.place, (c.moved.ensures.lengths, c.moved.ensures.marks)))

-- segments
pub segments-shape_of-plan-in_err-n : goal.segments-shape_of-plan-in_err-n
segments-shape_of-plan-in_err-n t c = search (rules, done_plan c.loop-now.invariant.loop.done)

-- segments
pub segments-shape_of-pool-in_err-n : goal.segments-shape_of-pool-in_err-n
segments-shape_of-pool-in_err-n t c = search (rules, done_pool c.loop-now.invariant.loop.done)

-- segments
pub segments-returns-in_err-n : goal.segments-returns-in_err-n
segments-returns-in_err-n t c = rw (err_from_is_err_and c.from_residual.result c.from_residual.ensures.1).1 (segments_stop c.loop-now.invariant c.skip_blanks-a.ensures (rw (not-false c.begins_segment.result (ap not c.if-not-begins_segment.false)) at c.begins_segment.ensures) (c.moved.ensures.place, (c.moved.ensures.lengths, c.moved.ensures.marks)) (none_of c.segment.ensures c.in_err-n.was))

-- segments
pub segments-loop-now-smaller : goal.segments-loop-now-smaller
segments-loop-now-smaller t c = let h = segment_long (read_of c.segment.ensures c.in_ok-n.was) in omega (arith, h, c.skip_blanks-a.ensures.from, c.moved.ensures.place, (read_of c.segment.ensures c.in_ok-n.was).to)

-- segments
pub segments-loop-now-preserved : goal.segments-loop-now-preserved
segments-loop-now-preserved t c = segments_again c.loop-now.invariant c.skip_blanks-a.ensures (rw (not-false c.begins_segment.result (ap not c.if-not-begins_segment.false)) at c.begins_segment.ensures) (c.moved.ensures.place, (c.moved.ensures.lengths, c.moved.ensures.marks)) (read_of c.segment.ensures c.in_ok-n.was) c.min-flag.ensures

-- selector
pub selector-filter-requires : goal.selector-filter-requires
selector-filter-requires t c = (omega (arith, c.decreases, (rw c.if-is.true at c.is.ensures).0, c.moved.ensures.place), asks_byte c.requires (omega arith) (rw c.if-is.true at c.is.ensures) (c.moved.ensures.place, (c.moved.ensures.lengths, c.moved.ensures.marks)) (omega arith))

-- selector
pub selector-returns-then-is : goal.selector-returns-then-is
selector-returns-then-is t c = selector_by_filter (rw c.if-is.true at c.is.ensures) (c.moved.ensures.place, (c.moved.ensures.lengths, c.moved.ensures.marks)) c.filter.ensures

-- selector
pub selector-write_selector-requires : goal.selector-write_selector-requires
selector-write_selector-requires t c = c.requires

-- selector
pub selector-returns : goal.selector-returns
selector-returns t c = selector_by_plain (rw c.if-is.false at c.is.ensures) c.write_selector.ensures

-- selectors
pub selectors-loop-now-init : goal.selectors-loop-now-init
selectors-loop-now-init t c = selectors_start c.requires

-- selectors
pub selectors-skip_blanks-a-requires : goal.selectors-skip_blanks-a-requires
selectors-skip_blanks-a-requires t c = c.loop-now.invariant.start.text

-- selectors
pub selectors-shape_of-plan-then-not-is : goal.selectors-shape_of-plan-then-not-is
selectors-shape_of-plan-then-not-is t c = done_plan c.loop-now.invariant.done

-- selectors
pub selectors-shape_of-pool-then-not-is : goal.selectors-shape_of-pool-then-not-is
selectors-shape_of-pool-then-not-is t c = done_pool c.loop-now.invariant.done

-- selectors
pub selectors-returns-then-not-is : goal.selectors-returns-then-not-is
selectors-returns-then-not-is t c = selectors_over c.loop-now.invariant c.skip_blanks-a.ensures (rw (not-true c.is.result (ap not c.if-not-is.true)) at c.is.ensures)

-- selectors
pub selectors-skip_blanks-b-requires : goal.selectors-skip_blanks-b-requires
selectors-skip_blanks-b-requires t c = (rw (not-false c.is.result (ap not c.if-not-is.false)) at c.is.ensures).0

-- selectors
pub selectors-selector-requires : goal.selectors-selector-requires
selectors-selector-requires t c = (omega (arith, c.decreases, c.loop-now.invariant.from, c.skip_blanks-a.ensures.from, c.skip_blanks-b.ensures.from, c.skip_blanks-b.ensures.to, c.moved.ensures.place), selectors_begin c.loop-now.invariant c.skip_blanks-a.ensures (rw (not-false c.is.result (ap not c.if-not-is.false)) at c.is.ensures) c.skip_blanks-b.ensures (c.moved.ensures.place, (c.moved.ensures.lengths, c.moved.ensures.marks)))

-- selectors
pub selectors-shape_of-plan-in_err-n : goal.selectors-shape_of-plan-in_err-n
selectors-shape_of-plan-in_err-n t c = search (rules, done_plan c.loop-now.invariant.done)

-- selectors
pub selectors-shape_of-pool-in_err-n : goal.selectors-shape_of-pool-in_err-n
selectors-shape_of-pool-in_err-n t c = search (rules, done_pool c.loop-now.invariant.done)

-- selectors
pub selectors-returns-in_err-n : goal.selectors-returns-in_err-n
selectors-returns-in_err-n t c = rw (err_from_is_err_and c.from_residual.result c.from_residual.ensures.1).1 (selectors_stop c.loop-now.invariant c.skip_blanks-a.ensures (rw (not-false c.is.result (ap not c.if-not-is.false)) at c.is.ensures) c.skip_blanks-b.ensures (c.moved.ensures.place, (c.moved.ensures.lengths, c.moved.ensures.marks)) (loose_none_of c.selector.ensures c.in_err-n.was))

-- selectors
pub selectors-overflow_add-count : goal.selectors-overflow_add-count
selectors-overflow_add-count t c = omega (arith, c.loop-now.invariant.from, c.loop-now.invariant.start.text)

-- selectors
pub selectors-loop-now-smaller : goal.selectors-loop-now-smaller
selectors-loop-now-smaller t c = omega (arith, c.skip_blanks-a.ensures.from, c.skip_blanks-b.ensures.from, c.moved.ensures.place, (loose_of c.selector.ensures c.in_ok-n.was).from, (loose_of c.selector.ensures c.in_ok-n.was).to)

-- selectors
pub selectors-loop-now-preserved : goal.selectors-loop-now-preserved
selectors-loop-now-preserved t c = selectors_again c.loop-now.invariant c.skip_blanks-a.ensures (rw (not-false c.is.result (ap not c.if-not-is.false)) at c.is.ensures) c.skip_blanks-b.ensures (c.moved.ensures.place, (c.moved.ensures.lengths, c.moved.ensures.marks)) (loose_of c.selector.ensures c.in_ok-n.was)
