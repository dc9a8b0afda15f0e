-- One name that opens every definition of this crate: a statement about closed inputs says `unfolding computes`, and both its sides compute.
use Rattle.std.specs.Prelude.{ℕ}
use Rattle.std.specs.Float.Ieee.{round, to_bits, of_bits}
use Rattle.regex_definition.specs.Read.{read_ccchar, read_end, read_item, read_first, read_items, read_ranges, read_class, count_from, read_count, read_upper, read_braces, read_quantifier, read_leaf, read_alternatives, read_branch, read_piece, read_atom, read_regexp}
use Rattle.definition.specs.Bytes.{number, little_endian, same_bytes, order_bytes}
use Rattle.definition.specs.Utf8.{encode, encode_all, after_first, more_tails, after_byte, is_utf8_from, is_utf8, leading, continued, scalars_of}
use Rattle.definition.specs.Brackets.{place_after, count_after, too_deep_from, too_deep}
use Rattle.definition.specs.Literals.{short_value, escape_value, char_bytes, chars_bytes, text_bytes, decimal_from, int_value, whole_digits, is_minus, exponent_value, nearest, is_inside, float_by, float_numeral, whole_numeral, numeral_of, numeral}
use Rattle.definition.specs.Slices.{add_once, element_at, index_places, clamp, slice_step, given_start, given_stop, slice_start, slice_stop, goes_on, walk_places, slice_places}
use Rattle.definition.specs.Values.{id_of, to_list, many, lookup, children, elements, members, descend, descend_all}
use Rattle.definition.specs.Tables.{child_count, counts_before, good_part, is_child_of, parent_below, head_right, is_finite, range_right, payload_record, no_key, place_record, stands_record, record_right, text_inside, holds, key_differs, key_right, keys_right, text_right, least_failing, bad_size, by_record, by_text, by_size, check_records, check_texts, and_then, check_table, row, value_by, tree_at, node_at, tree}
use Rattle.definition.specs.TableOutcomes.{report_table, records_outcome, texts_outcome, table_outcome, refused_part, found_part, part_by, has_text, is_member, has_key, text_outcome, key_outcome}
use Rattle.definition.specs.Forms.{many_selectors, is_singular_selector, is_singular_selectors, is_singular_segments, is_singular}
use Rattle.definition.specs.QueryForms.{inside_i64, literal_right, bound_right, starts_at_root, is_form, query_right, segments_right, selectors_right, selector_right, test_right, argument_right, function_right, nesting, nesting_segments, nesting_selectors, nesting_selector, nesting_test, nesting_argument, nesting_function}
use Rattle.definition.specs.Walk.{also, next, walk_int, walk_bound, walk_step, walk_slice, walk_numeral, walk_literal, operator_form, walk_singular_segment, walk_singular_segments, walk_singular, as_test, negated, compared, as_nodes, as_value, named, only, as_regex, call, walk, walk_segments, walk_segment, walk_bracketed, walk_selectors, walk_selector, walk_or, walk_more_or, walk_and, walk_more_and, walk_basic, walk_paren, walk_test, walk_filter_query, walk_comparable, walk_function, walk_arguments, walk_more_arguments, walk_argument}
use Rattle.definition.specs.Compare.{node_value, number_of, same_number, is_null, boolean_of, text_of, list_of, map_of, same_boolean, same_text, same, is_less, numbers_less, texts_less, less, is_boolean, less_or_same, is_some, compare_values, same_node, same_elements, same_members}
use Rattle.definition.specs.Regexps.{regexp_of, test_by, regex_test, regex_text, regex_values}
use Rattle.definition.specs.Evaluation.{flat, keep, pick, found, is_found, first_value, only_value, literal_value, count_value, length_of_value, length_value, truth, selected, eval_query, eval_segments, eval_selectors, eval_selector, eval_test, eval_argument, eval_function}
use Rattle.definition.specs.Plans.{pool_literal, pooled, start_kind, operator_byte, scope_kind, given, eight_of, code_slice, code_literal, plan_of, pool_of, pool_query, pool_segments, pool_selectors, pool_selector, pool_test, pool_argument, pool_function, code_query, code_segments, code_selectors, code_selector, code_test, code_argument, code_function}
use Rattle.definition.specs.Selecting.{early, judge, refuse_run, place, place_from, run_table, run_by}
use Rattle.definition.specs.Outcomes.{refusal_of, write, compile_by}

unfoldable pub computes : ℕ
unfolding round to_bits of_bits number little_endian same_bytes order_bytes encode encode_all after_first more_tails after_byte is_utf8_from is_utf8 leading continued scalars_of place_after count_after too_deep_from too_deep short_value escape_value char_bytes chars_bytes text_bytes decimal_from int_value whole_digits is_minus exponent_value nearest is_inside float_by float_numeral whole_numeral numeral_of numeral add_once element_at index_places clamp slice_step given_start given_stop slice_start slice_stop goes_on walk_places slice_places id_of to_list many lookup children elements members descend descend_all child_count counts_before good_part is_child_of parent_below head_right is_finite range_right payload_record no_key place_record stands_record record_right text_inside holds key_differs key_right keys_right text_right least_failing bad_size by_record by_text by_size check_records check_texts and_then check_table row value_by tree_at node_at tree report_table records_outcome texts_outcome table_outcome refused_part found_part part_by has_text is_member has_key text_outcome key_outcome many_selectors is_singular_selector is_singular_selectors is_singular_segments is_singular inside_i64 literal_right bound_right starts_at_root is_form query_right segments_right selectors_right selector_right test_right argument_right function_right nesting nesting_segments nesting_selectors nesting_selector nesting_test nesting_argument nesting_function also next walk_int walk_bound walk_step walk_slice walk_numeral walk_literal operator_form walk_singular_segment walk_singular_segments walk_singular as_test negated compared as_nodes as_value named only as_regex call walk walk_segments walk_segment walk_bracketed walk_selectors walk_selector walk_or walk_more_or walk_and walk_more_and walk_basic walk_paren walk_test walk_filter_query walk_comparable walk_function walk_arguments walk_more_arguments walk_argument node_value number_of same_number is_null boolean_of text_of list_of map_of same_boolean same_text same is_less numbers_less texts_less less is_boolean less_or_same is_some compare_values same_node same_elements same_members read_ccchar read_end read_item read_first read_items read_ranges read_class count_from read_count read_upper read_braces read_quantifier read_leaf read_alternatives read_branch read_piece read_atom read_regexp regexp_of test_by regex_test regex_text regex_values flat keep pick found is_found first_value only_value literal_value count_value length_of_value length_value truth selected eval_query eval_segments eval_selectors eval_selector eval_test eval_argument eval_function pool_literal pooled start_kind operator_byte scope_kind given eight_of code_slice code_literal plan_of pool_of pool_query pool_segments pool_selectors pool_selector pool_test pool_argument pool_function code_query code_segments code_selectors code_selector code_test code_argument code_function early judge refusal_of write compile_by refuse_run place place_from run_table run_by
computes = 0
