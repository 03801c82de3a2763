-- The examples are read as their models, which the checker computes, and so they state them.
use Rattle.std.proofs.Common.{refl}
use Rattle.fzn_lexer.specs.Bytes.{is_single}
use Rattle.fzn_lexer.specs.Scan.{word_len, based_len, unsigned_len, number_len, fraction_len, signed_len, exponent_len, tail_len, decimal_len, real_len, quoted_len, text_len, mark_len, longest_at}
use Rattle.fzn_lexer.specs.Passes.{spots_from}
use Rattle.fzn_builtin.specs.Arguments.{term_at, terms_at, set_at as set_argument_at}
use Rattle.fzn_builtin.specs.Builtins.{needs_of, least_of, shape_of}
use Rattle.fzn_builtin.specs.Constraints.{linear, sum, clause, member}
use Rattle.fzn_reader.specs.Refusals.{mark_at, word_at, name_at, separator_at, repeat, next_at, more_at, separated_at}
use Rattle.fzn_reader.specs.Numbers.{number_in}
use Rattle.fzn_reader.specs.Exprs.{begins}
use Rattle.fzn_reader.specs.Sets.{number_at, range_at, one_number, braces_at}
use Rattle.fzn_reader.specs.Types.{partype_at, vartype_at, new_name_at, set_at}
use Rattle.fzn_reader.specs.Scalars.{scalar_at}
use Rattle.fzn_reader.specs.Lists.{one_element, elements_at}
use Rattle.fzn_reader.specs.Annotations.{any_number_at, ann_number_at, ann_with, group_with, annexpr_at, group_at, ann_at, annotation_at, annotations_at}
use Rattle.fzn_reader.specs.Outputs.{variable_ann, one_range, index_ranges_at, array_ann}
use Rattle.fzn_reader.specs.Items.{parameter_at, initialiser_at, variable_at, one_at, length_at, opening_at, closing_at, list_at, one_set, sets_at, parameters_at, variables_at, array_at}
use Rattle.fzn_reader.specs.Drafts.{with_var}
use Rattle.fzn_reader.specs.Constraints.{misfit, written_list, list_arg_at, one_arg, built_at, call_at, constraint_at}
use Rattle.fzn_reader.specs.Solving.{solve_ann, goal_at, solve_at}
use Rattle.fzn_reader.specs.Search.{choice_at, one_variable, written_vars, pick_at, opening_at as search_opening_at, one_search, search_list_at, one_pick, picks_with, picks_at, order_of}
use Rattle.fzn_reader.specs.Reading.{predicate_at, item_at, one_item, items_at, reads}
use Rattle.fzn_parser.specs.Examples.{Examples}
use Rattle.fzn_parser.proofs.MadeFile.{reads_states}

pub examples : Examples
unfolding is_single word_len based_len unsigned_len number_len fraction_len signed_len exponent_len tail_len decimal_len real_len quoted_len text_len mark_len longest_at spots_from term_at terms_at set_argument_at needs_of least_of shape_of linear sum clause member mark_at word_at name_at separator_at repeat next_at more_at separated_at number_in begins number_at range_at one_number braces_at partype_at vartype_at new_name_at set_at scalar_at one_element elements_at any_number_at ann_number_at ann_with group_with annexpr_at group_at ann_at annotation_at annotations_at variable_ann one_range index_ranges_at array_ann parameter_at initialiser_at variable_at one_at length_at opening_at closing_at list_at one_set sets_at parameters_at variables_at array_at with_var misfit written_list list_arg_at one_arg built_at call_at constraint_at solve_ann goal_at solve_at choice_at one_variable written_vars pick_at search_opening_at one_search search_list_at one_pick picks_with picks_at order_of predicate_at item_at one_item items_at reads
examples = (reads_states _ _ refl, reads_states _ _ refl, reads_states _ _ refl, reads_states _ _ refl, reads_states _ _ refl, reads_states _ _ refl, reads_states _ _ refl, reads_states _ _ refl, reads_states _ _ refl, reads_states _ _ refl)
