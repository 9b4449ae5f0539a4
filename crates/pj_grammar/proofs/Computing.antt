-- All that a worked row computes with.
use Rattle.std.specs.Prelude.{ℕ}
use Rattle.pj_words.specs.Reserved.{all_words, reserved_word}
use Rattle.pj_lex.specs.Signs.{all_signs}
use Rattle.pj_grammar.specs.Closing.{closed_line}
use Rattle.pj_grammar.specs.Frames.{settle}
use Rattle.pj_grammar.specs.Machine.{run, step}
use Rattle.pj_grammar.specs.Makers.{abstract_of, argument_after, argument_before, assign_of, bare_return, break_of, call_of, conditional_of, const_of, continue_of, declared, directive_of, entry_after, entry_before, eval_of, field_of, for_of, group_of, if_of, infix_of, lacks, leaf, line_after, line_before, method_defined, method_evaluated, method_of, name_of, no_arguments, no_entries, no_lines, paths_given, prefix_of, return_of, run_of, set_evaluated, struct_of, using_of, value_evaluated, value_of, while_of}
use Rattle.pj_grammar.specs.Modules.{names_used}
use Rattle.pj_grammar.specs.Need.{depth, need}
use Rattle.pj_grammar.specs.RowTexts.{answer, kind_of, needed, numbered, pieces, stop}

unfoldable pub computing : ℕ
unfolding all_words reserved_word all_signs closed_line settle run step abstract_of argument_after argument_before assign_of bare_return break_of call_of conditional_of const_of continue_of declared directive_of entry_after entry_before eval_of field_of for_of group_of if_of infix_of lacks leaf line_after line_before method_defined method_evaluated method_of name_of no_arguments no_entries no_lines paths_given prefix_of return_of run_of set_evaluated struct_of using_of value_evaluated value_of while_of names_used answer kind_of need depth needed numbered pieces stop
computing = 0
