-- The starred cases come out as 01 says, by computation. Assumes nothing.
use Rattle.std.specs.Prelude.{refl}
use Rattle.model.specs.Answers.{after, lowest, each}
use Rattle.model.specs.Lists.{table, all}
use Rattle.model.specs.Bytes.{number_of, half_at, bytes_of, words_of, word_at, signed_words, written}
use Rattle.model.specs.Values.{wrap, negate, plus, minus, times, quotient, remainder, of_size}
use Rattle.model.specs.Image.{trailer_of, length_fits, marked, table_fits, starts_fit, tables_of, others_fit, sizes_fit, entries_fit, entries_right}
use Rattle.model.specs.Rows.{codes, lookup, shape_of, is_kind, next_of, list_up_to, names, list_fits, field_fits, formed, is_root, unless_none, named_by, named_in, named_by_rows, named, occurs, named_once}
use Rattle.model.specs.Decode.{grow_expression, expression_by, expression_at, condition_at, grow_pattern, pattern_by, pattern_at, list_at, offer_of, branches_of, arms_of, grow_action, action_by, action_at, rule_at}
use Rattle.model.specs.Masks.{digit, bit, full, meet, join, without, union, inside, apart}
use Rattle.model.specs.Typing.{type_of_exp, type_of_pat, typed_exp, typed_pat, arms_of_type, typed_act, typed}
use Rattle.model.specs.Binding.{use_of_exp, def_of_pat, use_of_pat, distinct, ordered, touches, bound_act, parameters_of, bound}
use Rattle.model.specs.Sets.{loop_set, ends, jumps, use_of_arms, fine, targets}
use Rattle.model.specs.Largest.{settle, spread, reached_of, carried, sweep, alike, sum, begun, sets_of, initialised}
use Rattle.model.specs.Speech.{some_catches_all, some_catches, each_caught, exhaustive, speech, well_spoken}
use Rattle.model.specs.Run.{slot, store, defined, apply_unary, apply_binary, eval, test, match, label_words, charge, and_then, reading, reading_of, valued, blocked_at, tested, storing, choosing, resetting, offering, communicating, looping, exec}
use Rattle.model.specs.Calls.{rows_verdict, rules_verdict, image_verdict, flow_verdict, check_verdict, check, parameter_count, start_store, slot_of_type, start_verdict, start, slot_fits, step_verdict, attempt, moved_as, step}
use Rattle.model.specs.Exports.{check_bytes, start_bytes, step_bytes, decimal_by, count, lines, listing}
use Rattle.model.specs.Cases.{halves, entry_bytes, row_bytes, trailer_bytes, encode, small, writing, writer, cut, forgotten, dead, losing, sums, unentered, threading, exchanging, guarded_arm, guarded_constant, zero_rounds, keeping, cases, AllRight, done, both}

pub starred : AllRight cases
unfolding after lowest each table all number_of half_at bytes_of words_of word_at signed_words written wrap negate plus minus times quotient remainder of_size trailer_of length_fits marked table_fits starts_fit tables_of others_fit sizes_fit entries_fit entries_right codes lookup shape_of is_kind next_of list_up_to names list_fits field_fits formed is_root unless_none named_by named_in named_by_rows named occurs named_once grow_expression expression_by expression_at condition_at grow_pattern pattern_by pattern_at list_at offer_of branches_of arms_of grow_action action_by action_at rule_at digit bit full meet join without union inside apart type_of_exp type_of_pat typed_exp typed_pat arms_of_type typed_act typed use_of_exp def_of_pat use_of_pat distinct ordered touches bound_act parameters_of bound loop_set ends jumps use_of_arms fine targets settle spread reached_of carried sweep alike sum begun sets_of initialised some_catches_all some_catches each_caught exhaustive speech well_spoken slot store defined apply_unary apply_binary eval test match label_words charge and_then reading reading_of valued blocked_at tested storing choosing resetting offering communicating looping exec rows_verdict rules_verdict image_verdict flow_verdict check_verdict check parameter_count start_store slot_of_type start_verdict start slot_fits step_verdict attempt moved_as step check_bytes start_bytes step_bytes decimal_by count lines listing halves entry_bytes row_bytes trailer_bytes encode small writing writer cut forgotten dead losing sums unentered threading exchanging guarded_arm guarded_constant zero_rounds keeping cases
starred =
    both refl (both refl (both refl (both refl (both refl (both refl (both refl (both refl (both refl (both refl (both refl (both refl (both refl (both refl (both refl (both refl (both refl (both refl (both refl (both refl (both refl (both refl (both refl (both refl (both refl (both refl (both refl (done)))))))))))))))))))))))))))
