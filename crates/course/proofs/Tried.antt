-- The day of specs/Day, and document 01's whole run, are what the rule of the stream says. Proved by computation. Assumes nothing.
use mathlib.Core.Path.{refl}
use Rattle.rules.specs.Choice.{all_below, some_below, count_below, alike}
use Rattle.rules.specs.Words.{link_at, set_link, new_slot, row_at, set_row, vacant_at, occupied_at}
use Rattle.rules.specs.Values.{unless}
use Rattle.rules.specs.Refusals.{◌▸◌, lent_number, header_number, shape_number, side_number, zero_number, live_key, live_number, entry_number, side_entry_number}
use Rattle.rules.specs.Start.{start_rule}
use Rattle.rules.specs.Access.{key_number, look_row_rule}
use Rattle.rules.specs.Insert.{run_number, take_number, insert_number, take_new, take_slot, take_last, take_back, shortened, insert_step, insert_by, insert_rule}
use Rattle.rules.specs.Remove.{apart_number, left_number, right_number, remove_number, set_apart, join_right, join_left, join_both, freed, remove_step, remove_by, remove_slot, slot_number, remove_at, remove_rule}
use Rattle.rules.specs.Runs.{past_front, is_front, is_back, front_of}
use Rattle.rules.specs.Hop.{hop_number, hop_answer, hop_from, hop_rule}
use Rattle.rules.specs.Drain.{drain_rule}
use Rattle.rules.specs.Check.{ends_test, circle_test, sound_test, sound_number}
use Rattle.rules.specs.Clear.{drain_times, clear_rule}
use Rattle.wire.specs.Commands.{command_of}
use Rattle.wire.specs.Words.{bytes_of, words_bytes, key_bytes, word_at, key_in, row_in}
use Rattle.wire.specs.Replies.{saying_bytes, fits, replied, replied_to}
use Rattle.hearing.specs.Heard.{heard, possible}
use Rattle.stream.specs.Repeats.{while}
use Rattle.stream.specs.Feeding.{fed_once, waits, going, fed_whole, feed_number, feed_rule}
use Rattle.course.specs.Course.{walked, walked_out}
use Rattle.course.specs.Day.{Told}

tried : Told
unfolding all_below some_below count_below alike link_at set_link new_slot row_at set_row vacant_at occupied_at unless ◌▸◌ lent_number header_number shape_number side_number zero_number live_key live_number entry_number side_entry_number start_rule key_number look_row_rule run_number take_number insert_number take_new take_slot take_last take_back shortened insert_step insert_by insert_rule apart_number left_number right_number remove_number set_apart join_right join_left join_both freed remove_step remove_by remove_slot slot_number remove_at remove_rule past_front is_front is_back front_of hop_number hop_answer hop_from hop_rule drain_rule ends_test circle_test sound_test sound_number drain_times clear_rule command_of bytes_of words_bytes key_bytes word_at key_in row_in saying_bytes fits replied replied_to heard possible while fed_once waits going fed_whole feed_number feed_rule walked walked_out
tried =
    record {
      document_01 = refl;
      day_replies = refl;
      kind_0 = refl;
      kind_6 = refl;
      kind_255 = refl;
      cut_body = refl;
      nothing = refl;
      evening_taken = refl;
      evening_written = refl;
      evening_waits = refl;
      evening_out = refl;
      evening_phase = refl;
      last_byte_to_come = refl;
      no_byte_to_come = refl;
      no_body = refl;
      no_kind = refl;
      walk_at_its_start = refl;
      walk_after_slot_0 = refl;
      walk_after_slot_1 = refl;
      walk_past_used = refl;
    }
