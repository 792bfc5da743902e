-- The season of specs/Season is a history, and the definitions say of it what they should; and so of the damaged table of specs/Wet. Proved
-- by computation. Assumes nothing.
use mathlib.Core.Path.{refl}
use borrow.Author.Tests.{eqb-false}
use Rattle.rules.specs.Choice.{all_below, some_below, count_below, alike}
use Rattle.rules.specs.Words.{link_at, set_link, new_slot, row_at, set_row, vacant_at, occupied_at}
use Rattle.rules.specs.Values.{unless}
use Rattle.rules.specs.Refusals.{◌▸◌, lent_number, header_number, shape_number, side_number, zero_number, live_key, live_number, entry_number, side_entry_number}
use Rattle.rules.specs.Start.{start_rule, room_rule}
use Rattle.rules.specs.Access.{key_number, look_rule, look_start, replace_number, replace_rule}
use Rattle.rules.specs.Insert.{run_number, take_number, insert_number, take_new, take_slot, take_last, take_back, shortened, insert_step, insert_by, insert_rule}
use Rattle.rules.specs.Remove.{apart_number, left_number, right_number, remove_number, set_apart, join_right, join_left, join_both, freed, remove_step, remove_by, remove_slot, slot_number, remove_at, remove_rule}
use Rattle.rules.specs.Runs.{past_front, is_front, is_back, front_of}
use Rattle.rules.specs.Hop.{hop_number, hop_answer, hop_from, hop_rule}
use Rattle.rules.specs.Drain.{drain_rule}
use Rattle.rules.specs.Check.{ends_test, circle_test, sound_test, sound_number, check_rule}
use Rattle.rules.specs.Clear.{drain_times, clear_rule}
use Rattle.rules.specs.Retain.{remove_if, remove_chosen, retain_number, retain_rule}
use Rattle.rules.specs.Rebuild.{wrong_byte, rebuild_number, rebuild_rule}
use Rattle.rules.specs.Bench.{lend}
use Rattle.history.specs.Calls.{start}
use Rattle.history.specs.Events.{all_removed}
use Rattle.history.specs.Season.{Told}
use Rattle.history.specs.Wet.{Kept}

tried : Told
unfolding all_below some_below count_below link_at set_link new_slot row_at set_row vacant_at occupied_at unless ◌▸◌ lent_number header_number shape_number side_number zero_number live_key live_number entry_number side_entry_number start_rule room_rule key_number look_rule look_start replace_number replace_rule run_number take_number insert_number take_new take_slot take_last take_back shortened insert_step insert_by insert_rule apart_number left_number right_number remove_number set_apart join_right join_left join_both freed remove_step remove_by remove_slot slot_number remove_at remove_rule past_front is_front is_back front_of hop_number hop_answer hop_from hop_rule drain_rule ends_test circle_test sound_test sound_number check_rule drain_times clear_rule remove_if remove_chosen retain_number retain_rule rebuild_number rebuild_rule all_removed alike
tried =
    record {
      begun = record {
        by = start;
        links = (lend 4).links;
        rows = (lend 4).rows;
        header = (lend 4).header;
        unrefused = λ e. eqb-false 0 1 refl (cc (e));
        leaves = refl;
      };
      within = (tt, (tt, (tt, (tt, (tt, (tt, (tt, (tt, (tt, (refl, (tt, (tt, (tt, (tt, (tt, (tt, (tt, (tt, (tt, tt)))))))))))))))))));
      answered = refl;
      early_known = refl;
      early_found = refl;
      middle_known = refl;
      middle_found = refl;
      first_words = refl;
      early_words = refl;
      row_handed_back = refl;
      happened = refl;
      removals = refl;
      lasting = refl;
      highest = refl;
    }

kept : Kept
unfolding all_below some_below count_below link_at vacant_at unless ◌▸◌ lent_number header_number shape_number side_number zero_number live_key live_number entry_number side_entry_number key_number look_rule replace_number replace_rule run_number take_number insert_number insert_by insert_rule apart_number left_number right_number remove_number remove_by remove_slot remove_rule past_front is_front is_back front_of ends_test circle_test sound_test sound_number check_rule clear_rule retain_number retain_rule wrong_byte rebuild_number rebuild_rule
kept = record { answered = refl; unchanged = refl; rows = refl }
