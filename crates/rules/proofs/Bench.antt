-- The bench table stands: every script of specs/Cases, run by the rules, replies what is written beside its steps.
-- Proved by computation. Assumes nothing.
use mathlib.Core.List.{map}
use mathlib.Core.Path.{◌≡◌, refl}
use Rattle.rules.specs.Choice.{all_below, some_below, count_below}
use Rattle.rules.specs.Words.{link_at, set_link, new_slot, row_at, set_row, vacant_at, occupied_at}
use Rattle.rules.specs.Values.{unless}
use Rattle.rules.specs.Refusals.{◌▸◌, lent_number, header_number, shape_number, side_number, zero_number, live_key, live_number, entry_number, side_entry_number}
use Rattle.rules.specs.Start.{start_rule}
use Rattle.rules.specs.Access.{key_number}
use Rattle.rules.specs.Insert.{run_number, take_number, insert_number, take_new, take_slot, take_last, take_back, shortened, insert_step, insert_by, insert_rule}
use Rattle.rules.specs.Remove.{apart_number, left_number, right_number, remove_number, set_apart, join_right, join_left, join_both, freed, remove_step, remove_by, remove_slot, slot_number, remove_at, remove_rule}
use Rattle.rules.specs.Runs.{past_front, is_front, is_back, front_of}
use Rattle.rules.specs.Hop.{hop_number, hop_answer, hop_from, hop_rule}
use Rattle.rules.specs.Drain.{drain_rule}
use Rattle.rules.specs.Check.{ends_test, circle_test, sound_test, sound_number}
use Rattle.rules.specs.Clear.{drain_times, clear_rule}
use Rattle.rules.specs.Rebuild.{wrong_byte, rebuild_number, unlinked, chain_run, chain_slot, chain_slots, relinked, cleared_rows, rebuild_rule}
use Rattle.rules.specs.Bench.{replied, wanted}
use Rattle.rules.specs.Cases.{cases}

bench : map replied cases ≡ map wanted cases
unfolding all_below some_below count_below link_at set_link new_slot row_at set_row vacant_at occupied_at unless ◌▸◌ lent_number header_number shape_number side_number zero_number live_key live_number entry_number side_entry_number start_rule key_number run_number take_number insert_number take_new take_slot take_last take_back shortened insert_step insert_by insert_rule apart_number left_number right_number remove_number set_apart join_right join_left join_both freed remove_step remove_by remove_slot slot_number remove_at remove_rule past_front is_front is_back front_of hop_number hop_answer hop_from hop_rule drain_rule ends_test circle_test sound_test sound_number drain_times clear_rule wrong_byte rebuild_number unlinked chain_run chain_slot chain_slots relinked cleared_rows rebuild_rule
bench = refl
