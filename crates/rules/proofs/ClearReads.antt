-- Clear never reads a slot from used upward, nor writes one: it is the drain step over and over. Assumes nothing.
use Prim.Native.Nat.{ℕ, zero, suc, ◌+◌}
use Rattle.rules.specs.Values.{done}
use Rattle.rules.specs.Drain.{drain_rule}
use Rattle.rules.specs.Clear.{drain_times, clear_rule}
use Rattle.rules.specs.NeverRead.{NeverReads}
use Rattle.rules.specs.declared.Header.{Header}
use Rattle.rules.proofs.RemoveReads.{drain_never_reads, drain_used}
use Rattle.rules.proofs.Steady.{Steady, none_steady, then_steady, rule_steady, steps_never_read}
use Rattle.rules.proofs.CheckReads.{entry_sound_never_reads}

drains_steady : (n : ℕ) → Steady (drain_times n)
unfolding drain_times
drains_steady zero = none_steady
drains_steady (suc n) = then_steady (rule_steady drain_rule drain_never_reads drain_used) (drains_steady n)

pub clear_never_reads : (hd : Header) → NeverReads hd.used (λ l r. clear_rule l r hd)
unfolding clear_rule
clear_never_reads hd = steps_never_read hd done _ (entry_sound_never_reads hd) _ (drains_steady (hd.live + 1))
