-- A count that grows by one in 32 bits and does not wrap, and the headers that are made so. Assumes nothing.
use Prim.Native.Nat.{ℕ, ◌+◌, ◌-◌, ◌<◌, ◌^◌}
use mathlib.Core.Path.{◌≡◌}
use native.Mathlib.Omega.{arith}
use Rattle.rules.specs.Words.{rise}
use Rattle.rules.specs.Headers.{one_more, grown}
use Rattle.rules.specs.declared.Header.{Header}

pub risen : (n : ℕ) → n < 2 ^ 32 - 1 → rise n ≡ n + 1
risen n h = omega arith

pub more : (hd : Header) → hd.live < 2 ^ 32 - 1 → record { used = hd.used; live = rise hd.live } ≡ one_more hd
more hd h = rw (risen hd.live h)

pub more_used : (hd : Header) → hd.used < 2 ^ 32 - 1 → hd.live < 2 ^ 32 - 1 →
    record { used = rise hd.used; live = rise hd.live } ≡ grown hd
more_used hd h j = rw (risen hd.used h, risen hd.live j)
