-- Every header that a call hands back is the one it was given or one of these.
use Rattle.std.specs.Prelude.{ℕ, ◌+◌, ◌-◌}
use Rattle.rules.specs.declared.Header.{Header}

-- used 1, live 0
abbrev pub fresh : Header
fresh = record { used = 1; live = 0 }

-- live grows by 1
abbrev pub one_more : Header → Header
one_more hd = record { used = hd.used; live = hd.live + 1 }

-- used and live grow by 1
abbrev pub grown : Header → Header
grown hd = record { used = hd.used + 1; live = hd.live + 1 }

-- live falls by 1
abbrev pub one_less : Header → Header
one_less hd = record { used = hd.used; live = hd.live - 1 }

-- used becomes n, live the odd count
abbrev pub rebuilt : ℕ → ℕ → Header
rebuilt n odds = record { used = n; live = odds }
