-- Of two reasons why a line is bad the first.
use Rattle.std.specs.Prelude.{Option, Some, None}

-- no reason where there is one already
abbrev pub or_else : {A : Type 0} → Option A → Option A → Option A
or_else (Some why) other = Some why
or_else None other = other
