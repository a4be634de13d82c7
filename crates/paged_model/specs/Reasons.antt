-- Of several reasons the first that holds.
use Rattle.std.specs.Prelude.{Bool, true, false, Option, Some, None}
use Rattle.paged_model.specs.declared.reason.Reason.{Reason}

-- this reason, unless the condition holds
abbrev pub unless : Bool → Reason → Option Reason
unless true r = None
unless false r = Some r

-- the first of two reasons
abbrev pub or_reason : Option Reason → Option Reason → Option Reason
or_reason (Some r) other = Some r
or_reason None other = other
