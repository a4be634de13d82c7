-- That fetching by bytes that lie together is fetching byte by byte.
use Rattle.std.specs.Prelude.{Result, Ok, Err}
use Rattle.vax_code.specs.declared.instr.Decoded.{Decoded}
use Rattle.vax_code.specs.declared.instr.Decoded.TheVariants as decodings
use Rattle.vax_code.specs.declared.instr.Instr.{Instr}
use Rattle.user_vax.specs.declared.refused.Refused.{Refused}
use Rattle.user_vax.specs.declared.refused.Refused.TheVariants.{Signal}
use Rattle.user_vax.specs.Signals.{sigill}

-- what is fetched, by what some bytes decode to and what comes of reading on
abbrev pub settled : Decoded → Result Instr Refused → Result Instr Refused
settled (decodings.Is instr) more = Ok instr
settled decodings.Reserved more = Err (Signal sigill)
settled decodings.NeedMore more = more
