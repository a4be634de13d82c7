-- The lines of a process, from its record.
use Rattle.std.specs.Prelude.{ℕ, List, [], ◌∷◌, ◌++◌, Option, Some, None, codes}
use Rattle.proc_table.specs.declared.process.Proc.{Proc as Record}
use Rattle.machine_state.specs.Machine.{life_shown}
use Rattle.owner_lines.specs.Owners.{life_text, registers_text}
use Rattle.run_text.specs.Text.{parts}

-- the line of a process, as its record has it
abbrev pub record_line : Record → List ℕ
record_line p = codes "process" ++ parts (p.pid ∷ []) ++ life_text p.out p.asleep (life_shown p.state) ++ codes "\n"

-- the lines of a process, as its record has it: its own, and that of its registers where they are told
abbrev pub record_lines : Record → List ℕ
record_lines p = record_line p ++ registers_text p.out p.pid p.regs (life_shown p.state)

-- what is told of a process, if there is a record
abbrev pub record_if : Option Record → List ℕ
record_if None = []
record_if (Some p) = record_lines p
