-- What a process has, as code and as definitions, and how far below its stack an instruction may fall.
use Rattle.std.specs.Prelude.{ℕ, ◌-◌, ◌<◌, ◌≤◌, false, []}
use Rattle.flat_state.specs.Space.{Space, stack_top, stack_reach}
use Rattle.flat_state.specs.Flat.{Holding, Holds, Lends, Zombie, Process, cleared}
use Rattle.user_vax.specs.declared.stepped.Stepped.{Stepped}
use Rattle.user_vax.specs.declared.stepped.Stepped.TheVariants as steps
use Rattle.flat_process.specs.declared.process.Held.{Held}
use Rattle.flat_process.specs.declared.process.Held.TheVariants as helds

-- what a process has, as the definitions name it
abbrev pub holding_of : Held → Holding
holding_of (helds.Space s) = Holds s
holding_of (helds.Lent sid child) = Lends sid child
holding_of (helds.Zombie status) = Zombie status

-- the space that is held; an empty one where none is
abbrev pub no_space : Space
no_space = record { sid = 0; image = 0; text_bytes = []; data_bytes = []; stack_bytes = [] }

-- the space that a process holds, by its holding; an empty one where it holds none
abbrev pub space_in : Holding → Space
space_in (Holds s) = s
space_in (Lends sid child) = no_space
space_in (Zombie status) = no_space

-- a process that has no space
abbrev pub no_process : Process
no_process = record { pid = 0; parent = 0; regs = cleared; holding = Zombie 0; asleep = false }

-- within the stack's reach
pub record IsNear (address : ℕ) : Type 0 where
  pub near : stack_top - stack_reach ≤ address
  pub under : address < stack_top

-- a byte below the stack is within its reach
abbrev pub IsNearStep : Stepped → Type 0
IsNearStep steps.Done = Unit {0}
IsNearStep (steps.Call number) = Unit {0}
IsNearStep (steps.Miss address write) = Unit {0}
IsNearStep (steps.Below address) = IsNear address
IsNearStep (steps.Signal number) = Unit {0}
