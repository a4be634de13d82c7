-- The process that makes a call: when it may, and what its record says.
use Rattle.std.specs.Prelude.{◌≡◌, ℕ, [], Option, Some, None}
use Rattle.vm_facts.specs.declared.regs.Regs.{Regs}
use Rattle.flat_state.specs.Flat.{cleared}
use Rattle.kernel_model.specs.Kernel.{Kernel, Proc}
use Rattle.kernel_model.specs.Unit.{proc_of}
use Rattle.machine_state.specs.Going.{CanGoOn}
use Rattle.machine_state.specs.Machine.{Standing}
use Rattle.machine_state.specs.UserMemory.{CanLend}

-- the registers that a record has; all clear where there is none
abbrev pub regs_by : Option Proc → Regs
regs_by None = cleared
regs_by (Some p) = p.regs

-- the registers that its record has
abbrev pub regs_of : Kernel → ℕ → Regs
regs_of k pid = regs_by (proc_of k pid)

-- the parent's number that a record has; 0 where there is none
abbrev pub parent_by : Option Proc → ℕ
parent_by None = 0
parent_by (Some p) = p.parent

-- the number of its parent
abbrev pub parent_of : Kernel → ℕ → ℕ
parent_of k pid = parent_by (proc_of k pid)

-- the machine can go on, and no page is due; the process is there, holds a space that is there, and is in
pub record IsCaller (m : Standing) (pid : ℕ) : Type 0 where
  pub ready : CanGoOn m
  pub clear : m.kernel.place.due ≡ []
  pub lends : CanLend m.kernel pid
