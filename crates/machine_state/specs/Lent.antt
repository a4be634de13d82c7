-- The machine once a memory that it lent is given back: some bytes were written.
use Rattle.std.specs.Prelude.{◌≡◌, List}
use Rattle.std.specs.Borrow.{MutBor}
use Rattle.vm_facts.specs.Answers.{ByteWrite}
use Rattle.machine_state.specs.declared.user_memory.Layout.{Layout}
use Rattle.table_steps.specs.Machine.{Standing}
use Rattle.table_steps.specs.UserMemory.{Wrote}

-- through one reference, in one space, these bytes were written
abbrev pub WroteThrough : MutBor Standing → Layout → List ByteWrite → MutBor Standing → Layout → Type 0
WroteThrough m l ws n k = (n.ghost_name ≡ m.ghost_name) × (k ≡ l) × Wrote m.now l.sid ws n.now
