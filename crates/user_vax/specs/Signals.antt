-- The signals that end a process by an instruction, by the numbers of 4.3BSD, sigvec(2).
use Rattle.std.specs.Prelude.{ℕ}
use Rattle.user_vax.specs.declared.refused.TheConstants.{SIGILL, SIGFPE, SIGBUS, SIGSEGV}

-- an illegal instruction: a reserved opcode, operand mode or mask
abbrev pub sigill : ℕ
sigill = SIGILL

-- an arithmetic exception: a division by 0
abbrev pub sigfpe : ℕ
sigfpe = SIGFPE

-- a bus error: a write to the text
abbrev pub sigbus : ℕ
sigbus = SIGBUS

-- a segmentation violation: an address in no segment
abbrev pub sigsegv : ℕ
sigsegv = SIGSEGV
