-- What an instruction leaves: registers, bytes in order, and the call that it makes.
use Rattle.std.specs.Prelude.{ℕ, zero, suc, ◌+◌, ◌*◌, ◌/◌, ◌%◌, ◌^◌, ◌-◌, Bool, List, [], ◌∷◌, ◌++◌, if◌then◌else◌, ℤ, ◌==◌, nat_le, Option, None, false}
use Rattle.vm_facts.specs.declared.regs.Regs.{Regs}
use Rattle.vm_facts.specs.Answers.{ByteWrite}
use Rattle.vax_alu.specs.declared.Sum.{Sum}
use Rattle.vax_alu.specs.Results.{quotient_of}
use Rattle.user_vax.specs.declared.operand.Place.{Place}
use Rattle.user_vax.specs.declared.operand.Place.TheVariants as places
use Rattle.user_vax.specs.Signals.{sigfpe}
use Rattle.user_vax.specs.Program.{Program, Gives, Refuses, ◌>>=◌}
use Rattle.user_vax.specs.Operands.{register, with_register, past, back, number_at}

-- the registers afterwards, the bytes written in order, and the number of a system call if it is one
pub record Effect : Type 0 where
  pub regs : Regs
  pub writes : List ByteWrite
  pub call : Option ℤ

-- the registers alone
abbrev pub registers_only : Regs → Effect
registers_only regs = record { regs = regs; writes = []; call = None }

-- all four codes of a result
abbrev pub with_codes : Regs → Sum → Regs
with_codes regs sum = record regs { n = sum.n; z = sum.z; v = sum.v; c = sum.c }

-- the codes of a moved value of so many bytes: N and Z are its own, V is clear, and C is kept
abbrev pub with_move_codes : Regs → ℕ → ℕ → Regs
with_move_codes regs size value = record regs { n = nat_le (256 ^ size / 2) value; z = value == 0; v = false }

-- the codes of a tested value of so many bytes: N and Z are its own, V and C are clear
abbrev pub with_test_codes : Regs → ℕ → ℕ → Regs
with_test_codes regs size value = record (with_move_codes regs size value) { c = false }

-- the low bytes of a number from an address on, the lowest first
unfoldable pub bytes_at : ℕ → ℕ → ℕ → List ByteWrite
bytes_at zero address value = []
bytes_at (suc size) address value =
    record { address = address; byte = value % 256 } ∷ bytes_at size (past address 1) (value / 256)

-- a value goes to its place: in a register the low bytes alone change
unfoldable pub store_effect : Regs → ℕ → Place → ℕ → Effect
store_effect regs size places.Nowhere value = registers_only regs
store_effect regs size (places.Register reg) value =
    registers_only (with_register regs reg (register regs reg / 256 ^ size * 256 ^ size + value % 256 ^ size))
store_effect regs size (places.Memory address) value =
    record { regs = regs; writes = bytes_at size address value; call = None }

-- a value goes to its place and sets the codes of a move
abbrev pub move_effect : Regs → ℕ → Place → ℕ → Effect
move_effect regs size place value = store_effect (with_move_codes regs size value) size place value

-- a result goes to its place and sets its codes
abbrev pub result_effect : Regs → ℕ → Place → Sum → Effect
result_effect regs size place sum = store_effect (with_codes regs sum) size place sum.value

-- one more longword goes to the stack
unfoldable pub push_onto : Effect → ℕ → Effect
push_onto effect value =
    record effect {
      regs = with_register effect.regs 14 (back (register effect.regs 14) 4);
      writes = effect.writes ++ bytes_at 4 (back (register effect.regs 14) 4) value;
    }

-- a longword goes to the stack
abbrev pub push_effect : Regs → ℕ → Effect
push_effect regs value = push_onto (registers_only regs) value

-- a jump where the test holds
abbrev pub jump_effect : Bool → Regs → ℕ → Effect
jump_effect test regs target = registers_only (if test then with_register regs 15 target else regs)

-- the next index goes to its place, with its codes but C, and a jump follows where the test holds
abbrev pub count_effect : Regs → Place → Sum → Bool → ℕ → Effect
count_effect regs place sum test target =
    let stored = (store_effect (record regs { n = sum.n; z = sum.z; v = sum.v }) 4 place sum.value) in
    record stored { regs = if test then with_register stored.regs 15 target else stored.regs }

-- the quotient goes to its place; a divisor 0 is a signal
unfoldable pub division : Regs → Place → ℕ → ℕ → Program Effect
division regs place dividend divisor =
    if divisor == 0 then Refuses sigfpe else Gives (result_effect regs 4 place (quotient_of dividend divisor))

-- the call of a subroutine: the address of the next instruction is pushed
abbrev pub entry_effect : Regs → ℕ → Effect
entry_effect regs target =
    let pushed = push_effect regs (register regs 15) in
    record pushed { regs = with_register pushed.regs 15 target }

-- the longword that SP names is popped: the registers after it, and the longword
unfoldable pub pop : Regs → Program (Regs × ℕ)
pop regs = do
  value ← number_at 4 (register regs 14)
  Gives (with_register regs 14 (past (register regs 14) 4), value)

-- the longword that SP names is popped into a register
unfoldable pub pop_into : Regs → ℕ → Program Regs
pop_into regs reg = do
  popped ← pop regs
  Gives (with_register popped.0 reg popped.1)

-- the return from a subroutine: PC is popped
unfoldable pub subroutine_return : Regs → Program Effect
subroutine_return regs = pop_into regs 15 >>= λ after. Gives (registers_only after)

-- every bit turned
abbrev pub complement : ℕ → ℕ
complement word = 2 ^ 32 - 1 - word
