-- The frame of a procedure: what CALLS and CALLG push, and what RET takes from it.
use Rattle.std.specs.Prelude.{ℕ, zero, suc, ◌+◌, ◌-◌, ◌*◌, ◌/◌, ◌%◌, ◌^◌, Bool, true, false, List, [], ◌∷◌, ◌++◌, if◌then◌else◌, ◌==◌, nat_le, slice_index}
use Rattle.vm_facts.specs.declared.regs.Regs.{Regs}
use Rattle.user_vax.specs.Signals.{sigill}
use Rattle.user_vax.specs.Program.{Program, Gives, Refuses, ◌>>=◌}
use Rattle.user_vax.specs.Operands.{register, with_register, past, number_at}
use Rattle.user_vax.specs.Effects.{Effect, registers_only, push_onto, pop, pop_into}

-- bit k of a number
abbrev pub bit : ℕ → ℕ → Bool
bit number k = number / 2 ^ k % 2 == 1

-- longwords go to the stack one after another
unfoldable pub push_all : Effect → List ℕ → Effect
push_all effect [] = effect
push_all effect (value ∷ values) = push_all (push_onto effect value) values

-- the registers below a number whose bit of the mask is set, the highest first
unfoldable pub saved : ℕ → List ℕ → ℕ → List ℕ
saved zero registers mask = []
saved (suc k) registers mask = if bit mask k then slice_index registers k ∷ saved k registers mask else saved k registers mask

-- the longword that keeps the two low bits of SP, whether a count was pushed, and the mask
abbrev pub state_longword : ℕ → Bool → ℕ → ℕ
state_longword low counted mask = low * 2 ^ 30 + (if counted then 2 ^ 29 else 0) + mask * 2 ^ 16

-- what a call pushes: the registers of the mask, PC, FP, AP, the state, and 0
abbrev pub frame : Regs → Bool → ℕ → List ℕ
frame regs counted mask =
    saved 12 regs.r mask
    ++ register regs 15 ∷ register regs 13 ∷ register regs 12 ∷ state_longword (register regs 14 % 4) counted mask ∷ 0 ∷ []

-- SP without its two low bits
abbrev pub with_aligned_stack : Regs → Regs
with_aligned_stack regs = with_register regs 14 (register regs 14 / 4 * 4)

-- the frame pushed, after what stands before it
unfoldable pub with_frame : Effect → Bool → ℕ → Effect
with_frame before counted mask =
    push_all (record before { regs = with_aligned_stack before.regs }) (frame before.regs counted mask)

-- the procedure entered: its code begins after the mask, FP is SP, and all codes are clear
abbrev pub procedure_entry : Effect → ℕ → ℕ → Effect
procedure_entry pushed ap target =
    record pushed {
      regs = record pushed.regs {
        r = (with_register (with_register (with_register pushed.regs 12 ap) 13 (register pushed.regs 14)) 15 (past target 2)).r;
        n = false;
        z = false;
        v = false;
        c = false;
      };
    }

-- the call of the procedure whose entry mask the target holds; its bits 15 to 12 are reserved
unfoldable pub procedure_call : Effect → Bool → ℕ → ℕ → Program Effect
procedure_call before counted ap target = do
  mask ← number_at 2 target
  if nat_le (2 ^ 12) mask then Refuses sigill
      else Gives (procedure_entry (with_frame before counted mask) ap target)

-- the registers of a mask are popped, the lowest first; so many of R0 to R11 are left
unfoldable pub restored : ℕ → ℕ → Regs → Program Regs
restored zero mask regs = Gives regs
restored (suc more) mask regs =
    (if bit mask (11 - more) then pop_into regs (11 - more) else Gives regs) >>= restored more mask

-- AP, FP and PC are popped
unfoldable pub linkage : Regs → Program Regs
linkage regs = do
  with_ap ← pop_into regs 12
  with_fp ← pop_into with_ap 13
  pop_into with_fp 15

-- the registers with SP so many bytes higher
abbrev pub with_raised_stack : Regs → ℕ → Regs
with_raised_stack regs by = with_register regs 14 (past (register regs 14) by)

-- the argument list is dropped, where a count of it was pushed: the count and so many longwords
unfoldable pub arguments_dropped : Bool → Regs → Program Regs
arguments_dropped false regs = Gives regs
arguments_dropped true regs = do
  count ← pop regs
  Gives (with_raised_stack count.0 (4 * (count.1 % 256)))

-- what RET does once the state longword is popped
unfoldable pub unwound : ℕ → Regs → Program Regs
unwound state regs = do
  linked ← linkage regs
  with_saved ← restored 12 (state / 2 ^ 16) linked
  arguments_dropped (bit state 29) (with_raised_stack with_saved (state / 2 ^ 30))

-- the registers with N, Z, V and C from bits 3, 2, 1 and 0 of the state longword
abbrev pub with_state_codes : Regs → ℕ → Regs
with_state_codes regs state = record regs { n = bit state 3; z = bit state 2; v = bit state 1; c = bit state 0 }

-- the registers after the return; bits 15 to 4 of the state are reserved, and are judged before more is popped
unfoldable pub registers_returned : Regs → Program Regs
registers_returned regs = do
  state ← pop (with_register regs 14 (past (register regs 13) 4))
  if state.1 / 2 ^ 4 % 2 ^ 12 == 0
      then (unwound state.1 state.0 >>= λ after. Gives (with_state_codes after state.1))
      else Refuses sigill

-- the return from a procedure
unfoldable pub procedure_return : Regs → Program Effect
procedure_return regs = registers_returned regs >>= λ after. Gives (registers_only after)
