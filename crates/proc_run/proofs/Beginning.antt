-- What an instruction touches first: the page of its own first byte.
use Rattle.std.proofs.Common.{◌≡◌, ℕ, suc, ◌<◌, ◌^◌, List, [], ◌∷◌, Result, refl, sym, ap, ◌∙◌}
use Rattle.vm_facts.specs.Answers.{Answers}
use Rattle.vm_facts.specs.declared.memory.ByteRead.{ByteRead}
use Rattle.vm_facts.specs.declared.memory.ByteRead.TheVariants as reads
use Rattle.vm_facts.specs.declared.regs.Regs.{Regs}
use Rattle.vax_code.specs.declared.instr.Decoded.{Decoded}
use Rattle.vax_code.specs.declared.instr.Decoded.TheVariants as decodings
use Rattle.vax_code.specs.declared.instr.Instr.{Instr}
use Rattle.vax_code.specs.Reading.{decoded, instruction_at, next_byte}
use Rattle.vax_code.specs.Table.{row_for}
use Rattle.user_vax.specs.Effects.{Effect}
use Rattle.user_vax.specs.Instruction.{instruction, execution_by, fetch, on_decoded}
use Rattle.user_vax.specs.Operands.{register, past}
use Rattle.user_vax.specs.Program.{Reads, run, after_read}
use Rattle.user_vax.specs.declared.refused.Refused.{Refused}
use Rattle.user_vax.proofs.Numbers.{past-none}
use Rattle.user_vax.proofs.Runs.{run_bind, then}
use Rattle.flat_state.specs.declared.spot.Spot.{Spot}
use Rattle.flat_state.specs.declared.spot.Spot.TheVariants.{Text, Data, Stack, Below, Outside}
use Rattle.flat_state.specs.Space.{Space}
use Rattle.flat_state.specs.Flat.{Process, FlatState, NamedImage}
use Rattle.flat_model.specs.Shown.{is_shown, read_where}
use Rattle.kernel_model.specs.Kernel.{Kernel}
use Rattle.machine_state.specs.UserMemory.{page_in, page_at_spot, spot_in, read_spot}
use Rattle.step_units.specs.Growth.{space_of_pid}
use Rattle.proc_run.specs.Shown.{shown_in}
use Rattle.proc_run.specs.Missed.{missed_behind, first_missed, page_missed}

decoded_none : decoded [] ≡ decodings.NeedMore
unfolding decoded instruction_at next_byte
decoded_none = refl

fetched_by : (memory : Answers) (pc more : ℕ)
    → run memory (fetch (suc more) pc []) ≡ after_read (memory.read (past pc 0)) (past pc 0) (λ byte. run memory (fetch more pc (byte ∷ [])))
unfolding fetch
fetched_by memory pc more = ap (λ (d : Decoded). run memory (on_decoded d (Reads (past pc 0) (λ byte. fetch more pc (byte ∷ []))))) decoded_none

module _ (memory : Answers) (regs : Regs) where
  -- what the first byte leads to
  abbrev fetched_after : ByteRead → Result Instr Refused
  fetched_after answer = after_read answer (past (register regs 15) 0) (λ byte. run memory (fetch 19 (register regs 15) (byte ∷ [])))

  abbrev begun_after : ByteRead → Result Effect Refused
  begun_after answer = then (fetched_after answer) (λ instr. run memory (execution_by (row_for instr.op) regs instr))

  begins : (answer : ByteRead) → memory.read (past (register regs 15) 0) ≡ answer → run memory (instruction regs) ≡ begun_after answer
  unfolding instruction
  begins answer e =
      run_bind memory (fetch 20 (register regs 15) []) (λ instr. execution_by (row_for instr.op) regs instr)
      ∙ ap (λ (r : Result Instr Refused). then r (λ instr. run memory (execution_by (row_for instr.op) regs instr))) (fetched_by memory (register regs 15) 19)
      ∙ ap begun_after e

-- Where no page is shown, that page is missed, if there is one.
module _ (k : Kernel) (pid : ℕ) (regs : Regs) (small : register regs 15 < 2 ^ 32) (known : List NamedImage) (F : FlatState) (p : Process) (s : Space) where
  abbrev sid : ℕ
  sid = space_of_pid k pid

  abbrev at : ℕ
  at = past (register regs 15) 0

  abbrev bare : Answers
  bare = shown_in k sid []

  here : at ≡ register regs 15
  here = past-none (register regs 15) small

  read_at : (spot : Spot) → spot_in k.place sid at ≡ spot → bare.read at ≡ read_where (is_shown [] (page_at_spot k.place sid spot)) (read_spot k sid spot)
  read_at spot e = ap (λ (x : Spot). read_where (is_shown [] (page_at_spot k.place sid x)) (read_spot k sid x)) e

  page_at : (spot : Spot) → spot_in k.place sid at ≡ spot → page_in k.place sid (register regs 15) ≡ page_at_spot k.place sid spot
  page_at spot e = ap (page_in k.place sid) (sym here) ∙ ap (page_at_spot k.place sid) e

  missed_at : (answer : ByteRead) → bare.read at ≡ answer
      → page_missed k pid (first_missed known F p s bare regs) ≡ page_missed k pid (missed_behind known F p s bare (begun_after bare regs answer))
  missed_at answer e = ap (λ (r : Result Effect Refused). page_missed k pid (missed_behind known F p s bare r)) (begins bare regs answer e)

  missed_by : (spot : Spot) → spot_in k.place sid at ≡ spot → page_in k.place sid (register regs 15) ≡ page_missed k pid (first_missed known F p s bare regs)
  missed_by (Text i) e = sym (missed_at reads.Miss (read_at (Text i) e) ∙ ap (page_in k.place sid) here)
  missed_by (Data i) e = sym (missed_at reads.Miss (read_at (Data i) e) ∙ ap (page_in k.place sid) here)
  missed_by (Stack i) e = sym (missed_at reads.Miss (read_at (Stack i) e) ∙ ap (page_in k.place sid) here)
  missed_by Below e = page_at Below e ∙ sym (missed_at reads.Below (read_at Below e))
  missed_by Outside e = page_at Outside e ∙ sym (missed_at reads.Outside (read_at Outside e))

  pub first_page : page_in k.place (space_of_pid k pid) (register regs 15)
      ≡ page_missed k pid (first_missed known F p s (shown_in k (space_of_pid k pid) []) regs)
  first_page = missed_by (spot_in k.place sid at) refl
