-- What each instruction of the two programs makes of the registers, and what it writes.
use Rattle.std.proofs.Common.{◌≡◌, ℕ, ◌+◌, ◌*◌, ◌/◌, ◌%◌, ◌^◌, Bool, true, false, not, ◌||◌, List, [], Option, Some, None, Result, Ok, ℤ, pos, refl, sym, subst}
use Rattle.std.specs.Int.{w32, from_le_bytes}
use Rattle.aout_image.specs.Image.{word_bytes}
use Rattle.vm_facts.specs.declared.regs.Regs.{Regs}
use Rattle.vax_alu.specs.declared.Sum.{Sum}
use Rattle.vax_alu.specs.Results.{sum_of, difference_of}
use Rattle.vm_facts.specs.declared.memory.ByteRead.{ByteRead}
use Rattle.vm_facts.specs.declared.memory.ByteRead.TheVariants as reads
use Rattle.vm_facts.specs.declared.memory.MayWrite.{MayWrite}
use Rattle.vm_facts.specs.declared.memory.MayWrite.TheVariants as tests
use Rattle.flat_state.specs.Space.{Space, spot_at, answers_of}
use Rattle.user_vax.specs.Effects.{Effect, bytes_at, store_effect, count_effect, result_effect}
use Rattle.user_vax.specs.Program.{after_read, after_test}
use Rattle.user_vax.specs.declared.operand.Place.TheVariants as places
use Rattle.user_vax.specs.declared.refused.Refused.{Refused}
use Rattle.flat_model.specs.Instruction.{instruction_in}
use Rattle.user_vax.specs.Computation.{computation}
use Rattle.user_vax.specs.Instruction.{fetch, evaluations, write_tests, tested_effect, execution, execution_by, instruction}
use Rattle.user_vax.specs.Operands.{past, number_at, address_of, evaluation_at, evaluation_through, evaluation}
use Rattle.vax_code.specs.Reading.{next_byte, next_number as number_read, next_signed, next_displacement, base_at, indexed_at, next_specifier, next_operand, with_count, operand_in_place, next_operands, instruction_at, decoded}
use Rattle.vax_code.specs.Table.{all_rows, row_for}
use Rattle.load_maker.specs.Programs.{w_bytes, v_bytes}
use Rattle.load_maker.specs.Stages.{LoadProgram, W, V, text_page, rounds_at, end_at, Bank, file}

-- a space that runs a program
unfoldable pub space_of : ℕ → LoadProgram → ℕ → ℕ → List ℕ → List ℕ → Space
space_of pages t sid image bytes stack = record { sid = sid; image = image; text_bytes = text_page pages t; data_bytes = bytes; stack_bytes = stack }

-- registers with these condition codes
unfoldable pub regs_of : Bank → ℕ → Bool → Bool → Bool → Bool → Regs
regs_of b pc n z v c = record { r = file b pc; n = n; z = z; v = v; c = c }

-- a longword in place of another
unfoldable pub stored : ℕ → ℕ → ℕ
stored old value = old / 256 ^ 4 * 256 ^ 4 + value % 256 ^ 4

-- it leaves these registers and writes nothing
pub record Leaves (r : Result Effect Refused) (b : Bank) (pc : ℕ) (call : Option ℤ) : Type 0 where
  pub n : Bool
  pub z : Bool
  pub v : Bool
  pub c : Bool
  pub is : r ≡ Ok (record { regs = regs_of b pc n z v c; writes = []; call = call })

module _ (pages sid image : ℕ) (bytes stack : List ℕ) (b : Bank) (n z v c : Bool) where
  pub w_will_break : Leaves (instruction_in (space_of pages W sid image bytes stack) (regs_of b 0x02 n z v c)) (record b { ap = stored b.ap 0xA0 }) 0x09 None
  unfolding space_of regs_of stored text_page w_bytes v_bytes spot_at bytes_at store_effect computation fetch evaluations write_tests tested_effect execution execution_by instruction
      number_at address_of evaluation_at evaluation_through evaluation next_byte number_read next_signed next_displacement base_at indexed_at next_specifier next_operand with_count
      operand_in_place next_operands
      instruction_at decoded row_for all_rows
  w_will_break = record { n = _; z = _; v = _; c = _; is = refl }

  pub w_breaks : Leaves (instruction_in (space_of pages W sid image bytes stack) (regs_of b 0x09 n z v c)) (b) 0x0b (Some (pos 17))
  unfolding space_of regs_of stored text_page w_bytes v_bytes spot_at bytes_at store_effect computation fetch evaluations write_tests tested_effect execution execution_by instruction
      number_at address_of evaluation_at evaluation_through evaluation next_byte number_read next_signed next_displacement base_at indexed_at next_specifier next_operand with_count
      operand_in_place next_operands
      instruction_at decoded row_for all_rows
  w_breaks = record { n = _; z = _; v = _; c = _; is = refl }

  pub w_forks : Leaves (instruction_in (space_of pages W sid image bytes stack) (regs_of b 0x0b n z v c)) (b) 0x0d (Some (pos 2))
  unfolding space_of regs_of stored text_page w_bytes v_bytes spot_at bytes_at store_effect computation fetch evaluations write_tests tested_effect execution execution_by instruction
      number_at address_of evaluation_at evaluation_through evaluation next_byte number_read next_signed next_displacement base_at indexed_at next_specifier next_operand with_count
      operand_in_place next_operands
      instruction_at decoded row_for all_rows
  w_forks = record { n = _; z = _; v = _; c = _; is = refl }

  pub w_waits : Leaves (instruction_in (space_of pages W sid image bytes stack) (regs_of b 0x30 n z v c)) (b) 0x34 (Some (pos 84))
  unfolding space_of regs_of stored text_page w_bytes v_bytes spot_at bytes_at store_effect computation fetch evaluations write_tests tested_effect execution execution_by instruction
      number_at address_of evaluation_at evaluation_through evaluation next_byte number_read next_signed next_displacement base_at indexed_at next_specifier next_operand with_count
      operand_in_place next_operands
      instruction_at decoded row_for all_rows
  w_waits = record { n = _; z = _; v = _; c = _; is = refl }

  pub w_will_run : Leaves (instruction_in (space_of pages W sid image bytes stack) (regs_of b 0x46 n z v c)) (record b { ap = stored b.ap 0xC0 }) 0x4d None
  unfolding space_of regs_of stored text_page w_bytes v_bytes spot_at bytes_at store_effect computation fetch evaluations write_tests tested_effect execution execution_by instruction
      number_at address_of evaluation_at evaluation_through evaluation next_byte number_read next_signed next_displacement base_at indexed_at next_specifier next_operand with_count
      operand_in_place next_operands
      instruction_at decoded row_for all_rows
  w_will_run = record { n = _; z = _; v = _; c = _; is = refl }

  pub w_runs : Leaves (instruction_in (space_of pages W sid image bytes stack) (regs_of b 0x4d n z v c)) (b) 0x4f (Some (pos 59))
  unfolding space_of regs_of stored text_page w_bytes v_bytes spot_at bytes_at store_effect computation fetch evaluations write_tests tested_effect execution execution_by instruction
      number_at address_of evaluation_at evaluation_through evaluation next_byte number_read next_signed next_displacement base_at indexed_at next_specifier next_operand with_count
      operand_in_place next_operands
      instruction_at decoded row_for all_rows
  w_runs = record { n = _; z = _; v = _; c = _; is = refl }

  pub w_begins : Leaves (instruction_in (space_of pages W sid image bytes stack) (regs_of b 0x10 n z v c)) (record b { r3 = stored b.r3 30 }) 0x13 None
  unfolding space_of regs_of stored text_page w_bytes v_bytes spot_at bytes_at store_effect computation fetch evaluations write_tests tested_effect execution execution_by instruction
      number_at address_of evaluation_at evaluation_through evaluation next_byte number_read next_signed next_displacement base_at indexed_at next_specifier next_operand with_count
      operand_in_place next_operands
      instruction_at decoded row_for all_rows
  w_begins = record { n = _; z = _; v = _; c = _; is = refl }

  pub w_rounds : Leaves (instruction_in (space_of pages W sid image bytes stack) (regs_of b 0x13 n z v c)) (record b { r4 = stored b.r4 0x400 }) 0x1a None
  unfolding space_of regs_of stored text_page w_bytes v_bytes spot_at bytes_at store_effect computation fetch evaluations write_tests tested_effect execution execution_by instruction
      number_at address_of evaluation_at evaluation_through evaluation next_byte number_read next_signed next_displacement base_at indexed_at next_specifier next_operand with_count
      operand_in_place next_operands
      instruction_at decoded row_for all_rows
  w_rounds = record { n = _; z = _; v = _; c = _; is = refl }

  pub w_loads : Leaves (instruction_in (space_of pages W sid image bytes stack) (regs_of b 0x1a n z v c))
      (record b { r5 = stored b.r5 (from_le_bytes w32 (word_bytes pages)) }) 0x21 None
  unfolding space_of regs_of stored text_page w_bytes v_bytes spot_at bytes_at store_effect computation fetch evaluations write_tests tested_effect execution execution_by instruction
      number_at address_of evaluation_at evaluation_through evaluation next_byte number_read next_signed next_displacement base_at indexed_at next_specifier next_operand with_count
      operand_in_place next_operands
      instruction_at decoded row_for all_rows
  w_loads = record { n = _; z = _; v = _; c = _; is = refl }

  pub w_will_write : Leaves (instruction_in (space_of pages W sid image bytes stack) (regs_of b 0x34 n z v c)) (record b { ap = stored b.ap 0xA8 }) 0x3b None
  unfolding space_of regs_of stored text_page w_bytes v_bytes spot_at bytes_at store_effect computation fetch evaluations write_tests tested_effect execution execution_by instruction
      number_at address_of evaluation_at evaluation_through evaluation next_byte number_read next_signed next_displacement base_at indexed_at next_specifier next_operand with_count
      operand_in_place next_operands
      instruction_at decoded row_for all_rows
  w_will_write = record { n = _; z = _; v = _; c = _; is = refl }

  pub w_writes : Leaves (instruction_in (space_of pages W sid image bytes stack) (regs_of b 0x3b n z v c)) (b) 0x3d (Some (pos 4))
  unfolding space_of regs_of stored text_page w_bytes v_bytes spot_at bytes_at store_effect computation fetch evaluations write_tests tested_effect execution execution_by instruction
      number_at address_of evaluation_at evaluation_through evaluation next_byte number_read next_signed next_displacement base_at indexed_at next_specifier next_operand with_count
      operand_in_place next_operands
      instruction_at decoded row_for all_rows
  w_writes = record { n = _; z = _; v = _; c = _; is = refl }

  pub w_will_exit : Leaves (instruction_in (space_of pages W sid image bytes stack) (regs_of b 0x3d n z v c)) (record b { ap = stored b.ap 0xB8 }) 0x44 None
  unfolding space_of regs_of stored text_page w_bytes v_bytes spot_at bytes_at store_effect computation fetch evaluations write_tests tested_effect execution execution_by instruction
      number_at address_of evaluation_at evaluation_through evaluation next_byte number_read next_signed next_displacement base_at indexed_at next_specifier next_operand with_count
      operand_in_place next_operands
      instruction_at decoded row_for all_rows
  w_will_exit = record { n = _; z = _; v = _; c = _; is = refl }

  pub w_exits : Leaves (instruction_in (space_of pages W sid image bytes stack) (regs_of b 0x44 n z v c)) (b) 0x46 (Some (pos 1))
  unfolding space_of regs_of stored text_page w_bytes v_bytes spot_at bytes_at store_effect computation fetch evaluations write_tests tested_effect execution execution_by instruction
      number_at address_of evaluation_at evaluation_through evaluation next_byte number_read next_signed next_displacement base_at indexed_at next_specifier next_operand with_count
      operand_in_place next_operands
      instruction_at decoded row_for all_rows
  w_exits = record { n = _; z = _; v = _; c = _; is = refl }

  pub w_moves : Leaves (instruction_in (space_of pages W sid image bytes stack) (regs_of b 0x23 n z v c))
      (record b { r4 = stored b.r4 (let s : Sum = sum_of (b.r4 % 256 ^ 4) 0x400 in s.value) }) 0x2a None
  unfolding space_of regs_of stored text_page w_bytes v_bytes spot_at bytes_at store_effect computation fetch evaluations write_tests tested_effect execution execution_by instruction
      number_at address_of evaluation_at evaluation_through evaluation next_byte number_read next_signed next_displacement base_at indexed_at next_specifier next_operand with_count
      operand_in_place next_operands
      instruction_at decoded row_for all_rows
  w_moves = record { n = _; z = _; v = _; c = _; is = refl }

  pub v_begins : Leaves (instruction_in (space_of pages V sid image bytes stack) (regs_of b 0x2 n z v c)) (record b { r3 = stored b.r3 30 }) 0x5 None
  unfolding space_of regs_of stored text_page w_bytes v_bytes spot_at bytes_at store_effect computation fetch evaluations write_tests tested_effect execution execution_by instruction
      number_at address_of evaluation_at evaluation_through evaluation next_byte number_read next_signed next_displacement base_at indexed_at next_specifier next_operand with_count
      operand_in_place next_operands
      instruction_at decoded row_for all_rows
  v_begins = record { n = _; z = _; v = _; c = _; is = refl }

  pub v_rounds : Leaves (instruction_in (space_of pages V sid image bytes stack) (regs_of b 0x5 n z v c)) (record b { r4 = stored b.r4 0x400 }) 0xc None
  unfolding space_of regs_of stored text_page w_bytes v_bytes spot_at bytes_at store_effect computation fetch evaluations write_tests tested_effect execution execution_by instruction
      number_at address_of evaluation_at evaluation_through evaluation next_byte number_read next_signed next_displacement base_at indexed_at next_specifier next_operand with_count
      operand_in_place next_operands
      instruction_at decoded row_for all_rows
  v_rounds = record { n = _; z = _; v = _; c = _; is = refl }

  pub v_loads : Leaves (instruction_in (space_of pages V sid image bytes stack) (regs_of b 0xc n z v c))
      (record b { r5 = stored b.r5 (from_le_bytes w32 (word_bytes pages)) }) 0x13 None
  unfolding space_of regs_of stored text_page w_bytes v_bytes spot_at bytes_at store_effect computation fetch evaluations write_tests tested_effect execution execution_by instruction
      number_at address_of evaluation_at evaluation_through evaluation next_byte number_read next_signed next_displacement base_at indexed_at next_specifier next_operand with_count
      operand_in_place next_operands
      instruction_at decoded row_for all_rows
  v_loads = record { n = _; z = _; v = _; c = _; is = refl }

  pub v_will_write : Leaves (instruction_in (space_of pages V sid image bytes stack) (regs_of b 0x22 n z v c)) (record b { ap = stored b.ap 0xA8 }) 0x29 None
  unfolding space_of regs_of stored text_page w_bytes v_bytes spot_at bytes_at store_effect computation fetch evaluations write_tests tested_effect execution execution_by instruction
      number_at address_of evaluation_at evaluation_through evaluation next_byte number_read next_signed next_displacement base_at indexed_at next_specifier next_operand with_count
      operand_in_place next_operands
      instruction_at decoded row_for all_rows
  v_will_write = record { n = _; z = _; v = _; c = _; is = refl }

  pub v_writes : Leaves (instruction_in (space_of pages V sid image bytes stack) (regs_of b 0x29 n z v c)) (b) 0x2b (Some (pos 4))
  unfolding space_of regs_of stored text_page w_bytes v_bytes spot_at bytes_at store_effect computation fetch evaluations write_tests tested_effect execution execution_by instruction
      number_at address_of evaluation_at evaluation_through evaluation next_byte number_read next_signed next_displacement base_at indexed_at next_specifier next_operand with_count
      operand_in_place next_operands
      instruction_at decoded row_for all_rows
  v_writes = record { n = _; z = _; v = _; c = _; is = refl }

  pub v_will_exit : Leaves (instruction_in (space_of pages V sid image bytes stack) (regs_of b 0x2b n z v c)) (record b { ap = stored b.ap 0xB8 }) 0x32 None
  unfolding space_of regs_of stored text_page w_bytes v_bytes spot_at bytes_at store_effect computation fetch evaluations write_tests tested_effect execution execution_by instruction
      number_at address_of evaluation_at evaluation_through evaluation next_byte number_read next_signed next_displacement base_at indexed_at next_specifier next_operand with_count
      operand_in_place next_operands
      instruction_at decoded row_for all_rows
  v_will_exit = record { n = _; z = _; v = _; c = _; is = refl }

  pub v_exits : Leaves (instruction_in (space_of pages V sid image bytes stack) (regs_of b 0x32 n z v c)) (b) 0x34 (Some (pos 1))
  unfolding space_of regs_of stored text_page w_bytes v_bytes spot_at bytes_at store_effect computation fetch evaluations write_tests tested_effect execution execution_by instruction
      number_at address_of evaluation_at evaluation_through evaluation next_byte number_read next_signed next_displacement base_at indexed_at next_specifier next_operand with_count
      operand_in_place next_operands
      instruction_at decoded row_for all_rows
  v_exits = record { n = _; z = _; v = _; c = _; is = refl }

  pub v_moves : Leaves (instruction_in (space_of pages V sid image bytes stack) (regs_of b 0x15 n z v c))
      (record b { r4 = stored b.r4 (let s : Sum = sum_of (b.r4 % 256 ^ 4) 0x400 in s.value) }) 0x1c None
  unfolding space_of regs_of stored text_page w_bytes v_bytes spot_at bytes_at store_effect computation fetch evaluations write_tests tested_effect execution execution_by instruction
      number_at address_of evaluation_at evaluation_through evaluation next_byte number_read next_signed next_displacement base_at indexed_at next_specifier next_operand with_count
      operand_in_place next_operands
      instruction_at decoded row_for all_rows
  v_moves = record { n = _; z = _; v = _; c = _; is = refl }

  pub w_parts_1 : Leaves (instruction_in (space_of pages W sid image bytes stack) (regs_of (record b { r1 = 1 }) 0x0d n z v c)) (record b { r1 = 1 }) 0x46 None
  unfolding space_of regs_of stored text_page w_bytes v_bytes spot_at bytes_at store_effect computation fetch evaluations write_tests tested_effect execution execution_by instruction
      number_at address_of evaluation_at evaluation_through evaluation next_byte number_read next_signed next_displacement base_at indexed_at next_specifier next_operand with_count
      operand_in_place next_operands
      instruction_at decoded row_for all_rows
  w_parts_1 = record { n = _; z = _; v = _; c = _; is = refl }

  pub w_parts_0 : Leaves (instruction_in (space_of pages W sid image bytes stack) (regs_of (record b { r1 = 0 }) 0x0d n z v c)) (record b { r1 = 0 }) 0x10 None
  unfolding space_of regs_of stored text_page w_bytes v_bytes spot_at bytes_at store_effect computation fetch evaluations write_tests tested_effect execution execution_by instruction
      number_at address_of evaluation_at evaluation_through evaluation next_byte number_read next_signed next_displacement base_at indexed_at next_specifier next_operand with_count
      operand_in_place next_operands
      instruction_at decoded row_for all_rows
  w_parts_0 = record { n = _; z = _; v = _; c = _; is = refl }

-- ---- an index that goes down

-- what an index in R5, or R3, leaves, by what it is after
pub counts_five : Bank → ℕ → Bool → Bool → Bool → Bool → ℕ → Sum → Effect
counts_five b pc n z v c target sum = count_effect (regs_of b pc n z v c) (places.Register 5) sum (not (sum.n || sum.z)) target

pub counts_three : Bank → ℕ → Bool → Bool → Bool → Bool → ℕ → Sum → Effect
counts_three b pc n z v c target sum = count_effect (regs_of b pc n z v c) (places.Register 3) sum (not (sum.n || sum.z)) target

module _ (b : Bank) (pc target : ℕ) (n z v c : Bool) (sum : Sum) where
  pub five_on : sum.n ≡ false → sum.z ≡ false → Leaves (Ok (counts_five b pc n z v c target sum)) (record b { r5 = stored b.r5 sum.value }) target None
  unfolding counts_five regs_of stored store_effect
  five_on hn hz = go sum.n sum.z hn hz
    where
      go : (x y : Bool) → x ≡ false → y ≡ false
          → Leaves (Ok (counts_five b pc n z v c target (record sum { n = x; z = y }))) (record b { r5 = stored b.r5 sum.value }) target None
      go false false e f = record { n = _; z = _; v = _; c = _; is = refl }
      go true y e f = absurd cc
      go false true e f = absurd cc

  pub five_off : sum.n ≡ false → sum.z ≡ true → Leaves (Ok (counts_five b pc n z v c target sum)) (record b { r5 = stored b.r5 sum.value }) pc None
  unfolding counts_five regs_of stored store_effect
  five_off hn hz = go sum.n sum.z hn hz
    where
      go : (x y : Bool) → x ≡ false → y ≡ true
          → Leaves (Ok (counts_five b pc n z v c target (record sum { n = x; z = y }))) (record b { r5 = stored b.r5 sum.value }) pc None
      go false true e f = record { n = _; z = _; v = _; c = _; is = refl }
      go true y e f = absurd cc
      go false false e f = absurd cc

  pub three_on : sum.n ≡ false → sum.z ≡ false → Leaves (Ok (counts_three b pc n z v c target sum)) (record b { r3 = stored b.r3 sum.value }) target None
  unfolding counts_three regs_of stored store_effect
  three_on hn hz = go sum.n sum.z hn hz
    where
      go : (x y : Bool) → x ≡ false → y ≡ false
          → Leaves (Ok (counts_three b pc n z v c target (record sum { n = x; z = y }))) (record b { r3 = stored b.r3 sum.value }) target None
      go false false e f = record { n = _; z = _; v = _; c = _; is = refl }
      go true y e f = absurd cc
      go false true e f = absurd cc

  pub three_off : sum.n ≡ false → sum.z ≡ true → Leaves (Ok (counts_three b pc n z v c target sum)) (record b { r3 = stored b.r3 sum.value }) pc None
  unfolding counts_three regs_of stored store_effect
  three_off hn hz = go sum.n sum.z hn hz
    where
      go : (x y : Bool) → x ≡ false → y ≡ true
          → Leaves (Ok (counts_three b pc n z v c target (record sum { n = x; z = y }))) (record b { r3 = stored b.r3 sum.value }) pc None
      go false true e f = record { n = _; z = _; v = _; c = _; is = refl }
      go true y e f = absurd cc
      go false false e f = absurd cc

module _ (pages sid image : ℕ) (bytes stack : List ℕ) (b : Bank) (n z v c : Bool) where
  pub w_closes : instruction_in (space_of pages W sid image bytes stack) (regs_of b 0x2a n z v c) ≡ Ok
      (counts_five b 0x2d n z v c 0x21 (difference_of (b.r5 % 256 ^ 4) 1))
  unfolding counts_five space_of regs_of stored text_page w_bytes v_bytes spot_at bytes_at store_effect computation fetch evaluations write_tests tested_effect execution execution_by
      instruction number_at address_of evaluation_at evaluation_through evaluation next_byte number_read next_signed next_displacement base_at indexed_at next_specifier next_operand
      with_count operand_in_place
      next_operands instruction_at decoded row_for all_rows
  w_closes = refl

  pub w_repeats : instruction_in (space_of pages W sid image bytes stack) (regs_of b 0x2d n z v c) ≡ Ok
      (counts_three b 0x30 n z v c 0x13 (difference_of (b.r3 % 256 ^ 4) 1))
  unfolding counts_three space_of regs_of stored text_page w_bytes v_bytes spot_at bytes_at store_effect computation fetch evaluations write_tests tested_effect execution execution_by
      instruction number_at address_of evaluation_at evaluation_through evaluation next_byte number_read next_signed next_displacement base_at indexed_at next_specifier next_operand
      with_count operand_in_place
      next_operands instruction_at decoded row_for all_rows
  w_repeats = refl

  pub v_closes : instruction_in (space_of pages V sid image bytes stack) (regs_of b 0x1c n z v c) ≡ Ok
      (counts_five b 0x1f n z v c 0x13 (difference_of (b.r5 % 256 ^ 4) 1))
  unfolding counts_five space_of regs_of stored text_page w_bytes v_bytes spot_at bytes_at store_effect computation fetch evaluations write_tests tested_effect execution execution_by
      instruction number_at address_of evaluation_at evaluation_through evaluation next_byte number_read next_signed next_displacement base_at indexed_at next_specifier next_operand
      with_count operand_in_place
      next_operands instruction_at decoded row_for all_rows
  v_closes = refl

  pub v_repeats : instruction_in (space_of pages V sid image bytes stack) (regs_of b 0x1f n z v c) ≡ Ok
      (counts_three b 0x22 n z v c 0x5 (difference_of (b.r3 % 256 ^ 4) 1))
  unfolding counts_three space_of regs_of stored text_page w_bytes v_bytes spot_at bytes_at store_effect computation fetch evaluations write_tests tested_effect execution execution_by
      instruction number_at address_of evaluation_at evaluation_through evaluation next_byte number_read next_signed next_displacement base_at indexed_at next_specifier next_operand
      with_count operand_in_place
      next_operands instruction_at decoded row_for all_rows
  v_repeats = refl

-- ---- a page that is changed

-- the bytes of a longword are there, and may be written
pub record HasWord (s : Space) (a : ℕ) : Type 0 where
  pub b0 : ℕ
  pub b1 : ℕ
  pub b2 : ℕ
  pub b3 : ℕ
  pub r0 : (answers_of s).read a ≡ reads.Is b0
  pub r1 : (answers_of s).read (past a 1) ≡ reads.Is b1
  pub r2 : (answers_of s).read (past (past a 1) 1) ≡ reads.Is b2
  pub r3 : (answers_of s).read (past (past (past a 1) 1) 1) ≡ reads.Is b3
  pub t0 : (answers_of s).may_write a ≡ tests.May
  pub t1 : (answers_of s).may_write (past a 1) ≡ tests.May
  pub t2 : (answers_of s).may_write (past (past a 1) 1) ≡ tests.May
  pub t3 : (answers_of s).may_write (past (past (past a 1) 1) 1) ≡ tests.May

-- what `incl (r4)` comes to, by what the memory answers
change_by : Bank → ℕ → Bool → Bool → Bool → Bool → ByteRead → ByteRead → ByteRead → ByteRead → MayWrite → MayWrite → MayWrite → MayWrite
    → Result Effect Refused
change_by b pc n z v c x0 x1 x2 x3 y0 y1 y2 y3 =
    after_read x0 b.r4 (λ b0. after_read x1 (past b.r4 1) (λ b1. after_read x2 (past (past b.r4 1) 1) (λ b2. after_read x3 (past (past (past b.r4 1) 1) 1) (λ b3.
    after_test y0 b.r4 (after_test y1 (past b.r4 1) (after_test y2 (past (past b.r4 1) 1) (after_test y3 (past (past (past b.r4 1) 1) 1)
    (Ok (result_effect (regs_of b pc n z v c) 4 (places.Memory b.r4) (sum_of (b0 + 256 * (b1 + 256 * (b2 + 256 * (b3 + 256 * 0)))) 1))))))))))

-- it leaves these registers and writes the longword at an address
pub record Alters (r : Result Effect Refused) (b : Bank) (pc a : ℕ) : Type 0 where
  pub value : ℕ
  pub n : Bool
  pub z : Bool
  pub v : Bool
  pub c : Bool
  pub is : r ≡ Ok (record { regs = regs_of b pc n z v c; writes = bytes_at 4 a value; call = None })

change_done : (b : Bank) (pc : ℕ) (n z v c : Bool) (b0 b1 b2 b3 : ℕ)
    → Alters (change_by b pc n z v c (reads.Is b0) (reads.Is b1) (reads.Is b2) (reads.Is b3) tests.May tests.May tests.May tests.May) b pc b.r4
unfolding change_by regs_of store_effect
change_done b pc n z v c b0 b1 b2 b3 = record { value = _; n = _; z = _; v = _; c = _; is = refl }

altering : (b : Bank) (pc : ℕ) (n z v c : Bool) (s : Space) → HasWord s b.r4
    → Alters (change_by b pc n z v c ((answers_of s).read b.r4) ((answers_of s).read (past b.r4 1)) ((answers_of s).read (past (past b.r4 1) 1))
    ((answers_of s).read (past (past (past b.r4 1) 1) 1))
    ((answers_of s).may_write b.r4) ((answers_of s).may_write (past b.r4 1)) ((answers_of s).may_write (past (past b.r4 1) 1))
    ((answers_of s).may_write (past (past (past b.r4 1) 1) 1))) b pc b.r4
altering b pc n z v c s w = go _ _ _ _ _ _ _ _ w.r0 w.r1 w.r2 w.r3 w.t0 w.t1 w.t2 w.t3
  where
    go : (x0 x1 x2 x3 : ByteRead) (y0 y1 y2 y3 : MayWrite) → x0 ≡ reads.Is w.b0 → x1 ≡ reads.Is w.b1 → x2 ≡ reads.Is w.b2 → x3 ≡ reads.Is w.b3
        → y0 ≡ tests.May → y1 ≡ tests.May → y2 ≡ tests.May → y3 ≡ tests.May → Alters (change_by b pc n z v c x0 x1 x2 x3 y0 y1 y2 y3) b pc b.r4
    go x0 x1 x2 x3 y0 y1 y2 y3 e0 e1 e2 e3 f0 f1 f2 f3 =
        let same : change_by b pc n z v c (reads.Is w.b0) (reads.Is w.b1) (reads.Is w.b2) (reads.Is w.b3) tests.May tests.May tests.May tests.May ≡ change_by b pc n z v c x0 x1 x2 x3 y0 y1
        y2 y3 = cc in
        subst (λ (r : Result Effect Refused). Alters r b pc b.r4) same (change_done b pc n z v c w.b0 w.b1 w.b2 w.b3)

module _ (pages sid image : ℕ) (bytes stack : List ℕ) (b : Bank) (n z v c : Bool) where
  w_change_is : instruction_in (space_of pages W sid image bytes stack) (regs_of b 0x21 n z v c)
      ≡ (let s : Space = space_of pages W sid image bytes stack in change_by b 0x23 n z v c ((answers_of s).read b.r4) ((answers_of s).read (past b.r4 1))
      ((answers_of s).read (past (past b.r4 1) 1)) ((answers_of s).read (past (past (past b.r4 1) 1) 1))
      ((answers_of s).may_write b.r4) ((answers_of s).may_write (past b.r4 1)) ((answers_of s).may_write (past (past b.r4 1) 1))
      ((answers_of s).may_write (past (past (past b.r4 1) 1) 1)))
  unfolding change_by space_of regs_of stored text_page w_bytes v_bytes spot_at bytes_at store_effect computation fetch evaluations write_tests tested_effect execution execution_by
      instruction number_at address_of evaluation_at evaluation_through evaluation next_byte number_read next_signed next_displacement base_at indexed_at next_specifier next_operand
      with_count operand_in_place
      next_operands instruction_at decoded row_for all_rows
  w_change_is = refl

  pub w_changes : HasWord (space_of pages W sid image bytes stack) b.r4
      → Alters (instruction_in (space_of pages W sid image bytes stack) (regs_of b 0x21 n z v c)) b 0x23 b.r4
  w_changes w =
      subst (λ (r : Result Effect Refused). Alters r b 0x23 b.r4) (sym (w_change_is))
      (altering b 0x23 n z v c (space_of pages W sid image bytes stack) w)

  v_change_is : instruction_in (space_of pages V sid image bytes stack) (regs_of b 0x13 n z v c)
      ≡ (let s : Space = space_of pages V sid image bytes stack in change_by b 0x15 n z v c ((answers_of s).read b.r4) ((answers_of s).read (past b.r4 1))
      ((answers_of s).read (past (past b.r4 1) 1)) ((answers_of s).read (past (past (past b.r4 1) 1) 1))
      ((answers_of s).may_write b.r4) ((answers_of s).may_write (past b.r4 1)) ((answers_of s).may_write (past (past b.r4 1) 1))
      ((answers_of s).may_write (past (past (past b.r4 1) 1) 1)))
  unfolding change_by space_of regs_of stored text_page w_bytes v_bytes spot_at bytes_at store_effect computation fetch evaluations write_tests tested_effect execution execution_by
      instruction number_at address_of evaluation_at evaluation_through evaluation next_byte number_read next_signed next_displacement base_at indexed_at next_specifier next_operand
      with_count operand_in_place
      next_operands instruction_at decoded row_for all_rows
  v_change_is = refl

  pub v_changes : HasWord (space_of pages V sid image bytes stack) b.r4
      → Alters (instruction_in (space_of pages V sid image bytes stack) (regs_of b 0x13 n z v c)) b 0x15 b.r4
  v_changes w =
      subst (λ (r : Result Effect Refused). Alters r b 0x15 b.r4) (sym (v_change_is))
      (altering b 0x15 n z v c (space_of pages V sid image bytes stack) w)

-- ---- by the program

-- where a program goes on once its rounds are done
abbrev pub end_or : LoadProgram → ℕ
end_or W = 0x30
end_or V = 0x22

pub begins : (t : LoadProgram) (pages sid image : ℕ) (bytes stack : List ℕ) (b : Bank) (n z v c : Bool)
    → Leaves (instruction_in (space_of pages t sid image bytes stack) (regs_of b (rounds_at t) n z v c)) (record b { r3 = stored b.r3 30 })
    (rounds_at t + 3) None
begins W pages sid image bytes stack b n z v c = w_begins pages sid image bytes stack b n z v c
begins V pages sid image bytes stack b n z v c = v_begins pages sid image bytes stack b n z v c

pub rounds : (t : LoadProgram) (pages sid image : ℕ) (bytes stack : List ℕ) (b : Bank) (n z v c : Bool)
    → Leaves (instruction_in (space_of pages t sid image bytes stack) (regs_of b (rounds_at t + 3) n z v c)) (record b { r4 = stored b.r4 0x400 })
    (rounds_at t + 10) None
rounds W pages sid image bytes stack b n z v c = w_rounds pages sid image bytes stack b n z v c
rounds V pages sid image bytes stack b n z v c = v_rounds pages sid image bytes stack b n z v c

pub loads : (t : LoadProgram) (pages sid image : ℕ) (bytes stack : List ℕ) (b : Bank) (n z v c : Bool)
    → Leaves (instruction_in (space_of pages t sid image bytes stack) (regs_of b (rounds_at t + 10) n z v c))
    (record b { r5 = stored b.r5 (from_le_bytes w32 (word_bytes pages)) }) (rounds_at t + 17) None
loads W pages sid image bytes stack b n z v c = w_loads pages sid image bytes stack b n z v c
loads V pages sid image bytes stack b n z v c = v_loads pages sid image bytes stack b n z v c

pub changes : (t : LoadProgram) (pages sid image : ℕ) (bytes stack : List ℕ) (b : Bank) (n z v c : Bool) → HasWord (space_of pages t sid image bytes stack) b.r4
    → Alters (instruction_in (space_of pages t sid image bytes stack) (regs_of b (rounds_at t + 17) n z v c)) b (rounds_at t + 19) b.r4
changes W pages sid image bytes stack b n z v c w = w_changes pages sid image bytes stack b n z v c w
changes V pages sid image bytes stack b n z v c w = v_changes pages sid image bytes stack b n z v c w

pub moves : (t : LoadProgram) (pages sid image : ℕ) (bytes stack : List ℕ) (b : Bank) (n z v c : Bool)
    → Leaves (instruction_in (space_of pages t sid image bytes stack) (regs_of b (rounds_at t + 19) n z v c))
    (record b { r4 = stored b.r4 (let s : Sum = sum_of (b.r4 % 256 ^ 4) 0x400 in s.value) }) (rounds_at t + 26) None
moves W pages sid image bytes stack b n z v c = w_moves pages sid image bytes stack b n z v c
moves V pages sid image bytes stack b n z v c = v_moves pages sid image bytes stack b n z v c

pub closes : (t : LoadProgram) (pages sid image : ℕ) (bytes stack : List ℕ) (b : Bank) (n z v c : Bool)
    → instruction_in (space_of pages t sid image bytes stack) (regs_of b (rounds_at t + 26) n z v c) ≡ Ok
    (counts_five b (rounds_at t + 29) n z v c (rounds_at t + 17) (difference_of (b.r5 % 256 ^ 4) 1))
closes W pages sid image bytes stack b n z v c = w_closes pages sid image bytes stack b n z v c
closes V pages sid image bytes stack b n z v c = v_closes pages sid image bytes stack b n z v c

pub repeats : (t : LoadProgram) (pages sid image : ℕ) (bytes stack : List ℕ) (b : Bank) (n z v c : Bool)
    → instruction_in (space_of pages t sid image bytes stack) (regs_of b (rounds_at t + 29) n z v c) ≡ Ok
    (counts_three b (end_or t) n z v c (rounds_at t + 3) (difference_of (b.r3 % 256 ^ 4) 1))
repeats W pages sid image bytes stack b n z v c = w_repeats pages sid image bytes stack b n z v c
repeats V pages sid image bytes stack b n z v c = v_repeats pages sid image bytes stack b n z v c

pub will_write : (t : LoadProgram) (pages sid image : ℕ) (bytes stack : List ℕ) (b : Bank) (n z v c : Bool)
    → Leaves (instruction_in (space_of pages t sid image bytes stack) (regs_of b (end_at t) n z v c)) (record b { ap = stored b.ap 0xA8 }) (end_at t + 7)
    None
will_write W pages sid image bytes stack b n z v c = w_will_write pages sid image bytes stack b n z v c
will_write V pages sid image bytes stack b n z v c = v_will_write pages sid image bytes stack b n z v c

pub writes : (t : LoadProgram) (pages sid image : ℕ) (bytes stack : List ℕ) (b : Bank) (n z v c : Bool)
    → Leaves (instruction_in (space_of pages t sid image bytes stack) (regs_of b (end_at t + 7) n z v c)) b (end_at t + 9) (Some (pos 4))
writes W pages sid image bytes stack b n z v c = w_writes pages sid image bytes stack b n z v c
writes V pages sid image bytes stack b n z v c = v_writes pages sid image bytes stack b n z v c

pub will_exit : (t : LoadProgram) (pages sid image : ℕ) (bytes stack : List ℕ) (b : Bank) (n z v c : Bool)
    → Leaves (instruction_in (space_of pages t sid image bytes stack) (regs_of b (end_at t + 9) n z v c)) (record b { ap = stored b.ap 0xB8 })
    (end_at t + 16) None
will_exit W pages sid image bytes stack b n z v c = w_will_exit pages sid image bytes stack b n z v c
will_exit V pages sid image bytes stack b n z v c = v_will_exit pages sid image bytes stack b n z v c

pub exits : (t : LoadProgram) (pages sid image : ℕ) (bytes stack : List ℕ) (b : Bank) (n z v c : Bool)
    → Leaves (instruction_in (space_of pages t sid image bytes stack) (regs_of b (end_at t + 16) n z v c)) b (end_at t + 18) (Some (pos 1))
exits W pages sid image bytes stack b n z v c = w_exits pages sid image bytes stack b n z v c
exits V pages sid image bytes stack b n z v c = v_exits pages sid image bytes stack b n z v c
