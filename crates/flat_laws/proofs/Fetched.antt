-- Fetching and operands: where they read.
use Rattle.std.proofs.Common.{◌≡◌, ℕ, zero, suc, ◌+◌, ◌*◌, ◌≤◌, true, List, [], ◌∷◌, ◌++◌, length, refl, sym, subst, arith, length-append}
use Rattle.vm_facts.specs.Answers.{Answers}
use Rattle.vm_facts.specs.declared.regs.Regs.{Regs}
use Rattle.vax_code.specs.declared.instr.Instr.{Instr}
use Rattle.vax_code.specs.declared.instr.Decoded.{Decoded}
use Rattle.vax_code.specs.declared.instr.Decoded.TheVariants as decodings
use Rattle.vax_code.specs.declared.instr.Operand.{Operand}
use Rattle.vax_code.specs.declared.instr.Operand.TheVariants as operands
use Rattle.vax_code.specs.declared.instr.Base.{Base}
use Rattle.vax_code.specs.declared.instr.Base.TheVariants as bases
use Rattle.vax_code.specs.declared.table.Slot.{Slot}
use Rattle.vax_code.specs.declared.table.Row.{Row}
use Rattle.vax_code.specs.declared.table.Access.{Access}
use Rattle.vax_code.specs.declared.table.Access.TheVariants as accesses
use Rattle.vax_code.specs.Table.{slot_of, slot_in}
use Rattle.vax_code.specs.declared.table.Kind.{Kind}
use Rattle.vax_code.specs.declared.table.Kind.TheVariants as kinds
use Rattle.vax_code.specs.Reading.{decoded}
use Rattle.user_vax.specs.Program.{Gives, Reads}
use Rattle.user_vax.specs.Operands.{register, past, number_at, address_of, evaluation_at, evaluation_through, evaluation}
use Rattle.user_vax.specs.Instruction.{on_decoded, fetch, evaluations}
use Rattle.flat_laws.proofs.Near.{IsAt, at_self, at_past, at_more}
use Rattle.flat_laws.proofs.Cover.{Within, within_bind, Covered, within_one, covered_gives, covered_bind}

-- the bytes of a number follow one another
pub within_number : (size start most address : ℕ) → IsAt start most address → most + size ≤ 1024 → Within start (λ _. Unit {0}) (number_at size address)
unfolding number_at
within_number zero start most address h l = tt
within_number (suc size) start most address h l = (
  at_more start most 1023 address (omega arith) h,
  λ byte. within_bind start (λ _. Unit {0}) (λ _. Unit {0}) (number_at size (past address 1)) (λ high. Gives (byte + 256 * high))
      (within_number size start (most + 1) (past address 1) (at_past start most 1 address h) (omega arith)) (λ high _. tt),
)

pub number_covered : (memory : Answers) (base size address : ℕ) → size ≤ 1024 → Covered memory base 1 (number_at size address)
number_covered memory base size address l = within_one memory base address (λ _. Unit {0}) (number_at size address) (within_number size address 0 address (at_self address) (omega arith))

-- what is fetched is decoded from some bytes
pub record IsFetched (instr : Instr) : Type 0 where
  pub bytes : List ℕ
  pub is : decoded bytes ≡ decodings.Is instr

pub within_fetch : (more pc : ℕ) (bytes : List ℕ) → length bytes + more ≤ 1024 → Within pc IsFetched (fetch more pc bytes)
unfolding fetch
within_fetch zero pc bytes l = tt
within_fetch (suc more) pc bytes l =
    go (decoded bytes) refl
    (at_more pc (0 + length bytes) 1023 (past pc (length bytes)) (omega arith) (at_past pc 0 (length bytes) pc (at_self pc)))
    (λ byte. within_fetch more pc (bytes ++ byte ∷ []) (let n = length-append bytes (byte ∷ []) in omega arith))
  where
    go : (found : Decoded) → decoded bytes ≡ found → IsAt pc 1023 (past pc (length bytes)) → ((byte : ℕ) → Within pc IsFetched (fetch more pc (bytes ++ byte ∷ [])))
        → Within pc IsFetched (on_decoded found (Reads (past pc (length bytes)) (λ byte. fetch more pc (bytes ++ byte ∷ []))))
    go (decodings.Is instr) e here later = record { bytes = bytes; is = e }
    go decodings.Reserved e here later = tt
    go decodings.NeedMore e here later = (here, later)

-- Operands.

size_small : (slot : Slot) (kind : Kind) → slot ≡ slot_of kind → slot.size ≤ 1024
size_small slot kind e = subst (λ (s : Slot). s.size ≤ 1024) (sym e) (go kind)
  where
    go : (k : Kind) → (slot_of k).size ≤ 1024
    go kinds.Ab = omega arith
    go kinds.Al = omega arith
    go kinds.Bb = omega arith
    go kinds.Bw = omega arith
    go kinds.Mb = omega arith
    go kinds.Ml = omega arith
    go kinds.Rb = omega arith
    go kinds.Rl = omega arith
    go kinds.Rw = omega arith
    go kinds.Wb = omega arith
    go kinds.Wl = omega arith
    go kinds.Ww = omega arith

address_covered : (memory : Answers) (base : ℕ) (regs : Regs) (size : ℕ) (b : Base) → Covered memory base 1 (address_of regs size b)
unfolding address_of
address_covered memory base regs size (bases.AutoIncDef reg) =
    covered_bind memory base 1 0 (number_at 4 (register regs reg)) _ (number_covered memory base 4 (register regs reg) (omega arith)) (λ address e. covered_gives memory base 0 _)
address_covered memory base regs size (bases.Disp reg by true) =
    covered_bind memory base 1 0 (number_at 4 _) _ (number_covered memory base 4 _ (omega arith)) (λ address e. covered_gives memory base 0 _)
address_covered memory base regs size _ = covered_gives memory base 1 _

evaluated_covered : (memory : Answers) (base : ℕ) (slot : Slot) (regs : Regs) (address : ℕ) → slot.size ≤ 1024
    → Covered memory base 1 (evaluation_at slot regs address)
unfolding evaluation_at
evaluated_covered memory base slot regs address l = go slot.access slot.size l
  where
    go : (access : Access) (size : ℕ) → size ≤ 1024 → Covered memory base 1 (evaluation_at (record { access = access; size = size }) regs address)
    go accesses.Read size k = covered_bind memory base 1 0 (number_at size address) _ (number_covered memory base size address k) (λ value e. covered_gives memory base 0 _)
    go accesses.Modify size k = covered_bind memory base 1 0 (number_at size address) _ (number_covered memory base size address k) (λ value e. covered_gives memory base 0 _)
    go accesses.Write size k = covered_gives memory base 1 _
    go accesses.Address size k = covered_gives memory base 1 _
    go accesses.Branch size k = covered_gives memory base 1 _

module _ (memory : Answers) (base : ℕ) (slot : Slot) (regs : Regs) where
  through_covered : (b : Base) → slot.size ≤ 1024 → Covered memory base 2 (evaluation_through slot regs b)
  unfolding evaluation_through
  through_covered b l =
      covered_bind memory base 1 1 (address_of regs slot.size b) _ (address_covered memory base regs slot.size b) (λ found e. evaluated_covered memory base slot found.0 found.1 l)

  -- an operand reads a pointer, and what it points to
  operand_covered : (operand : Operand) → slot.size ≤ 1024 → Covered memory base 2 (evaluation slot regs operand)
  unfolding evaluation
  operand_covered (operands.Deferred reg) l = through_covered (bases.Deferred reg) l
  operand_covered (operands.AutoDec reg) l = through_covered (bases.AutoDec reg) l
  operand_covered (operands.AutoInc reg) l = through_covered (bases.AutoInc reg) l
  operand_covered (operands.AutoIncDef reg) l = through_covered (bases.AutoIncDef reg) l
  operand_covered (operands.Absolute address) l = through_covered (bases.Absolute address) l
  operand_covered (operands.Disp reg by deferred) l = through_covered (bases.Disp reg by deferred) l
  operand_covered (operands.Indexed index b) l =
      covered_bind memory base 1 1 (address_of regs slot.size b) _ (address_covered memory base regs slot.size b)
      (λ found e. evaluated_covered memory base slot found.0 (past found.1 (slot.size * register found.0 index)) l)
  operand_covered _ l = covered_gives memory base 2 _

  literal_covered : (operand : Operand) → operand ≡ operands.Literal 0 → Covered memory base 0 (evaluation slot regs operand)
  unfolding evaluation
  literal_covered operand e =
      subst (λ (o : Operand). Covered memory base 0 (evaluation slot regs o)) (sym e) (covered_gives memory base 0 _)

slot_small : (row : Row) (place : ℕ) → (slot_in row place).size ≤ 1024
slot_small row place = size_small (slot_in row place) _ refl

pub evaluations_covered : (memory : Answers) (base : ℕ) (row : Row) (regs : Regs) (instr : Instr) → Covered memory base 6 (evaluations row regs instr)
unfolding evaluations
evaluations_covered memory base row regs instr =
    covered_bind memory base 2 4 (evaluation (slot_in row 0) regs instr.a) _ (operand_covered memory base (slot_in row 0) regs instr.a (slot_small row 0)) (λ a e.
    covered_bind memory base 2 2 (evaluation (slot_in row 1) a.0 instr.b) _ (operand_covered memory base (slot_in row 1) a.0 instr.b (slot_small row 1)) (λ b f.
    covered_bind memory base 2 0 (evaluation (slot_in row 2) b.0 instr.c) _ (operand_covered memory base (slot_in row 2) b.0 instr.c (slot_small row 2)) (λ c g.
    covered_gives memory base 0 _)))

-- where the last two places are filled alone
pub evaluation_covered : (memory : Answers) (base : ℕ) (row : Row) (regs : Regs) (instr : Instr) → instr.b ≡ operands.Literal 0
    → instr.c ≡ operands.Literal 0 → Covered memory base 2 (evaluations row regs instr)
unfolding evaluations
evaluation_covered memory base row regs instr no_b no_c =
    covered_bind memory base 2 0 (evaluation (slot_in row 0) regs instr.a) _ (operand_covered memory base (slot_in row 0) regs instr.a (slot_small row 0)) (λ a e.
    covered_bind memory base 0 0 (evaluation (slot_in row 1) a.0 instr.b) _ (literal_covered memory base (slot_in row 1) a.0 instr.b no_b) (λ b f.
    covered_bind memory base 0 0 (evaluation (slot_in row 2) b.0 instr.c) _ (literal_covered memory base (slot_in row 2) b.0 instr.c no_c) (λ c g.
    covered_gives memory base 0 _)))
