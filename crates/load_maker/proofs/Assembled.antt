-- The sources of the two programs, assembled: for each of the 25 numbers of pages by computation.
use Rattle.std.proofs.Common.{◌≡◌, ◌≤◌, ◌<◌, ℕ, suc, List, [], Option, Some, length, refl, sym, ap, subst, inl, inr, arith}
use Rattle.std.specs.Prelude.{⊤}
use Rattle.std.specs.Fmt.{digits}
use Rattle.std.proofs.lemmas.Bool.{cases_eq}
use Rattle.vax_code.specs.Table.{all_rows}
use Rattle.vax_asm.specs.Text.{behind_byte}
use Rattle.vax_asm.specs.Numbers.{numeral_at, magnitude_at, signed_at, spelled_number_at}
use Rattle.vax_asm.specs.Values.{label_at, value_label_at, value_number_at, value_at}
use Rattle.vax_asm.specs.Operands.{register_number_at, register_at, in_parentheses_at, deferred_at, absolute_at, pointer_at, place_at, addressed_at, literal_at, immediate_at, plain_register_at, specifier_at, target_at, operand_at}
use Rattle.vax_asm.specs.Mnemonics.{row_named}
use Rattle.vax_asm.specs.Sentences.{place_of_row_at, operands_at, sentence_of}
use Rattle.vax_asm.specs.Lines.{whole_value, whole_number, directive_by, directive_of, instruction_of, statement_of, label_before, behind_label, line_by, line_of, lines_in, items_in}
use Rattle.vax_asm.specs.Encoding.{or_zero, value_bits, found, number_of_value, bits_of_value, place_bytes, immediate_bytes, target_bytes, branch_bytes, specifier_bytes, operand_bytes, sentence_bytes}
use Rattle.vax_asm.specs.Program.{sentence_size, statement_size, address_after, labels_of, bss_found, value_bytes, statement_bytes, line_bytes, laid, IsProgramOf}
use Rattle.vax_asm.proofs.Standing.{stands_at}
use Rattle.load_maker.specs.Programs.{w_source, w_bytes, v_source, v_bytes}
use Rattle.load_maker.specs.Load.{w_bss, v_bss}

-- ---- what is unfolded

unfoldable numbers_read : ⊤
unfolding behind_byte numeral_at magnitude_at signed_at spelled_number_at label_at value_label_at value_number_at value_at digits
numbers_read = tt

unfoldable operands_read : ⊤
unfolding register_number_at register_at in_parentheses_at deferred_at absolute_at pointer_at place_at addressed_at literal_at immediate_at plain_register_at specifier_at target_at operand_at
operands_read = tt

unfoldable lines_read : ⊤
unfolding row_named all_rows place_of_row_at operands_at sentence_of whole_value whole_number directive_by directive_of instruction_of statement_of label_before behind_label line_by
    line_of lines_in items_in
lines_read = tt

unfoldable operands_laid : ⊤
unfolding value_bits found number_of_value bits_of_value place_bytes immediate_bytes target_bytes branch_bytes specifier_bytes operand_bytes
operands_laid = tt

unfoldable lines_laid : ⊤
unfolding sentence_bytes sentence_size statement_size labels_of value_bytes statement_bytes line_bytes
lines_laid = tt

-- ---- a fact of each number from one to another, case by case

infixr 5 ◌&◌
data Each (P : ℕ → Type 0) : ℕ → ℕ → Type 0 where
  none : {k : ℕ} → Each P k k
  ◌&◌ : {k n : ℕ} → P k → Each P (suc k) n → Each P k n

each_at : (P : ℕ → Type 0) {k n : ℕ} (i : ℕ) → Each P k n → k ≤ i → i < n → P i
each_at P i none low high = absurd (omega (arith, low, high))
each_at P {k} i (here & more) low high = elim (cases_eq i k) [
  | inl e ↦ subst P (sym e) here
  | inr ne ↦ each_at P i more (omega (arith, low, ne)) high
]

-- ---- what a source is assembled to

record Assembly : Type 0 where
  bytes : Option (List ℕ)
  lines : ℕ
  size : ℕ
  bss : ℕ

abbrev assembly_of : List ℕ → Assembly
assembly_of source = record {
  bytes = laid (labels_of source) [] (items_in source);
  lines = length (items_in source);
  size = address_after (items_in source);
  bss = or_zero (bss_found (items_in source));
}

-- a source for some pages is assembled to these bytes
abbrev Assembles : (ℕ → List ℕ) → (ℕ → List ℕ) → (ℕ → ℕ) → ℕ → ℕ → Type 0
Assembles source bytes bss lines pages =
    assembly_of (source pages) ≡ record { bytes = Some (bytes pages); lines = lines; size = length (bytes pages); bss = bss pages }

is_program : (source bytes : ℕ → List ℕ) (bss : ℕ → ℕ) (lines pages : ℕ) → lines ≤ 4096 → Assembles source bytes bss lines pages
    → IsProgramOf (source pages) (bytes pages) (bss pages)
is_program source bytes bss lines pages few e =
    let whole : laid (labels_of (source pages)) [] (items_in (source pages)) ≡ Some (bytes pages) = ap (λ (a : Assembly). a.bytes) e in
    record {
      few = subst (λ (n : ℕ). n ≤ 4096) (sym (ap (λ (a : Assembly). a.lines) e)) few;
      whole = whole;
      sized = sym (ap (λ (a : Assembly). a.size) e);
      each = stands_at (source pages) (labels_of (source pages)) (bytes pages) whole;
      bss_is = sym (ap (λ (a : Assembly). a.bss) e);
    }

-- ---- the two programs

w_cases : Each (Assembles w_source w_bytes (λ pages. w_bss) 39) 40 65
unfolding w_source w_bytes numbers_read operands_read lines_read operands_laid lines_laid
w_cases =
    refl & refl & refl & refl & refl & refl & refl & refl & refl & refl & refl & refl & refl &
    refl & refl & refl & refl & refl & refl & refl & refl & refl & refl & refl & refl & none

pub w_program : (pages : ℕ) → 40 ≤ pages → pages < 65 → IsProgramOf (w_source pages) (w_bytes pages) w_bss
w_program pages low high =
    is_program w_source w_bytes (λ pages. w_bss) 39 pages (omega arith) (each_at (Assembles w_source w_bytes (λ pages. w_bss) 39) pages w_cases low high)

v_cases : Each (Assembles v_source v_bytes v_bss 23) 40 65
unfolding v_source v_bytes numbers_read operands_read lines_read operands_laid lines_laid
v_cases =
    refl & refl & refl & refl & refl & refl & refl & refl & refl & refl & refl & refl & refl &
    refl & refl & refl & refl & refl & refl & refl & refl & refl & refl & refl & refl & none

pub v_program : (pages : ℕ) → 40 ≤ pages → pages < 65 → IsProgramOf (v_source pages) (v_bytes pages) (v_bss pages)
v_program pages low high =
    is_program v_source v_bytes v_bss 23 pages (omega arith) (each_at (Assembles v_source v_bytes v_bss 23) pages v_cases low high)
