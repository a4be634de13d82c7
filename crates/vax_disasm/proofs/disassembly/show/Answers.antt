use Rattle.std.proofs.Common.{◌≤◌, ◌-◌, sym, subst, length, List, ℕ, arith, refl}
use Rattle.vax_code.proofs.Law.{slice_octets}
use Rattle.vax_disasm.proofs.Same.{not_shown}
use Rattle.vax_disasm.proofs.Shows.{shown_text}
use Rattle.vax_disasm.specs.Showing.{IsTextOf}
use Rattle.vax_disasm.proofs.disassembly.show.Goals as goal

pub returns-in_default : goal.returns-in_default
returns-in_default c = λ instr. not_shown c.args.at c.args.bytes.now instr (slice_octets c.args.bytes.now c.type_inv.bytes) c.in_default.ensures.value

pub returns : goal.returns
returns c =
    let few : length c.text_of.result ≤ 120 = omega (arith, c.into_parts-length.ensures.length, c.into_parts-length.ensures.few) in (
      subst (λ (l : List ℕ). IsTextOf c.args.bytes.now c.args.at l (length c.args.bytes.now - length c.in-Some.rest.now)) (sym c.into_parts-length.ensures.line)
          (shown_text c.args.bytes.now c.in-Some.rest.now c.args.at c.in-Some.sentence c.text_of.result (length c.args.bytes.now - length c.in-Some.rest.now)
          (slice_octets c.args.bytes.now c.type_inv.bytes) c.in-Some.ensures.value c.text_of.ensures few refl),
      c.into_parts-length.ensures.few,
    )
