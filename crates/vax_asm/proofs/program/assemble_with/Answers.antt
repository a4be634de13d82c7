use Rattle.std.proofs.Common.{rules, ◌≡◌, ◌<◌, ◌∙◌, ap, arith, length, true, false, ◌∷◌, ◌++◌, Option, Some, ℕ, refl}
use Rattle.std.specs.Prelude.{is_some}
use Rattle.std.proofs.lemmas.Bool.Decides.{nat_tests}
use Rattle.vax_asm.specs.Program.{Puts, item_definition, bytes_behind, line_bytes, labels_of}
use Rattle.asm_grammar.specs.Lines.{items_in}
use Rattle.asm_grammar.specs.declared.syntax.SourceLine.{SourceLine}
use Rattle.vax_asm.proofs.Assembling.{progress_step, progress_bad, none_bad, put_bad, put_as, some_item, progress_end, room_after, or_zero_is}
use Rattle.vax_asm.proofs.Standing.{stands_at}
use Rattle.vax_asm.proofs.program.assemble_with.Goals as goal

pub returns-then-number-gt4096 : goal.returns-then-number-gt4096
returns-then-number-gt4096 c =
    let some : 0 < length c.loop-rest.rest.now = grind (arith, nat_tests, c.is_empty.ensures, c.loop-rest-test.true) in
    let next = some_item c.loop-rest.rest.now some in
    progress_bad c.args.labels.now c.args.source.now c.loop-rest.rest.now next.1 c.loop-rest.number c.loop-rest.bytes.items c.loop-rest.earlier c.loop-rest.bss next.0 c.requires
    c.loop-rest.invariant.progress next.2 c.loop-rest.invariant.few
    (λ before e f g small. absurd (omega (arith, small, c.if-number-gt4096.true)))

pub returns-in_default : goal.returns-in_default
returns-in_default c =
    progress_bad c.args.labels.now c.args.source.now c.loop-rest.rest.now (items_in c.next_item-item.result.1.now) c.loop-rest.number c.loop-rest.bytes.items c.loop-rest.earlier c.loop-rest.bss
    c.next_item-item.result.0 c.requires c.loop-rest.invariant.progress c.next_item-item.ensures.item c.loop-rest.invariant.few
    (λ before e f g small. ap (λ (i : Option SourceLine). line_bytes c.args.labels.now before i) c.in_default.is ∙ none_bad c.args.labels.now before)

pub returns-then-not-branch : goal.returns-then-not-branch
returns-then-not-branch c =
    let put : Puts false c.loop-rest.bytes.items (bytes_behind c.args.labels.now c.loop-rest.earlier (is_some c.loop-rest.bss) (length c.loop-rest.bytes.items) c.in-Some.line)
    c.put_line.new.bytes.items =
    put_as c.in_ok-put_line.field-0 false c.loop-rest.bytes.items c.put_line.new.bytes.items c.args.labels.now c.loop-rest.earlier c.loop-rest.earlier c.loop-rest.bss c.is_some.result c.in-Some.line
    c.if-not-branch.true refl c.is_some.ensures c.in_ok-put_line.ensures.put in
    progress_bad c.args.labels.now c.args.source.now c.loop-rest.rest.now (items_in c.next_item-item.result.1.now) c.loop-rest.number c.loop-rest.bytes.items c.loop-rest.earlier c.loop-rest.bss
    c.next_item-item.result.0 c.requires c.loop-rest.invariant.progress c.next_item-item.ensures.item c.loop-rest.invariant.few
    (λ before e f g small. ap (λ (i : Option SourceLine). line_bytes c.args.labels.now before i) c.in-Some.is
    ∙ put_bad c.args.labels.now c.loop-rest.earlier before c.loop-rest.bytes.items c.put_line.new.bytes.items c.loop-rest.bss c.in-Some.line put e f g)

pub loop-rest-preserved : goal.loop-rest-preserved
loop-rest-preserved c =
    let at : c.len-at.result ≡ length c.loop-rest.bytes.items = search rules in
    let put : Puts true c.loop-rest.bytes.items (bytes_behind c.args.labels.now c.loop-rest.earlier (is_some c.loop-rest.bss) (length c.loop-rest.bytes.items) c.in-Some.line)
    c.put_line.new.bytes.items =
    put_as c.in_ok-put_line.field-0 true c.loop-rest.bytes.items c.put_line.new.bytes.items c.args.labels.now c.loop-rest.earlier c.loop-rest.earlier c.loop-rest.bss c.is_some.result c.in-Some.line
    c.if-not-branch.false refl c.is_some.ensures c.in_ok-put_line.ensures.put in
    record {
      progress = progress_step c.args.labels.now c.args.source.now c.loop-rest.rest.now c.next_item-item.result.1.now c.loop-rest.number c.loop-rest.bytes.items c.put_line.new.bytes.items
          c.loop-rest.earlier c.in_ok-earlier.earlier c.loop-rest.bss c.bss_after-bss.result c.in-Some.line c.loop-rest.invariant.progress
          (c.next_item-item.ensures.item ∙ ap (λ (i : Option SourceLine). i ∷ items_in c.next_item-item.result.1.now) c.in-Some.is) put
          (c.in_ok-earlier.ensures ∙ ap (λ (n : ℕ). c.loop-rest.earlier ++ item_definition n (Some c.in-Some.line)) at)
          c.bss_after-bss.ensures;
      few = omega (arith, c.if-number-gt4096.false);
      room = room_after c.args.labels.now c.loop-rest.earlier (is_some c.loop-rest.bss) c.loop-rest.bytes.items c.put_line.new.bytes.items c.in-Some.line put;
    }

pub returns : goal.returns
returns c =
    let none : length c.loop-rest.rest.now ≡ 0 = grind (arith, nat_tests, c.is_empty.ensures, c.loop-rest-test.false) in
    let end = progress_end c.args.labels.now c.args.source.now c.loop-rest.rest.now c.loop-rest.number c.loop-rest.bytes.items c.loop-rest.earlier c.loop-rest.bss c.requires
    c.loop-rest.invariant.progress none c.loop-rest.invariant.few in
    record {
      few = end.0;
      whole = end.1;
      sized = end.2;
      each = stands_at c.args.source.now (labels_of c.args.source.now) c.loop-rest.bytes.items end.1;
      bss_is = c.unwrap_or-bss.ensures ∙ or_zero_is c.loop-rest.bss ∙ end.3;
    }
