use Rattle.std.proofs.Common.{◌/◌, ◌%◌, length, sym, ◌∙◌, subst}
use Rattle.vm_facts.specs.declared.page.Page.{Page}
use Rattle.vm_facts.specs.declared.page.Page.TheVariants.{Data as DataPage, Stack as StackPage}
use Rattle.table_steps.specs.UserMemory.{WroteRun}
use Rattle.machine_state.proofs.Beside.{data_together, stack_together, data_writable, stack_writable, run_may}
use Rattle.machine_state.proofs.user_memory.SpaceMemoryMemory.put.Goals as goal

pub returns-in-Data-clause-may : goal.returns-in-Data-clause-may
returns-in-Data-clause-may c ok =
    let m = c.args.self.now in
    let l = m.layout in
    let old = m.machine.now in
    let new = c.put_page.new.self.machine.now in
    let bytes = c.args.bytes.now in
    let w : WroteRun old new (DataPage l.sid (c.in-Data.at / 1024)) (c.in-Data.at % 1024) bytes =
    subst (λ (q : Page). WroteRun old new q (c.in-Data.at % 1024) bytes) c.data_page.ensures.page (c.put_page.ensures.done ok) in
    data_writable old.kernel l.index l.sid l.image l.text_len l.data_len l.stack_len m.laid_out c.args.address c.in-Data.at (length bytes)
    (sym c.spot.ensures ∙ c.in-Data.is)
    (run_may old new (DataPage l.sid (c.in-Data.at / 1024)) (c.in-Data.at % 1024) bytes w)

pub returns-in-Data-clause-done : goal.returns-in-Data-clause-done
returns-in-Data-clause-done c ok =
    let m = c.args.self.now in
    let l = m.layout in
    let old = m.machine.now in
    let new = c.put_page.new.self.machine.now in
    let bytes = c.args.bytes.now in (
      c.put_page.ensures.same_reference,
      c.put_page.ensures.layout,
      data_together old new l.index l.sid l.image l.text_len l.data_len l.stack_len m.laid_out c.args.address c.in-Data.at bytes (sym c.spot.ensures ∙ c.in-Data.is)
          (subst (λ (q : Page). WroteRun old new q (c.in-Data.at % 1024) bytes) c.data_page.ensures.page (c.put_page.ensures.done ok)),
    )

pub returns-in-Stack-clause-may : goal.returns-in-Stack-clause-may
returns-in-Stack-clause-may c ok =
    let m = c.args.self.now in
    let l = m.layout in
    let old = m.machine.now in
    let new = c.put_page-in-Stack.new.self.machine.now in
    let bytes = c.args.bytes.now in
    let w : WroteRun old new (StackPage l.sid (c.in-Stack.at / 1024)) (c.in-Stack.at % 1024) bytes =
    subst (λ (q : Page). WroteRun old new q (c.in-Stack.at % 1024) bytes) c.stack_page.ensures.page (c.put_page-in-Stack.ensures.done ok) in
    stack_writable old.kernel l.index l.sid l.image l.text_len l.data_len l.stack_len m.laid_out c.args.address c.in-Stack.at (length bytes)
    (sym c.spot.ensures ∙ c.in-Stack.is)
    (run_may old new (StackPage l.sid (c.in-Stack.at / 1024)) (c.in-Stack.at % 1024) bytes w)

pub returns-in-Stack-clause-done : goal.returns-in-Stack-clause-done
returns-in-Stack-clause-done c ok =
    let m = c.args.self.now in
    let l = m.layout in
    let old = m.machine.now in
    let new = c.put_page-in-Stack.new.self.machine.now in
    let bytes = c.args.bytes.now in (
      c.put_page-in-Stack.ensures.same_reference,
      c.put_page-in-Stack.ensures.layout,
      stack_together old new l.index l.sid l.image l.text_len l.data_len l.stack_len m.laid_out c.args.address c.in-Stack.at bytes (sym c.spot.ensures ∙ c.in-Stack.is)
          (subst (λ (q : Page). WroteRun old new q (c.in-Stack.at % 1024) bytes) c.stack_page.ensures.page (c.put_page-in-Stack.ensures.done ok)),
    )
