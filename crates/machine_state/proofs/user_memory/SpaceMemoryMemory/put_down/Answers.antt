use Rattle.std.proofs.Common.{◌%◌, ◌^◌, ◌<◌, sym, ◌∙◌, subst, arith}
use Rattle.vm_facts.specs.declared.page.Page.{Page}
use Rattle.machine_state.specs.Down.{WroteDown}
use Rattle.machine_state.proofs.Downwards.{data_down, data_below, stack_down, stack_below}
use Rattle.machine_state.proofs.user_memory.SpaceMemoryMemory.put_down.Goals as goal

pub returns-in-Data-clause-may : goal.returns-in-Data-clause-may
returns-in-Data-clause-may c ok =
    let m = c.args.self.now in
    let l = m.layout in
    let old = m.machine.now in
    let new = c.put_page_down.new.self.machine.now in
    let longwords = c.args.longwords.now in
    let small : c.args.address < 2 ^ 32 = omega arith in
    data_below old new l.index l.sid l.image l.text_len l.data_len l.stack_len m.laid_out c.args.address c.in-Data.at longwords small (sym c.spot.ensures ∙ c.in-Data.is)
    (subst (λ (q : Page). WroteDown old new q (c.in-Data.at % 1024) longwords) c.data_page.ensures.page (c.put_page_down.ensures.done ok))

pub returns-in-Data-clause-done : goal.returns-in-Data-clause-done
returns-in-Data-clause-done c ok =
    let m = c.args.self.now in
    let l = m.layout in
    let old = m.machine.now in
    let new = c.put_page_down.new.self.machine.now in
    let longwords = c.args.longwords.now in
    let small : c.args.address < 2 ^ 32 = omega arith in (
      c.put_page_down.ensures.same_reference,
      c.put_page_down.ensures.layout,
      data_down old new l.index l.sid l.image l.text_len l.data_len l.stack_len m.laid_out c.args.address c.in-Data.at longwords small (sym c.spot.ensures ∙ c.in-Data.is)
          (subst (λ (q : Page). WroteDown old new q (c.in-Data.at % 1024) longwords) c.data_page.ensures.page (c.put_page_down.ensures.done ok)),
    )

pub returns-in-Stack-clause-may : goal.returns-in-Stack-clause-may
returns-in-Stack-clause-may c ok =
    let m = c.args.self.now in
    let l = m.layout in
    let old = m.machine.now in
    let new = c.put_page_down-in-Stack.new.self.machine.now in
    let longwords = c.args.longwords.now in
    let small : c.args.address < 2 ^ 32 = omega arith in
    stack_below old new l.index l.sid l.image l.text_len l.data_len l.stack_len m.laid_out c.args.address c.in-Stack.at longwords small (sym c.spot.ensures ∙ c.in-Stack.is)
    (subst (λ (q : Page). WroteDown old new q (c.in-Stack.at % 1024) longwords) c.stack_page.ensures.page (c.put_page_down-in-Stack.ensures.done ok))

pub returns-in-Stack-clause-done : goal.returns-in-Stack-clause-done
returns-in-Stack-clause-done c ok =
    let m = c.args.self.now in
    let l = m.layout in
    let old = m.machine.now in
    let new = c.put_page_down-in-Stack.new.self.machine.now in
    let longwords = c.args.longwords.now in
    let small : c.args.address < 2 ^ 32 = omega arith in (
      c.put_page_down-in-Stack.ensures.same_reference,
      c.put_page_down-in-Stack.ensures.layout,
      stack_down old new l.index l.sid l.image l.text_len l.data_len l.stack_len m.laid_out c.args.address c.in-Stack.at longwords small (sym c.spot.ensures ∙ c.in-Stack.is)
          (subst (λ (q : Page). WroteDown old new q (c.in-Stack.at % 1024) longwords) c.stack_page.ensures.page (c.put_page_down-in-Stack.ensures.done ok)),
    )
