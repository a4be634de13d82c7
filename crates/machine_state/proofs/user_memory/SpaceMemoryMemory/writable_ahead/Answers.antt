use Rattle.std.proofs.Common.{◌/◌, sym, ◌∙◌}
use Rattle.vm_facts.specs.declared.page.Page.TheVariants.{Data as DataPage, Stack as StackPage}
use Rattle.page_model.specs.Placement.{state_of}
use Rattle.machine_state.proofs.Beside.{data_writable, stack_writable}
use Rattle.machine_state.proofs.user_memory.SpaceMemoryMemory.writable_ahead.Goals as goal

pub returns-in-Data : goal.returns-in-Data
returns-in-Data c =
    let m = c.args.self.now in
    let l = m.layout in
    let k = m.machine.now.kernel in
    data_writable k l.index l.sid l.image l.text_len l.data_len l.stack_len m.laid_out c.args.address c.in-Data.at c.writable_in.result
    (sym c.spot.ensures ∙ c.in-Data.is)
    (c.writable_in.ensures (state_of k.place (DataPage l.sid (c.in-Data.at / 1024))) c.data_frame.ensures)

pub returns-in-Stack : goal.returns-in-Stack
returns-in-Stack c =
    let m = c.args.self.now in
    let l = m.layout in
    let k = m.machine.now.kernel in
    stack_writable k l.index l.sid l.image l.text_len l.data_len l.stack_len m.laid_out c.args.address c.in-Stack.at c.writable_in-in-Stack.result
    (sym c.spot.ensures ∙ c.in-Stack.is)
    (c.writable_in-in-Stack.ensures (state_of k.place (StackPage l.sid (c.in-Stack.at / 1024))) c.stack_frame.ensures)
