use Rattle.std.proofs.Common.{◌/◌, sym, ◌∙◌}
use Rattle.vm_facts.specs.declared.page.Page.TheVariants.{Text as TextPage, Data as DataPage, Stack as StackPage}
use Rattle.page_model.specs.Placement.{image_of}
use Rattle.table_steps.proofs.UserFrames.{held_frame}
use Rattle.machine_state.proofs.Beside.{text_ahead, data_ahead, stack_ahead}
use Rattle.machine_state.proofs.user_memory.SpaceMemory.bytes_from.Goals as goal

pub page_from-requires-clause-held : goal.page_from-requires-clause-held
page_from-requires-clause-held c =
    let m = c.args.self.now in
    let k = m.machine.now.kernel in
    held_frame k.place (TextPage (image_of k.place m.layout.sid) (c.in-Text.at / 1024)) c.text_frame.result c.text_frame.ensures

pub returns-in-Text : goal.returns-in-Text
returns-in-Text c =
    let m = c.args.self.now in
    let l = m.layout in
    let k = m.machine.now.kernel in
    text_ahead k l.index l.sid l.image l.text_len l.data_len l.stack_len m.laid_out c.args.address c.in-Text.at c.page_from.result.now
    (sym c.spot.ensures ∙ c.in-Text.is)
    (c.page_from.ensures (TextPage (image_of k.place m.layout.sid) (c.in-Text.at / 1024)) c.text_frame.ensures)

pub page_from-requires-in-Data-clause-held : goal.page_from-requires-in-Data-clause-held
page_from-requires-in-Data-clause-held c =
    let m = c.args.self.now in
    let k = m.machine.now.kernel in
    held_frame k.place (DataPage m.layout.sid (c.in-Data.at / 1024)) c.data_frame.result c.data_frame.ensures

pub returns-in-Data : goal.returns-in-Data
returns-in-Data c =
    let m = c.args.self.now in
    let l = m.layout in
    let k = m.machine.now.kernel in
    data_ahead k l.index l.sid l.image l.text_len l.data_len l.stack_len m.laid_out c.args.address c.in-Data.at c.page_from-in-Data.result.now
    (sym c.spot.ensures ∙ c.in-Data.is)
    (c.page_from-in-Data.ensures (DataPage m.layout.sid (c.in-Data.at / 1024)) c.data_frame.ensures)

pub page_from-requires-in-Stack-clause-held : goal.page_from-requires-in-Stack-clause-held
page_from-requires-in-Stack-clause-held c =
    let m = c.args.self.now in
    let k = m.machine.now.kernel in
    held_frame k.place (StackPage m.layout.sid (c.in-Stack.at / 1024)) c.stack_frame.result c.stack_frame.ensures

pub returns-in-Stack : goal.returns-in-Stack
returns-in-Stack c =
    let m = c.args.self.now in
    let l = m.layout in
    let k = m.machine.now.kernel in
    stack_ahead k l.index l.sid l.image l.text_len l.data_len l.stack_len m.laid_out c.args.address c.in-Stack.at c.page_from-in-Stack.result.now
    (sym c.spot.ensures ∙ c.in-Stack.is)
    (c.page_from-in-Stack.ensures (StackPage m.layout.sid (c.in-Stack.at / 1024)) c.stack_frame.ensures)
