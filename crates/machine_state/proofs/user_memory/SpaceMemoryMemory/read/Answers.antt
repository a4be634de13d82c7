use Rattle.std.proofs.Common.{◌/◌, sym, ap, ◌∙◌}
use Rattle.vm_facts.specs.declared.page.Page.TheVariants.{Text as TextPage, Data as DataPage, Stack as StackPage}
use Rattle.page_model.specs.Placement.{image_of}
use Rattle.table_steps.specs.UserMemory.{read_spot}
use Rattle.table_steps.proofs.UserFrames.{held_frame}
use Rattle.machine_state.proofs.user_memory.SpaceMemoryMemory.read.Goals as goal

pub read_frame-requires-clause-held : goal.read_frame-requires-clause-held
read_frame-requires-clause-held c =
    let m = c.args.self.now in
    let k = m.machine.now.kernel in
    held_frame k.place (TextPage (image_of k.place m.layout.sid) (c.in-Text.at / 1024)) c.text_frame.result c.text_frame.ensures

pub returns-in-Text : goal.returns-in-Text
returns-in-Text c =
    let m = c.args.self.now in
    let k = m.machine.now.kernel in
    c.read_frame.ensures (TextPage (image_of k.place m.layout.sid) (c.in-Text.at / 1024)) c.text_frame.ensures ∙
    ap (read_spot k m.layout.sid) (sym c.in-Text.is ∙ c.spot.ensures)

pub read_frame-requires-in-Data-clause-held : goal.read_frame-requires-in-Data-clause-held
read_frame-requires-in-Data-clause-held c =
    let m = c.args.self.now in
    let k = m.machine.now.kernel in
    held_frame k.place (DataPage m.layout.sid (c.in-Data.at / 1024)) c.data_frame.result c.data_frame.ensures

pub returns-in-Data : goal.returns-in-Data
returns-in-Data c =
    let m = c.args.self.now in
    let k = m.machine.now.kernel in
    c.read_frame-in-Data.ensures (DataPage m.layout.sid (c.in-Data.at / 1024)) c.data_frame.ensures ∙
    ap (read_spot k m.layout.sid) (sym c.in-Data.is ∙ c.spot.ensures)

pub read_frame-requires-in-Stack-clause-held : goal.read_frame-requires-in-Stack-clause-held
read_frame-requires-in-Stack-clause-held c =
    let m = c.args.self.now in
    let k = m.machine.now.kernel in
    held_frame k.place (StackPage m.layout.sid (c.in-Stack.at / 1024)) c.stack_frame.result c.stack_frame.ensures

pub returns-in-Stack : goal.returns-in-Stack
returns-in-Stack c =
    let m = c.args.self.now in
    let k = m.machine.now.kernel in
    c.read_frame-in-Stack.ensures (StackPage m.layout.sid (c.in-Stack.at / 1024)) c.stack_frame.ensures ∙
    ap (read_spot k m.layout.sid) (sym c.in-Stack.is ∙ c.spot.ensures)
