-- The transfer at the place shows that of the kernel, and each of its pages has its block.
use Rattle.std.proofs.Common.{◌+◌, ap, ◌∙◌}
use Rattle.page_model.specs.Placement.{image_of}
use Rattle.owner_lines.specs.Carried.{transfer_if}
use Rattle.owner_lines.proofs.Flights.{flight_lines}
use Rattle.run_text.proofs.Putting.{text_none, text_is}
use Rattle.owner_lines.proofs.transfers.put_transfer_at.Goals as goal

pub returns-in-Some : goal.returns-in-Some
returns-in-Some g c =
    let m = c.args.machine.now in
    let n = c.args.place + 1 in
    text_is
    (flight_lines m.images (image_of m.kernel.place) m.before m.params.swap_blocks n c.in-Some.transfer.now (c.in-Some.ensures.sources c.requires.running.runs)
    ∙ ap (transfer_if m.before n) c.in-Some.ensures.transfer)
    c.put_transfer.ensures

pub returns-in-None : goal.returns-in-None
returns-in-None g c =
    text_is (ap (transfer_if c.args.machine.now.before (c.args.place + 1)) c.in-None.ensures.transfer)
    (text_none (g.met.S.Sink.leads_nowhere c.args.out.now.sink.now))
