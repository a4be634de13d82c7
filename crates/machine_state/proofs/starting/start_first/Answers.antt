use Rattle.std.proofs.Common.{◌≡◌, ap, arith}
use Rattle.table_steps.specs.Tables.{Tables}
use Rattle.table_steps.specs.Changing.{EnteredImage}
use Rattle.table_steps.specs.Machine.{lists_of, images_of, image_shown}
use Rattle.table_steps.proofs.AddedImage.{sound_number, named_here, shown_here}
use Rattle.machine_state.proofs.FirstStarts.{short_name, few_processes, same_records, began}
use Rattle.machine_state.proofs.starting.start_first.Goals as goal

pub overflow_sub-image : goal.overflow_sub-image
overflow_sub-image c = omega (arith, c.requires.above)

pub index-requires : goal.index-requires
index-requires c = omega (arith, c.requires.above, c.requires.within)

pub start_of-requires-clause-sound : goal.start_of-requires-clause-sound
start_of-requires-clause-sound c =
    sound_number (lists_of c.args.tables.now).facts c.args.image c.index.result.now.facts c.requires.known.tied.sound
    (named_here c.args.tables.now.images.items c.args.image c.index.result.now c.requires.above c.requires.within c.index.ensures)

pub start_of-requires-clause-short : goal.start_of-requires-clause-short
start_of-requires-clause-short c =
    short_name (images_of c.args.tables.now) c.args.image (image_shown c.index.result.now) c.requires.named
    (shown_here c.args.tables.now.images.items c.args.image c.index.result.now c.requires.above c.requires.within c.index.ensures)

pub add_process-requires-clause-records : goal.add_process-requires-clause-records
add_process-requires-clause-records c =
    let here = named_here c.args.tables.now.images.items c.args.image c.index.result.now c.requires.above c.requires.within c.index.ensures in
    let e : EnteredImage c.args.tables.now c.enter_image.new.self c.args.image c.index.result.now.facts c.in_ok-regs.top = c.in_ok-sid.ensures.entered c.index.result.now.facts here in
    same_records c.args.tables.now c.enter_image.new.self c.args.image c.index.result.now.facts c.in_ok-regs.top e c.requires.records

pub add_process-requires-clause-few : goal.add_process-requires-clause-few
add_process-requires-clause-few c =
    let here = named_here c.args.tables.now.images.items c.args.image c.index.result.now c.requires.above c.requires.within c.index.ensures in
    let e : EnteredImage c.args.tables.now c.enter_image.new.self c.args.image c.index.result.now.facts c.in_ok-regs.top = c.in_ok-sid.ensures.entered c.index.result.now.facts here in
    let m : Tables = c.enter_image.new.self in
    let few = few_processes m.processes m.next_pid in
    let next : m.next_pid ≡ c.args.tables.now.next_pid = ap (λ (x : Tables). x.next_pid) e.rest in
    omega (arith, few, next, c.requires.few)

pub returns-clause-began : goal.returns-clause-began
returns-clause-began c =
    let t : Tables = c.args.tables.now in
    let here = named_here t.images.items c.args.image c.index.result.now c.requires.above c.requires.within c.index.ensures in
    let e : EnteredImage t c.enter_image.new.self c.args.image c.index.result.now.facts c.in_ok-regs.top = c.in_ok-sid.ensures.entered c.index.result.now.facts here in
    began t c.enter_image.new.self c.add_process.new.self c.args.image c.in_ok-sid.sid (image_shown c.index.result.now) c.in_ok-regs.regs c.in_ok-regs.top c.add_process.result
    (shown_here t.images.items c.args.image c.index.result.now c.requires.above c.requires.within c.index.ensures)
    e c.in_ok-regs.ensures.regs c.in_ok-regs.ensures.top c.in_ok-sid.ensures.number c.add_process.ensures.one_more
