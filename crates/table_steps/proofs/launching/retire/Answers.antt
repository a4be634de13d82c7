use Rattle.kernel_tables.specs.Shown.{entry_in, frame_named}
use Rattle.table_steps.proofs.Retiring.{retired_by}
use Rattle.table_steps.proofs.launching.retire.Goals as goal

pub returns : goal.returns
returns c =
    retired_by c.args.tables.now c.rest_page.new.tables c.lift.new.self c.lift.result c.release-token.result c.args.page
    (frame_named (entry_in c.args.tables.now.spaces c.args.page)) c.frame_of-frame.result.0
    c.frame_of-frame.ensures.frame c.lift.ensures.token c.lift.ensures.number c.lift.ensures.free c.lift.ensures.slots c.release-token.ensures
    (record { free = c.rest_page.ensures.free; slots = c.rest_page.ensures.slots; spaces = c.rest_page.ensures.spaces; rest = c.rest_page.ensures.rest })
