use Rattle.io_edge.specs.WithFiles.{stores}
use Rattle.std.proofs.Common.{refl, sym, subst}
use Rattle.repage_check.specs.Units.{IsMarkNote}
use Rattle.repage_check.proofs.Told.{fills, note_call, fill_call, end_call, out_call, in_call}
use Rattle.repage_check.proofs.Besides.{out_beside, came_beside}
use Rattle.repage_check.proofs.judging.judge_free.Goals as goal

pub judge_note-requires-clause-note : goal.judge_note-requires-clause-note
judge_note-requires-clause-note g c = subst IsMarkNote (sym c.in-Event.is) tt

pub returns-in-Event-clause-told : goal.returns-in-Event-clause-told
returns-in-Event-clause-told g c =
    let i = stores g.F.Files g.D.SwapDev c.args.files.now c.args.swap.now in
    note_call c.args.past c.args.m.now c.judge_note.new.m (g.F.Files.holds c.args.files.now) i i c.judge_note.result c.args.u.now c.requires.none
    (subst IsMarkNote (sym c.in-Event.is) tt) refl c.judge_note.ensures.judged c.judge_note.ensures.made c.judge_note.ensures.on

pub judge_note-requires-in-Turn-clause-note : goal.judge_note-requires-in-Turn-clause-note
judge_note-requires-in-Turn-clause-note g c = subst IsMarkNote (sym c.in-Turn.is) tt

pub returns-in-Turn-clause-told : goal.returns-in-Turn-clause-told
returns-in-Turn-clause-told g c =
    let i = stores g.F.Files g.D.SwapDev c.args.files.now c.args.swap.now in
    note_call c.args.past c.args.m.now c.judge_note-in-Turn.new.m (g.F.Files.holds c.args.files.now) i i c.judge_note-in-Turn.result c.args.u.now c.requires.none
    (subst IsMarkNote (sym c.in-Turn.is) tt) refl c.judge_note-in-Turn.ensures.judged c.judge_note-in-Turn.ensures.made c.judge_note-in-Turn.ensures.on

pub judge_note-requires-in-Owners-clause-note : goal.judge_note-requires-in-Owners-clause-note
judge_note-requires-in-Owners-clause-note g c = subst IsMarkNote (sym c.in-Owners.is) tt

pub returns-in-Owners-clause-told : goal.returns-in-Owners-clause-told
returns-in-Owners-clause-told g c =
    let i = stores g.F.Files g.D.SwapDev c.args.files.now c.args.swap.now in
    note_call c.args.past c.args.m.now c.judge_note-in-Owners.new.m (g.F.Files.holds c.args.files.now) i i c.judge_note-in-Owners.result c.args.u.now c.requires.none
    (subst IsMarkNote (sym c.in-Owners.is) tt) refl c.judge_note-in-Owners.ensures.judged c.judge_note-in-Owners.ensures.made c.judge_note-in-Owners.ensures.on

pub returns-in-Done-clause-told : goal.returns-in-Done-clause-told
returns-in-Done-clause-told g c =
    end_call c.args.past c.args.m.now c.judge_end.new.m (g.F.Files.holds c.args.files.now) (stores g.F.Files g.D.SwapDev c.args.files.now c.args.swap.now)
    (stores g.F.Files g.D.SwapDev c.judge_end.new.files c.judge_end.new.swap)
    c.judge_end.result c.args.u.now c.in-Done.is c.judge_end.ensures.judged c.judge_end.ensures.made c.judge_end.ensures.on

pub returns-in-SwapOut-clause-told : goal.returns-in-SwapOut-clause-told
returns-in-SwapOut-clause-told g c =
    out_call c.args.past c.args.m.now c.judge_leaving.new.m (g.F.Files.holds c.args.files.now) (stores g.F.Files g.D.SwapDev c.args.files.now c.args.swap.now)
    (stores g.F.Files g.D.SwapDev c.args.files.now c.judge_leaving.new.swap) c.judge_leaving.result c.args.u.now c.in-SwapOut.pid c.in-SwapOut.is c.requires.none
    c.judge_leaving.ensures.judged
    (out_beside c.args.m.now c.judge_leaving.new.m c.in-SwapOut.pid (g.D.SwapDev.image c.args.swap.now) (g.D.SwapDev.image c.judge_leaving.new.swap)
    (g.F.Files.notes c.args.files.now) c.judge_leaving.result c.judge_leaving.ensures.made)
    c.judge_leaving.ensures.regs c.judge_leaving.ensures.on

pub returns-in-SwapIn-clause-told : goal.returns-in-SwapIn-clause-told
returns-in-SwapIn-clause-told g c =
    in_call c.args.past c.args.m.now c.judge_coming.new.m (g.F.Files.holds c.args.files.now) (stores g.F.Files g.D.SwapDev c.args.files.now c.args.swap.now)
    (stores g.F.Files g.D.SwapDev c.args.files.now c.judge_coming.new.swap) c.judge_coming.result c.args.u.now c.in-SwapIn.pid c.in-SwapIn.is c.requires.none
    c.judge_coming.ensures.judged
    (came_beside c.args.m.now c.judge_coming.new.m c.in-SwapIn.pid (g.D.SwapDev.image c.args.swap.now) (g.D.SwapDev.image c.judge_coming.new.swap)
    (g.F.Files.notes c.args.files.now) c.judge_coming.result c.judge_coming.ensures.made)
    c.judge_coming.ensures.on

pub judge_fill-requires-clause-fills : goal.judge_fill-requires-clause-fills
judge_fill-requires-clause-fills g c =
    fills c.args.u.now c.requires.others c.in_default.not-Event c.in_default.not-Turn c.in_default.not-Owners c.in_default.not-Done c.in_default.not-SwapOut
    c.in_default.not-SwapIn

pub returns-in_default-clause-told : goal.returns-in_default-clause-told
returns-in_default-clause-told g c =
    let i = stores g.F.Files g.D.SwapDev c.args.files.now c.args.swap.now in
    fill_call c.args.past c.args.m.now c.judge_fill.new.m (g.F.Files.holds c.args.files.now) i i c.judge_fill.result c.args.u.now c.requires.none
    (fills c.args.u.now c.requires.others c.in_default.not-Event c.in_default.not-Turn c.in_default.not-Owners c.in_default.not-Done c.in_default.not-SwapOut
    c.in_default.not-SwapIn)
    refl c.judge_fill.ensures.judged c.judge_fill.ensures.made c.judge_fill.ensures.on
