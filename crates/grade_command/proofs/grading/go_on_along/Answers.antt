use Rattle.vm_facts.specs.declared.params.Params.{Params}
use Rattle.io_edge.specs.WithFiles.{stores}
use Rattle.std.proofs.Common.{◌≡◌, ◌↔◌, ◌-◌, true, List, length, slice_get, ap, subst, arith}
use Rattle.vm_facts.specs.declared.entry.Entry.{Entry}
use Rattle.machine_state.proofs.Backing.{backed_by}
use Rattle.grade_command.proofs.Going.{filming_on, longer_by_one, along_on}
use Rattle.grade_command.proofs.grading.go_on_along.Goals as goal

pub go_on-requires-clause-room : goal.go_on-requires-clause-room
go_on-requires-clause-room g c = let within = c.requires.within in let few = c.requires.few in omega (arith, within, few)

pub is_last_same-requires-clause-some : goal.is_last_same-requires-clause-some
is_last_same-requires-clause-some g c =
    let longer = longer_by_one c.args.film.now c.go_on.new.self c.args.lines.now (g.F.Files.holds c.args.files.now) (stores g.F.Files g.D.SwapDev c.args.files.now c.args.swap.now)
    (stores g.F.Files g.D.SwapDev c.go_on.new.files c.go_on.new.swap) c.requires.filming c.in-Ok.ensures.goes in
    let count = ap length c.journal.ensures in
    omega (arith, longer, count)

pub is_last_same-requires-clause-within : goal.is_last_same-requires-clause-within
is_last_same-requires-clause-within g c =
    let longer = longer_by_one c.args.film.now c.go_on.new.self c.args.lines.now (g.F.Files.holds c.args.files.now) (stores g.F.Files g.D.SwapDev c.args.files.now c.args.swap.now)
    (stores g.F.Files g.D.SwapDev c.go_on.new.files c.go_on.new.swap) c.requires.filming c.in-Ok.ensures.goes in
    let within = c.requires.within in
    let count = ap length c.journal.ensures in
    omega (arith, longer, within, count)

pub returns-in-Ok-clause-filming : goal.returns-in-Ok-clause-filming
returns-in-Ok-clause-filming g c =
    filming_on c.args.film.now c.go_on.new.self c.args.lines.now (g.F.Files.holds c.args.files.now) (g.F.Files.holds c.go_on.new.files) (stores g.F.Files g.D.SwapDev c.args.files.now c.args.swap.now)
    (stores g.F.Files g.D.SwapDev c.go_on.new.files c.go_on.new.swap)
    c.go_on.ensures.outside.files.holds c.requires.filming c.in-Ok.ensures.goes

pub returns-in-Ok-clause-goes : goal.returns-in-Ok-clause-goes
returns-in-Ok-clause-goes g c = λ A are was.
    along_on A c.args.film.now c.go_on.new.self c.args.lines.now (g.F.Files.holds c.args.files.now) (g.F.Files.holds c.go_on.new.files) (stores g.F.Files g.D.SwapDev c.args.files.now c.args.swap.now)
    (stores g.F.Files g.D.SwapDev c.go_on.new.files c.go_on.new.swap) c.args.entries.now c.is_last_same.result c.go_on.ensures.outside.files.holds are c.in-Ok.ensures.goes c.requires.within
    (subst (λ (journal : List Entry). (c.is_last_same.result ≡ true) ↔ (slice_get journal (length journal - 1) ≡ slice_get c.args.entries.now (length journal - 1)))
    c.journal.ensures c.is_last_same.ensures) was

pub returns-in-Ok-clause-longer : goal.returns-in-Ok-clause-longer
returns-in-Ok-clause-longer g c =
    longer_by_one c.args.film.now c.go_on.new.self c.args.lines.now (g.F.Files.holds c.args.files.now) (stores g.F.Files g.D.SwapDev c.args.files.now c.args.swap.now)
    (stores g.F.Files g.D.SwapDev c.go_on.new.files c.go_on.new.swap) c.requires.filming c.in-Ok.ensures.goes

pub returns-in-Ok-clause-backed : goal.returns-in-Ok-clause-backed
returns-in-Ok-clause-backed g c =
    backed_by c.args.film.now.machine c.go_on.new.self.machine (g.F.Files.holds c.args.files.now) _ _ _
    (ap (λ (p : Params). p.swap_blocks) c.in-Ok.ensures.params) c.in-Ok.ensures.images
    c.go_on.ensures.outside.files.holds c.go_on.ensures.outside.swap.blocks c.requires.backed
