use Rattle.io_edge.specs.WithFiles.{stores}
use Rattle.std.proofs.Common.{◌≡◌, Result, Ok, Err, ap, ◌∙◌, subst, arith}
use Rattle.vm_core.specs.declared.first_processes.Started.{Started}
use Rattle.proc_run.specs.Stepped.{LeadsFrom, StopsFrom}
use Rattle.vm_facts.specs.declared.stop.Stop.{Stop}
use Rattle.vm_facts.specs.declared.stop.Stop.TheVariants as stops
use Rattle.proc_run.proofs.StopsKeep.{kept_through}
use Rattle.vm_core.specs.Full.{RunFull, RunStopsAt}
use Rattle.vm_core.specs.RunEnds.{RunEnds}
use Rattle.vm_core.specs.declared.schedule.Unfinished.TheVariants.{Stopped}
use Rattle.vm_core.proofs.Ending.{stopped_so, same_stop, kept_bound, are_among, start_stops, start_full, start_left, lines_stop, lines_full, lines_left, lines_finish, lines_over}
use Rattle.vm_core.proofs.schedule.run_through.Goals as goal
use Rattle.vm_core.specs.Schedules.{IsBeforeLines, LinesFinished}

pub start-requires-clause-numbers : goal.start-requires-clause-numbers
start-requires-clause-numbers g c = are_among c.args.core.now.machine.images c.args.first.now c.requires.numbers

pub returns-in_err-pid-clause-ends : goal.returns-in_err-pid-clause-ends
returns-in_err-pid-clause-ends g c A image is told =
    let stop = c.in_err-pid.field-0.0 in
    let new = c.start.new.self in
    let j = stores g.F.Files g.D.SwapDev c.start.new.files c.start.new.swap in
    stopped_so c.from_residual.result stop (λ r. RunEnds A new.machine.kernel.journal image r j) c.from_residual.ensures.1
    (start_stops A c.args.core.now c.args.first.now c.args.lines.now (g.F.Files.holds c.args.files.now) image c.requires.few is new stop j c.in_err-pid.ensures.kept.sizes.images
    (λ B b t e. c.in_err-pid.ensures.stops B b t (told ∙ e)))

pub returns-in_err-pid-clause-full : goal.returns-in_err-pid-clause-full
returns-in_err-pid-clause-full g c A image is told =
    let stop = c.in_err-pid.field-0.0 in
    let new = c.start.new.self in
    stopped_so c.from_residual.result stop (λ r. r ≡ Err (Stopped stops.JournalFull) → RunFull A new.machine image) c.from_residual.ensures.1
    (λ full. start_full A c.args.core.now c.args.first.now c.args.lines.now (g.F.Files.holds c.args.files.now) image c.requires.few is new stop
    (stores g.F.Files g.D.SwapDev c.start.new.files c.start.new.swap)
    (same_stop stop stops.JournalFull full) (λ B b t e. c.in_err-pid.ensures.stops B b t (told ∙ e)))

pub finish-requires-clause-below : goal.finish-requires-clause-below
finish-requires-clause-below g c =
    let ok = c.in_ok-pid.was ∙ ap (λ (s : Started). let r : Result Started Stop = Ok s in r) c.in-Ok.is in
    let counted = c.start.ensures.counted ∙ c.requires.fresh.counted in
    let limit = ap (λ params. params.limit) (c.start.ensures.params ok) in
    let some = c.requires.some in
    omega arith

pub returns-in_err-finish-in-Ok-clause-ends : goal.returns-in_err-finish-in-Ok-clause-ends
returns-in_err-finish-in-Ok-clause-ends g c A image is told =
    let ok = c.in_ok-pid.was ∙ ap (λ (s : Started). let r : Result Started Stop = Ok s in r) c.in-Ok.is in
    let stop = c.in_err-finish-in-Ok.field-0.0 in
    let mid = c.start.new.self in
    let new = c.finish.new.core in
    let holds = g.F.Files.holds c.args.files.now in
    let i = stores g.F.Files g.D.SwapDev c.args.files.now c.args.swap.now in
    let h = stores g.F.Files g.D.SwapDev c.start.new.files c.start.new.swap in
    let j = stores g.F.Files g.D.SwapDev c.finish.new.files c.finish.new.swap in
    stopped_so c.from_residual-in_err-finish-in-Ok.result stop (λ r. RunEnds A new.machine.kernel.journal image r j) c.from_residual-in_err-finish-in-Ok.ensures.1
    (lines_stop A c.args.core.now c.args.first.now c.args.lines.now holds image c.requires.few is mid i h told (c.start.ensures.starts ok) new stop j
    (c.in_err-finish-in-Ok.ensures.kept.sizes.images ∙ c.start.ensures.images ok)
    (subst (λ hs. StopsFrom (IsBeforeLines mid c.args.lines.now hs h) mid.machine new.machine j stop) c.start.ensures.outside.files.holds c.in_err-finish-in-Ok.ensures.stops))

pub returns-in_err-finish-in-Ok-clause-full : goal.returns-in_err-finish-in-Ok-clause-full
returns-in_err-finish-in-Ok-clause-full g c A image is told =
    let ok = c.in_ok-pid.was ∙ ap (λ (s : Started). let r : Result Started Stop = Ok s in r) c.in-Ok.is in
    let stop = c.in_err-finish-in-Ok.field-0.0 in
    let mid = c.start.new.self in
    let new = c.finish.new.core in
    let holds = g.F.Files.holds c.args.files.now in
    let i = stores g.F.Files g.D.SwapDev c.args.files.now c.args.swap.now in
    let h = stores g.F.Files g.D.SwapDev c.start.new.files c.start.new.swap in
    let j = stores g.F.Files g.D.SwapDev c.finish.new.files c.finish.new.swap in
    stopped_so c.from_residual-in_err-finish-in-Ok.result stop (λ r. r ≡ Err (Stopped stops.JournalFull) → RunFull A new.machine image) c.from_residual-in_err-finish-in-Ok.ensures.1
    (λ full. lines_full A c.args.core.now c.args.first.now c.args.lines.now holds image c.requires.few is mid i h told (c.start.ensures.starts ok) new stop j (same_stop stop stops.JournalFull full)
    (subst (λ hs. StopsFrom (IsBeforeLines mid c.args.lines.now hs h) mid.machine new.machine j stop) c.start.ensures.outside.files.holds c.in_err-finish-in-Ok.ensures.stops))

pub returns-in_ok-finish-in-Ok-clause-ends : goal.returns-in_ok-finish-in-Ok-clause-ends
returns-in_ok-finish-in-Ok-clause-ends g c A image is told =
    let ok = c.in_ok-pid.was ∙ ap (λ (s : Started). let r : Result Started Stop = Ok s in r) c.in-Ok.is in
    let mid = c.start.new.self in
    let new = c.finish.new.core in
    let holds = g.F.Files.holds c.args.files.now in
    let i = stores g.F.Files g.D.SwapDev c.args.files.now c.args.swap.now in
    let h = stores g.F.Files g.D.SwapDev c.start.new.files c.start.new.swap in
    let j = stores g.F.Files g.D.SwapDev c.finish.new.files c.finish.new.swap in
    lines_finish A c.args.core.now c.args.first.now c.args.lines.now holds image c.requires.few is mid i h told (c.start.ensures.starts ok) new j
    (subst (λ hs. LeadsFrom (IsBeforeLines mid c.args.lines.now hs h) (LinesFinished mid new j)) c.start.ensures.outside.files.holds c.in_ok-finish-in-Ok.ensures.finishes)

pub returns-in_ok-finish-in-Ok-clause-over : goal.returns-in_ok-finish-in-Ok-clause-over
returns-in_ok-finish-in-Ok-clause-over g c A image is told =
    let ok = c.in_ok-pid.was ∙ ap (λ (s : Started). let r : Result Started Stop = Ok s in r) c.in-Ok.is in
    let mid = c.start.new.self in
    let new = c.finish.new.core in
    let holds = g.F.Files.holds c.args.files.now in
    let i = stores g.F.Files g.D.SwapDev c.args.files.now c.args.swap.now in
    let h = stores g.F.Files g.D.SwapDev c.start.new.files c.start.new.swap in
    let j = stores g.F.Files g.D.SwapDev c.finish.new.files c.finish.new.swap in
    lines_over A c.args.core.now c.args.first.now c.args.lines.now holds image c.requires.few is mid i h told (c.start.ensures.starts ok) new j
    (subst (λ hs. LeadsFrom (IsBeforeLines mid c.args.lines.now hs h) (LinesFinished mid new j)) c.start.ensures.outside.files.holds c.in_ok-finish-in-Ok.ensures.finishes)
    c.in_ok-finish-in-Ok.ensures.goes_on

-- Where the machine is left.

pub returns-in_err-pid-clause-left : goal.returns-in_err-pid-clause-left
returns-in_err-pid-clause-left g c A image is told halt =
    let stop = c.in_err-pid.field-0.0 in
    let new = c.start.new.self in
    stopped_so c.from_residual.result stop (λ r. r ≡ Err (Stopped halt) → RunStopsAt A halt new.machine image) c.from_residual.ensures.1
    (λ same. subst (λ (s : Stop). RunStopsAt A s new.machine image) (same_stop stop halt same)
    (start_left A c.args.core.now c.args.first.now c.args.lines.now (g.F.Files.holds c.args.files.now) image c.requires.few is new stop
    (stores g.F.Files g.D.SwapDev c.start.new.files c.start.new.swap)
    (λ B b t e. c.in_err-pid.ensures.stops B b t (told ∙ e))))

pub returns-in_err-finish-in-Ok-clause-left : goal.returns-in_err-finish-in-Ok-clause-left
returns-in_err-finish-in-Ok-clause-left g c A image is told halt =
    let ok = c.in_ok-pid.was ∙ ap (λ (s : Started). let r : Result Started Stop = Ok s in r) c.in-Ok.is in
    let stop = c.in_err-finish-in-Ok.field-0.0 in
    let mid = c.start.new.self in
    let new = c.finish.new.core in
    let holds = g.F.Files.holds c.args.files.now in
    let i = stores g.F.Files g.D.SwapDev c.args.files.now c.args.swap.now in
    let h = stores g.F.Files g.D.SwapDev c.start.new.files c.start.new.swap in
    let j = stores g.F.Files g.D.SwapDev c.finish.new.files c.finish.new.swap in
    stopped_so c.from_residual-in_err-finish-in-Ok.result stop (λ r. r ≡ Err (Stopped halt) → RunStopsAt A halt new.machine image) c.from_residual-in_err-finish-in-Ok.ensures.1
    (λ same. subst (λ (s : Stop). RunStopsAt A s new.machine image) (same_stop stop halt same)
    (lines_left A c.args.core.now c.args.first.now c.args.lines.now holds image c.requires.few is mid i h told (c.start.ensures.starts ok) new stop j
    (subst (λ hs. StopsFrom (IsBeforeLines mid c.args.lines.now hs h) mid.machine new.machine j stop) c.start.ensures.outside.files.holds c.in_err-finish-in-Ok.ensures.stops)))

-- Sizes, images and the journal's bound.

pub returns-in_err-pid-clause-params : goal.returns-in_err-pid-clause-params
returns-in_err-pid-clause-params g c = c.in_err-pid.ensures.kept.sizes.params

pub returns-in_err-pid-clause-images : goal.returns-in_err-pid-clause-images
returns-in_err-pid-clause-images g c = c.in_err-pid.ensures.kept.sizes.images

pub returns-in_err-pid-clause-bound : goal.returns-in_err-pid-clause-bound
returns-in_err-pid-clause-bound g c =
    kept_bound c.from_residual.result c.in_err-pid.field-0.0 c.args.core.now.machine c.start.new.self.machine c.from_residual.ensures.1 c.in_err-pid.ensures.kept

pub returns-in_err-finish-in-Ok-clause-params : goal.returns-in_err-finish-in-Ok-clause-params
returns-in_err-finish-in-Ok-clause-params g c =
    let ok = c.in_ok-pid.was ∙ ap (λ (s : Started). let r : Result Started Stop = Ok s in r) c.in-Ok.is in
    c.in_err-finish-in-Ok.ensures.kept.sizes.params ∙ c.start.ensures.params ok

pub returns-in_err-finish-in-Ok-clause-images : goal.returns-in_err-finish-in-Ok-clause-images
returns-in_err-finish-in-Ok-clause-images g c =
    let ok = c.in_ok-pid.was ∙ ap (λ (s : Started). let r : Result Started Stop = Ok s in r) c.in-Ok.is in
    c.in_err-finish-in-Ok.ensures.kept.sizes.images ∙ c.start.ensures.images ok

pub returns-in_err-finish-in-Ok-clause-bound : goal.returns-in_err-finish-in-Ok-clause-bound
returns-in_err-finish-in-Ok-clause-bound g c =
    let ok = c.in_ok-pid.was ∙ ap (λ (s : Started). let r : Result Started Stop = Ok s in r) c.in-Ok.is in
    let stop = c.in_err-finish-in-Ok.field-0.0 in
    kept_bound c.from_residual-in_err-finish-in-Ok.result stop c.args.core.now.machine c.finish.new.core.machine c.from_residual-in_err-finish-in-Ok.ensures.1
    (kept_through c.args.core.now.machine c.start.new.self.machine c.finish.new.core.machine stop (record { params = c.start.ensures.params ok; images = c.start.ensures.images ok })
    c.in_err-finish-in-Ok.ensures.kept)
