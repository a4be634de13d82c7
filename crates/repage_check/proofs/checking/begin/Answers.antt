use Rattle.io_edge.specs.WithFiles.{stores}
use Rattle.std.proofs.Common.{◌≡◌, ℕ, Some, None, Result, Err, sym, ap, ◌∙◌}
use Rattle.std.proofs.lemmas.Result.{IfOk-weaker}
use Rattle.vm_facts.specs.SwapImages.{SwapImage}
use Rattle.vm_facts.specs.declared.stop.Stop.{Stop}
use Rattle.vm_facts.specs.declared.stop.Stop.TheVariants as stops
use Rattle.flat_state.specs.Flat.{Inputs}
use Rattle.flat_model.specs.Asked.{start_held}
use Rattle.vm_core.specs.declared.first_processes.Started.{Started}
use Rattle.vm_core.specs.FirstProcesses.{StartsFrom}
use Rattle.vm_core.specs.Leading.{IsTold}
use Rattle.repage_check.specs.Starting.{AtStart, HasBegun}
use Rattle.repage_check.proofs.Opening.{begun_well, begun_full, full_ready, well_ready, well_by, lacks_first}
use Rattle.repage_check.proofs.checking.begin.Goals as goal

pub returns-in-Ok-clause-space : goal.returns-in-Ok-clause-space
returns-in-Ok-clause-space g c = λ A pid starts same.
    lacks_first A c.start-started.result c.in-Ok.started pid c.in-Ok.is (sym c.lacks_by.ensures ∙ same) (c.start-started.ensures.space A starts)

pub returns-in-Ok-clause-stands : goal.returns-in-Ok-clause-stands
returns-in-Ok-clause-stands g c = λ none A image told shown limit.
    begun_well A c.args.m.now c.start-started.new.m c.args.first.now (g.F.Files.holds c.args.files.now) image (stores g.F.Files g.D.SwapDev c.start-started.new.files c.start-started.new.swap)
    c.start-started.result told limit c.requires.bound c.requires.frames c.always.ensures.within
    (well_by c.start-started.result c.in-Ok.started c.in-Ok.is (sym c.lacks_by.ensures ∙ none)) c.start-started.ensures.goes_on
    (c.start-started.ensures.leads A image told shown)

pub returns-in-Ok-clause-ready : goal.returns-in-Ok-clause-ready
returns-in-Ok-clause-ready g c = λ none.
    well_ready c.args.m.now c.start-started.new.m c.start-started.result c.requires.bound c.always.ensures.within
    (well_by c.start-started.result c.in-Ok.started c.in-Ok.is (sym c.lacks_by.ensures ∙ none)) c.start-started.ensures.goes_on

pub returns-in-Err-clause-space : goal.returns-in-Err-clause-space
returns-in-Err-clause-space g c =
    IfOk-weaker c.full_or_memory.result (λ lacks. lacks ≡ None)
    (λ lacks. (A : Inputs) (pid : ℕ) → StartsFrom A c.args.m.now c.args.first.now → lacks ≡ Some pid → start_held A ≡ Err pid)
    (λ lacks none A pid starts same. absurd (let z : None ≡ Some pid = sym none ∙ same in cc)) c.full_or_memory.ensures.none

pub returns-in-Err-clause-stands : goal.returns-in-Err-clause-stands
returns-in-Err-clause-stands g c =
    let old = c.args.m.now in
    let new = c.start-started.new.m in
    let first = c.args.first.now in
    let holds = g.F.Files.holds c.args.files.now in
    let i = stores g.F.Files g.D.SwapDev c.args.files.now c.args.swap.now in
    let j = stores g.F.Files g.D.SwapDev c.start-started.new.files c.start-started.new.swap in
    IfOk-weaker c.full_or_memory.result (λ lacks. c.in-Err.stop ≡ stops.JournalFull)
    (λ lacks. lacks ≡ None → (A : Inputs) (image : SwapImage) → IsTold A old first holds image → i ≡ Some image → A.limit ≡ 1000000 → AtStart A new holds j)
    (λ lacks full none A image told shown limit. (begun_full A old new first holds image j c.start-started.result told limit c.requires.bound c.requires.frames
    c.always.ensures.within (c.in-Err.is ∙ ap (λ (s : Stop). let r : Result Started Stop = Err s in r) full) c.start-started.ensures.kept
    (c.start-started.ensures.stops A image told shown)).0) c.full_or_memory.ensures.full

pub returns-in-Err-clause-ready : goal.returns-in-Err-clause-ready
returns-in-Err-clause-ready g c =
    let asked = c.requires.told in
    let old = c.args.m.now in
    let new = c.start-started.new.m in
    IfOk-weaker c.full_or_memory.result (λ lacks. c.in-Err.stop ≡ stops.JournalFull) (λ lacks. lacks ≡ None → HasBegun old new)
    (λ lacks full none. full_ready asked.inputs old new c.args.first.now (g.F.Files.holds c.args.files.now) asked.image
    (stores g.F.Files g.D.SwapDev c.start-started.new.files c.start-started.new.swap) c.start-started.result asked.told asked.limit c.requires.bound c.requires.frames c.always.ensures.within
    c.always.ensures.running (c.in-Err.is ∙ ap (λ (s : Stop). let r : Result Started Stop = Err s in r) full) c.start-started.ensures.kept
    (c.start-started.ensures.stops asked.inputs asked.image asked.told asked.shown)) c.full_or_memory.ensures.full
