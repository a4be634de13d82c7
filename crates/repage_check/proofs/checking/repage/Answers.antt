use Rattle.io_edge.specs.WithFiles.{stores}
use Rattle.std.proofs.Common.{◌≡◌, List, Option, sym, ap, ◌∙◌, subst}
use Rattle.vm_facts.specs.declared.params.Params.{Params}
use Rattle.io_edge.specs.FileHolding.{NamedFile}
use Rattle.machine_state.proofs.Backing.{backed_on}
use Rattle.vm_core.specs.Stepped.{AtSome, LeadsFrom}
use Rattle.paged_model.specs.Traces.{trace_misstep}
use Rattle.repage_check.specs.Past.{PastAt}
use Rattle.repage_check.specs.Starting.{StandsBehind}
use Rattle.repage_check.specs.Verdicts.{past_at_start}
use Rattle.repage_check.proofs.Verdicting.{lacking}
use Rattle.repage_check.proofs.Opening.{start_some, judged_paged, judged_not, stands_after}
use Rattle.repage_check.proofs.checking.repage.Goals as goal

pub returns-in-Some-clause-judged : goal.returns-in-Some-clause-judged
returns-in-Some-clause-judged g c = λ A image told shown limit.
    lacking A c.args.lines.now c.in-Some.pid (c.in_ok-pid.ensures.space A c.in-Some.pid told.starts c.in-Some.is)

pub first_misstep-requires-clause-at : goal.first_misstep-requires-clause-at
first_misstep-requires-clause-at g c =
    let asked = c.requires.told in
    let i = stores g.F.Files g.D.SwapDev c.begin.new.files c.begin.new.swap in
    subst (λ (hs : Option (List NamedFile)). AtSome (PastAt past_at_start c.begin.new.m hs i)) (sym c.begin.ensures.holds)
    (start_some asked.inputs c.begin.new.m (g.F.Files.holds c.args.files.now) i
    (c.in_ok-pid.ensures.stands c.in-None.is asked.inputs asked.image asked.told asked.shown asked.limit))

pub first_misstep-requires-clause-first : goal.first_misstep-requires-clause-first
first_misstep-requires-clause-first g c = (c.in_ok-pid.ensures.ready c.in-None.is).none

pub first_misstep-requires-clause-wide : goal.first_misstep-requires-clause-wide
first_misstep-requires-clause-wide g c = ap (λ (p : Params). p.journal) (c.in_ok-pid.ensures.ready c.in-None.is).params ∙ c.requires.bound

pub first_misstep-requires-clause-asks : goal.first_misstep-requires-clause-asks
first_misstep-requires-clause-asks g c =
    let begun = c.in_ok-pid.ensures.ready c.in-None.is in
    record {
      ready = begun.ready;
      backed = backed_on c.args.m.now c.begin.new.m (g.F.Files.holds c.args.files.now) _ _ _ begun.params begun.images c.begin.ensures.holds c.begin.ensures.blocks
          c.requires.backed;
    }

pub returns-in-None-2-clause-judged : goal.returns-in-None-2-clause-judged
returns-in-None-2-clause-judged g c = λ A image told shown limit.
    let m = c.begin.new.m in
    let holds = g.F.Files.holds c.args.files.now in
    let i = stores g.F.Files g.D.SwapDev c.begin.new.files c.begin.new.swap in
    let found = c.in_ok-first_misstep-in-None.field-0 in
    judged_paged A c.args.lines.now m holds i (c.in_ok-pid.ensures.stands c.in-None.is A image told shown limit) found
    (subst (λ (hs : Option (List NamedFile)). LeadsFrom (PastAt past_at_start m hs i) (λ B s j. found ≡ trace_misstep B s 1 c.args.lines.now)) c.begin.ensures.holds
    c.in_ok-first_misstep-in-None.ensures.told) c.in-None-2.is

pub returns-in-None-2-clause-stands : goal.returns-in-None-2-clause-stands
returns-in-None-2-clause-stands g c = λ paged A image told shown limit.
    let m = c.begin.new.m in
    let new = c.first_misstep.new.m in
    let holds = g.F.Files.holds c.args.files.now in
    let i = stores g.F.Files g.D.SwapDev c.begin.new.files c.begin.new.swap in
    let j = stores g.F.Files g.D.SwapDev c.first_misstep.new.files c.first_misstep.new.swap in
    stands_after A c.args.lines.now m new holds i j (c.in_ok-pid.ensures.stands c.in-None.is A image told shown limit)
    (subst (λ (hs : Option (List NamedFile)). LeadsFrom (PastAt past_at_start m hs i) (StandsBehind c.args.lines.now new hs j)) c.begin.ensures.holds
    (c.in_ok-first_misstep-in-None.ensures.stands c.in-None-2.is))

pub returns-in-Some-2-clause-judged : goal.returns-in-Some-2-clause-judged
returns-in-Some-2-clause-judged g c = λ A image told shown limit.
    let m = c.begin.new.m in
    let holds = g.F.Files.holds c.args.files.now in
    let i = stores g.F.Files g.D.SwapDev c.begin.new.files c.begin.new.swap in
    let found = c.in_ok-first_misstep-in-None.field-0 in
    judged_not A c.args.lines.now m holds i (c.in_ok-pid.ensures.stands c.in-None.is A image told shown limit) found
    (subst (λ (hs : Option (List NamedFile)). LeadsFrom (PastAt past_at_start m hs i) (λ B s j. found ≡ trace_misstep B s 1 c.args.lines.now)) c.begin.ensures.holds
    c.in_ok-first_misstep-in-None.ensures.told) c.in-Some-2.misstep c.in-Some-2.is
