use Rattle.std.proofs.Common.{ℕ, ◌<◌, IsSome, Option, sym, ap, ◌∙◌, subst}
use Rattle.proc_table.specs.Records.{find, Lowest}
use Rattle.page_model.specs.Swapper.{Runner}
use Rattle.machine_state.specs.Machine.{proc_of_record, processes_of}
use Rattle.swapper.specs.Runners.{runner_of, runner_from, runners_above, passes, kept, longer_with, longest_from}
use Rattle.machine_state.proofs.ByNumber.{next_is}
use Rattle.swapper.proofs.Numbers.{all_above, above_next, above_none, longest_start, longest_last, longest_step}
use Rattle.swapper.proofs.candidates.longest.Goals as goal

pub loop-pid-init : goal.loop-pid-init
loop-pid-init c = λ p h.
    let test = passes p c.args.kind in (
      tt,
      longest_start p (runners_above test c.args.processes.now c.args.next 0)
          ∙ ap (Rattle.page_model.specs.Swapper.longest p) (all_above test c.args.processes.now c.args.next),
    )

pub loop-pid-preserved : goal.loop-pid-preserved
loop-pid-preserved c = λ p h.
    let ps = c.args.processes.now in
    let next = c.args.next in
    let last = c.loop-pid.last in
    let pid = c.in-Some.pid in
    let best = c.loop-pid.best in
    let test = passes p c.args.kind in
    let g : ℕ → Option Runner = λ n. kept test (runner_from (processes_of ps next) (proc_of_record (find n ps))) in
    let low = subst (Lowest (λ q. (last < q) × IsSome (find q ps))) c.in-Some.is c.next_after.ensures in
    let i = c.loop-pid.invariant p h in
    let placed = c.candidate.ensures.placed p h in (
      c.longer_with-best.ensures.placed p i.0 placed,
      longest_step p (runner_of best) (runner_of c.longer_with-best.result) g pid next (next_is ps next last pid c.requires low).1
          (c.longer_with-best.ensures.runner p i.0 placed ∙ ap (longer_with p (runner_of best)) (c.candidate.ensures.runner p h))
          ∙ sym (ap (longest_from p (runner_of best)) (above_next test ps next last pid c.requires low))
          ∙ i.1,
    )

pub returns : goal.returns
returns c = λ p h.
    let ps = c.args.processes.now in
    let best = c.loop-pid.best in
    let low = subst (Lowest (λ q. (c.loop-pid.last < q) × IsSome (find q ps))) c.in_default.is c.next_after.ensures in
    sym (longest_last p (runner_of best))
    ∙ sym (ap (longest_from p (runner_of best)) (above_none (passes p c.args.kind) ps c.args.next c.loop-pid.last low))
    ∙ (c.loop-pid.invariant p h).1
