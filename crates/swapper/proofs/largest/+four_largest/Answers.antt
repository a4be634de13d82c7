use Rattle.std.proofs.Common.{ℕ, ◌+◌, ◌<◌, IsSome, Option, List, take, refl, sym, ap, ◌∙◌, subst}
use Rattle.proc_table.specs.Records.{find, Lowest}
use Rattle.page_model.specs.Swapper.{Runner, ranked}
use Rattle.machine_state.specs.Machine.{proc_of_record, processes_of}
use Rattle.swapper.specs.declared.candidates.Kind.TheVariants as kinds
use Rattle.swapper.specs.Runners.{runner_from, passes, kept, options_of, listed_in}
use Rattle.machine_state.proofs.ByNumber.{next_is}
use Rattle.swapper.proofs.Numbers.{above_next, above_none}
use Rattle.swapper.proofs.Ranking.{ranked_step}
use Rattle.swapper.proofs.largest.+four_largest.Goals as goal

pub returns-in_default-clause-list : goal.returns-in_default-clause-list
returns-in_default-clause-list t c =
    let p = c.args.m.now.kernel.place in
    let ps = c.args.processes.now in
    let low = subst (Lowest (λ q. (c.args.last < q) × IsSome (find q ps))) c.in_default.is c.next_after.ensures in
    sym (ap (λ (rs : List Runner). take 4 (ranked p rs)) (above_none (passes p kinds.GoesOut) ps c.args.next c.args.last low))

pub returns-clause-list : goal.returns-clause-list
returns-clause-list t c =
    let p = c.args.m.now.kernel.place in
    let ps = c.args.processes.now in
    let next = c.args.next in
    let last = c.args.last in
    let pid = c.in-Some.pid in
    let h = c.requires.records in
    let more = c.four_largest in
    let test = passes p kinds.GoesOut in
    let g : ℕ → Option Runner = λ n. kept test (runner_from (processes_of ps next) (proc_of_record (find n ps))) in
    let low = subst (Lowest (λ q. (last < q) × IsSome (find q ps))) c.in-Some.is c.next_after.ensures in
    ap listed_in (c.place_with.ensures.list p more.ensures.measured c.measure.ensures.measured)
    ∙ ranked_step p c.measure.result (options_of more.result) g pid (pid + 1) next refl (next_is ps next last pid h low).1 refl c.measure.ensures.runner more.ensures.list
    ∙ sym (ap (λ (rs : List Runner). take 4 (ranked p rs)) (above_next test ps next last pid h low))

pub returns-clause-measured : goal.returns-clause-measured
returns-clause-measured t c = c.place_with.ensures.measured c.args.m.now.kernel.place c.four_largest.ensures.measured c.measure.ensures.measured
