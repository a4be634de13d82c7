use Rattle.io_edge.specs.WithFiles.{stores}
use Rattle.std.proofs.Common.{rules, length, sym, ap, ◌∙◌, arith}
use Rattle.question_command.proofs.Steps.{filmed_first, film_said, goes_further, goes_no_further}
use Rattle.question_command.proofs.filming.film_on.Goals as goal

pub put_step_if-requires-clause-running : goal.put_step_if-requires-clause-running
put_step_if-requires-clause-running g c = c.requires.filming.at.ready.running

pub loop-alloc-init : goal.loop-alloc-init
loop-alloc-init g c = record {
  filming = c.requires.filming;
  so_far = λ A image are begun.
      filmed_first A c.args.steps begun.state c.args.film.now (g.F.Files.holds c.args.files.now)
      (stores g.F.Files g.D.SwapDev c.args.files.now c.args.swap.now) image c.new-text.result.items c.put_step_if.new.text.items begun.at begun.first
      (search rules) c.in_ok-put_step_if.ensures;
  within = let empty = ap length c.requires.first in omega (arith, empty);
  backed = c.requires.backed;
}

pub goes_on-requires : goal.goes_on-requires
goes_on-requires g c = c.loop-alloc.invariant.filming.at.ready.running

pub go_on_and_put-requires-clause-more : goal.go_on_and_put-requires-clause-more
go_on_and_put-requires-clause-more g c =
    let so = c.loop-alloc.invariant in
    (goes_further c.loop-alloc.film.over (length c.loop-alloc.film.machine.kernel.journal) c.args.steps.to (sym c.goes_on.ensures ∙ c.loop-alloc-test.true)).0

pub go_on_and_put-requires-clause-room : goal.go_on_and_put-requires-clause-room
go_on_and_put-requires-clause-room g c =
    let below = (goes_further c.loop-alloc.film.over (length c.loop-alloc.film.machine.kernel.journal) c.args.steps.to (sym c.goes_on.ensures ∙ c.loop-alloc-test.true)).1 in
    omega (arith, below)

pub loop-alloc-preserved : goal.loop-alloc-preserved
loop-alloc-preserved g c =
    let so = c.loop-alloc.invariant in
    let below = (goes_further c.loop-alloc.film.over (length c.loop-alloc.film.machine.kernel.journal) c.args.steps.to (sym c.goes_on.ensures ∙ c.loop-alloc-test.true)).1 in
    let ends = c.in_ok-go_on_and_put.ensures in
    record {
      filming = ends.filming;
      so_far = λ A image are begun. ends.goes A are (so.so_far A image are begun);
      within = let longer = ends.longer in omega (arith, below, longer);
      backed = ends.backed;
    }

pub loop-alloc-smaller : goal.loop-alloc-smaller
loop-alloc-smaller g c =
    let below = (goes_further c.loop-alloc.film.over (length c.loop-alloc.film.machine.kernel.journal) c.args.steps.to (sym c.goes_on.ensures ∙ c.loop-alloc-test.true)).1 in
    let longer = c.in_ok-go_on_and_put.ensures.longer in
    omega (arith, below, longer)

pub returns : goal.returns
returns g c = λ A image are begun.
    let so = c.loop-alloc.invariant in
    film_said A c.args.steps c.loop-alloc.film (g.F.Files.holds c.loop-alloc.files) (stores g.F.Files g.D.SwapDev c.loop-alloc.files c.loop-alloc.swap)
    c.loop-alloc.text.items (so.so_far A image are begun) so.within
    (goes_no_further c.loop-alloc.film.over (length c.loop-alloc.film.machine.kernel.journal) c.args.steps.to (sym c.goes_on.ensures ∙ c.loop-alloc-test.false) so.within)
