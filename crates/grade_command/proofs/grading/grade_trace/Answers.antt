use Rattle.io_edge.specs.WithFiles.{stores}
use Rattle.std.proofs.Common.{length, sym, ap, ◌∙◌, subst, arith}
use Rattle.grade_command.specs.Along.{Along}
use Rattle.grade_command.proofs.Going.{along_first, goes_further}
use Rattle.grade_command.proofs.grading.grade_trace.Goals as goal

pub loop-film-init : goal.loop-film-init
loop-film-init g c = record {
  filming = c.requires.filming;
  so_far = λ A image are begun.
      along_first A c.args.film.now (g.F.Files.holds c.args.files.now) (stores g.F.Files g.D.SwapDev c.args.files.now c.args.swap.now) image c.args.entries.now begun;
  within = let empty = ap length c.requires.first in omega (arith, empty);
  backed = c.requires.backed;
}

pub go_on_along-requires-clause-more : goal.go_on_along-requires-clause-more
go_on_along-requires-clause-more g c =
    (goes_further c.goes_along.result c.loop-film.agrees c.loop-film.film.over (length c.loop-film.film.machine.kernel.journal) (length c.args.entries.now)
    c.goes_along.ensures c.loop-film-test.true).1.0

pub go_on_along-requires-clause-within : goal.go_on_along-requires-clause-within
go_on_along-requires-clause-within g c =
    (goes_further c.goes_along.result c.loop-film.agrees c.loop-film.film.over (length c.loop-film.film.machine.kernel.journal) (length c.args.entries.now)
    c.goes_along.ensures c.loop-film-test.true).1.1

pub loop-film-preserved : goal.loop-film-preserved
loop-film-preserved g c =
    let so = c.loop-film.invariant in
    let on = goes_further c.goes_along.result c.loop-film.agrees c.loop-film.film.over (length c.loop-film.film.machine.kernel.journal) (length c.args.entries.now)
    c.goes_along.ensures c.loop-film-test.true in
    let below = on.1.1 in
    let ends = c.in_ok-agrees.ensures in
    record {
      filming = ends.filming;
      so_far = λ A image are begun. ends.goes A are
          (subst (λ b. Along A c.loop-film.film (g.F.Files.holds c.loop-film.files) (stores g.F.Files g.D.SwapDev c.loop-film.files c.loop-film.swap) b
          c.args.entries.now) on.0 (so.so_far A image are begun));
      within = let longer = ends.longer in omega (arith, below, longer);
      backed = ends.backed;
    }

pub loop-film-smaller : goal.loop-film-smaller
loop-film-smaller g c =
    let below = (goes_further c.goes_along.result c.loop-film.agrees c.loop-film.film.over (length c.loop-film.film.machine.kernel.journal) (length c.args.entries.now)
    c.goes_along.ensures c.loop-film-test.true).1.1 in
    let longer = c.in_ok-agrees.ensures.longer in
    omega (arith, below, longer)

pub grade_of-requires-clause-within : goal.grade_of-requires-clause-within
grade_of-requires-clause-within g c = c.loop-film.invariant.within

pub grade_of-requires-clause-ended : goal.grade_of-requires-clause-ended
grade_of-requires-clause-ended g c = sym c.goes_along.ensures ∙ c.loop-film-test.false

pub returns : goal.returns
returns g c = λ A image frames are begun.
    c.grade_of.ensures A (g.F.Files.holds c.loop-film.files) (stores g.F.Files g.D.SwapDev c.loop-film.files c.loop-film.swap) frames (c.loop-film.invariant.so_far A image are begun)
