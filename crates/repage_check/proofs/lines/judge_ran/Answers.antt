use Rattle.std.proofs.Common.{◌≡◌, ℕ, ◌∷◌, [], List, Option, None, refl, sym, ◌∙◌, subst, arith}
use Rattle.vm_facts.specs.declared.entry.Entry.{Entry}
use Rattle.vm_facts.specs.declared.entry.Entry.TheVariants as entries
use Rattle.io_edge.specs.WithFiles.{stores}
use Rattle.io_edge.specs.FileHolding.{NamedFile}
use Rattle.flat_state.specs.Journal.{repeated}
use Rattle.machine_state.proofs.Backing.{backed_by}
use Rattle.vm_core.specs.Stepped.{LeadsFrom}
use Rattle.repage_check.specs.Past.{PastAt}
use Rattle.repage_check.specs.Lines.{UnitsTold, GoesBy}
use Rattle.repage_check.proofs.Repeating.{none_by, more_by, ran_by}
use Rattle.repage_check.proofs.Looping.{none_by_test, units_first, units_step, units_stop, units_end, units_some}
use Rattle.repage_check.proofs.lines.judge_ran.Goals as goal

pub loop-done-init : goal.loop-done-init
loop-done-init g c = record {
  told = units_first (entries.Ran c.args.pid 1) c.args.times c.args.past.now c.args.m.now (g.F.Files.holds c.args.files.now)
      (stores g.F.Files g.D.SwapDev c.args.files.now c.args.swap.now);
  at = c.requires.at;
  on = none_by c.args.m.now c.requires.asks.ready c.requires.wide;
  lines = omega arith;
  holds = refl;
  blocks = refl;
}

pub judge_next-requires-clause-low : goal.judge_next-requires-clause-low
judge_next-requires-clause-low g c =
    let r = ran_by c.args.pid c.loop-done.done c.args.m.now c.loop-done.m c.loop-done.invariant.on in
    let e = r.1 in
    let most = c.requires.low in
    omega (arith, e, most)

pub judge_next-requires-clause-fits : goal.judge_next-requires-clause-fits
judge_next-requires-clause-fits g c =
    let r = ran_by c.args.pid c.loop-done.done c.args.m.now c.loop-done.m c.loop-done.invariant.on in
    let e = r.0 in
    let most = c.requires.fits in
    omega (arith, e, most)

pub judge_next-requires-clause-lines : goal.judge_next-requires-clause-lines
judge_next-requires-clause-lines g c =
    let e = c.loop-done.invariant.lines in
    let most = c.requires.lines in
    omega (arith, e, most)

pub judge_next-requires-clause-asks : goal.judge_next-requires-clause-asks
judge_next-requires-clause-asks g c =
    let so = c.loop-done.invariant in
    record {
      ready = so.on.ready;
      backed = backed_by c.args.m.now c.loop-done.m (g.F.Files.holds c.args.files.now) _ _ _ so.on.blocks so.on.images so.holds so.blocks c.requires.asks.backed;
    }

pub loop-done-preserved : goal.loop-done-preserved
loop-done-preserved g c =
    let u : Entry = entries.Ran c.args.pid 1 in
    let holds = g.F.Files.holds c.args.files.now in
    let i = stores g.F.Files g.D.SwapDev c.loop-done.files c.loop-done.swap in
    let j = stores g.F.Files g.D.SwapDev c.judge_next.new.files c.judge_next.new.swap in
    let so = c.loop-done.invariant in
    let judged = c.in_ok-judged.judged in
    let none : judged ≡ None = none_by_test judged (sym c.is_some.ensures ∙ c.if-is_some.false) in
    let told : LeadsFrom (PastAt c.loop-done.past c.loop-done.m holds i) (UnitsTold judged (u ∷ []) c.judge_next.new.past c.judge_next.new.m holds j) =
    subst (λ (hs : Option (List NamedFile)). LeadsFrom (PastAt c.loop-done.past c.loop-done.m hs i) (UnitsTold judged (u ∷ []) c.judge_next.new.past c.judge_next.new.m hs j))
    so.holds c.in_ok-judged.ensures.told in
    record {
      told = units_step (repeated u c.args.times []) u c.loop-done.done c.args.times c.args.past.now c.args.m.now holds (stores g.F.Files g.D.SwapDev c.args.files.now c.args.swap.now)
          c.loop-done.past c.loop-done.m i so.told (omega arith) c.judge_next.new.past c.judge_next.new.m j judged told none;
      at = units_some c.loop-done.past c.loop-done.m holds i (u ∷ []) c.judge_next.new.past c.judge_next.new.m j judged so.at told none;
      on = more_by u c.loop-done.done c.args.m.now c.loop-done.m c.judge_next.new.m so.on (c.in_ok-judged.ensures.on none);
      lines = let a = c.in_ok-judged.ensures.lines in let b = so.lines in omega (arith, a, b);
      holds = c.judge_next.ensures.holds ∙ so.holds;
      blocks = c.judge_next.ensures.blocks ∙ so.blocks;
    }

pub returns-then-is_some-clause-told : goal.returns-then-is_some-clause-told
returns-then-is_some-clause-told g c =
    let u : Entry = entries.Ran c.args.pid 1 in
    let holds = g.F.Files.holds c.args.files.now in
    let i = stores g.F.Files g.D.SwapDev c.loop-done.files c.loop-done.swap in
    let j = stores g.F.Files g.D.SwapDev c.judge_next.new.files c.judge_next.new.swap in
    let so = c.loop-done.invariant in
    let judged = c.in_ok-judged.judged in
    units_stop (repeated u c.args.times []) u c.loop-done.done c.args.times c.args.past.now c.args.m.now holds (stores g.F.Files g.D.SwapDev c.args.files.now c.args.swap.now)
    c.loop-done.past c.loop-done.m i so.told (omega arith) c.judge_next.new.past c.judge_next.new.m j judged
    (subst (λ (hs : Option (List NamedFile)). LeadsFrom (PastAt c.loop-done.past c.loop-done.m hs i) (UnitsTold judged (u ∷ []) c.judge_next.new.past c.judge_next.new.m hs j))
    so.holds c.in_ok-judged.ensures.told) (sym c.is_some.ensures ∙ c.if-is_some.true)

pub returns-then-is_some-clause-lines : goal.returns-then-is_some-clause-lines
returns-then-is_some-clause-lines g c =
    let a = c.in_ok-judged.ensures.lines in
    let b = c.loop-done.invariant.lines in
    omega (arith, a, b)

pub returns-clause-told : goal.returns-clause-told
returns-clause-told g c =
    units_end (repeated (entries.Ran c.args.pid 1) c.args.times []) (entries.Ran c.args.pid 1) c.loop-done.done c.args.times c.args.past.now c.args.m.now
    (g.F.Files.holds c.args.files.now) (stores g.F.Files g.D.SwapDev c.args.files.now c.args.swap.now) c.loop-done.past c.loop-done.m (stores g.F.Files g.D.SwapDev c.loop-done.files c.loop-done.swap)
    c.loop-done.invariant.told (omega arith)

pub returns-clause-on : goal.returns-clause-on
returns-clause-on g c = λ none.
    subst (λ (k : ℕ). GoesBy (repeated (entries.Ran c.args.pid 1) k []) c.args.m.now c.loop-done.m) (let e : c.loop-done.done ≡ c.args.times = omega arith in e)
    c.loop-done.invariant.on
