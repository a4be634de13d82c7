use Rattle.std.proofs.Common.{◌≡◌, ℕ, ◌<◌, [], None, sym, ◌∙◌, subst, arith}
use Rattle.vm_facts.specs.declared.entry.Entry.TheVariants as entries
use Rattle.flat_state.specs.Journal.{repeated}
use Rattle.repage_check.specs.Lines.{GoesBy}
use Rattle.repage_check.proofs.Repeating.{none_by, more_by, hands_by}
use Rattle.repage_check.proofs.Looping.{none_by_test, moves_first, moves_step, moves_stop, moves_end}
use Rattle.repage_check.proofs.lines.judge_moves.Goals as goal

pub loop-done-init : goal.loop-done-init
loop-done-init c = record {
  told = moves_first c.args.times c.args.pages.now c.args.past c.args.m.now;
  on = none_by c.args.m.now c.requires.ready c.requires.wide;
  frames = c.requires.frames;
}

pub judge_once-requires-clause-low : goal.judge_once-requires-clause-low
judge_once-requires-clause-low c =
    let r = hands_by c.loop-done.done c.args.m.now c.loop-done.m c.loop-done.invariant.on in
    let e = r.1 in
    let most = c.requires.low in
    let below : c.loop-done.done < c.args.times = omega arith in
    omega (arith, e, most, below)

pub judge_once-requires-clause-fits : goal.judge_once-requires-clause-fits
judge_once-requires-clause-fits c =
    let r = hands_by c.loop-done.done c.args.m.now c.loop-done.m c.loop-done.invariant.on in
    let e = r.0 in
    let most = c.requires.fits in
    omega (arith, e, most)

pub loop-done-preserved : goal.loop-done-preserved
loop-done-preserved c =
    let so = c.loop-done.invariant in
    let judged = c.in_ok-judged.judged in
    let none : judged ≡ None = none_by_test judged (sym c.is_some.ensures ∙ c.if-is_some.false) in
    record {
      told = moves_step (repeated (entries.Hands 1) c.args.times []) c.args.pages.now c.loop-done.done c.args.times c.args.past c.args.m.now c.loop-done.m so.told
          (omega arith) c.judge_once.new.m judged c.in_ok-judged.ensures.told none;
      on = more_by (entries.Hands 1) c.loop-done.done c.args.m.now c.loop-done.m c.judge_once.new.m so.on (c.in_ok-judged.ensures.on none);
      frames = let e = c.in_ok-judged.ensures.frames none in let most = so.frames in omega (arith, e, most);
    }

pub returns-then-is_some-clause-told : goal.returns-then-is_some-clause-told
returns-then-is_some-clause-told c =
    moves_stop (repeated (entries.Hands 1) c.args.times []) c.args.pages.now c.loop-done.done c.args.times c.args.past c.args.m.now c.loop-done.m
    c.loop-done.invariant.told (omega arith) c.judge_once.new.m c.in_ok-judged.judged c.in_ok-judged.ensures.told (sym c.is_some.ensures ∙ c.if-is_some.true)

pub returns-clause-told : goal.returns-clause-told
returns-clause-told c =
    moves_end (repeated (entries.Hands 1) c.args.times []) c.args.pages.now c.loop-done.done c.args.times c.args.past c.args.m.now c.loop-done.m
    c.loop-done.invariant.told (omega arith)

pub returns-clause-on : goal.returns-clause-on
returns-clause-on c = λ none.
    subst (λ (k : ℕ). GoesBy (repeated (entries.Hands 1) k []) c.args.m.now c.loop-done.m) (let e : c.loop-done.done ≡ c.args.times = omega arith in e)
    c.loop-done.invariant.on
