use Rattle.std.proofs.Common.{ℕ, List, ◌++◌, ap, ◌∙◌}
use Rattle.reference_answers.proofs.SweepLaws.{line_added, is_sweep_line, is_lru}
use Rattle.reference_answers.proofs.sweeping.put_line.Goals as goal

pub returns : goal.returns
returns c =
    let known = c.requires.known in
    line_added c.args.known.numbers.now c.args.frames c.in_ok-plan.plan.faults c.in_ok-plan.plan.victims.items c.args.text.now.items c.put_policies_line.new.text.items
    (record { plan = c.in_ok-plan.ensures.faults; least = c.in_ok-plan.ensures.least; furthest = c.in_ok-plan.ensures.furthest })
    (c.in_ok-put_policies_line.ensures
    ∙ ap (λ (line : List ℕ). c.args.text.now.items ++ line)
    (is_sweep_line c.args.known.numbers.now c.args.frames c.in_ok-fifo.fifo c.in_ok-clock.clock c.in_ok-hands.hands c.lru_with-lru.result c.in_ok-plan.plan.faults
    c.in_ok-fifo.ensures c.in_ok-clock.ensures c.in_ok-hands.ensures
    (c.lru_with-lru.ensures ∙ is_lru c.args.known.numbers.now c.args.known.curve.now c.args.frames c.requires.some known.sizes known.entries known.past)))
