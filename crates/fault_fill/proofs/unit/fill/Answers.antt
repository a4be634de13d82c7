use Rattle.io_edge.specs.WithFiles.{stores}
use Rattle.std.proofs.Common.{true, sym, ◌∙◌, arith}
use Rattle.std.proofs.lemmas.Bool.Decides.{nat_tests}
use Rattle.vm_facts.specs.declared.entry.Entry.TheVariants as entries
use Rattle.clock_hands.specs.Stops.{StopsAt}
use Rattle.fault_fill.specs.Units.{EndMade, AnyUnit, AnyStop}
use Rattle.fault_fill.proofs.Serving.{full, unit_reads}
use Rattle.fault_fill.proofs.Leading.{match_map, end_unit, end_stops}
use Rattle.fault_fill.proofs.unit.fill.Goals as goal

pub returns-then-in_flight-eq-MOST_IN_FLIGHT-clause-made : goal.returns-then-in_flight-eq-MOST_IN_FLIGHT-clause-made
returns-then-in_flight-eq-MOST_IN_FLIGHT-clause-made g c =
    let q = c.args.page in
    let old = c.args.m.now in
    let new = c.finish.new.m in
    let p = c.args.m.now.kernel.place in
    let holds = g.F.Files.holds c.args.files.now in
    let i = stores g.F.Files g.D.SwapDev c.args.files.now c.args.swap.now in
    let j = stores g.F.Files g.D.SwapDev c.finish.new.files c.finish.new.swap in
    let e = full p (let t = c.if-in_flight-eq-MOST_IN_FLIGHT.true in let n = c.in_flight.ensures in grind (arith, nat_tests)) in
    match_map (λ u. EndMade old new holds i j) (λ u. AnyUnit q old new holds i j) (StopsAt entries.Done old new i j) (AnyStop q old new i j) c.finish.result
    (λ u m now locked. end_unit now locked q old new holds i j (unit_reads p q now true e c.requires.frameless (sym c.is_blank.ensures ∙ c.if-is_blank.false) c.requires.free) m)
    (λ s m now. end_stops now q old new i j s (unit_reads p q now true e c.requires.frameless (sym c.is_blank.ensures ∙ c.if-is_blank.false) c.requires.free) m)
    c.finish.ensures.made
