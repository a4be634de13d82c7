use Rattle.io_edge.specs.WithFiles.{stores}
use Rattle.std.proofs.Common.{◌≡◌, ◌⊎◌, inl, inr, ◌<◌, [], length, refl, sym, subst, arith}
use Rattle.vm_facts.specs.declared.entry.Entry.{Entry}
use Rattle.vm_facts.specs.declared.entry.Entry.TheVariants as entries
use Rattle.std.proofs.lemmas.Result.{err_from_is_err_and, IfErr-at_err}
use Rattle.run_model.specs.Next.{move_unit}
use Rattle.paging_units.specs.Stops.{StopsAt}
use Rattle.paging_units.proofs.LastMoves.{counts_last}
use Rattle.paging_units.proofs.Stopping.{call_stops}
use Rattle.paging_units.proofs.Keeping.{keeps_flat}
use Rattle.clock_hands.proofs.Moves.{moves_now, hand_makes}
use Rattle.clock_hands.proofs.moving.move_once.Goals as goal
use Rattle.clock_hands.proofs.moving.move_once.Goals.{else-n-gt0-via-then-n-gt0+else-in_flight-eq-MOST_IN_FLIGHT, else-n-gt0-via-else-n-gt0}

pub hand-requires-clause-fits : goal.hand-requires-clause-fits
hand-requires-clause-fits g c = λ count before e.
    let k = counts_last c.args.m.now.kernel.journal before count e in
    let f = c.requires.fits in
    omega arith

pub returns-in_err-hand-clause-stopped : goal.returns-in_err-hand-clause-stopped
returns-in_err-hand-clause-stopped g c =
    let old = c.args.m.now in
    let few = c.requires.asks.ready.running.sound.few_transfers in
    let either : (c.next_write-lo.result.1 ≡ 0) ⊎ (length old.kernel.place.transfers < 16) = elim c.else-n-gt0.branch [
      | else-n-gt0-via-then-n-gt0+else-in_flight-eq-MOST_IN_FLIGHT w ↦ inr (omega arith)
      | else-n-gt0-via-else-n-gt0 w ↦ inl (omega arith)
    ] in
    let unit : move_unit old.kernel.place [] ≡ entries.Hands 1 = moves_now old.kernel.place c.next_write-lo.result.0 c.next_write-lo.result.1 c.next_write-lo.ensures either in
    let i = stores g.F.Files g.D.SwapDev c.args.files.now c.args.swap.now in
    let stops = call_stops c.hand.result (entries.Hands 1) old c.hand.new.self i (λ s h. h) (λ s. refl) c.hand.ensures.stops c.requires.asks.ready.whole in
    let p = err_from_is_err_and c.from_residual-in_err-hand.result c.from_residual-in_err-hand.ensures.1 in
    rw (p.1, p.2) (subst (λ (u : Entry). StopsAt u old c.hand.new.self i i c.in_err-hand.field-0.0) (sym unit)
    (IfErr-at_err (λ s. StopsAt (entries.Hands 1) old c.hand.new.self i i s) c.in_err-hand.was stops))

pub returns-clause-moved : goal.returns-clause-moved
returns-clause-moved g c =
    let p = c.args.m.now.kernel.place in
    let few = c.requires.asks.ready.running.sound.few_transfers in
    let either : (c.next_write-lo.result.1 ≡ 0) ⊎ (length p.transfers < 16) = elim c.else-n-gt0.branch [
      | else-n-gt0-via-then-n-gt0+else-in_flight-eq-MOST_IN_FLIGHT w ↦ inr (omega arith)
      | else-n-gt0-via-else-n-gt0 w ↦ inl (omega arith)
    ] in
    moves_now p c.next_write-lo.result.0 c.next_write-lo.result.1 c.next_write-lo.ensures either

pub returns-clause-made : goal.returns-clause-made
returns-clause-made g c =
    hand_makes [] (move_unit c.args.m.now.kernel.place []) c.args.m.now c.hand.new.self (g.F.Files.holds c.args.files.now) (stores g.F.Files g.D.SwapDev c.args.files.now c.args.swap.now)
    (returns-clause-moved g c) c.in_ok-hand.ensures.performs.step c.in_ok-hand.ensures.performs.rest

pub returns-clause-keeps : goal.returns-clause-keeps
returns-clause-keeps g c =
    keeps_flat c.args.m.now c.hand.new.self (g.F.Files.holds c.args.files.now) (stores g.F.Files g.D.SwapDev c.args.files.now c.args.swap.now) c.in_ok-hand.ensures.performs.keeps
