use Rattle.io_edge.specs.WithFiles.{stores}
use Rattle.std.proofs.Common.{◌≡◌, ℕ, List, [], Bool, Option, Result, Ok, OnOk, IfErr, refl, sym, ap, ◌∙◌, subst, arith}
use Rattle.std.proofs.lemmas.Result.{on_ok_weaker}
use Rattle.vm_facts.specs.SwapImages.{SwapImage}
use Rattle.vm_facts.specs.declared.entry.Entry.{Entry}
use Rattle.vm_facts.specs.declared.entry.Entry.TheVariants as entries
use Rattle.vm_facts.specs.declared.stop.Stop.{Stop}
use Rattle.page_model.specs.Serve.{force_entry}
use Rattle.paging_units.specs.Machine.{Standing}
use Rattle.paging_units.specs.Sourced.{files_named}
use Rattle.paging_units.specs.Conditions.{KeepsFlat}
use Rattle.paging_units.specs.Done.{KeepsThrough}
use Rattle.paging_units.specs.Made.{ground, MakesUnit}
use Rattle.paging_units.specs.Stops.{StopsAt}
use Rattle.paging_units.proofs.LastMoves.{counts_last}
use Rattle.paging_units.proofs.Stopping.{image_idle, call_stops}
use Rattle.paging_units.proofs.Keeping.{keeps_flat}
use Rattle.clock_hands.proofs.Moves.{hand_makes, on_ok_two}
use Rattle.clock_hands.proofs.forcing.force_once.Goals as goal

pub hand-requires-clause-fits : goal.hand-requires-clause-fits
hand-requires-clause-fits g c = λ count before e.
    let same : c.done.new.self ≡ c.args.m.now = c.in_ok-done.ensures.still (ap (λ (b : Bool). let r : Result Bool Stop = Ok b in r) c.if-branch.false) in
    let k = counts_last c.args.m.now.kernel.journal before count (sym (ap (λ (s : Standing). s.kernel.journal) same) ∙ e) in
    let f = c.requires.fits in
    omega arith

pub returns-clause-keeps : goal.returns-clause-keeps
returns-clause-keeps g c =
    let no = ap (λ (b : Bool). let r : Result Bool Stop = Ok b in r) c.if-branch.false in
    let same : c.done.new.self ≡ c.args.m.now = c.in_ok-done.ensures.still no in
    let old = c.args.m.now in
    let holds = g.F.Files.holds c.args.files.now in
    let i = stores g.F.Files g.D.SwapDev c.args.files.now c.args.swap.now in
    let j = stores g.F.Files g.D.SwapDev c.done.new.files c.done.new.swap in
    let image : j ≡ i = image_idle (files_named old.images) old.kernel i j (c.in_ok-done.ensures.idle.0 no) c.in_ok-done.ensures.swapped in
    on_ok_weaker c.hand.result (λ (h : KeepsFlat c.done.new.self.kernel c.hand.new.self.kernel).
    subst (λ (x : Option SwapImage). KeepsThrough old c.hand.new.self holds i x) (sym image)
    (keeps_flat old c.hand.new.self holds i (subst (λ (s : Standing). KeepsFlat s.kernel c.hand.new.self.kernel) same h)))
    c.hand.ensures.performs.keeps

pub returns-clause-made : goal.returns-clause-made
returns-clause-made g c =
    let no = ap (λ (b : Bool). let r : Result Bool Stop = Ok b in r) c.if-branch.false in
    let old = c.args.m.now in
    let here = c.done.new.self in
    let same : here ≡ old = c.in_ok-done.ensures.still no in
    let holds = g.F.Files.holds c.args.files.now in
    let locked = c.args.locked.now in
    let i = stores g.F.Files g.D.SwapDev c.args.files.now c.args.swap.now in
    let j = stores g.F.Files g.D.SwapDev c.done.new.files c.done.new.swap in
    let idle : old.kernel.place.transfers ≡ [] = c.in_ok-done.ensures.idle.0 no in
    let image : j ≡ i = image_idle (files_named old.images) old.kernel i j idle c.in_ok-done.ensures.swapped in
    let moved : force_entry here.kernel.place.transfers ≡ entries.Hands 1 = ap force_entry (ap (λ (s : Standing). s.kernel.place.transfers) same ∙ idle) in
    subst (λ (x : Option SwapImage). OnOk c.hand.result (MakesUnit (ground old holds locked) (force_entry old.kernel.place.transfers) old c.hand.new.self i x)) (sym image)
    (subst (λ (s : Standing). OnOk c.hand.result (MakesUnit (ground s holds locked) (force_entry s.kernel.place.transfers) s c.hand.new.self i i)) same
    (on_ok_two c.hand.result (hand_makes locked (force_entry here.kernel.place.transfers) here c.hand.new.self holds i moved) c.hand.ensures.performs.step c.hand.ensures.performs.rest))

pub returns-clause-stopped : goal.returns-clause-stopped
returns-clause-stopped g c =
    let no = ap (λ (b : Bool). let r : Result Bool Stop = Ok b in r) c.if-branch.false in
    let old = c.args.m.now in
    let here = c.done.new.self in
    let new = c.hand.new.self in
    let same : here ≡ old = c.in_ok-done.ensures.still no in
    let i = stores g.F.Files g.D.SwapDev c.args.files.now c.args.swap.now in
    let j = stores g.F.Files g.D.SwapDev c.done.new.files c.done.new.swap in
    let idle : old.kernel.place.transfers ≡ [] = c.in_ok-done.ensures.idle.0 no in
    let image : j ≡ i = image_idle (files_named old.images) old.kernel i j idle c.in_ok-done.ensures.swapped in
    let whole : here.before ≡ here.kernel.holdings = subst (λ (s : Standing). s.before ≡ s.kernel.holdings) (sym same) c.requires.asks.ready.whole in
    subst (λ (x : Option SwapImage). IfErr c.hand.result (λ stop. StopsAt (force_entry old.kernel.place.transfers) old new i x stop)) (sym image)
    (subst (λ (u : Entry). IfErr c.hand.result (λ stop. StopsAt u old new i i stop)) (sym (ap force_entry idle))
    (subst (λ (s : Standing). IfErr c.hand.result (λ stop. StopsAt (entries.Hands 1) s new i i stop)) same
    (call_stops c.hand.result (entries.Hands 1) here new i (λ s h. h) (λ s. refl) c.hand.ensures.stops whole)))
