use Rattle.std.proofs.Common.{◌≡◌, ℕ, suc, ◌-◌, ◌++◌, List, refl, sym, ap, ◌∙◌, subst, arith}
use Rattle.transfer_ring.specs.declared.transfer.Outbound.{Outbound}
use Rattle.transfer_ring.specs.Sound.{IsRun, outbound_pages}
use Rattle.flat_state.specs.PageNames.{pages_from}
use Rattle.page_model.specs.Conditions.{EachPage, HasSeat}
use Rattle.transfer_ring.specs.declared.transfer.Transfer.{Transfer as Flight}
use Rattle.transfer_ring.specs.declared.transfer.Transfer.TheVariants as flights
use Rattle.page_model.specs.Steps.{launch_all}
use Rattle.kernel_tables.specs.declared.tables.Tables.{Tables}
use Rattle.kernel_tables.specs.View.{placement_of, frames_of}
use Rattle.kernel_tables.specs.Machine.{lists_of}
use Rattle.kernel_tables.specs.Launches.{launching, HaveOwnBlocks, MayLaunch}
use Rattle.table_steps.proofs.Gets.{run_rises}
use Rattle.table_steps.proofs.FewPages.{run_low}
use Rattle.table_steps.proofs.Launchings.{may_begin}
use Rattle.table_steps.proofs.Puttings.{wrote_run}
use Rattle.table_steps.proofs.launching.write_run.Goals as goal

pub launch_all-requires-clause-may : goal.launch_all-requires-clause-may
launch_all-requires-clause-may c =
    subst (λ (ys : List Outbound). MayLaunch (launching c.args.tables.now ys) c.args.page c.args.lo c.args.n) (sym c.requires.empty)
    (may_begin c.args.tables.now c.args.page c.args.lo c.args.n c.requires.may)

pub launch_all-requires-clause-fits : goal.launch_all-requires-clause-fits
launch_all-requires-clause-fits c =
    let m : ℕ = c.args.n - 1 in
    let e : c.args.n ≡ suc m = omega (arith, c.requires.some) in
    let a = run_low (lists_of c.args.tables.now) c.args.page c.args.lo m c.requires.may.known
    (subst (λ (k : ℕ). EachPage (HasSeat (placement_of (lists_of c.args.tables.now))) (pages_from c.args.page c.args.lo k)) e c.requires.may.seats) in
    omega (arith, a, e)

pub begin_write-requires : goal.begin_write-requires
begin_write-requires c =
    subst IsRun (sym (c.launch_all.ensures.pages ∙ ap (λ (ys : List Outbound). outbound_pages ys ++ pages_from c.args.page c.args.lo c.args.n) c.requires.empty))
    (run_rises c.args.page c.args.lo c.args.n c.requires.some c.requires.most)

pub returns : goal.returns
returns c =
    let t : Tables = c.args.tables.now in
    let u : Tables = c.launch_all.new.tables in
    let ps : List Outbound = c.launch_all.new.parts.items in
    let x : Flight = flights.Write c.launch_all.new.parts in
    wrote_run t u (record u { ring = c.begin_write.new.self }) ps x c.args.page c.args.lo c.args.n (record {
      place = c.launch_all.ensures.place ∙ ap (λ (ys : List Outbound). launch_all (placement_of (launching t ys)) (pages_from c.args.page c.args.lo c.args.n)) c.requires.empty;
      frames = c.launch_all.ensures.frames ∙ ap (λ (ys : List Outbound). frames_of (launching t ys)) c.requires.empty;
      known = c.launch_all.ensures.known;
      images = c.launch_all.ensures.images;
      rest = c.launch_all.ensures.rest;
      ring_rest = refl;
      ring = c.in-Ok.ensures.begun;
      shown = refl;
      flying = refl;
      own = c.launch_all.ensures.blocks (subst (HaveOwnBlocks t.book.holdings) (sym c.requires.empty) tt);
    })
