use Rattle.std.proofs.Common.{◌≡◌, ◌-◌, ◌<◌, ◌≤◌, ℕ, ◌∷◌, [], refl, sym, subst, arith}
use Rattle.vm_facts.specs.declared.page.Page.{Page}
use Rattle.page_model.specs.Conditions.{AtRest}
use Rattle.page_model.specs.Placement.{state_of, IsThere}
use Rattle.flat_state.specs.PageNames.{pages_from}
use Rattle.kernel_tables.specs.View.{placement_of}
use Rattle.kernel_tables.specs.declared.tables.Tables.{Tables}
use Rattle.kernel_tables.specs.Machine.{lists_of}
use Rattle.kernel_tables.specs.Changing.{Dropped}
use Rattle.table_steps.proofs.Passed.{MayForgetRun, dropped_none, home_stays, none_filled, passed_may, passed_dropped, passed_last}
use Rattle.table_steps.proofs.dropping.drop_pages.Goals as goal

pub returns-in_default : goal.returns-in_default
returns-in_default c =
    let t : Tables = c.args.tables.now in
    let q : Page = c.args.page in
    let from : ℕ = c.args.from in
    let to : ℕ = c.args.to in
    let may : MayForgetRun t q from to = record { writable = c.requires.writable; there = c.requires.there; rest = c.requires.rest } in
    let start : from - from ≡ 0 = omega arith in
    let none : Dropped t t (pages_from q from (from - from)) = subst (λ (n : ℕ). Dropped t t (pages_from q from n)) (sym start) (dropped_none t c.requires.known) in
    passed_last t t q from to from may none (omega arith) (λ h. h) (λ h. refl) (λ k l m. none_filled t.spaces q c.requires.writable c.in_default.ensures.absent k)

pub loop-filled-init : goal.loop-filled-init
loop-filled-init c =
    let t : Tables = c.args.tables.now in
    let start : c.args.from - c.args.from ≡ 0 = omega arith in
    record {
      dropped = subst (λ (n : ℕ). Dropped t t (pages_from c.args.page c.args.from n)) (sym start) (dropped_none t c.requires.known);
      low = omega arith;
      within = λ h. h;
      none = λ h. refl;
    }

pub next_filled_at-requires : goal.next_filled_at-requires
next_filled_at-requires c =
    home_stays c.args.tables.now c.loop-filled.tables (pages_from c.args.page c.args.from (c.loop-filled.v - c.args.from)) c.in-Some.index c.args.page c.loop-filled.invariant.dropped
    c.in-Some.ensures.found

pub drop_page-requires-clause-there : goal.drop_page-requires-clause-there
drop_page-requires-clause-there c =
    let may : MayForgetRun c.args.tables.now c.args.page c.args.from c.args.to = record { writable = c.requires.writable; there = c.requires.there; rest = c.requires.rest } in
    let so = c.loop-filled.invariant in
    let first = c.in-Some-next_filled_at.ensures in
    let m = passed_may c.args.tables.now c.loop-filled.tables c.args.page c.args.from c.args.to c.loop-filled.v c.in-Some-next_filled_at.filled may so.dropped so.low
    first.found.0 first.found.1 first.none_before in
    subst (IsThere (placement_of (lists_of c.loop-filled.tables))) (sym c.beside.ensures) m.there

pub drop_page-requires-clause-rests : goal.drop_page-requires-clause-rests
drop_page-requires-clause-rests c =
    let may : MayForgetRun c.args.tables.now c.args.page c.args.from c.args.to = record { writable = c.requires.writable; there = c.requires.there; rest = c.requires.rest } in
    let so = c.loop-filled.invariant in
    let first = c.in-Some-next_filled_at.ensures in
    let m = passed_may c.args.tables.now c.loop-filled.tables c.args.page c.args.from c.args.to c.loop-filled.v c.in-Some-next_filled_at.filled may so.dropped so.low
    first.found.0 first.found.1 first.none_before in
    subst (λ (r : Page). AtRest (state_of (placement_of (lists_of c.loop-filled.tables)) r)) (sym c.beside.ensures) m.rests

pub loop-filled-preserved : goal.loop-filled-preserved
loop-filled-preserved c =
    let may : MayForgetRun c.args.tables.now c.args.page c.args.from c.args.to = record { writable = c.requires.writable; there = c.requires.there; rest = c.requires.rest } in
    let so = c.loop-filled.invariant in
    let first = c.in-Some-next_filled_at.ensures in
    let at : c.args.from ≤ c.loop-filled.v = so.low in
    let low : c.loop-filled.v ≤ c.in-Some-next_filled_at.filled = first.found.0 in
    let high : c.in-Some-next_filled_at.filled < c.args.to = first.found.1 in
    record {
      dropped = passed_dropped c.args.tables.now c.loop-filled.tables c.drop_page.new.tables c.args.page c.args.from c.args.to c.loop-filled.v c.in-Some-next_filled_at.filled
          may so.dropped at low high first.none_before
          (subst (λ (r : Page). Dropped c.loop-filled.tables c.drop_page.new.tables (r ∷ [])) c.beside.ensures c.drop_page.ensures);
      low = omega (arith, at, low);
      within = λ h. omega (arith, high);
      none = λ h. absurd (omega (arith, at, low, high, h));
    }

pub returns : goal.returns
returns c =
    let may : MayForgetRun c.args.tables.now c.args.page c.args.from c.args.to = record { writable = c.requires.writable; there = c.requires.there; rest = c.requires.rest } in
    let so = c.loop-filled.invariant in
    passed_last c.args.tables.now c.loop-filled.tables c.args.page c.args.from c.args.to c.loop-filled.v may so.dropped so.low so.within so.none c.in_default-next_filled_at.ensures.none_before
