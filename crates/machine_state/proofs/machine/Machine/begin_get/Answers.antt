use Rattle.std.proofs.Common.{◌≡◌, List, [], ◌∷◌, ◌++◌, refl, sym, ap, ◌∙◌, subst, rules}
use Rattle.vm_facts.specs.declared.entry.Entry.{Entry}
use Rattle.vm_facts.specs.declared.entry.Entry.TheVariants as entries
use Rattle.swap_book.specs.Holdings.{Holdings}
use Rattle.page_model.specs.Conditions.{EachPage}
use Rattle.page_model.specs.Placement.{Source}
use Rattle.page_model.specs.PageBytes.{ReadsFrom}
use Rattle.flat_state.specs.PageNames.{pages_from}
use Rattle.kernel_model.specs.Kernel.{Kernel, get_step}
use Rattle.table_steps.specs.Tables.{Tables}
use Rattle.table_steps.specs.View.{placement_of}
use Rattle.table_steps.specs.Machine.{Standing, lists_of, kernel_by, images_of, image_at, before_of}
use Rattle.table_steps.specs.Sourced.{IsFlightSourced, AreSourced}
use Rattle.table_steps.specs.Conditions.{CanBringIn, KeepsFlat, SameOutside}
use Rattle.machine_state.proofs.Knowing.{known_of, known_now}
use Rattle.machine_state.proofs.Standings.{running, stands_now, whole_now}
use Rattle.machine_state.proofs.Stepping.{Kept, Stepped, stepped}
use Rattle.machine_state.proofs.HoldingSteps.{page_keeps}
use Rattle.table_steps.proofs.Stills.{pushed, sourced_more}
use Rattle.table_steps.proofs.Sources.{run_sources}
use Rattle.table_steps.proofs.Gets.{get_kernel, get_keeps, get_same}
use Rattle.machine_state.proofs.StepRuns.{get_runs}
use Rattle.machine_state.proofs.machine.Machine.begin_get.Goals as goal

pub read_run-requires-clause-known : goal.read_run-requires-clause-known
read_run-requires-clause-known c =
    known_now c.self.inside c.args.self.now c.self.invariant c.self.view_is c.requires.ready c.stands.ensures

pub read_run-requires-clause-can : goal.read_run-requires-clause-can
read_run-requires-clause-can c = subst (λ (s : Standing). CanBringIn s.kernel.place c.args.page c.args.lo c.args.n) (sym c.self.view_is) c.requires.can

pub read_run-requires-clause-has : goal.read_run-requires-clause-has
read_run-requires-clause-has c b e =
    let t : Tables = c.self.inside.tables in
    let r = running c.self.inside c.args.self.now c.self.invariant c.self.view_is c.requires.ready in
    let can : CanBringIn (placement_of (lists_of t)) c.args.page c.args.lo c.args.n =
    subst (λ (s : Standing). CanBringIn s.kernel.place c.args.page c.args.lo c.args.n) (sym c.self.view_is) c.requires.can in
    run_sources t (kernel_by t c.self.inside.journal.items c.self.inside.stopped) b c.args.page (pages_from c.args.page c.args.lo c.args.n)
    (known_of c.self.inside c.stands.ensures r) r.sound refl refl can.enter
    (subst (λ (s : Source). EachPage (ReadsFrom (placement_of (lists_of t)) s c.args.page) (pages_from c.args.page c.args.lo c.args.n)) (sym e) can.reads)

step : (c : goal.After-push_reserved)
    → Stepped c.self.inside
    (record c.self.inside { tables = c.read_run.new.tables; journal = c.push_reserved.new.self; room = c.make_room.new.room }) c.args.self.now
    (get_step (kernel_by c.self.inside.tables c.self.inside.journal.items c.self.inside.stopped) c.args.page c.args.lo c.args.n)
step c =
    let t : Tables = c.self.inside.tables in
    let w : Tables = c.read_run.new.tables in
    let k : Kernel = kernel_by t c.self.inside.journal.items c.self.inside.stopped in
    let r = running c.self.inside c.args.self.now c.self.invariant c.self.view_is c.requires.ready in
    let can : CanBringIn (placement_of (lists_of t)) c.args.page c.args.lo c.args.n =
    subst (λ (s : Standing). CanBringIn s.kernel.place c.args.page c.args.lo c.args.n) (sym c.self.view_is) c.requires.can in
    let now = stands_now c.self.inside c.args.self.now c.self.invariant c.self.view_is c.requires.ready.running.runs in
    let own = subst (λ (hs : Holdings). IsFlightSourced (images_of t) (image_at t) hs t.book.size c.read_run.ensures.flight)
    (sym (whole_now c.self.inside c.args.self.now c.self.view_is c.requires.ready.whole)) c.read_run.ensures.sourced in
    let journal : c.push_reserved.new.self.items ≡ c.self.inside.journal.items ++ entries.Get c.args.page c.args.lo c.args.n ∷ [] =
    c.push_reserved.ensures.items ∙ ap (λ (j : List Entry). j ++ entries.Get c.args.page c.args.lo c.args.n ∷ []) c.make_room.ensures.same in
    stepped c.self.inside _ c.args.self.now _ c.self.invariant c.self.view_is c.requires.ready (record {
      kept = subst (Kept t) (sym c.read_run.ensures.rest) (record { params = refl; images = refl; book = refl; found = refl; next_pid = refl; next_sid = refl; records = now.stands.records });
      is = ap (λ (j : List Entry). kernel_by w j c.self.inside.stopped) journal
          ∙ get_kernel t w c.args.page c.args.lo c.args.n c.self.inside.journal.items c.self.inside.stopped c.read_run.ensures;
      runs = get_runs t.book.size k (lists_of t) _ r c.read_run.ensures.tied c.args.page c.args.lo c.args.n can;
      ring = subst (AreSourced (images_of t) (image_at t) (before_of t) t.book.size) (sym c.read_run.ensures.ring)
          (sourced_more (images_of t) (image_at t) (before_of t) t.book.size t.ring c.read_run.ensures.flight now.stands.ring own);
      images = c.read_run.ensures.images;
      holders = page_keeps k (get_step k c.args.page c.args.lo c.args.n) [] 0 (entries.Get c.args.page c.args.lo c.args.n) refl refl;
      grown = pushed _ _ _ _ _ refl journal c.in_ok-make_room.ensures.ok.0;
      stopped = refl;
      lost = refl;
      room = c.make_room.ensures.room;
    })

pub invariant_of-self-2 : goal.invariant_of-self-2
invariant_of-self-2 c = (step c).inside

pub returns : goal.returns
returns c =
    let k : Kernel = kernel_by c.self.inside.tables c.self.inside.journal.items c.self.inside.stopped in
    let size = c.self.inside.tables.book.size in
    let r = running c.self.inside c.args.self.now c.self.invariant c.self.view_is c.requires.ready in
    let can : CanBringIn k.place c.args.page c.args.lo c.args.n = subst (λ (s : Standing). CanBringIn s.kernel.place c.args.page c.args.lo c.args.n) (sym c.self.view_is) c.requires.can in
    let z = step c in
    record {
      performs = record {
        step = z.is ∙ ap (λ (s : Standing). get_step s.kernel c.args.page c.args.lo c.args.n) c.self.view_is;
        rest = z.rest;
        keeps = z.says KeepsFlat (get_keeps size k c.args.page c.args.lo c.args.n r.sound can);
        same = z.says (λ (k l : Kernel). SameOutside k l (pages_from c.args.page c.args.lo c.args.n)) (get_same size k c.args.page c.args.lo c.args.n r.sound can);
        goes_on = z.goes_on;
      };
      stops = record { stop = search rules; cause = search rules; full = search rules };
    }
