use Rattle.std.proofs.Common.{◌≡◌, List, [], ◌∷◌, ◌++◌, refl, sym, ap, ◌∙◌, subst, rules}
use Rattle.vm_facts.specs.declared.entry.Entry.{Entry}
use Rattle.vm_facts.specs.declared.entry.Entry.TheVariants as entries
use Rattle.page_model.specs.Pages.{frame_of}
use Rattle.kernel_model.specs.Kernel.{Kernel, zero_step}
use Rattle.table_steps.specs.View.{placement_of}
use Rattle.table_steps.specs.Machine.{Standing, lists_of, kernel_by}
use Rattle.table_steps.specs.Conditions.{CanZero, KeepsFlat, SameElsewhere}
use Rattle.table_steps.specs.Tables.{Tables}
use Rattle.table_steps.specs.Known.{Known}
use Rattle.table_steps.proofs.Evicts.{head_below}
use Rattle.table_steps.proofs.Knows.{texts_here, not_held}
use Rattle.machine_state.proofs.Knowing.{known_of, known_now}
use Rattle.table_steps.proofs.Zeros.{Zeroing}
use Rattle.machine_state.proofs.ZeroKeeps.{zero_keeps, zero_same}
use Rattle.table_steps.proofs.Kernels.{zeroing_rest, zero_ties, zero_kernel}
use Rattle.table_steps.proofs.Kept.{tied_still, left_due}
use Rattle.machine_state.proofs.HoldingSteps.{page_keeps}
use Rattle.machine_state.proofs.StepRuns.{zero_runs}
use Rattle.machine_state.proofs.Standings.{running, stands_now}
use Rattle.machine_state.proofs.Stepping.{Kept, Stepped, stepped, same_ring}
use Rattle.table_steps.proofs.Stills.{images_heads, pushed}
use Rattle.machine_state.proofs.machine.Machine.fill_zero.Goals as goal

pub take_frame-token-requires-clause-texts : goal.take_frame-token-requires-clause-texts
take_frame-token-requires-clause-texts c =
    texts_here (lists_of c.self.inside.tables) (known_now c.self.inside c.args.self.now c.self.invariant c.self.view_is c.requires.ready c.stands.ensures)

pub seat-requires-clause-not_held : goal.seat-requires-clause-not_held
seat-requires-clause-not_held c =
    let l = lists_of c.self.inside.tables in
    let k : Known l = known_now c.self.inside c.args.self.now c.self.invariant c.self.view_is c.requires.ready c.stands.ensures in
    let can : CanZero (placement_of l) c.args.page = subst (λ (s : Standing). CanZero s.kernel.place c.args.page) (sym c.self.view_is) c.requires.can in
    not_held l c.take_frame-token.result.number c.take_frame-token.new.self.core.slots c.take_frame-token.new.self.core.free c.args.page k (ap frame_of can.unfilled)
    c.take_frame-token.ensures.slots (head_below l c.take_frame-token.result.number c.take_frame-token.result _ c.take_frame-token.ensures.was)

step : (c : goal.After-push_reserved)
    → Stepped c.self.inside
    (record c.self.inside { tables = c.finish_fill.new.self; journal = c.push_reserved.new.self; room = c.make_room.new.room }) c.args.self.now
    (zero_step (kernel_by c.self.inside.tables c.self.inside.journal.items c.self.inside.stopped) c.args.page)
step c =
    let t : Tables = c.self.inside.tables in
    let k : Kernel = kernel_by t c.self.inside.journal.items c.self.inside.stopped in
    let w : Tables = c.finish_fill.new.self in
    let r = running c.self.inside c.args.self.now c.self.invariant c.self.view_is c.requires.ready in
    let can : CanZero (placement_of (lists_of t)) c.args.page = subst (λ (s : Standing). CanZero s.kernel.place c.args.page) (sym c.self.view_is) c.requires.can in
    let z : Zeroing t c.take_frame-token.new.self c.seat.new.self w c.take_frame-token.result c.fill_frame-filled.result c.args.page = record {
      known = known_of c.self.inside c.stands.ensures r;
      took = record {
        free = c.take_frame-token.ensures.free;
        was = c.take_frame-token.ensures.was;
        slots = c.take_frame-token.ensures.slots;
        spaces = c.take_frame-token.ensures.spaces;
        rest = c.take_frame-token.ensures.rest;
      };
      bytes = c.fill_frame-filled.ensures;
      seat = record { free = c.seat.ensures.free; slots = c.seat.ensures.slots; spaces = c.seat.ensures.spaces; rest = c.seat.ensures.rest };
      finish = record { fills = c.finish_fill.ensures.fills; rest = c.finish_fill.ensures.rest };
      writable = can.writable;
      there = can.there;
      first = can.first;
      once = r.tied.once;
    } in
    let rest = zeroing_rest _ _ _ _ _ _ _ z in
    let ties = zero_ties _ _ _ _ _ _ _ z (ap frame_of can.unfilled) in
    let now = stands_now c.self.inside c.args.self.now c.self.invariant c.self.view_is c.requires.ready.running.runs in
    let journal : c.push_reserved.new.self.items ≡ c.self.inside.journal.items ++ entries.Zero c.args.page ∷ [] =
    c.push_reserved.ensures.items ∙ ap (λ (j : List Entry). j ++ entries.Zero c.args.page ∷ []) c.make_room.ensures.same in
    stepped c.self.inside _ c.args.self.now _ c.self.invariant c.self.view_is c.requires.ready (record {
      kept = subst (Kept t) (sym rest) (record { params = refl; images = refl; book = refl; found = refl; next_pid = refl; next_sid = refl; records = now.stands.records });
      is = ap (λ (j : List Entry). kernel_by w j c.self.inside.stopped) journal ∙ zero_kernel _ _ _ _ _ _ _ c.self.inside.journal.items c.self.inside.stopped z;
      runs = zero_runs t.book.size k (lists_of t) _ r (tied_still _ _ ties r.tied) c.args.page can (left_due t.fills.items c.args.page z.once z.first);
      ring = same_ring c.self.inside w now (ap (λ (x : Tables). x.ring) rest);
      images = images_heads t w ties.heads;
      holders = page_keeps k (zero_step k c.args.page) [] 0 (entries.Zero c.args.page) refl refl;
      grown = pushed _ _ _ _ _ refl journal c.in_ok-make_room.ensures.ok.0;
      stopped = refl;
      lost = refl;
      room = c.make_room.ensures.room;
    })

pub invariant_of-self-2 : goal.invariant_of-self-2
invariant_of-self-2 c = (step c).inside

pub returns : goal.returns
returns c =
    let k : Kernel = kernel_by c.self.inside.tables c.self.inside.journal.items c.self.inside.stopped in
    let size = c.self.inside.tables.book.size in
    let r = running c.self.inside c.args.self.now c.self.invariant c.self.view_is c.requires.ready in
    let can : CanZero k.place c.args.page = subst (λ (s : Standing). CanZero s.kernel.place c.args.page) (sym c.self.view_is) c.requires.can in
    let z = step c in
    record {
      performs = record {
        step = z.is ∙ ap (λ (s : Standing). zero_step s.kernel c.args.page) c.self.view_is;
        rest = z.rest;
        keeps = z.says KeepsFlat (zero_keeps size k c.args.page c.self.inside.tables.fills.items r.sound can refl refl);
        same = z.says (λ (k l : Kernel). SameElsewhere k l c.args.page) (zero_same size k c.args.page r.sound can);
        goes_on = z.goes_on;
      };
      stops = record { stop = search rules; cause = search rules; full = search rules };
    }
