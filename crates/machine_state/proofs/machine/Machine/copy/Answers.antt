use Rattle.std.proofs.Common.{◌≡◌, inl, ℕ, IsTrue, List, [], ◌∷◌, ◌++◌, Option, refl, sym, ap, ◌∙◌, subst, rules}
use Rattle.vm_facts.specs.declared.entry.Entry.{Entry}
use Rattle.vm_facts.specs.declared.entry.Entry.TheVariants as entries
use Rattle.vax_pte.specs.declared.Place.{Place}
use Rattle.core_map.specs.declared.slot.Slot.{Slot as Token}
use Rattle.core_map.specs.Slots.{slot_at, is_resident}
use Rattle.page_model.specs.Pages.{frame_of}
use Rattle.kernel_model.specs.Kernel.{Kernel, copy_step}
use Rattle.table_steps.specs.Tables.{Tables}
use Rattle.table_steps.specs.KernelTablesShown.{is_frame, frame_named}
use Rattle.table_steps.specs.View.{placement_of}
use Rattle.table_steps.specs.Known.{Known}
use Rattle.table_steps.specs.Machine.{Standing, lists_of, kernel_by}
use Rattle.table_steps.specs.Calls.{CanCopy}
use Rattle.table_steps.specs.Conditions.{KeepsFlat, SameElsewhere}
use Rattle.table_steps.specs.Launches.{CopiedFrame}
use Rattle.table_steps.proofs.Evicts.{head_below}
use Rattle.table_steps.proofs.Knows.{texts_here, not_held}
use Rattle.machine_state.proofs.Knowing.{known_of, known_now}
use Rattle.table_steps.proofs.Residing.{Resides, seat_resides}
use Rattle.machine_state.proofs.Copying.{Copying, copying_rest, copy_ties, copy_kernel, left_due, copy_keeps, copy_same}
use Rattle.table_steps.proofs.Kept.{tied_still}
use Rattle.machine_state.proofs.HoldingSteps.{page_keeps}
use Rattle.machine_state.proofs.StepRuns.{copy_runs}
use Rattle.machine_state.proofs.Standings.{running, stands_now}
use Rattle.machine_state.proofs.Stepping.{Kept, Stepped, stepped, same_ring}
use Rattle.table_steps.proofs.Stills.{images_heads, pushed}
use Rattle.machine_state.proofs.machine.Machine.copy.Goals as goal

pub copy_frame-copy-requires : goal.copy_frame-copy-requires
copy_frame-copy-requires c =
    let t : Tables = c.self.inside.tables in
    let k : Known (lists_of t) = known_now c.self.inside c.args.self.now c.self.invariant c.self.view_is c.requires.ready c.stands.ensures in
    let can : CanCopy (placement_of (lists_of t)) c.args.child c.args.parent = subst (λ (s : Standing). CanCopy s.kernel.place c.args.child c.args.parent) (sym c.self.view_is) c.requires.can in
    let e : Resides (lists_of t) c.args.parent can.frame = seat_resides (lists_of t) c.args.parent can.frame k (record { state = inl can.valid }) in
    record {
      frame = subst (λ (o : Option Place). IsTrue (is_frame o)) (sym e.entry) refl;
      resident = subst (λ (n : ℕ). IsTrue (is_resident (slot_at t.core.slots n))) (sym (ap frame_named e.entry)) (subst (λ (s : Token). IsTrue (is_resident s)) (sym e.slot) refl);
      free = search rules;
      texts = texts_here (lists_of t) k;
    }

pub seat-requires-clause-not_held : goal.seat-requires-clause-not_held
seat-requires-clause-not_held c =
    let t : Tables = c.self.inside.tables in
    let k : Known (lists_of t) = known_now c.self.inside c.args.self.now c.self.invariant c.self.view_is c.requires.ready c.stands.ensures in
    let can : CanCopy (placement_of (lists_of t)) c.args.child c.args.parent = subst (λ (s : Standing). CanCopy s.kernel.place c.args.child c.args.parent) (sym c.self.view_is) c.requires.can in
    let e : Resides (lists_of t) c.args.parent can.frame = seat_resides (lists_of t) c.args.parent can.frame k (record { state = inl can.valid }) in
    let m = c.copy_frame-copy.ensures in
    not_held (lists_of t) m.token.number c.copy_frame-copy.new.tables.core.slots c.copy_frame-copy.new.tables.core.free c.args.child k (ap frame_of can.unfilled)
    m.took.slots (head_below (lists_of t) m.token.number m.token _ m.took.was)

step : (c : goal.After-push_reserved)
    → Stepped c.self.inside
    (record c.self.inside { tables = c.finish_fill.new.self; journal = c.push_reserved.new.self; room = c.make_room.new.room }) c.args.self.now
    (copy_step (kernel_by c.self.inside.tables c.self.inside.journal.items c.self.inside.stopped) c.args.child)
step c =
    let t : Tables = c.self.inside.tables in
    let w : Tables = c.finish_fill.new.self in
    let k : Kernel = kernel_by t c.self.inside.journal.items c.self.inside.stopped in
    let r = running c.self.inside c.args.self.now c.self.invariant c.self.view_is c.requires.ready in
    let known : Known (lists_of t) = known_of c.self.inside c.stands.ensures r in
    let can : CanCopy (placement_of (lists_of t)) c.args.child c.args.parent = subst (λ (s : Standing). CanCopy s.kernel.place c.args.child c.args.parent) (sym c.self.view_is) c.requires.can in
    let e : Resides (lists_of t) c.args.parent can.frame = seat_resides (lists_of t) c.args.parent can.frame known (record { state = inl can.valid }) in
    let m : CopiedFrame t c.copy_frame-copy.new.tables can.frame c.copy_frame-copy.result =
    subst (λ (n : ℕ). CopiedFrame t c.copy_frame-copy.new.tables n c.copy_frame-copy.result) (ap frame_named e.entry) c.copy_frame-copy.ensures in
    let z : Copying t c.copy_frame-copy.new.tables c.seat.new.self w m.token c.copy_frame-copy.result c.args.child c.args.parent can.frame can.others = record {
      known = known;
      took = m.took;
      is = m.is;
      seat = record { free = c.seat.ensures.free; slots = c.seat.ensures.slots; spaces = c.seat.ensures.spaces; rest = c.seat.ensures.rest };
      finish = record { fills = c.finish_fill.ensures.fills; rest = c.finish_fill.ensures.rest };
      writable = can.writable;
      there = can.there;
      valid = can.valid;
      due = can.first;
      once = r.tied.once;
    } in
    let rest = copying_rest _ _ _ _ _ _ _ _ _ _ z in
    let ties = copy_ties _ _ _ _ _ _ _ _ _ _ z (ap frame_of can.unfilled) in
    let now = stands_now c.self.inside c.args.self.now c.self.invariant c.self.view_is c.requires.ready.running.runs in
    let journal : c.push_reserved.new.self.items ≡ c.self.inside.journal.items ++ entries.Copy c.args.child ∷ [] =
    c.push_reserved.ensures.items ∙ ap (λ (j : List Entry). j ++ entries.Copy c.args.child ∷ []) c.make_room.ensures.same in
    stepped c.self.inside _ c.args.self.now _ c.self.invariant c.self.view_is c.requires.ready (record {
      kept = subst (Kept t) (sym rest) (record { params = refl; images = refl; book = refl; found = refl; next_pid = refl; next_sid = refl; records = now.stands.records });
      is = ap (λ (j : List Entry). kernel_by w j c.self.inside.stopped) journal ∙ copy_kernel _ _ _ _ _ _ _ _ _ _ c.self.inside.journal.items c.self.inside.stopped z;
      runs = copy_runs t.book.size k (lists_of t) _ r (tied_still _ _ ties r.tied) c.args.child c.args.parent can (left_due t.fills.items c.args.child c.args.parent can.others z.once z.due);
      ring = same_ring c.self.inside w now (ap (λ (x : Tables). x.ring) rest);
      images = images_heads t w ties.heads;
      holders = page_keeps k (copy_step k c.args.child) [] 0 (entries.Copy c.args.child) refl refl;
      grown = pushed _ _ _ _ _ refl journal c.in_ok-make_room.ensures.ok.0;
      stopped = refl;
      lost = refl;
      room = c.make_room.ensures.room;
    })

pub invariant_of-self-2 : goal.invariant_of-self-2
invariant_of-self-2 c = (step c).inside

pub returns : goal.returns
returns c =
    let k : Kernel = kernel_by c.self.inside.tables c.self.inside.journal.items c.self.inside.stopped in
    let size = c.self.inside.tables.book.size in
    let r = running c.self.inside c.args.self.now c.self.invariant c.self.view_is c.requires.ready in
    let can : CanCopy k.place c.args.child c.args.parent = subst (λ (s : Standing). CanCopy s.kernel.place c.args.child c.args.parent) (sym c.self.view_is) c.requires.can in
    let z = step c in
    record {
      performs = record {
        step = z.is ∙ ap (λ (s : Standing). copy_step s.kernel c.args.child) c.self.view_is;
        rest = z.rest;
        keeps = z.says KeepsFlat (copy_keeps size k c.args.child c.args.parent r.sound can);
        same = z.says (λ (k l : Kernel). SameElsewhere k l c.args.child) (copy_same size k c.args.child c.args.parent r.sound can);
        goes_on = z.goes_on;
      };
      stops = record { stop = search rules; cause = search rules; full = search rules };
    }
