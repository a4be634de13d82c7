use Rattle.std.proofs.Common.{◌≡◌, ℕ, ◌<◌, Bool, IsTrue, List, [], ◌∷◌, ◌++◌, Option, refl, sym, ap, ◌∙◌, subst, arith, rules}
use Rattle.vm_facts.specs.declared.entry.Entry.{Entry}
use Rattle.vm_facts.specs.declared.entry.Entry.TheVariants as entries
use Rattle.vax_pte.specs.declared.Place.{Place}
use Rattle.core_map.specs.Slots.{slot_at, slot_page}
use Rattle.kernel_model.specs.Kernel.{Kernel, reclaim_step}
use Rattle.table_steps.specs.Tables.{Tables}
use Rattle.table_steps.specs.KernelTablesShown.{is_frame, frame_named}
use Rattle.page_model.specs.Pages.{frame_of}
use Rattle.page_model.specs.Placement.{IsThere}
use Rattle.table_steps.proofs.PageLawsMovesSteps.{page_in}
use Rattle.table_steps.specs.Steps.{dirty_shown}
use Rattle.table_steps.specs.View.{placement_of}
use Rattle.table_steps.specs.Known.{Known}
use Rattle.table_steps.specs.Machine.{Standing, lists_of, kernel_by}
use Rattle.table_steps.specs.Moves.{RevivedPage}
use Rattle.table_steps.specs.Conditions.{CanReclaim, KeepsFlat, SameEverywhere}
use Rattle.table_steps.proofs.Knows.{text_low}
use Rattle.machine_state.proofs.Knowing.{known_of, known_now}
use Rattle.table_steps.proofs.Kept.{tied_still}
use Rattle.machine_state.proofs.HoldingSteps.{page_keeps}
use Rattle.machine_state.proofs.Standings.{running, stands_now}
use Rattle.machine_state.proofs.Stepping.{Kept, Stepped, stepped, same_ring}
use Rattle.table_steps.proofs.Stills.{images_heads, pushed}
use Rattle.table_steps.proofs.Revives.{below_held}
use Rattle.table_steps.proofs.Evicts.{held_above}
use Rattle.table_steps.proofs.Reclaims.{InvalidEntry, invalid_entry, Reclaiming, reclaim_kernel, reclaim_keeps, reclaim_alike}
use Rattle.machine_state.proofs.ReclaimTies.{reclaim_ties}
use Rattle.machine_state.proofs.StepRuns.{reclaim_runs}
use Rattle.machine_state.proofs.machine.Machine.reclaim.Goals as goal

pub frame_of-frame-requires : goal.frame_of-frame-requires
frame_of-frame-requires c =
    let t : Tables = c.self.inside.tables in
    let k : Known (lists_of t) = known_now c.self.inside c.args.self.now c.self.invariant c.self.view_is c.requires.ready c.stands.ensures in
    let can : CanReclaim (placement_of (lists_of t)) c.args.page = subst (λ (s : Standing). CanReclaim s.kernel.place c.args.page) (sym c.self.view_is) c.requires.can in
    let i : InvalidEntry (lists_of t) c.args.page can.frame = invalid_entry (lists_of t) c.args.page can.frame k can.shared can.invalid in
    subst (λ (o : Option Place). IsTrue (is_frame o)) (sym i.entry) refl

pub is_dirty_as-dirty-requires : goal.is_dirty_as-dirty-requires
is_dirty_as-dirty-requires c i v e =
    let t : Tables = c.self.inside.tables in
    let k : Known (lists_of t) = known_now c.self.inside c.args.self.now c.self.invariant c.self.view_is c.requires.ready c.stands.ensures in
    let can : CanReclaim (placement_of (lists_of t)) c.args.page = subst (λ (s : Standing). CanReclaim s.kernel.place c.args.page) (sym c.self.view_is) c.requires.can in
    text_low (lists_of t) i v k (subst (IsThere (placement_of (lists_of t))) e (page_in (placement_of (lists_of t)) c.args.page can.frame (ap frame_of can.invalid)))

pub revive-requires : goal.revive-requires
revive-requires c =
    let t : Tables = c.self.inside.tables in
    let k : Known (lists_of t) = known_now c.self.inside c.args.self.now c.self.invariant c.self.view_is c.requires.ready c.stands.ensures in
    let can : CanReclaim (placement_of (lists_of t)) c.args.page = subst (λ (s : Standing). CanReclaim s.kernel.place c.args.page) (sym c.self.view_is) c.requires.can in
    let i : InvalidEntry (lists_of t) c.args.page can.frame = invalid_entry (lists_of t) c.args.page can.frame k can.shared can.invalid in
    let frame : c.frame_of-frame.result.0 ≡ can.frame = c.frame_of-frame.ensures.frame ∙ ap frame_named i.entry in
    record {
      holds = ap (λ (f : ℕ). slot_page (slot_at t.core.slots f)) frame ∙ i.held;
      above =
          let a : 0 < can.frame = held_above (lists_of t) can.frame c.args.page k i.held in
          omega (arith, frame);
      small =
          let a = below_held t.core.slots can.frame c.args.page i.held in
          let b = k.tied.few_frames in
          omega (arith, frame);
    }

step : (c : goal.After-push_reserved)
    → Stepped c.self.inside
    (record c.self.inside { tables = c.revive.new.self; journal = c.push_reserved.new.self; room = c.make_room.new.room }) c.args.self.now
    (reclaim_step (kernel_by c.self.inside.tables c.self.inside.journal.items c.self.inside.stopped) c.args.page)
step c =
    let t : Tables = c.self.inside.tables in
    let w : Tables = c.revive.new.self in
    let k : Kernel = kernel_by t c.self.inside.journal.items c.self.inside.stopped in
    let r = running c.self.inside c.args.self.now c.self.invariant c.self.view_is c.requires.ready in
    let known : Known (lists_of t) = known_of c.self.inside c.stands.ensures r in
    let can : CanReclaim (placement_of (lists_of t)) c.args.page = subst (λ (s : Standing). CanReclaim s.kernel.place c.args.page) (sym c.self.view_is) c.requires.can in
    let i : InvalidEntry (lists_of t) c.args.page can.frame = invalid_entry (lists_of t) c.args.page can.frame known can.shared can.invalid in
    let frame : c.frame_of-frame.result.0 ≡ can.frame = c.frame_of-frame.ensures.frame ∙ ap frame_named i.entry in
    let v : RevivedPage t w c.args.page can.frame (dirty_shown t.spaces t.texts c.args.page) =
    subst (λ (b : Bool). RevivedPage t w c.args.page can.frame b) (c.is_dirty_as-dirty.ensures t.spaces c.frame_of-frame.ensures.changed)
    (subst (λ (f : ℕ). RevivedPage t w c.args.page f c.is_dirty_as-dirty.result) frame c.revive.ensures) in
    let g : Reclaiming t w c.args.page can.frame = record { known = known; invalid = can.invalid; entry = i; revived_it = v } in
    let ties = reclaim_ties t w c.args.page can.frame g in
    let now = stands_now c.self.inside c.args.self.now c.self.invariant c.self.view_is c.requires.ready.running.runs in
    let journal : c.push_reserved.new.self.items ≡ c.self.inside.journal.items ++ entries.Reclaim c.args.page ∷ [] =
    c.push_reserved.ensures.items ∙ ap (λ (j : List Entry). j ++ entries.Reclaim c.args.page ∷ []) c.make_room.ensures.same in
    stepped c.self.inside _ c.args.self.now _ c.self.invariant c.self.view_is c.requires.ready (record {
      kept = subst (Kept t) (sym v.rest) (record { params = refl; images = refl; book = refl; found = refl; next_pid = refl; next_sid = refl; records = now.stands.records });
      is = ap (λ (j : List Entry). kernel_by w j c.self.inside.stopped) journal ∙ reclaim_kernel t w c.args.page can.frame c.self.inside.journal.items c.self.inside.stopped g;
      runs = reclaim_runs t.book.size k (lists_of t) _ r (tied_still _ _ ties r.tied) c.args.page can.shared;
      ring = same_ring c.self.inside w now (ap (λ (x : Tables). x.ring) v.rest);
      images = images_heads t w ties.heads;
      holders = page_keeps k (reclaim_step k c.args.page) [] 0 (entries.Reclaim c.args.page) refl refl;
      grown = pushed _ _ _ _ _ refl journal c.in_ok-make_room.ensures.ok.0;
      stopped = refl;
      lost = refl;
      room = c.make_room.ensures.room;
    })

pub invariant_of-self-2 : goal.invariant_of-self-2
invariant_of-self-2 c = (step c).inside

pub returns : goal.returns
returns c =
    let k : Kernel = kernel_by c.self.inside.tables c.self.inside.journal.items c.self.inside.stopped in
    let r = running c.self.inside c.args.self.now c.self.invariant c.self.view_is c.requires.ready in
    let z = step c in
    record {
      performs = record {
        step = z.is ∙ ap (λ (s : Standing). reclaim_step s.kernel c.args.page) c.self.view_is;
        rest = z.rest;
        keeps = z.says KeepsFlat (reclaim_keeps c.self.inside.tables.book.size k c.args.page r.sound);
        same = z.says SameEverywhere (reclaim_alike k c.args.page);
        goes_on = z.goes_on;
      };
      stops = record { stop = search rules; cause = search rules; full = search rules };
    }
