use Rattle.std.proofs.Common.{◌≡◌, IsTrue, sym, ap, ◌∙◌, subst, arith, refl, rules}
use Rattle.vm_facts.specs.declared.page.PageState.TheVariants.{Valid}
use Rattle.core_map.specs.declared.slot.Slot.{Slot as Token}
use Rattle.core_map.specs.Slots.{is_resident}
use Rattle.page_model.specs.Placement.{state_of}
use Rattle.kernel_model.specs.Kernel.{write_step}
use Rattle.table_steps.specs.Tables.{Tables}
use Rattle.table_steps.specs.View.{placement_of}
use Rattle.table_steps.specs.Known.{Known}
use Rattle.machine_state.specs.Fields.{HasRoom}
use Rattle.table_steps.specs.Machine.{Standing, lists_of, kernel_by}
use Rattle.table_steps.specs.UserMemory.{IsOwnPage, AreWhole}
use Rattle.machine_state.proofs.Standings.{stands_now, runs_by, runs_within, holders_by}
use Rattle.machine_state.proofs.HoldingSteps.{write_keeps}
use Rattle.table_steps.proofs.Touches.{InFrame, in_frame}
use Rattle.table_steps.proofs.Writes.{Writing, write_stands}
use Rattle.machine_state.proofs.WriteStanding.{write_standing}
use Rattle.table_steps.proofs.UserFrames.{known_by, own_home, held_whole}
use Rattle.machine_state.proofs.machine.Machine.write_byte.Goals as goal

pub write_byte-requires : goal.write_byte-requires
write_byte-requires c =
    let t : Tables = c.self.inside.tables in
    let now = stands_now c.self.inside c.args.self.now c.self.invariant c.self.view_is c.requires.running in
    let k : Known (lists_of t) = known_by t c.self.inside.journal.items c.self.inside.stopped c.stands.ensures now.stands in
    let valid : state_of (placement_of (lists_of t)) c.args.page ≡ Valid c.args.frame =
    subst (λ (s : Standing). state_of s.kernel.place c.args.page ≡ Valid c.args.frame) (sym c.self.view_is) c.requires.valid in
    let i : InFrame (lists_of t) c.args.page c.args.frame = in_frame (lists_of t) c.args.page c.args.frame k valid in
    record {
      home = own_home (lists_of t) c.args.index c.args.page c.requires.writable (subst (λ (s : Standing). IsOwnPage s.kernel.place c.args.index c.args.page) (sym c.self.view_is) c.requires.own);
      resident = subst (λ (s : Token). IsTrue (is_resident s)) (sym i.resident) refl;
      below = i.below;
      within = search rules;
      above = i.above;
      small =
          let a = i.below in
          let b = k.tied.few_frames in
          omega arith;
    }

pub invariant_of-self : goal.invariant_of-self
invariant_of-self c =
    runs_within _ (runs_by c.self.inside c.args.self.now c.self.view_is c.requires.running) (λ _.
    let t : Tables = c.self.inside.tables in
    let now = stands_now c.self.inside c.args.self.now c.self.invariant c.self.view_is c.requires.running in
    let k : Known (lists_of t) = known_by t c.self.inside.journal.items c.self.inside.stopped c.stands.ensures now.stands in
    let valid : state_of (placement_of (lists_of t)) c.args.page ≡ Valid c.args.frame =
    subst (λ (s : Standing). state_of s.kernel.place c.args.page ≡ Valid c.args.frame) (sym c.self.view_is) c.requires.valid in
    let w : Writing t c.write_byte.new.self c.args.page c.args.frame c.args.at c.args.byte = record { known = k; valid = valid; writable = c.requires.writable; wrote = c.write_byte.ensures } in
    record {
      stands = write_stands t c.write_byte.new.self c.args.page c.args.frame c.args.at c.args.byte c.self.inside.journal.items c.self.inside.stopped now.stands w;
      holders = holders_by t c.write_byte.new.self c.self.inside.journal.items c.self.inside.journal.items c.self.inside.stopped c.self.inside.stopped _
          (ap (λ (s : Standing). s.kernel) (write_standing c.self.inside c.write_byte.new.self c.args.page c.args.frame c.args.at c.args.byte w))
          (write_keeps (kernel_by t c.self.inside.journal.items c.self.inside.stopped) c.args.page c.args.frame c.args.at c.args.byte) now.holders;
      none_lost = now.none_lost;
      room = subst (λ (x : Tables). HasRoom c.self.inside.room c.self.inside.journal x.params.journal) (sym c.write_byte.ensures.rest) now.room;
    })

pub returns-clause-step : goal.returns-clause-step
returns-clause-step c =
    let t : Tables = c.self.inside.tables in
    let now = stands_now c.self.inside c.args.self.now c.self.invariant c.self.view_is c.requires.running in
    let k : Known (lists_of t) = known_by t c.self.inside.journal.items c.self.inside.stopped c.stands.ensures now.stands in
    let valid : state_of (placement_of (lists_of t)) c.args.page ≡ Valid c.args.frame =
    subst (λ (s : Standing). state_of s.kernel.place c.args.page ≡ Valid c.args.frame) (sym c.self.view_is) c.requires.valid in
    let w : Writing t c.write_byte.new.self c.args.page c.args.frame c.args.at c.args.byte = record { known = k; valid = valid; writable = c.requires.writable; wrote = c.write_byte.ensures } in
    write_standing c.self.inside c.write_byte.new.self c.args.page c.args.frame c.args.at c.args.byte w
    ∙ ap (λ (s : Standing). record s { kernel = write_step s.kernel c.args.page c.args.frame c.args.at c.args.byte }) c.self.view_is

pub returns-clause-whole : goal.returns-clause-whole
returns-clause-whole c =
    let t : Tables = c.self.inside.tables in
    let now = stands_now c.self.inside c.args.self.now c.self.invariant c.self.view_is c.requires.running in
    let k : Known (lists_of t) = known_by t c.self.inside.journal.items c.self.inside.stopped c.stands.ensures now.stands in
    subst (λ (s : Standing). AreWhole s.kernel) c.self.view_is (held_whole (lists_of t) k)
