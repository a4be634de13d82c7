use Rattle.std.proofs.Common.{IsTrue, Option, refl, sym, ap, subst, arith}
use Rattle.vax_pte.specs.declared.Place.{Place}
use Rattle.core_map.specs.declared.slot.Slot.{Slot as Token}
use Rattle.core_map.specs.Slots.{is_resident, slot_page}
use Rattle.flat_state.specs.PageNames.{pages_from}
use Rattle.page_model.specs.Moves.{retire}
use Rattle.kernel_tables.specs.declared.tables.Tables.{Tables}
use Rattle.kernel_tables.specs.Shown.{is_frame, entry_in, frame_named}
use Rattle.kernel_tables.specs.View.{placement_of}
use Rattle.kernel_tables.specs.Machine.{lists_of}
use Rattle.kernel_tables.specs.Launches.{put_out, MayRetire, MayWriteRun}
use Rattle.table_steps.proofs.Retiring.{retire_moves}
use Rattle.table_steps.proofs.Puttings.{put_none, may_write, may_retire, moved_as, seats_blocks, seat_named}
use Rattle.table_steps.proofs.launching.put_out.Goals as goal

pub write_run-requires-clause-blocks : goal.write_run-requires-clause-blocks
write_run-requires-clause-blocks c =
    let t : Tables = c.args.tables.now in
    let may : MayWriteRun (placement_of (lists_of t)) c.args.page c.args.lo c.args.n = may_write (placement_of (lists_of t)) c.args.page c.args.lo c.args.n (omega arith) c.requires.may in
    seats_blocks (lists_of t) t.book.holdings (pages_from c.args.page c.args.lo c.args.n) c.requires.known c.requires.blocks may.seats

pub retire-requires : goal.retire-requires
retire-requires c =
    let t : Tables = c.args.tables.now in
    let may : MayRetire (placement_of (lists_of t)) c.args.page = may_retire (placement_of (lists_of t)) c.args.page c.args.lo c.args.n (omega arith) c.requires.may in
    let r = seat_named (lists_of t) c.args.page c.requires.known may.seat in
    record {
      frame = subst (λ (o : Option Place). IsTrue (is_frame o)) (sym r.entry) refl;
      resident = subst (λ (s : Token). IsTrue (is_resident s)) (sym r.slot) refl;
      holds = ap slot_page r.slot;
      above =
          let a = r.above in
          omega (arith, a);
      small =
          let a = r.below in
          let b = c.requires.known.tied.few_frames in
          omega (arith, a, b);
    }

pub returns-else-n-gt0 : goal.returns-else-n-gt0
returns-else-n-gt0 c =
    let t : Tables = c.args.tables.now in
    let may : MayRetire (placement_of (lists_of t)) c.args.page = may_retire (placement_of (lists_of t)) c.args.page c.args.lo c.args.n (omega arith) c.requires.may in
    let r = seat_named (lists_of t) c.args.page c.requires.known may.seat in
    moved_as t c.retire.new.tables (retire (placement_of (lists_of t)) c.args.page) (put_out (placement_of (lists_of t)) c.args.page c.args.lo c.args.n)
    (sym (put_none (placement_of (lists_of t)) c.args.page c.args.lo c.args.n (omega arith)))
    (retire_moves t c.retire.new.tables c.args.page (frame_named (entry_in t.spaces c.args.page)) c.requires.known r may.clean c.retire.ensures)
