use Rattle.std.proofs.Common.{◌≡◌, ℕ, Bool, cond, List, [], ◌∷◌, ◌++◌, refl, sym, ap, ◌∙◌, subst, rules}
use Rattle.vm_facts.specs.declared.entry.Entry.{Entry}
use Rattle.vm_facts.specs.declared.entry.Entry.TheVariants as entries
use Rattle.flat_state.specs.PageNames.{number_of}
use Rattle.page_model.specs.Placement.{Placement, is_dirty}
use Rattle.kernel_model.specs.Kernel.{Kernel, push_step}
use Rattle.table_steps.specs.Tables.{Tables}
use Rattle.table_steps.specs.View.{placement_of}
use Rattle.table_steps.specs.Known.{Known}
use Rattle.table_steps.specs.Machine.{Standing, lists_of, kernel_by}
use Rattle.table_steps.specs.Steps.{dirty_shown}
use Rattle.table_steps.specs.Calls.{CanPush}
use Rattle.table_steps.specs.Conditions.{KeepsFlat, SameEverywhere}
use Rattle.table_steps.specs.Launches.{MayPutOut, MovedOn, put_out}
use Rattle.machine_state.proofs.Knowing.{known_of, known_now}
use Rattle.machine_state.proofs.Dirty.{dirty_is}
use Rattle.table_steps.proofs.Puttings.{push_is, push_seat, push_there, push_may, push_few, push_keeps, push_alike, all_blocks}
use Rattle.machine_state.proofs.MovesOn.{moving_steps}
use Rattle.machine_state.proofs.Standings.{running, stands_now, whole_now}
use Rattle.machine_state.proofs.Stepping.{Stepped, stepped}
use Rattle.table_steps.proofs.Stills.{pushed}
use Rattle.machine_state.proofs.machine.Machine.push.Goals as goal

pub put_out-requires-clause-known : goal.put_out-requires-clause-known
put_out-requires-clause-known c =
    known_now c.self.inside c.args.self.now c.self.invariant c.self.view_is c.requires.ready c.stands.ensures

pub put_out-requires-clause-may : goal.put_out-requires-clause-may
put_out-requires-clause-may c =
    let t : Tables = c.self.inside.tables in
    let k : Known (lists_of t) = known_now c.self.inside c.args.self.now c.self.invariant c.self.view_is c.requires.ready c.stands.ensures in
    let can : CanPush (placement_of (lists_of t)) c.args.lo c.args.n = subst (λ (s : Standing). CanPush s.kernel.place c.args.lo c.args.n) (sym c.self.view_is) c.requires.can in
    let d : dirty_shown t.spaces t.texts c.args.lo ≡ is_dirty (placement_of (lists_of t)) c.args.lo = dirty_is (lists_of t) c.args.lo k.differ (push_there (lists_of t) c.args.lo c.args.n k can) in
    subst (λ (n : ℕ). MayPutOut (placement_of (lists_of t)) c.args.lo n c.written_of-written.result) (sym c.number_of.ensures)
    (subst (λ (n : ℕ). MayPutOut (placement_of (lists_of t)) c.args.lo (number_of c.args.lo) n) (sym c.written_of-written.ensures)
    (push_may (placement_of (lists_of t)) c.args.lo c.args.n (dirty_shown t.spaces t.texts c.args.lo) (sym d) can))

pub put_out-requires-clause-blocks : goal.put_out-requires-clause-blocks
put_out-requires-clause-blocks c =
    let r = running c.self.inside c.args.self.now c.self.invariant c.self.view_is c.requires.ready in
    all_blocks c.self.inside.tables.book.size (kernel_by c.self.inside.tables c.self.inside.journal.items c.self.inside.stopped) r.sound

step : (c : goal.After-push_reserved)
    → Stepped c.self.inside
    (record c.self.inside { tables = c.put_out.new.tables; journal = c.push_reserved.new.self; room = c.make_room.new.room }) c.args.self.now
    (push_step (kernel_by c.self.inside.tables c.self.inside.journal.items c.self.inside.stopped) c.args.lo c.args.n)
step c =
    let t : Tables = c.self.inside.tables in
    let p : Placement = placement_of (lists_of t) in
    let r = running c.self.inside c.args.self.now c.self.invariant c.self.view_is c.requires.ready in
    let k : Known (lists_of t) = known_of c.self.inside c.stands.ensures r in
    let can : CanPush p c.args.lo c.args.n = subst (λ (s : Standing). CanPush s.kernel.place c.args.lo c.args.n) (sym c.self.view_is) c.requires.can in
    let dirty : Bool = dirty_shown t.spaces t.texts c.args.lo in
    let d : dirty ≡ is_dirty p c.args.lo = dirty_is (lists_of t) c.args.lo k.differ (push_there (lists_of t) c.args.lo c.args.n k can) in
    let journal : c.push_reserved.new.self.items ≡ c.self.inside.journal.items ++ entries.Put c.args.lo c.args.n ∷ [] =
    c.push_reserved.ensures.items ∙ ap (λ (j : List Entry). j ++ entries.Put c.args.lo c.args.n ∷ []) c.make_room.ensures.same in
    stepped c.self.inside _ c.args.self.now _ c.self.invariant c.self.view_is c.requires.ready
    (moving_steps c.self.inside _ (put_out p c.args.lo (number_of c.args.lo) (cond dirty c.args.n 0)) [] (entries.Put c.args.lo c.args.n)
    (record {
      runs = r;
      moved = subst (λ (n : ℕ). MovedOn t c.put_out.new.tables (put_out p c.args.lo n (cond dirty c.args.n 0))) c.number_of.ensures
          (subst (λ (n : ℕ). MovedOn t c.put_out.new.tables (put_out p c.args.lo c.number_of.result n)) c.written_of-written.ensures c.put_out.ensures);
      is = push_is p c.args.lo c.args.n dirty (sym d) can.some;
      can = (push_seat p c.args.lo c.args.n can, can.seats);
      shared = tt;
      leaves = tt;
      few = push_few p c.args.lo c.args.n dirty (sym d) can r.sound.few_transfers;
    })
    (stands_now c.self.inside c.args.self.now c.self.invariant c.self.view_is c.requires.ready.running.runs).stands
    (whole_now c.self.inside c.args.self.now c.self.view_is c.requires.ready.whole)
    journal (pushed _ _ _ _ _ refl journal c.in_ok-make_room.ensures.ok.0).within refl refl c.make_room.ensures.room)

pub invariant_of-self-2 : goal.invariant_of-self-2
invariant_of-self-2 c = (step c).inside

pub returns : goal.returns
returns c =
    let k : Kernel = kernel_by c.self.inside.tables c.self.inside.journal.items c.self.inside.stopped in
    let r = running c.self.inside c.args.self.now c.self.invariant c.self.view_is c.requires.ready in
    let can : CanPush k.place c.args.lo c.args.n = subst (λ (s : Standing). CanPush s.kernel.place c.args.lo c.args.n) (sym c.self.view_is) c.requires.can in
    let z = step c in
    record {
      performs = record {
        step = z.is ∙ ap (λ (s : Standing). push_step s.kernel c.args.lo c.args.n) c.self.view_is;
        rest = z.rest;
        keeps = z.says KeepsFlat (push_keeps c.self.inside.tables.book.size k c.args.lo c.args.n r.sound can);
        same = z.says SameEverywhere (push_alike k c.args.lo c.args.n);
        goes_on = z.goes_on;
      };
      stops = record { stop = search rules; cause = search rules; full = search rules };
    }
