use Rattle.std.proofs.Common.{ℕ, ◌≡◌, List, refl, sym, ap, ◌∙◌, subst, rules}
use Rattle.vm_facts.specs.declared.entry.Entry.{Entry}
use Rattle.vm_facts.specs.declared.entry.Entry.TheVariants as entries
use Rattle.flat_state.specs.Journal.{append}
use Rattle.page_model.specs.Placement.{Placement}
use Rattle.page_model.specs.Hands.{hand_move}
use Rattle.kernel_model.specs.Kernel.{Kernel, hand_step}
use Rattle.table_steps.specs.Tables.{Tables}
use Rattle.table_steps.specs.View.{placement_of}
use Rattle.table_steps.specs.Known.{Known}
use Rattle.table_steps.specs.Machine.{Standing, lists_of, kernel_by}
use Rattle.table_steps.specs.Calls.{CanMove}
use Rattle.table_steps.specs.Conditions.{KeepsFlat, SameEverywhere}
use Rattle.table_steps.specs.Joined.{moves_in, last_says}
use Rattle.machine_state.proofs.Knowing.{known_of}
use Rattle.table_steps.proofs.Puttings.{all_blocks}
use Rattle.table_steps.proofs.Hands.{hands_low, hand_few, hand_keeps, hand_alike}
use Rattle.table_steps.proofs.Joins.{moves_kind, last_is, joined_within}
use Rattle.machine_state.proofs.MovesOn.{moving_steps}
use Rattle.machine_state.proofs.Standings.{running, stands_now, whole_now}
use Rattle.machine_state.proofs.Stepping.{Stepped, stepped}
use Rattle.machine_state.proofs.machine.Machine.hand.Goals as goal

pub move_hands-requires : goal.move_hands-requires
move_hands-requires c =
    let r = running c.self.inside c.args.self.now c.self.invariant c.self.view_is c.requires.ready in
    let t : Tables = c.self.inside.tables in
    let k : Known (lists_of t) = known_of c.self.inside c.stands.ensures r in
    let can : CanMove (placement_of (lists_of t)) c.args.locked.now c.args.lo c.args.n =
    subst (λ (s : Standing). CanMove s.kernel.place c.args.locked.now c.args.lo c.args.n) (sym c.self.view_is) c.requires.can in
    record {
      known = k;
      front = (hands_low (lists_of c.self.inside.tables) r.sound.hands).0;
      back = (hands_low (lists_of c.self.inside.tables) r.sound.hands).1;
      run = can.run;
      room = can.room;
      blocks = all_blocks c.self.inside.tables.book.size (kernel_by c.self.inside.tables c.self.inside.journal.items c.self.inside.stopped) r.sound;
      empty = search rules;
      capacity = search rules;
    }

pub add_move-requires-clause-fits : goal.add_move-requires-clause-fits
add_move-requires-clause-fits c count h =
    let l = last_is moves_in (λ (count : ℕ). entries.Hands count) moves_kind c.self.inside.journal.items count (sym (ap (last_says moves_in) c.make_room_to_move.ensures.same) ∙ h) in
    c.requires.fits count l.0 (sym (ap (λ (s : Standing). s.kernel.journal) c.self.view_is) ∙ l.1)

step : (c : goal.After-add_move)
    → Stepped c.self.inside
    (record c.self.inside { tables = c.move_hands.new.tables; journal = c.add_move.new.journal; room = c.make_room_to_move.new.room }) c.args.self.now
    (hand_step (kernel_by c.self.inside.tables c.self.inside.journal.items c.self.inside.stopped) c.args.locked.now)
step c =
    let t : Tables = c.self.inside.tables in
    let p : Placement = placement_of (lists_of t) in
    let r = running c.self.inside c.args.self.now c.self.invariant c.self.view_is c.requires.ready in
    let can : CanMove p c.args.locked.now c.args.lo c.args.n = subst (λ (s : Standing). CanMove s.kernel.place c.args.locked.now c.args.lo c.args.n) (sym c.self.view_is) c.requires.can in
    let now = stands_now c.self.inside c.args.self.now c.self.invariant c.self.view_is c.requires.ready.running.runs in
    let journal : c.add_move.new.journal.items ≡ append c.self.inside.journal.items (entries.Hands 1) =
    c.add_move.ensures ∙ ap (λ (j : List Entry). append j (entries.Hands 1)) c.make_room_to_move.ensures.same in
    stepped c.self.inside _ c.args.self.now _ c.self.invariant c.self.view_is c.requires.ready
    (moving_steps c.self.inside _ (hand_move p c.args.locked.now) c.args.locked.now (entries.Hands 1)
    (record { runs = r; moved = c.move_hands.ensures; is = refl; can = tt; shared = tt; leaves = tt; few = hand_few p c.args.locked.now c.args.lo c.args.n can.run can.room r.sound.few_transfers })
    now.stands (whole_now c.self.inside c.args.self.now c.self.view_is c.requires.ready.whole) journal
    (joined_within moves_in (λ (count : ℕ). entries.Hands count) moves_kind c.self.inside.journal.items c.add_move.new.journal.items t.params.journal journal now.stands.within
    (λ h. (c.in_ok-make_room_to_move.ensures.has_room h).0))
    refl refl c.make_room_to_move.ensures.room)

pub invariant_of-self-2 : goal.invariant_of-self-2
invariant_of-self-2 c = (step c).inside

pub returns : goal.returns
returns c =
    let k : Kernel = kernel_by c.self.inside.tables c.self.inside.journal.items c.self.inside.stopped in
    let r = running c.self.inside c.args.self.now c.self.invariant c.self.view_is c.requires.ready in
    let z = step c in
    record {
      performs = record {
        step = z.is ∙ ap (λ (s : Standing). hand_step s.kernel c.args.locked.now) c.self.view_is;
        rest = z.rest;
        keeps = z.says KeepsFlat (hand_keeps c.self.inside.tables.book.size k c.args.locked.now r.sound);
        same = z.says SameEverywhere (hand_alike k c.args.locked.now);
        goes_on = z.goes_on;
      };
      stops = record { stop = search rules; cause = search rules; full = search rules };
    }
