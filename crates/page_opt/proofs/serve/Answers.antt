use Rattle.std.proofs.Common.{ℕ, ◌+◌, Option, get_or, sym, ◌∙◌, subst, arith}
use Rattle.page_opt.specs.Held.{Puts, Stands}
use Rattle.page_opt.proofs.Standing.{stands_within, stands_full, stands_hit, stands_miss, next_inside, room_kept, on_ok}
use Rattle.page_opt.proofs.serve.Goals as goal

pub make_room-requires-clause-places : goal.make_room-requires-clause-places
make_room-requires-clause-places c =
    stands_within c.args.refs.now c.args.frames c.args.i c.args.resident.now c.arrive.new.self c.args.plan.now.victims.items c.args.plan.now.faults c.arrive.result
    c.requires.within c.requires.stands c.arrive.ensures

pub make_room-requires-clause-some : goal.make_room-requires-clause-some
make_room-requires-clause-some c =
    stands_full c.args.refs.now c.args.frames c.args.i c.args.resident.now c.arrive.new.self c.args.plan.now.victims.items c.args.plan.now.faults
    c.requires.frames c.requires.within c.requires.stands c.if-arrive.ensures

pub put-requires : goal.put-requires
put-requires c k is =
    let within = next_inside c.args.refs.now c.args.i k c.requires.within (sym c.requires.next ∙ is) in
    let room = c.requires.stands.room in
    let kept = c.arrive.ensures.awaited.room in
    omega arith

pub put-requires-2 : goal.put-requires-2
put-requires-2 c k is =
    let within = next_inside c.args.refs.now c.args.i k c.requires.within (sym c.requires.next ∙ is) in
    let room = c.requires.stands.room in
    let kept = c.arrive.ensures.awaited.room in
    let taken = room_kept c.args.refs.now c.args.frames c.args.i c.arrive.new.self c.make_room.new.resident c.args.plan.now.victims.items c.make_room.new.victims.items c.in_ok-make_room.ensures in
    omega arith

pub returns-then-arrive : goal.returns-then-arrive
returns-then-arrive c =
    on_ok c.put.result _
    (Stands c.args.refs.now c.args.frames (c.args.i + 1) c.put.new.self c.args.plan.now.victims.items c.args.plan.now.faults)
    (λ put.
    stands_hit c.args.refs.now c.args.frames c.args.i c.args.resident.now c.arrive.new.self c.put.new.self c.args.plan.now.victims.items c.args.plan.now.faults
    c.requires.frames c.requires.within c.requires.stands c.if-arrive.ensures
    (subst (λ (o : Option ℕ). Puts (get_or c.args.refs.now c.args.i 0) o c.arrive.new.self c.put.new.self) c.requires.next put))
    c.put.ensures

pub returns : goal.returns
returns c =
    on_ok c.put-2.result _
    (Stands c.args.refs.now c.args.frames (c.args.i + 1) c.put-2.new.self c.make_room.new.victims.items (c.args.plan.now.faults + 1))
    (λ put.
    stands_miss c.args.refs.now c.args.frames c.args.i c.args.resident.now c.arrive.new.self c.make_room.new.resident c.put-2.new.self c.args.plan.now.victims.items
    c.make_room.new.victims.items c.args.plan.now.faults
    c.requires.frames c.requires.within c.requires.stands c.if-arrive.ensures c.in_ok-make_room.ensures
    (subst (λ (o : Option ℕ). Puts (get_or c.args.refs.now c.args.i 0) o c.make_room.new.resident c.put-2.new.self) c.requires.next put))
    c.put-2.ensures
