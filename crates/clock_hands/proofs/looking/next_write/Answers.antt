use Rattle.clock_hands.proofs.Homes.{seat_there, seat_shared, home_entry}
use Rattle.clock_hands.proofs.looking.next_write.Goals as goal

pub space_of-requires-clause-there : goal.space_of-requires-clause-there
space_of-requires-clause-there c = seat_there c.args.m.now.kernel.place c.in-Some.page c.args.m.now.kernel.place.back c.in-Some.ensures.1

pub space_of-requires-clause-shared : goal.space_of-requires-clause-shared
space_of-requires-clause-shared c =
    seat_shared c.args.m.now.kernel.place c.in-Some.page c.args.m.now.kernel.place.back c.requires.running.sound.owner.frames c.requires.running.sound.owner.aside c.in-Some.ensures.1

pub pick_out-requires : goal.pick_out-requires
pick_out-requires c =
    home_entry c.args.m.now.kernel.place c.in-Some.page c.in-Some-space_of.space.now c.core.result.now c.in-Some-space_of.ensures.home c.core.ensures
    (seat_there c.args.m.now.kernel.place c.in-Some.page c.args.m.now.kernel.place.back c.in-Some.ensures.1)
