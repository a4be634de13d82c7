use Rattle.run_laws.proofs.LockedRoom.{locked_room}
use Rattle.run_laws.proofs.Room.{run_few, run_room}
use Rattle.run_laws.proofs.laws.instructions_have_room.Goals as goal

pub returns-clause-few : goal.returns-clause-few
returns-clause-few c = run_few

pub returns-clause-room : goal.returns-clause-room
returns-clause-room c = run_room

pub returns-clause-locked : goal.returns-clause-locked
returns-clause-locked c = locked_room
