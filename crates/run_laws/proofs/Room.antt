-- How few pages an instruction of a run touches, and that there is room beside what is locked.
use Rattle.std.proofs.Common.{ℕ, ◌≤◌, length, arith}
use Rattle.flat_state.specs.Flat.{Inputs}
use Rattle.page_model.specs.Rank.{HasRoom}
use Rattle.run_model.specs.State.{State}
use Rattle.flat_model.specs.Touched.{touched}
use Rattle.run_model.specs.Wanted.{locked}
use Rattle.flat_laws.specs.Whole.{EachWhole}
use Rattle.flat_laws.proofs.Few.{touched_few}
use Rattle.flat_laws.proofs.Sized.{sized_whole}
use Rattle.run_laws.proofs.LockedRoom.{locked_room}
use Rattle.run_laws.specs.Standing.{Placed}
use Rattle.run_laws.specs.Running.{IsRun}

run_whole : (A : Inputs) (s : State) → IsRun A s → EachWhole s.point.flat
run_whole A s r = sized_whole s.point.flat r.sized

pub run_few : (A : Inputs) (s : State) (pid : ℕ) → IsRun A s → length (touched A s.point.flat pid) ≤ 28
run_few A s pid r = touched_few A s.point.flat pid (run_whole A s r pid)

pub run_room : (A : Inputs) (s : State) → IsRun A s → 64 ≤ A.frames → HasRoom s.place (locked A s)
run_room A s r l = let p : Placed A s.point.flat s.place s.holdings = r.placed in locked_room A s (run_whole A s r) (let e = p.frames in omega (arith, e, l))
