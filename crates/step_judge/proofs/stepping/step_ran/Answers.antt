use Rattle.io_edge.specs.WithFiles.{stores}
use Rattle.std.proofs.Common.{◌≡◌, ◌+◌, ◌<◌, ◌≤◌, false, true, length, None, Some, sym, ◌∙◌, arith}
use Rattle.flat_state.specs.Journal.{instructions_of}
use Rattle.proc_run.specs.Callers.{regs_of}
use Rattle.proc_run.specs.LastMoves.{last_moves}
use Rattle.proc_run.specs.Ready.{Continues}
use Rattle.proc_run.proofs.Journals.{last_counts_few}
use Rattle.proc_run.specs.Runs.{IsSteady}
use Rattle.proc_run.proofs.Attempts.{RoomOnly, room_kernel, room_lends}
use Rattle.proc_run.proofs.Tried.{journal_same, lends_still, ran_goes_on}
use Rattle.step_judge.specs.Told.{GoesOnWith}
use Rattle.step_judge.proofs.Stepped.{steady_of, lends_of, few_of, some_room, told_room, on_room, left_same, other_still, ran_through, did_done, ran_told}
use Rattle.machine_state.specs.Outside.{IsBacked}
use Rattle.step_judge.proofs.stepping.step_ran.Goals as goal

pub attempt_cached-stepped-requires-clause-lends : goal.attempt_cached-stepped-requires-clause-lends
attempt_cached-stepped-requires-clause-lends g c =
    let m = c.args.m.now in
    let holds = g.F.Files.holds c.args.files.now in
    let i = stores g.F.Files g.D.SwapDev c.args.files.now c.args.swap.now in
    let o : RoomOnly m c.ask_room.new.m = record { made = Some c.args.pid; only = c.in_ok-ask_room.ensures.only } in
    room_lends m c.ask_room.new.m c.args.pid o (lends_of m c.args.counted None holds i c.args.pid c.requires.may c.requires.asks.ready c.requires.low)

-- Where the instruction is carried out.

pub ran-requires-clause-can : goal.ran-requires-clause-can
ran-requires-clause-can g c =
    let m = c.args.m.now in
    let holds = g.F.Files.holds c.args.files.now in
    let i = stores g.F.Files g.D.SwapDev c.args.files.now c.args.swap.now in
    let o : RoomOnly m c.ask_room.new.m = record { made = Some c.args.pid; only = c.in_ok-ask_room.ensures.only } in
    lends_still m c.ask_room.new.m c.attempt_cached-stepped.new.m c.args.pid c.args.regs.now o c.attempt_cached-stepped.ensures.wrote
    c.attempt_cached-stepped.ensures.goes_on
    (room_lends m c.ask_room.new.m c.args.pid o (lends_of m c.args.counted None holds i c.args.pid c.requires.may c.requires.asks.ready c.requires.low))

pub ran-requires-clause-fits : goal.ran-requires-clause-fits
ran-requires-clause-fits g c = λ count before h.
    let m = c.args.m.now in
    let holds = g.F.Files.holds c.args.files.now in
    let i = stores g.F.Files g.D.SwapDev c.args.files.now c.args.swap.now in
    let o : RoomOnly m c.ask_room.new.m = record { made = Some c.args.pid; only = c.in_ok-ask_room.ensures.only } in
    let same = journal_same m c.ask_room.new.m c.attempt_cached-stepped.new.m c.args.pid c.args.regs.now o c.attempt_cached-stepped.ensures.wrote in
    let few = last_counts_few m.kernel.journal before c.args.pid count (sym same ∙ h) in
    let all = c.requires.counted in
    let most : c.args.counted < 1000000 = few_of m c.args.counted None holds i c.args.pid c.requires.may in
    omega (arith, few, all, most)

pub returns-then-is_done-clause-told : goal.returns-then-is_done-clause-told
returns-then-is_done-clause-told g c =
    let m = c.args.m.now in
    let holds = g.F.Files.holds c.args.files.now in
    let i = stores g.F.Files g.D.SwapDev c.args.files.now c.args.swap.now in
    let o : RoomOnly m c.ask_room.new.m = record { made = Some c.args.pid; only = c.in_ok-ask_room.ensures.only } in
    ran_told m c.args.counted holds i c.args.pid c.args.regs.now c.requires.registers c.args.e.now c.ran.new.self.kernel c.requires.ran
    (did_done c.attempt_cached-stepped.result m c.ask_room.new.m c.args.pid c.args.regs.now o c.attempt_cached-stepped.ensures.answer
    (c.is_done.ensures.0 c.if-is_done.true))
    (ran_through m c.ask_room.new.m c.attempt_cached-stepped.new.m c.args.pid c.args.regs.now c.attempt_cached-stepped.new.regs c.ran.new.self.kernel o
    c.attempt_cached-stepped.ensures.wrote c.attempt_cached-stepped.ensures.registers c.ran.ensures.step)

pub returns-then-is_done-clause-on : goal.returns-then-is_done-clause-on
returns-then-is_done-clause-on g c =
    let m = c.args.m.now in
    let holds = g.F.Files.holds c.args.files.now in
    let i = stores g.F.Files g.D.SwapDev c.args.files.now c.args.swap.now in
    let o : RoomOnly m c.ask_room.new.m = record { made = Some c.args.pid; only = c.in_ok-ask_room.ensures.only } in
    let steady : IsSteady m = steady_of m c.args.counted None holds i c.args.pid c.requires.may c.requires.asks.ready c.requires.low in
    let k : Continues m c.ran.new.self 1 =
    ran_goes_on m c.ask_room.new.m c.attempt_cached-stepped.new.m c.args.pid c.args.regs.now o c.attempt_cached-stepped.ensures.wrote steady.clear
    (sym c.attempt_cached-stepped.ensures.answer ∙ c.is_done.ensures.0 c.if-is_done.true) c.ran.new.self c.attempt_cached-stepped.new.regs
    c.attempt_cached-stepped.ensures.registers c.ran.ensures.step c.ran.ensures.rest in
    let on : GoesOnWith m c.ran.new.self = record { ready = c.ran.ensures.goes_on; params = k.params; images = k.images } in
    λ none. on

-- Where it isn't.

pub step_else-requires-clause-low : goal.step_else-requires-clause-low
step_else-requires-clause-low g c =
    let m = c.args.m.now in
    let same = left_same c.attempt_cached-stepped.result c.ask_room.new.m c.attempt_cached-stepped.new.m
    (λ d. let z : false ≡ true = sym c.if-is_done.false ∙ c.is_done.ensures.1 d in cc) c.attempt_cached-stepped.ensures.only in
    let o : RoomOnly m c.attempt_cached-stepped.new.m = record { made = Some c.args.pid; only = same ∙ c.in_ok-ask_room.ensures.only } in
    room_kernel (λ n. last_moves n.kernel.journal ≤ 1000000) m c.attempt_cached-stepped.new.m o c.requires.low

pub step_else-requires-clause-bound : goal.step_else-requires-clause-bound
step_else-requires-clause-bound g c =
    let m = c.args.m.now in
    let same = left_same c.attempt_cached-stepped.result c.ask_room.new.m c.attempt_cached-stepped.new.m
    (λ d. let z : false ≡ true = sym c.if-is_done.false ∙ c.is_done.ensures.1 d in cc) c.attempt_cached-stepped.ensures.only in
    let o : RoomOnly m c.attempt_cached-stepped.new.m = record { made = Some c.args.pid; only = same ∙ c.in_ok-ask_room.ensures.only } in
    room_kernel (λ n. n.params.journal ≡ length n.kernel.journal + 1) m c.attempt_cached-stepped.new.m o c.requires.bound

pub step_else-requires-clause-counted : goal.step_else-requires-clause-counted
step_else-requires-clause-counted g c =
    let m = c.args.m.now in
    let same = left_same c.attempt_cached-stepped.result c.ask_room.new.m c.attempt_cached-stepped.new.m
    (λ d. let z : false ≡ true = sym c.if-is_done.false ∙ c.is_done.ensures.1 d in cc) c.attempt_cached-stepped.ensures.only in
    let o : RoomOnly m c.attempt_cached-stepped.new.m = record { made = Some c.args.pid; only = same ∙ c.in_ok-ask_room.ensures.only } in
    room_kernel (λ n. instructions_of n.kernel.journal ≡ c.args.counted) m c.attempt_cached-stepped.new.m o c.requires.counted

pub step_else-requires-clause-may : goal.step_else-requires-clause-may
step_else-requires-clause-may g c =
    let m = c.args.m.now in
    let holds = g.F.Files.holds c.args.files.now in
    let i = stores g.F.Files g.D.SwapDev c.args.files.now c.args.swap.now in
    let same = left_same c.attempt_cached-stepped.result c.ask_room.new.m c.attempt_cached-stepped.new.m
    (λ d. let z : false ≡ true = sym c.if-is_done.false ∙ c.is_done.ensures.1 d in cc) c.attempt_cached-stepped.ensures.only in
    let o : RoomOnly m c.attempt_cached-stepped.new.m = record { made = Some c.args.pid; only = same ∙ c.in_ok-ask_room.ensures.only } in
    some_room m c.attempt_cached-stepped.new.m o c.args.counted None holds i c.args.pid c.requires.may

pub step_else-requires-clause-registers : goal.step_else-requires-clause-registers
step_else-requires-clause-registers g c =
    let m = c.args.m.now in
    let same = left_same c.attempt_cached-stepped.result c.ask_room.new.m c.attempt_cached-stepped.new.m
    (λ d. let z : false ≡ true = sym c.if-is_done.false ∙ c.is_done.ensures.1 d in cc) c.attempt_cached-stepped.ensures.only in
    let o : RoomOnly m c.attempt_cached-stepped.new.m = record { made = Some c.args.pid; only = same ∙ c.in_ok-ask_room.ensures.only } in
    room_kernel (λ n. c.args.regs.now ≡ regs_of n.kernel c.args.pid) m c.attempt_cached-stepped.new.m o c.requires.registers

pub step_else-requires-clause-other : goal.step_else-requires-clause-other
step_else-requires-clause-other g c =
    let same = left_same c.attempt_cached-stepped.result c.ask_room.new.m c.attempt_cached-stepped.new.m
    (λ d. let z : false ≡ true = sym c.if-is_done.false ∙ c.is_done.ensures.1 d in cc) c.attempt_cached-stepped.ensures.only in
    other_still c.attempt_cached-stepped.result c.ask_room.new.m c.attempt_cached-stepped.new.m c.args.pid c.args.regs.now c.attempt_cached-stepped.ensures.answer
    (λ d. let z : false ≡ true = sym c.if-is_done.false ∙ c.is_done.ensures.1 d in cc) same

pub step_else-requires-clause-asks : goal.step_else-requires-clause-asks
step_else-requires-clause-asks g c =
    let m = c.args.m.now in
    let same = left_same c.attempt_cached-stepped.result c.ask_room.new.m c.attempt_cached-stepped.new.m
    (λ d. let z : false ≡ true = sym c.if-is_done.false ∙ c.is_done.ensures.1 d in cc) c.attempt_cached-stepped.ensures.only in
    let o : RoomOnly m c.attempt_cached-stepped.new.m = record { made = Some c.args.pid; only = same ∙ c.in_ok-ask_room.ensures.only } in
    record {
      ready = c.attempt_cached-stepped.ensures.goes_on;
      backed = room_kernel (λ n. IsBacked n (g.F.Files.holds c.args.files.now) (g.D.SwapDev.blocks c.args.swap.now)) m c.attempt_cached-stepped.new.m o
          (record { area = c.requires.asks.backed.area; files = c.requires.asks.backed.files });
    }

pub returns-else-is_done-clause-told : goal.returns-else-is_done-clause-told
returns-else-is_done-clause-told g c =
    let m = c.args.m.now in
    let holds = g.F.Files.holds c.args.files.now in
    let i = stores g.F.Files g.D.SwapDev c.args.files.now c.args.swap.now in
    let same = left_same c.attempt_cached-stepped.result c.ask_room.new.m c.attempt_cached-stepped.new.m
    (λ d. let z : false ≡ true = sym c.if-is_done.false ∙ c.is_done.ensures.1 d in cc) c.attempt_cached-stepped.ensures.only in
    let o : RoomOnly m c.attempt_cached-stepped.new.m = record { made = Some c.args.pid; only = same ∙ c.in_ok-ask_room.ensures.only } in
    told_room m c.attempt_cached-stepped.new.m o c.args.counted None holds i c.args.pid c.args.e.now c.step_else.new.m.kernel (stores g.F.Files g.D.SwapDev c.step_else.new.files c.step_else.new.swap)
    c.step_else.result c.step_else.ensures.told

pub returns-else-is_done-clause-on : goal.returns-else-is_done-clause-on
returns-else-is_done-clause-on g c =
    let m = c.args.m.now in
    let holds = g.F.Files.holds c.args.files.now in
    let i = stores g.F.Files g.D.SwapDev c.args.files.now c.args.swap.now in
    let same = left_same c.attempt_cached-stepped.result c.ask_room.new.m c.attempt_cached-stepped.new.m
    (λ d. let z : false ≡ true = sym c.if-is_done.false ∙ c.is_done.ensures.1 d in cc) c.attempt_cached-stepped.ensures.only in
    let o : RoomOnly m c.attempt_cached-stepped.new.m = record { made = Some c.args.pid; only = same ∙ c.in_ok-ask_room.ensures.only } in
    on_room m c.attempt_cached-stepped.new.m o c.args.counted None holds i c.args.pid c.step_else.new.m c.step_else.result c.step_else.ensures.on
