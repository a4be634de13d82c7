use Rattle.std.proofs.Common.{◌≡◌, ℕ, Bool, true, false, List, [], ◌++◌, refl, sym, ap, subst, append-nil, add-one}
use Rattle.vm_facts.specs.Answers.{Answers, ByteWrite, written}
use Rattle.vm_facts.specs.declared.regs.Regs.{Regs}
use Rattle.user_vax.specs.Program.{run}
use Rattle.user_vax.specs.Instruction.{instruction, writes_of}
use Rattle.proc_run.specs.Stretch.{CarriesOn, GoesOr, Stretch, StretchOf}
use Rattle.std.specs.Prelude.{is_ok}
use Rattle.proc_run.proofs.stretch.long_stretch.Goals as goal

pub loop-count-init : goal.loop-count-init
loop-count-init g c = (([], (refl, refl), g.met.M.Memory.wrote_none c.args.memory.now), c.none-fixed.ensures (g.M.Memory.answers c.args.memory.now) c.args.cache.now)

pub loop-count-preserved : goal.loop-count-preserved
loop-count-preserved g c =
    let so = c.loop-count.invariant.0 in
    let start : Answers = g.M.Memory.answers c.args.memory.now in
    let earlier : List ByteWrite = so.0 in
    let is : g.M.Memory.answers c.loop-count.memory ≡ written start earlier = g.met.M.Memory.wrote_answers c.args.memory.now c.loop-count.memory earlier so.2 in
    let went : GoesOr true (g.M.Memory.answers c.loop-count.memory) c.loop-count.regs c.go_on_fixed.new.regs
    (λ (ws : List ByteWrite). g.M.Memory.wrote c.loop-count.memory ws c.go_on_fixed.new.memory) =
    subst (λ (b : Bool). GoesOr b (g.M.Memory.answers c.loop-count.memory) c.loop-count.regs c.go_on_fixed.new.regs
    (λ (ws : List ByteWrite). g.M.Memory.wrote c.loop-count.memory ws c.go_on_fixed.new.memory))
    (ap is_ok c.in-Ok.is) c.go_on_fixed.ensures.goes in
    let goes : CarriesOn (written start earlier) c.loop-count.regs c.go_on_fixed.new.regs = subst (λ (m : Answers). CarriesOn m c.loop-count.regs c.go_on_fixed.new.regs) is went.0 in
    let later : List ByteWrite = writes_of (run (written start earlier) (instruction c.loop-count.regs)) in
    let wrote : g.M.Memory.wrote c.loop-count.memory later c.go_on_fixed.new.memory =
    subst (λ (m : Answers). g.M.Memory.wrote c.loop-count.memory (writes_of (run m (instruction c.loop-count.regs))) c.go_on_fixed.new.memory) is went.1 in (
      subst (λ (n : ℕ). StretchOf start c.args.regs.now n c.go_on_fixed.new.regs
          (λ (ws : List ByteWrite). g.M.Memory.wrote c.args.memory.now ws c.go_on_fixed.new.memory)) (sym (add-one c.loop-count.count))
          (earlier ++ later, (earlier, c.loop-count.regs, so.1, goes, refl), g.met.M.Memory.wrote_more c.args.memory.now c.loop-count.memory c.go_on_fixed.new.memory earlier later so.2 wrote),
      c.go_on_fixed.ensures.fixed,
    )

pub go_on_fixed-requires : goal.go_on_fixed-requires
go_on_fixed-requires g c = c.loop-count.invariant.1

pub returns-in-Err-clause-carried : goal.returns-in-Err-clause-carried
returns-in-Err-clause-carried g c =
    let so = c.loop-count.invariant.0 in
    let start : Answers = g.M.Memory.answers c.args.memory.now in
    let went : GoesOr false (g.M.Memory.answers c.loop-count.memory) c.loop-count.regs c.go_on_fixed.new.regs
    (λ (ws : List ByteWrite). g.M.Memory.wrote c.loop-count.memory ws c.go_on_fixed.new.memory) =
    subst (λ (b : Bool). GoesOr b (g.M.Memory.answers c.loop-count.memory) c.loop-count.regs c.go_on_fixed.new.regs
    (λ (ws : List ByteWrite). g.M.Memory.wrote c.loop-count.memory ws c.go_on_fixed.new.memory))
    (ap is_ok c.in-Err.is) c.go_on_fixed.ensures.goes in
    let all : g.M.Memory.wrote c.args.memory.now (so.0 ++ []) c.go_on_fixed.new.memory = g.met.M.Memory.wrote_more c.args.memory.now c.loop-count.memory
    c.go_on_fixed.new.memory so.0 [] so.2 went.1 in (
      so.0,
      subst (λ (r : Regs). Stretch start c.args.regs.now c.loop-count.count so.0 r) (sym went.0) so.1,
      subst (λ (ws : List ByteWrite). g.M.Memory.wrote c.args.memory.now ws c.go_on_fixed.new.memory) (append-nil so.0) all,
    )
