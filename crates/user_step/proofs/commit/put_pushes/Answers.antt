use Rattle.std.proofs.Common.{◌≡◌, ◌∙◌, ◌<◌, ◌++◌, ℕ, List, Option, Ok, get_or, length, sym, ap, subst, arith, rules}
use Rattle.vm_facts.specs.Answers.{ByteWrite, writes_down}
use Rattle.user_vax.specs.Program.{run}
use Rattle.user_vax.specs.Effects.{bytes_at}
use Rattle.user_vax.specs.Instruction.{write_tests}
use Rattle.vax_execute.specs.Outcomes.{counted_bytes, frame_in, pushed_bytes}
use Rattle.user_step.specs.Tried.{writes_below}
use Rattle.user_step.proofs.Downwards.{counted_first}
use Rattle.user_step.proofs.commit.put_pushes.Goals as goal

pub returns-in-None-clause-may : goal.returns-in-None-clause-may
returns-in-None-clause-may g c done =
    let p = c.args.pushes.now in
    let all : writes_down p.top c.frame.result.now ≡ pushed_bytes p =
    ap (writes_down p.top) c.frame.ensures
    ∙ ap (λ (counted : Option ℕ). counted_bytes counted (get_or p.longwords 0 0) ++ writes_down p.top (frame_in p)) (sym c.in-None.is) in
    subst (λ (writes : List ByteWrite). run (g.M.Memory.answers c.args.memory.now) (write_tests writes) ≡ Ok tt) all (c.put_frame.ensures.may done)

pub returns-in-None-clause-done : goal.returns-in-None-clause-done
returns-in-None-clause-done g c done =
    let p = c.args.pushes.now in
    let all : writes_down p.top c.frame.result.now ≡ pushed_bytes p =
    ap (writes_down p.top) c.frame.ensures
    ∙ ap (λ (counted : Option ℕ). counted_bytes counted (get_or p.longwords 0 0) ++ writes_down p.top (frame_in p)) (sym c.in-None.is) in
    subst (λ (writes : List ByteWrite). g.M.Memory.wrote c.args.memory.now writes c.put_frame.new.memory) all (c.put_frame.ensures.done done)

pub returns-else-address-pushes-clause-may : goal.returns-else-address-pushes-clause-may
returns-else-address-pushes-clause-may g c done =
    let p = c.args.pushes.now in
    let address : ℕ = c.in-Some.address in
    let some : 0 < length p.longwords = search rules in
    let same : address ≡ p.top = omega arith in
    let all : writes_below address c.with_count.result.now ≡ pushed_bytes p =
    ap (writes_below address) c.with_count.ensures
    ∙ counted_first address p.longwords p.frame_length some
    ∙ ap (λ (a : ℕ). bytes_at 4 address (get_or p.longwords 0 0) ++ writes_down a (frame_in p)) same
    ∙ ap (λ (counted : Option ℕ). counted_bytes counted (get_or p.longwords 0 0) ++ writes_down p.top (frame_in p)) (sym c.in-Some.is) in
    subst (λ (writes : List ByteWrite). run (g.M.Memory.answers c.args.memory.now) (write_tests writes) ≡ Ok tt) all (c.put_counted.ensures.may done)

pub returns-else-address-pushes-clause-done : goal.returns-else-address-pushes-clause-done
returns-else-address-pushes-clause-done g c done =
    let p = c.args.pushes.now in
    let address : ℕ = c.in-Some.address in
    let some : 0 < length p.longwords = search rules in
    let same : address ≡ p.top = omega arith in
    let all : writes_below address c.with_count.result.now ≡ pushed_bytes p =
    ap (writes_below address) c.with_count.ensures
    ∙ counted_first address p.longwords p.frame_length some
    ∙ ap (λ (a : ℕ). bytes_at 4 address (get_or p.longwords 0 0) ++ writes_down a (frame_in p)) same
    ∙ ap (λ (counted : Option ℕ). counted_bytes counted (get_or p.longwords 0 0) ++ writes_down p.top (frame_in p)) (sym c.in-Some.is) in
    subst (λ (writes : List ByteWrite). g.M.Memory.wrote c.args.memory.now writes c.put_counted.new.memory) all (c.put_counted.ensures.done done)
