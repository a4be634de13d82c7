use Rattle.std.proofs.Common.{◌≡◌, ◌∙◌, rules, sym, arith}
use Rattle.io_edge.specs.Count.{Rose}
use Rattle.io_edge.proofs.PairCalls.{rose_alone}
use Rattle.outside_tests.proofs.memory.copy_across.Goals as goal

pub returns-clause-zero_failed : goal.returns-clause-zero_failed
returns-clause-zero_failed g c = λ named.
    let alone = rose_alone _ _ _ _ _ _ _ _ 0 c.copy_page.ensures.leads.4 c.new-pair.ensures.read_faults c.new-pair.ensures.failed_read
    (let reads = c.copy_page.ensures.reads in let none = c.new-pair.ensures.read_faults in omega (arith, reads, none)) (sym c.failed_read.ensures.device ∙ named) in
    let rose : Rose (g.D.SwapDev.read_faults c.new-pair.result.zero.now) (g.D.SwapDev.read_faults c.copy_page.new.device.zero.now) = alone.0 in
    search rules

pub returns-clause-one_stays : goal.returns-clause-one_stays
returns-clause-one_stays g c = λ named.
    let alone = rose_alone _ _ _ _ _ _ _ _ 0 c.copy_page.ensures.leads.4 c.new-pair.ensures.read_faults c.new-pair.ensures.failed_read
    (let reads = c.copy_page.ensures.reads in let none = c.new-pair.ensures.read_faults in omega (arith, reads, none)) (sym c.failed_read.ensures.device ∙ named) in
    let stays : g.E.SwapDev.read_faults c.copy_page.new.device.one.now ≡ g.E.SwapDev.read_faults c.new-pair.result.one.now = alone.1 in
    search rules

pub returns-clause-one_failed : goal.returns-clause-one_failed
returns-clause-one_failed g c = λ named.
    let alone = rose_alone _ _ _ _ _ _ _ _ 1 c.copy_page.ensures.leads.4 c.new-pair.ensures.read_faults c.new-pair.ensures.failed_read
    (let reads = c.copy_page.ensures.reads in let none = c.new-pair.ensures.read_faults in omega (arith, reads, none)) (sym c.failed_read.ensures.device ∙ named) in
    let rose : Rose (g.E.SwapDev.read_faults c.new-pair.result.one.now) (g.E.SwapDev.read_faults c.copy_page.new.device.one.now) = alone.0 in
    search rules

pub returns-clause-zero_stays : goal.returns-clause-zero_stays
returns-clause-zero_stays g c = λ named.
    let alone = rose_alone _ _ _ _ _ _ _ _ 1 c.copy_page.ensures.leads.4 c.new-pair.ensures.read_faults c.new-pair.ensures.failed_read
    (let reads = c.copy_page.ensures.reads in let none = c.new-pair.ensures.read_faults in omega (arith, reads, none)) (sym c.failed_read.ensures.device ∙ named) in
    let stays : g.D.SwapDev.read_faults c.copy_page.new.device.zero.now ≡ g.D.SwapDev.read_faults c.new-pair.result.zero.now = alone.1 in
    search rules
