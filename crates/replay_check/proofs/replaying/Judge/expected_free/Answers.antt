use Rattle.std.proofs.Common.{◌≡◌, ◌+◌, ◌-◌, Bool, true, false, ap, subst, arith}
use Rattle.vm_facts.specs.declared.entry.Entry.TheVariants.{Ran}
use Rattle.flat_model.specs.Run.{flat_entry}
use Rattle.replay_check.specs.Judging.{refused_in, IsVerdict}
use Rattle.replay_check.specs.Expecting.{is_one}
use Rattle.replay_check.proofs.Misfits.{expected_none, expected_stopped, expected_more}
use Rattle.replay_check.proofs.replaying.Judge.expected_free.Goals as goal

pub returns-then-count-eq0 : goal.returns-then-count-eq0
returns-then-count-eq0 c = λ A point same other at.
    let none : c.args.count ≡ 0 = omega arith in
    expected_none A point c.args.pid c.args.count c.in_ok-expected.expected none (c.in_ok-expected.ensures.expected A point same (ap (refused_in c.args.pid) other) at)

pub returns-then-not-is_one : goal.returns-then-not-is_one
returns-then-not-is_one c = λ A point same other at.
    let stop : is_one c.in_ok-expected.expected ≡ false = cc in
    expected_stopped A point c.next_of.new.self.machine c.next_of.new.self.last c.args.pid c.args.count c.in_ok-expected.expected
    (subst (λ (b : Bool). IsVerdict A b c.next_of.new.self.machine c.next_of.new.self.last (flat_entry A point (Ran c.args.pid 1))) stop
    (c.in_ok-expected.ensures.verdict A point same (ap (refused_in c.args.pid) other) other at))
    (c.in_ok-expected.ensures.expected A point same (ap (refused_in c.args.pid) other) at)

pub overflow_add-result : goal.overflow_add-result
overflow_add-result c = let few = c.runs-more.ensures.few in omega arith

pub returns : goal.returns
returns c = λ A point same other at.
    let one : is_one c.in_ok-expected.expected ≡ true = cc in
    let all : c.args.count ≡ c.args.count - 1 + 1 = omega arith in
    expected_more A point c.next_of.new.self.machine c.next_of.new.self.last c.args.pid c.args.count (c.args.count - 1) c.runs-more.result all
    (subst (λ (b : Bool). IsVerdict A b c.next_of.new.self.machine c.next_of.new.self.last (flat_entry A point (Ran c.args.pid 1))) one
    (c.in_ok-expected.ensures.verdict A point same (ap (refused_in c.args.pid) other) other at))
    (λ next here. c.runs-more.ensures.runs A next here)
