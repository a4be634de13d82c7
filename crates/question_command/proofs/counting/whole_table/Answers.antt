use Rattle.std.proofs.Common.{ℕ, ◌-◌, ap, ◌∙◌}
use Rattle.question_command.proofs.Noting.{counted_said}
use Rattle.question_command.proofs.counting.whole_table.Goals as goal

pub returns : goal.returns
returns c = λ A holds i are many counted.
    counted_said A c.args.film.now holds i c.args.first.now c.args.notes.now c.saturating_sub.result c.saturating_sub-2.result c.args.images c.journal.result.now
    c.finish_of.result c.counted.result c.in_ok-text.text.items c.put_finish.new.text.items
    counted c.requires.over (c.finish_of.ensures A counted.state holds i counted.image are counted.at) c.counted.ensures many c.journal.ensures
    (c.saturating_sub.ensures ∙ ap (λ (k : ℕ). k - 1) (c.next_numbers-pid.ensures.process ∙ ap (λ m. m.kernel.next_pid) c.machine.ensures))
    (c.saturating_sub-2.ensures ∙ ap (λ (k : ℕ). k - 1) (c.next_numbers-pid.ensures.space ∙ ap (λ m. m.kernel.next_sid) c.machine.ensures))
    c.in_ok-text.ensures c.in_ok-put_finish.ensures
