use Rattle.std.proofs.Common.{◌≡◌, None, length, sym, ◌∙◌}
use Rattle.vm_facts.specs.declared.entry.Entry.TheVariants as entries
use Rattle.flat_state.specs.Journal.{append}
use Rattle.paged_model.specs.Moves.{hand_reason}
use Rattle.step_judge.specs.Over.{JudgedOver}
use Rattle.step_judge.specs.Told.{GoesOnWith}
use Rattle.repage_check.proofs.Judgings.{begun_hands}
use Rattle.repage_check.proofs.Told.{none_begun, move_call, or_told}
use Rattle.repage_check.proofs.Goes.{hand_on, hand_frames, hand_journal, some_quarter, few_moves}
use Rattle.repage_check.proofs.judging.judge_move.Goals as goal

pub returns-in-Some-clause-told : goal.returns-in-Some-clause-told
returns-in-Some-clause-told c = λ holds i A s image at same.
    begun_hands c.args.past c.args.m.now c.args.m.now holds i i A s image at c.in-Some.reason (sym c.begun_reason.ensures ∙ c.in-Some.is)

pub judge_hand-judged-requires-clause-quarter : goal.judge_hand-judged-requires-clause-quarter
judge_hand-judged-requires-clause-quarter c = some_quarter _ c.requires.frames

pub judge_hand-judged-requires-clause-fits : goal.judge_hand-judged-requires-clause-fits
judge_hand-judged-requires-clause-fits c = few_moves _ c.requires.low

pub returns-in-None-clause-told : goal.returns-in-None-clause-told
returns-in-None-clause-told c = λ holds i A s image at same.
    let old = c.args.m.now in
    let new = c.judge_hand-judged.new.m in
    let pages = c.args.pages.now in
    move_call c.args.past old new holds i A s image at c.or_memory.result pages (none_begun c.args.past.begun (sym c.begun_reason.ensures ∙ c.in-None.is)) same
    (or_told (λ reason. reason ≡ hand_reason old.kernel.place pages) c.or_memory.result c.judge_hand-judged.result c.or_memory.ensures c.judge_hand-judged.ensures.judged)
    (or_told (JudgedOver pages (entries.Hands 1) old new) c.or_memory.result c.judge_hand-judged.result c.or_memory.ensures c.judge_hand-judged.ensures.made)
    (or_told (λ reason. reason ≡ None → GoesOnWith old new) c.or_memory.result c.judge_hand-judged.result c.or_memory.ensures
    (hand_on old new pages c.judge_hand-judged.result c.judge_hand-judged.ensures.made c.judge_hand-judged.ensures.goes_on))

pub returns-in-None-clause-on : goal.returns-in-None-clause-on
returns-in-None-clause-on c =
    let old = c.args.m.now in
    let new = c.judge_hand-judged.new.m in
    or_told (λ reason. reason ≡ None → GoesOnWith old new) c.or_memory.result c.judge_hand-judged.result c.or_memory.ensures
    (hand_on old new c.args.pages.now c.judge_hand-judged.result c.judge_hand-judged.ensures.made c.judge_hand-judged.ensures.goes_on)

pub returns-in-None-clause-frames : goal.returns-in-None-clause-frames
returns-in-None-clause-frames c =
    let old = c.args.m.now in
    let new = c.judge_hand-judged.new.m in
    or_told (λ reason. reason ≡ None → length new.kernel.place.holds ≡ length old.kernel.place.holds) c.or_memory.result c.judge_hand-judged.result c.or_memory.ensures
    (hand_frames old new c.args.pages.now c.judge_hand-judged.result c.judge_hand-judged.ensures.made)

pub returns-in-None-clause-journal : goal.returns-in-None-clause-journal
returns-in-None-clause-journal c =
    let old = c.args.m.now in
    let new = c.judge_hand-judged.new.m in
    or_told (λ reason. reason ≡ None → new.kernel.journal ≡ append old.kernel.journal (entries.Hands 1)) c.or_memory.result c.judge_hand-judged.result
    c.or_memory.ensures (hand_journal old new c.args.pages.now c.judge_hand-judged.result c.judge_hand-judged.ensures.made)
