use Rattle.std.proofs.Common.{ℕ, List, [], ap, subst, sym}
use Rattle.io_edge.specs.FileRequests.{no_notes}
use Rattle.io_edge.specs.WithFiles.{with_files}
use Rattle.machine_state.specs.Machine.{Standing}
use Rattle.repage_check.specs.VmCoreStarting.{AreAmong}
use Rattle.question_command.specs.Answering.{blank_stores}
use Rattle.question_command.proofs.Openings.{are_sound, are_names}
use Rattle.question_command.proofs.Runs.{asked, opened_files}
use Rattle.repage_command.specs.Reading.{inputs_of}
use Rattle.repage_command.proofs.Judged.{numbers_among}
use Rattle.repage_command.proofs.Askings.{told_of}
use Rattle.repage_command.proofs.judging.judge_opened.Goals as goal

pub machine_of-requires-clause-sound : goal.machine_of-requires-clause-sound
machine_of-requires-clause-sound c = are_sound c.args.opened.now c.requires.opened.sound

pub machine_of-requires-clause-names : goal.machine_of-requires-clause-names
machine_of-requires-clause-names c = are_names c.args.opened.now c.requires.opened.short

pub judge_begun-judged-requires-clause-bound : goal.judge_begun-judged-requires-clause-bound
judge_begun-judged-requires-clause-bound c = ap (λ (m : Standing). m.params.journal) c.in-Ok-machine_of.ensures.machine

pub judge_begun-judged-requires-clause-numbers : goal.judge_begun-judged-requires-clause-numbers
judge_begun-judged-requires-clause-numbers c =
    subst (λ (ns : List ℕ). AreAmong c.in-Ok-machine_of.m.images ns) (sym c.as_slice-first.ensures.value)
    (numbers_among c.in-Ok-machine_of.m.images c.args.opened.now _ c.args.case.now.naming.first.items (ap (λ (m : Standing). m.images) c.in-Ok-machine_of.ensures.machine)
    c.requires.opened.count c.requires.ready.runnable.numbers_are)

pub judge_begun-judged-requires-clause-files : goal.judge_begun-judged-requires-clause-files
judge_begun-judged-requires-clause-files c =
    opened_files 0 c.args.numbers c.args.case.now.images.items c.args.opened.now c.args.case.now.naming.first.items [] c.requires.opened c.requires.ready.runnable c.requires.octets _
    c.in-Ok-machine_of.ensures.machine _ c.requires.held

pub judge_begun-judged-requires-clause-told : goal.judge_begun-judged-requires-clause-told
judge_begun-judged-requires-clause-told c = record {
  inputs = inputs_of c.args.numbers c.args.case.now;
  image = blank_stores c.args.numbers.swap;
  told = told_of (inputs_of c.args.numbers c.args.case.now) _ c.args.case.now.naming.first.items c.as_slice-first.result.now [] _ (blank_stores c.args.numbers.swap) c.as_slice-first.ensures.value
      (asked 0 c.args.numbers c.args.case.now.images.items c.args.opened.now c.args.case.now.naming.first.items [] c.requires.opened c.requires.ready.runnable c.requires.octets _
      c.in-Ok-machine_of.ensures.machine _ c.requires.held);
  shown = ap (with_files no_notes) c.in-Ok.ensures.zeros;
  limit = c.requires.ready.limit;
}

pub returns : goal.returns
returns c =
    c.judge_begun-judged.ensures (inputs_of c.args.numbers c.args.case.now) (blank_stores c.args.numbers.swap)
    (told_of (inputs_of c.args.numbers c.args.case.now) _ c.args.case.now.naming.first.items c.as_slice-first.result.now [] _ (blank_stores c.args.numbers.swap) c.as_slice-first.ensures.value
    (asked 0 c.args.numbers c.args.case.now.images.items c.args.opened.now c.args.case.now.naming.first.items [] c.requires.opened c.requires.ready.runnable c.requires.octets _
    c.in-Ok-machine_of.ensures.machine _ c.requires.held))
    (ap (with_files no_notes) c.in-Ok.ensures.zeros) c.requires.ready.limit
