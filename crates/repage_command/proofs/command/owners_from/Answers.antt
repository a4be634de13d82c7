use Rattle.std.proofs.Common.{rules, ◌≡◌, ℕ, List, Bor, Err, map, sym, ap, subst}
use Rattle.command_edge.specs.Ending.{Ending, ending_of}
use Rattle.command_edge.specs.Command.{Faults, EndCounted, Made}
use Rattle.replay_command.specs.Reading.{read_of_transcript}
use Rattle.repage_command.specs.Reading.{inputs_of}
use Rattle.repage_command.specs.Command.{EndsOwners}
use Rattle.repage_command.proofs.Endings.{owners_fault, owning_ends, owning_counted}
use Rattle.repage_command.proofs.command.owners_from.Goals as goal

abbrev now_of : List (Bor (List ℕ)) → List (List ℕ)
now_of words = map (λ (word : Bor (List ℕ)). word.now) words

pub returns-in_err-case-clause-made : goal.returns-in_err-case-clause-made
returns-in_err-case-clause-made g c =
    let words = now_of c.args.words.now in
    let f : Faults = record {
      open_before = g.F.Files.open_faults c.args.files.now;
      open_after = g.F.Files.open_faults c.read_case.new.files;
      page_before = g.F.Files.page_faults c.args.files.now;
      page_after = g.F.Files.page_faults c.read_case.new.files;
    } in
    let made = c.in_err-case.ensures.made in
    let is : c.from_residual.result ≡ Err c.in_err-case.field-0.0 = search rules in
    subst (λ (e : Ending). Made (EndsOwners c.args.wanted c.args.numbers c.args.trace.now words) (read_of_transcript c.args.trace.now words) (g.F.Files.holds c.args.files.now) f e)
    (sym (ap ending_of is))
    (record {
      read = made.read;
      is_told = made.is_told;
      ends = owners_fault c.args.wanted c.args.numbers c.args.trace.now words made.read f c.in_err-case.field-0.0 made.ends;
    })

pub returns-in_err-case-clause-counted : goal.returns-in_err-case-clause-counted
returns-in_err-case-clause-counted g c =
    let f : Faults = record {
      open_before = g.F.Files.open_faults c.args.files.now;
      open_after = g.F.Files.open_faults c.read_case.new.files;
      page_before = g.F.Files.page_faults c.args.files.now;
      page_after = g.F.Files.page_faults c.read_case.new.files;
    } in
    let is : c.from_residual.result ≡ Err c.in_err-case.field-0.0 = search rules in
    subst (λ (e : Ending). EndCounted e f) (sym (ap ending_of is)) c.in_err-case.ensures.counted

pub returns-clause-made : goal.returns-clause-made
returns-clause-made g c =
    let made = c.in_ok-case.ensures.made in
    record {
      read = made.read;
      is_told = made.is_told;
      ends = owning_ends c.args.wanted c.args.numbers c.args.trace.now (now_of c.args.words.now) made.read _ c.in_ok-case.case (ending_of c.owners_of_case.result) made.ends.0 made.ends.1
          c.owners_of_case.ensures;
    }

pub returns-clause-counted : goal.returns-clause-counted
returns-clause-counted g c =
    owning_counted (inputs_of c.args.numbers c.in_ok-case.case) c.in_ok-case.case.lines.items c.args.wanted _ (ending_of c.owners_of_case.result) c.in_ok-case.ensures.counted
    c.owners_of_case.ensures
