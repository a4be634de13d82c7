use Rattle.std.proofs.Common.{ℕ, List, Option, Ok, Err, Vec, Global, sym, ap, ◌∙◌, subst}
use Rattle.std.specs.Option.{option_map}
use Rattle.command_edge.specs.declared.fault.Fault.{Fault}
use Rattle.command_edge.specs.Ending.{ending_of}
use Rattle.command_edge.specs.Command.{Faults, FaultCounted, Made}
use Rattle.command_edge.proofs.Counting.{unread_counted}
use Rattle.reference_answers.specs.Command.{references_told, EndsText, EndsPolicies}
use Rattle.reference_answers.proofs.Compared.{text_counted, file_ends, too_long, unread_file}
use Rattle.reference_answers.proofs.command.text_from.Goals as goal

pub returns-in-Ok-Some-clause-made : goal.returns-in-Ok-Some-clause-made
returns-in-Ok-Some-clause-made g c =
    file_ends c.args.comparison c.args.name.now c.in-Ok-Some.bytes.items (g.F.Files.holds c.args.files.now) _ (ending_of c.compare_on.result)
    (λ list told. c.in-Ok-Some.ensures.answers list told ∙ ap (λ (o : Option (Vec ℕ Global)). Ok (option_map (λ (bytes : Vec ℕ Global). bytes.items) o)) c.in-Ok-Some.field-0-is)
    (record { open_same = c.in-Ok-Some.ensures.open_faults; page_same = c.in-Ok-Some.ensures.page_faults })
    (subst (λ (bytes : List ℕ). EndsText c.args.comparison bytes (ending_of c.compare_on.result)) c.as_slice.ensures.value c.compare_on.ensures)

pub returns-in-Ok-None-clause-made : goal.returns-in-Ok-None-clause-made
returns-in-Ok-None-clause-made g c =
    too_long c.args.comparison c.args.name.now (g.F.Files.holds c.args.files.now) _
    (λ list told. c.in-Ok-None.ensures.answers list told ∙ ap (λ (o : Option (Vec ℕ Global)). Ok (option_map (λ (bytes : Vec ℕ Global). bytes.items) o)) c.in-Ok-None.field-0-is)

pub returns-in-Err-clause-made : goal.returns-in-Err-clause-made
returns-in-Err-clause-made g c =
    let f : Faults = record {
      open_before = g.F.Files.open_faults c.args.files.now;
      open_after = g.F.Files.open_faults c.read_whole.new.files;
      page_before = g.F.Files.page_faults c.args.files.now;
      page_after = g.F.Files.page_faults c.read_whole.new.files;
    } in
    subst (λ (e : Fault). Made (EndsPolicies c.args.comparison c.args.name.now) (references_told c.args.name.now) (g.F.Files.holds c.args.files.now) f (Err e)) (sym c.of_unread.ensures)
    (unread_file {A = Option (Vec ℕ Global)} (option_map (λ (bytes : Vec ℕ Global). bytes.items)) c.args.comparison c.args.name (g.F.Files.holds c.args.files.now) f c.in-Err.unread
    c.in-Err.ensures.answers c.in-Err.ensures.error c.in-Err.ensures.open_faults c.in-Err.ensures.page_faults)

pub returns-in-Ok-Some-clause-counted : goal.returns-in-Ok-Some-clause-counted
returns-in-Ok-Some-clause-counted g c =
    text_counted c.args.comparison _ _ (ending_of c.compare_on.result) (record { open_same = c.in-Ok-Some.ensures.open_faults; page_same = c.in-Ok-Some.ensures.page_faults })
    c.compare_on.ensures

pub returns-in-Err-clause-counted : goal.returns-in-Err-clause-counted
returns-in-Err-clause-counted g c =
    let f : Faults = record {
      open_before = g.F.Files.open_faults c.args.files.now;
      open_after = g.F.Files.open_faults c.read_whole.new.files;
      page_before = g.F.Files.page_faults c.args.files.now;
      page_after = g.F.Files.page_faults c.read_whole.new.files;
    } in
    subst (λ (e : Fault). FaultCounted e f) (sym c.of_unread.ensures)
    (unread_counted (Option (Vec ℕ Global)) c.args.name c.in-Err.unread f c.in-Err.ensures.open_faults c.in-Err.ensures.page_faults)
