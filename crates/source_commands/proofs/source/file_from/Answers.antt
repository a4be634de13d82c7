use Rattle.std.proofs.Common.{List, ℕ, Ok, Err, Vec, Global, sym, subst}
use Rattle.io_edge.specs.FileHolding.{NamedFile}
use Rattle.vax_asm.specs.Program.{IsProgramOf, IsFirstBad, AssemblesAs}
use Rattle.command_edge.specs.declared.answers.Unread.TheVariants as unreads
use Rattle.command_edge.specs.Told.{bytes_told}
use Rattle.command_edge.specs.declared.fault.Fault.{Fault}
use Rattle.command_edge.specs.declared.fault.Fault.TheVariants.{NoMemory, BadSource}
use Rattle.command_edge.specs.Command.{Faults, FaultCounted, Made}
use Rattle.command_edge.proofs.Counting.{unread_counted}
use Rattle.source_commands.specs.Command.{EndsAssembly}
use Rattle.source_commands.proofs.Limits.{program_limit}
use Rattle.command_edge.proofs.Makings.{made_by, made_nothing}
use Rattle.source_commands.proofs.Makings.{unread_source}
use Rattle.source_commands.proofs.source.file_from.Goals as goal

pub returns-in-Err-clause-made : goal.returns-in-Err-clause-made
returns-in-Err-clause-made g c =
    let f : Faults = record {
      open_before = g.F.Files.open_faults c.args.files.now;
      open_after = g.F.Files.open_faults c.read_file.new.files;
      page_before = g.F.Files.page_faults c.args.files.now;
      page_after = g.F.Files.page_faults c.read_file.new.files;
    } in
    subst (λ (e : Fault). Made (EndsAssembly c.args.name.now) (λ (list : List NamedFile). bytes_told list c.args.name.now 495617) (g.F.Files.holds c.args.files.now) f (Err e))
    (sym c.of_unread.ensures)
    (unread_source {A = Vec ℕ Global} (λ bytes. bytes.items) c.args.name (λ (list : List NamedFile). bytes_told list c.args.name.now 495617) (g.F.Files.holds c.args.files.now) f c.in-Err.unread
    c.in-Err.ensures.answers c.in-Err.ensures.error c.in-Err.ensures.open_faults c.in-Err.ensures.page_faults)

pub returns-in-Err-clause-counted : goal.returns-in-Err-clause-counted
returns-in-Err-clause-counted g c =
    let f : Faults = record {
      open_before = g.F.Files.open_faults c.args.files.now;
      open_after = g.F.Files.open_faults c.read_file.new.files;
      page_before = g.F.Files.page_faults c.args.files.now;
      page_after = g.F.Files.page_faults c.read_file.new.files;
    } in
    subst (λ (e : Fault). FaultCounted e f) (sym c.of_unread.ensures)
    (unread_counted (Vec ℕ Global) c.args.name c.in-Err.unread f c.in-Err.ensures.open_faults c.in-Err.ensures.page_faults)

pub file_of-requires : goal.file_of-requires
file_of-requires g c =
    program_limit c.as_slice.result.now c.in-Ok-Is.program.bytes.items c.in-Ok-Is.program.bss (subst (AssemblesAs c.as_slice.result.now) c.in-Ok-Is.field-0-is c.in-Ok-Is.ensures.answers)

pub returns-in-Ok-file_of-clause-made : goal.returns-in-Ok-file_of-clause-made
returns-in-Ok-file_of-clause-made g c =
    made_by (EndsAssembly c.args.name.now) (λ (list : List NamedFile). bytes_told list c.args.name.now 495617) (g.F.Files.holds c.args.files.now) _ (Ok c.in-Ok-file_of.file.items)
    (Ok c.in-Ok.source.items)
    c.in-Ok.ensures.answers (
      record { open_same = c.in-Ok.ensures.open_faults; page_same = c.in-Ok.ensures.page_faults },
      record {
        bytes = c.in-Ok-Is.program.bytes.items;
        bss = c.in-Ok-Is.program.bss;
        program = subst (λ (source : List ℕ). IsProgramOf source c.in-Ok-Is.program.bytes.items c.in-Ok-Is.program.bss) c.as_slice.ensures.value
            (subst (AssemblesAs c.as_slice.result.now) c.in-Ok-Is.field-0-is c.in-Ok-Is.ensures.answers);
        file = c.in-Ok-file_of.ensures;
      },
    )

pub returns-in-Ok-Is-clause-made : goal.returns-in-Ok-Is-clause-made
returns-in-Ok-Is-clause-made g c =
    made_nothing (EndsAssembly c.args.name.now) (Err unreads.NoMemory) (λ (list : List NamedFile). bytes_told list c.args.name.now 495617) (g.F.Files.holds c.args.files.now) _
    (Err NoMemory) (λ read. tt)

pub returns-in-Ok-BadLine-clause-made : goal.returns-in-Ok-BadLine-clause-made
returns-in-Ok-BadLine-clause-made g c =
    made_by (EndsAssembly c.args.name.now) (λ (list : List NamedFile). bytes_told list c.args.name.now 495617) (g.F.Files.holds c.args.files.now) _ (Err (BadSource c.in-Ok-BadLine.line))
    (Ok c.in-Ok.source.items)
    c.in-Ok.ensures.answers (subst (λ (source : List ℕ). IsFirstBad source c.in-Ok-BadLine.line) c.as_slice.ensures.value
    (subst (AssemblesAs c.as_slice.result.now) c.in-Ok-BadLine.field-0-is c.in-Ok-BadLine.ensures.answers))

pub returns-clause-made : goal.returns-clause-made
returns-clause-made g c =
    made_nothing (EndsAssembly c.args.name.now) (Err unreads.NoMemory) (λ (list : List NamedFile). bytes_told list c.args.name.now 495617) (g.F.Files.holds c.args.files.now) _
    (Err NoMemory) (λ read. tt)
