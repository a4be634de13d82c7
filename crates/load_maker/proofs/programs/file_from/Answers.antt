-- A good source has no bad line, and one program.
use Rattle.std.proofs.Common.{List, ℕ, subst}
use Rattle.vax_asm.specs.Program.{AssemblesAs, IsProgramOf, IsFirstBad}
use Rattle.source_commands.proofs.Limits.{program_limit}
use Rattle.load_maker.proofs.Sources.{no_bad_line}
use Rattle.load_maker.proofs.programs.file_from.Goals as goal

pub file_of-requires : goal.file_of-requires
file_of-requires c =
    let is : IsProgramOf c.as_bytes.result.now c.in-Is.program.bytes.items c.in-Is.program.bss = subst (AssemblesAs c.as_bytes.result.now) c.in-Is.is c.in_ok-program.ensures.answers in
    program_limit c.as_bytes.result.now c.in-Is.program.bytes.items c.in-Is.program.bss is

pub unreachable-requires : goal.unreachable-requires
unreachable-requires c =
    let bad : IsFirstBad c.as_bytes.result.now c.in-BadLine.field-0 = subst (AssemblesAs c.as_bytes.result.now) c.in-BadLine.is c.in_ok-program.ensures.answers in
    no_bad_line c.args.source.now c.requires.bytes c.requires.bss c.in-BadLine.field-0 c.requires.program (subst (λ (s : List ℕ). IsFirstBad s c.in-BadLine.field-0) c.as_bytes.ensures.value bad)
