use Rattle.source_commands.proofs.Limits.{program_limit, bss_limit}
use Rattle.source_commands.proofs.Programs.{is_image, file_long}
use Rattle.source_commands.proofs.laws.programs_are_images.Goals as goal

pub returns-clause-image : goal.returns-clause-image
returns-clause-image c = is_image

pub returns-clause-ends : goal.returns-clause-ends
returns-clause-ends c = file_long

pub returns-clause-limits : goal.returns-clause-limits
returns-clause-limits c = λ source bytes bss program. (program_limit source bytes bss program, bss_limit source bytes bss program)
