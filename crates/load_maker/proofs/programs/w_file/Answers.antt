-- The source is good.
use Rattle.std.proofs.Common.{List, ℕ, sym, ◌∙◌, subst}
use Rattle.vax_asm.specs.Program.{IsProgramOf}
use Rattle.load_maker.specs.Programs.{w_bytes}
use Rattle.load_maker.specs.Load.{w_bss, HasNoBadLine}
use Rattle.load_maker.proofs.Assembled.{w_program}
use Rattle.load_maker.proofs.programs.w_file.Goals as goal

pub file_from-requires : goal.file_from-requires
file_from-requires c =
    subst HasNoBadLine (sym (c.as_str.ensures.value ∙ c.in_ok-source.ensures))
    (record { bytes = w_bytes c.args.pages; bss = w_bss; program = w_program c.args.pages c.requires.0 c.requires.1 })

pub returns : goal.returns
returns c =
    c.file_from.ensures (w_bytes c.args.pages) w_bss
    (subst (λ (s : List ℕ). IsProgramOf s (w_bytes c.args.pages) w_bss) (sym (c.as_str.ensures.value ∙ c.in_ok-source.ensures)) (w_program c.args.pages c.requires.0 c.requires.1))
