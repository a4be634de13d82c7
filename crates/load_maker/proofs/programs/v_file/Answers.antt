-- The source is good.
use Rattle.std.proofs.Common.{List, ℕ, sym, ◌∙◌, subst}
use Rattle.vax_asm.specs.Program.{IsProgramOf}
use Rattle.load_maker.specs.Programs.{v_bytes}
use Rattle.load_maker.specs.Load.{v_bss, HasNoBadLine}
use Rattle.load_maker.proofs.Assembled.{v_program}
use Rattle.load_maker.proofs.programs.v_file.Goals as goal

pub file_from-requires : goal.file_from-requires
file_from-requires c =
    subst HasNoBadLine (sym (c.as_str.ensures.value ∙ c.in_ok-source.ensures))
    (record { bytes = v_bytes c.args.pages; bss = (v_bss c.args.pages); program = v_program c.args.pages c.requires.0 c.requires.1 })

pub returns : goal.returns
returns c =
    c.file_from.ensures (v_bytes c.args.pages) (v_bss c.args.pages)
    (subst (λ (s : List ℕ). IsProgramOf s (v_bytes c.args.pages) (v_bss c.args.pages)) (sym (c.as_str.ensures.value ∙ c.in_ok-source.ensures)) (v_program c.args.pages c.requires.0 c.requires.1))
