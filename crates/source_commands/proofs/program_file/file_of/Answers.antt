use Rattle.std.proofs.Common.{List, ℕ, ◌++◌, ◌∙◌, ap, arith}
use Rattle.std.specs.Prelude.{length, vec_len}
use Rattle.source_commands.proofs.Padding.{program_file_is, whole_pages}
use Rattle.source_commands.proofs.program_file.file_of.Goals as goal

pub returns : goal.returns
returns c =
    program_file_is c.args.program.now.bytes.items c.in_ok-file.file.items c.resize.new.self.items c.extend_from_slice.new.self.items c.resize-2.new.self.items
    c.args.program.now.bss c.div_ceil-text_len.result (vec_len c.in_ok-file.file) (vec_len c.extend_from_slice.new.self)
    (whole_pages (length c.args.program.now.bytes.items) c.max.result c.div_ceil-text_len.result (omega (arith, c.max.ensures, c.len.ensures, c.args.program.now.bytes.ok.0))
    c.div_ceil-text_len.ensures)
    (c.in_ok-file.ensures.items ∙ c.write_image.ensures.header) c.in_ok-file.file.ok.0 c.in_ok-resize.ensures.items
    (c.in_ok-extend_from_slice.ensures.items ∙ ap (λ (xs : List ℕ). c.resize.new.self.items ++ xs) c.as_slice.ensures.value)
    c.extend_from_slice.new.self.ok.0 c.in_ok-resize-2.ensures.items
