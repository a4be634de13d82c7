use Rattle.std.proofs.Common.{ℕ, [], ◌∷◌, ◌++◌, take, drop, refl, ap, ◌∙◌}
use Rattle.std.specs.Prelude.{flat_map}
use Rattle.aout_image.specs.Image.{word_bytes}
use Rattle.kernel_tables.proofs.UPages.{made}
use Rattle.kernel_tables.proofs.u_pages.u_page.Goals as goal

pub returns-clause-page : goal.returns-clause-page
returns-clause-page c =
    made c.args.regs.now c.args.data_pages c.args.stack_pages _ c.put_words.new.page c.put_words-2.new.page c.are_registers.ensures.count refl c.put_words.ensures
    (c.put_words-2.ensures ∙ ap (λ (n : ℕ). take 64 c.put_words.new.page ++ flat_map word_bytes (n ∷ c.args.data_pages ∷ c.args.stack_pages ∷ []) ++ drop 76 c.put_words.new.page) c.codes.ensures)
