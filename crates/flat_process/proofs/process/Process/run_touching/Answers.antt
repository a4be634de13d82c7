use Rattle.std.proofs.Common.{◌≡◌, rules, sym, ap, ◌∙◌}
use Rattle.flat_state.specs.Flat.{Holds, Process}
use Rattle.flat_process.proofs.Paging.{touched_held}
use Rattle.flat_process.proofs.process.Process.run_touching.Goals as goal

pub returns-clause-pages : goal.returns-clause-pages
returns-clause-pages c = λ F.
    let regs : c.args.self.now.regs ≡ c.self.inside.regs = sym (ap (λ (p : Process). p.regs) c.self.view_is) in
    let held : c.args.self.now.holding ≡ Holds c.in-Space.space = search rules in
    touched_held c.args.programs.now F c.args.self.now c.args.self.now.holding c.in-Space.space c.new-paged.result.space c.new-paged.result.pages.items c.parts-space.result.1.items
    held c.new-paged.ensures.space c.new-paged.ensures.pages
    (c.parts-space.ensures.pages ∙ c.in_ok-stepped-in-Space.ensures.pages F c.args.self.now regs)
