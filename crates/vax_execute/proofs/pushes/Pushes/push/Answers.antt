use Rattle.std.proofs.Common.{◌∙◌, ◌+◌, ◌<◌, ℕ, List, length, rules}
use Rattle.std.specs.Prelude.{slice_index}
use Rattle.std.proofs.lemmas.List.{get_or-set_same}
use Rattle.user_vax.specs.Operands.{back}
use Rattle.vax_execute.proofs.Pushing.{lowest_more}
use Rattle.vax_execute.proofs.pushes.Pushes.push.Goals as goal

pub returns-clause-place : goal.returns-clause-place
returns-clause-place c =
    let registers : List ℕ = c.args.regs.now.r in
    let p = c.args.self.now in
    let sixteen : 14 < length registers = search rules in
    let within : p.frame_length + 1 < length p.longwords = search rules in
    get_or-set_same registers 14 (back (slice_index registers 14) 4) 0 sixteen
    ∙ lowest_more p.longwords p.top p.frame_length c.args.value (slice_index registers 14) within c.requires.place
