use Rattle.std.proofs.Common.{ℕ, Some, option_map, ap, ◌∙◌}
use Rattle.space_map.specs.Space.{Places}
use Rattle.kernel_tables.proofs.Rising.{found_image}
use Rattle.kernel_tables.proofs.spaces.Spaces.image_of.Goals as goal

pub returns-in_err-find : goal.returns-in_err-find
returns-in_err-find c = c.from_residual.ensures ∙ ap (option_map (λ (s : Places). s.image)) c.in_err-find.ensures ∙ found_image c.args.self.now c.args.sid

pub returns : goal.returns
returns c =
    ap (λ (n : ℕ). Some n) c.image.ensures ∙ ap (option_map (λ (s : Places). s.image)) c.in_ok-find.ensures ∙ found_image c.args.self.now c.args.sid
