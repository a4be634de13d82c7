use Rattle.std.proofs.Common.{◌≡◌, ℕ, ◌≤◌, List, [], ◌∷◌, length, refl, sym, ap, ◌∙◌, arith}
use Rattle.frame_state.specs.Frame.{Frame}
use Rattle.page_model.specs.PageBytes.{zeros}
use Rattle.kernel_tables.specs.declared.fill.DueFill.{DueFill}
use Rattle.kernel_tables.specs.Due.{first_bytes}
use Rattle.kernel_tables.proofs.fill.fill_frame.Goals as goal

-- with nothing due the frame has zeros
none_bytes : (ds : List DueFill) → length ds ≤ 0 → first_bytes ds ≡ zeros
none_bytes [] l = refl
none_bytes (d ∷ ds) l = absurd (omega arith)

pub returns-in-None : goal.returns-in-None
unfolding zeros
returns-in-None c =
    c.zeroed-in-None.ensures ∙ ap (λ (bytes : List ℕ). let f : Frame = record { number = c.args.token.number; bytes = bytes } in f) (sym (none_bytes c.args.fills.now.items c.in-None.ensures.item.3))
