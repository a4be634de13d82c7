-- The pages that the process at a place touches.
use Rattle.std.proofs.Common.{◌≡◌, ℕ, Bool, true, List, Some, sym, ap, ◌∙◌}
use Rattle.flat_state.specs.Flat.{Process, FlatState, NamedImage, Inputs, process_of, ready_if, can_step}
use Rattle.flat_model.specs.Touched.{touched_in, touched_by, touched_if, touched}
use Rattle.flat_machine.specs.Machine.{process_at, IsPlace}
use Rattle.flat_machine.proofs.Lists.{process_found}

pub touched_at : (A : Inputs) (images : List NamedImage) (F : FlatState) (pid place : ℕ) → IsPlace F place → (process_at F place).pid ≡ pid
    → can_step F pid ≡ true → A.images ≡ images
    → touched_in images F (process_at F place) (process_at F place).holding ≡ touched A F pid
unfolding touched
touched_at A images F pid place at of can same =
    let found : process_of F pid ≡ Some (process_at F place) = ap (process_of F) (sym of) ∙ process_found F place at in
    sym (
    ap (touched_if A.images F) found
    ∙ ap (λ (b : Bool). touched_by b A.images F (process_at F place)) (sym (ap ready_if found) ∙ can)
    ∙ ap (λ (is : List NamedImage). touched_in is F (process_at F place) (process_at F place).holding) same
    )
