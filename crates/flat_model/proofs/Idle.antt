-- A process that can't step touches no page, and asks for no piece.
use Rattle.std.proofs.Common.{◌≡◌, ℕ, Bool, false, [], Option, Some, None, refl, ap}
use Rattle.flat_state.specs.Flat.{FlatState, Process, Inputs, process_of, ready_if, can_step}
use Rattle.flat_model.specs.Touched.{touched, touched_by, touched_if}
use Rattle.flat_model.specs.Asked.{asks, asks_by}

pub idle_touches : (A : Inputs) (F : FlatState) (pid : ℕ) → can_step F pid ≡ false → touched A F pid ≡ []
unfolding touched
idle_touches A F pid h = go (process_of F pid) h
  where
    go : (o : Option Process) → ready_if o ≡ false → touched_if A.images F o ≡ []
    go None k = refl
    go (Some p) k = ap (λ (b : Bool). touched_by b A.images F p) k

pub idle_asks : (A : Inputs) (F : FlatState) (pid : ℕ) → can_step F pid ≡ false → asks A F pid ≡ []
unfolding asks
idle_asks A F pid h = ap (λ (b : Bool). asks_by b A F pid) h
