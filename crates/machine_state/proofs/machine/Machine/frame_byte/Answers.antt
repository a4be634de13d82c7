use Rattle.std.proofs.Common.{ℕ, List, sym, ap, ◌∙◌, subst}
use Rattle.std.specs.Prelude.{slice_index}
use Rattle.kernel_model.specs.Kernel.{frame_bytes}
use Rattle.table_steps.specs.Tables.{Tables}
use Rattle.table_steps.specs.Known.{Known}
use Rattle.table_steps.specs.Machine.{Standing, lists_of}
use Rattle.table_steps.specs.UserMemory.{IsHeld}
use Rattle.machine_state.proofs.Standings.{stands_now}
use Rattle.table_steps.proofs.UserFrames.{known_by, held_resident, held_bytes}
use Rattle.machine_state.proofs.machine.Machine.frame_byte.Goals as goal

pub bytes-requires : goal.bytes-requires
bytes-requires c =
    let t : Tables = c.self.inside.tables in
    let now = stands_now c.self.inside c.args.self.now c.self.invariant c.self.view_is c.requires.running in
    let k : Known (lists_of t) = known_by t c.self.inside.journal.items c.self.inside.stopped c.stands.ensures now.stands in
    held_resident (lists_of t) c.args.frame k (subst (λ (s : Standing). IsHeld s.kernel.place c.args.frame) (sym c.self.view_is) c.requires.held)

pub returns : goal.returns
returns c =
    let t : Tables = c.self.inside.tables in
    let now = stands_now c.self.inside c.args.self.now c.self.invariant c.self.view_is c.requires.running in
    let k : Known (lists_of t) = known_by t c.self.inside.journal.items c.self.inside.stopped c.stands.ensures now.stands in
    ap (λ (bs : List ℕ). slice_index bs c.args.at)
    (c.bytes.ensures.value ∙ held_bytes (lists_of t) c.args.frame k (subst (λ (s : Standing). IsHeld s.kernel.place c.args.frame) (sym c.self.view_is) c.requires.held))
    ∙ ap (λ (s : Standing). slice_index (frame_bytes s.kernel c.args.frame) c.args.at) c.self.view_is
