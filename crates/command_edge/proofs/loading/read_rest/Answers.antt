use Rattle.std.proofs.Common.{◌≡◌, ◌≤◌, ◌-◌, ◌∙◌, ℕ, length, ap, arith}
use Rattle.std.specs.Prelude.{is_ok, vec_len}
use Rattle.io_edge.specs.FileRequests.{after_requests}
use Rattle.io_edge.specs.Transfer.{range_asked}
use Rattle.command_edge.proofs.Fronts.{head_kept, at_least}
use Rattle.command_edge.proofs.ImageReads.{resized_long}
use Rattle.command_edge.proofs.loading.read_rest.Goals as goal

pub returns-clause-head : goal.returns-clause-head
returns-clause-head g c =
    let long : 32 ≤ vec_len c.resize.new.self
    = at_least (is_ok c.resize.result) (vec_len c.resize.new.self) c.args.len (vec_len c.args.head) c.resize.ensures.len c.requires.above (omega (arith, c.requires.head, c.args.head.ok.0)) in
    head_kept c.resize.result _ c.args.len c.resize.new.self.len c.args.head.items _ c.resize.new.self.items c.as_mut_slice.result.now c.read_behind.new.bytes _
    c.in_ok-resize.was c.resize.ensures.items c.requires.head c.requires.above c.as_mut_slice.ensures.value c.read_behind.ensures.head
    long (omega (arith, c.read_behind.auto.bytes, c.as_mut_slice.ensures.len, long))

pub returns-clause-noted : goal.returns-clause-noted
returns-clause-noted g c =
    let long : vec_len c.resize.new.self ≡ c.args.len = resized_long c.resize.result _ (vec_len c.resize.new.self) c.args.len (vec_len c.args.head) c.in_ok-resize.was c.resize.ensures.len in
    let many : length c.as_mut_slice.result.now ≡ c.args.len = omega (arith, c.as_mut_slice.ensures.len, long) in
    c.read_behind.ensures.notes ∙ ap (λ (n : ℕ). after_requests (range_asked c.args.id 32 (n - 32)) (g.F.Files.notes c.args.files.now)) many
