use Rattle.std.proofs.Common.{◌∙◌, ◌-◌, ℕ, length, drop, ap, arith}
use Rattle.std.proofs.lemmas.List.{length-drop, length-take-le}
use Rattle.std.proofs.lemmas.Slice.{take-put_mid_below}
use Rattle.io_edge.specs.FileRequests.{after_requests}
use Rattle.io_edge.specs.Transfer.{range_asked}
use Rattle.command_edge.proofs.Fronts.{holds_behind}
use Rattle.command_edge.proofs.loading.read_behind.Goals as goal

pub returns-clause-head : goal.returns-clause-head
returns-clause-head g c = take-put_mid_below 32 _ _ _ 32 (omega arith) c.requires.above

pub returns-clause-rest : goal.returns-clause-rest
returns-clause-rest g c = holds_behind c.read_range.result (g.F.Files.holds c.args.files.now) c.args.id c.args.bytes.now c.read_range.new.buf c.requires.above
    (c.read_range.auto.buf ∙ length-take-le (length c.args.bytes.now - 32) (drop 32 c.args.bytes.now) (omega (arith, length-drop 32 c.args.bytes.now))) c.read_range.ensures.done

pub returns-clause-notes : goal.returns-clause-notes
returns-clause-notes g c =
    c.read_range.ensures.notes
    ∙ ap (λ (n : ℕ). after_requests (range_asked c.args.id 32 n) (g.F.Files.notes c.args.files.now))
    (length-take-le (length c.args.bytes.now - 32) (drop 32 c.args.bytes.now) (omega (arith, length-drop 32 c.args.bytes.now)))
