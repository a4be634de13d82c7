use Rattle.std.proofs.Common.{ℕ, List, Some, Bor, map, take}
use Rattle.io_edge.specs.FileHolding.{named_file}
use Rattle.command_words.specs.Asked.{request_of}
use Rattle.vmrun_callers.proofs.Finished.{paging_is_unseen}
use Rattle.vmrun_callers.proofs.unseen.two_runs.Goals as goal

pub returns-clause-unseen : goal.returns-clause-unseen
returns-clause-unseen c =
    let first = c.in_ok-first.first in
    let second = c.in_ok-second.second in
    paging_is_unseen
    (request_of (map (λ (word : Bor (List ℕ)). word.now) c.args.one.words.now)) (map named_file c.args.one.files.items) c.args.one.zero_blocks c.args.one.one_blocks
    (Some (take first.output.len first.output.room.items)) first.output.faults first.status
    (request_of (map (λ (word : Bor (List ℕ)). word.now) c.args.other.words.now)) (map named_file c.args.other.files.items) c.args.other.zero_blocks c.args.other.one_blocks
    (Some (take second.output.len second.output.room.items)) second.output.faults second.status
    c.in_ok-first.ensures.headline c.in_ok-second.ensures.headline
