use Rattle.std.proofs.Common.{◌≡◌, ◌*◌, ◌∙◌, ℕ, List, Option, Some, Bor, map, refl, subst}
use Rattle.vm_facts.specs.SwapImages.{SwapImage, unnoted}
use Rattle.io_edge.specs.FileHolding.{NamedFile, named_file}
use Rattle.io_edge.specs.Octets.{AreOctetFiles}
use Rattle.io_edge.specs.Zeros.{with_zeros}
use Rattle.command_words.specs.Asked.{Asked, request_of, asked_of}
use Rattle.question_command.specs.Seen.{Seen}
use Rattle.question_command.specs.Paired.{image_together}
use Rattle.question_command.specs.Answering.{blank_swap}
use Rattle.vm_run.specs.Obeying.{Obeys}
use Rattle.vm_run.specs.InMemory.{blank_pair, seen_of}
use Rattle.vm_run.proofs.Telling.{obeys_told, same_seen, together, headline_told}
use Rattle.vm_run.proofs.in_memory.vmrun_in_memory.Goals as goal

pub returns-clause-does : goal.returns-clause-does
returns-clause-does c =
    let asked : Option Asked = asked_of (map (λ (word : Bor (List ℕ)). word.now) c.args.words.now) in
    let files : List NamedFile = map named_file c.args.files.items in
    let zero : Option SwapImage = Some (unnoted (with_zeros (512 * c.vmrun-status.new.zero.blocks) c.vmrun-status.new.zero.written.items)) in
    let one : Option SwapImage = Some (unnoted (with_zeros (512 * c.vmrun-status.new.one.blocks) c.vmrun-status.new.one.written.items)) in
    let before = together c.in_ok-zero.zero.blocks c.in_ok-one.one.blocks c.args.zero_blocks c.args.one_blocks _ _ (Some (blank_swap c.args.zero_blocks))
    (Some (blank_swap c.args.one_blocks)) c.in_ok-zero.ensures.blocks c.in_ok-one.ensures.blocks c.in_ok-zero.ensures.zeros c.in_ok-one.ensures.zeros in
    let after = together c.vmrun-status.new.zero.blocks c.vmrun-status.new.one.blocks c.args.zero_blocks c.args.one_blocks zero one zero one
    (c.vmrun-status.ensures.kept.devices.zero.blocks ∙ c.in_ok-zero.ensures.blocks) (c.vmrun-status.ensures.kept.devices.one.blocks ∙ c.in_ok-one.ensures.blocks) refl refl in
    let seen = same_seen _ files _ _ c.args.zero_blocks c.args.one_blocks _ _ (image_together c.args.zero_blocks c.args.one_blocks zero one) _ _ _ _ c.new-files.ensures c.in_ok-zero.ensures.blocks
    c.in_ok-one.ensures.blocks before after c.in_ok-output.ensures.written c.in_ok-output.ensures.faults in
    let octets : AreOctetFiles files = subst (λ xs. AreOctetFiles (map named_file xs)) c.as_slice.ensures.value c.are_octet_files.ensures in
    obeys_told asked _ files (blank_pair c.args.zero_blocks c.args.one_blocks) c.vmrun-status.result refl octets refl
    (subst (λ (s : Seen). Obeys asked s c.vmrun-status.result) seen c.vmrun-status.ensures.obeys)

pub returns-clause-headline : goal.returns-clause-headline
returns-clause-headline c =
    let files : List NamedFile = map named_file c.args.files.items in
    let octets : AreOctetFiles files = subst (λ xs. AreOctetFiles (map named_file xs)) c.as_slice.ensures.value c.are_octet_files.ensures in
    headline_told (request_of (map (λ (word : Bor (List ℕ)). word.now) c.args.words.now)) _ files _ _ _ _ _ _ c.args.zero_blocks c.args.one_blocks _ _ _ _
    c.vmrun-status.result c.new-files.ensures octets c.in_ok-zero.ensures.zeros c.in_ok-one.ensures.zeros c.in_ok-zero.ensures.blocks c.in_ok-one.ensures.blocks
    c.in_ok-output.ensures.written c.in_ok-output.ensures.faults c.vmrun-status.ensures.headline
