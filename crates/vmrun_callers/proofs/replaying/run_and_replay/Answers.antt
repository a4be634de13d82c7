use Rattle.std.proofs.Common.{◌≡◌, ◌*◌, ◌∙◌, ℕ, List, [], ◌∷◌, ◌++◌, Option, Some, Bor, Global, map, take, ap, subst}
use Rattle.vm_facts.specs.SwapImages.{SwapImage, unnoted}
use Rattle.io_edge.specs.FileHolding.{NamedFile, named_file}
use Rattle.io_edge.specs.Zeros.{with_zeros}
use Rattle.command_words.specs.Asked.{asked_of}
use Rattle.vm_run.specs.InMemory.{DoesInMemory}
use Rattle.vmrun_callers.specs.Replayed.{replay_words}
use Rattle.vmrun_callers.proofs.Replays.{run_replayed}
use Rattle.vmrun_callers.proofs.replaying.run_and_replay.Goals as goal

-- the second call has the words of the replay, and the files with the text after them
pub returns-clause-replayed : goal.returns-clause-replayed
returns-clause-replayed c =
    let words = map (λ (word : Bor (List ℕ)). word.now) c.args.words.now in
    let files : List NamedFile = map (named_file {A = Global} {B = Global}) c.args.files.items in
    let name = c.args.transcript.now in
    let text = c.written.result.now in
    let run = c.in_ok-run.run' in
    let replay = c.in_ok-replay.replay in
    let zero : Option SwapImage = Some (unnoted (with_zeros (512 * replay.zero.blocks) replay.zero.written.items)) in
    let one : Option SwapImage = Some (unnoted (with_zeros (512 * replay.one.blocks) replay.one.written.items)) in
    let after : Option (List ℕ) = Some (take replay.output.len replay.output.room.items) in
    let asked : map (λ (word : Bor (List ℕ)). word.now) c.as_slice-2.result.now ≡ replay_words name (asked_of words)
    = ap (map (λ (word : Bor (List ℕ)). word.now)) c.as_slice-2.ensures.value ∙ c.in_ok-asked.ensures in
    let beside : map (named_file {A = Global} {B = Global}) c.in_ok-beside.beside.items ≡ files ++ record { name = name; bytes = text } ∷ []
    = c.in_ok-beside.ensures.files
    ∙ ap (λ (fs : List NamedFile). fs ++ record { name = name; bytes = text } ∷ []) (c.in_ok-copies.ensures ∙ ap (map (named_file {A = Global} {B = Global})) c.as_slice.ensures.value) in
    run_replayed words files c.args.zero_blocks c.args.one_blocks
    (Some (unnoted (with_zeros (512 * run.zero.blocks) run.zero.written.items))) (Some (unnoted (with_zeros (512 * run.one.blocks) run.one.written.items)))
    (Some (take run.output.len run.output.room.items)) run.output.faults run.status name text zero one after replay.output.faults replay.status
    c.requires.plain c.requires.name c.requires.new c.in_ok-run.ensures.does c.written.ensures
    (subst (λ (ws : List (List ℕ)). DoesInMemory (asked_of ws) (files ++ record { name = name; bytes = text } ∷ []) 0 0 zero one after replay.output.faults replay.status) asked
    (subst (λ (fs : List NamedFile). DoesInMemory (asked_of (map (λ (word : Bor (List ℕ)). word.now) c.as_slice-2.result.now)) fs 0 0 zero one after replay.output.faults replay.status) beside
    c.in_ok-replay.ensures.does))
