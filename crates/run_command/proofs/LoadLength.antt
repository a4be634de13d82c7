-- The journal of a load is far from its bound: its schedule has 200 lines, each of which asks for 16 moves of the hands at most.
use Rattle.std.proofs.Common.{◌≡◌, ℕ, ◌+◌, ◌*◌, ◌≤◌, ◌==◌, Bool, true, false, nat_lt, if◌then◌else◌, List, [], ◌∷◌, length, map, Option, Some, Ok, Err, sym, ◌∙◌, arith}
use Rattle.std.specs.List.{range_with_len}
use Rattle.std.proofs.lemmas.List.{length-map}
use Rattle.std.proofs.lemmas.List.FromFn.{length-map-range_with_len}
use Rattle.vm_facts.specs.SwapImages.{SwapImage}
use Rattle.vm_facts.specs.declared.entry.Entry.{Entry}
use Rattle.vm_facts.specs.declared.event.Event.{Event}
use Rattle.vm_facts.specs.declared.event.Event.TheVariants.{Dispatch, Interrupt, Hands, Swapper, Audit}
use Rattle.vm_facts.specs.declared.stop.Stop.TheVariants as stops
use Rattle.vm_core.specs.Lawful.{IsJournalOf, RunHalted}
use Rattle.command_edge.specs.declared.fault.Fault.TheVariants as faults
use Rattle.command_edge.specs.Command.{Writes, All, Prefix}
use Rattle.load_maker.specs.Load.{line_of_case, line_drawn, drawn, load_lines}
use Rattle.load_maker.specs.Few.{moves_asked}
use Rattle.load_maker.proofs.Short.{loads_short}
use Rattle.run_command.specs.Machines.{journal_entries}
use Rattle.io_edge.specs.FileRequests.{no_notes}
use Rattle.io_edge.specs.WithFiles.{image_with_files, with_files}
use Rattle.run_command.specs.Seen.{Seen}
use Rattle.run_command.specs.Ends.{RunEnding, run_status}
use Rattle.run_command.specs.Loads.{load_inputs, load_written, IsLoadCaused, LoadEnded, LoadTold}
use Rattle.run_command.proofs.Counted.{is_load}

-- the lines of its schedule
pub line_count : (number : ℕ) → length (load_lines number) ≡ 200
unfolding load_lines
line_count number = length-map-range_with_len (λ (k : ℕ). line_drawn (drawn number k)) 1 200

case_moves : (q : ℕ) (more : List Event) → moves_asked (line_of_case q ∷ more) ≤ 16 + moves_asked more
case_moves q more = go (nat_lt q 8) (nat_lt q 12) (nat_lt q 14) (q == 14)
  where
    go : (a b c d : Bool)
        → moves_asked ((if a then Dispatch (q + 1) 50 else (if b then Interrupt else (if c then Hands 16 else (if d then Swapper else Audit)))) ∷ more) ≤ 16 + moves_asked more
    go true b c d = omega arith
    go false true c d = omega arith
    go false false true d = omega arith
    go false false false true = omega arith
    go false false false false = omega arith

drawn_moves : (number : ℕ) (ks : List ℕ) → moves_asked (map (λ k. line_drawn (drawn number k)) ks) ≤ 16 * length ks
drawn_moves number [] = omega arith
drawn_moves number (k ∷ ks) =
    let a = case_moves (Rattle.std.specs.Prelude.◌%◌ (Rattle.std.specs.Prelude.◌/◌ (drawn number k) 65536) 16) (map (λ k. line_drawn (drawn number k)) ks) in
    let b = drawn_moves number ks in
    omega (arith, a, b)

few_moves : (number : ℕ) → moves_asked (load_lines number) ≤ 3200
unfolding load_lines
few_moves number =
    let a = drawn_moves number (range_with_len 1 200) in
    let b = length-map (range_with_len 1 200) (λ k. line_drawn (drawn number k)) in
    let c = line_count number in
    omega (arith, a, b, c)

-- a run of a load never fills its journal
never_full : (number : ℕ) (seen : Seen) (journal : List Entry) (image : SwapImage) (after : Option SwapImage) → IsLoadCaused seen journal
    (Err faults.JournalFull)
    → LoadEnded number seen journal image after (Err faults.JournalFull) → ⊥
never_full number seen journal image after caused ended =
    let h : RunHalted (load_inputs number) journal stops.JournalFull image after = ended in
    let m : IsJournalOf (load_inputs number) journal h.state = h.made in
    let k = loads_short number (load_inputs number) m.holdings journal h.state (is_load number) m.can
    (record { holdings = m.holdings; found = (let can = m.can in can.pieces); units = m.units; follows = m.follows; joined = m.joined }) in
    let full : length journal ≡ journal_entries = (caused.0).1 in
    let lines = line_count number in
    let moves = few_moves number in
    absurd (omega (arith, k, full, lines, moves))

ending_fits : (number : ℕ) (seen : Seen) (journal : List Entry) (image : SwapImage) (after : Option SwapImage) (ending : RunEnding) → IsLoadCaused seen
    journal ending
    → LoadEnded number seen journal image after ending → 10 ≡ run_status ending → ⊥
ending_fits number seen journal image after (Ok done) caused ended e = absurd cc
ending_fits number seen journal image after (Err faults.JournalFull) caused ended e = never_full number seen journal image after caused ended
ending_fits number seen journal image after (Err _) caused ended e = absurd cc

-- so its status is never 10
pub load_fits : (number : ℕ) (seen : Seen) (status : ℕ) (journal : List Entry) (ending : RunEnding)
    → Writes seen.written_before seen.written_after seen.sink_faults_before seen.sink_faults_after (load_written number journal ending)
    (run_status ending) status
    → IsLoadCaused seen journal ending
    → LoadTold number seen journal ending
    → (image : SwapImage) → seen.swap_before ≡ Some image → status ≡ 10 → ⊥
load_fits number seen status journal ending (All e w same) caused told image is ten = ending_fits number seen journal (image_with_files no_notes image)
    (with_files no_notes seen.swap_after) ending caused (told image is) (sym ten ∙ e)
load_fits number seen status journal ending (Prefix e w rose) caused told image is ten = absurd (let z = sym ten ∙ e in cc)
