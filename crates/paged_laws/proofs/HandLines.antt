-- A line of moves of the hands may be told by the lines of their parts.
use Rattle.std.proofs.Common.{◌≡◌, ℕ, zero, suc, ◌+◌, List, [], ◌∷◌, map, Option, None, refl, sym, ap, ◌∙◌, subst}
use Rattle.vm_facts.specs.declared.page.Page.{Page}
use Rattle.vm_facts.specs.declared.entry.Entry.{Entry}
use Rattle.vm_facts.specs.declared.entry.Entry.TheVariants as entries
use Rattle.flat_state.specs.Flat.{Inputs}
use Rattle.flat_state.specs.Journal.{repeated}
use Rattle.page_model.specs.Placement.{Placement}
use Rattle.page_model.specs.Runs.{Run}
use Rattle.page_model.specs.Hands.{hand_run, wants_moves, advance}
use Rattle.page_model.specs.Ownership.{OwnsFrames, OneOwner}
use Rattle.kernel_model.specs.Sound.{Sound, lives}
use Rattle.kernel_model.specs.Start.{ImagesFit}
use Rattle.kernel_model.specs.declared.part.HandPart.{HandPart}
use Rattle.kernel_model.specs.HandParts.{PartsCome, part_place, parts_place}
use Rattle.kernel_model.specs.HandMoves.{move_parts}
use Rattle.kernel_laws.proofs.PartMoves.{place_append, come_append, move_place, move_come}
use Rattle.kernel_laws.proofs.OtherHands.{at_hands, parts_hands, come_hands}
use Rattle.run_model.specs.State.{State}
use Rattle.run_model.specs.Wanted.{locked}
use Rattle.run_model.specs.After.{after}
use Rattle.run_laws.specs.Standing.{machine_of, Placed}
use Rattle.paged_model.specs.declared.line.Line.TheVariants as lines
use Rattle.paged_model.specs.declared.reason.Reason.TheVariants as reasons
use Rattle.paged_model.specs.Reasons.{unless, or_reason}
use Rattle.paged_model.specs.Moves.{write_room, hand_reason}
use Rattle.paged_model.specs.Steps.{begun}
use Rattle.paged_model.specs.Parts.{part_reason}
use Rattle.paged_model.specs.Runs.{paged_after, paged_state, unit_reason, units_reason, line_reason, line_after}
use Rattle.paged_model.specs.Traces.{trace_state, trace_misstep, moves_parts, with_hands}
use Rattle.paged_model.proofs.Brought.{room_left}
use Rattle.paged_model.proofs.PartReasons.{part_none}
use Rattle.paged_model.proofs.Reasoned.{or_none, none_or, line_good}
use Rattle.paged_laws.specs.Paged.{Steady, IsPaged}
use Rattle.paged_laws.proofs.Awaiting.{unit_paged}

-- Lines of parts.

parts_good : (A : Inputs) (s : State) (n : ℕ) (xs : List HandPart) → begun s.point.last ≡ None → PartsCome s.place xs
    → trace_misstep A s n (map lines.Part xs) ≡ None
unfolding trace_misstep
parts_good A s n [] b c = refl
parts_good A s n (x ∷ xs) b c =
    let next : State = record s { place = part_place s.place x } in
    line_good n (or_reason (begun s.point.last) (part_reason s.place x)) (trace_misstep A next (n + 1) (map lines.Part xs))
    (none_or (begun s.point.last) (part_reason s.place x) b (part_none s.place x c.0))
    ∙ parts_good A next (n + 1) xs b c.1

parts_lead : (A : Inputs) (s : State) (xs : List HandPart) → trace_state A s (map lines.Part xs) ≡ record s { place = parts_place s.place xs }
unfolding trace_state
parts_lead A s [] = refl
parts_lead A s (x ∷ xs) = parts_lead A (record s { place = part_place s.place x }) xs

-- One move.

hand_place : (A : Inputs) (s : State) → (paged_after A s (entries.Hands 1)).place ≡ advance (parts_place s.place (move_parts s.place (locked A s)))
unfolding after
hand_place A s = sym (move_place s.place (locked A s))

owns_of : (A : Inputs) (s : State) → IsPaged A s → OwnsFrames s.place
owns_of A s x =
    let t : Steady A s = x.steady in
    let p : Placed A s.point.flat s.place s.holdings = t.placed in
    let so : Sound A.swap_blocks (machine_of s.point.flat s.place s.holdings) = p.sound in
    let o : OneOwner A.swap_blocks (lives (machine_of s.point.flat s.place s.holdings).processes) s.place s.holdings = so.owner in
    o.frames

one_comes : (A : Inputs) (s : State) → IsPaged A s → hand_reason s.place (locked A s) ≡ None → PartsCome s.place (move_parts s.place (locked A s))
one_comes A s x e =
    let o = or_none (unless (wants_moves s.place) reasons.EnoughFree) (write_room s.place (hand_run s.place (locked A s))) e in
    move_come s.place (locked A s) (owns_of A s x) (λ w h. room_left s.place (subst (λ (r : Option (Page × Run)). write_room s.place r ≡ None) h o.1))

-- Several.

-- parts that may come where the hands stand at these frames, and what they lead to
record Told (f b : ℕ) (p q : Placement) (xs : List HandPart) : Type 0 where
  come : PartsCome (at_hands f b p) xs
  place : parts_place (at_hands f b p) xs ≡ at_hands f b q

moves_told : (A : Inputs) (f b : ℕ) (s : State) (n : ℕ) → ImagesFit A.images → IsPaged A s → units_reason A s (repeated (entries.Hands 1) n []) ≡ None
    → Told f b s.place (paged_state A s (repeated (entries.Hands 1) n [])).place (moves_parts A s n)
unfolding units_reason paged_state unit_reason
moves_told A f b s zero images x e = record { come = tt; place = refl }
moves_told A f b s (suc n) images x e =
    let next : State = paged_after A s (entries.Hands 1) in
    let us : List Entry = repeated (entries.Hands 1) n [] in
    let xs : List HandPart = move_parts s.place (locked A s) in
    let ys : List HandPart = moves_parts A next n in
    let o = or_none (unit_reason A s (entries.Hands 1)) (units_reason A next us) e in
    let r = or_none (begun s.point.last) (hand_reason s.place (locked A s)) o.0 in
    let t : Told f b next.place (paged_state A next us).place ys = moves_told A f b next n images (unit_paged A s (entries.Hands 1) images refl x o.0) o.1 in
    let on : parts_place (at_hands f b s.place) xs ≡ at_hands f b next.place =
    parts_hands f b s.place xs ∙ sym (ap (at_hands f b) (hand_place A s)) in
    record {
      come = come_append (at_hands f b s.place) xs ys (come_hands f b s.place xs (one_comes A s x r.1)) (subst (λ (p : Placement). PartsCome p ys) (sym on) t.come);
      place = place_append (at_hands f b s.place) xs ys ∙ ap (λ (p : Placement). parts_place p ys) on ∙ t.place;
    }

-- Of a line.

pub hands_good : (A : Inputs) (s : State) (n k : ℕ) → ImagesFit A.images → IsPaged A s → line_reason A s (entries.Hands n) ≡ None
    → trace_misstep A s k (map lines.Part (moves_parts A s n)) ≡ None
unfolding trace_misstep units_reason unit_reason
hands_good A s zero k images x e = refl
hands_good A s (suc n) k images x e =
    let t : Told s.place.front s.place.back s.place (line_after A s (entries.Hands (suc n))).place (moves_parts A s (suc n)) =
    moves_told A s.place.front s.place.back s (suc n) images x e in
    let o = or_none (unit_reason A s (entries.Hands 1)) (units_reason A (paged_after A s (entries.Hands 1)) (repeated (entries.Hands 1) n [])) e in
    let r = or_none (begun s.point.last) (hand_reason s.place (locked A s)) o.0 in
    parts_good A s k (moves_parts A s (suc n)) r.0 t.come

pub hands_place : (A : Inputs) (s : State) (n : ℕ) → ImagesFit A.images → IsPaged A s → line_reason A s (entries.Hands n) ≡ None
    → trace_state A s (map lines.Part (moves_parts A s n)) ≡ record s { place = with_hands s.place (line_after A s (entries.Hands n)).place }
hands_place A s n images x e =
    let t : Told s.place.front s.place.back s.place (line_after A s (entries.Hands n)).place (moves_parts A s n) =
    moves_told A s.place.front s.place.back s n images x e in
    parts_lead A s (moves_parts A s n) ∙ ap (λ (p : Placement). record s { place = p }) t.place
