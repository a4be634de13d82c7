-- What is found in files, and what isn't: each thing that is found is not also missing.
use Rattle.std.proofs.Common.{◌≡◌, ℕ, ◌+◌, ◌≤◌, List, [], ◌∷◌, ◌++◌, length, Result, Ok, Err, sym, ◌∙◌, subst, arith}
use Rattle.vm_facts.specs.declared.event.Event.{Event}
use Rattle.flat_state.specs.Flat.{NamedImage}
use Rattle.command_edge.specs.declared.answers.Unread.{Unread}
use Rattle.run_text.specs.Lines.{AreLines}
use Rattle.run_text.specs.Schedule.{IsEventLine}
use Rattle.command_edge.specs.Named.{Why}
use Rattle.run_opening.specs.Schedules.{HasEvents, HasBadEvent}
use Rattle.run_opening.specs.Opening.{FoundFiles, HasAll, FailsAtImage}

-- each line of items is that of one of them
line_among : {E : Type 0} (IsLine : E → List ℕ → Type 0) (items : List E) (before : List (List ℕ)) (line : List ℕ) (after : List (List ℕ))
    → AreLines IsLine items (before ++ line ∷ after)
    → (e : E) × IsLine e line × (length before + 1 ≤ length items)
line_among IsLine [] [] line after h = absurd h
line_among IsLine (e ∷ es) [] line after h = (e, h.0, omega arith)
line_among IsLine [] (l ∷ ls) line after h = absurd h
line_among IsLine (e ∷ es) (l ∷ ls) line after h = let found = line_among IsLine es ls line after h.1 in (found.0, found.1, (let more = found.2 in omega arith))

-- a schedule that has events has no bad line
pub no_bad_event : (found : Result (List ℕ) Unread) (events : List Event) (line : ℕ) → HasEvents found events → HasBadEvent found line → ⊥
no_bad_event (Ok bytes) events line h bad =
    let among = line_among IsEventLine events bad.before bad.bad bad.after (subst (AreLines IsEventLine events) bad.split h.0) in
    bad.none (let number = bad.number in let most = h.1 in let few = among.2 in omega arith) among.0 among.1
no_bad_event (Err unread) events line h bad = h

pub no_absent : (found : Result (List ℕ) Unread) (events : List Event) (unread : Unread) → HasEvents found events → found ≡ Err unread → ⊥
no_absent found events unread h is = subst (λ (f : Result (List ℕ) Unread). HasEvents f events) is h

pub no_failed_image : (found : FoundFiles) (why : Why) → HasAll found → FailsAtImage found why → ⊥
no_failed_image found why all fails =
    let same : (let r : Result (List NamedImage) Why = Ok all.1.0 in r) ≡ Err why = sym all.1.1 ∙ fails.1 in
    cc
