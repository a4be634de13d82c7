-- A unit that notes the owners notes those of its state.
use Rattle.std.proofs.Common.{◌≡◌, ◌⊎◌, ℕ, Bool, true, false, ◌&&◌, List, [], ◌∷◌, Some, sym, subst, inl, inr}
use Rattle.vm_facts.specs.declared.page.Page.{Page}
use Rattle.vm_facts.specs.declared.entry.Entry.{Entry}
use Rattle.vm_facts.specs.declared.entry.Entry.TheVariants as entries
use Rattle.flat_state.specs.Flat.{Inputs, process_of}
use Rattle.page_model.specs.Place.{space_of_process}
use Rattle.page_model.specs.Placement.{Placement, Transfer}
use Rattle.page_model.specs.Serve.{force_entry, is_full, serve_entry}
use Rattle.page_laws.proofs.Swapper.PuttingOut.{unit_case}
use Rattle.page_laws.proofs.Moves.Units.{unit_is}
use Rattle.page_laws.proofs.Moves.Cases.{forcing_entry, serving_entries}
use Rattle.run_model.specs.State.{State}
use Rattle.run_model.specs.Wanted.{locked}
use Rattle.run_model.specs.Next.{fill_by, fill_unit, begins_write, move_by, move_unit, owners_of, next_unit}
use Rattle.run_model.specs.Kinds.{Kind, Fills, Brings, Copies, ServesWanted, Acts, ProcessComes, Interrupts, HandsMove, ProcessGoes, Notes, Begins}
use Rattle.run_model.proofs.NextUnits.{kind_of}
use Rattle.run_laws.proofs.Settling.{IsMark, begins_is}
use Rattle.run_laws.proofs.Flows.{Acted, Settles, Refuses, Steps, acted, steps_own}

-- it notes no owners
abbrev IsOther : Entry → Type 0
IsOther (entries.Owners free used moving held) = ⊥
IsOther e = Unit {0}

forced_other : (ts : List Transfer) → IsOther (force_entry ts)
forced_other = forcing_entry IsOther tt tt

served_other : (p : Placement) (q : Page) → IsOther (serve_entry p q)
served_other p q = serving_entries IsOther p q tt tt tt tt tt

filled_other : (p : Placement) (e : Entry) → IsOther e → IsOther (fill_unit p e)
filled_other p e h = go p.free
  where
    go : (free : List ℕ) → IsOther (fill_by p e free)
    go [] = forced_other p.transfers
    go (f ∷ fs) = h

moved_other : (p : Placement) (pages : List Page) → IsOther (move_unit p pages)
moved_other p pages = go (begins_write p pages && is_full p)
  where
    go : (b : Bool) → IsOther (move_by b)
    go true = tt
    go false = tt

mark_other : (u : Entry) → IsMark u → IsOther u
mark_other (entries.Event line) k = tt
mark_other (entries.Turn pid) k = tt
mark_other _ k = absurd k

acted_other : (A : Inputs) (s : State) (pid : ℕ) (u : Entry) → Acted A s pid u → IsOther u
acted_other A s pid u (Settles e) = subst IsOther (sym e) tt
acted_other A s pid u (Refuses e) = subst IsOther (sym e) tt
acted_other A s pid (entries.Owners free used moving held) (Steps f g e) = absurd (let own = steps_own A s.point pid (entries.Owners free used moving held) e in cc)
acted_other A s pid _ (Steps f g e) = tt

other_or_noted : (A : Inputs) (s : State) (u : Entry) → Kind A s u → (u ≡ owners_of s.place s.holdings) ⊎ IsOther u
other_or_noted A s u (Fills q due e i) = inr (subst IsOther (sym i) (filled_other s.place (entries.Zero q) tt))
other_or_noted A s u (Brings q parent due e i) = inr (subst IsOther (sym (unit_is s.place parent true u i).1) (served_other s.place parent))
other_or_noted A s u (Copies q parent due e j i) = inr (subst IsOther (sym i) (filled_other s.place (entries.Copy q) tt))
other_or_noted A s u (ServesWanted pid now q r w i) = inr (subst IsOther (sym (unit_is s.place q now u i).1) (served_other s.place q))
other_or_noted A s u (Acts pid now r w a) = inr (acted_other A s pid u (acted A s pid u a))
other_or_noted A s u (ProcessComes pid e c i) = inr (subst IsOther (sym i) tt)
other_or_noted A s u (Interrupts e j i) = inr (subst IsOther (sym i) tt)
other_or_noted A s u (HandsMove count e j l w i) = inr (subst IsOther (sym i) (moved_other s.place (locked A s)))
other_or_noted A s u (ProcessGoes pid e j i) = inr (subst IsOther (sym i) (unit_case IsOther s.place pid (space_of_process (process_of s.point.flat pid)) (λ t ts h. tt) (λ v h y z. tt) (λ h y. tt)))
other_or_noted A s u (Notes e j i) = inl i
other_or_noted A s u (Begins e j i) = inr (begins_is IsOther A s u i mark_other)

pub noted_are : (A : Inputs) (s : State) (free used moving held : ℕ) → next_unit A s ≡ Some (entries.Owners free used moving held)
    → entries.Owners free used moving held ≡ owners_of s.place s.holdings
noted_are A s free used moving held next = elim (other_or_noted A s (entries.Owners free used moving held) (kind_of A s (entries.Owners free used moving held) next)) [
  | inl same ↦ same
  | inr other ↦ absurd other
]
