-- The run stops before a process's step, whatever comes of it next: the end of a transfer, the entry that says that its pieces find
-- no place, or its first entry.
use Rattle.std.proofs.Common.{◌≡◌, ◌⊎◌, inl, inr, ℕ, ◌<◌, ◌≤◌, ◌==◌, not, ◌&&◌, Bool, true, false, List, [], ◌∷◌, ◌++◌, length, Some, None, refl, sym, ap, ◌∙◌, subst, arith}
use Rattle.std.proofs.lemmas.List.{length-append}
use Rattle.vm_facts.specs.SwapImages.{SwapImage}
use Rattle.vm_facts.specs.Pages.{is_of_space, is_of_text}
use Rattle.vm_facts.specs.declared.params.Params.{Params}
use Rattle.vm_facts.specs.declared.entry.Entry.{Entry}
use Rattle.vm_facts.specs.declared.entry.Entry.TheVariants as entries
use Rattle.vm_facts.specs.declared.stop.Stop.{Stop}
use Rattle.vm_facts.specs.declared.stop.Stop.TheVariants as stops
use Rattle.flat_state.specs.Space.{Space}
use Rattle.flat_state.specs.Flat.{Process, Inputs, can_step}
use Rattle.page_model.specs.Placement.{Placement, Transfer, image_of, parts_of, sharers}
use Rattle.page_model.specs.Swapper.{names_page, is_settled}
use Rattle.machine_state.specs.Machine.{Standing}
use Rattle.swapper.proofs.Stopping.{held_here}
use Rattle.swapper.specs.Stops.{StopsBefore}
use Rattle.flat_model.specs.Run.{due_at}
use Rattle.run_model.specs.State.{State}
use Rattle.run_model.specs.Wanted.{wanted}
use Rattle.run_model.specs.Act.{settled, settled_in, settled_if, step_loses, must_refuse, must_settle}
use Rattle.run_model.specs.Next.{next_unit}
use Rattle.run_laws.proofs.Flows.{on_steps, runs_next}
use Rattle.run_units.specs.Serving.{At}
use Rattle.run_units.specs.Touching.{RunsInSpace}
use Rattle.run_units.proofs.Units.{none_leads}
use Rattle.run_units.proofs.Acting.{acts_by, comes_first}
use Rattle.step_units.specs.Stepped.{StopsNext, StopsBy, StopLeads}
use Rattle.step_units.proofs.Entering.{IsOwn, stopped_before}

-- What comes next.

-- Before the end of a transfer.

longer : (journal : List Entry) → length journal < length (journal ++ entries.Done ∷ [])
longer journal = let h = length-append journal (entries.Done ∷ []) in omega (arith, h)

bare : (b : Bool) → not (b && false) ≡ true
bare true = refl
bare false = refl

some_transfer : (p : Placement) (sid : ℕ) (ts : List Transfer) → p.transfers ≡ ts → is_settled p sid ≡ false → 0 < length ts
some_transfer p sid [] e h =
    let one : Bool = sharers p (image_of p sid) == 1 in
    let k : is_settled p sid ≡ true =
    ap (λ (ts : List Transfer). not (names_page (is_of_space sid) (parts_of ts)) && not (one && names_page (is_of_text (image_of p sid)) (parts_of ts))) e ∙ bare one in
    absurd cc
some_transfer p sid (t ∷ ts) e h = omega arith

waits_for : (A : Inputs) (s : State) (pid : ℕ) (now : Bool) (p : Process) (x : Space) → RunsInSpace A s pid now p x → must_settle A s pid ≡ true
    → is_settled s.place x.sid ≡ false
waits_for A s pid now p x r t =
    let is : settled s.point.flat s.place pid ≡ is_settled s.place x.sid = ap (settled_if s.place) r.here ∙ ap (settled_in s.place) r.holds in
    sym is ∙ go (step_loses A s pid) (settled s.point.flat s.place pid) t
  where
    go : (a b : Bool) → (a && not b) ≡ true → b ≡ false
    go true true h = absurd cc
    go true false h = refl
    go false b h = absurd cc

stops_done : (A : Inputs) (s : State) (old new : Standing) (image : SwapImage) (stop : Stop) → next_unit A s ≡ Some entries.Done
    → 0 < length old.kernel.place.transfers → StopsBefore old new stop
    → StopsBy A s old.kernel image stop new (Some image)
stops_done A s old new image stop n some h = go h.cause
  where
    full : old.params.journal ≤ length old.kernel.journal → StopsNext A s old.kernel image stops.JournalFull new (Some image)
    full b = record {
      entry = entries.Done;
      next = n;
      full = λ _. (subst (λ (y : Params). y.journal ≤ length old.kernel.journal) (sym h.stopped.params) b, longer old.kernel.journal);
      cause = some;
      spoils = refl;
    }

    go : (stop ≡ stops.JournalFull) ⊎ (stop ≡ stops.NoMemory) → StopsBy A s old.kernel image stop new (Some image)
    go (inl c) = subst (λ (z : Stop). StopsBy A s old.kernel image z new (Some image)) (sym c) (full (h.full c))
    go (inr c) = subst (λ (z : Stop). StopsBy A s old.kernel image z new (Some image)) (sym c) refl

-- Where the entries of the step that aren't there yet begin with one that never joins another, it stops so before any of these.
pub stopped_here : (A : Inputs) (s : State) (old new : Standing) (image : SwapImage) (pid : ℕ) (now : Bool) (p : Process) (x : Space) (e : Entry)
    (es : List Entry) (stop : Stop)
    → At A s old.kernel image → RunsInSpace A s pid now p x → wanted A s ≡ None → due_at A s.point pid ≡ e ∷ es → IsOwn e
    → StopsBefore old new stop → StopLeads A s old.kernel image stop new (Some image)
stopped_here A s old new image pid now p x e es stop at r w d own g = go (must_refuse A s pid) (must_settle A s pid) refl refl
  where
    can : can_step s.point.flat pid ≡ true
    can = on_steps A s s.mark pid now r.runs.on

    go : (refused waits : Bool) → must_refuse A s pid ≡ refused → must_settle A s pid ≡ waits → StopLeads A s old.kernel image stop new (Some image)
    go true waits f t = stopped_before A s old new image pid now (entries.Refused pid) stop r.runs w (acts_by A s pid true waits can f t) tt g
    go false true f t = record {
      units = [];
      state = s;
      kernel = old.kernel;
      behind = image;
      leads = none_leads A s old.kernel image;
      journal = g.stopped.journal;
      held = held_here stop old new g.stopped g.whole g.cause g.full;
      by = stops_done A s old new image stop (runs_next A s pid now entries.Done r.runs w (acts_by A s pid false true can f t))
          (some_transfer old.kernel.place x.sid old.kernel.place.transfers refl (ap (λ (q : Placement). is_settled q x.sid) at.stands.place ∙ waits_for A s pid now p x r t)) g;
    }
    go false false f t = stopped_before A s old new image pid now e stop r.runs w (acts_by A s pid false false can f t ∙ comes_first A s pid e es can d) own g
