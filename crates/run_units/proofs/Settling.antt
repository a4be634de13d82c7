-- Settling a space is what its process does next.
use Rattle.std.proofs.Common.{◌≡◌, ℕ, zero, suc, not, ◌&&◌, Bool, true, false, List, [], ◌∷◌, replicate, Option, Some, None, refl, sym, ap, ◌∙◌, subst}
use Rattle.vm_facts.specs.SwapImages.{SwapImage}
use Rattle.vm_facts.specs.declared.entry.Entry.{Entry}
use Rattle.vm_facts.specs.declared.entry.Entry.TheVariants as entries
use Rattle.vm_facts.specs.declared.page.Page.{Page}
use Rattle.flat_state.specs.Flat.{Inputs, can_step}
use Rattle.page_model.specs.Placement.{Placement, Due}
use Rattle.page_model.specs.Ownership.{OwnsFrames}
use Rattle.page_model.specs.Moves.{done}
use Rattle.page_model.specs.Swapper.{is_settled}
use Rattle.page_laws.proofs.Moves.Stays.{Steady, done_steady}
use Rattle.page_laws.proofs.Moves.Locks.{done_spares}
use Rattle.kernel_model.specs.Kernel.{Kernel}
use Rattle.flat_model.specs.Run.{Point}
use Rattle.run_model.specs.declared.mark.Mark.{Mark}
use Rattle.run_model.specs.State.{State}
use Rattle.run_model.specs.Wanted.{running, touched_next, AllValid, wanted}
use Rattle.run_model.specs.Snapshot.{touched_of}
use Rattle.run_model.specs.After.{after}
use Rattle.run_model.specs.Act.{act, act_if, act_by, settled, must_refuse, must_settle, step_loses}
use Rattle.run_model.specs.Next.{next_unit}
use Rattle.run_model.specs.Kinds.{ProcessRuns}
use Rattle.run_model.proofs.Wanting.{wanted_none, all_unwanted}
use Rattle.economy_laws.specs.Machine.{unit_swap}
use Rattle.economy_laws.proofs.Marks.{on_free}
use Rattle.economy_laws.proofs.Flows.{on_steps, runs_next, spared}
use Rattle.fault_fill.specs.Settled.{EndsWhile}
use Rattle.fault_fill.specs.Made.{Ground}
use Rattle.run_units.specs.Leads.{HasImages, MadeAs, Leads}
use Rattle.run_units.specs.Serving.{SameBut, At}
use Rattle.run_units.specs.Settling.{IsLeaving, LeadsLeaving}
use Rattle.run_units.proofs.Units.{one_made, none_leads, first_leads, leads_at}
use Rattle.run_units.proofs.Serving.{Paged, paged, runs_on, same_both}

act_done : (A : Inputs) (s : State) (pid : ℕ) (b : Bool) → b ≡ true → must_refuse A s pid ≡ false → must_settle A s pid ≡ true
    → act_if b A s pid ≡ Some entries.Done
act_done A s pid true e f h = ap (λ (x : Bool). act_by A s pid x (must_settle A s pid)) f ∙ ap (λ (x : Bool). act_by A s pid false x) h
act_done A s pid false e f h = absurd cc

acts : (A : Inputs) (s : State) (pid : ℕ) → can_step s.point.flat pid ≡ true → must_refuse A s pid ≡ false → must_settle A s pid ≡ true
    → act A s pid ≡ Some entries.Done
unfolding act
acts A s pid c f h = act_done A s pid (can_step s.point.flat pid) c f h

pub settled_next : (A : Inputs) (s : State) (pid : ℕ) (now : Bool) (sid : ℕ) → IsLeaving A s pid now sid → is_settled s.place sid ≡ false
    → next_unit A s ≡ Some entries.Done
settled_next A s pid now sid h u =
    let m : must_settle A s pid ≡ true = ap (λ (b : Bool). b && not (settled s.point.flat s.place pid)) h.loses ∙ ap not (h.own s.place ∙ u) in
    runs_next A s pid now entries.Done h.runs h.unwanted (acts A s pid (on_steps A s s.mark pid now h.runs.on) h.fits m)

-- the process leaves the space yet after the end of a transfer
leaves_on : (A : Inputs) (s : State) (pid : ℕ) (now : Bool) (sid : ℕ) → OwnsFrames s.place → IsLeaving A s pid now sid → Paged A s entries.Done
    → IsLeaving A (after A s entries.Done) pid now sid
leaves_on A s pid now sid o h p =
    let st : Steady s.place (done s.place) = done_steady s.place o in
    let t : State = after A s entries.Done in
    let place : t.place ≡ done s.place = p.place in
    let clear : t.place.due ≡ [] = ap (λ (x : Placement). x.due) place ∙ st.due ∙ h.runs.clear in
    let touched : touched_next A t ≡ touched_next A s =
    ap (λ (x : Point). touched_of A x.flat (running t.mark)) p.same.point ∙ ap (λ (x : Mark). touched_of A s.point.flat (running x)) p.same.mark in
    let v : AllValid s.place (touched_next A s) = wanted_none A s h.runs.clear h.unwanted in
    let w : AllValid t.place (touched_next A t) =
    subst (λ (x : Placement). AllValid x (touched_next A t)) (sym place)
    (subst (AllValid (done s.place)) (sym touched) (spared s.place (done s.place) (touched_next A s) v (done_spares s.place (touched_next A s) o) (touched_next A s) (λ q e. e))) in
    record {
      runs = runs_on A s pid now entries.Done tt p clear h.runs;
      unwanted = all_unwanted A t clear w;
      fits = refuses A s t pid p.same ∙ h.fits;
      loses = loses_same A s t pid p.same ∙ h.loses;
      own = λ x. ap (λ (y : Point). settled y.flat x pid) p.same.point ∙ h.own x;
    }
  where
    refuses : (A : Inputs) (s t : State) (pid : ℕ) → SameBut s t → must_refuse A t pid ≡ must_refuse A s pid
    refuses A s t pid e =
        ap (λ (y : Point). not (Rattle.flat_model.specs.Run.is_refused y.last pid)
        && not (Rattle.swap_book.specs.Placing.fits A.swap_blocks t.holdings (Rattle.flat_model.specs.Asked.asks A y.flat pid))) e.point
        ∙ ap (λ (y : Rattle.swap_book.specs.Holdings.Holdings). not (Rattle.flat_model.specs.Run.is_refused s.point.last pid)
        && not (Rattle.swap_book.specs.Placing.fits A.swap_blocks y (Rattle.flat_model.specs.Asked.asks A s.point.flat pid))) e.holdings

    loses_same : (A : Inputs) (s t : State) (pid : ℕ) → SameBut s t → step_loses A t pid ≡ step_loses A s pid
    loses_same A s t pid e =
        ap (λ (y : Point). Rattle.run_model.specs.Act.loses_if (Rattle.flat_state.specs.Change.is_borrower y.flat.processes pid)
        (Rattle.flat_model.specs.Run.step_at A y pid).change (Rattle.flat_state.specs.Flat.process_of y.flat pid)) e.point

pub settles : (n : ℕ) (A : Inputs) (g : Ground) (s : State) (k l : Kernel) (image : SwapImage) (j : Option SwapImage) (pid : ℕ) (now : Bool) (sid : ℕ)
    → At A s k image → HasImages g A
    → IsLeaving A s pid now sid → EndsWhile g.from sid n k (Some image) l j → LeadsLeaving A s k image pid now sid (replicate n entries.Done) l j
settles zero A g s k l image j pid now sid at f h e = record {
  state = s;
  leads = subst (λ (y : Kernel). Leads A s k image [] s y j) (sym e.0) (subst (λ (o : Option SwapImage). Leads A s k image [] s k o) (sym e.1) (none_leads A s k image));
  same = record { point = refl; holdings = refl; count = refl; lines = refl; mark = refl };
  leaving = h;
}
settles (suc n) A g s k l image j pid now sid at f h e =
    let next : Kernel = e.1.0 in
    let i : Option SwapImage = e.1.1 in
    let unsettled : is_settled s.place sid ≡ false = subst (λ (y : Placement). is_settled y sid ≡ false) at.stands.place e.0 in
    let u : next_unit A s ≡ Some entries.Done = settled_next A s pid now sid h unsettled in
    let one : MadeAs A s k image entries.Done next i = one_made A g s k next image i entries.Done f tt e.1.2 e.1.3 in
    let p : Paged A s entries.Done = paged A s entries.Done tt (on_free A s s.mark pid now h.runs.on) in
    let x : SwapImage = unit_swap A k image entries.Done in
    let t : State = after A s entries.Done in
    let first : Leads A s k image (entries.Done ∷ []) t next (Some x) = first_leads A s t k next next image i (Some x) entries.Done [] u one (none_leads A t next x) in
    let more : LeadsLeaving A t next x pid now sid (replicate n entries.Done) l j =
    settles n A g t next l x j pid now sid (leads_at A s t k next image x (entries.Done ∷ []) at first) f (leaves_on A s pid now sid at.run.placed.sound.owner.frames h p)
    (subst (λ (o : Option SwapImage). EndsWhile g.from sid n next o l j) one.told e.1.4) in
    record {
      state = more.state;
      leads = first_leads A s more.state k next l image i j entries.Done (replicate n entries.Done) u one more.leads;
      same = same_both s t more.state p.same more.same;
      leaving = more.leaving;
    }
