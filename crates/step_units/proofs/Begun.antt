-- What a process does next: its step's first entry, or the entry that says that its pieces find no place.
use Rattle.std.proofs.Common.{◌≡◌, ℕ, not, ◌&&◌, Bool, true, false, List, ◌∷◌, Option, Some, Ok, refl, sym, ap, ◌∙◌}
use Rattle.std.specs.Prelude.{is_ok, if◌then◌else◌}
use Rattle.vm_facts.specs.SwapImages.{SwapImage}
use Rattle.vm_facts.proofs.Tests.{eq_self}
use Rattle.vm_facts.specs.declared.entry.Entry.{Entry}
use Rattle.vm_facts.specs.declared.entry.Entry.TheVariants as entries
use Rattle.swap_book.specs.Holdings.{Holdings}
use Rattle.swap_book.specs.Placing.{place_all, fits}
use Rattle.flat_state.specs.Space.{Space}
use Rattle.flat_state.specs.Flat.{Process, Inputs, process_of}
use Rattle.flat_state.specs.Change.{is_borrower}
use Rattle.page_model.specs.Place.{facts_of}
use Rattle.kernel_model.specs.Kernel.{Kernel}
use Rattle.kernel_model.specs.Asks.{asked}
use Rattle.kernel_model.specs.Unit.{has_lender}
use Rattle.kernel_laws.proofs.Kept.Borrowed.{borrows_is}
use Rattle.flat_model.specs.Step.{Step, flat_step}
use Rattle.flat_model.specs.Run.{step_at, is_refused, due, behind_first, IsBetween}
use Rattle.flat_model.specs.Asked.{wanted_if, asks_by, asks}
use Rattle.run_model.specs.State.{State}
use Rattle.run_model.specs.Act.{act, loses_pages, loses_in, loses_if, settled, step_loses, must_settle}
use Rattle.run_laws.proofs.Flows.{on_steps}
use Rattle.run_units.specs.Serving.{At}
use Rattle.run_units.specs.Touching.{RunsInSpace}
use Rattle.run_units.proofs.Acting.{step_begins, step_refused, refused_comes, reply_comes, between_refused}
use Rattle.run_units.proofs.Stepping.{wanted_is}

-- Pieces.

pub asks_is : (A : Inputs) (s : State) (k : Kernel) (image : SwapImage) (pid : ℕ) (now : Bool) (p : Process) (x : Space) → At A s k image
    → RunsInSpace A s pid now p x
    → is_refused s.point.last pid ≡ false → asks A s.point.flat pid ≡ asked (facts_of A.images) k pid (step_at A s.point pid).change
unfolding asks
asks_is A s k image pid now p x at r u =
    ap (λ (b : Bool). asks_by b A s.point.flat pid) (on_steps A s s.mark pid now r.runs.on)
    ∙ ap (λ (b : Bool). wanted_if A.images s.point.flat (flat_step A s.point.flat pid b).change (process_of s.point.flat pid)) (sym u)
    ∙ wanted_is A s k image pid now p x (step_at A s.point pid).change at r

pub fits_is : (A : Inputs) (s : State) (k : Kernel) (image : SwapImage) (pid : ℕ) (now : Bool) (p : Process) (x : Space) (step : Step) → At A s k image
    → RunsInSpace A s pid now p x
    → is_refused s.point.last pid ≡ false → step_at A s.point pid ≡ step
    → fits A.swap_blocks s.holdings (asks A s.point.flat pid) ≡ is_ok (place_all A.swap_blocks k.holdings (asked (facts_of A.images) k pid step.change))
fits_is A s k image pid now p x step at r u i =
    ap (fits A.swap_blocks s.holdings) (asks_is A s k image pid now p x at r u ∙ ap (λ (z : Step). asked (facts_of A.images) k pid z.change) i)
    ∙ ap (λ (hs : Holdings). fits A.swap_blocks hs (asked (facts_of A.images) k pid step.change)) (sym at.stands.holdings)

-- Between two steps.

pub whole_due : (o : Option Entry) (pid : ℕ) (es : List Entry) → IsBetween o → due o pid es ≡ es
whole_due (Some (entries.Out p bytes)) pid es h = absurd h
whole_due _ pid es h = refl

-- the step's first entry comes, once its pieces are found and no space has to settle
pub begins : (A : Inputs) (s : State) (k : Kernel) (image : SwapImage) (pid : ℕ) (now : Bool) (p : Process) (x : Space) (step : Step) (e : Entry)
    (es : List Entry) (found : Holdings)
    → At A s k image → RunsInSpace A s pid now p x → IsBetween s.point.last → step_at A s.point pid ≡ step → step.entries ≡ e ∷ es
    → place_all A.swap_blocks k.holdings (asked (facts_of A.images) k pid step.change) ≡ Ok found → must_settle A s pid ≡ false → act A s pid ≡ Some e
begins A s k image pid now p x step e es found at r b i first f t =
    step_begins A s pid e es (on_steps A s s.mark pid now r.runs.on) b (ap (λ (z : Step). z.entries) i ∙ first)
    (fits_is A s k image pid now p x step at r (between_refused s.point.last pid b) i ∙ ap is_ok f) t

-- where they find none comes the entry that says so
pub refuses : (A : Inputs) (s : State) (k : Kernel) (image : SwapImage) (pid : ℕ) (now : Bool) (p : Process) (x : Space) (step : Step)
    → At A s k image → RunsInSpace A s pid now p x → IsBetween s.point.last → step_at A s.point pid ≡ step
    → is_ok (place_all A.swap_blocks k.holdings (asked (facts_of A.images) k pid step.change)) ≡ false → act A s pid ≡ Some (entries.Refused pid)
refuses A s k image pid now p x step at r b i f =
    step_refused A s pid (on_steps A s s.mark pid now r.runs.on) b (fits_is A s k image pid now p x step at r (between_refused s.point.last pid b) i ∙ f)

-- After the refusal, and after bytes that went out.

pub is_refused_by : (o : Option Entry) (pid : ℕ) → o ≡ Some (entries.Refused pid) → is_refused o pid ≡ true
is_refused_by o pid l = ap (λ (z : Option Entry). is_refused z pid) l ∙ eq_self pid

pub refused_due : (o : Option Entry) (pid : ℕ) (es : List Entry) → o ≡ Some (entries.Refused pid) → due o pid es ≡ es
refused_due o pid es l = ap (λ (z : Option Entry). due z pid es) l

pub out_due : (o : Option Entry) (pid : ℕ) (bytes : List ℕ) (e : Entry) (es : List Entry) → o ≡ Some (entries.Out pid bytes) → due o pid (e ∷ es) ≡ es
out_due o pid bytes e es l = ap (λ (z : Option Entry). due z pid (e ∷ es)) l ∙ ap (λ (b : Bool). if b then behind_first (e ∷ es) else e ∷ es) (eq_self pid)

pub out_unrefused : (o : Option Entry) (pid : ℕ) (bytes : List ℕ) → o ≡ Some (entries.Out pid bytes) → is_refused o pid ≡ false
out_unrefused o pid bytes l = ap (λ (z : Option Entry). is_refused z pid) l

-- the step of who was refused
pub begins_refused : (A : Inputs) (s : State) (pid : ℕ) (now : Bool) (p : Process) (x : Space) (step : Step) (e : Entry) (es : List Entry)
    → RunsInSpace A s pid now p x → s.point.last ≡ Some (entries.Refused pid) → step_at A s.point pid ≡ step → step.entries ≡ e ∷ es
    → must_settle A s pid ≡ false → act A s pid ≡ Some e
begins_refused A s pid now p x step e es r l i first t =
    refused_comes A s pid e es (on_steps A s s.mark pid now r.runs.on) l (ap (λ (z : Step). z.entries) i ∙ first) t

-- the rest of a step of which bytes went out
pub goes_on_behind : (A : Inputs) (s : State) (k : Kernel) (image : SwapImage) (pid : ℕ) (now : Bool) (p : Process) (x : Space) (step : Step) (bytes : List ℕ)
    (o e : Entry) (es : List Entry)
    (found : Holdings)
    → At A s k image → RunsInSpace A s pid now p x → s.point.last ≡ Some (entries.Out pid bytes) → step_at A s.point pid ≡ step → step.entries ≡ o ∷ e ∷ es
    → place_all A.swap_blocks k.holdings (asked (facts_of A.images) k pid step.change) ≡ Ok found → must_settle A s pid ≡ false → act A s pid ≡ Some e
goes_on_behind A s k image pid now p x step bytes o e es found at r l i first f t =
    reply_comes A s pid bytes o e es (on_steps A s s.mark pid now r.runs.on) l (ap (λ (z : Step). z.entries) i ∙ first)
    (fits_is A s k image pid now p x step at r (out_unrefused s.point.last pid bytes l) i ∙ ap is_ok f) t

-- Spaces that settle.

pub loses_is : (A : Inputs) (s : State) (pid : ℕ) (now : Bool) (p : Process) (x : Space) (step : Step) → RunsInSpace A s pid now p x
    → step_at A s.point pid ≡ step
    → step_loses A s pid ≡ loses_pages x (is_borrower s.point.flat.processes pid) step.change
loses_is A s pid now p x step r i =
    let b : Bool = is_borrower s.point.flat.processes pid in
    ap (λ (z : Step). loses_if b z.change (process_of s.point.flat pid)) i ∙ ap (loses_if b step.change) r.here ∙ ap (loses_in b step.change) r.holds

-- a step that gives up no space and drops no page has nothing to wait for
pub none_lost : (A : Inputs) (s : State) (pid : ℕ) (now : Bool) (p : Process) (x : Space) (step : Step) → RunsInSpace A s pid now p x
    → step_at A s.point pid ≡ step
    → loses_pages x (is_borrower s.point.flat.processes pid) step.change ≡ false → must_settle A s pid ≡ false
none_lost A s pid now p x step r i n =
    ap (λ (b : Bool). b && not (settled s.point.flat s.place pid)) (loses_is A s pid now p x step r i ∙ n)

-- nor has one whose space is settled
pub none_unsettled : (A : Inputs) (s : State) (pid : ℕ) → settled s.point.flat s.place pid ≡ true → must_settle A s pid ≡ false
none_unsettled A s pid e = ap (λ (b : Bool). step_loses A s pid && not b) e ∙ none (step_loses A s pid)
  where
    none : (b : Bool) → (b && false) ≡ false
    none true = refl
    none false = refl

-- who borrowed its space, in the flat machine and in the kernel
pub borrows : (A : Inputs) (s : State) (k : Kernel) (image : SwapImage) (pid : ℕ) → At A s k image
    → is_borrower s.point.flat.processes pid ≡ has_lender k.processes pid
borrows A s k image pid at = sym (borrows_is k s.point.flat pid at.stands.keeps.coupled.tables)
