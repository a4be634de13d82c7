-- Serving the page that a process waits for is what a run does next.
use Rattle.std.proofs.Common.{◌≡◌, ℕ, ◌+◌, ◌&&◌, nat_lt, inl, inr, Bool, true, false, List, [], ◌∷◌, ◌++◌, Option, Some, refl, sym, ap, ◌∙◌, subst}
use Rattle.std.proofs.lemmas.Option.{same_Some}
use Rattle.vm_facts.specs.SwapImages.{SwapImage}
use Rattle.vm_facts.specs.declared.entry.Entry.{Entry}
use Rattle.vm_facts.specs.declared.entry.Entry.TheVariants as entries
use Rattle.vm_facts.specs.declared.page.Page.{Page}
use Rattle.flat_state.specs.Flat.{Inputs, can_step}
use Rattle.flat_model.specs.Run.{Point}
use Rattle.page_model.specs.Pages.{is_valid}
use Rattle.page_model.specs.Conditions.{EachPage}
use Rattle.page_model.specs.Ownership.{OwnsFrames}
use Rattle.page_model.specs.Placement.{Placement, Due, IsThere, state_of, due_of_page}
use Rattle.page_model.specs.Place.{place_entry}
use Rattle.page_model.specs.Serve.{serve_unit, serve_step, Serves, unit_of_serving}
use Rattle.page_model.specs.Swapper.{is_out}
use Rattle.page_model.specs.Reading.{read_entry}
use Rattle.page_laws.proofs.Moves.Units.{unit_is, entry_steps}
use Rattle.page_laws.proofs.Moves.Locks.{serve_spares}
use Rattle.page_laws.proofs.Moves.Cases.{serving_cases}
use Rattle.page_laws.proofs.Due.Entries.{serve_dues}
use Rattle.kernel_model.specs.Kernel.{Kernel}
use Rattle.run_model.specs.declared.mark.Mark.{Mark}
use Rattle.run_model.specs.declared.mark.Mark.TheVariants as marks
use Rattle.run_model.specs.State.{State}
use Rattle.run_model.specs.Wanted.{running, locked, touched_next, AllValid, Splits}
use Rattle.run_model.specs.Snapshot.{touched_of}
use Rattle.run_model.specs.After.{after, place_at, completed, moved_on, audited}
use Rattle.run_model.specs.Next.{next_unit, under, work, work_by, or_else, due_unit, next_mark, goes_on, turn_instructions}
use Rattle.run_model.specs.Kinds.{ProcessRuns, GoesOn}
use Rattle.run_model.proofs.Wanting.{splits_wanted, splits_locked}
use Rattle.economy_laws.specs.Machine.{unit_swap}
use Rattle.economy_laws.proofs.Plain.{IsPaging, paging_stays, serve_paging}
use Rattle.economy_laws.proofs.Paging.{entry_out}
use Rattle.economy_laws.proofs.Marks.{IsFree, on_free}
use Rattle.economy_laws.proofs.Flows.{runs_work, on_running, spared}
use Rattle.economy_laws.proofs.RunLawsTouching.{Present, touched_present}
use Rattle.economy_laws.proofs.Left.{next_on}
use Rattle.fault_fill.specs.Made.{Ground, Made}
use Rattle.fault_fill.proofs.PagingUnitsUnits.{served_place}
use Rattle.run_units.specs.Leads.{KeepsLocked, MadeAs, Leads}
use Rattle.run_units.specs.Serving.{SameBut, IsWaiting, At, ServingLeads}
use Rattle.run_units.proofs.Units.{one_made, none_leads, first_leads, leads_at}

-- What a process that runs does is what comes under the mark.

works_next : (A : Inputs) (s : State) (pid : ℕ) (now : Bool) (u : Entry) → ProcessRuns A s pid now → work A s pid now ≡ Some u → next_unit A s ≡ Some u
unfolding next_unit
works_next A s pid now u r w =
    ap (λ (ds : List Due). or_else (due_unit s.place ds) (or_else (under A s s.mark) (next_mark A s))) r.clear
    ∙ ap (λ (o : Option Entry). or_else o (next_mark A s)) (runs_work A s pid now r ∙ w)

-- A paging unit leaves all of the state but its pages and its journal, where the mark is over, a dispatch or a turn.

completed_free : (m : Mark) → IsFree m → completed m ≡ m
completed_free marks.Over f = refl
completed_free (marks.Dispatch pid count since) f = refl
completed_free (marks.Turn pid since) f = refl
completed_free _ f = absurd f

moved_free : (n : ℕ) (m : Mark) → IsFree m → moved_on n m ≡ m
moved_free n marks.Over f = refl
moved_free n (marks.Dispatch pid count since) f = refl
moved_free n (marks.Turn pid since) f = refl
moved_free n _ f = absurd f

audited_free : (m : Mark) → IsFree m → audited m ≡ m
audited_free marks.Over f = refl
audited_free (marks.Dispatch pid count since) f = refl
audited_free (marks.Turn pid since) f = refl
audited_free _ f = absurd f

-- what such a unit leaves, and where it leads
pub record Paged (A : Inputs) (s : State) (u : Entry) : Type 0 where
  pub same : SameBut s (after A s u)
  pub place : (after A s u).place ≡ place_entry (locked A s) (place_at s u) s.place u

pub paged : (A : Inputs) (s : State) (u : Entry) → IsPaging u → IsFree s.mark → Paged A s u
unfolding after
paged A s (entries.Zero q) i h = record { same = record { point = refl; holdings = refl; count = refl; lines = refl; mark = refl }; place = refl }
paged A s (entries.Get q lo n) i h = record { same = record { point = refl; holdings = refl; count = refl; lines = refl; mark = refl }; place = refl }
paged A s (entries.Copy q) i h = record { same = record { point = refl; holdings = refl; count = refl; lines = refl; mark = refl }; place = refl }
paged A s (entries.Reclaim q) i h = record { same = record { point = refl; holdings = refl; count = refl; lines = refl; mark = refl }; place = refl }
paged A s (entries.Put q n) i h = record { same = record { point = refl; holdings = refl; count = refl; lines = refl; mark = refl }; place = refl }
paged A s (entries.Hands n) i h = record {
  same = record { point = refl; holdings = refl; count = refl; lines = refl; mark = moved_free n s.mark h };
  place = refl;
}
paged A s entries.Done i h = record { same = record { point = refl; holdings = refl; count = refl; lines = refl; mark = completed_free s.mark h }; place = refl }
paged A s (entries.Owners free used moving held) i h = record {
  same = record { point = refl; holdings = refl; count = refl; lines = refl; mark = audited_free s.mark h };
  place = refl;
}
paged A s _ i h = absurd i

-- it leaves the process running
goes_same : (A : Inputs) (s t : State) (pid : ℕ) (now : Bool) (m : Mark) → t.point ≡ s.point → t.count ≡ s.count → GoesOn A s m pid now → GoesOn A t m pid now
goes_same A s t pid false (marks.Dispatch p count since) e c h = (h.0, on)
  where
    on : goes_on A t pid (since + count) ≡ true
    on = ap (λ (x : Point). can_step x.flat pid && (nat_lt t.count A.limit && nat_lt t.count (since + count))) e
        ∙ ap (λ (n : ℕ). can_step s.point.flat pid && (nat_lt n A.limit && nat_lt n (since + count))) c ∙ h.1
goes_same A s t pid true (marks.Turn p since) e c h = (h.0, on)
  where
    on : goes_on A t pid (since + turn_instructions) ≡ true
    on = ap (λ (x : Point). can_step x.flat pid && (nat_lt t.count A.limit && nat_lt t.count (since + turn_instructions))) e
        ∙ ap (λ (n : ℕ). can_step s.point.flat pid && (nat_lt n A.limit && nat_lt n (since + turn_instructions))) c ∙ h.1
goes_same A s t pid now _ e c h = absurd h

pub not_out : (p q : Placement) (pid : ℕ) → (is_out q pid ≡ true → is_out p pid ≡ true) → is_out p pid ≡ false → is_out q pid ≡ false
not_out p q pid f h = go (is_out q pid) refl
  where
    go : (b : Bool) → is_out q pid ≡ b → b ≡ false
    go false e = refl
    go true e = let k = sym h ∙ f e in cc

stays_in : (A : Inputs) (s : State) (pid : ℕ) (u : Entry) → IsPaging u → Paged A s u → is_out s.place pid ≡ false → is_out (after A s u).place pid ≡ false
stays_in A s pid u i g h =
    subst (λ (q : Placement). is_out q pid ≡ false) (sym g.place)
    (not_out s.place (place_entry (locked A s) (place_at s u) s.place u) pid
    (λ e. elim (entry_out (locked A s) (place_at s u) s.place u pid e) [ inl k ↦ k | inr l ↦ absurd (paging_stays u pid i l) ]) h)

pub runs_on : (A : Inputs) (s : State) (pid : ℕ) (now : Bool) (u : Entry) → IsPaging u → Paged A s u → (after A s u).place.due ≡ [] → ProcessRuns A s pid now
    → ProcessRuns A (after A s u) pid now
runs_on A s pid now u i g d r = record {
  clear = d;
  on = subst (λ (m : Mark). GoesOn A (after A s u) m pid now) (sym g.same.mark) (goes_same A s (after A s u) pid now s.mark g.same.point g.same.count r.on);
  resident = stays_in A s pid u i g r.resident;
}

-- Serving.

-- the page that a process waits for isn't valid, while serving asks for a unit
splits : (A : Inputs) (g : Ground) (s : State) (pid : ℕ) (now : Bool) (before : List Page) (q : Page) → IsWaiting A g s pid now before q
    → is_valid (state_of s.place q) ≡ false
    → Splits s.place (touched_next A s) before q
splits A g s pid now before q w n = record { behind = w.rest; whole = w.touched; valid = w.valid; absent = n }

pub served_next : (A : Inputs) (g : Ground) (s : State) (pid : ℕ) (now : Bool) (before : List Page) (q : Page) (u : Entry) → IsWaiting A g s pid now before q
    → serve_unit s.place q now ≡ Some u → next_unit A s ≡ Some u
served_next A g s pid now before q u w h =
    let d : Splits s.place (touched_next A s) before q = splits A g s pid now before q w (unit_is s.place q now u h).0 in
    works_next A s pid now u w.runs (ap (λ (o : Option Page). work_by A s pid now o) (splits_wanted A s before q w.runs.clear d) ∙ h)

-- without waiting no hands move

abbrev IsStill : Entry → Type 0
IsStill (entries.Hands n) = ⊥
IsStill _ = Unit {0}

never_moves : (p : Placement) (q : Page) (u : Entry) → serve_unit p q false ≡ Some u → IsStill u
never_moves p q u h = serving_cases (λ x. unit_of_serving x false ≡ Some u → IsStill u) p q (λ f s m. absurd cc) (λ f s m. is (entries.Reclaim q) tt m)
    (λ f s m. absurd cc) (λ n l m. absurd cc) (λ f fs l s x m. is (entries.Zero q) tt m) (λ f fs l r b m. is entries.Done tt m)
    (λ f fs l r b m. is (read_entry p q) tt m) h
  where
    is : (e : Entry) → IsStill e → Some e ≡ Some u → IsStill u
    is e k m = subst IsStill (same_Some e u m) k

still_locked : (g : Ground) (A : Inputs) (s : State) (u : Entry) → IsStill u → KeepsLocked g A s u
still_locked g A s (entries.Hands n) h = absurd h
still_locked g A s _ h = tt

pub moving_locked : (g : Ground) (A : Inputs) (s : State) (u : Entry) → g.locked ≡ locked A s → KeepsLocked g A s u
moving_locked g A s (entries.Hands n) h = h
moving_locked g A s _ h = tt

keeps_locked : (A : Inputs) (g : Ground) (s : State) (before : List Page) (q : Page) (u : Entry) (now : Bool) → locked A s ≡ before
    → (now ≡ true → g.locked ≡ before)
    → serve_unit s.place q now ≡ Some u → KeepsLocked g A s u
keeps_locked A g s before q u true e f h = moving_locked g A s u (f refl ∙ sym e)
keeps_locked A g s before q u false e f h = still_locked g A s u (never_moves s.place q u h)

is_there : (p : Placement) (before rest : List Page) (q : Page) → EachPage (Present p) (before ++ q ∷ rest) → IsThere p q
is_there p [] rest q h = h.0.there
is_there p (b ∷ before) rest q h = is_there p before rest q h.1

-- the process still waits for it after a unit that serves it
pub waits_on : (A : Inputs) (g : Ground) (s : State) (k : Kernel) (image : SwapImage) (pid : ℕ) (now : Bool) (before : List Page) (q : Page) (u : Entry)
    → At A s k image
    → IsWaiting A g s pid now before q → serve_unit s.place q now ≡ Some u → Paged A s u → IsWaiting A g (after A s u) pid now before q
waits_on A g s k image pid now before q u at w h p =
    let n = unit_is s.place q now u h in
    let d : Splits s.place (touched_next A s) before q = splits A g s pid now before q w n.0 in
    let kept : locked A s ≡ before = splits_locked A s before q w.runs.clear d in
    let i : IsPaging u = subst IsPaging (sym n.1) (serve_paging s.place q) in
    let own : OwnsFrames s.place = at.run.placed.sound.owner.frames in
    let place : (after A s u).place ≡ serve_step s.place before q =
    p.place ∙ ap (λ (qs : List Page). place_entry qs (place_at s u) s.place u) kept ∙ ap (λ (e : Entry). place_entry before (place_at s u) s.place e) n.1
    ∙ entry_steps before (place_at s u) s.place q n.0 in
    let m : running s.mark ≡ Some pid = on_running A s s.mark pid now w.runs.on in
    let there : IsThere s.place q =
    is_there s.place before w.rest q (subst (EachPage (Present s.place)) (sym (next_on A s pid m) ∙ w.touched)
    (touched_present A s.point.flat s.place s.holdings pid at.run.numbers at.run.texts at.run.placed)) in
    record {
      images = w.images;
      runs = runs_on A s pid now u i p (ap (λ (x : Placement). x.due) place ∙ serve_dues s.place before q own (ap (λ (ds : List Due). due_of_page ds q) w.runs.clear) ∙ w.runs.clear) w.runs;
      rest = w.rest;
      touched = ap (λ (x : Point). touched_of A x.flat (running (after A s u).mark)) p.same.point ∙ ap (λ (x : Mark). touched_of A s.point.flat (running x)) p.same.mark ∙ w.touched;
      valid = subst (λ (x : Placement). AllValid x before) (sym place) (spared s.place (serve_step s.place before q) before w.valid (serve_spares s.place before q own there) before (λ r e. e));
      locked = w.locked;
    }

pub same_both : (s t r : State) → SameBut s t → SameBut t r → SameBut s r
same_both s t r a b = record { point = b.point ∙ a.point; holdings = b.holdings ∙ a.holdings; count = b.count ∙ a.count; lines = b.lines ∙ a.lines; mark = b.mark ∙ a.mark }

pub served : (us : List Entry) (A : Inputs) (g : Ground) (s : State) (k l : Kernel) (image : SwapImage) (j : Option SwapImage) (pid : ℕ) (now : Bool)
    (before : List Page) (q : Page)
    → At A s k image → IsWaiting A g s pid now before q → Serves us k.place g.locked q now l.place → Made g us k (Some image) l j
    → ServingLeads A g s k image pid now before q us l j
served [] A g s k l image j pid now before q at w h m = record {
  state = s;
  leads = subst (λ (x : Kernel). Leads A s k image [] s x j) m.0 (subst (λ (o : Option SwapImage). Leads A s k image [] s k o) m.1 (none_leads A s k image));
  same = record { point = refl; holdings = refl; count = refl; lines = refl; mark = refl };
  waiting = w;
}
served (u ∷ us) A g s k l image j pid now before q at w h m =
    let here : k.place ≡ s.place = at.stands.place in
    let asked : serve_unit s.place q now ≡ Some u = subst (λ (x : Placement). serve_unit x q now ≡ Some u) here h.0 in
    let n = unit_is s.place q now u asked in
    let d : Splits s.place (touched_next A s) before q = splits A g s pid now before q w n.0 in
    let next : next_unit A s ≡ Some u = served_next A g s pid now before q u w asked in
    let one : MadeAs A s k image u m.next m.image =
    one_made A g s k m.next image m.image u w.images (keeps_locked A g s before q u now (splits_locked A s before q w.runs.clear d) w.locked asked) m.made m.told in
    let p : Paged A s u = paged A s u (subst IsPaging (sym n.1) (serve_paging s.place q)) (on_free A s s.mark pid now w.runs.on) in
    let x : SwapImage = unit_swap A k image u in
    let first : Leads A s k image (u ∷ []) (after A s u) m.next (Some x) =
    first_leads A s (after A s u) k m.next m.next image m.image (Some x) u [] next one (none_leads A (after A s u) m.next x) in
    let rest : Serves us m.next.place g.locked q now l.place =
    subst (λ (y : Placement). Serves us y g.locked q now l.place) (sym (served_place g q now u k m.next (Some image) h.0 m.made)) h.1 in
    let more : ServingLeads A g (after A s u) m.next x pid now before q us l j =
    served us A g (after A s u) m.next l x j pid now before q (leads_at A s (after A s u) k m.next image x (u ∷ []) at first) (waits_on A g s k image pid now before q u at w asked p) rest
    (subst (λ (o : Option SwapImage). Made g us m.next o l j) one.told m.rest) in
    record {
      state = more.state;
      leads = first_leads A s more.state k m.next l image m.image j u us next one more.leads;
      same = same_both s (after A s u) more.state p.same more.same;
      waiting = more.waiting;
    }
