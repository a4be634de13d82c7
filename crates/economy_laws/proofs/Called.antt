-- Each fill, read and reclaim is of the wanted page, or of what is due.
use Rattle.std.proofs.Common.{◌≡◌, ◌⊎◌, inl, inr, ℕ, ◌&&◌, cond, Bool, true, false, List, [], ◌∷◌, Some, refl, sym, ap, ◌∙◌, subst}
use Rattle.vm_facts.specs.declared.page.Page.{Page}
use Rattle.vm_facts.specs.declared.page.PageState.TheVariants.{Unfilled}
use Rattle.vm_facts.specs.declared.entry.Entry.{Entry}
use Rattle.vm_facts.specs.declared.entry.Entry.TheVariants as entries
use Rattle.flat_state.specs.Flat.{Inputs, process_of}
use Rattle.page_model.specs.Placement.{Placement, Transfer, Due, CopyOf, due_of_page, state_of}
use Rattle.page_model.specs.Place.{space_of_process}
use Rattle.page_model.specs.Runs.{run_in}
use Rattle.page_model.specs.Serve.{force_entry, is_full, serve_entry, entry_of_serving}
use Rattle.page_model.specs.Dues.{DueStand, HasSource, IsDue}
use Rattle.page_laws.proofs.Swapper.PuttingOut.{unit_case}
use Rattle.page_laws.proofs.Moves.Units.{unit_is, served_valid}
use Rattle.page_laws.proofs.Moves.Cases.{forcing_entry, serving_cases}
use Rattle.flat_state.proofs.PageNames.{same_page_self}
use Rattle.flat_model.specs.Run.{process_of_entry}
use Rattle.run_model.specs.State.{State}
use Rattle.run_model.specs.Wanted.{locked}
use Rattle.run_model.specs.Next.{fill_by, fill_unit, begins_write, move_by, move_unit, next_unit}
use Rattle.run_model.specs.Kinds.{Kind, Fills, Brings, Copies, ServesWanted, Acts, ProcessComes, Interrupts, HandsMove, ProcessGoes, Notes, Begins}
use Rattle.run_model.proofs.NextUnits.{kind_of}
use Rattle.run_laws.specs.Running.{IsRun}
use Rattle.run_laws.specs.Standing.{Placed}
use Rattle.run_laws.proofs.Flows.{Acted, Settles, Refuses, Steps, acted, steps_own}
use Rattle.run_laws.proofs.Settling.{IsMark, begins_is}
use Rattle.economy_laws.specs.Called.{IsWanted, IsStartDue, IsCopyDue, IsParentOfDue}

-- What a unit names.

-- the page that serving is asked for, with the run of a read
abbrev ForServed : Placement → Page → Entry → Type 0
ForServed p q (entries.Zero r) = (r ≡ q) × (state_of p q ≡ Unfilled)
ForServed p q (entries.Get r lo n) = (r ≡ q) × (lo ≡ (run_in p q).lo) × (n ≡ (run_in p q).n)
ForServed p q (entries.Copy r) = ⊥
ForServed p q (entries.Reclaim r) = r ≡ q
ForServed p q e = Unit {0}

force_served : (p : Placement) (q : Page) (ts : List Transfer) → ForServed p q (force_entry ts)
force_served p q = forcing_entry (ForServed p q) tt tt

serve_served : (p : Placement) (q : Page) → ForServed p q (serve_entry p q)
serve_served p q = serving_cases (λ x. ForServed p q (entry_of_serving x)) p q (λ f s. tt) (λ f s. refl) (λ f s. tt) (λ n l. force_served p q p.transfers)
    (λ f fs l s x. (refl, s)) (λ f fs l r b. tt) (λ f fs l r b. (refl, refl, refl))

-- the page of a next unit, with the run of a read
abbrev Names : Inputs → State → Entry → Type 0
Names A s (entries.Zero q) = (IsWanted A s q ⊎ IsStartDue s.place q) ⊎ (IsParentOfDue s.place q × (state_of s.place q ≡ Unfilled))
Names A s (entries.Get q lo n) = (IsWanted A s q ⊎ IsParentOfDue s.place q) × (lo ≡ (run_in s.place q).lo) × (n ≡ (run_in s.place q).n)
Names A s (entries.Copy q) = IsCopyDue s.place q
Names A s (entries.Reclaim q) = IsWanted A s q ⊎ IsParentOfDue s.place q
Names A s e = Unit {0}

force_names : (A : Inputs) (s : State) (ts : List Transfer) → Names A s (force_entry ts)
force_names A s [] = tt
force_names A s (t ∷ ts) = tt

fill_names : (A : Inputs) (s : State) (e : Entry) → Names A s e → Names A s (fill_unit s.place e)
fill_names A s e h = go s.place.free
  where
    go : (fr : List ℕ) → Names A s (fill_by s.place e fr)
    go [] = force_names A s s.place.transfers
    go (f ∷ fs) = h

wanted_names : (A : Inputs) (s : State) (q : Page) (e : Entry) → IsWanted A s q → ForServed s.place q e → Names A s e
wanted_names A s q (entries.Zero r) w h = inl (inl (subst (IsWanted A s) (sym h.0) w))
wanted_names A s q (entries.Get r lo n) w h = (
  inl (subst (IsWanted A s) (sym h.0) w),
  h.1 ∙ ap (λ (x : Page). (run_in s.place x).lo) (sym h.0),
  h.2 ∙ ap (λ (x : Page). (run_in s.place x).n) (sym h.0),
)
wanted_names A s q (entries.Copy r) w h = absurd h
wanted_names A s q (entries.Reclaim r) w h = inl (subst (IsWanted A s) (sym h) w)
wanted_names A s q _ w h = tt

parent_names : (A : Inputs) (s : State) (q : Page) (e : Entry) → IsParentOfDue s.place q → ForServed s.place q e → Names A s e
parent_names A s q (entries.Zero r) w h = inr (subst (IsParentOfDue s.place) (sym h.0) w, ap (state_of s.place) h.0 ∙ h.1)
parent_names A s q (entries.Get r lo n) w h = (
  inr (subst (IsParentOfDue s.place) (sym h.0) w),
  h.1 ∙ ap (λ (x : Page). (run_in s.place x).lo) (sym h.0),
  h.2 ∙ ap (λ (x : Page). (run_in s.place x).n) (sym h.0),
)
parent_names A s q (entries.Copy r) w h = absurd h
parent_names A s q (entries.Reclaim r) w h = inr (subst (IsParentOfDue s.place) (sym h) w)
parent_names A s q _ w h = tt

move_names : (A : Inputs) (s : State) (pages : List Page) → Names A s (move_unit s.place pages)
move_names A s pages = go (begins_write s.place pages && is_full s.place)
  where
    go : (b : Bool) → Names A s (move_by b)
    go true = tt
    go false = tt

flat_names : (A : Inputs) (s : State) (u : Entry) (pid : ℕ) → process_of_entry u ≡ Some pid → Names A s u
flat_names A s (entries.Zero q) pid e = absurd cc
flat_names A s (entries.Get q lo n) pid e = absurd cc
flat_names A s (entries.Copy q) pid e = absurd cc
flat_names A s (entries.Reclaim q) pid e = absurd cc
flat_names A s _ pid e = tt

mark_names : (A : Inputs) (s : State) (u : Entry) → IsMark u → Names A s u
mark_names A s (entries.Zero q) k = absurd k
mark_names A s (entries.Get q lo n) k = absurd k
mark_names A s (entries.Copy q) k = absurd k
mark_names A s (entries.Reclaim q) k = absurd k
mark_names A s _ k = tt

kind_names : (A : Inputs) (s : State) (u : Entry) → Kind A s u → Names A s u
kind_names A s u (Fills q due e i) = subst (Names A s) (sym i) (fill_names A s (entries.Zero q) (inl (inr (record { rest = due; first = e }))))
kind_names A s u (Brings q parent due e i) =
    subst (Names A s) (sym (unit_is s.place parent true u i).1) (parent_names A s parent (serve_entry s.place parent) (record { child = q; rest = due; first = e }) (serve_served s.place parent))
kind_names A s u (Copies q parent due e j i) = subst (Names A s) (sym i) (fill_names A s (entries.Copy q) (record { parent = parent; rest = due; first = e; source = served_valid s.place parent j }))
kind_names A s u (ServesWanted pid now q r w i) =
    subst (Names A s) (sym (unit_is s.place q now u i).1) (wanted_names A s q (serve_entry s.place q) (record { pid = pid; now = now; runs = r; wanted = w }) (serve_served s.place q))
kind_names A s u (Acts pid now r w a) = by (acted A s pid u a)
  where
    by : Acted A s pid u → Names A s u
    by (Settles i) = subst (Names A s) (sym i) tt
    by (Refuses i) = subst (Names A s) (sym i) tt
    by (Steps f g i) = flat_names A s u pid (steps_own A s.point pid u i)
kind_names A s u (ProcessComes pid e c i) = subst (Names A s) (sym i) tt
kind_names A s u (Interrupts e j i) = subst (Names A s) (sym i) tt
kind_names A s u (HandsMove count e j l w i) = subst (Names A s) (sym i) (move_names A s (locked A s))
kind_names A s u (ProcessGoes pid e j i) = subst (Names A s) (sym i)
    (unit_case (Names A s) s.place pid (space_of_process (process_of s.point.flat pid)) (λ t ts h. tt) (λ v a h k. tt) (λ a h. tt))
kind_names A s u (Notes e j i) = subst (Names A s) (sym i) tt
kind_names A s u (Begins e j i) = begins_is (Names A s) A s u i (λ x k. mark_names A s x k)

unit_names : (A : Inputs) (s : State) (u : Entry) → next_unit A s ≡ Some u → Names A s u
unit_names A s u h = kind_names A s u (kind_of A s u h)

-- The laws.

-- what a copy is made from was filled
parent_filled : (p : Placement) (q : Page) → DueStand p → IsParentOfDue p q → state_of p q ≡ Unfilled → ⊥
parent_filled p q d w e =
    let first : due_of_page (CopyOf w.child q ∷ w.rest) w.child ≡ Some (CopyOf w.child q) = ap (λ (b : Bool). cond b (Some (CopyOf w.child q)) (due_of_page w.rest w.child)) (same_page_self w.child) in
    let due : IsDue p w.child (CopyOf w.child q) = d w.child (CopyOf w.child q) (ap (λ (ds : List Due). due_of_page ds w.child) w.first ∙ first) in
    let source : HasSource p (CopyOf w.child q) = due.source in
    source.1 e

module _ (A : Inputs) (s : State) (q : Page) where
  pub zero_called : IsRun A s → next_unit A s ≡ Some (entries.Zero q) → IsWanted A s q ⊎ IsStartDue s.place q
  zero_called r h = elim (unit_names A s (entries.Zero q) h) [
    | inl k ↦ k
    | inr k ↦ absurd (parent_filled s.place q (let st : Placed A s.point.flat s.place s.holdings = r.placed in st.dues) k.0 k.1)
  ]

  pub get_called : (lo n : ℕ) → next_unit A s ≡ Some (entries.Get q lo n) → IsWanted A s q ⊎ IsParentOfDue s.place q
  get_called lo n h = (unit_names A s (entries.Get q lo n) h).0

  pub get_run : (lo n : ℕ) → next_unit A s ≡ Some (entries.Get q lo n) → (lo ≡ (run_in s.place q).lo) × (n ≡ (run_in s.place q).n)
  get_run lo n h = let k = unit_names A s (entries.Get q lo n) h in (k.1, k.2)

  pub reclaim_called : next_unit A s ≡ Some (entries.Reclaim q) → IsWanted A s q ⊎ IsParentOfDue s.place q
  reclaim_called h = unit_names A s (entries.Reclaim q) h

  pub copy_called : next_unit A s ≡ Some (entries.Copy q) → IsCopyDue s.place q
  copy_called h = unit_names A s (entries.Copy q) h
