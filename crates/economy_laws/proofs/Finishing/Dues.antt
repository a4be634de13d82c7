-- What is due is filled: for each page a frame is forced, and a parent's page is served, till it is.
use Rattle.std.proofs.Common.{◌≡◌, ℕ, zero, suc, ◌+◌, ◌<◌, ◌≤◌, Bool, true, false, List, [], ◌∷◌, length, Option, Some, None, refl, sym, ap, ◌∙◌, subst, arith}
use Rattle.vm_facts.specs.declared.page.Page.{Page}
use Rattle.vm_facts.specs.declared.entry.Entry.{Entry}
use Rattle.vm_facts.specs.declared.entry.Entry.TheVariants as entries
use Rattle.flat_state.specs.Flat.{Inputs}
use Rattle.page_model.specs.Pages.{is_valid}
use Rattle.page_model.specs.Placement.{Placement, Due, Start, CopyOf, due_page, state_of, IsThere}
use Rattle.page_model.specs.Place.{due_after, filled, place_entry}
use Rattle.page_model.specs.Serve.{force, force_entry, serve_entry, serve_unit, Serving, unit_of_serving}
use Rattle.page_model.specs.Rank.{far, rank, HasRoom}
use Rattle.page_model.specs.Dues.{IsDue}
use Rattle.page_model.specs.Ownership.{OwnsFrames}
use Rattle.page_laws.proofs.Ends.Serving.{force_falls, serve_falls}
use Rattle.page_laws.proofs.Moves.Locks.{force_spares}
use Rattle.page_laws.proofs.Moves.Stays.{Stays, force_stays}
use Rattle.page_laws.proofs.Moves.Units.{now_unit}
use Rattle.page_laws.proofs.Ownership.Serve.{state_there}
use Rattle.page_laws.proofs.Moves.Cases.{serving_valid}
use Rattle.page_laws.proofs.Due.Entries.{serve_dues}
use Rattle.run_laws.proofs.Distinct.{among_first}
use Rattle.flat_model.specs.Run.{process_of_entry}
use Rattle.run_model.specs.declared.mark.Mark.{Mark}
use Rattle.run_model.specs.State.{State}
use Rattle.run_model.specs.Wanted.{locked, locked_by}
use Rattle.run_model.specs.After.{place_at, after}
use Rattle.run_model.specs.Next.{or_else, fill_by, fill_unit, copy_unit_by, due_unit, under, next_mark, next_unit}
use Rattle.run_laws.specs.Running.{IsRun}
use Rattle.run_laws.proofs.Allowed.{first_after}
use Rattle.run_laws.proofs.Room.{run_room}
use Rattle.run_laws.proofs.Units.{plain_place, owns, not_due}
use Rattle.economy_laws.specs.Finishes.{Finishes}
use Rattle.economy_laws.proofs.Left.{after_forced, after_served}
use Rattle.economy_laws.proofs.Stretching.{source_of}
use Rattle.economy_laws.proofs.Finishing.Stages.{Stage, finish_known, IsLasting, mark_lasts, stands}

pub due_next : (A : Inputs) (s : State) (d : Due) (ds : List Due) → s.place.due ≡ d ∷ ds
    → next_unit A s ≡ or_else (due_unit s.place (d ∷ ds)) (or_else (under A s s.mark) (next_mark A s))
unfolding next_unit
due_next A s d ds e = ap (λ (x : List Due). or_else (due_unit s.place x) (or_else (under A s s.mark) (next_mark A s))) e

-- Fills of the first page that is due, where a fact of placements stands: what is locked, and which unit is next.
pub record Filling (A : Inputs) (d : Due) (ds : List Due) (lk : List Page) (e : Entry) (Q : Placement → Type 0) : Type 0 where
  pub locks : (s : State) → s.place.due ≡ d ∷ ds → locked A s ≡ lk
  pub unit : (s : State) → s.place.due ≡ d ∷ ds → Q s.place → next_unit A s ≡ Some (fill_unit s.place e)
  pub keeps : (p : Placement) → OwnsFrames p → Q p → Q (force p lk)
  pub fills : (pages : List Page) (at : ℕ) (p : Placement) → place_entry pages at p e ≡ filled p (due_page d)
  pub plain : process_of_entry e ≡ None

start_filling : (A : Inputs) (q : Page) (ds : List Due) → Filling A (Start q) ds [] (entries.Zero q) (λ p. Unit {0})
start_filling A q ds = record {
  locks = λ s e. ap (locked_by A s) e;
  unit = λ s e w. due_next A s (Start q) ds e;
  keeps = λ p o w. tt;
  fills = λ pages at p. refl;
  plain = refl;
}

valid_none : (p : Placement) (q : Page) → is_valid (state_of p q) ≡ true → serve_unit p q true ≡ None
valid_none p q h = ap (λ (x : Serving). unit_of_serving x true) (serving_valid p q h)

copy_filling : (A : Inputs) (q parent : Page) (ds : List Due)
    → Filling A (CopyOf q parent) ds (parent ∷ []) (entries.Copy q) (λ p. is_valid (state_of p parent) ≡ true)
copy_filling A q parent ds = record {
  locks = λ s e. ap (locked_by A s) e;
  unit = λ s e w. due_next A s (CopyOf q parent) ds e ∙ ap (λ (o : Option Entry). Some (copy_unit_by s.place q o)) (valid_none s.place parent w);
  keeps = λ p o w. force_spares p (parent ∷ []) o parent (among_first parent []) w;
  fills = λ pages at p. refl;
  plain = refl;
}

-- with the first page filled, or none, that is due
abbrev pub Then : (A : Inputs) → (State → Type 0) → List Due → Mark → Type 0
Then A P ds m = (t : State) → P t → t.place.due ≡ ds → t.mark ≡ m → Finishes A t

fill_ends : (n : ℕ) (A : Inputs) (P : State → Type 0) (d : Due) (ds : List Due) (lk : List Page) (e : Entry) (Q : Placement → Type 0) (m : Mark) (s : State)
    → Filling A d ds lk e Q → Stage A P → IsLasting m → Then A P ds m
    → P s → s.place.due ≡ d ∷ ds → s.mark ≡ m → Q s.place → far s.place lk < n → Finishes A s
fill_ends zero A P d ds lk e Q m s x g l on p k mk w lt = absurd (omega arith)
fill_ends (suc n) A P d ds lk e Q m s x g l on p k mk w lt = go (λ t. fill_ends n A P d ds lk e Q m t x g l on) s.place.free refl
  where
    r : IsRun A s
    r = g.run s p

    room : HasRoom s.place lk
    room = subst (HasRoom s.place) (x.locks s k) (run_room A s r g.frames)

    lasts : IsLasting s.mark
    lasts = subst IsLasting (sym mk) l

    go : ((t : State) → P t → t.place.due ≡ d ∷ ds → t.mark ≡ m → Q t.place → far t.place lk < n → Finishes A t) → (fr : List ℕ) → s.place.free ≡ fr → Finishes A s
    go more [] f =
        let u : Entry = force_entry s.place.transfers in
        finish_known A P s u g p (x.unit s k w ∙ ap (λ (fr : List ℕ). Some (fill_by s.place e fr)) f) (λ b p2.
        let pl = after_forced A s u lk (x.locks s k) refl in
        let st : Stays s.place (force s.place lk) = force_stays s.place lk (owns A s r.placed) in
        let a = ap (λ (q : Placement). far q lk) pl in
        let c = force_falls s.place lk (owns A s r.placed) (stands A s r) room f in
        more (after A s u) p2 (ap (λ (q : Placement). q.due) pl ∙ st.due ∙ k) (mark_lasts A s u lasts b ∙ mk) (subst Q (sym pl) (x.keeps s.place (owns A s r.placed) w)) (omega arith))
    go more (f ∷ fs) h =
        finish_known A P s e g p (x.unit s k w ∙ ap (λ (fr : List ℕ). Some (fill_by s.place e fr)) h) (λ b p2.
        let pl : (after A s e).place ≡ filled s.place (due_page d) = plain_place A s e x.plain ∙ x.fills (locked A s) (place_at s e) s.place in
        on (after A s e) p2 (ap (λ (q : Placement). q.due) pl ∙ ap (λ (y : List Due). due_after y (due_page d)) k ∙ first_after d ds) (mark_lasts A s e lasts b ∙ mk))

bring_ends : (n : ℕ) (A : Inputs) (P : State → Type 0) (q parent : Page) (ds : List Due) (m : Mark) (s : State) → Stage A P → IsLasting m → Then A P ds m
    → P s → s.place.due ≡ CopyOf q parent ∷ ds → s.mark ≡ m → rank s.place (parent ∷ []) parent < n → Finishes A s
bring_ends zero A P q parent ds m s g l on p k mk lt = absurd (omega arith)
bring_ends (suc n) A P q parent ds m s g l on p k mk lt =
    let lk : List Page = parent ∷ [] in
    let locks : locked A s ≡ parent ∷ [] = ap (locked_by A s) k in
    go (λ t. bring_ends n A P q parent ds m t g l on) (is_valid (state_of s.place parent)) refl
  where
    r : IsRun A s
    r = g.run s p

    room : HasRoom s.place (parent ∷ [])
    room = subst (HasRoom s.place) (ap (locked_by A s) k) (run_room A s r g.frames)

    due : IsDue s.place q (CopyOf q parent)
    due = source_of A s q parent ds r k

    there : IsThere s.place parent
    there = state_there s.place parent (due.source).1

    go : ((t : State) → P t → t.place.due ≡ CopyOf q parent ∷ ds → t.mark ≡ m → rank t.place (parent ∷ []) parent < n → Finishes A t) → (v : Bool)
        → is_valid (state_of s.place parent) ≡ v → Finishes A s
    go more true v = fill_ends (1 + far s.place (parent ∷ [])) A P (CopyOf q parent) ds (parent ∷ []) (entries.Copy q) (λ (y : Placement). is_valid (state_of y parent) ≡ true) m s
        (copy_filling A q parent ds) g l on p k mk v (omega arith)
    go more false v =
        let u : Entry = serve_entry s.place parent in
        finish_known A P s u g p (due_next A s (CopyOf q parent) ds k ∙ ap (λ (o : Option Entry). Some (copy_unit_by s.place q o)) (now_unit s.place parent v)) (λ b p2.
        let st = r.placed in
        let pl = after_served A s u (parent ∷ []) parent (ap (locked_by A s) k) (now_unit s.place parent v) in
        let a = ap (λ (y : Placement). rank y (parent ∷ []) parent) pl in
        let c = serve_falls s.place (parent ∷ []) parent (owns A s r.placed) (stands A s r) room there v in
        more (after A s u) p2 (ap (λ (y : Placement). y.due) pl ∙ serve_dues s.place (parent ∷ []) parent (owns A s r.placed) (not_due s.place parent st.dues (due.source).1) ∙ k)
        (mark_lasts A s u (subst IsLasting (sym mk) l) b ∙ mk) (omega arith))

-- All that is due.
pub due_ends : (n : ℕ) (A : Inputs) (P : State → Type 0) (m : Mark) (s : State) → Stage A P → IsLasting m → Then A P [] m → P s
    → length s.place.due ≤ n → s.mark ≡ m → Finishes A s
due_ends zero A P m s g l on p lt mk = go s.place.due refl
  where
    go : (ds : List Due) → s.place.due ≡ ds → Finishes A s
    go [] k = on s p k mk
    go (d ∷ ds) k = absurd (let a = ap length k in omega arith)
due_ends (suc n) A P m s g l on p lt mk = go (λ t. due_ends n A P m t g l on) s.place.due refl
  where
    go : ((t : State) → P t → length t.place.due ≤ n → t.mark ≡ m → Finishes A t) → (ds : List Due) → s.place.due ≡ ds → Finishes A s
    go more [] k = on s p k mk
    go more (Start q ∷ ds) k =
        fill_ends (1 + far s.place []) A P (Start q) ds [] (entries.Zero q) (λ (y : Placement). Unit {0}) m s (start_filling A q ds) g l
        (λ t pt kt mt. more t pt (let a = ap length kt in let b = ap length k in omega arith) mt) p k mk tt (omega arith)
    go more (CopyOf q parent ∷ ds) k =
        bring_ends (1 + rank s.place (parent ∷ []) parent) A P q parent ds m s g l
        (λ t pt kt mt. more t pt (let a = ap length kt in let b = ap length k in omega arith) mt) p k mk (omega arith)
