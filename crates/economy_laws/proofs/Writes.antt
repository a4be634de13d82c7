-- Between two writes of a page a unit makes a further one worth it.
use Rattle.std.proofs.Common.{◌≡◌, ◌⊎◌, inl, inr, ℕ, ◌*◌, ◌&&◌, Bool, true, false, List, [], ◌∷◌, length, Option, Some, None, refl, sym, ap, ◌∙◌, subst}
use Rattle.vm_facts.specs.declared.page.Page.{Page}
use Rattle.vm_facts.specs.declared.page.Page.TheVariants.{Data, Stack, Text}
use Rattle.vm_facts.specs.declared.entry.Entry.{Entry}
use Rattle.vm_facts.specs.declared.entry.Entry.TheVariants as entries
use Rattle.swap_book.specs.declared.Owner.TheVariants as owners
use Rattle.swap_book.specs.Holdings.{lengths}
use Rattle.flat_state.specs.Flat.{Inputs, process_of}
use Rattle.page_model.specs.Pages.{is_dirty_by}
use Rattle.flat_state.specs.PageNames.{same_page, is_among, number_of, beside, pages_from}
use Rattle.page_model.specs.Placement.{Placement, Transfer, is_dirty, slots_of, sharers}
use Rattle.page_model.specs.Place.{space_of_process, facts_of}
use Rattle.page_model.specs.Runs.{run_put, run_put_by, run_up, is_seated, is_near, most_written}
use Rattle.page_model.specs.Serve.{force_entry, is_full, serve_entry}
use Rattle.page_model.specs.Ownership.{OneOwner, OwnsBlocks, text_pieces_while}
use Rattle.kernel_model.specs.Sound.{Sound, lives}
use Rattle.kernel_model.specs.Start.{ImagesFit}
use Rattle.flat_state.proofs.PageNames.{same_page_self}
use Rattle.page_laws.proofs.Lists.Runs.{run_each, run_up_in}
use Rattle.std.proofs.lemmas.Bool.{and_parts}
use Rattle.page_laws.proofs.Swapper.PuttingOut.{unit_case}
use Rattle.page_laws.proofs.Moves.Units.{unit_is}
use Rattle.page_laws.proofs.Moves.Cases.{serving_entries}
use Rattle.flat_model.specs.Run.{process_of_entry, step_at}
use Rattle.run_model.specs.State.{State}
use Rattle.run_model.specs.After.{place_at, after}
use Rattle.run_model.specs.Wanted.{locked}
use Rattle.run_model.specs.Next.{fill_by, fill_unit, begins_write, move_by, move_unit, next_unit}
use Rattle.run_model.specs.Kinds.{Kind, Fills, Brings, Copies, ServesWanted, Acts, ProcessComes, Interrupts, HandsMove, ProcessGoes, Notes, Begins}
use Rattle.run_model.specs.Lawful.{Follows}
use Rattle.run_model.proofs.NextUnits.{kind_of}
use Rattle.run_laws.specs.Standing.{machine_of, Placed}
use Rattle.run_laws.specs.Running.{IsRun}
use Rattle.run_laws.proofs.Flows.{Acted, Settles, Refuses, Steps, acted, steps_own}
use Rattle.run_laws.proofs.Settling.{IsMark, begins_is}
use Rattle.run_laws.proofs.Units.{plain_place, owns}
use Rattle.run_laws.proofs.Wholes.{unit_run}
use Rattle.economy_laws.specs.Worth.{stored_pages, step_writes, renews_page, is_empty, renews, Happens}
use Rattle.economy_laws.proofs.Calm.{Calm, AllDirty, is_text, Spares, entry_calm, stored_going, stored_calm}
use Rattle.economy_laws.proofs.CalmChanges.{text_clean, TextShared, place_step_calm}

-- A put writes dirty pages alone.

abbrev pub PutsDirty : Placement → Entry → Type 0
PutsDirty p (entries.Put q n) = is_dirty p q ≡ true → AllDirty p (pages_from q (number_of q) n)
PutsDirty p _ = Unit {0}

run_put_dirty : (p : Placement) (v : Page) → is_dirty p v ≡ true → AllDirty p (pages_from v (number_of v) (run_put p v).n)
run_put_dirty p v d =
    let passes : ℕ → Bool = λ w. is_seated p (beside v w) && (is_dirty p (beside v w) && is_near v w) in
    subst (λ (b : Bool). AllDirty p (pages_from v (number_of v) (run_put_by p v b).n)) (sym d)
    (run_each (λ r. is_dirty p r ≡ true) passes v (run_up passes (number_of v) most_written) (run_up_in passes (number_of v) most_written) d
    (λ w e. (and_parts (is_dirty p (beside v w)) (is_near v w) (and_parts (is_seated p (beside v w)) (is_dirty p (beside v w) && is_near v w) e).1).0))

force_puts : (p : Placement) (ts : List Transfer) → PutsDirty p (force_entry ts)
force_puts p [] = tt
force_puts p (t ∷ ts) = tt

fill_puts : (p : Placement) (e : Entry) → PutsDirty p e → PutsDirty p (fill_unit p e)
fill_puts p e h = go p.free
  where
    go : (fr : List ℕ) → PutsDirty p (fill_by p e fr)
    go [] = force_puts p p.transfers
    go (f ∷ fs) = h

serve_puts : (p : Placement) (q : Page) → PutsDirty p (serve_entry p q)
serve_puts p q = serving_entries (PutsDirty p) p q tt tt tt tt tt

move_puts : (p : Placement) (pages : List Page) → PutsDirty p (move_unit p pages)
move_puts p pages = go (begins_write p pages && is_full p)
  where
    go : (b : Bool) → PutsDirty p (move_by b)
    go true = tt
    go false = tt

flat_puts : (p : Placement) (u : Entry) (pid : ℕ) → process_of_entry u ≡ Some pid → PutsDirty p u
flat_puts p (entries.Put q n) pid e = absurd cc
flat_puts p _ pid e = tt

mark_puts : (p : Placement) (u : Entry) → IsMark u → PutsDirty p u
mark_puts p (entries.Put q n) k = absurd k
mark_puts p _ k = tt

kind_puts : (A : Inputs) (s : State) (u : Entry) → Kind A s u → PutsDirty s.place u
kind_puts A s u (Fills q due e i) = subst (PutsDirty s.place) (sym i) (fill_puts s.place (entries.Zero q) tt)
kind_puts A s u (Brings q parent due e i) = subst (PutsDirty s.place) (sym (unit_is s.place parent true u i).1) (serve_puts s.place parent)
kind_puts A s u (Copies q parent due e j i) = subst (PutsDirty s.place) (sym i) (fill_puts s.place (entries.Copy q) tt)
kind_puts A s u (ServesWanted pid now q r w i) = subst (PutsDirty s.place) (sym (unit_is s.place q now u i).1) (serve_puts s.place q)
kind_puts A s u (Acts pid now r w a) = by (acted A s pid u a)
  where
    by : Acted A s pid u → PutsDirty s.place u
    by (Settles i) = subst (PutsDirty s.place) (sym i) tt
    by (Refuses i) = subst (PutsDirty s.place) (sym i) tt
    by (Steps f g i) = flat_puts s.place u pid (steps_own A s.point pid u i)
kind_puts A s u (ProcessComes pid e c i) = subst (PutsDirty s.place) (sym i) tt
kind_puts A s u (Interrupts e j i) = subst (PutsDirty s.place) (sym i) tt
kind_puts A s u (HandsMove count e j l w i) = subst (PutsDirty s.place) (sym i) (move_puts s.place (locked A s))
kind_puts A s u (ProcessGoes pid e j i) = subst (PutsDirty s.place) (sym i)
    (unit_case (PutsDirty s.place) s.place pid (space_of_process (process_of s.point.flat pid)) (λ t ts h. tt) (λ v a h k d. run_put_dirty s.place v d) (λ a h. tt))
kind_puts A s u (Notes e j i) = subst (PutsDirty s.place) (sym i) tt
kind_puts A s u (Begins e j i) = begins_is (PutsDirty s.place) A s u i (λ x k. mark_puts s.place x k)

-- What a unit behind which the page may not be written again leaves.

-- no fill of it, and no user write
abbrev pub Unmarked : Inputs → State → Entry → Page → Type 0
Unmarked A s u q = (is_text q ≡ true) ⊎ (renews_page A s u q ≡ false)

unmarked : (A : Inputs) (s : State) (u : Entry) (q : Page) → renews A s u q ≡ false → Unmarked A s u q
unmarked A s u (Text image v) h = inl refl
unmarked A s u _ h = inr h

-- where no space shares an image, none of its text pieces is held
text_given_back : (A : Inputs) (s : State) (image : ℕ) → IsRun A s → sharers s.place image ≡ 0 → lengths (owners.Text image) s.holdings ≡ []
text_given_back A s image r z =
    let st : Placed A s.point.flat s.place s.holdings = r.placed in
    let so : Sound A.swap_blocks (machine_of s.point.flat s.place s.holdings) = st.sound in
    let o : OneOwner A.swap_blocks (lives (machine_of s.point.flat s.place s.holdings).processes) s.place s.holdings = so.owner in
    let b : OwnsBlocks A.swap_blocks (lives (machine_of s.point.flat s.place s.holdings).processes) s.place s.holdings = o.blocks in
    b.text_held image ∙ ap (λ (n : ℕ). text_pieces_while n (2 * length (slots_of s.place (Text image 0)))) z

shared : (A : Inputs) (s : State) (u : Entry) (q : Page) → IsRun A (after A s u) → renews A s u q ≡ false → TextShared (after A s u).place q
shared A s u (Text i v) r h = λ image n e z. absurd (
    let k : i ≡ image = ap key e in
    let y : lengths (owners.Text i) (after A s u).holdings ≡ [] = text_given_back A (after A s u) i r (ap (sharers (after A s u).place) k ∙ z) in
    let x : true ≡ false = sym (ap is_empty y) ∙ h in cc)
  where
    key : Page → ℕ
    key (Data sid v) = sid
    key (Stack sid v) = sid
    key (Text image v) = image
shared A s u _ r h = λ image n e z. absurd cc

differs : (r q : Page) → (is_text q ≡ true) ⊎ (same_page r q ≡ false) → q ≡ r → is_dirty_by r true ≡ false
differs r q (inl t) e = text_clean r (ap is_text (sym e) ∙ t)
differs r q (inr n) e = absurd (let z : true ≡ false = sym (same_page_self r) ∙ ap (same_page r) (sym e) ∙ n in cc)

spares : (A : Inputs) (s : State) (u : Entry) (q : Page) → Unmarked A s u q → PutsDirty s.place u → Spares s.place u q
spares A s (entries.Zero r) q m d = differs r q m
spares A s (entries.Copy r) q m d = differs r q m
spares A s (entries.Put r n) q m d = d
spares A s entries.Done q m d = m
spares A s _ q m d = tt

-- a plain unit
plain_calm : (A : Inputs) (s : State) (u : Entry) (q : Page) → process_of_entry u ≡ None → Unmarked A s u q → PutsDirty s.place u → Calm s.place q
    → Calm (after A s u).place q
plain_calm A s u q n m d c = subst (λ (p : Placement). Calm p q) (sym (plain_place A s u n)) (entry_calm (locked A s) (place_at s u) s.place u q (spares A s u q m d) c)

-- a flat unit
flat_calm : (A : Inputs) (s : State) (u : Entry) (q : Page) (pid : ℕ) → process_of_entry u ≡ Some pid → Unmarked A s u q
    → TextShared (after A s u).place q → Calm s.place q → Calm (after A s u).place q
unfolding after
flat_calm A s (entries.Ran p n) q pid e m t c = place_step_calm (facts_of A.images) s.point.flat p (place_at s (entries.Ran p n)) (step_writes A s p) (step_at A s.point p).change s.place q m t c
flat_calm A s (entries.Grew p n) q pid e m t c = place_step_calm (facts_of A.images) s.point.flat p (place_at s (entries.Grew p n)) (step_writes A s p) (step_at A s.point p).change s.place q m t c
flat_calm A s (entries.Call p n b r0 r1) q pid e m t c =
    place_step_calm (facts_of A.images) s.point.flat p (place_at s (entries.Call p n b r0 r1)) (step_writes A s p) (step_at A s.point p).change s.place q m t c
flat_calm A s (entries.Sleeps p) q pid e m t c = place_step_calm (facts_of A.images) s.point.flat p (place_at s (entries.Sleeps p)) (step_writes A s p) (step_at A s.point p).change s.place q m t c
flat_calm A s (entries.Ended p n) q pid e m t c = place_step_calm (facts_of A.images) s.point.flat p (place_at s (entries.Ended p n)) (step_writes A s p) (step_at A s.point p).change s.place q m t c
flat_calm A s (entries.Out p bytes) q pid e m t c = c
flat_calm A s (entries.Refused p) q pid e m t c = c
flat_calm A s _ q pid e m t c = absurd cc

pub unit_calm : (A : Inputs) (s : State) (u : Entry) (q : Page) → IsRun A (after A s u) → next_unit A s ≡ Some u → renews A s u q ≡ false
    → Calm s.place q → Calm (after A s u).place q
unit_calm A s u q r h n c = go (process_of_entry u) refl
  where
    go : (o : Option ℕ) → process_of_entry u ≡ o → Calm (after A s u).place q
    go None e = plain_calm A s u q e (unmarked A s u q n) (kind_puts A s u (kind_of A s u h)) c
    go (Some pid) e = flat_calm A s u q pid e (unmarked A s u q n) (shared A s u q r n) c

-- From a state at which a page is calm, up to one at which a unit writes it, a unit makes that worth it.
calm_worth : (A : Inputs) (us : List Entry) (s t : State) (w : Entry) (q : Page) → ImagesFit A.images → IsRun A s → Follows A s us t
    → next_unit A t ≡ Some w → Calm s.place q
    → is_among q (stored_pages t.place w) ≡ true → Happens (λ B x e. renews B x e q) A s us
calm_worth A [] s t w q images r f h c g = absurd (
    let d : Calm t.place q = subst (λ (x : State). Calm x.place q) f c in
    let k = stored_going t.place w q (owns A t (let x : IsRun A t = subst (IsRun A) f r in x.placed)) g in
    let z : true ≡ false = sym k ∙ d.1 in cc)
calm_worth A (u ∷ us) s t w q images r f h c g = go (renews A s u q) refl
    (λ d. calm_worth A us (after A s u) t w q images (unit_run A s u images r f.0) f.1 h d g)
  where
    go : (b : Bool) → renews A s u q ≡ b → (Calm (after A s u).place q → Happens (λ B x e. renews B x e q) A (after A s u) us) → Happens (λ B x e. renews B x e q) A s (u ∷ us)
    go true e more = inl e
    go false e more = inr (more (unit_calm A s u q (unit_run A s u images r f.0) f.0 e c))

stored_plain : (p : Placement) (u : Entry) (q : Page) → is_among q (stored_pages p u) ≡ true → process_of_entry u ≡ None
stored_plain p entries.Done q h = refl
stored_plain p _ q h = absurd cc

pub writes_worth : (A : Inputs) (s t : State) (u w : Entry) (us : List Entry) (q : Page) → ImagesFit A.images → IsRun A s → Follows A s (u ∷ us) t
    → next_unit A t ≡ Some w
    → is_among q (stored_pages s.place u) ≡ true → is_among q (stored_pages t.place w) ≡ true → Happens (λ B x e. renews B x e q) A (after A s u) us
writes_worth A s t u w us q images r f h a g = calm_worth A us (after A s u) t w q images (unit_run A s u images r f.0) f.1 h
    (subst (λ (p : Placement). Calm p q) (sym (plain_place A s u (stored_plain s.place u q a))) (stored_calm (locked A s) (place_at s u) s.place u q (owns A s r.placed) a)) g
