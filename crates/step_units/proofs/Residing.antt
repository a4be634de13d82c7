-- In the closing phase nobody goes out.
use Rattle.std.proofs.Common.{◌≡◌, inl, inr, ℕ, Bool, true, false, List, [], ◌∷◌, Option, Some, refl, sym, ◌∙◌, subst}
use Rattle.vm_facts.specs.SwapImages.{SwapImage}
use Rattle.vm_facts.specs.declared.page.Page.{Page}
use Rattle.vm_facts.specs.declared.entry.Entry.{Entry}
use Rattle.vm_facts.specs.declared.entry.Entry.TheVariants as entries
use Rattle.aout_image.specs.declared.Image.{Image}
use Rattle.flat_state.specs.Flat.{FlatState, Inputs}
use Rattle.flat_state.specs.declared.change.Change.{Change}
use Rattle.flat_model.specs.Run.{process_of_entry, step_at}
use Rattle.kernel_model.specs.Kernel.{Kernel}
use Rattle.page_model.specs.Placement.{Placement}
use Rattle.page_model.specs.Moves.{touch_all}
use Rattle.page_model.specs.Place.{changing_in, place_entry, place_step, facts_of}
use Rattle.page_model.specs.Serve.{serve_entry}
use Rattle.page_model.specs.Swapper.{is_out}
use Rattle.page_laws.proofs.Moves.Units.{unit_is}
use Rattle.run_model.specs.State.{State}
use Rattle.run_model.specs.Wanted.{locked}
use Rattle.run_model.specs.After.{after, place_at, place_behind}
use Rattle.run_model.specs.Snapshot.{pages_written}
use Rattle.run_model.specs.Next.{fill_unit, next_unit}
use Rattle.run_laws.specs.Machine.{MakesSwap, unit_step, unit_swap}
use Rattle.run_laws.proofs.Flows.{Acted, Settles, Refuses, Steps, acted, steps_own}
use Rattle.run_laws.proofs.Outs.{change_out}
use Rattle.run_laws.proofs.Paging.{Leaver, entry_out}
use Rattle.run_laws.proofs.Plain.{paging_stays, serve_paging, zero_paging, copy_paging}
use Rattle.run_laws.proofs.Stepping.{touched_out}
use Rattle.economy_laws.specs.Stretch.{begins_stretch, IsClosing}
use Rattle.economy_laws.proofs.Closing.{Closes, Fill, Bring, CopyIt, Serve, Act, In, closes, stays_closing, no_event}
use Rattle.run_units.specs.Leads.{Leads}
use Rattle.run_units.proofs.Serving.{not_out}

-- Who leaves.

flat_leaves_none : (u : Entry) (pid n : ℕ) → process_of_entry u ≡ Some pid → Leaver u n → ⊥
flat_leaves_none (entries.SwapOut p) pid n h l = absurd cc
flat_leaves_none _ pid n h l = l

beginning_leaves_none : (u : Entry) (n : ℕ) → begins_stretch u ≡ true → Leaver u n → ⊥
beginning_leaves_none (entries.SwapOut p) n h l = absurd cc
beginning_leaves_none _ n h l = l

closing_leaves_none : (A : Inputs) (s : State) (u : Entry) (pid n : ℕ) → Closes A s u pid → Leaver u n → ⊥
closing_leaves_none A s u pid n c l = go c
  where
    is : (x : Entry) → u ≡ x → Leaver x n
    is x i = subst (λ (e : Entry). Leaver e n) i l

    acts : Acted A s pid u → ⊥
    acts (Settles i) = is entries.Done i
    acts (Refuses i) = is (entries.Refused pid) i
    acts (Steps f g i) = flat_leaves_none u pid n (steps_own A s.point pid u i) l

    go : Closes A s u pid → ⊥
    go (Fill q ds d i) = paging_stays (fill_unit s.place (entries.Zero q)) n (zero_paging s.place q) (is (fill_unit s.place (entries.Zero q)) i)
    go (Bring q parent ds d i) = paging_stays (serve_entry s.place parent) n (serve_paging s.place parent) (is (serve_entry s.place parent) (unit_is s.place parent true u i).1)
    go (CopyIt q parent ds d k i) = paging_stays (fill_unit s.place (entries.Copy q)) n (copy_paging s.place q) (is (fill_unit s.place (entries.Copy q)) i)
    go (Serve q r w i) = paging_stays (serve_entry s.place q) n (serve_paging s.place q) (is (serve_entry s.place q) (unit_is s.place q true u i).1)
    go (Act r w a) = acts (acted A s pid u a)
    go (In d o i) = is (entries.SwapIn pid) i

-- no next unit of the closing phase puts a process out
none_leaves : (A : Inputs) (s : State) (u : Entry) (pid n : ℕ) → IsClosing A s pid → next_unit A s ≡ Some u → Leaver u n → ⊥
none_leaves A s u pid n c h l = go (begins_stretch u) refl
  where
    go : (b : Bool) → begins_stretch u ≡ b → ⊥
    go true e = beginning_leaves_none u n e l
    go false e = closing_leaves_none A s u pid n (closes A s u pid c h e) l

-- The phase stays the closing one, though a turn may be another's.

begun_closing : (A : Inputs) (s : State) (u : Entry) (pid : ℕ) → IsClosing A s pid → begins_stretch u ≡ true → (p : ℕ) × IsClosing A (after A s u) p
unfolding after
begun_closing A s (entries.Turn p) pid c e = (p, record { since = s.count; mark = refl; lines = c.lines })
begun_closing A s (entries.Ran p k) pid c e = (pid, record { since = c.since; mark = c.mark; lines = c.lines })
begun_closing A s (entries.Call p k b r0 r1) pid c e = (pid, record { since = c.since; mark = c.mark; lines = c.lines })
begun_closing A s (entries.Ended p k) pid c e = (pid, record { since = c.since; mark = c.mark; lines = c.lines })
begun_closing A s _ pid c e = absurd cc

still_closing : (A : Inputs) (s : State) (u : Entry) (pid : ℕ) → IsClosing A s pid → next_unit A s ≡ Some u → (p : ℕ) × IsClosing A (after A s u) p
still_closing A s u pid c h = go (begins_stretch u) refl
  where
    go : (b : Bool) → begins_stretch u ≡ b → (p : ℕ) × IsClosing A (after A s u) p
    go true e = begun_closing A s u pid c e
    go false e = (pid, stays_closing A s u pid c e (no_event A s u pid (closes A s u pid c h e)))

-- Who is out after a unit was out before, unless it leaves by it.

step_out : (images : List Image) (flat : FlatState) (pid at : ℕ) (written : List Page) (change : Change) (p : Placement) (n : ℕ)
    → is_out (place_step images flat pid at written change p) n ≡ true → is_out p n ≡ true
step_out images flat pid at written change p n e =
    sym (touched_out written p n)
    ∙ change_out (changing_in images flat pid at) (touch_all p written) change n e

paging_out : (pages : List Page) (at : ℕ) (p : Placement) (u : Entry) (n : ℕ) → (Leaver u n → ⊥) → is_out (place_entry pages at p u) n ≡ true
    → is_out p n ≡ true
paging_out pages at p u n f e = elim (entry_out pages at p u n e) [ inl k ↦ k | inr l ↦ absurd (f l) ]

process_out : (A : Inputs) (s : State) (pid : ℕ) (u : Entry) (n : ℕ) → is_out (place_behind A s pid (step_at A s.point pid) u) n ≡ true
    → is_out s.place n ≡ true
process_out A s pid u n e =
    step_out (facts_of A.images) s.point.flat pid (place_at s u) (pages_written s.point.flat pid (step_at A s.point pid)) (step_at A s.point pid).change s.place n e

pub out_before : (A : Inputs) (s : State) (u : Entry) (n : ℕ) → (Leaver u n → ⊥) → is_out (after A s u).place n ≡ true → is_out s.place n ≡ true
unfolding after
out_before A s (entries.Event line) n f e = e
out_before A s (entries.Turn p) n f e = e
out_before A s (entries.Ran p k) n f e = process_out A s p (entries.Ran p k) n e
out_before A s (entries.Out p bytes) n f e = e
out_before A s (entries.Grew p k) n f e = process_out A s p (entries.Grew p k) n e
out_before A s (entries.Call p k b r0 r1) n f e = process_out A s p (entries.Call p k b r0 r1) n e
out_before A s (entries.Refused p) n f e = e
out_before A s (entries.Sleeps p) n f e = process_out A s p (entries.Sleeps p) n e
out_before A s (entries.Ended p k) n f e = process_out A s p (entries.Ended p k) n e
out_before A s (entries.Zero q) n f e = paging_out (locked A s) (place_at s (entries.Zero q)) s.place (entries.Zero q) n f e
out_before A s (entries.Get q lo k) n f e = paging_out (locked A s) (place_at s (entries.Get q lo k)) s.place (entries.Get q lo k) n f e
out_before A s (entries.Copy q) n f e = paging_out (locked A s) (place_at s (entries.Copy q)) s.place (entries.Copy q) n f e
out_before A s (entries.Reclaim q) n f e = paging_out (locked A s) (place_at s (entries.Reclaim q)) s.place (entries.Reclaim q) n f e
out_before A s (entries.Hands k) n f e = paging_out (locked A s) (place_at s (entries.Hands k)) s.place (entries.Hands k) n f e
out_before A s (entries.Put q k) n f e = paging_out (locked A s) (place_at s (entries.Put q k)) s.place (entries.Put q k) n f e
out_before A s entries.Done n f e = paging_out (locked A s) (place_at s entries.Done) s.place entries.Done n f e
out_before A s (entries.SwapOut p) n f e = paging_out (locked A s) (place_at s (entries.SwapOut p)) s.place (entries.SwapOut p) n f e
out_before A s (entries.SwapIn p) n f e = paging_out (locked A s) (place_at s (entries.SwapIn p)) s.place (entries.SwapIn p) n f e
out_before A s (entries.Owners a b m d) n f e = e

-- Who is in stays in.

all_stay_in : (A : Inputs) (us : List Entry) (s t : State) (k l : Kernel) (image behind : SwapImage) (pid n : ℕ) → IsClosing A s pid
    → MakesSwap A s k image us t l behind
    → is_out s.place n ≡ false → is_out t.place n ≡ false
all_stay_in A [] s t k l image behind pid n c m h = subst (λ (x : State). is_out x.place n ≡ false) m.0 h
all_stay_in A (u ∷ us) s t k l image behind pid n c m h =
    let d = still_closing A s u pid c m.0 in
    all_stay_in A us (after A s u) t (unit_step A s k image.bytes m.1.0 u) l (unit_swap A k image u) behind d.0 n d.1 m.1.2
    (not_out s.place (after A s u).place n (out_before A s u n (none_leaves A s u pid n c m.0)) h)

pub closing_stays_in : (A : Inputs) (s t : State) (k l : Kernel) (image : SwapImage) (j : Option SwapImage) (us : List Entry) (pid n : ℕ)
    → IsClosing A s pid → Leads A s k image us t l j
    → is_out s.place n ≡ false → is_out t.place n ≡ false
closing_stays_in A s t k l image j us pid n c m h = all_stay_in A us s t k l image m.behind pid n c m.makes h
