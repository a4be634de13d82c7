-- A machine with its bytes that stands at a state of a run stands at the next one, after the unit's own step.
use Rattle.std.proofs.Common.{◌≡◌, ◌⊎◌, inl, inr, ℕ, ◌*◌, ◌≤◌, Bool, true, false, List, [], ◌∷◌, length, map, Option, Some, None, refl, sym, ap, ◌∙◌, subst, arith}
use Rattle.std.proofs.lemmas.Option.{same_Some}
use Rattle.run_model.proofs.After.{after_journal}
use Rattle.flat_state.specs.Space.{Space}
use Rattle.flat_state.specs.Flat.{Holding, Holds, Process, FlatState, NamedImage, Inputs, process_of}
use Rattle.vm_facts.specs.declared.page.Page.{Page}
use Rattle.vm_facts.specs.declared.page.Page.TheVariants.{Data, Stack}
use Rattle.vm_facts.specs.declared.regs.Regs.{Regs}
use Rattle.vm_facts.specs.declared.entry.Entry.{Entry}
use Rattle.vm_facts.specs.declared.entry.Entry.TheVariants as entries
use Rattle.swap_book.specs.declared.Owner.TheVariants as owners
use Rattle.swap_book.specs.Holdings.{Holdings, block_in}
use Rattle.swap_book.specs.Book.{IsPlace, ArePlacesApart}
use Rattle.swap_book.proofs.PlaceLaws.{places_apart_of}
use Rattle.flat_state.specs.Journal.{append}
use Rattle.page_model.specs.Pages.{numbered}
use Rattle.page_model.specs.Placement.{Placement, Transfer, Part, Errand, Writes, Reads, space_number, slots_of}
use Rattle.page_model.specs.Place.{place_entry, space_of_holding}
use Rattle.page_model.specs.Swapper.{is_out}
use Rattle.page_model.specs.Ownership.{OwnsBlocks, OneOwner}
use Rattle.page_model.specs.PageBytes.{Bytes, source_bytes}
use Rattle.kernel_model.specs.Kernel.{Kernel, Proc, life_of, note_step, out_step, in_step}
use Rattle.kernel_model.specs.Coupled.{Outline, outline_kept, outline_of, SameTables, Coupled, KeepsRegs, AreRead, AreReadBy, beside_kernel}
use Rattle.kernel_model.specs.Sound.{has_life, lives, lives_in, Sound}
use Rattle.kernel_model.specs.UPage.{AreRegs, u_page, regs_in}
use Rattle.page_model.specs.Stored.{stored_at, store_at}
use Rattle.kernel_model.specs.ChangeStep.{space_of_life}
use Rattle.kernel_model.specs.Start.{ImagesFit, kept_of}
use Rattle.flat_state.specs.Numbers.{AllBelow, AllDistinct}
use Rattle.kernel_model.specs.Numbers.{Numbered}
use Rattle.kernel_model.specs.Stands.{Stands, holds_some}
use Rattle.vm_facts.proofs.Swap.{length-put_blocks}
use Rattle.kernel_laws.proofs.Sound.Steps.{alive_owner}
use Rattle.kernel_laws.proofs.Machine.Tables.{kept_pid, kept_at, outline_at, regs_at}
use Rattle.kernel_laws.proofs.Machine.Swaps.{found_at, out_coupled, in_coupled_any, u_length, u_found}
use Rattle.kernel_laws.proofs.Machine.Moves.{note_coupled}
use Rattle.kernel_laws.proofs.Stands.Steps.{note_stands, out_stands, in_stands}
use Rattle.kernel_laws.proofs.Machine.Done.{some_of, image_length}
use Rattle.kernel_laws.proofs.Machine.Processes.{pids_same}
use Rattle.flat_model.specs.Run.{Point, process_of_entry, step_at}
use Rattle.flat_state.specs.Change.{apply_writes}
use Rattle.flat_model.specs.Touched.{touched}
use Rattle.run_model.specs.State.{State}
use Rattle.run_model.specs.Wanted.{AllValid, locked}
use Rattle.run_model.specs.Snapshot.{touched_of}
use Rattle.run_model.specs.After.{place_at, after}
use Rattle.run_model.proofs.Wanting.{wanted_none}
use Rattle.run_model.specs.Next.{next_unit}
use Rattle.run_model.specs.Kinds.{ProcessRuns, Kind}
use Rattle.run_model.proofs.NextUnits.{kind_of}
use Rattle.run_laws.specs.Standing.{machine_of, Placed}
use Rattle.run_laws.specs.Running.{IsRun}
use Rattle.kernel_model.specs.Unit.{proc_of, u_bytes}
use Rattle.run_laws.specs.Machine.{written_step, taken_step, process_step, ran_step, unit_step, unit_image, IsGiven, OutRegs, Keeps, StandsAt}
use Rattle.run_laws.proofs.Paging.{Leaver, entry_out}
use Rattle.run_laws.proofs.Bridge.{lives_same, kept_numbers}
use Rattle.kernel_laws.proofs.Machine.Starts.{start_outlines}
use Rattle.run_laws.proofs.Units.{plain_place, plain_holdings}
use Rattle.run_laws.proofs.Flows.{Ends, plain_point, on_running, steps_own, noted}
use Rattle.run_laws.proofs.Acts.{ExecsFit}
use Rattle.run_laws.proofs.Running.{run_on}
use Rattle.run_laws.proofs.CoupledUnits.{page_step, page_image, Goes}
use Rattle.run_laws.proofs.CoupledKinds.{Stays, kind_goes}
use Rattle.run_laws.proofs.Written.{Mid}
use Rattle.run_laws.proofs.Behind.{Reaches, Whole, step_reaches}
use Rattle.run_laws.proofs.Sorts.{IsSaying, Sort, Pages, GoesIn, GoesOff, Says, Makes, sort_of}
use Rattle.run_laws.proofs.Outs.{out_holder}

-- What stands of the state stands of a machine with its tables.

pub sound_of : (A : Inputs) (flat : FlatState) (k : Kernel) → Placed A flat k.place k.holdings → SameTables k flat → length k.frames ≡ A.frames
    → Sound A.swap_blocks k
sound_of A flat k st t f =
    let so : Sound A.swap_blocks (machine_of flat k.place k.holdings) = st.sound in
    record {
      owner = alive_owner A.swap_blocks (lives (map kept_of flat.processes)) (lives k.processes) k.place k.holdings
          (lives_same k.processes (map kept_of flat.processes) (t.processes ∙ sym (start_outlines flat.processes))) so.owner;
      tokens = f ∙ sym st.frames;
      hands = so.hands;
      few_transfers = so.few_transfers;
    }

pub numbered_of : (A : Inputs) (flat : FlatState) (k : Kernel) → Placed A flat k.place k.holdings → SameTables k flat → Numbered k
numbered_of A flat k st t =
    let n : Numbered (machine_of flat k.place k.holdings) = st.numbered in
    let p : map (λ (x : Proc). x.pid) (map kept_of flat.processes) ≡ map (λ (x : Proc). x.pid) k.processes = kept_numbers flat.processes ∙ sym (pids_same k.processes flat.processes t.processes) in
    record {
      spaces_differ = n.spaces_differ;
      spaces_below = subst (λ (m : ℕ). AllBelow m (map space_number k.place.spaces)) (sym t.next_sid) n.spaces_below;
      pids_differ = subst AllDistinct p n.pids_differ;
      pids_below = subst (AllBelow k.next_pid) p (subst (λ (m : ℕ). AllBelow m (map (λ (x : Proc). x.pid) (map kept_of flat.processes))) (sym t.next_pid) n.pids_below);
      residents = λ m a. n.residents m (sym (lives_same k.processes (map kept_of flat.processes) (t.processes ∙ sym (start_outlines flat.processes)) m) ∙ a);
    }

-- a machine with the placement and the holdings of a state
pub record Behind (A : Inputs) (t : State) (k : Kernel) (image : List ℕ) : Type 0 where
  pub place : k.place ≡ t.place
  pub holdings : k.holdings ≡ t.holdings
  pub journal : k.journal ≡ t.journal
  pub coupled : Coupled k A.images image t.point.flat
  pub stands : Stands A.images k t.point.flat
  pub frames : length k.frames ≡ A.frames
  pub room : 512 * A.swap_blocks ≤ length image
  pub out_regs : OutRegs k.place t.point.flat

pub stands_behind : (A : Inputs) (t : State) (k : Kernel) (image : List ℕ) → Placed A t.point.flat t.place t.holdings → Behind A t k image
    → StandsAt A t k image
stands_behind A t k image st b =
    let c : Coupled k A.images image t.point.flat = b.coupled in
    let here : Placed A t.point.flat k.place k.holdings =
    subst (λ (p : Placement). Placed A t.point.flat p k.holdings) (sym b.place) (subst (λ (hs : Holdings). Placed A t.point.flat t.place hs) (sym b.holdings) st) in
    record {
      place = b.place;
      holdings = b.holdings;
      journal = b.journal;
      keeps = record {
        sound = sound_of A t.point.flat k here c.tables b.frames;
        numbered = numbered_of A t.point.flat k here c.tables;
        coupled = b.coupled;
        stands = b.stands;
        room = b.room;
        out_regs = b.out_regs;
      };
    }

frames_at : (A : Inputs) (s : State) (k : Kernel) (image : List ℕ) → Placed A s.point.flat s.place s.holdings → StandsAt A s k image
    → length k.frames ≡ A.frames
frames_at A s k image st at =
    let kp : Keeps A s.point.flat k image = at.keeps in
    let so : Sound A.swap_blocks k = kp.sound in
    so.tokens ∙ ap (λ (p : Placement). length p.holds) at.place ∙ st.frames

-- What a read brings.

abbrev pub brought_by : Bytes → Errand → List Part → List (List ℕ)
brought_by b Writes xs = []
brought_by b (Reads source demanded) xs = map (λ (x : Part). source_bytes b source x.page) xs

abbrev pub brought : Bytes → List Transfer → List (List ℕ)
brought b [] = []
brought b (t ∷ ts) = brought_by b t.errand t.parts

pub are_brought : (b : Bytes) (ts : List Transfer) → AreRead b ts (brought b ts)
are_brought b [] = tt
are_brought b (t ∷ ts) = go t.errand
  where
    go : (e : Errand) → AreReadBy b e t.parts (brought_by b e t.parts)
    go Writes = tt
    go (Reads source demanded) = refl

-- Paging entries, and notes.

pub page_is : (A : Inputs) (s : State) (k : Kernel) (image : List ℕ) (read : List (List ℕ)) (u : Entry) → process_of_entry u ≡ None → Stays u
    → page_step k (locked A s) read u ≡ unit_step A s k image read u
page_is A s k image read (entries.Event line) n y = refl
page_is A s k image read (entries.Turn p) n y = refl
page_is A s k image read (entries.Zero q) n y = refl
page_is A s k image read (entries.Get q lo m) n y = refl
page_is A s k image read (entries.Copy q) n y = refl
page_is A s k image read (entries.Reclaim q) n y = refl
page_is A s k image read (entries.Hands m) n y = refl
page_is A s k image read (entries.Put q m) n y = refl
page_is A s k image read entries.Done n y = refl
page_is A s k image read (entries.Owners a b c d) n y = refl
page_is A s k image read (entries.SwapOut p) n y = absurd y
page_is A s k image read (entries.SwapIn p) n y = absurd y
page_is A s k image read _ n y = absurd cc

pub image_is : (k : Kernel) (image : List ℕ) (u : Entry) → Stays u → page_image k image u ≡ unit_image k image u
image_is k image (entries.SwapOut p) y = absurd y
image_is k image (entries.SwapIn p) y = absurd y
image_is k image _ y = refl

record Lands (k l : Kernel) (locked : List Page) (at : ℕ) (u : Entry) : Type 0 where
  pub place : l.place ≡ place_entry locked at k.place u
  pub holdings : l.holdings ≡ k.holdings
  pub journal : l.journal ≡ append k.journal u

page_lands : (k : Kernel) (locked : List Page) (at : ℕ) (read : List (List ℕ)) (u : Entry) → process_of_entry u ≡ None → Stays u
    → Lands k (page_step k locked read u) locked at u
page_lands k locked at read (entries.Event line) n y = record { place = refl; holdings = refl; journal = refl }
page_lands k locked at read (entries.Turn p) n y = record { place = refl; holdings = refl; journal = refl }
page_lands k locked at read (entries.Zero q) n y = record { place = refl; holdings = refl; journal = refl }
page_lands k locked at read (entries.Get q lo m) n y = record { place = refl; holdings = refl; journal = refl }
page_lands k locked at read (entries.Copy q) n y = record { place = refl; holdings = refl; journal = refl }
page_lands k locked at read (entries.Reclaim q) n y = record { place = refl; holdings = refl; journal = refl }
page_lands k locked at read (entries.Hands m) n y = record { place = refl; holdings = refl; journal = refl }
page_lands k locked at read (entries.Put q m) n y = record { place = refl; holdings = refl; journal = refl }
page_lands k locked at read entries.Done n y = record { place = refl; holdings = refl; journal = refl }
page_lands k locked at read (entries.Owners a b c d) n y = record { place = refl; holdings = refl; journal = refl }
page_lands k locked at read (entries.SwapOut p) n y = absurd y
page_lands k locked at read (entries.SwapIn p) n y = absurd y
page_lands k locked at read _ n y = absurd cc

no_leaver : (u : Entry) (n : ℕ) → Stays u → Leaver u n → ⊥
no_leaver (entries.SwapOut p) n y l = absurd y
no_leaver _ n y l = absurd l

-- who is out was out before, with the same registers
outs_kept : (p r : Placement) (flat : FlatState) → ((n : ℕ) → is_out r n ≡ true → is_out p n ≡ true) → OutRegs p flat → OutRegs r flat
outs_kept p r flat h o n q e f = o n q (h n e) f

page_room : (A : Inputs) (flat : FlatState) (k : Kernel) (image : List ℕ) (u : Entry) → Keeps A flat k image
    → 512 * A.swap_blocks ≤ length (page_image k image u)
page_room A flat k image u kp = go u
  where
    st : Stands A.images k flat
    st = kp.stands

    go : (u : Entry) → 512 * A.swap_blocks ≤ length (page_image k image u)
    go entries.Done = subst (λ (n : ℕ). 512 * A.swap_blocks ≤ n) (sym (image_length A.swap_blocks k A.images image flat kp.sound st.texts kp.room kp.coupled)) kp.room
    go (entries.SwapOut p) = kp.room
    go (entries.SwapIn p) = kp.room
    go (entries.Event line) = kp.room
    go (entries.Turn p) = kp.room
    go (entries.Ran p n) = kp.room
    go (entries.Out p bytes) = kp.room
    go (entries.Grew p n) = kp.room
    go (entries.Call p n c r0 r1) = kp.room
    go (entries.Refused p) = kp.room
    go (entries.Sleeps p) = kp.room
    go (entries.Ended p n) = kp.room
    go (entries.Zero q) = kp.room
    go (entries.Get q lo n) = kp.room
    go (entries.Copy q) = kp.room
    go (entries.Reclaim q) = kp.room
    go (entries.Hands n) = kp.room
    go (entries.Put q n) = kp.room
    go (entries.Owners a b c d) = kp.room

-- a unit that takes no process out or in, by what it does to the coupling
pub goes_behind : (A : Inputs) (s : State) (k : Kernel) (image : List ℕ) (read : List (List ℕ)) (u : Entry) → Placed A s.point.flat s.place s.holdings
    → StandsAt A s k image → Goes k A.images image s.point.flat (locked A s) read u → process_of_entry u ≡ None → Stays u
    → Behind A (after A s u) (page_step k (locked A s) read u) (page_image k image u)
goes_behind A s k image read u placed at goes n y =
    let kp : Keeps A s.point.flat k image = at.keeps in
    let lands : Lands k (page_step k (locked A s) read u) (locked A s) (place_at s u) u = page_lands k (locked A s) (place_at s u) read u n y in
    let was : (m : ℕ) → is_out (Kernel.place (page_step k (locked A s) read u)) m ≡ true → is_out k.place m ≡ true = λ m e.
    elim (entry_out (locked A s) (place_at s u) k.place u m (ap (λ (p : Placement). is_out p m) (sym lands.place) ∙ e)) [
      | inl h ↦ h
      | inr l ↦ absurd (no_leaver u m y l)
    ] in
    record {
      place = lands.place ∙ ap (λ (p : Placement). place_entry (locked A s) (place_at s u) p u) at.place ∙ sym (plain_place A s u n);
      holdings = lands.holdings ∙ at.holdings ∙ sym (plain_holdings A s u n);
      journal = lands.journal ∙ ap (λ (j : List Entry). append j u) at.journal ∙ sym (after_journal A s u);
      coupled = subst (λ (x : Point). Coupled (page_step k (locked A s) read u) A.images (page_image k image u) x.flat) (sym (plain_point A s u n)) goes.coupled;
      stands = subst (λ (x : Point). Stands A.images (page_step k (locked A s) read u) x.flat) (sym (plain_point A s u n)) goes.stands;
      frames = goes.tokens ∙ frames_at A s k image placed at;
      room = page_room A s.point.flat k image u kp;
      out_regs = subst (λ (x : Point). OutRegs (Kernel.place (page_step k (locked A s) read u)) x.flat) (sym (plain_point A s u n))
          (outs_kept k.place (Kernel.place (page_step k (locked A s) read u)) s.point.flat was kp.out_regs);
    }

pub paged_behind : (A : Inputs) (s : State) (k : Kernel) (image : List ℕ) (read : List (List ℕ)) (u : Entry) → IsRun A s → StandsAt A s k image
    → AreRead (beside_kernel k A.images image s.point.flat) k.place.transfers read → Kind A s u → process_of_entry u ≡ None → Stays u
    → Behind A (after A s u) (page_step k (locked A s) read u) (page_image k image u)
paged_behind A s k image read u r at are kind n y =
    let kp : Keeps A s.point.flat k image = at.keeps in
    goes_behind A s k image read u r.placed at
    (kind_goes A s k image read u (record {
      same = at.place;
      machine = record { sound = kp.sound; stands = kp.stands; room = kp.room; are = are; coupled = kp.coupled };
    }) r.placed r.numbers r.texts kind n y) n y

-- Notes of a process.

said_behind : (A : Inputs) (s : State) (k : Kernel) (image : List ℕ) (u : Entry) → IsRun A s → StandsAt A s k image → after A s u ≡ noted s u
    → Behind A (after A s u) (note_step k u) image
said_behind A s k image u r at e =
    let kp : Keeps A s.point.flat k image = at.keeps in
    subst (λ (t : State). Behind A t (note_step k u) image) (sym e) (record {
      place = at.place;
      holdings = at.holdings;
      journal = ap (λ (j : List Entry). append j u) at.journal;
      coupled = note_coupled k A.images image s.point.flat u kp.coupled;
      stands = note_stands A.images k s.point.flat u kp.stands;
      frames = frames_at A s k image r.placed at;
      room = kp.room;
      out_regs = kp.out_regs;
    })

said_is : (A : Inputs) (s : State) (k : Kernel) (image : List ℕ) (read : List (List ℕ)) (u : Entry) → IsSaying u
    → (note_step k u ≡ unit_step A s k image read u) × (image ≡ unit_image k image u)
said_is A s k image read (entries.Out p bytes) y = (refl, refl)
said_is A s k image read (entries.Refused p) y = (refl, refl)
said_is A s k image read _ y = absurd y

-- A process comes in.

pub in_behind : (A : Inputs) (s : State) (k : Kernel) (image : List ℕ) (pid : ℕ) → Placed A s.point.flat s.place s.holdings → StandsAt A s k image
    → is_out s.place pid ≡ true
    → Behind A (after A s (entries.SwapIn pid)) (in_step k pid (regs_in (stored_at image (block_in k.holdings (owners.U pid) 0)))) image
in_behind A s k image pid placed at out =
    let kp : Keeps A s.point.flat k image = at.keeps in
    let st : Stands A.images k s.point.flat = kp.stands in
    let regs : Regs = regs_in (stored_at image (block_in k.holdings (owners.U pid) 0)) in
    let l : Kernel = in_step k pid regs in
    let here : is_out k.place pid ≡ true = ap (λ (p : Placement). is_out p pid) at.place ∙ out in
    let x : (x : Process) × (t : Space) × (process_of s.point.flat pid ≡ Some x) × (x.holding ≡ Holds t) = out_holder k.place s.point.flat pid st.out here in
    let was : (m : ℕ) → is_out l.place m ≡ true → is_out k.place m ≡ true = λ m e. elim (entry_out [] (length (append k.journal (entries.SwapIn pid))) k.place (entries.SwapIn pid) m e) [
      | inl h ↦ h
      | inr y ↦ absurd y
    ] in
    record {
      place = ap (λ (j : List Entry). place_entry [] (length (append j (entries.SwapIn pid))) k.place (entries.SwapIn pid)) at.journal
          ∙ ap (λ (p : Placement). place_entry [] (place_at s (entries.SwapIn pid)) p (entries.SwapIn pid)) at.place ∙ sym (plain_place A s (entries.SwapIn pid) refl);
      holdings = at.holdings ∙ sym (plain_holdings A s (entries.SwapIn pid) refl);
      journal = ap (λ (j : List Entry). append j (entries.SwapIn pid)) at.journal ∙ sym (after_journal A s (entries.SwapIn pid));
      coupled = subst (λ (x : Point). Coupled l A.images image x.flat) (sym (plain_point A s (entries.SwapIn pid) refl))
          (in_coupled_any k A.images image s.point.flat pid regs x.0 x.2 here (kp.out_regs pid x.0 here x.2) refl kp.coupled);
      stands = subst (λ (x : Point). Stands A.images l x.flat) (sym (plain_point A s (entries.SwapIn pid) refl)) (in_stands A.images k s.point.flat pid regs st);
      frames = frames_at A s k image placed at;
      room = kp.room;
      out_regs = subst (λ (x : Point). OutRegs l.place x.flat) (sym (plain_point A s (entries.SwapIn pid) refl)) (outs_kept k.place l.place s.point.flat was kp.out_regs);
    }

-- A process goes out.

-- who holds a space, in the machine
pub record Leaves (k : Kernel) (flat : FlatState) (pid : ℕ) : Type 0 where
  pub process : Process
  pub space : Space
  pub here : process_of flat pid ≡ Some process
  pub holds : process.holding ≡ Holds space
  pub proc : Proc
  pub kept : proc_of k pid ≡ Some proc
  pub life : has_life proc.life ≡ true

pub leaves : (k : Kernel) (flat : FlatState) (pid : ℕ) → SameTables k flat → holds_some (process_of flat pid) ≡ true → Leaves k flat pid
leaves k flat pid t h = go (process_of flat pid) refl h
  where
    holding : (q : Process) → process_of flat pid ≡ Some q → (x : Holding) → q.holding ≡ x → Rattle.flat_state.specs.Flat.holds_space x ≡ true → Leaves k flat pid
    holding q e (Holds s) i z =
        let f = found_at flat pid q e in
        let p : (p : Proc) × (numbered kept_pid pid k.processes ≡ Some p) = kept_at k.processes flat.processes t.processes pid q f.1 in
        let o : outline_kept p.0 ≡ outline_of q = outline_at k.processes flat.processes t.processes pid p.0 q p.1 f.1 in
        record { process = q; space = s; here = e; holds = i; proc = p.0; kept = p.1; life = ap (λ (x : Outline). has_life x.life) o ∙ ap (λ (x : Holding). has_life (life_of x)) i }
    holding q e (Rattle.flat_state.specs.Flat.Lends sid child) i z = absurd cc
    holding q e (Rattle.flat_state.specs.Flat.Zombie status) i z = absurd cc

    go : (o : Option Process) → process_of flat pid ≡ o → holds_some o ≡ true → Leaves k flat pid
    go None e z = absurd cc
    go (Some q) e z = holding q e q.holding refl z

out_length : (size : ℕ) (k : Kernel) (image : List ℕ) (pid : ℕ) (p : Proc) (d t : ℕ) → Sound size k → 512 * size ≤ length image → AreRegs p.regs
    → lives k.processes pid ≡ true
    → length (store_at image (block_in k.holdings (owners.U pid) 0) (u_page p.regs d t)) ≡ length image
out_length size k image pid p d t so li are alive =
    let o : OneOwner size (lives k.processes) k.place k.holdings = so.owner in
    let b : OwnsBlocks size (lives k.processes) k.place k.holdings = o.blocks in
    let a : ArePlacesApart size k.holdings = places_apart_of size k.holdings b.book in
    let x : (x : ℕ) × (block_in k.holdings (owners.U pid) 0 ≡ Some x) = some_of (block_in k.holdings (owners.U pid) 0) (u_found size k pid so alive) in
    let w : IsPlace size k.holdings (owners.U pid) x.0 = a.own (owners.U pid) 0 x.0 x.1 in
    let i = w.within in
    ap (λ (y : Option ℕ). length (store_at image y (u_page p.regs d t))) x.1 ∙ length-put_blocks image (u_page p.regs d t) x.0 (omega arith) (u_length p.regs d t are)

pub off_behind : (A : Inputs) (s : State) (k : Kernel) (image : List ℕ) (pid : ℕ) → Placed A s.point.flat s.place s.holdings → StandsAt A s k image
    → ((p : Proc) → proc_of k pid ≡ Some p → AreRegs p.regs) → is_out s.place pid ≡ false
    → holds_some (process_of s.point.flat pid) ≡ true
    → Behind A (after A s (entries.SwapOut pid)) (out_step k pid) (store_at image (block_in k.holdings (owners.U pid) 0) (u_bytes k (proc_of k pid)))
off_behind A s k image pid placed at given out h =
    let kp : Keeps A s.point.flat k image = at.keeps in
    let n : Numbered k = kp.numbered in
    let c : Coupled k A.images image s.point.flat = kp.coupled in
    let x : Leaves k s.point.flat pid = leaves k s.point.flat pid c.tables h in
    let are : AreRegs x.proc.regs = given x.proc x.kept in
    let l : Kernel = out_step k pid in
    let behind : List ℕ = store_at image (block_in k.holdings (owners.U pid) 0) (u_bytes k (Some x.proc)) in
    let here : is_out k.place pid ≡ false = ap (λ (p : Placement). is_out p pid) at.place ∙ out in
    let own_regs : x.proc.regs ≡ x.process.regs =
    subst (λ (z : Bool). KeepsRegs k image z x.process x.proc.regs (space_of_holding x.process.holding)) here
    (regs_at k A.images image s.point.flat c pid x.process x.proc (found_at s.point.flat pid x.process x.here).1 x.kept) in
    let outs : OutRegs l.place s.point.flat = λ n q e f. elim (entry_out [] (length (append k.journal (entries.SwapOut pid))) k.place (entries.SwapOut pid) n e) [
      | inl was ↦ kp.out_regs n q was f
      | inr i ↦ subst AreRegs (own_regs ∙ ap (λ (y : Process). y.regs) (same_Some x.process q (sym x.here ∙ ap (process_of s.point.flat) i ∙ f))) are
    ] in
    subst (λ (o : Option Proc). Behind A (after A s (entries.SwapOut pid)) (out_step k pid) (store_at image (block_in k.holdings (owners.U pid) 0) (u_bytes k o))) (sym x.kept) (record {
      place = ap (λ (j : List Entry). place_entry [] (length (append j (entries.SwapOut pid))) k.place (entries.SwapOut pid)) at.journal
          ∙ ap (λ (p : Placement). place_entry [] (place_at s (entries.SwapOut pid)) p (entries.SwapOut pid)) at.place ∙ sym (plain_place A s (entries.SwapOut pid) refl);
      holdings = at.holdings ∙ sym (plain_holdings A s (entries.SwapOut pid) refl);
      journal = ap (λ (j : List Entry). append j (entries.SwapOut pid)) at.journal ∙ sym (after_journal A s (entries.SwapOut pid));
      coupled = subst (λ (x : Point). Coupled l A.images behind x.flat) (sym (plain_point A s (entries.SwapOut pid) refl))
          (out_coupled A.swap_blocks k A.images image s.point.flat pid x.proc kp.sound kp.room x.kept x.life are (n.residents pid (ap lives_in x.kept ∙ x.life)) here kp.coupled);
      stands = subst (λ (x : Point). Stands A.images l x.flat) (sym (plain_point A s (entries.SwapOut pid) refl)) (out_stands A.images k s.point.flat pid x.process x.space x.here x.holds kp.stands);
      frames = frames_at A s k image placed at;
      room = subst (λ (n : ℕ). 512 * A.swap_blocks ≤ n) (sym (out_length A.swap_blocks k image pid x.proc (length (slots_of k.place (Data (space_of_life x.proc.life) 0)))
          (length (slots_of k.place (Stack (space_of_life x.proc.life) 0))) kp.sound kp.room are (ap lives_in x.kept ∙ x.life))) kp.room;
      out_regs = subst (λ (x : Point). OutRegs l.place x.flat) (sym (plain_point A s (entries.SwapOut pid) refl)) outs;
    })

-- A process's step.

stepped_is : (A : Inputs) (s : State) (k : Kernel) (image : List ℕ) (read : List (List ℕ)) (u : Entry) (pid : ℕ) (P : Kernel → List ℕ → Type 0)
    → Ends u → process_of_entry u ≡ Some pid
    → P (process_step A s k pid u) image → ((n : ℕ) → u ≡ entries.Ran pid n → P (ran_step A s k pid n) image)
    → P (unit_step A s k image read u) (unit_image k image u)
stepped_is A s k image read (entries.Ran p n) pid P e o a b = subst (λ (x : ℕ). P (ran_step A s k x n) image) (sym (same_Some p pid o)) (b n (ap (λ (x : ℕ). entries.Ran x n) (same_Some p pid o)))
stepped_is A s k image read (entries.Grew p n) pid P e o a b = subst (λ (x : ℕ). P (process_step A s k x (entries.Grew p n)) image) (sym (same_Some p pid o)) a
stepped_is A s k image read (entries.Call p n c r0 r1) pid P e o a b = subst (λ (x : ℕ). P (process_step A s k x (entries.Call p n c r0 r1)) image) (sym (same_Some p pid o)) a
stepped_is A s k image read (entries.Sleeps p) pid P e o a b = subst (λ (x : ℕ). P (process_step A s k x (entries.Sleeps p)) image) (sym (same_Some p pid o)) a
stepped_is A s k image read (entries.Ended p n) pid P e o a b = subst (λ (x : ℕ). P (process_step A s k x (entries.Ended p n)) image) (sym (same_Some p pid o)) a
stepped_is A s k image read (entries.Out p bytes) pid P e o a b = absurd e
stepped_is A s k image read (entries.Refused p) pid P e o a b = absurd e
stepped_is A s k image read _ pid P e o a b = absurd cc

reach_behind : (A : Inputs) (s : State) (u : Entry) (l : Kernel) (image : List ℕ) → 512 * A.swap_blocks ≤ length image
    → Placed A (after A s u).point.flat (after A s u).place (after A s u).holdings
    → OutRegs (after A s u).place (after A s u).point.flat → Reaches A s u l image
    → StandsAt A (after A s u) l image
reach_behind A s u l image room st outs x =
    let m : Mid A (after A s u).point.flat l image = x.mid in
    record {
      place = x.place;
      holdings = x.holdings;
      journal = x.journal ∙ sym (after_journal A s u);
      keeps = record {
        sound = m.sound;
        numbered = m.numbered;
        coupled = m.coupled;
        stands = m.stands;
        room = room;
        out_regs = subst (λ (p : Placement). OutRegs p (after A s u).point.flat) (sym x.place) outs;
      };
    }

-- All units.

pub given_read : (A : Inputs) (s : State) (k : Kernel) (image : List ℕ) (read : List (List ℕ)) (u : Entry) → IsGiven A s k image read u
    → (u ≡ entries.Done → ⊥) ⊎ ((u ≡ entries.Done) × AreRead (beside_kernel k A.images image s.point.flat) k.place.transfers read)
given_read A s k image read entries.Done g = inr (refl, g)
given_read A s k image read _ g = inl (λ e. cc)

-- what was read stands nowhere but at `Done`
pub read_unused : (A : Inputs) (s : State) (k : Kernel) (read other : List (List ℕ)) (u : Entry) → (u ≡ entries.Done → ⊥)
    → page_step k (locked A s) other u ≡ page_step k (locked A s) read u
read_unused A s k read other entries.Done n = absurd (n refl)
read_unused A s k read other _ n = refl

pub unit_stands : (A : Inputs) (s : State) (k : Kernel) (image : List ℕ) (read : List (List ℕ)) (u : Entry) → ImagesFit A.images → ExecsFit A
    → IsRun A s → StandsAt A s k image → next_unit A s ≡ Some u → IsGiven A s k image read u
    → StandsAt A (after A s u) (unit_step A s k image read u) (unit_image k image u)
unit_stands A s k image read u images execs r at h g = go (sort_of A s u r.mark kind)
  where
    kind : Kind A s u
    kind = kind_of A s u h

    run : IsRun A (after A s u)
    run = run_on A s u images execs r h

    kp : Keeps A s.point.flat k image
    kp = at.keeps

    b : Bytes
    b = beside_kernel k A.images image s.point.flat

    P : Kernel → List ℕ → Type 0
    P l i = StandsAt A (after A s u) l i

    paged : process_of_entry u ≡ None → Stays u → P (page_step k (locked A s) read u) (page_image k image u)
    paged n y = elim (given_read A s k image read u g) [
      | inl none ↦ subst (λ (l : Kernel). P l (page_image k image u)) (read_unused A s k read (brought b k.place.transfers) u none)
          (stands_behind A (after A s u) (page_step k (locked A s) (brought b k.place.transfers) u) (page_image k image u) run.placed
          (paged_behind A s k image (brought b k.place.transfers) u r at (are_brought b k.place.transfers) kind n y))
      | inr x ↦ stands_behind A (after A s u) (page_step k (locked A s) read u) (page_image k image u) run.placed (paged_behind A s k image read u r at x.1 kind n y)
    ]

    go : Sort A s u → P (unit_step A s k image read u) (unit_image k image u)
    go (Pages n y) = subst (λ (l : Kernel). P l (unit_image k image u)) (page_is A s k image read u n y) (subst (P (page_step k (locked A s) read u)) (image_is k image u y) (paged n y))
    go (GoesIn pid i out) =
        subst (λ (x : Entry). Placed A (after A s x).point.flat (after A s x).place (after A s x).holdings → StandsAt A (after A s x) (unit_step A s k image read x) (unit_image k image x)) (sym i)
        (λ st. stands_behind A (after A s (entries.SwapIn pid)) (unit_step A s k image read (entries.SwapIn pid)) image st (in_behind A s k image pid r.placed at out)) run.placed
    go (GoesOff pid i out holds) = subst (λ (x : Entry). IsGiven A s k image read x → Placed A (after A s x).point.flat (after A s x).place (after A s x).holdings
        → StandsAt A (after A s x) (unit_step A s k image read x) (unit_image k image x)) (sym i)
        (λ given st. stands_behind A (after A s (entries.SwapOut pid)) (out_step k pid) (unit_image k image (entries.SwapOut pid)) st
        (off_behind A s k image pid r.placed at given out holds)) g run.placed
    go (Says e y) =
        let x = said_is A s k image read u y in
        subst (λ (l : Kernel). P l (unit_image k image u)) x.0 (subst (P (note_step k u)) x.1 (stands_behind A (after A s u) (note_step k u) image run.placed (said_behind A s k image u r at e)))
    go (Makes x w) =
        let runs : ProcessRuns A s x.pid x.now = x.runs in
        let valid : AllValid s.place (touched A s.point.flat x.pid) =
        subst (AllValid s.place) (ap (touched_of A s.point.flat) (on_running A s s.mark x.pid x.now runs.on)) (wanted_none A s runs.clear w) in
        let z : Whole A s k u image x = step_reaches A s k image u images execs r.numbers r.lenders at x valid in
        stepped_is A s k image read u x.pid P x.ends (steps_own A s.point x.pid u x.next)
        (reach_behind A s u (process_step A s k x.pid u) image kp.room run.placed z.out_regs z.changes)
        (λ n i. reach_behind A s u (ran_step A s k x.pid n) image kp.room run.placed z.out_regs (z.runs n i))

-- In the middle of a process's step.
pub mid_stands : (A : Inputs) (s : State) (k : Kernel) (image : List ℕ) (u : Entry) (pid : ℕ) → ImagesFit A.images → ExecsFit A → IsRun A s
    → StandsAt A s k image → next_unit A s ≡ Some u → Ends u → process_of_entry u ≡ Some pid
    → Mid A (apply_writes s.point.flat pid (step_at A s.point pid).writes) (written_step A s k pid) image
    × Coupled (taken_step A s k pid) A.images image (apply_writes s.point.flat pid (step_at A s.point pid).writes)
mid_stands A s k image u pid images execs r at h ends own = go (sort_of A s u r.mark (kind_of A s u h))
  where
    none : {C : Type 0} → process_of_entry u ≡ None → C
    none n = absurd (let z : None ≡ Some pid = sym n ∙ own in cc)

    go : Sort A s u → Mid A (apply_writes s.point.flat pid (step_at A s.point pid).writes) (written_step A s k pid) image
        × Coupled (taken_step A s k pid) A.images image (apply_writes s.point.flat pid (step_at A s.point pid).writes)
    go (Pages n y) = none n
    go (GoesIn p i out) = none (ap process_of_entry i)
    go (GoesOff p i out holds) = none (ap process_of_entry i)
    go (Says e y) = absurd (says u ends y)
      where
        says : (x : Entry) → Ends x → IsSaying x → ⊥
        says (entries.Out p bytes) e y = e
        says (entries.Refused p) e y = e
        says _ e y = y
    go (Makes x w) =
        let runs : ProcessRuns A s x.pid x.now = x.runs in
        let valid : AllValid s.place (touched A s.point.flat x.pid) =
        subst (AllValid s.place) (ap (touched_of A s.point.flat) (on_running A s s.mark x.pid x.now runs.on)) (wanted_none A s runs.clear w) in
        let z : Whole A s k u image x = step_reaches A s k image u images execs r.numbers r.lenders at x valid in
        let i : x.pid ≡ pid = same_Some x.pid pid (sym (steps_own A s.point x.pid u x.next) ∙ own) in
        subst (λ (n : ℕ). Mid A (apply_writes s.point.flat n (step_at A s.point n).writes) (written_step A s k n) image
        × Coupled (taken_step A s k n) A.images image (apply_writes s.point.flat n (step_at A s.point n).writes)) i (z.written, z.taken)
