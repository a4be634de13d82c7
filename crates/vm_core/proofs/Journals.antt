-- The journal of a run that a machine made.
use Rattle.std.proofs.Common.{◌≡◌, ◌⊎◌, inl, inr, ℕ, ◌*◌, ◌<◌, ◌≤◌, false, List, [], ◌∷◌, length, replicate, Option, Some, None, refl, sym, ap, ◌∙◌, subst}
use Rattle.std.proofs.lemmas.List.{length-replicate}
use Rattle.std.proofs.lemmas.Option.{same_Some}
use Rattle.vm_facts.specs.SwapImages.{SwapImage, with_requests}
use Rattle.vm_facts.specs.declared.entry.Entry.{Entry}
use Rattle.vm_facts.specs.declared.entry.Entry.TheVariants as entries
use Rattle.vm_facts.specs.declared.stop.Stop.{Stop}
use Rattle.vm_facts.specs.declared.stop.Stop.TheVariants as stops
use Rattle.swap_book.specs.declared.Owner.TheVariants as owners
use Rattle.swap_book.specs.Holdings.{Holdings, block_in}
use Rattle.flat_state.specs.Flat.{Inputs}
use Rattle.flat_state.specs.Journal.{append, appended}
use Rattle.page_model.specs.PageBytes.{zeros}
use Rattle.page_model.specs.Placement.{Placement, Transfer, Part, Source, Errand, Writes, Reads, image_of}
use Rattle.page_model.specs.Ownership.{block_of}
use Rattle.kernel_model.specs.Kernel.{Kernel}
use Rattle.kernel_model.specs.SwapRequests.{read_at, write_at}
use Rattle.kernel_model.specs.Requests.{ImageFile, image_files, read_asks}
use Rattle.kernel_model.specs.Coupled.{memory_of}
use Rattle.machine_state.specs.Done.{SpoilsAll, SpoilsFirst as SpoilsTransfers, AskedAll, AskedFor, AskedFirst}
use Rattle.machine_state.specs.Sourced.{files_named}
use Rattle.machine_state.specs.Machine.{Standing}
use Rattle.machine_state.specs.Failing.{LosesOldest}
use Rattle.proc_run.specs.Stops.{CauseBy, SpoilsBy, StaysPut, StaysStarved, StaysReturned, StoppedByFault, LeftBy}
use Rattle.run_model.specs.State.{State, start}
use Rattle.run_model.specs.After.{after}
use Rattle.run_model.specs.Next.{next_unit}
use Rattle.run_model.specs.Lawful.{Follows, IsLawful}
use Rattle.run_model.specs.Swapped.{swap_left}
use Rattle.economy_laws.specs.Machine.{StandsAt, MakesSwap, unit_step, unit_swap}
use Rattle.economy_laws.specs.Images.{AreFlat, WritesFlat, AllFlat as InFlightFlat}
use Rattle.economy_laws.specs.RunLawsRunning.{CanRun}
use Rattle.economy_laws.proofs.RunLawsFinishing.{finished_ends}
use Rattle.economy_laws.proofs.Going.{unit_goes}
use Rattle.economy_laws.proofs.Machines.{start_keeps, swaps_keep}
use Rattle.economy_laws.proofs.SwapImages.{writes_flat}
use Rattle.economy_laws.proofs.Wholes.{start_run}
use Rattle.proc_run.specs.Leads.{Leads}
use Rattle.vm_core.specs.Leading.{machine_at_start}
use Rattle.proc_run.specs.Stepped.{StopLeads, StopsNext}
use Rattle.proc_run.proofs.RunUnitsJournals.{leads_follow, journal_lawful, journal_accounted, journal_economical, journal_image}
use Rattle.vm_core.specs.Cores.{Underway, StandsUnderway}
use Rattle.vm_core.specs.Halting.{HaltsFor, SpoilsParts, SpoilsOldest, AsksParts, AsksErrand, AsksOldest, LeavesImage}
use Rattle.vm_core.specs.Lawful.{IsJournalOf, RunFinished, RunHalted, RunStarved}
use Rattle.vm_core.specs.Full.{StandsThere, StarvedThere, StoppedThere, LessThere, ReturnedThere, LeftThere, RunLeft, RunFull, RunOver}

module _ (A : Inputs) (hs : Holdings) (can : CanRun A hs) (few : length A.first ≤ 64) (image : SwapImage)
    (room : 512 * A.swap_blocks ≤ length image.bytes) where
  at_start : StandsAt A (start A hs) (machine_at_start A hs) image.bytes
  at_start = start_keeps A hs (replicate A.frames zeros) image.bytes can (length-replicate {A = List ℕ} A.frames zeros) room

  module _ (us : List Entry) (t : State) (l : Kernel) (j : Option SwapImage) (a : Leads A (start A hs) (machine_at_start A hs) image us t l j) where
    follows : Follows A (start A hs) us t
    follows = leads_follow A (start A hs) t (machine_at_start A hs) l image us j a

    lawful : (t.journal ≡ appended [] us) × IsLawful A (appended [] us) t
    lawful = journal_lawful A hs us t can follows

    pub stands : StandsAt A t l a.behind.bytes
    stands = swaps_keep A us (start A hs) t (machine_at_start A hs) l image a.behind can.images (start_run A hs can) at_start a.makes

    pub made : IsJournalOf A l.journal t
    made = record {
      holdings = hs;
      can = can;
      units = us;
      follows = follows;
      joined = sym lawful.0 ∙ sym stands.journal;
      lawful = subst (λ (es : List Entry). IsLawful A es t) (sym lawful.0 ∙ sym stands.journal) lawful.1;
      account = journal_accounted A hs us t can follows;
      economy = journal_economical A hs us t can follows few;
    }

    pub image_told : j ≡ Some (swap_left A l.journal image)
    image_told =
        journal_image A hs t (machine_at_start A hs) l image us j can at_start a
        ∙ ap (λ (es : List Entry). Some (swap_left A es image)) (sym lawful.0 ∙ sym stands.journal)

-- no unit stops the run
pub makes_run : (A : Inputs) (us : List Entry) (s t : State) (k l : Kernel) (image behind : SwapImage) → MakesSwap A s k image us t l behind
    → l.stopped ≡ k.stopped
makes_run A [] s t k l image behind m = sym (ap (λ (x : Kernel). x.stopped) m.1)
makes_run A (u ∷ us) s t k l image behind m =
    makes_run A us (after A s u) t (unit_step A s k image.bytes m.1.0 u) l (unit_swap A k image u) behind m.1.2 ∙ unit_goes A s k image.bytes m.1.0 u

-- Where it ends.

pub finished_run : (A : Inputs) (hs : Holdings) (can : CanRun A hs) (few : length A.first ≤ 64) (image : SwapImage)
    (room : 512 * A.swap_blocks ≤ length image.bytes)
    (new : Underway) (j : Option SwapImage) (us : List Entry) (t : State)
    → Leads A (start A hs) (machine_at_start A hs) image us t new.machine.kernel j → next_unit A t ≡ None → RunFinished A new.machine.kernel.journal image j
finished_run A hs can few image room new j us t a none =
    let m = made A hs can few image room us t new.machine.kernel j a in
    record {
      state = t;
      made = m;
      none = none;
      ends = finished_ends A new.machine.kernel.journal t (record { lawful = m.lawful; none = none });
      left = image_told A hs can few image room us t new.machine.kernel j a;
    }

-- where it is over the machine stands there
pub over_run : (A : Inputs) (hs : Holdings) (can : CanRun A hs) (few : length A.first ≤ 64) (image : SwapImage)
    (room : 512 * A.swap_blocks ≤ length image.bytes)
    (new : Underway) (j : Option SwapImage) (us : List Entry) (t : State)
    → Leads A (start A hs) (machine_at_start A hs) image us t new.machine.kernel j → next_unit A t ≡ None → StandsUnderway new → RunOver A new.machine image
over_run A hs can few image room new j us t a none on = record {
  state = t;
  made = made A hs can few image room us t new.machine.kernel j a;
  none = none;
  stands = record {
    running = on.steady.ready.running.runs;
    whole = on.steady.ready.whole;
    at = subst (λ (i : SwapImage). StandsAt A t new.machine.kernel i.bytes)
        (same_Some a.behind (swap_left A new.machine.kernel.journal image) (sym a.told ∙ image_told A hs can few image room us t new.machine.kernel j a))
        (stands A hs can few image room us t new.machine.kernel j a);
  };
}

-- Why it halts.

fails_file : (u : Entry) (s : State) → CauseBy u stops.FileFault s.place.transfers → HaltsFor stops.FileFault u s
fails_file entries.Done s c = (refl, c)
fails_file (entries.SwapOut pid) s c = elim c [ inl e ↦ absurd cc | inr r ↦ elim r [ inl e ↦ absurd cc | inr e ↦ absurd cc ] ]
fails_file (entries.SwapIn pid) s c = elim c [ inl e ↦ absurd cc | inr r ↦ elim r [ inl e ↦ absurd cc | inr e ↦ absurd cc ] ]
fails_file _ s c = elim c [ inl e ↦ absurd cc | inr e ↦ absurd cc ]

fails_reading : (u : Entry) (s : State) → CauseBy u stops.SwapReadFault s.place.transfers → HaltsFor stops.SwapReadFault u s
fails_reading entries.Done s c = inl (refl, c)
fails_reading (entries.SwapOut pid) s c = elim c [ inl e ↦ absurd cc | inr r ↦ elim r [ inl e ↦ absurd cc | inr e ↦ absurd cc ] ]
fails_reading (entries.SwapIn pid) s c = inr (pid, refl)
fails_reading _ s c = elim c [ inl e ↦ absurd cc | inr e ↦ absurd cc ]

fails_writing : (u : Entry) (s : State) → CauseBy u stops.SwapWriteFault s.place.transfers → HaltsFor stops.SwapWriteFault u s
fails_writing entries.Done s c = inl (refl, c)
fails_writing (entries.SwapOut pid) s c = inr (pid, refl)
fails_writing (entries.SwapIn pid) s c = elim c [ inl e ↦ absurd cc | inr r ↦ elim r [ inl e ↦ absurd cc | inr e ↦ absurd cc ] ]
fails_writing _ s c = elim c [ inl e ↦ absurd cc | inr e ↦ absurd cc ]

halts_for : (stop : Stop) (u : Entry) (s : State) → CauseBy u stop s.place.transfers
    → (stop ≡ stops.JournalFull → HaltsFor stops.JournalFull u s) → HaltsFor stop u s
halts_for stops.NoMemory u s c full = tt
halts_for stops.JournalFull u s c full = full refl
halts_for stops.FileFault u s c full = fails_file u s c
halts_for stops.SwapReadFault u s c full = fails_reading u s c
halts_for stops.SwapWriteFault u s c full = fails_writing u s c

-- The swap image that it leaves.

parts_spoiled : (A : Inputs) (s : State) (k : Kernel) (xs : List Part) (image after : SwapImage) → k.holdings ≡ s.holdings → AreFlat A s k xs
    → SpoilsAll k image xs after → SpoilsParts A s xs image after
parts_spoiled A s k [] image after same flat x = x
parts_spoiled A s k (p ∷ ps) image after same flat x =
    elim x [
      | inl y ↦ inl (y.0, y.1, y.2 ∙ ap (λ (hs : Holdings). write_at image (block_of hs p.page) y.0) same)
      | inr y ↦ inr (parts_spoiled A s k ps (write_at image (block_of s.holdings p.page) (memory_of A.images s.point.flat p.page)) after same flat.1
          (subst (λ (i : SwapImage). SpoilsAll k i ps after)
          (ap (λ (bytes : List ℕ). write_at image (block_of k.holdings p.page) bytes) flat.0
          ∙ ap (λ (hs : Holdings). write_at image (block_of hs p.page) (memory_of A.images s.point.flat p.page)) same) y))
    ]

oldest_spoiled : (A : Inputs) (s : State) (k : Kernel) (ts : List Transfer) (image after : SwapImage) → k.holdings ≡ s.holdings → InFlightFlat A s k ts
    → SpoilsTransfers k image ts after → SpoilsOldest A s ts image after
oldest_spoiled A s k [] image after same flat x = x
oldest_spoiled A s k (t ∷ ts) image after same flat x = (x.0, parts_spoiled A s k t.parts image after same (subst (λ (e : Errand). WritesFlat A s k e t.parts) x.0 flat.0) x.1)

parts_asked : (A : Inputs) (s : State) (k : Kernel) (files : List ImageFile) (source : Source) (xs : List Part) (image after : SwapImage) → k.holdings ≡
    s.holdings
    → k.place ≡ s.place → files ≡ image_files A → AskedAll files k source image xs after → AsksParts A s source xs image after
parts_asked A s k files source [] image after same place read x = x
parts_asked A s k files source (p ∷ ps) image after same place read x =
    let moved : with_requests (read_asks files (image_of k.place) k.holdings source p) image
    ≡ with_requests (read_asks (image_files A) (image_of s.place) s.holdings source p) image =
    ap (λ (hs : Holdings). with_requests (read_asks files (image_of k.place) hs source p) image) same
    ∙ ap (λ (q : Placement). with_requests (read_asks files (image_of q) s.holdings source p) image) place
    ∙ ap (λ (fs : List ImageFile). with_requests (read_asks fs (image_of s.place) s.holdings source p) image) read in
    elim x [
      | inl y ↦ inl (y ∙ moved)
      | inr y ↦ inr (parts_asked A s k files source ps (with_requests (read_asks (image_files A) (image_of s.place) s.holdings source p) image) after same place read
          (subst (λ (i : SwapImage). AskedAll files k source i ps after) moved y))
    ]

errand_asked : (A : Inputs) (s : State) (k : Kernel) (files : List ImageFile) (e : Errand) (xs : List Part) (image after : SwapImage) → k.holdings ≡ s.holdings
    → k.place ≡ s.place → files ≡ image_files A → AskedFor files k e image xs after → AsksErrand A s e xs image after
errand_asked A s k files Writes xs image after same place read x = x
errand_asked A s k files (Reads source demanded) xs image after same place read x = parts_asked A s k files source xs image after same place read x

oldest_asked : (A : Inputs) (s : State) (k : Kernel) (files : List ImageFile) (ts : List Transfer) (image after : SwapImage) → k.holdings ≡ s.holdings
    → k.place ≡ s.place → files ≡ image_files A → AskedFirst files k image ts after → AsksOldest A s ts image after
oldest_asked A s k files [] image after same place read x = x
oldest_asked A s k files (t ∷ ts) image after same place read x = errand_asked A s k files t.errand t.parts image after same place read x

-- a swap image that is left
record ImageLeft (stop : Stop) (A : Inputs) (s : State) (u : Entry) (image : SwapImage) (j : Option SwapImage) : Type 0 where
  left : SwapImage
  told : j ≡ Some left
  is : LeavesImage stop A s u image left

module _ (A : Inputs) (s : State) (k : Kernel) (files : List ImageFile) (image : SwapImage) (at : StandsAt A s k image.bytes) (read : files ≡ image_files A) where
  spoils_writing : (u : Entry) (j : Option SwapImage) → CauseBy u stops.SwapWriteFault k.place.transfers → SpoilsBy files u stops.SwapWriteFault k (Some image) j
      → ImageLeft stops.SwapWriteFault A s u image j
  spoils_writing entries.Done j c x = record {
    left = x.0;
    told = x.1;
    is = oldest_spoiled A s k s.place.transfers image x.0 at.holdings (writes_flat A s k image.bytes at) (subst (λ (p : Placement). SpoilsTransfers k image p.transfers x.0) at.place x.2);
  }
  spoils_writing (entries.SwapOut pid) j c x = record {
    left = write_at image (block_in k.holdings (owners.U pid) 0) x.0;
    told = x.2;
    is = (x.0, x.1, ap (λ (hs : Holdings). write_at image (block_in hs (owners.U pid) 0) x.0) at.holdings);
  }
  spoils_writing (entries.SwapIn pid) j c x = elim c [ inl e ↦ absurd cc | inr r ↦ elim r [ inl e ↦ absurd cc | inr e ↦ absurd cc ] ]
  spoils_writing _ j c x = elim c [ inl e ↦ absurd cc | inr e ↦ absurd cc ]

  asks_reading : (u : Entry) (j : Option SwapImage) → CauseBy u stops.SwapReadFault k.place.transfers → SpoilsBy files u stops.SwapReadFault k (Some image) j
      → ImageLeft stops.SwapReadFault A s u image j
  asks_reading entries.Done j c x = record {
    left = x.0;
    told = x.1;
    is = oldest_asked A s k files s.place.transfers image x.0 at.holdings at.place read
        (subst (λ (ts : List Transfer). AskedFirst files k image ts x.0) (ap (λ (p : Placement). p.transfers) at.place) x.2);
  }
  asks_reading (entries.SwapIn pid) j c x = record {
    left = read_at image (block_in k.holdings (owners.U pid) 0);
    told = x;
    is = ap (λ (hs : Holdings). read_at image (block_in hs (owners.U pid) 0)) at.holdings;
  }
  asks_reading (entries.SwapOut pid) j c x = elim c [ inl e ↦ absurd cc | inr r ↦ elim r [ inl e ↦ absurd cc | inr e ↦ absurd cc ] ]
  asks_reading _ j c x = elim c [ inl e ↦ absurd cc | inr e ↦ absurd cc ]

  asks_file : (u : Entry) (j : Option SwapImage) → CauseBy u stops.FileFault k.place.transfers → SpoilsBy files u stops.FileFault k (Some image) j
      → ImageLeft stops.FileFault A s u image j
  asks_file entries.Done j c x = record {
    left = x.0;
    told = x.1;
    is = oldest_asked A s k files s.place.transfers image x.0 at.holdings at.place read
        (subst (λ (ts : List Transfer). AskedFirst files k image ts x.0) (ap (λ (p : Placement). p.transfers) at.place) x.2);
  }
  asks_file (entries.SwapIn pid) j c x = elim c [ inl e ↦ absurd cc | inr r ↦ elim r [ inl e ↦ absurd cc | inr e ↦ absurd cc ] ]
  asks_file (entries.SwapOut pid) j c x = elim c [ inl e ↦ absurd cc | inr r ↦ elim r [ inl e ↦ absurd cc | inr e ↦ absurd cc ] ]
  asks_file _ j c x = elim c [ inl e ↦ absurd cc | inr e ↦ absurd cc ]

-- any other halt leaves it
abbrev pub AsksNothing : Stop → Type 0
AsksNothing stops.FileFault = ⊥
AsksNothing stops.SwapReadFault = ⊥
AsksNothing stops.SwapWriteFault = ⊥
AsksNothing _ = Unit {0}

pub same_left : (files : List ImageFile) (u : Entry) (stop : Stop) (k : Kernel) (i j : Option SwapImage) → AsksNothing stop → SpoilsBy files u stop k i j →
    j ≡ i
same_left files entries.Done stops.FileFault k i j n x = absurd n
same_left files entries.Done stops.SwapReadFault k i j n x = absurd n
same_left files entries.Done stops.SwapWriteFault k i j n x = absurd n
same_left files entries.Done _ k i j n x = x
same_left files (entries.SwapOut pid) stops.SwapReadFault k i j n x = absurd n
same_left files (entries.SwapOut pid) stops.SwapWriteFault k i j n x = absurd n
same_left files (entries.SwapOut pid) _ k i j n x = x
same_left files (entries.SwapIn pid) stops.SwapReadFault k i j n x = absurd n
same_left files (entries.SwapIn pid) stops.SwapWriteFault k i j n x = absurd n
same_left files (entries.SwapIn pid) _ k i j n x = x
same_left files _ stop k i j n x = x

image_left : (stop : Stop) (u : Entry) (A : Inputs) (s : State) (k : Kernel) (files : List ImageFile) (image : SwapImage) (j : Option SwapImage)
    → StandsAt A s k image.bytes → files ≡ image_files A
    → CauseBy u stop k.place.transfers → SpoilsBy files u stop k (Some image) j → ImageLeft stop A s u image j
image_left stops.SwapWriteFault u A s k files image j at read c x = spoils_writing A s k files image at read u j c x
image_left stops.NoMemory u A s k files image j at read c x = record { left = image; told = same_left files u stops.NoMemory k (Some image) j tt x; is = refl }
image_left stops.JournalFull u A s k files image j at read c x = record { left = image; told = same_left files u stops.JournalFull k (Some image) j tt x; is = refl }
image_left stops.FileFault u A s k files image j at read c x = asks_file A s k files image at read u j c x
image_left stops.SwapReadFault u A s k files image j at read c x = asks_reading A s k files image at read u j c x

-- Where it halts.

module _ (A : Inputs) (hs : Holdings) (can : CanRun A hs) (few : length A.first ≤ 64) (image : SwapImage) (room : 512 * A.swap_blocks ≤ length image.bytes)
    (new : Standing) (j : Option SwapImage) (stop : Stop)
    (x : StopLeads A (start A hs) (machine_at_start A hs) image stop new j) where
  made_so : IsJournalOf A new.kernel.journal x.state
  made_so = subst (λ (es : List Entry). IsJournalOf A es x.state) (sym x.journal) (made A hs can few image room x.units x.state x.kernel (Some x.behind) x.leads)

  stands_so : StandsAt A x.state x.kernel x.behind.bytes
  stands_so = subst (λ (i : SwapImage). StandsAt A x.state x.kernel i.bytes) (sym (same_Some x.behind x.leads.behind x.leads.told))
      (stands A hs can few image room x.units x.state x.kernel (Some x.behind) x.leads)

  behind_is : x.behind ≡ swap_left A new.kernel.journal image
  behind_is =
      same_Some x.behind (swap_left A x.kernel.journal image) (image_told A hs can few image room x.units x.state x.kernel (Some x.behind) x.leads)
      ∙ ap (λ (es : List Entry). swap_left A es image) (sym x.journal)

  pub halted_run : files_named new.images ≡ image_files A → StopsNext A x.state x.kernel x.behind stop new j → RunHalted A new.kernel.journal stop image j
  halted_run read y =
      let i : ImageLeft stop A x.state y.entry x.behind j = image_left stop y.entry A x.state x.kernel (files_named new.images) x.behind j stands_so read y.cause y.spoils in
      record {
        state = x.state;
        made = made_so;
        unit = y.entry;
        next = y.next;
        why = halts_for stop y.entry x.state (subst (λ (p : Placement). CauseBy y.entry stop p.transfers) stands_so.place y.cause)
            (λ e. subst (λ (es : List Entry). length es < length (append es y.entry)) stands_so.journal (y.full e).1);
        left = i.left;
        told = i.told;
        image_left = subst (λ (b : SwapImage). LeavesImage stop A x.state y.entry b i.left) behind_is i.is;
      }

  run : x.kernel.stopped ≡ false
  run = makes_run A x.units (start A hs) x.state (machine_at_start A hs) x.kernel image x.leads.behind x.leads.makes

  -- the kernel stands for the state with the swap image of the journal
  stands_with : StandsAt A x.state x.kernel (swap_left A new.kernel.journal image).bytes
  stands_with = subst (λ (i : SwapImage). StandsAt A x.state x.kernel i.bytes) behind_is stands_so

  stays : StaysPut x.kernel new → StandsThere A x.state new (swap_left A new.kernel.journal image)
  stays h = record {
    running = ap (λ (k : Kernel). k.stopped) h.kernel ∙ run;
    whole = h.whole;
    at = subst (λ (k : Kernel). StandsAt A x.state k (swap_left A new.kernel.journal image).bytes) (sym h.kernel) stands_with;
  }

  -- where the journal is full the machine stands there
  pub full_run : stop ≡ stops.JournalFull → StopsNext A x.state x.kernel x.behind stop new j → RunFull A new image
  full_run e y = record {
    state = x.state;
    made = made_so;
    unit = y.entry;
    next = y.next;
    bound = subst (λ (es : List Entry). new.params.journal ≤ length es) (sym x.journal) (y.full e).0;
    longer = subst (λ (es : List Entry). length es < length (append es y.entry)) (sym x.journal) (y.full e).1;
    stands = stays (subst (λ (z : Stop). LeftBy z x.kernel new) e x.held);
  }

  -- where the machine is left
  pub left_run : LeftBy stop x.kernel new → (stop ≡ stops.NoMemory → new.kernel.stopped ≡ false) → RunLeft A stop new image
  left_run h runs = record { state = x.state; made = made_so; left = by stop h runs }
    where
      starves : new.kernel.stopped ≡ false → StaysStarved x.kernel new → StarvedThere A x.state new (swap_left A new.kernel.journal image)
      starves running h = record {
        running = running;
        at = subst (λ (k : Kernel). StandsAt A x.state k (swap_left A new.kernel.journal image).bytes) (sym h) stands_with;
      }

      gave : new.kernel.stopped ≡ false → StaysReturned x.kernel new → ReturnedThere A x.state new (swap_left A new.kernel.journal image)
      gave running g = record {
        running = running;
        kernel = x.kernel;
        at = stands_with;
        borrower = g.0;
        lender = g.1;
        returned = g.2;
      }

      less : (c : Stop) → StoppedByFault c x.kernel new → LosesOldest x.kernel.place new.kernel.place → LessThere x.state new
      less c h place = record {
        stopped = h.stopped;
        place = subst (λ (p : Placement). LosesOldest p new.kernel.place) stands_so.place place;
        holdings = h.holdings ∙ stands_so.holdings;
        processes = h.processes ∙ stands_so.keeps.coupled.tables.processes;
      }

      put : (c : Stop) → StoppedByFault c x.kernel new → new.kernel.place ≡ x.kernel.place → StoppedThere x.state new
      put c h place = record {
        stopped = h.stopped;
        place = place ∙ stands_so.place;
        holdings = h.holdings ∙ stands_so.holdings;
        processes = h.processes ∙ stands_so.keeps.coupled.tables.processes;
      }

      failed : (c : Stop) → StoppedByFault c x.kernel new → LosesOldest x.kernel.place new.kernel.place ⊎ (new.kernel.place ≡ x.kernel.place)
          → LessThere x.state new ⊎ StoppedThere x.state new
      failed c h (inl place) = inl (less c h place)
      failed c h (inr place) = inr (put c h place)

      starved : new.kernel.stopped ≡ false → StaysStarved x.kernel new ⊎ StaysReturned x.kernel new
          → StarvedThere A x.state new (swap_left A new.kernel.journal image) ⊎ ReturnedThere A x.state new (swap_left A new.kernel.journal image)
      starved running (inl h) = inl (starves running h)
      starved running (inr h) = inr (gave running h)

      by : (c : Stop) → LeftBy c x.kernel new → (c ≡ stops.NoMemory → new.kernel.stopped ≡ false)
          → LeftThere A c x.state new (swap_left A new.kernel.journal image)
      by stops.JournalFull h runs = stays h
      by stops.NoMemory h runs = starved (runs refl) (h (runs refl ∙ sym run))
      by stops.FileFault h runs = less stops.FileFault h h.place
      by stops.SwapReadFault h runs = failed stops.SwapReadFault h h.place
      by stops.SwapWriteFault h runs = failed stops.SwapWriteFault h h.place

  pub starved_run : j ≡ Some x.behind → RunStarved A new.kernel.journal image j
  starved_run e = record { state = x.state; made = made_so; left = e ∙ ap (λ (b : SwapImage). Some b) behind_is }
