-- A call that stops at a unit.
use Rattle.std.proofs.Common.{◌≡◌, ◌⊎◌, ◌↔◌, inl, inr, ◌<◌, ◌≤◌, Bool, List, [], ◌∷◌, length, map, Option, Some, None, Result, Ok, Err, IfErr, refl, sym, ap, ◌∙◌, subst, arith}
use Rattle.std.proofs.lemmas.List.{length-append}
use Rattle.vm_facts.specs.SwapImages.{SwapImage, with_requests}
use Rattle.vm_facts.specs.declared.page.Page.{Page}
use Rattle.vm_facts.specs.declared.entry.Entry.{Entry}
use Rattle.vm_facts.specs.declared.entry.Entry.TheVariants as entries
use Rattle.vm_facts.specs.declared.params.Params.{Params}
use Rattle.vm_facts.specs.declared.stop.Stop.{Stop}
use Rattle.vm_facts.specs.declared.stop.Stop.TheVariants as stops
use Rattle.io_edge.specs.FileHolding.{NamedFile}
use Rattle.flat_state.specs.Journal.{append, IsPlain}
use Rattle.flat_state.proofs.Joins.{append_plain}
use Rattle.page_model.specs.Placement.{Placement, Transfer, Source, FromSwap, FromFile, image_of}
use Rattle.page_model.specs.Holdings.{Holdings}
use Rattle.kernel_model.specs.Kernel.{Kernel, image_after_of}
use Rattle.kernel_model.specs.Requests.{ImageFile, first_asks}
use Rattle.kernel_model.specs.Coupled.{outline_kept}
use Rattle.machine_state.specs.Machine.{Standing}
use Rattle.machine_state.specs.Sourced.{ImageNamed, files_named}
use Rattle.machine_state.specs.Conditions.{HasStopped}
use Rattle.machine_state.specs.Failing.{HasLostOldest, LosesFor, HasFailed, FailsFor}
use Rattle.machine_state.specs.Done.{ImageAfter, StopsFor, SwapAfter, OldestReadsFrom, OldestWrites}
use Rattle.machine_state.specs.Settled.{IsSameBeside}
use Rattle.machine_state.specs.Joined.{IsFullFor}
use Rattle.machine_state.specs.Performing.{IsAtBound, StopsForRoom}
use Rattle.paging_units.specs.Made.{Ground, ground, Made, MakesUnit}
use Rattle.paging_units.specs.Stops.{CauseBy, SpoilsBy, PlaceLeft, StoppedByFault, StopsAt, Work, StopsWhile, StaysPut, StaysStarved, LeftBy}
use Rattle.paging_units.proofs.Units.{same_ground}

-- an entry that is never joined makes the journal longer
pub plain_longer : (journal : List Entry) (e : Entry) → IsPlain e → length journal < length (append journal e)
plain_longer journal e p =
    let same = ap (λ (js : List Entry). length js) (append_plain journal e p) in
    let l = length-append journal (e ∷ []) in
    omega arith

pub err_same : {A : Type 0} (s t : Stop) → (let r : Result A Stop = Err s in r) ≡ Err t → s ≡ t
err_same s t e = cc

-- a machine in which no pieces wait runs on after a call that stopped, as it was but for pieces that were found
pub stays_starved : (old new : Standing) → HasStopped old new → old.before ≡ old.kernel.holdings → new.kernel.stopped ≡ old.kernel.stopped
    → StaysStarved old.kernel new
stays_starved old new s w running = s.held running ∙ ap (λ (hs : Holdings). record old.kernel { holdings = hs }) w

-- at the journal's bound it is as it was
pub full_here : (old new : Standing) → HasStopped old new → old.before ≡ old.kernel.holdings → old.params.journal ≤ length old.kernel.journal
    → StaysPut old.kernel new
full_here old new s w bound =
    let same = s.full bound in
    let kernel : new.kernel ≡ old.kernel = ap (λ (m : Standing). m.kernel) same in
    record {
      kernel = kernel;
      whole = ap (λ (m : Standing). m.before) same ∙ w ∙ sym (ap (λ (k : Kernel). k.holdings) kernel);
    }

-- a call that stops for want of memory, or at the journal's bound
pub held_here : (stop : Stop) (old new : Standing) → HasStopped old new → old.before ≡ old.kernel.holdings
    → (stop ≡ stops.JournalFull) ⊎ (stop ≡ stops.NoMemory)
    → (stop ≡ stops.JournalFull → old.params.journal ≤ length old.kernel.journal)
    → LeftBy stop old.kernel new
held_here stop old new s w cause full = elim cause [
  | inl e ↦ subst (λ (x : Stop). LeftBy x old.kernel new) (sym e) (full_here old new s w (full e))
  | inr e ↦ subst (λ (x : Stop). LeftBy x old.kernel new) (sym e) (λ running. inl (stays_starved old new s w running))
]

-- where the oldest transfer is lost
pub stops_less : (stop : Stop) (old new : Standing) → old.before ≡ old.kernel.holdings → HasLostOldest old new
    → PlaceLeft stop old.kernel.place new.kernel.place → StoppedByFault stop old.kernel new
stops_less stop old new w l place = record {
  stopped = ap (λ (k : Kernel). k.stopped) l.kernel;
  place = place;
  holdings = l.before ∙ w;
  processes = ap (λ (k : Kernel). map outline_kept k.processes) l.kernel;
}

-- where a u page failed
pub stops_put : (stop : Stop) (old new : Standing) → old.before ≡ old.kernel.holdings → HasFailed old new
    → (new.kernel.place ≡ old.kernel.place → PlaceLeft stop old.kernel.place new.kernel.place) → StoppedByFault stop old.kernel new
stops_put stop old new w l place = record {
  stopped = ap (λ (k : Kernel). k.stopped) l.kernel;
  place = place (ap (λ (k : Kernel). k.place) l.kernel);
  holdings = l.before ∙ w;
  processes = ap (λ (k : Kernel). map outline_kept k.processes) l.kernel;
}

-- at the end of the oldest transfer
pub ending_left : (stop : Stop) (old new : Standing) → HasStopped old new → old.before ≡ old.kernel.holdings
    → (stop ≡ stops.JournalFull → old.params.journal ≤ length old.kernel.journal)
    → LosesFor (Err stop) old new → LeftBy stop old.kernel new
ending_left stops.JournalFull old new s w full lost = full_here old new s w (full refl)
ending_left stops.NoMemory old new s w full lost = λ running. inl (stays_starved old new s w running)
ending_left stops.FileFault old new s w full lost = stops_less stops.FileFault old new w lost lost.place
ending_left stops.SwapReadFault old new s w full lost = stops_less stops.SwapReadFault old new w lost (inl lost.place)
ending_left stops.SwapWriteFault old new s w full lost = stops_less stops.SwapWriteFault old new w lost (inl lost.place)

-- at the writing or the reading of a u page
pub moved_left : (stop : Stop) (old new : Standing) → HasStopped old new → old.before ≡ old.kernel.holdings
    → (stop ≡ stops.JournalFull → old.params.journal ≤ length old.kernel.journal)
    → (stop ≡ stops.FileFault → ⊥) → FailsFor (Err stop) old new → LeftBy stop old.kernel new
moved_left stops.JournalFull old new s w full never failed = full_here old new s w (full refl)
moved_left stops.NoMemory old new s w full never failed = λ running. inl (stays_starved old new s w running)
moved_left stops.FileFault old new s w full never failed = absurd (never refl)
moved_left stops.SwapReadFault old new s w full never failed = stops_put stops.SwapReadFault old new w failed (λ e. inr e)
moved_left stops.SwapWriteFault old new s w full never failed = stops_put stops.SwapWriteFault old new w failed (λ e. inr e)

err_cause : {A : Type 0} (stop : Stop) → (let r : Result A Stop = Err stop in (r ≡ Err stops.JournalFull) ⊎ (r ≡ Err stops.NoMemory))
    → (stop ≡ stops.JournalFull) ⊎ (stop ≡ stops.NoMemory)
err_cause {A} stop c = elim c [
  | inl h ↦ inl (err_same {A = A} stop stops.JournalFull h)
  | inr h ↦ inr (err_same {A = A} stop stops.NoMemory h)
]

-- a call of the machine that makes this unit and calls no device
pub call_stops : {A : Type 0} (r : Result A Stop) (e : Entry) (old new : Standing) (i : Option SwapImage)
    → ((stop : Stop) → (stop ≡ stops.JournalFull) ⊎ (stop ≡ stops.NoMemory) → CauseBy e stop old.kernel.place.transfers)
    → ((stop : Stop) → SpoilsBy (files_named new.images) e stop old.kernel i i)
    → StopsForRoom (IsFullFor old.kernel.journal old.params.journal e) r old new → old.before ≡ old.kernel.holdings
    → IfErr r (StopsAt e old new i i)
call_stops (Ok x) e old new i cause image s w = tt
call_stops {A} (Err stop) e old new i cause image s w =
    let same : new.params ≡ old.params = s.stop.params in
    record {
      journal = s.stop.journal;
      held = held_here stop old new s.stop w (err_cause {A = A} stop s.cause) (λ h. (s.full.0 (ap (λ (t : Stop). let r : Result A Stop = Err t in r) h)).0);
      full = (
        (λ h. subst (λ (p : Params). (p.journal ≤ length old.kernel.journal) × (length old.kernel.journal < length (append old.kernel.journal e))) (sym same)
            (s.full.0 (ap (λ (t : Stop). let r : Result A Stop = Err t in r) h))),
        (λ h. err_same {A = A} stop stops.JournalFull
            (s.full.1 (subst (λ (p : Params). (p.journal ≤ length old.kernel.journal) × (length old.kernel.journal < length (append old.kernel.journal e))) same h))),
      );
      cause = cause stop (err_cause {A = A} stop s.cause);
      image = image stop;
      params = s.stop.params;
      images = s.stop.images;
    }

-- for an entry that is never joined, it is enough that the journal is at its bound
pub plain_room : {A : Type 0} (r : Result A Stop) (e : Entry) (old new : Standing) → IsPlain e → StopsForRoom (IsAtBound old) r old new
    → StopsForRoom (IsFullFor old.kernel.journal old.params.journal e) r old new
plain_room r e old new p s = record {
  stop = s.stop;
  cause = s.cause;
  full = ((λ h. (s.full.0 h, plain_longer old.kernel.journal e p)), (λ h. s.full.1 h.0));
}

-- some transfer was in flight
some_reads : (source : Source) (ts : List Transfer) → OldestReadsFrom source ts → 0 < length ts
some_reads source [] h = absurd h
some_reads source (t ∷ ts) h = omega arith

some_writes : (ts : List Transfer) → OldestWrites ts → 0 < length ts
some_writes [] h = absurd h
some_writes (t ∷ ts) h = omega arith

pub stops_some : (ts : List Transfer) (stop : Stop) → StopsFor (Err stop) ts → 0 < length ts
stops_some ts stops.NoMemory h = h
stops_some ts stops.JournalFull h = h
stops_some ts stops.FileFault h = some_reads FromFile ts h
stops_some ts stops.SwapReadFault h = some_reads FromSwap ts h
stops_some ts stops.SwapWriteFault h = some_writes ts h

-- the call that ends the oldest transfer
pub done_stops : (stop : Stop) (old new : Standing) (i j : Option SwapImage) → HasStopped old new → StopsFor (Err stop) old.kernel.place.transfers
    → (((let r : Result Bool Stop = Err stop in r) ≡ Err stops.JournalFull)
    ↔ ((0 < length old.kernel.place.transfers) × (old.params.journal ≤ length old.kernel.journal)))
    → LosesFor (Err stop) old new → SwapAfter (Err stop) (files_named old.images) old.kernel i j
    → old.before ≡ old.kernel.holdings → StopsAt entries.Done old new i j stop
done_stops stop old new i j s c full lost image w = record {
  journal = s.journal;
  held = ending_left stop old new s w (λ h. (full.0 (ap (λ (t : Stop). let r : Result Bool Stop = Err t in r) h)).1) lost;
  full = (
    (λ h. (
      subst (λ (p : Params).
          p.journal ≤ length old.kernel.journal) (sym s.params) (full.0 (ap (λ (t : Stop). let r : Result Bool Stop = Err t in r) h)).1,
      plain_longer old.kernel.journal entries.Done tt,
    )),
    (λ h. err_same {A = Bool} stop stops.JournalFull (full.1 (stops_some old.kernel.place.transfers stop c, subst (λ (p : Params). p.journal ≤ length old.kernel.journal) s.params h.0))),
  );
  cause = c;
  image = subst (λ (ns : List ImageNamed). SwapAfter (Err stop) (files_named ns) old.kernel i j) (sym s.images) image;
  params = s.params;
  images = s.images;
}

-- a stop where a unit comes next in a kernel, after a part of the call that left the sizes and images
pub next_later : (e : Entry) (k : Kernel) (old between new : Standing) (i j : Option SwapImage) (stop : Stop) → IsSameBeside old between
    → StopsAt e (record between { kernel = k }) new i j stop → StopsAt e (record old { kernel = k }) new i j stop
next_later e k old between new i j stop b s = record {
  journal = s.journal;
  held = s.held;
  full = s.full;
  cause = s.cause;
  image = s.image;
  params = s.params ∙ b.params;
  images = s.images ∙ b.images;
}

-- a call that stops where its first unit comes next
pub stops_at_first : (work : Work) (e : Entry) (old new : Standing) (holds : Option (List NamedFile)) (i j : Option SwapImage) (stop : Stop)
    → work.Unfinished old.kernel [] old.kernel → work.next old.kernel.place ≡ Some e → StopsAt e old new i j stop → StopsWhile work old new holds i j stop
stops_at_first work e old new holds i j stop leads next stops =
    record { units = []; at = old.kernel; image = i; made = (refl, refl); leads = leads; entry = e; next = next; stops = stops }

-- a unit, and then a call that stops on its way with what is left of the work
pub stops_after_unit : (work rest : Work) (e : Entry) (old between new : Standing) (holds later : Option (List NamedFile)) (i h j : Option SwapImage)
    (stop : Stop) → later ≡ holds → rest.locked ≡ work.locked → rest.next ≡ work.next
    → MakesUnit (ground old holds work.locked) e old between i h
    → ((us : List Entry) (k : Kernel) → rest.Unfinished between.kernel us k → work.Unfinished old.kernel (e ∷ us) k)
    → StopsWhile rest between new later h j stop → StopsWhile work old new holds i j stop
stops_after_unit work rest e old between new holds later i h j stop same locks nexts m on f = record {
  units = e ∷ f.units;
  at = f.at;
  image = f.image;
  made = record {
    next = between.kernel;
    image = h;
    made = m.made;
    told = m.told;
    rest = subst (λ (g : Ground). Made g f.units between.kernel h f.at f.image) (same_ground old between holds later work.locked same m.beside)
        (subst (λ (locked : List Page). Made (ground between later locked) f.units between.kernel h f.at f.image) locks f.made);
  };
  leads = on f.units f.at f.leads;
  entry = f.entry;
  next = subst (λ (next_at : Placement → Option Entry). next_at f.at.place ≡ Some f.entry) nexts f.next;
  stops = next_later f.entry f.at old between new f.image j stop m.beside f.stops;
}

-- where no transfer is in flight the end of none leaves the image
pub image_idle : (files : List ImageFile) (k : Kernel) (i j : Option SwapImage) → k.place.transfers ≡ [] → ImageAfter files k i j → j ≡ i
image_idle files k None j e h = h
image_idle files k (Some image) j e h =
    h
    ∙ ap (λ (ts : List Transfer). Some (with_requests (first_asks files (image_of k.place) k.holdings ts) (record image { bytes = image_after_of k image.bytes ts }))) e
