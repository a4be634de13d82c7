-- A call that stops before an entry, where no pieces wait but those that the entry takes.
use Rattle.std.proofs.Common.{◌≡◌, ◌⊎◌, inl, inr, ℕ, ◌<◌, ◌≤◌, Bool, true, false, List, length, Option, Result, Ok, Err, OnErr, IfErr, is_ok, refl, sym, ap, ◌∙◌, subst}
use Rattle.vm_facts.specs.SwapImages.{SwapImage}
use Rattle.io_edge.specs.FileHolding.{NamedFile}
use Rattle.vm_facts.specs.declared.stop.Stop.{Stop}
use Rattle.vm_facts.specs.declared.stop.Stop.TheVariants as stops
use Rattle.user_vax.specs.declared.refused.Refused.{Refused}
use Rattle.user_vax.specs.declared.refused.Refused.TheVariants.{Miss, Below, Signal}
use Rattle.flat_model.specs.declared.calls.Reply.{Reply}
use Rattle.swap_book.specs.Holdings.{Holdings}
use Rattle.kernel_model.specs.ChangeStep.{pass_step}
use Rattle.kernel_model.specs.Unit.{has_lender, lender_among}
use Rattle.machine_state.specs.Machine.{Standing}
use Rattle.machine_state.specs.Conditions.{HasStopped}
use Rattle.machine_state.specs.Settled.{StopsSettling}
use Rattle.machine_state.specs.Performing.{IsAtBound, StopsForRoom}
use Rattle.machine_state.proofs.Asked.{stopped_found}
use Rattle.fault_fill.specs.Stops.{StopsBefore}
use Rattle.fault_fill.specs.Growth.{space_of_pid, with_pieces}
use Rattle.proc_calls.specs.Answered.{StopsReading}
use Rattle.proc_calls.specs.Leaving.{HasSettled, HasLeftBy, HasLeft, StopsLeaving, StopsAlive}
use Rattle.proc_calls.specs.Starting.{StopsFinding}
use Rattle.proc_calls.specs.Writing.{reply_bytes, StopsOut}
use Rattle.proc_calls.specs.Sizing.{process_data_pages, StopsPlain, StopsBreaking}

same_stop : {A : Type 0} (s t : Stop) → (let r : Result A Stop = Err s in r) ≡ Err t → s ≡ t
same_stop s t e = cc

-- where no pieces wait, by what the call that stops says of its result
pub stops_before : {A : Type 0} (old new : Standing) (stop : Stop) → old.before ≡ old.kernel.holdings → HasStopped old new
    → (let r : Result A Stop = Err stop in (r ≡ Err stops.JournalFull) ⊎ (r ≡ Err stops.NoMemory))
    → (let r : Result A Stop = Err stop in r ≡ Err stops.JournalFull → old.params.journal ≤ length old.kernel.journal) → StopsBefore old new stop
stops_before {A} old new stop w s c f = record {
  stopped = s;
  whole = w;
  cause = elim c [
    | inl e ↦ inl (same_stop {A = A} stop stops.JournalFull e)
    | inr e ↦ inr (same_stop {A = A} stop stops.NoMemory e)
  ];
  full = λ e. f (ap (λ (t : Stop). let r : Result A Stop = Err t in r) e);
}

-- before the entry that takes the pieces
pub grown_stops : {A : Type 0} (r : Result A Stop) (m asked new : Standing) (pid pages : ℕ) (hs : Holdings) → asked ≡ with_pieces m hs
    → m.before ≡ m.kernel.holdings → length m.kernel.journal < m.params.journal → OnErr r (HasStopped asked new)
    → OnErr r ((r ≡ Err stops.JournalFull) ⊎ (r ≡ Err stops.NoMemory))
    → (r ≡ Err stops.JournalFull → asked.params.journal ≤ length asked.kernel.journal)
    → IfErr r (StopsPlain m new pid pages)
grown_stops (Ok x) m asked new pid pages hs e w room s c f = tt
grown_stops {A} (Err stop) m asked new pid pages hs e w room s c f =
    inl (stops_before {A = A} m new stop w (stopped_found m asked new hs e room s) c
    (λ h. subst (λ (x : Standing). x.params.journal ≤ length x.kernel.journal) e (f h)))

pub cut_stops : {A : Type 0} (r : Result A Stop) (m b new : Standing) (pid pages : ℕ) (holds : Option (List NamedFile)) (i j : Option SwapImage)
    → pages < process_data_pages m.kernel pid
    → HasSettled m b (space_of_pid m.kernel pid) holds i j → b.before ≡ b.kernel.holdings → OnErr r (HasStopped b new)
    → OnErr r ((r ≡ Err stops.JournalFull) ⊎ (r ≡ Err stops.NoMemory))
    → (r ≡ Err stops.JournalFull → b.params.journal ≤ length b.kernel.journal)
    → IfErr r (StopsBreaking m new pid pages holds i j)
cut_stops (Ok x) m b new pid pages holds i j l h w s c f = tt
cut_stops {A} (Err stop) m b new pid pages holds i j l h w s c f =
    inr (l, inr (record { reached = b; far = h; stops = stops_before {A = A} b new stop w s c f }))

-- a call that stops once the process has left its space
pub once_left : {A : Type 0} (r : Result A Stop) (m b new : Standing) (pid : ℕ) (holds : Option (List NamedFile)) (i j : Option SwapImage)
    → b.before ≡ b.kernel.holdings → HasLeft m b pid holds i j → StopsForRoom (IsAtBound b) r b new → IfErr r (StopsAlive m new pid holds i j)
once_left (Ok x) m b new pid holds i j w left s = tt
once_left {A} (Err stop) m b new pid holds i j w left s =
    inr (record { reached = b; far = left; stops = stops_before {A = A} b new stop w s.stop s.cause s.full.0 })

-- Where a process leaves its space.

-- a space of its own that doesn't settle
pub own_stops : {A : Type 0} (r : Result A Stop) (m new : Standing) (pid sid : ℕ) (holds : Option (List NamedFile)) (i j : Option SwapImage)
    → has_lender m.kernel.processes pid ≡ false
    → sid ≡ space_of_pid m.kernel pid → IfErr r (StopsSettling sid m new holds i j) → IfErr r (StopsLeaving m new pid holds i j)
own_stops (Ok x) m new pid sid holds i j e held s = tt
own_stops (Err stop) m new pid sid holds i j e held s = inl (e, subst (λ (n : ℕ). StopsSettling n m new holds i j stop) held s)

-- a space that it borrowed goes back
pub lent_left : (m b new : Standing) (pid : ℕ) (holds : Option (List NamedFile)) (i : Option SwapImage) → has_lender m.kernel.processes pid ≡ true → b ≡ m
    → length m.kernel.journal < m.params.journal → new ≡ record b { kernel = pass_step b.kernel pid (lender_among b.kernel.processes pid) }
    → HasLeft m new pid holds i i
lent_left m b new pid holds i e same room step =
    subst (λ (lent : Bool). HasLeftBy lent m new pid holds i i) (sym e) (record {
      room = room;
      step = step ∙ ap (λ (x : Standing). record x { kernel = pass_step x.kernel pid (lender_among x.kernel.processes pid) }) same;
      image = refl;
    })

-- before a space that it borrowed goes back
pub lent_stops : (stop : Stop) (m new : Standing) (pid : ℕ) (holds : Option (List NamedFile)) (i : Option SwapImage) → has_lender m.kernel.processes pid ≡ true
    → m.before ≡ m.kernel.holdings → (let r : Result (Unit {0}) Stop = Err stop in StopsForRoom (IsAtBound m) r m new) → StopsLeaving m new pid holds i i stop
lent_stops stop m new pid holds i e w s = inr (e, stops_before {A = Unit {0}} m new stop w s.stop s.cause s.full.0, refl)

-- Where memory is wanted before anything is done.

starved : (m new : Standing) → new ≡ m → HasStopped m new
starved m new e = subst (HasStopped m) (sym e) (record { journal = refl; params = refl; images = refl; full = λ h. refl; held = λ h. refl })

pub starved_before : (m new : Standing) (stop : Stop) → new ≡ m → m.before ≡ m.kernel.holdings → stop ≡ stops.NoMemory → StopsBefore m new stop
starved_before m new stop e w c = record {
  stopped = starved m new e;
  whole = w;
  cause = inr c;
  full = λ h. absurd (let z : stops.NoMemory ≡ stops.JournalFull = sym c ∙ h in cc);
}

pub out_starved : (m new : Standing) (pid : ℕ) (read : Result Reply Refused) (image : Option SwapImage) (stop : Stop) → new ≡ m
    → m.before ≡ m.kernel.holdings → stop ≡ stops.NoMemory
    → StopsReading read (λ reply before after. StopsOut m new pid (reply_bytes reply)) m new image image stop
out_starved m new pid (Ok reply) image stop e w c = record { reached = m; far = inl refl; stops = starved_before m new stop e w c }
out_starved m new pid (Err (Miss address write)) image stop e w c = ((starved_before m new stop e w c, c), refl)
out_starved m new pid (Err (Below address)) image stop e w c = (starved_before m new stop e w c, refl)
out_starved m new pid (Err (Signal number)) image stop e w c = (starved_before m new stop e w c, refl)

-- Where pieces are asked for.

-- before the process has left its space
pub asked_before : {A : Type 0} (r : Result A Stop) (pieces : Standing → Result Holdings ℕ) (m b new : Standing) (pid : ℕ) (holds : Option (List NamedFile))
    (i : Option SwapImage) → b ≡ m → b.before ≡ b.kernel.holdings → StopsForRoom (IsAtBound b) r b new → IfErr r (StopsFinding pieces m new pid holds i i)
asked_before (Ok x) pieces m b new pid holds i e w s = tt
asked_before {A} (Err stop) pieces m b new pid holds i e w s =
    inl (subst (λ (x : Standing). StopsBefore x new stop) e (stops_before {A = A} b new stop w s.stop s.cause s.full.0), refl)

-- once it has, since they find their places
pub asked_alive : {A : Type 0} (r : Result A Stop) (pieces : Standing → Result Holdings ℕ) (m new : Standing) (pid : ℕ) (holds : Option (List NamedFile))
    (i j : Option SwapImage) → is_ok (pieces m) ≡ true
    → IfErr r (StopsAlive m new pid holds i j) → IfErr r (StopsFinding pieces m new pid holds i j)
asked_alive (Ok x) pieces m new pid holds i j fit s = tt
asked_alive (Err stop) pieces m new pid holds i j fit s = inr (fit, s)
