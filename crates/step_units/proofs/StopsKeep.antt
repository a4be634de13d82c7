-- Where a call stops, the machine has its sizes and its images still, and a journal is full only at its bound.
use Rattle.std.proofs.Common.{◌≡◌, ◌⊎◌, inl, inr, ℕ, ◌≤◌, Bool, true, false, List, [], ◌∷◌, length, Option, sym, ap, ◌∙◌, subst, refl}
use Rattle.std.specs.Prelude.{Result, Ok, Err}
use Rattle.vm_facts.specs.SwapImages.{SwapImage}
use Rattle.vm_facts.specs.declared.page.Page.{Page}
use Rattle.vm_facts.specs.declared.regs.Regs.{Regs}
use Rattle.vm_facts.specs.declared.stop.Stop.{Stop}
use Rattle.vm_facts.specs.declared.stop.Stop.TheVariants as stops
use Rattle.vm_facts.specs.declared.params.Params.{Params}
use Rattle.vm_facts.specs.declared.entry.Entry.{Entry}
use Rattle.vm_facts.specs.declared.entry.Entry.TheVariants as entries
use Rattle.io_edge.specs.FileHolding.{NamedFile}
use Rattle.user_vax.specs.declared.refused.Refused.{Refused}
use Rattle.user_vax.specs.declared.refused.Refused.TheVariants.{Miss, Below, Signal}
use Rattle.swap_book.specs.Holdings.{Holdings}
use Rattle.flat_state.specs.declared.change.Change.{Change}
use Rattle.flat_state.specs.declared.change.Change.TheVariants.{Exec}
use Rattle.flat_model.specs.declared.calls.SystemCall.{SystemCall}
use Rattle.flat_model.specs.declared.calls.Reply.{Reply}
use Rattle.flat_model.specs.declared.calls.Reply.TheVariants.{Does}
use Rattle.page_model.specs.Placement.{Due, Start, CopyOf}
use Rattle.machine_state.specs.Conditions.{HasStopped}
use Rattle.machine_state.specs.Machine.{Standing}
use Rattle.machine_state.specs.Settled.{IsSameBeside, StopsSettling}
use Rattle.swapper.specs.Stops.{StopsAt, StopsBefore, StopsWhile, Work}
use Rattle.proc_calls.specs.Forced.{Forced, forcing_frame}
use Rattle.proc_calls.specs.Serving.{serving_page}
use Rattle.proc_calls.specs.Touches.{AccessStops}
use Rattle.proc_calls.specs.FaultFillAccessAccess.{Access}
use Rattle.proc_calls.specs.FaultFillAccessAccess.TheVariants as accesses
use Rattle.proc_calls.specs.Answered.{Entered, GoneOut, StopsOnce, StopsRefused, StopsReading}
use Rattle.proc_calls.specs.Growth.{space_of_pid}
use Rattle.proc_calls.specs.Copying.{CopiesPage, StopsPage, StopsCopying}
use Rattle.proc_calls.specs.Filling.{StopsFilling}
use Rattle.proc_calls.specs.Forking.{HasNewSpace, ForkAnswered, StopsForking}
use Rattle.proc_calls.specs.Leaving.{HasSettled, HasLeftBy, HasLeft, StopsLeaving, StopsAlive}
use Rattle.proc_calls.specs.Making.{without_pieces, FindsNone, MakesChildBy, StopsMaking}
use Rattle.proc_calls.specs.Sizing.{StopsPlain, StopsBreaking, pages_to}
use Rattle.proc_calls.specs.Starting.{image_found, HasStarted, LeavesFor, StopsFinding, StopsExec}
use Rattle.proc_calls.specs.Writing.{reply_bytes, StopsOut}
use Rattle.step_units.specs.Sizes.{SameSizes, KeptAtStop}

pub same_through : (a b c : Standing) → SameSizes a b → SameSizes b c → SameSizes a c
same_through a b c s t = record { params = t.params ∙ s.params; images = t.images ∙ s.images }

pub stopped_same : (old new : Standing) → HasStopped old new → SameSizes old new
stopped_same old new h = record { params = h.params; images = h.images }

equal_same : (old new : Standing) → new ≡ old → SameSizes old new
equal_same old new e = record { params = ap (λ (m : Standing). m.params) e; images = ap (λ (m : Standing). m.images) e }

beside_same : (old new : Standing) → IsSameBeside old new → SameSizes old new
beside_same old new h = record { params = h.params; images = h.images }

-- a stop after what leaves the sizes and images
pub kept_through : (a b c : Standing) (stop : Stop) → SameSizes a b → KeptAtStop b c stop → KeptAtStop a c stop
kept_through a b c stop s k = record { sizes = same_through a b c s k.sizes; full = k.full }

-- a stop of the machine at a call
pub kept_here : (old new : Standing) (stop : Stop) → HasStopped old new → (stop ≡ stops.JournalFull → old.params.journal ≤ length old.kernel.journal)
    → KeptAtStop old new stop
kept_here old new stop h full = record {
  sizes = stopped_same old new h;
  full = λ e.
      subst (λ (p : Params). p.journal ≤ length new.kernel.journal) (sym h.params)
      (subst (λ (j : List Entry). old.params.journal ≤ length j) (sym h.journal) (full e));
}

-- a stop at a unit
pub kept_at : (e : Entry) (old new : Standing) (i j : Option SwapImage) (stop : Stop) → StopsAt e old new i j stop → KeptAtStop old new stop
kept_at e old new i j stop at = record {
  sizes = record { params = at.params; images = at.images };
  full = λ f. subst (λ (x : List Entry). new.params.journal ≤ length x) (sym at.journal) (at.full.0 f).0;
}

-- a stop on the way
pub kept_while : (work : Work) (old new : Standing) (holds : Option (List NamedFile)) (i j : Option SwapImage) (stop : Stop)
    → StopsWhile work old new holds i j stop → KeptAtStop old new stop
kept_while work old new holds i j stop s =
    let kept = kept_at s.entry (record old { kernel = s.at }) new s.image j stop s.stops in
    record { sizes = record { params = kept.sizes.params; images = kept.sizes.images }; full = kept.full }

pub before_same : (old new : Standing) (stop : Stop) → StopsBefore old new stop → KeptAtStop old new stop
before_same old new stop h = kept_here old new stop h.stopped h.full

-- before an entry, once what came before kept the sizes
once_before : (old new : Standing) (stop : Stop) (Far : Standing → Type 0) → ((m : Standing) → Far m → SameSizes old m)
    → StopsOnce Far (λ m. StopsBefore m new stop) → KeptAtStop old new stop
once_before old new stop Far same h = kept_through old h.reached new stop (same h.reached h.far) (before_same h.reached new stop h.stops)

entered_same : (old new : Standing) (pid : ℕ) (regs : Regs) (e : Entry) (change : Change) → Entered old new pid regs e change → SameSizes old new
entered_same old new pid regs e change h = record { params = ap (λ (m : Standing). m.params) h.rest; images = ap (λ (m : Standing). m.images) h.rest }

out_same : (old new : Standing) (pid : ℕ) (bytes : List ℕ) → GoneOut old new pid bytes → SameSizes old new
out_same old new pid [] h = equal_same old new h
out_same old new pid (byte ∷ bytes) h = record { params = ap (λ (m : Standing). m.params) h.rest; images = ap (λ (m : Standing). m.images) h.rest }

-- want of memory is no full journal
pub never_full : (stop : Stop) (P : Type 0) → stop ≡ stops.NoMemory → stop ≡ stops.JournalFull → P
never_full stop P e f = absurd (let z : stops.NoMemory ≡ stops.JournalFull = sym e ∙ f in cc)

reading_same : (old new : Standing) (refused : Refused) (stop : Stop) → StopsRefused old new refused stop → KeptAtStop old new stop
reading_same old new (Miss address write) stop h = before_same old new stop h.0
reading_same old new (Below address) stop h = before_same old new stop h
reading_same old new (Signal number) stop h = before_same old new stop h

settling_same : (old new : Standing) (sid : ℕ) (holds : Option (List NamedFile)) (i j : Option SwapImage) (stop : Stop)
    → StopsSettling sid old new holds i j stop → KeptAtStop old new stop
settling_same old new sid holds i j stop h =
    kept_through old h.between new stop (beside_same old h.between h.beside) (kept_here h.between new stop h.stops.stopped (λ e. (h.stops.full.0 e).1))

-- Pages.

forced_same : (locked : List Page) (old new : Standing) (holds : Option (List NamedFile)) (i j : Option SwapImage)
    → Forced locked old new holds i j → SameSizes old new
forced_same locked old new holds i j h = beside_same old new h.makes.beside

pub filling_same : (e : Entry) (locked : List Page) (old new : Standing) (holds : Option (List NamedFile)) (i j : Option SwapImage) (stop : Stop)
    → StopsFilling e locked old new holds i j stop → KeptAtStop old new stop
filling_same e locked old new holds i j stop h = elim h [
  | inl x ↦ kept_while (forcing_frame locked) old new holds i j stop x
  | inr x ↦ kept_through old x.reached new stop (forced_same locked old x.reached holds i j x.far)
      (kept_at e x.reached new j j stop x.stops)
]

pub page_same : (child parent : Page) (old new : Standing) (holds : Option (List NamedFile)) (i j : Option SwapImage) (stop : Stop)
    → StopsPage child parent old new holds i j stop → KeptAtStop old new stop
page_same child parent old new holds i j stop h = elim h [
  | inl x ↦ kept_while (serving_page true (parent ∷ []) parent) old new holds i j stop x
  | inr x ↦ kept_through old x.1.reached new stop (beside_same old x.1.reached x.1.far.0.makes.beside)
      (filling_same (entries.Copy child) (parent ∷ []) x.1.reached new holds x.0 j stop x.1.stops)
]

copied_same : (child parent : Page) (old new : Standing) (holds : Option (List NamedFile)) (i j : Option SwapImage)
    → CopiesPage child parent old new holds i j → SameSizes old new
copied_same child parent old new holds i j h =
    same_through old h.served new (beside_same old h.served h.serves.0.makes.beside)
    (same_through h.served h.roomy new (forced_same (parent ∷ []) h.served h.roomy holds h.behind j h.forces)
    (record { params = ap (λ (m : Standing). m.params) h.copies; images = ap (λ (m : Standing). m.images) h.copies }))

copying_same : (ds : List Due) (old new : Standing) (holds : Option (List NamedFile)) (i j : Option SwapImage) (stop : Stop)
    → StopsCopying ds old new holds i j stop → KeptAtStop old new stop
copying_same [] old new holds i j stop h = absurd h
copying_same (Start q ∷ ds) old new holds i j stop h = absurd h
copying_same (CopyOf child parent ∷ ds) old new holds i j stop h = elim h [
  | inl x ↦ page_same child parent old new holds i j stop x
  | inr x ↦ kept_through old x.1.reached new stop (copied_same child parent old x.1.reached holds i x.0 x.1.far)
      (copying_same ds x.1.reached new holds x.0 j stop x.1.stops)
]

pub access_same : (now : Bool) (locked : List Page) (access : Access) (pid : ℕ) (old new : Standing) (holds : Option (List NamedFile))
    (i j : Option SwapImage) (stop : Stop)
    → AccessStops now locked access pid old new holds i j stop → KeptAtStop old new stop
access_same now locked (accesses.Page q) pid old new holds i j stop h = kept_while (serving_page now locked q) old new holds i j stop h.0
access_same now locked (accesses.Refused signal) pid old new holds i j stop h = absurd h
access_same now locked (accesses.Growth sid pages) pid old new holds i j stop h = elim h [
  | inl x ↦ before_same old new stop x.0
  | inr x ↦ kept_through old x.between new stop (record { params = ap (λ (m : Standing). m.params) x.grown.rest; images = ap (λ (m : Standing). m.images) x.grown.rest })
      (kept_while _ x.between new holds i j stop x.behind.0)
]

-- Ends.

left_by : (lent : Bool) (old new : Standing) (pid : ℕ) (holds : Option (List NamedFile)) (i j : Option SwapImage)
    → HasLeftBy lent old new pid holds i j → SameSizes old new
left_by true old new pid holds i j h = record { params = ap (λ (m : Standing). m.params) h.step; images = ap (λ (m : Standing). m.images) h.step }
left_by false old new pid holds i j h = beside_same old new h.rest

module _ (old new : Standing) (pid : ℕ) where
  leaving_same : (holds : Option (List NamedFile)) (i j : Option SwapImage) (stop : Stop) → StopsLeaving old new pid holds i j stop → KeptAtStop old new stop
  leaving_same holds i j stop h = elim h [
    | inl x ↦ settling_same old new _ holds i j stop x.1
    | inr x ↦ before_same old new stop x.1
  ]

  pub alive_same : (holds : Option (List NamedFile)) (i j : Option SwapImage) (stop : Stop) → StopsAlive old new pid holds i j stop → KeptAtStop old new stop
  alive_same holds i j stop h = elim h [
    | inl x ↦ leaving_same holds i j stop x
    | inr x ↦ once_before old new stop (λ m. HasLeft old m pid holds i j) (λ m h. left_by _ old m pid holds i j h) x
  ]

  pub exit_same : (r : Result Reply Refused) (holds : Option (List NamedFile)) (i j : Option SwapImage) (stop : Stop)
      → StopsReading r (λ reply. StopsAlive old new pid holds) old new i j stop → KeptAtStop old new stop
  exit_same (Ok reply) holds i j stop h = alive_same holds i j stop h
  exit_same (Err refused) holds i j stop h = reading_same old new refused stop h.0

-- Children.

same_without : (old : Standing) (pid : ℕ) → SameSizes old (without_pieces old pid)
same_without old pid = record { params = refl; images = refl }

without_same : (old new : Standing) (pid : ℕ) → SameSizes (without_pieces old pid) new → SameSizes old new
without_same old new pid s = record { params = s.params; images = s.images }

pub making_same : (old new : Standing) (pid : ℕ) (change : Change) (stop : Stop) → StopsMaking old new pid change stop → KeptAtStop old new stop
making_same old new pid change stop h =
    once_before old new stop (λ m. (m ≡ old) ⊎ FindsNone old m pid change) (λ m f. elim f [
      | inl e ↦ equal_same old m e
      | inr n ↦ without_same old m pid (equal_same (without_pieces old pid) m n.refused)
    ]) h

child_same : (fewer finds : Bool) (old new : Standing) (pid : ℕ) (call : SystemCall) (regs : Regs) (Then : Type 0)
    → MakesChildBy fewer finds old new pid call regs Then
    → (Then → SameSizes old new) → SameSizes old new
child_same false finds old new pid call regs Then h more = entered_same old new pid _ _ _ h
child_same true false old new pid call regs Then h more = without_same old new pid (entered_same (without_pieces old pid) new pid _ _ _ h.answer)
child_same true true old new pid call regs Then h more = more h

answered_same : (old new : Standing) (pid : ℕ) (regs : Regs) → ForkAnswered old new pid regs → SameSizes old new
answered_same old new pid regs h =
    child_same _ _ old new pid _ regs _ h
    (λ (c : HasNewSpace old new pid regs old.kernel.next_pid). record { params = ap (λ (m : Standing). m.params) c.made.answer.rest; images = ap (λ (m : Standing). m.images) c.made.answer.rest })

pub forking_same : (old new : Standing) (pid : ℕ) (regs : Regs) (holds : Option (List NamedFile)) (i j : Option SwapImage) (stop : Stop)
    → StopsForking old new pid regs holds i j stop → KeptAtStop old new stop
forking_same old new pid regs holds i j stop h = elim h [
  | inl x ↦ making_same old new pid _ stop x.0
  | inr x ↦ kept_through old x.reached new stop (answered_same old x.reached pid regs x.far)
      (copying_same x.reached.kernel.place.due x.reached new holds i j stop x.stops)
]

-- Images.

finding_same : (pieces : Standing → Result Holdings ℕ) (old new : Standing) (pid : ℕ) (holds : Option (List NamedFile)) (i j : Option SwapImage) (stop : Stop)
    → StopsFinding pieces old new pid holds i j stop → KeptAtStop old new stop
finding_same pieces old new pid holds i j stop h = elim h [
  | inl x ↦ before_same old new stop x.0
  | inr x ↦ alive_same old new pid holds i j stop x.1
]

leaves_same : (pieces : Standing → Result Holdings ℕ) (old new : Standing) (pid : ℕ) (holds : Option (List NamedFile)) (i j : Option SwapImage)
    → LeavesFor pieces old new pid holds i j → SameSizes old new
leaves_same pieces old new pid holds i j h =
    same_through old h.between new (left_by _ old h.between pid holds i j h.left) (record { params = ap (λ (m : Standing). m.params) h.step; images = ap (λ (m : Standing). m.images) h.step })

started_same : (old new : Standing) (pid : ℕ) (after : Regs) (image : ℕ) (top : List ℕ) (holds : Option (List NamedFile)) (i j : Option SwapImage)
    → HasStarted old new pid after image top holds i j → SameSizes old new
started_same old new pid after image top holds i j h = same_through old h.asked new (leaves_same (image_found image) old h.asked pid holds i j h.finds) (entered_same h.asked new pid _ _ _ h.answer)

image_same : (old new : Standing) (pid : ℕ) (after : Regs) (image : ℕ) (top : List ℕ) (holds : Option (List NamedFile)) (i j : Option SwapImage) (stop : Stop)
    → StopsExec old new pid (Does after (Exec image top)) holds i j stop
    → KeptAtStop old new stop
image_same old new pid after image top holds i j stop h = elim h [
  | inl x ↦ elim x [
    | inl y ↦ finding_same (image_found image) old new pid holds i j stop y
    | inr y ↦ kept_through old (without_pieces old pid) new stop (same_without old pid) (before_same (without_pieces old pid) new stop y.1)
  ]
  | inr x ↦ kept_through old x.1.reached new stop (started_same old x.1.reached pid after image top holds i x.0 x.1.far)
      (filling_same _ [] x.1.reached new holds x.0 j stop x.1.stops)
]

pub exec_same : (old new : Standing) (pid : ℕ) (r : Result Reply Refused) (holds : Option (List NamedFile)) (i j : Option SwapImage) (stop : Stop)
    → StopsReading r (λ reply. StopsExec old new pid reply holds) old new i j stop → KeptAtStop old new stop
exec_same old new pid (Ok (Does after (Exec image top))) holds i j stop h = image_same old new pid after image top holds i j stop h
exec_same old new pid (Ok reply) holds i j stop h = before_same old new stop h.0
exec_same old new pid (Err refused) holds i j stop h = reading_same old new refused stop h.0

-- Breaks and writes.

plain_same : (old new : Standing) (pid pages : ℕ) (stop : Stop) → StopsPlain old new pid pages stop → KeptAtStop old new stop
plain_same old new pid pages stop h = elim h [
  | inl x ↦ before_same old new stop x
  | inr x ↦ let s = before_same _ new stop x.3 in record { sizes = record { params = s.sizes.params; images = s.sizes.images }; full = s.full }
]

moving_same : (old new : Standing) (pid pages : ℕ) (holds : Option (List NamedFile)) (i j : Option SwapImage) (stop : Stop)
    → StopsBreaking old new pid pages holds i j stop → KeptAtStop old new stop
moving_same old new pid pages holds i j stop h = elim h [
  | inl x ↦ plain_same old new pid pages stop x.0
  | inr x ↦ elim x.1 [
    | inl y ↦ settling_same old new _ holds i j stop y
    | inr y ↦ once_before old new stop (λ m. HasSettled old m (space_of_pid old.kernel pid) holds i j) (λ m f. beside_same old m f.rest) y
  ]
]

pub break_same : (old new : Standing) (pid : ℕ) (r : Result ℕ Refused) (holds : Option (List NamedFile)) (i j : Option SwapImage) (stop : Stop)
    → StopsReading r (λ address. StopsBreaking old new pid (pages_to old.kernel pid address) holds) old new i j stop → KeptAtStop old new stop
break_same old new pid (Ok address) holds i j stop h = moving_same old new pid _ holds i j stop h
break_same old new pid (Err refused) holds i j stop h = reading_same old new refused stop h.0

pub written_same : (old new : Standing) (pid : ℕ) (r : Result Reply Refused) (i : Option SwapImage) (stop : Stop)
    → StopsReading r (λ reply before after. StopsOut old new pid (reply_bytes reply)) old new i i stop → KeptAtStop old new stop
written_same old new pid (Ok reply) i stop h =
    once_before old new stop (λ m. (m ≡ old) ⊎ GoneOut old m pid (reply_bytes reply)) (λ m f. elim f [
      | inl e ↦ equal_same old m e
      | inr g ↦ out_same old m pid (reply_bytes reply) g
    ]) h
written_same old new pid (Err refused) i stop h = reading_same old new refused stop h.0
