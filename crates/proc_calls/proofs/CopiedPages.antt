-- A copy of a page as a whole, and copies one after another.
use Rattle.std.proofs.Common.{◌≡◌, inl, inr, ℕ, suc, ◌<◌, List, [], ◌∷◌, length, Option, Some, None, refl, sym, ap, ◌∙◌, subst, arith}
use Rattle.std.specs.Prelude.{Result, Ok, Err, OnOk, MatchResult}
use Rattle.std.proofs.lemmas.Option.{same_Some}
use Rattle.vm_facts.specs.SwapImages.{SwapImage}
use Rattle.vm_facts.specs.declared.page.Page.{Page}
use Rattle.vm_facts.specs.declared.entry.Entry.TheVariants as entries
use Rattle.vm_facts.specs.declared.stop.Stop.{Stop}
use Rattle.io_edge.specs.FileHolding.{NamedFile}
use Rattle.page_model.specs.Placement.{Placement, Due, Start, CopyOf}
use Rattle.page_model.specs.Place.{due_after}
use Rattle.kernel_model.specs.Kernel.{Kernel, copy_step}
use Rattle.machine_state.specs.Machine.{Standing}
use Rattle.machine_state.specs.Going.{CanGoOn}
use Rattle.machine_state.specs.Calls.{first_due}
use Rattle.machine_state.specs.Performing.{IsAtBound, Performs, StopsForRoom}
use Rattle.machine_state.specs.Done.{KeepsThrough}
use Rattle.fault_fill.specs.LastMoves.{last_moves}
use Rattle.fault_fill.specs.Made.{ground}
use Rattle.fault_fill.specs.Stops.{StopsAt, StopsWhile}
use Rattle.fault_fill.proofs.Keeping.{made_shaped, keeps_flat, keeps_both}
use Rattle.fault_fill.proofs.Stopping.{call_stops, plain_room}
use Rattle.fault_fill.specs.Forced.{Forced, forcing_frame}
use Rattle.fault_fill.specs.Answers.{ServesNow}
use Rattle.proc_calls.specs.Copying.{in_space, AreCopiesFrom, IsCopyFirst, CopiesPage, StopsPage, OnceCopied, CopiesAll, HasCopied, StopsCopying}
use Rattle.proc_calls.proofs.Copies.{Stay, stay_both, serves_stay, forces_stay, can_serve, filled_frames, last_copy, first_gone}

-- One page.

pub served_stay : (child parent : Page) (old served : Standing) (holds : Option (List NamedFile)) (i h : Option SwapImage)
    → CanGoOn old → IsCopyFirst old.kernel.place child parent → ServesNow (parent ∷ []) parent old served holds i h
    → Stay old.kernel.place served.kernel.place
served_stay child parent old served holds i h on f s =
    serves_stay s.0.units old.kernel.place served.kernel.place (parent ∷ []) parent on.running.sound.owner.frames
    (can_serve old.kernel.place child parent on.running.due f) s.0.leads

pub forced_stay : (parent : Page) (old served roomy : Standing) (holds : Option (List NamedFile)) (h j : Option SwapImage)
    → Stay old.kernel.place served.kernel.place
    → Forced (parent ∷ []) served roomy holds h j → Stay old.kernel.place roomy.kernel.place
forced_stay parent old served roomy holds h j s f =
    stay_both old.kernel.place served.kernel.place roomy.kernel.place s
    (forces_stay f.units served.kernel.place roomy.kernel.place (parent ∷ []) s.owner f.forces)

abbrev pub copied_from : Standing → Page → Standing
copied_from roomy child = record roomy { kernel = copy_step roomy.kernel child; room = None }

pub copied_as : (roomy new : Standing) (child : Page) → new.kernel ≡ copy_step roomy.kernel child → new ≡ record roomy { kernel = new.kernel; room = None }
    → new ≡ copied_from roomy child
copied_as roomy new child step rest = rest ∙ ap (λ (k : Kernel). let s : Standing = record roomy { kernel = k; room = None } in s) step

-- A frame is forced, or the run stops at that, over the files as they were before.

same_files : (parent : Page) (served roomy : Standing) (holds later : Option (List NamedFile)) (h j : Option SwapImage) → later ≡ holds
    → Forced (parent ∷ []) served roomy later h j → Forced (parent ∷ []) served roomy holds h j
same_files parent served roomy holds later h j e f = subst (λ (x : Option (List NamedFile)). Forced (parent ∷ []) served roomy x h j) e f

pub forcing_stops : (parent : Page) (served new : Standing) (stop : Stop) (holds later : Option (List NamedFile)) (h j : Option SwapImage) → later ≡ holds
    → StopsWhile (forcing_frame (parent ∷ [])) served new later h j stop → StopsWhile (forcing_frame (parent ∷ [])) served new holds h j stop
forcing_stops parent served new stop holds later h j e f = subst (λ (x : Option (List NamedFile)). StopsWhile (forcing_frame (parent ∷ [])) served new x h j stop) e f

pub copied_by : {Alike : Kernel → Kernel → Type 0} (r : Result (Unit {0}) Stop) (child parent : Page) (old served roomy new : Standing)
    (holds later : Option (List NamedFile)) (i h j : Option SwapImage) → later ≡ holds → ServesNow (parent ∷ []) parent old served holds i h
    → Forced (parent ∷ []) served roomy later h j → KeepsThrough served roomy later h j → Performs (copy_step roomy.kernel child) Alike r roomy new
    → StopsForRoom (IsAtBound roomy) r roomy new → roomy.before ≡ roomy.kernel.holdings
    → MatchResult r (λ x. CopiesPage child parent old new holds i j) (StopsPage child parent old new holds i j)
copied_by (Ok x) child parent old served roomy new holds later i h j e s f keeps p room whole = record {
  served = served;
  behind = h;
  serves = s;
  roomy = roomy;
  forces = same_files parent served roomy holds later h j e f;
  copies = copied_as roomy new child p.step p.rest;
  keeps = keeps_both old served new holds later i h j s.0.makes.beside.images (made_shaped (ground old holds (parent ∷ [])) s.0.units old.kernel served.kernel i h s.0.makes.made) e s.0.keeps
      (keeps_both served roomy new later later h j j f.makes.beside.images (made_shaped (ground served later (parent ∷ [])) f.units served.kernel roomy.kernel h j f.makes.made) refl keeps
      (keeps_flat roomy new later j p.keeps));
}
copied_by (Err stop) child parent old served roomy new holds later i h j e s f keeps p room whole =
    let at : StopsAt (entries.Copy child) roomy new j j stop =
    call_stops {A = Unit {0}} (Err stop) (entries.Copy child) roomy new j (λ x h. h) (λ x. refl)
    (plain_room {A = Unit {0}} (Err stop) (entries.Copy child) roomy new tt room) whole in
    inr (
      h,
      record {
        reached = served;
        far = s;
        stops = inr (record { reached = roomy; far = same_files parent served roomy holds later h j e f; stops = at });
      },
    )

pub goes_on : {Alike : Kernel → Kernel → Type 0} (r : Result (Unit {0}) Stop) (child parent : Page) (old served roomy new : Standing)
    (holds later : Option (List NamedFile)) (i h j : Option SwapImage)
    → Stay old.kernel.place roomy.kernel.place → ServesNow (parent ∷ []) parent old served holds i h → Forced (parent ∷ []) served roomy later h j
    → Performs (copy_step roomy.kernel child) Alike r roomy new → OnOk r (OnceCopied child old new)
goes_on (Err stop) child parent old served roomy new holds later i h j stay s f p = tt
goes_on (Ok x) child parent old served roomy new holds later i h j stay s f p =
    let is : new ≡ copied_from roomy child = copied_as roomy new child p.step p.rest in
    record {
      params = ap (λ (n : Standing). n.params) is ∙ f.makes.beside.params ∙ s.0.makes.beside.params;
      images = ap (λ (n : Standing). n.images) is ∙ f.makes.beside.images ∙ s.0.makes.beside.images;
      due = ap (λ (n : Standing). n.kernel.place.due) is ∙ ap (λ (ds : List Due). due_after ds child) stay.due;
      frames = ap (λ (n : Standing). length n.kernel.place.holds) is ∙ filled_frames roomy.kernel.place child ∙ stay.frames;
      last = ap (λ (n : Standing). last_moves n.kernel.journal) is ∙ last_copy roomy.kernel.journal child;
    }

-- All that are due.

pub record FirstOf (sid : ℕ) (ds : List Due) (child : Page) : Type 0 where
  pub others : List Due
  pub first : ds ≡ CopyOf child (in_space sid child) ∷ others
  pub rest : AreCopiesFrom sid others

pub first_of : (sid : ℕ) (ds : List Due) (child : Page) → AreCopiesFrom sid ds → first_due ds ≡ Some child → FirstOf sid ds child
first_of sid [] child a e = absurd cc
first_of sid (Start q ∷ ds) child a e = absurd a
first_of sid (CopyOf q parent ∷ ds) child a e =
    let is : q ≡ child = same_Some q child e in
    record {
      others = ds;
      first = ap (λ (p : Page). CopyOf q p ∷ ds) a.0 ∙ ap (λ (c : Page). CopyOf c (in_space sid c) ∷ ds) is;
      rest = a.1;
    }

pub list_first : (p : Placement) (sid : ℕ) (child parent : Page) → parent ≡ in_space sid child → (f : FirstOf sid p.due child)
    → p.due ≡ CopyOf child parent ∷ f.others
list_first p sid child parent e f = f.first ∙ ap (λ (q : Page). CopyOf child q ∷ f.others) (sym e)

pub copy_first : (p : Placement) (sid : ℕ) (child parent : Page) → parent ≡ in_space sid child → FirstOf sid p.due child → IsCopyFirst p child parent
copy_first p sid child parent e f = record { others = f.others; first = f.first ∙ ap (λ (q : Page). CopyOf child q ∷ f.others) (sym e) }

-- after the copy the others are due
pub others_due : (p r : Placement) (sid : ℕ) (child : Page) (f : FirstOf sid p.due child) → r.due ≡ due_after p.due child → r.due ≡ f.others
others_due p r sid child f e = e ∙ ap (λ (ds : List Due). due_after ds child) f.first ∙ first_gone child (in_space sid child) f.others

pub stops_first : (ds others : List Due) (child parent : Page) (old new : Standing) (holds : Option (List NamedFile)) (i j : Option SwapImage) (stop : Stop)
    → ds ≡ CopyOf child parent ∷ others → StopsPage child parent old new holds i j stop → StopsCopying ds old new holds i j stop
stops_first ds others child parent old new holds i j stop e s =
    subst (λ (xs : List Due). StopsCopying xs old new holds i j stop) (sym e) (inl s)

pub copies_more : {A : Type 0} (r : Result A Stop) (ds others dues : List Due) (child parent : Page) (old next new : Standing)
    (holds later : Option (List NamedFile))
    (i h j : Option SwapImage) → ds ≡ CopyOf child parent ∷ others → dues ≡ others → later ≡ holds → CopiesPage child parent old next holds i h
    → MatchResult r (λ x. CopiesAll dues next new later h j) (StopsCopying dues next new later h j)
    → MatchResult r (λ x. CopiesAll ds old new holds i j) (StopsCopying ds old new holds i j)
copies_more (Ok x) ds others dues child parent old next new holds later i h j e d same page more =
    subst (λ (xs : List Due). CopiesAll xs old new holds i j) (sym e)
    (next, h, page, subst (λ (xs : List Due). CopiesAll xs next new holds h j) d (subst (λ (x : Option (List NamedFile)). CopiesAll dues next new x h j) same more))
copies_more (Err stop) ds others dues child parent old next new holds later i h j e d same page more =
    subst (λ (xs : List Due). StopsCopying xs old new holds i j stop) (sym e)
    (inr (
      h,
      record {
        reached = next;
        far = page;
        stops = subst (λ (xs : List Due). StopsCopying xs next new holds h j stop) d
            (subst (λ (x : Option (List NamedFile)). StopsCopying dues next new x h j stop) same more);
      },
    ))

-- what is so after them
pub copied_on : {A : Type 0} (r : Result A Stop) (child : Page) (old next new : Standing) → OnceCopied child old next → OnOk r (HasCopied next new)
    → OnOk r (HasCopied old new)
copied_on (Ok x) child old next new g h = record {
  params = h.params ∙ g.params;
  images = h.images ∙ g.images;
  due = h.due;
  frames = h.frames ∙ g.frames;
  low = let l = h.low in let z = g.last in omega (arith, l, z);
}
copied_on (Err stop) child old next new g h = tt

-- fewer are due
pub fewer_due : (p r : Placement) (sid : ℕ) (child : Page) → FirstOf sid p.due child → r.due ≡ due_after p.due child → length r.due < length p.due
fewer_due p r sid child f e =
    let less : length r.due ≡ length f.others = ap (λ (ds : List Due). length ds) (others_due p r sid child f e) in
    let more : length p.due ≡ suc (length f.others) = ap (λ (ds : List Due). length ds) f.first in
    omega (arith, less, more)

-- what the files and the swap device must have for the next page
-- What is copied so far and what is left make the whole.

pub record CopiesSoFar (old now : Standing) (holds later : Option (List NamedFile)) (i h : Option SwapImage) : Type 0 where
  pub more : (new : Standing) (j : Option SwapImage) → CopiesAll now.kernel.place.due now new later h j → CopiesAll old.kernel.place.due old new holds i j
  pub stops : (stop : Stop) (new : Standing) (j : Option SwapImage) → StopsCopying now.kernel.place.due now new later h j stop
      → StopsCopying old.kernel.place.due old new holds i j stop
  pub on : (new : Standing) → HasCopied now new → HasCopied old new

pub copies_none : (old : Standing) (holds : Option (List NamedFile)) (i : Option SwapImage) → CopiesSoFar old old holds holds i i
copies_none old holds i = record { more = λ new j c. c; stops = λ stop new j s. s; on = λ new h. h }

pub copies_one : (old now next : Standing) (others : List Due) (child parent : Page) (holds later latest : Option (List NamedFile)) (i h k : Option SwapImage)
    → now.kernel.place.due ≡ CopyOf child parent ∷ others → next.kernel.place.due ≡ others → latest ≡ later
    → CopiesPage child parent now next later h k → OnceCopied child now next
    → CopiesSoFar old now holds later i h → CopiesSoFar old next holds latest i k
copies_one old now next others child parent holds later latest i h k e d same page on so =
    let done : Result (Unit {0}) Stop = Ok tt in
    record {
      more = λ new j c. so.more new j (copies_more done now.kernel.place.due others next.kernel.place.due child parent now next new later latest h k j e d same page c);
      stops = λ stop new j s. (let failed : Result (Unit {0}) Stop = Err stop in
          so.stops stop new j (copies_more failed now.kernel.place.due others next.kernel.place.due child parent now next new later latest h k j e d same page s));
      on = λ new c. so.on new (copied_on done child now next new on c);
    }

none_due : (ds : List Due) → first_due ds ≡ None → ds ≡ []
none_due [] e = refl
none_due (d ∷ ds) e = absurd cc

pub copies_all : (old now : Standing) (holds later : Option (List NamedFile)) (i h : Option SwapImage) → first_due now.kernel.place.due ≡ None
    → CopiesSoFar old now holds later i h → CopiesAll old.kernel.place.due old now holds i h
copies_all old now holds later i h e so =
    so.more now h (subst (λ (ds : List Due). CopiesAll ds now now later h h) (sym (none_due now.kernel.place.due e)) (refl, refl))

pub copied_all : (old now : Standing) (holds later : Option (List NamedFile)) (i h : Option SwapImage) → first_due now.kernel.place.due ≡ None
    → CopiesSoFar old now holds later i h → HasCopied old now
copied_all old now holds later i h e so = so.on now (record {
  params = refl;
  images = refl;
  due = none_due now.kernel.place.due e;
  frames = refl;
  low = omega arith;
})
