-- Units of serving, and calls of them, one after another.
use Rattle.std.proofs.Common.{◌≡◌, ◌↔◌, ◌⊎◌, ℕ, ◌+◌, ◌<◌, ◌≤◌, Bool, true, false, List, [], ◌∷◌, ◌++◌, length, Option, Some, None, Result, Ok, Err, MatchResult, refl, sym, ap, ◌∙◌, subst, arith}
use Rattle.std.proofs.lemmas.List.{length_push}
use Rattle.vm_facts.specs.SwapImages.{SwapImage}
use Rattle.vm_facts.specs.declared.page.Page.{Page}
use Rattle.vm_facts.specs.declared.stop.Stop.{Stop}
use Rattle.vm_facts.specs.declared.stop.Stop.TheVariants as stops
use Rattle.vm_facts.specs.declared.entry.Entry.{Entry}
use Rattle.vm_facts.specs.declared.entry.Entry.TheVariants as entries
use Rattle.vm_facts.specs.declared.params.Params.{Params}
use Rattle.io_edge.specs.FileHolding.{NamedFile}
use Rattle.flat_state.specs.Journal.{append}
use Rattle.page_model.specs.Placement.{Placement, Transfer}
use Rattle.page_laws.proofs.Moves.Units.{unit_is}
use Rattle.clock_hands.specs.LastMoves.{last_moves}
use Rattle.clock_hands.proofs.LastMoves.{last_done}
use Rattle.page_model.specs.Serve.{serve_unit, Serves}
use Rattle.page_model.specs.Ownership.{OwnsFrames}
use Rattle.kernel_model.specs.Kernel.{Kernel}
use Rattle.kernel_model.specs.Requests.{ImageFile}
use Rattle.clock_hands.specs.Machine.{Standing}
use Rattle.clock_hands.specs.Sourced.{files_named}
use Rattle.clock_hands.specs.Conditions.{HasStopped, KeepsFlat}
use Rattle.clock_hands.specs.Performing.{IsAtBound, Performs, StopsForRoom}
use Rattle.clock_hands.proofs.Settling.{beside_done}
use Rattle.clock_hands.specs.Made.{Ground, ground, MadeBy, ImageBy}
use Rattle.clock_hands.specs.Stops.{CauseBy, SpoilsBy, StopsWhile, StopsAt}
use Rattle.clock_hands.proofs.Stopping.{held_here, next_later, stops_at_first}
use Rattle.clock_hands.proofs.PagingUnitsUnits.{served_place, unit_journal, made_append, made_one, makes_both, makes_on}
use Rattle.clock_hands.proofs.Keeping.{made_shaped, keeps_flat, keeps_both}
use Rattle.clock_hands.proofs.Units.{made_on}
use Rattle.fault_fill.specs.Serving.{CanServe, UnitMade, UnitStops, ServesTo, serving_page}
use Rattle.fault_fill.specs.Units.{AnyUnit, PlainMade, PlainStop, EndMade, NoneMade, IsAnswer, ComesTo, Further}
use Rattle.fault_fill.specs.Answers.{ServesAs, ServesNow}
use Rattle.fault_fill.specs.declared.served.Served.{Served}
use Rattle.fault_fill.specs.declared.served.Served.TheVariants as served
use Rattle.fault_fill.proofs.Serving.{serves_append, Behind, served_behind, near, near_falls, calm_unit, unit_waits}

pub match_map : {A E : Type 0} (P Q : A → Type 0) (R S : E → Type 0) (r : Result A E) → ((x : A) → P x → Q x) → ((e : E) → R e → S e)
    → MatchResult r P R → MatchResult r Q S
match_map P Q R S (Ok x) f g m = f x m
match_map P Q R S (Err e) f g m = g e m

-- What a step answers that calls no device.

pub plain_made : (q : Page) (e : Entry) (old new : Standing) → ((now : Bool) → serve_unit old.kernel.place q now ≡ Some e)
    → ((g : Ground) (i : Option SwapImage) → MadeBy g e old.kernel i new.kernel) → ((i : Option SwapImage) → ImageBy (files_named old.images) e old.kernel i i)
    → new ≡ record old { kernel = new.kernel; room = None } → KeepsFlat old.kernel new.kernel → PlainMade q old new
plain_made q e old new next made told rest keeps = λ holds image now locked. record {
  entry = e;
  next = next now;
  made = made (ground old holds locked) image;
  told = told image;
  rest = beside_done old new rest;
  keeps = keeps_flat old new holds image keeps;
}

plain_longer : (journal : List Entry) (e : Entry) → append journal e ≡ journal ++ e ∷ [] → length journal < length (append journal e)
plain_longer journal e h = let a = ap length h in let b = length_push journal e in omega arith

full_same : {A : Type 0} (stop : Stop) (new old : Standing) (k : ℕ) → new.params ≡ old.params → length old.kernel.journal < k
    → ((let r : Result A Stop = Err stop in r) ≡ Err stops.JournalFull) ↔ (old.params.journal ≤ length old.kernel.journal)
    → (stop ≡ stops.JournalFull) ↔ ((new.params.journal ≤ length old.kernel.journal) × (length old.kernel.journal < k))
full_same {A} stop new old k e l h =
    let same = ap (λ (x : Params). x.journal) e in (
      λ s. (let a = h.0 (ap (λ (x : Stop). let r : Result A Stop = Err x in r) s) in (omega arith, l)),
      λ m. (let b = m.0 in let a : (let r : Result A Stop = Err stop in r) ≡ Err stops.JournalFull = h.1 (omega arith) in cc),
    )

-- by the causes of a step that calls no device
cause_same : {A : Type 0} (stop : Stop)
    → ((let r : Result A Stop = Err stop in r) ≡ Err stops.JournalFull) ⊎ ((let r : Result A Stop = Err stop in r) ≡ Err stops.NoMemory)
    → (stop ≡ stops.JournalFull) ⊎ (stop ≡ stops.NoMemory)
cause_same {A} stop h = elim h [
  | Rattle.std.proofs.Common.inl e ↦ Rattle.std.proofs.Common.inl cc
  | Rattle.std.proofs.Common.inr e ↦ Rattle.std.proofs.Common.inr cc
]

pub plain_stops : {A : Type 0} (q : Page) (e : Entry) (old new : Standing) (stop : Stop) → ((now : Bool) → serve_unit old.kernel.place q now ≡ Some e)
    → ((s : Stop) (ts : List Transfer) → (s ≡ stops.JournalFull) ⊎ (s ≡ stops.NoMemory) → CauseBy e s ts)
    → ((i : Option SwapImage) → SpoilsBy (files_named new.images) e stop old.kernel i i) → append old.kernel.journal e ≡ old.kernel.journal ++ e ∷ []
    → HasStopped old new → old.before ≡ old.kernel.holdings
    → ((let r : Result A Stop = Err stop in r) ≡ Err stops.JournalFull) ⊎ ((let r : Result A Stop = Err stop in r) ≡ Err stops.NoMemory)
    → ((let r : Result A Stop = Err stop in r) ≡ Err stops.JournalFull) ↔ (old.params.journal ≤ length old.kernel.journal) → PlainStop q old new stop
plain_stops {A} q e old new stop next causes spoils plain has whole cause full = λ image now. record {
  entry = e;
  next = next now;
  stops = record {
    journal = has.journal;
    held = held_here stop old new has whole (cause_same {A = A} stop cause) (λ h. full.0 (ap (λ (t : Stop). let r : Result A Stop = Err t in r) h));
    full = full_same {A = A} stop new old (length (append old.kernel.journal e)) has.params (plain_longer old.kernel.journal e plain) full;
    cause = causes stop old.kernel.place.transfers (cause_same {A = A} stop cause);
    image = spoils image;
    params = has.params;
    images = has.images;
  };
}

-- an entry of a step that calls no device, and is never joined to the last one
pub record CallsNone (e : Entry) : Type 0 where
  pub told : (files : List ImageFile) (k : Kernel) (i : Option SwapImage) → ImageBy files e k i i
  pub causes : (s : Stop) (ts : List Transfer) → (s ≡ stops.JournalFull) ⊎ (s ≡ stops.NoMemory) → CauseBy e s ts
  pub spoils : (files : List ImageFile) (s : Stop) (k : Kernel) (i : Option SwapImage) → SpoilsBy files e s k i i
  pub longer : (journal : List Entry) → append journal e ≡ journal ++ e ∷ []

pub zero_calls : (q : Page) → CallsNone (entries.Zero q)
zero_calls q = record { told = λ files k i. refl; causes = λ s ts h. h; spoils = λ files s k i. refl; longer = λ j. refl }

pub get_calls : (q : Page) (lo n : ℕ) → CallsNone (entries.Get q lo n)
get_calls q lo n = record { told = λ files k i. refl; causes = λ s ts h. h; spoils = λ files s k i. refl; longer = λ j. refl }

pub reclaim_calls : (q : Page) → CallsNone (entries.Reclaim q)
reclaim_calls q = record { told = λ files k i. refl; causes = λ s ts h. h; spoils = λ files s k i. refl; longer = λ j. refl }

pub plain_either : {Alike : Kernel → Kernel → Type 0} (r : Result (Unit {0}) Stop) (q : Page) (e : Entry) (old new : Standing) (stepped : Kernel)
    → Performs stepped Alike r old new → StopsForRoom (IsAtBound old) r old new → old.before ≡ old.kernel.holdings → CallsNone e
    → ((now : Bool) → serve_unit old.kernel.place q now ≡ Some e)
    → (new.kernel ≡ stepped → (g : Ground) (i : Option SwapImage) → MadeBy g e old.kernel i new.kernel)
    → MatchResult r (λ (u : Unit {0}). PlainMade q old new) (PlainStop q old new)
plain_either (Ok x) q e old new stepped p s whole calls next made =
    plain_made q e old new next (made p.step) (calls.told (files_named old.images) old.kernel) p.rest p.keeps
plain_either (Err stop) q e old new stepped p s whole calls next made =
    plain_stops {A = Unit {0}} q e old new stop next calls.causes (calls.spoils (files_named new.images) stop old.kernel) (calls.longer old.kernel.journal)
    s.stop whole s.cause s.full

-- The end of a transfer, where it is the next unit.

pub end_unit : (now : Bool) (locked : List Page) (q : Page) (old new : Standing) (holds : Option (List NamedFile)) (before after : Option SwapImage)
    → serve_unit old.kernel.place q now ≡ Some entries.Done → EndMade old new holds before after → UnitMade now locked q old new holds before after
end_unit now locked q old new holds before after next m = record { entry = entries.Done; next = next; made = m.done; told = m.told; rest = m.rest; keeps = m.keeps }

pub end_stops : (now : Bool) (q : Page) (old new : Standing) (before after : Option SwapImage) (stop : Stop)
    → serve_unit old.kernel.place q now ≡ Some entries.Done → StopsAt entries.Done old new before after stop → UnitStops now q old new before after stop
end_stops now q old new before after stop next m = record { entry = entries.Done; next = next; stops = m }

-- Units in order.

pub one_serves : (now : Bool) (locked : List Page) (q : Page) (old new : Standing) (holds : Option (List NamedFile)) (before after : Option SwapImage)
    → CanServe old.kernel.place q → UnitMade now locked q old new holds before after → ServesTo now locked q old new holds before after
one_serves now locked q old new holds before after c u = record {
  units = u.entry ∷ [];
  leads = (u.next, sym (served_place (ground old holds locked) q now u.entry old.kernel new.kernel before u.next u.made));
  makes = record { made = made_one (ground old holds locked) u.entry old.kernel new.kernel before after u.made u.told; beside = u.rest };
  keeps = u.keeps;
}

-- none of them
serves_none : (now : Bool) (locked : List Page) (q : Page) (old : Standing) (holds : Option (List NamedFile)) (i : Option SwapImage)
    → ServesTo now locked q old old holds i i
serves_none now locked q old holds i = record {
  units = [];
  leads = refl;
  makes = record { made = (refl, refl); beside = record { params = refl; images = refl; before = refl } };
  keeps = λ images flat are fit told. told;
}

pub both_serve : (now : Bool) (locked : List Page) (q : Page) (old next new : Standing) (holds later : Option (List NamedFile)) (a b c : Option SwapImage)
    → later ≡ holds
    → ServesTo now locked q old next holds a b → ServesTo now locked q next new later b c → ServesTo now locked q old new holds a c
both_serve now locked q old next new holds later a b c e s t = record {
  units = s.units ++ t.units;
  leads = serves_append s.units t.units old.kernel.place next.kernel.place new.kernel.place locked q now s.leads t.leads;
  makes = makes_both (ground old holds locked) s.units t.units old next new a b c s.makes (makes_on t.units old next new holds later locked b c e s.makes.beside t.makes);
  keeps = keeps_both old next new holds later a b c s.makes.beside.images (made_shaped (ground old holds locked) s.units old.kernel next.kernel a b s.makes.made) e s.keeps t.keeps;
}

pub stops_here : (now : Bool) (locked : List Page) (q : Page) (old new : Standing) (holds : Option (List NamedFile))
    (before after : Option SwapImage) (stop : Stop)
    → UnitStops now q old new before after stop → StopsWhile (serving_page now locked q) old new holds before after stop
stops_here now locked q old new holds before after stop u =
    stops_at_first (serving_page now locked q) u.entry old new holds before after stop refl u.next u.stops

pub stops_later : (now : Bool) (locked : List Page) (q : Page) (old next new : Standing) (holds later : Option (List NamedFile))
    (a b c : Option SwapImage) (stop : Stop)
    → later ≡ holds
    → ServesTo now locked q old next holds a b → StopsWhile (serving_page now locked q) next new later b c stop → StopsWhile (serving_page now locked q) old new holds a c stop
stops_later now locked q old next new holds later a b c stop e s t = record {
  units = s.units ++ t.units;
  at = t.at;
  image = t.image;
  leads = serves_append s.units t.units old.kernel.place next.kernel.place t.at.place locked q now s.leads t.leads;
  made = made_append (ground old holds locked) s.units t.units old.kernel next.kernel t.at a b t.image s.makes.made
      (made_on t.units old next holds later locked next.kernel t.at b t.image e s.makes.beside t.made);
  entry = t.entry;
  next = t.next;
  stops = next_later t.entry t.at old next new t.image c stop s.makes.beside t.stops;
}

-- After a unit.

pub unit_behind : (now : Bool) (locked : List Page) (q : Page) (old new : Standing) (holds : Option (List NamedFile)) (before after : Option SwapImage)
    → OwnsFrames old.kernel.place → CanServe old.kernel.place q → UnitMade now locked q old new holds before after
    → Behind old.kernel.place new.kernel.place locked q
unit_behind now locked q old new holds before after o c u =
    let s : ServesTo now locked q old new holds before after = one_serves now locked q old new holds before after c u in
    served_behind s.units old.kernel.place new.kernel.place locked q now o c s.leads

pub unit_nearer : (q : Page) (old new : Standing) (holds : Option (List NamedFile)) (before after : Option SwapImage)
    → OwnsFrames old.kernel.place → CanServe old.kernel.place q → UnitMade false [] q old new holds before after
    → near new.kernel.place q < near old.kernel.place q
unit_nearer q old new holds before after o c u =
    subst (λ (p : Placement). near p q < near old.kernel.place q)
    (sym (served_place (ground old holds []) q false u.entry old.kernel new.kernel before u.next u.made))
    (near_falls old.kernel.place q u.entry o c.there u.next)

pub served_later : (answer : Served) (q : Page) (old next new : Standing) (holds later : Option (List NamedFile)) (a b c : Option SwapImage) → later ≡ holds
    → ServesTo false [] q old next holds a b → ServesAs answer q next new later b c → ServesAs answer q old new holds a c
served_later answer q old next new holds later a b c e s t = (both_serve false [] q old next new holds later a b c e s t.0, t.1)

pub served_now_later : (locked : List Page) (q : Page) (old next new : Standing) (holds later : Option (List NamedFile)) (a b c : Option SwapImage)
    → later ≡ holds
    → ServesTo true locked q old next holds a b → ServesNow locked q next new later b c → ServesNow locked q old new holds a c
served_now_later locked q old next new holds later a b c e s t = (both_serve true locked q old next new holds later a b c e s t.0, t.1)

-- Serving now: further by one unit.

pub unit_further : (locked : List Page) (q : Page) (old new : Standing) (holds : Option (List NamedFile)) (before after : Option SwapImage)
    → CanServe old.kernel.place q → (u : UnitMade true locked q old new holds before after) → last_moves (append old.kernel.journal u.entry) ≡ 0
    → Further locked q old new holds before after
unit_further locked q old new holds before after c u z = record {
  serves = record {
    units = u.entry ∷ [];
    leads = (u.next, sym (served_place (ground old holds locked) q true u.entry old.kernel new.kernel before u.next u.made));
    makes = record { made = made_one (ground old holds locked) u.entry old.kernel new.kernel before after u.made u.told; beside = u.rest };
    keeps = u.keeps;
  };
  some = omega arith;
  low = λ e. (let j = ap last_moves (unit_journal (ground old holds locked) u.entry old.kernel new.kernel before u.made) in omega arith);
}

pub any_further : (locked : List Page) (q : Page) (old new : Standing) (holds : Option (List NamedFile)) (before after : Option SwapImage)
    (came : Option Served) → came ≡ None → ComesTo came q old new holds before after → CanServe old.kernel.place q → Further locked q old new holds before after
any_further locked q old new holds before after came is made c =
    let any : AnyUnit q old new holds before after = subst (λ (x : Option Served). ComesTo x q old new holds before after) is made in
    let u : UnitMade true locked q old new holds before after = any true locked in
    let v : UnitMade false locked q old new holds before after = any false locked in
    let same : v.entry ≡ u.entry = (unit_is old.kernel.place q false v.entry v.next).1 ∙ sym (unit_is old.kernel.place q true u.entry u.next).1 in
    unit_further locked q old new holds before after c u
    (subst (λ (e : Entry). last_moves (append old.kernel.journal e) ≡ 0) same (calm_unit old.kernel.place q v.entry old.kernel.journal v.next))

-- Where no unit was made.

pub came_to : (came : Option Served) (answer what : Served) (q : Page) (old new : Standing) (holds : Option (List NamedFile)) (i j : Option SwapImage)
    → came ≡ Some answer → answer ≡ what → ComesTo came q old new holds i j → NoneMade old new i j × IsAnswer what old.kernel.place q
came_to came answer what q old new holds i j is same made =
    subst (λ (a : Served). NoneMade old new i j × IsAnswer a old.kernel.place q) same (subst (λ (x : Option Served). ComesTo x q old new holds i j) is made)

pub none_serves : (came : Option Served) (answer : Served) (q : Page) (old new : Standing) (holds : Option (List NamedFile)) (i j : Option SwapImage)
    → came ≡ Some answer → ComesTo came q old new holds i j → ServesAs answer q old new holds i j
none_serves came answer q old new holds i j is made =
    let n : NoneMade old new i j × IsAnswer answer old.kernel.place q = came_to came answer answer q old new holds i j is refl made in
    subst (λ (s : Standing). ServesAs answer q old s holds i j) (sym n.0.machine)
    (subst (λ (x : Option SwapImage). ServesAs answer q old old holds i x) (sym n.0.image) (serves_none false [] q old holds i, n.1))

-- nothing was done before
pub end_same : (old next new : Standing) (holds later : Option (List NamedFile)) (i h j : Option SwapImage) → NoneMade old next i h → later ≡ holds
    → EndMade next new later h j → EndMade old new holds i j
end_same old next new holds later i h j n e m =
    subst (λ (s : Standing). EndMade s new holds i j) n.machine
    (subst (λ (x : Option SwapImage). EndMade next new holds x j) n.image (subst (λ (x : Option (List NamedFile)). EndMade next new x h j) e m))

pub stop_same : (old next new : Standing) (i h j : Option SwapImage) (stop : Stop) → NoneMade old next i h → StopsAt entries.Done next new h j stop
    → StopsAt entries.Done old new i j stop
stop_same old next new i h j stop n m =
    subst (λ (s : Standing). StopsAt entries.Done s new i j stop) n.machine (subst (λ (x : Option SwapImage). StopsAt entries.Done next new x j stop) n.image m)

pub end_further : (locked : List Page) (q : Page) (old next new : Standing) (holds later : Option (List NamedFile)) (i h j : Option SwapImage)
    (came : Option Served) (answer : Served) (r : Page)
    → came ≡ Some answer → answer ≡ served.Asleep r → ComesTo came q old next holds i h → later ≡ holds → CanServe old.kernel.place q → EndMade next new later h j
    → Further locked q old new holds i j
end_further locked q old next new holds later i h j came answer r is same made e c m =
    unit_further locked q old new holds i j c
    (record { entry = entries.Done; next = unit_waits old.kernel.place q w.1.1; made = d.done; told = d.told; rest = d.rest; keeps = d.keeps })
    (last_done old.kernel.journal)
  where
    w : NoneMade old next i h × IsAnswer (served.Asleep r) old.kernel.place q
    w = came_to came answer (served.Asleep r) q old next holds i h is same made

    d : EndMade old new holds i j
    d = end_same old next new holds later i h j w.0 e m

pub end_stops_now : (locked : List Page) (q : Page) (old next new : Standing) (holds : Option (List NamedFile)) (i h j : Option SwapImage)
    (stop : Stop) (came : Option Served) (answer : Served) (r : Page)
    → came ≡ Some answer → answer ≡ served.Asleep r → ComesTo came q old next holds i h → StopsAt entries.Done next new h j stop → StopsWhile (serving_page true locked q) old new holds i j stop
end_stops_now locked q old next new holds i h j stop came answer r is same made m =
    let w : NoneMade old next i h × IsAnswer (served.Asleep r) old.kernel.place q = came_to came answer (served.Asleep r) q old next holds i h is same made in
    stops_here true locked q old new holds i j stop (end_stops true q old new i j stop (unit_waits old.kernel.place q w.1.1) (stop_same old next new i h j stop w.0 m))
