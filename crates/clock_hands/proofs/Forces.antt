-- Forcing a frame, unit by unit.
use Rattle.std.proofs.Common.{◌≡◌, ℕ, ◌+◌, ◌<◌, ◌≤◌, ◌^◌, false, List, [], ◌∷◌, length, Option, refl, sym, ap, ◌∙◌, subst, arith}
use Rattle.vm_facts.specs.SwapImages.{SwapImage}
use Rattle.vm_facts.specs.declared.page.Page.{Page}
use Rattle.vm_facts.specs.declared.entry.Entry.{Entry}
use Rattle.vm_facts.specs.declared.stop.Stop.{Stop}
use Rattle.flat_state.specs.Journal.{append, appended}
use Rattle.io_edge.specs.FileHolding.{NamedFile}
use Rattle.page_model.specs.Placement.{Placement, Transfer}
use Rattle.page_model.specs.Serve.{force, force_entry, Forces}
use Rattle.page_model.specs.Rank.{HandsStand, HasRoom, far, far_by, far_parts, far_transfers}
use Rattle.page_model.specs.Conditions.{Spares}
use Rattle.page_model.specs.Ownership.{OwnsFrames}
use Rattle.page_laws.proofs.Ends.Forcing.{far_bound}
use Rattle.page_laws.proofs.Ends.Serving.{force_falls, far_parts_le}
use Rattle.page_laws.proofs.Ends.Wholes.{force_room}
use Rattle.page_laws.proofs.Moves.Locks.{spares_both, force_spares}
use Rattle.page_laws.proofs.Ownership.Serve.{force_owner}
use Rattle.page_laws.specs.Spans.{moves, moves_of}
use Rattle.page_laws.proofs.Spanning.{units_added_false}
use Rattle.page_laws.proofs.Forcing.{Short, forced_short, forced_moves}
use Rattle.paging_units.specs.Machine.{Standing}
use Rattle.paging_units.specs.Done.{KeepsThrough}
use Rattle.paging_units.specs.Made.{ground, MakesUnit}
use Rattle.paging_units.specs.LastMoves.{last_moves}
use Rattle.paging_units.specs.Stops.{StopsAt, StopsWhile}
use Rattle.paging_units.proofs.Units.{unit_journal, forced_place, made_journal, makes_none, makes_first, makes_on}
use Rattle.paging_units.proofs.LastMoves.{last_done, last_more}
use Rattle.paging_units.proofs.Stopping.{stops_at_first, stops_after_unit}
use Rattle.clock_hands.specs.Forced.{Forced, forcing_frame}
use Rattle.clock_hands.proofs.Units.{keeps_on}

pub none_free : (free : List ℕ) → length free ≤ 0 → free ≡ []
none_free [] l = refl
none_free (f ∷ free) l = absurd (omega arith)

-- How far a free frame is.

most_flying : (p : Placement) (locked : List Page) (free : List ℕ) (t : Transfer) (ts : List Transfer) → p.free ≡ free → p.transfers ≡ t ∷ ts
    → far p locked ≤ length p.holds + 4 + length ts
most_flying p locked [] t ts e f =
    let same : far p locked ≡ far_parts p t.errand t.parts (length ts) = ap (far_by p locked) e ∙ ap (far_transfers p locked) f in
    let most = far_parts_le p t.errand t.parts (length ts) in
    omega arith
most_flying p locked (x ∷ xs) t ts e f = let same : far p locked ≡ 0 = ap (far_by p locked) e in omega arith

pub far_most : (p : Placement) (locked : List Page) → OwnsFrames p → HandsStand p → HasRoom p locked → length p.transfers ≤ 16
    → far p locked ≤ length p.holds + 20
far_most p locked o h r l = go p.transfers refl
  where
    go : (ts : List Transfer) → p.transfers ≡ ts → far p locked ≤ length p.holds + 20
    go [] e = let most = far_bound p locked o h r e in omega arith
    go (t ∷ ts) e =
        let most = most_flying p locked p.free t ts refl e in
        let few : length (t ∷ ts) ≤ 16 = subst (λ (us : List Transfer). length us ≤ 16) e l in
        omega arith

-- The moves that the last entry counts.

append_last : (journal : List Entry) (ts : List Transfer) → last_moves (append journal (force_entry ts)) ≤ last_moves journal + moves (force_entry ts)
append_last journal [] = last_more journal
append_last journal (t ∷ ts) = let e = last_done journal in omega arith

one_move : (ts : List Transfer) → moves (force_entry ts) ≤ 1
one_move [] = omega arith
one_move (t ∷ ts) = omega arith

pub units_last : (locked : List Page) (us : List Entry) (p r : Placement) (journal : List Entry) → Forces us p locked r
    → last_moves (appended journal us) ≤ last_moves journal + moves_of us
units_last locked [] p r journal f = omega arith
units_last locked (e ∷ us) p r journal f =
    let rest = units_last locked us (force p locked) r (append journal e) f.2 in
    let first : last_moves (append journal e) ≤ last_moves journal + moves e =
    subst (λ (u : Entry). last_moves (append journal u) ≤ last_moves journal + moves u) (sym f.1) (append_last journal p.transfers) in
    omega arith

-- One unit, and then the others.

module _ (locked : List Page) (old next : Standing) (holds : Option (List NamedFile)) (i h : Option SwapImage) where
  pub falls_on : OwnsFrames old.kernel.place → HandsStand old.kernel.place → HasRoom old.kernel.place locked → old.kernel.place.free ≡ []
      → MakesUnit (ground old holds locked) (force_entry old.kernel.place.transfers) old next i h → far next.kernel.place locked < far old.kernel.place locked
  falls_on o s r n m =
      subst (λ (p : Placement). far p locked < far old.kernel.place locked) (sym (forced_place (ground old holds locked) old.kernel next.kernel i m.made)) (force_falls old.kernel.place locked o s r n)

  pub room_on : OwnsFrames old.kernel.place → HasRoom old.kernel.place locked
      → MakesUnit (ground old holds locked) (force_entry old.kernel.place.transfers) old next i h → HasRoom next.kernel.place locked
  room_on o r m =
      subst (λ (p : Placement). HasRoom p locked) (sym (forced_place (ground old holds locked) old.kernel next.kernel i m.made)) (force_room old.kernel.place locked o r)

  pub fits_on : far next.kernel.place locked < far old.kernel.place locked
      → MakesUnit (ground old holds locked) (force_entry old.kernel.place.transfers) old next i h
      → last_moves old.kernel.journal + far old.kernel.place locked < 2 ^ 32 → last_moves next.kernel.journal + far next.kernel.place locked < 2 ^ 32
  fits_on f m l =
      let more : last_moves next.kernel.journal ≤ last_moves old.kernel.journal + moves (force_entry old.kernel.place.transfers) =
      subst (λ (j : List Entry). last_moves j ≤ last_moves old.kernel.journal + moves (force_entry old.kernel.place.transfers))
      (sym (unit_journal (ground old holds locked) (force_entry old.kernel.place.transfers) old.kernel next.kernel i m.made)) (append_last old.kernel.journal old.kernel.place.transfers) in
      let one = one_move old.kernel.place.transfers in
      omega arith

pub forced_none : (locked : List Page) (s : Standing) (holds : Option (List NamedFile)) (i : Option SwapImage) → 0 < length s.kernel.place.free
    → Forced locked s s holds i i
forced_none locked s holds i l = record { units = []; forces = refl; makes = makes_none (ground s holds locked) s s i i refl refl; free = l; moves = omega arith }

pub forced_first : (locked : List Page) (old next new : Standing) (holds later : Option (List NamedFile)) (i h j : Option SwapImage) → later ≡ holds
    → OwnsFrames old.kernel.place → HandsStand old.kernel.place → HasRoom old.kernel.place locked → old.kernel.place.free ≡ []
    → MakesUnit (ground old holds locked) (force_entry old.kernel.place.transfers) old next i h → Forced locked next new later h j
    → Forced locked old new holds i j
forced_first locked old next new holds later i h j e o s r n m f =
    let forces : Forces (force_entry old.kernel.place.transfers ∷ f.units) old.kernel.place locked new.kernel.place =
    (n, refl, subst (λ (p : Placement). Forces f.units p locked new.kernel.place) (forced_place (ground old holds locked) old.kernel next.kernel i m.made) f.forces) in
    record {
      units = force_entry old.kernel.place.transfers ∷ f.units;
      forces = forces;
      makes = makes_first (ground old holds locked) (force_entry old.kernel.place.transfers) f.units old next new i h j m
          (makes_on f.units old next new holds later locked h j e m.beside f.makes);
      free = f.free;
      moves = forced_moves (force_entry old.kernel.place.transfers ∷ f.units) old.kernel.place new.kernel.place locked o s r forces;
    }

pub stops_here : (locked : List Page) (old : Standing) (stop : Stop) (new : Standing) (holds : Option (List NamedFile)) (i j : Option SwapImage)
    → old.kernel.place.free ≡ [] → StopsAt (force_entry old.kernel.place.transfers) old new i j stop → StopsWhile (forcing_frame locked) old new holds i j stop
stops_here locked old stop new holds i j n s =
    stops_at_first (forcing_frame locked) (force_entry old.kernel.place.transfers) old new holds i j stop (record { forces = refl; none = n }) refl s

pub stops_first : (locked : List Page) (old next : Standing) (stop : Stop) (new : Standing) (holds later : Option (List NamedFile)) (i h j : Option SwapImage)
    → later ≡ holds → old.kernel.place.free ≡ []
    → MakesUnit (ground old holds locked) (force_entry old.kernel.place.transfers) old next i h → StopsWhile (forcing_frame locked) next new later h j stop
    → StopsWhile (forcing_frame locked) old new holds i j stop
stops_first locked old next stop new holds later i h j e n m f =
    stops_after_unit (forcing_frame locked) (forcing_frame locked) (force_entry old.kernel.place.transfers) old next new holds later i h j stop e refl refl m
    (λ us k s. record {
      forces = (n, refl, subst (λ (p : Placement). Forces us p locked k.place) (forced_place (ground old holds locked) old.kernel next.kernel i m.made) s.forces);
      none = s.none;
    })
    f

-- The whole.

few_units : (p r : Placement) (locked : List Page) (journal us : List Entry) → OwnsFrames p → Forces us p locked r
    → length (appended journal us) + length r.transfers ≤ length journal + length p.transfers + 2
few_units p r locked journal us o f =
    let k : Short false us r (length p.transfers + 2) (length p.transfers) (length us) = forced_short false us p r locked o f in
    let a = k.few in
    let b = units_added_false journal us in
    omega arith

pub forced_few : (locked : List Page) (old new : Standing) (holds : Option (List NamedFile)) (i j : Option SwapImage) → OwnsFrames old.kernel.place
    → Forced locked old new holds i j
    → length new.kernel.journal + length new.kernel.place.transfers ≤ length old.kernel.journal + length old.kernel.place.transfers + 2
forced_few locked old new holds i j o f =
    let few = few_units old.kernel.place new.kernel.place locked old.kernel.journal f.units o f.forces in
    let same = ap (λ (js : List Entry). length js) (made_journal (ground old holds locked) f.units old.kernel new.kernel i j f.makes.made) in
    omega arith

pub stopped_few : (locked : List Page) (old : Standing) (stop : Stop) (new : Standing) (holds : Option (List NamedFile)) (i j : Option SwapImage)
    → OwnsFrames old.kernel.place → StopsWhile (forcing_frame locked) old new holds i j stop
    → length new.kernel.journal ≤ length old.kernel.journal + length old.kernel.place.transfers + 2
stopped_few locked old stop new holds i j o f =
    let few = few_units old.kernel.place f.at.place locked old.kernel.journal f.units o f.leads.forces in
    let same = ap (λ (js : List Entry). length js) (f.stops.journal ∙ made_journal (ground old holds locked) f.units old.kernel f.at i f.image f.made) in
    omega arith

pub forced_flights : (locked : List Page) (old new : Standing) (holds : Option (List NamedFile)) (i j : Option SwapImage) → OwnsFrames old.kernel.place
    → Forced locked old new holds i j
    → length new.kernel.place.transfers ≤ length old.kernel.place.transfers
forced_flights locked old new holds i j o f =
    let p = old.kernel.place in
    let k : Short false f.units new.kernel.place (length p.transfers + 2) (length p.transfers) (length f.units) = forced_short false f.units p new.kernel.place locked o f.forces in
    k.rest f.free

pub forced_last : (locked : List Page) (old new : Standing) (holds : Option (List NamedFile)) (i j : Option SwapImage) → Forced locked old new holds i j
    → last_moves new.kernel.journal ≤ last_moves old.kernel.journal + length old.kernel.place.holds
forced_last locked old new holds i j f =
    let more = units_last locked f.units old.kernel.place new.kernel.place old.kernel.journal f.forces in
    let same = ap last_moves (made_journal (ground old holds locked) f.units old.kernel new.kernel i j f.makes.made) in
    let most = f.moves in
    omega arith

units_spare : (us : List Entry) (p r : Placement) (locked : List Page) → OwnsFrames p → Forces us p locked r → Spares p r locked
units_spare [] p r locked o f = subst (λ (x : Placement). Spares p x locked) f (λ w a v. v)
units_spare (e ∷ us) p r locked o f = spares_both p (force p locked) r locked (force_spares p locked o) (units_spare us (force p locked) r locked (force_owner p locked o) f.2)

pub forced_spares : (locked : List Page) (old new : Standing) (holds : Option (List NamedFile)) (i j : Option SwapImage) → OwnsFrames old.kernel.place
    → Forced locked old new holds i j → Spares old.kernel.place new.kernel.place locked
forced_spares locked old new holds i j o f = units_spare f.units old.kernel.place new.kernel.place locked o f.forces

-- What is forced so far and what is left make the whole.

pub record ForcesSoFar (locked : List Page) (old now : Standing) (holds later : Option (List NamedFile)) (i h : Option SwapImage) : Type 0 where
  pub more : (new : Standing) (j : Option SwapImage) → Forced locked now new later h j → Forced locked old new holds i j
  pub stops : (stop : Stop) (new : Standing) (j : Option SwapImage) → StopsWhile (forcing_frame locked) now new later h j stop → StopsWhile (forcing_frame locked) old new holds i j stop
  pub keeps : (new : Standing) (j : Option SwapImage) → KeepsThrough now new later h j → KeepsThrough old new holds i j

pub forces_none : (locked : List Page) (old : Standing) (holds : Option (List NamedFile)) (i : Option SwapImage) → ForcesSoFar locked old old holds holds i i
forces_none locked old holds i = record { more = λ new j f. f; stops = λ stop new j f. f; keeps = λ new j k. k }

pub forces_one : (locked : List Page) (old now next : Standing) (holds later latest : Option (List NamedFile)) (i h k : Option SwapImage) → latest ≡ later
    → OwnsFrames now.kernel.place → HandsStand now.kernel.place → HasRoom now.kernel.place locked → now.kernel.place.free ≡ []
    → MakesUnit (ground now later locked) (force_entry now.kernel.place.transfers) now next h k → KeepsThrough now next later h k
    → ForcesSoFar locked old now holds later i h → ForcesSoFar locked old next holds latest i k
forces_one locked old now next holds later latest i h k e o s r n m t so = record {
  more = λ new j f. so.more new j (forced_first locked now next new later latest h k j e o s r n m f);
  stops = λ stop new j f. so.stops stop new j (stops_first locked now next stop new later latest h k j e n m f);
  keeps = λ new j f. so.keeps new j (keeps_on (ground now later locked) (force_entry now.kernel.place.transfers) now next new h later latest k j m e t f);
}
