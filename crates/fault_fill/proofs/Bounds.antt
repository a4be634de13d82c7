-- How short serving is, and what it spares.
use Rattle.std.proofs.Common.{◌≡◌, ◌+◌, ◌≤◌, Bool, true, false, List, [], ◌∷◌, length, Option, Some, None, Result, Ok, Err, MatchResult, OnOk, OnErr, refl, sym, ap, ◌∙◌, subst, arith}
use Rattle.std.proofs.lemmas.Bool.{or_left}
use Rattle.vm_facts.specs.declared.page.Page.{Page}
use Rattle.vm_facts.specs.declared.page.PageState.{PageState}
use Rattle.vm_facts.specs.declared.page.PageState.TheVariants.{Unfilled, Valid, Invalid, Coming, Going, OnSwap}
use Rattle.vm_facts.specs.declared.stop.Stop.{Stop}
use Rattle.vm_facts.specs.declared.entry.Entry.{Entry}
use Rattle.io_edge.specs.FileHolding.{NamedFile}
use Rattle.vm_facts.specs.declared.entry.Entry.TheVariants as entries
use Rattle.std.proofs.lemmas.Option.{same_Some}
use Rattle.vm_facts.specs.SwapImages.{SwapImage}
use Rattle.flat_state.specs.Journal.{append, appended}
use Rattle.flat_state.specs.PageNames.{is_among, same_page}
use Rattle.flat_state.proofs.PageNames.{same_page_self}
use Rattle.page_model.specs.Pages.{frame_of, is_valid}
use Rattle.page_model.specs.Placement.{Placement, state_of, IsThere}
use Rattle.page_model.specs.Reading.{read_entry}
use Rattle.page_model.specs.Serve.{force, serve_unit, serve_step, Serves, unit_of_serving, after_serving}
use Rattle.page_model.specs.Conditions.{Spares}
use Rattle.page_model.specs.Ownership.{OwnsFrames}
use Rattle.page_laws.proofs.Moves.Stays.{Stays, force_stays}
use Rattle.page_laws.proofs.Moves.Units.{unit_is}
use Rattle.page_laws.proofs.Moves.Locks.{serve_spares, spares_both}
use Rattle.page_laws.proofs.Ownership.Serve.{serve_owner}
use Rattle.page_laws.proofs.Moves.Cases.{serving_cases}
use Rattle.clock_hands.specs.Spans.{takings}
use Rattle.clock_hands.proofs.Spanning.{units_added_false}
use Rattle.clock_hands.proofs.Serving.{served_short}
use Rattle.clock_hands.proofs.Serving as short
use Rattle.clock_hands.specs.Machine.{Standing}
use Rattle.clock_hands.specs.LastMoves.{last_moves}
use Rattle.clock_hands.specs.Made.{ground}
use Rattle.clock_hands.proofs.LastMoves.{last_of}
use Rattle.clock_hands.proofs.PagingUnitsUnits.{made_journal}
use Rattle.clock_hands.specs.Stops.{StopsWhile}
use Rattle.fault_fill.specs.Serving.{CanServe, ServesTo, serving_page}
use Rattle.fault_fill.specs.Answers.{AllStayValid, IsShort}
use Rattle.fault_fill.proofs.Serving.{still_served, calm_unit}

pub match_ok : {A E : Type 0} {X : Type 0} (P : A → Type 0) (Q : E → Type 0) (r : Result A E) → ((x : A) → P x → X) → MatchResult r P Q → OnOk r X
match_ok P Q (Ok x) f m = f x m
match_ok P Q (Err e) f m = tt

pub match_err : {A E : Type 0} {X : Type 0} (P : A → Type 0) (Q : E → Type 0) (r : Result A E) → ((e : E) → Q e → X) → MatchResult r P Q → OnErr r X
match_err P Q (Ok x) f m = tt
match_err P Q (Err e) f m = f e m

module _ (now : Bool) (locked : List Page) (q : Page) (old new : Standing) (holds : Option (List NamedFile)) (i j : Option SwapImage) where
  -- how far serving came, however far it came
  pub serves_short : OwnsFrames old.kernel.place → IsThere old.kernel.place q → ServesTo now locked q old new holds i j → IsShort q old new
  serves_short o there s =
      let k : short.Served false s.units new.kernel.place q (length old.kernel.place.transfers + 5) 0 (length old.kernel.place.transfers) 1 (length s.units) =
      served_short false s.units old.kernel.place new.kernel.place locked q now o there s.leads in
      let a = units_added_false old.kernel.journal s.units in
      let b = ap (λ (es : List Entry). length es) (made_journal (ground old holds locked) s.units old.kernel new.kernel i j s.makes.made) in
      record {
        few = (let f = k.few in omega arith);
        flights = λ v. (let r = k.rest v in omega arith);
      }

  pub serves_takings : OwnsFrames old.kernel.place → IsThere old.kernel.place q → (s : ServesTo now locked q old new holds i j) → takings s.units ≤ 1
  serves_takings o there s =
      let k : short.Served false s.units new.kernel.place q (length old.kernel.place.transfers + 5) 0 (length old.kernel.place.transfers) 1 (length s.units) =
      served_short false s.units old.kernel.place new.kernel.place locked q now o there s.leads in
      k.taken

  pub stops_short : (stop : Stop) → OwnsFrames old.kernel.place → IsThere old.kernel.place q → StopsWhile (serving_page now locked q) old new holds i j stop
      → length new.kernel.journal ≤ length old.kernel.journal + length old.kernel.place.transfers + 5
  stops_short stop o there s =
      let k : short.Served false s.units s.at.place q (length old.kernel.place.transfers + 5) 0 (length old.kernel.place.transfers) 1 (length s.units) =
      served_short false s.units old.kernel.place s.at.place locked q now o there s.leads in
      let a = units_added_false old.kernel.journal s.units in
      let b = ap (λ (es : List Entry). length es) (made_journal (ground old holds locked) s.units old.kernel s.at i s.image s.made) in
      let c = ap (λ (es : List Entry). length es) s.stops.journal in
      let f = k.few in
      omega arith

-- locked pages that are valid stay so
pub spared : (us : List Entry) (p r : Placement) (locked : List Page) (q : Page) (now : Bool) → OwnsFrames p → CanServe p q
    → Serves us p locked q now r → Spares p r locked
spared [] p r locked q now o c h = subst (λ (x : Placement). Spares p x locked) h (λ w a v. v)
spared (e ∷ us) p r locked q now o c h =
    spares_both p (serve_step p locked q) r locked (serve_spares p locked q o c.there)
    (spared us (serve_step p locked q) r locked q now (serve_owner p locked q o c.there) (still_served p locked q o c) h.1)

-- without waiting the hands don't move, whatever is locked
step_calm : (p : Placement) (locked : List Page) (q : Page) (e : Entry) → serve_unit p q false ≡ Some e → serve_step p [] q ≡ serve_step p locked q
step_calm p locked q e h = serving_cases (λ x. unit_of_serving x false ≡ Some e → after_serving p [] x ≡ after_serving p locked x) p q (λ f s k. absurd cc)
    (λ f s k. refl) (λ f s k. absurd cc) (λ n l k. absurd cc) (λ f fs l s x k. refl) (λ f fs l r b k. refl) (λ f fs l r b k. refl) h

serves_calm : (us : List Entry) (p r : Placement) (locked : List Page) (q : Page) → Serves us p [] q false r → Serves us p locked q false r
serves_calm [] p r locked q h = h
serves_calm (e ∷ us) p r locked q h = (
  h.0,
  serves_calm us (serve_step p locked q) r locked q (subst (λ (x : Placement). Serves us x [] q false r) (step_calm p locked q e h.0) h.1),
)

-- so each page that is valid stays so
pub all_stay : (us : List Entry) (p r : Placement) (q : Page) → OwnsFrames p → CanServe p q → Serves us p [] q false r → AllStayValid p r
all_stay us p r q o c h = λ w v.
    spared us p r (w ∷ []) q false o c (serves_calm us p r (w ∷ []) q h) w (or_left (same_page w w) (is_among w []) (same_page_self w)) v

-- The moves of the hands that the last entry counts.

last_calm : (us : List Entry) (p r : Placement) (q : Page) (journal : List Entry) → Serves us p [] q false r
    → last_moves (appended journal us) ≤ last_moves journal
last_calm [] p r q journal h = omega arith
last_calm (e ∷ us) p r q journal h =
    let a = last_calm us (serve_step p [] q) r q (append journal e) h.1 in
    let b = calm_unit p q e journal h.0 in
    omega arith

frameless_not_valid : (s : PageState) → frame_of s ≡ None → is_valid s ≡ true → ⊥
frameless_not_valid Unfilled n v = absurd cc
frameless_not_valid OnSwap n v = absurd cc
frameless_not_valid (Valid f) n v = absurd cc
frameless_not_valid (Invalid f) n v = absurd cc
frameless_not_valid (Coming f) n v = absurd cc
frameless_not_valid (Going f) n v = absurd cc

-- the unit that makes the page valid is no move of the hands
last_valid : (p : Placement) (locked : List Page) (q : Page) (e : Entry) (journal : List Entry) → OwnsFrames p → serve_unit p q true ≡ Some e
    → is_valid (state_of (serve_step p locked q) q) ≡ true → last_moves (append journal e) ≡ 0
last_valid p locked q e journal o h v =
    serving_cases (λ x. unit_of_serving x true ≡ Some e → is_valid (state_of (after_serving p locked x) q) ≡ true → Calm e) p q (λ f s k w. absurd cc)
    (λ f s k w. same (entries.Reclaim q) (last_of journal (entries.Reclaim q)) k) (λ f s k w. same entries.Done (last_of journal entries.Done) k)
    (λ n l k w. let t : Stays p (force p locked) = force_stays p locked o in absurd (frameless_not_valid (state_of (force p locked) q) (t.frames q ∙ n) w))
    (λ f fs l s x k w. same (entries.Zero q) (last_of journal (entries.Zero q)) k) (λ f fs l r b k w. same entries.Done (last_of journal entries.Done) k)
    (λ f fs l r b k w. same (read_entry p q) (last_of journal (read_entry p q)) k) h v
  where
    Calm : Entry → Type 0
    Calm x = last_moves (append journal x) ≡ 0

    same : (x : Entry) → Calm x → Some x ≡ Some e → Calm e
    same x c i = subst Calm (same_Some x e i) c

-- so the units that make a page valid leave none counted
last_none : (us : List Entry) (p r : Placement) (locked : List Page) (q : Page) (journal : List Entry) → OwnsFrames p → CanServe p q
    → Serves us p locked q true r
    → is_valid (state_of p q) ≡ false → is_valid (state_of r q) ≡ true → last_moves (appended journal us) ≡ 0
last_none [] p r locked q journal o c h n v = absurd (let k : true ≡ false = sym v ∙ ap (λ (x : Placement). is_valid (state_of x q)) (sym h) ∙ n in cc)
last_none (e ∷ us) p r locked q journal o c h n v = go (is_valid (state_of (serve_step p locked q) q)) refl
    (λ m. last_none us (serve_step p locked q) r locked q (append journal e) (serve_owner p locked q o c.there) (still_served p locked q o c) h.1 m v)
  where
    over : (ds : List Entry) → Serves ds (serve_step p locked q) locked q true r → is_valid (state_of (serve_step p locked q) q) ≡ true → last_moves (appended (append journal e) ds) ≡ 0
    over [] k w = last_valid p locked q e journal o h.0 w
    over (d ∷ ds) k w = absurd (let x : true ≡ false = sym w ∙ (unit_is (serve_step p locked q) q true d k.0).0 in cc)

    go : (b : Bool) → is_valid (state_of (serve_step p locked q) q) ≡ b
        → (is_valid (state_of (serve_step p locked q) q) ≡ false → last_moves (appended (append journal e) us) ≡ 0) → last_moves (appended (append journal e) us) ≡ 0
    go false m more = more m
    go true m more = over us h.1 m

last_low : (us : List Entry) (p r : Placement) (locked : List Page) (q : Page) (journal : List Entry) → OwnsFrames p → CanServe p q
    → Serves us p locked q true r
    → is_valid (state_of r q) ≡ true → last_moves (appended journal us) ≤ last_moves journal
last_low [] p r locked q journal o c h v = omega arith
last_low (e ∷ us) p r locked q journal o c h v =
    let a = last_none (e ∷ us) p r locked q journal o c h (unit_is p q true e h.0).0 v in omega arith

pub calls_calm : (q : Page) (old new : Standing) (holds : Option (List NamedFile)) (i j : Option SwapImage)
    → ServesTo false [] q old new holds i j → last_moves new.kernel.journal ≤ last_moves old.kernel.journal
calls_calm q old new holds i j s =
    let a = last_calm s.units old.kernel.place new.kernel.place q old.kernel.journal s.leads in
    let b = ap last_moves (made_journal (ground old holds []) s.units old.kernel new.kernel i j s.makes.made) in
    omega arith

pub calls_low : (locked : List Page) (q : Page) (old new : Standing) (holds : Option (List NamedFile)) (i j : Option SwapImage)
    → OwnsFrames old.kernel.place → CanServe old.kernel.place q
    → ServesTo true locked q old new holds i j → is_valid (state_of new.kernel.place q) ≡ true → last_moves new.kernel.journal ≤ last_moves old.kernel.journal
calls_low locked q old new holds i j o c s v =
    let a = last_low s.units old.kernel.place new.kernel.place locked q old.kernel.journal o c s.leads v in
    let b = ap last_moves (made_journal (ground old holds locked) s.units old.kernel new.kernel i j s.makes.made) in
    omega arith
