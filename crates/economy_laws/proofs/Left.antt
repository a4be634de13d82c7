-- What a stretch of the closing phase may still add.
use Rattle.std.proofs.Common.{◌≡◌, inl, inr, ℕ, ◌+◌, ◌-◌, ◌*◌, ◌≤◌, Bool, true, false, List, [], ◌∷◌, ◌++◌, length, Option, Some, None, refl, sym, ap, ◌∙◌, subst, arith}
use Rattle.std.proofs.lemmas.List.{length-append}
use Rattle.vm_facts.specs.declared.page.Page.{Page}
use Rattle.vm_facts.specs.declared.entry.Entry.{Entry}
use Rattle.vm_facts.specs.declared.entry.Entry.TheVariants as entries
use Rattle.flat_state.specs.Flat.{Inputs, can_step}
use Rattle.page_model.specs.Pages.{is_valid}
use Rattle.page_model.specs.Placement.{Placement, Transfer, Due, Start, CopyOf, state_of, IsThere}
use Rattle.page_model.specs.Place.{place_entry}
use Rattle.page_model.specs.Serve.{force, force_entry, serve_step, serve_unit, Forces, Serves}
use Rattle.page_model.specs.Swapper.{is_out}
use Rattle.page_model.specs.Conditions.{EachPage}
use Rattle.page_model.specs.Ownership.{OwnsFrames}
use Rattle.page_laws.proofs.Moves.Units.{unit_is, entry_steps, forcing_place}
use Rattle.page_laws.proofs.Moves.Cases.{forcing_entry}
use Rattle.flat_model.specs.Run.{process_of_entry}
use Rattle.run_model.specs.State.{State}
use Rattle.flat_model.specs.Touched.{touched}
use Rattle.run_model.specs.Wanted.{running, touched_next, AllValid, first_absent, wanted_by, wanted, locked_by, locked, Splits}
use Rattle.run_model.specs.Snapshot.{touched_of, before_absent, present_by}
use Rattle.run_model.specs.After.{place_at, after}
use Rattle.run_model.proofs.Wanting.{split_absent, none_absent, before_past, all_before}
use Rattle.run_laws.specs.Running.{IsRun}
use Rattle.run_laws.proofs.Paging.{Leaver, entry_out}
use Rattle.run_laws.proofs.Plain.{serve_flat}
use Rattle.run_laws.proofs.Touching.{Present, touched_present, each_split}
use Rattle.run_laws.proofs.Units.{plain_place, owns}
use Rattle.page_laws.specs.Spans.{is_hands, adds, added, takes, takings}
use Rattle.economy_laws.specs.Stretch.{IsClosing, FewTouched}
use Rattle.page_laws.proofs.Forcing.{Short, forced_short}
use Rattle.page_laws.proofs.Serving.{Served, served_short}

-- Forcing and serving that go on: how many entries and transfers there will be at most, and how many takings.

abbrev pub ServeLeft : Bool → Placement → List Page → Page → ℕ → ℕ → Type 0
ServeLeft b p locked q n m = (us : List Entry) (r : Placement) → Serves us p locked q true r → (added b us + length r.transfers ≤ n) × (takings us ≤ m)

abbrev pub ForceLeft : Bool → Placement → List Page → ℕ → Type 0
ForceLeft b p locked n = (us : List Entry) (r : Placement) → Forces us p locked r → added b us + length r.transfers ≤ n

module _ (b : Bool) (p : Placement) (locked : List Page) where
  pub serve_new : (q : Page) → OwnsFrames p → IsThere p q → ServeLeft b p locked q (length p.transfers + 5) 1
  serve_new q o t = λ us r h. let k : Served b us r q (length p.transfers + 5) 0 (length p.transfers) 1 (length us) = served_short b us p r locked q true o t h in (k.few, k.taken)

  pub force_new : OwnsFrames p → ForceLeft b p locked (length p.transfers + 2)
  force_new o = λ us r h. let k : Short b us r (length p.transfers + 2) (length p.transfers) (length us) = forced_short b us p r locked o h in k.few

  pub serve_now : (q : Page) (n m : ℕ) → ServeLeft b p locked q n m → length p.transfers ≤ n
  serve_now q n m l = let k = l [] p refl in omega (arith, k.0)

  pub force_now : (n : ℕ) → ForceLeft b p locked n → length p.transfers ≤ n
  force_now n l = let k = l [] p refl in omega arith

  pub record ServeNext (q : Page) (e : Entry) (n m : ℕ) : Type 0 where
    pub x : ℕ
    pub y : ℕ
    pub left : ServeLeft (is_hands e) (serve_step p locked q) locked q x y
    pub entries_left : adds b e + x ≤ n
    pub takings_left : takes e + y ≤ m

  pub serve_next : (q : Page) (e : Entry) (n m : ℕ) → ServeLeft b p locked q n m → serve_unit p q true ≡ Some e → ServeNext q e n m
  serve_next q e n m l h =
      let one = l (e ∷ []) (serve_step p locked q) (h, refl) in
      record {
        x = n - adds b e;
        y = m - takes e;
        left = λ us r k. let z = l (e ∷ us) r (h, k) in (omega (arith, z.0), omega (arith, z.1));
        entries_left = omega (arith, one.0);
        takings_left = omega (arith, one.1);
      }

  pub record ForceNext (e : Entry) (n : ℕ) : Type 0 where
    pub x : ℕ
    pub left : ForceLeft (is_hands e) (force p locked) locked x
    pub entries_left : adds b e + x ≤ n

  pub force_next : (e : Entry) (n : ℕ) → ForceLeft b p locked n → p.free ≡ [] → e ≡ force_entry p.transfers → ForceNext e n
  force_next e n l f i =
      let one = l (e ∷ []) (force p locked) (f, i, refl) in
      record {
        x = n - adds b e;
        left = λ us r k. let z = l (e ∷ us) r (f, i, k) in omega arith;
        entries_left = omega arith;
      }

pub force_takes : (ts : List Transfer) → takes (force_entry ts) ≡ 0
force_takes [] = refl
force_takes (t ∷ ts) = refl

-- What units leave alone.

force_plain : (ts : List Transfer) → process_of_entry (force_entry ts) ≡ None
force_plain = forcing_entry (λ e. process_of_entry e ≡ None) refl refl

pub after_forced : (A : Inputs) (s : State) (u : Entry) (lk : List Page) → locked A s ≡ lk → u ≡ force_entry s.place.transfers
    → (after A s u).place ≡ force s.place lk
after_forced A s u lk e i = plain_place A s u (ap process_of_entry i ∙ force_plain s.place.transfers)
    ∙ ap (place_entry (locked A s) (place_at s u) s.place) i ∙ forcing_place (locked A s) (place_at s u) s.place ∙ ap (force s.place) e

pub after_served : (A : Inputs) (s : State) (u : Entry) (lk : List Page) (q : Page) → locked A s ≡ lk
    → serve_unit s.place q true ≡ Some u → (after A s u).place ≡ serve_step s.place lk q
after_served A s u lk q e h =
    let k = unit_is s.place q true u h in
    plain_place A s u (ap process_of_entry k.1 ∙ serve_flat s.place q)
    ∙ ap (place_entry (locked A s) (place_at s u) s.place) k.1
    ∙ entry_steps (locked A s) (place_at s u) s.place q k.0
    ∙ ap (λ (x : List Page). serve_step s.place x q) e

-- who is in stays in, but by a `SwapOut`
pub stays_in : (A : Inputs) (s : State) (u : Entry) (pid : ℕ) → process_of_entry u ≡ None → (Leaver u pid → ⊥) → is_out s.place pid ≡ false
    → is_out (after A s u).place pid ≡ true → ⊥
stays_in A s u pid n l o h = elim (entry_out (locked A s) (place_at s u) s.place u pid (subst (λ (p : Placement). is_out p pid ≡ true) (plain_place A s u n) h)) [
  | inl k ↦ absurd (let z : true ≡ false = sym k ∙ o in cc)
  | inr k ↦ absurd (l k)
]

-- What is wanted and locked while a process runs.

module _ (A : Inputs) (s : State) (pid : ℕ) where
  pub next_on : running s.mark ≡ Some pid → touched_next A s ≡ touched A s.point.flat pid
  next_on m = ap (touched_of A s.point.flat) m

  pub wanted_on : running s.mark ≡ Some pid → s.place.due ≡ [] → wanted A s ≡ first_absent s.place (touched A s.point.flat pid)
  wanted_on m d = ap (wanted_by A s) d ∙ ap (first_absent s.place) (next_on m)

  pub locked_on : running s.mark ≡ Some pid → s.place.due ≡ [] → locked A s ≡ before_absent s.place (touched A s.point.flat pid)
  locked_on m d = ap (locked_by A s) d ∙ ap (before_absent s.place) (next_on m)

  -- and in a turn

  pub wanted_is : IsClosing A s pid → s.place.due ≡ [] → wanted A s ≡ first_absent s.place (touched A s.point.flat pid)
  wanted_is c d = wanted_on (ap running c.mark) d

  pub locked_is : IsClosing A s pid → s.place.due ≡ [] → locked A s ≡ before_absent s.place (touched A s.point.flat pid)
  locked_is c d = locked_on (ap running c.mark) d

  pub split_there : (before : List Page) (q : Page) → IsRun A s → Splits s.place (touched A s.point.flat pid) before q → IsThere s.place q
  split_there before q r k =
      let here : Present s.place q =
      each_split (Present s.place) before q k.behind (subst (EachPage (Present s.place)) k.whole (touched_present A s.point.flat s.place s.holdings pid r.numbers r.texts r.placed)) in
      here.there

pub split_short : (p : Placement) (pages before : List Page) (q : Page) → Splits p pages before q → length before + 1 ≤ length pages
split_short p pages before q k = let a = ap length k.whole in let b = length-append before (q ∷ k.behind) in omega arith

-- pages before it and it itself are valid
pub split_longer : (p : Placement) (pages before behind : List Page) (q : Page) → pages ≡ before ++ q ∷ behind → AllValid p before
    → is_valid (state_of p q) ≡ true → length before + 1 ≤ length (before_absent p pages)
split_longer p pages before behind q w v i =
    let a = ap (λ (x : List Page). length (before_absent p x)) w in
    let b = ap length (before_past p before (q ∷ behind) v) in
    let c = length-append before (before_absent p (q ∷ behind)) in
    let d = ap (λ (x : Bool). length (present_by x q (before_absent p behind))) i in
    omega arith

-- What is left at a state.

abbrev pub is_closed : Option Entry → Bool
is_closed (Some (entries.Refused pid)) = true
is_closed (Some (entries.Out pid bytes)) = true
is_closed _ = false

abbrev pub AllCopies : List Due → Type 0
AllCopies [] = Unit {0}
AllCopies (Start q ∷ ds) = ⊥
AllCopies (CopyOf q parent ∷ ds) = AllCopies ds

-- entries for the page of a new stack
pub record StartLeft (b : Bool) (p : Placement) (n m : ℕ) : Type 0 where
  pub x : ℕ
  pub left : ForceLeft b p [] x
  pub some : x + 195 ≤ n
  pub takers : 33 ≤ m

-- for a parent's page, and a copy
pub record BringLeft (b : Bool) (p : Placement) (parent : Page) (n m : ℕ) : Type 0 where
  pub x : ℕ
  pub y : ℕ
  pub left : ServeLeft b p (parent ∷ []) parent x y
  pub some : x + 197 ≤ n
  pub takers : y + 32 ≤ m

pub record CopyLeft (b : Bool) (p : Placement) (parent : Page) (n m : ℕ) : Type 0 where
  pub x : ℕ
  pub left : ForceLeft b p (parent ∷ []) x
  pub some : x + 195 ≤ n
  pub takers : 32 ≤ m

-- for a page that is wanted, and those after it
pub record PageLeft (A : Inputs) (s : State) (pid : ℕ) (b : Bool) (q : Page) (n m : ℕ) : Type 0 where
  pub before : List Page
  pub splits : Splits s.place (touched A s.point.flat pid) before q
  pub x : ℕ
  pub y : ℕ
  pub left : ServeLeft b s.place before q x y
  pub some : x + 5 * (31 - length before) + (32 - length (touched A s.point.flat pid)) + 1 ≤ n
  pub takers : y + (31 - length before) ≤ m

-- for what a process does
pub record ActLeft (A : Inputs) (s : State) (pid : ℕ) (n m : ℕ) : Type 0 where
  pub flights : length s.place.transfers ≤ n
  pub some : is_closed s.point.last ≡ false → length s.place.transfers + 6 * (32 - length (touched A s.point.flat pid)) + 1 ≤ n
  pub takers : is_closed s.point.last ≡ false → 32 - length (touched A s.point.flat pid) ≤ m

pub record Left (A : Inputs) (s : State) (pid : ℕ) (b : Bool) (n m : ℕ) : Type 0 where
  pub start : (q : Page) (ds : List Due) → s.place.due ≡ Start q ∷ ds → (ds ≡ []) × StartLeft b s.place n m
  pub copied : (q parent : Page) (ds : List Due) → s.place.due ≡ CopyOf q parent ∷ ds
      → AllCopies ds × (is_valid (state_of s.place parent) ≡ false → BringLeft b s.place parent n m)
      × (is_valid (state_of s.place parent) ≡ true → CopyLeft b s.place parent n m)
  pub comes : s.place.due ≡ [] → is_out s.place pid ≡ true → (length s.place.transfers + 194 ≤ n) × (32 ≤ m)
  pub page : (q : Page) → s.place.due ≡ [] → is_out s.place pid ≡ false → can_step s.point.flat pid ≡ true → wanted A s ≡ Some q → PageLeft A s pid b q n m
  pub acts : s.place.due ≡ [] → is_out s.place pid ≡ false → can_step s.point.flat pid ≡ true → wanted A s ≡ None → ActLeft A s pid n m

-- a unit, and what is left behind it
pub record Next (A : Inputs) (s : State) (pid : ℕ) (b : Bool) (u : Entry) (n m : ℕ) : Type 0 where
  pub x : ℕ
  pub y : ℕ
  pub left : Left A (after A s u) pid (is_hands u) x y
  pub some : adds b u + x ≤ n + 8 * Rattle.economy_laws.specs.Stretch.copies u
  pub takers : takes u + y ≤ m + Rattle.economy_laws.specs.Stretch.copies u

-- where nothing is due
pub ready : (A : Inputs) (s : State) (pid : ℕ) (b : Bool) (n m : ℕ) → FewTouched A → IsRun A s → IsClosing A s pid → s.place.due ≡ []
    → (is_out s.place pid ≡ true → (length s.place.transfers + 194 ≤ n) × (32 ≤ m))
    → (is_out s.place pid ≡ false → (length s.place.transfers + 5 * (32 - length (before_absent s.place (touched A s.point.flat pid)))
    + (32 - length (touched A s.point.flat pid)) + 1 ≤ n) × (32 - length (before_absent s.place (touched A s.point.flat pid)) ≤ m))
    → Left A s pid b n m
ready A s pid b n m few r c d out room =
    let pages : List Page = touched A s.point.flat pid in
    let wants : (q : Page) → is_out s.place pid ≡ false → wanted A s ≡ Some q → PageLeft A s pid b q n m = λ q o e.
    let k : Splits s.place (touched A s.point.flat pid) (before_absent s.place (touched A s.point.flat pid)) q =
    split_absent s.place (touched A s.point.flat pid) q (sym (wanted_is A s pid c d) ∙ e) in
    let l = split_short s.place (touched A s.point.flat pid) (before_absent s.place (touched A s.point.flat pid)) q k in
    let f = few s pid r in
    let g = room o in
    record {
      before = before_absent s.place (touched A s.point.flat pid);
      splits = k;
      x = length s.place.transfers + 5;
      y = 1;
      left = serve_new b s.place (before_absent s.place (touched A s.point.flat pid)) q (owns A s r.placed) (split_there A s pid (before_absent s.place (touched A s.point.flat pid)) q r k);
      some = omega (arith, g.0);
      takers = omega (arith, g.1);
    } in
    let does : is_out s.place pid ≡ false → wanted A s ≡ None → ActLeft A s pid n m = λ o e.
    let k : before_absent s.place (touched A s.point.flat pid) ≡ touched A s.point.flat pid =
    all_before s.place (touched A s.point.flat pid) (none_absent s.place (touched A s.point.flat pid) (sym (wanted_is A s pid c d) ∙ e)) in
    let l = ap length k in
    let g = room o in
    record {
      flights = omega (arith, g.0);
      some = λ z. omega (arith, g.0);
      takers = λ z. omega (arith, g.1);
    } in
    record {
      start = λ q ds e. absurd (let z : Start q ∷ ds ≡ [] = sym e ∙ d in cc);
      copied = λ q parent ds e. absurd (let z : CopyOf q parent ∷ ds ≡ [] = sym e ∙ d in cc);
      comes = λ z o. out o;
      page = λ q z o w e. wants q o e;
      acts = λ z o w e. does o e;
    }
