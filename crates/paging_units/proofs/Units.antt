-- Units of paging, one by one and in order.
use Rattle.std.proofs.Common.{◌≡◌, ℕ, List, [], ◌∷◌, ◌++◌, length, Bool, Option, Some, refl, sym, ap, ◌∙◌, subst}
use Rattle.vm_facts.specs.SwapImages.{SwapImage}
use Rattle.vm_facts.specs.declared.page.Page.{Page}
use Rattle.vm_facts.specs.declared.entry.Entry.{Entry}
use Rattle.vm_facts.specs.declared.entry.Entry.TheVariants as entries
use Rattle.flat_state.specs.Journal.{append, appended}
use Rattle.page_model.specs.Placement.{Placement}
use Rattle.page_model.specs.Hands.{hand_moves}
use Rattle.page_model.specs.Place.{place_entry}
use Rattle.page_model.specs.Serve.{force, force_entry, Forces, serve_unit, serve_step}
use Rattle.machine_state.proofs.Units.{unit_is, entry_steps, forcing_place}
use Rattle.kernel_model.specs.Kernel.{Kernel}
use Rattle.io_edge.specs.FileHolding.{NamedFile}
use Rattle.machine_state.specs.Sourced.{ImageNamed, files_named}
use Rattle.machine_state.specs.Machine.{Standing}
use Rattle.machine_state.specs.Settled.{IsSameBeside}
use Rattle.paging_units.specs.Made.{Ground, ground, MadeBy, ImageBy, Made, MakesUnit, Makes, SameBeside, starts_by, starts_behind}

-- One unit.

pub unit_place : (g : Ground) (e : Entry) (k l : Kernel) (i : Option SwapImage) → MadeBy g e k i l
    → l.place ≡ place_entry g.locked (length (append k.journal e)) k.place e
unit_place g (entries.Zero q) k l i h = ap (λ (x : Kernel). x.place) h
unit_place g (entries.Copy q) k l i h = ap (λ (x : Kernel). x.place) h
unit_place g (entries.Get q lo n) k l i h = ap (λ (x : Kernel). x.place) h
unit_place g (entries.Reclaim q) k l i h = ap (λ (x : Kernel). x.place) h
unit_place g (entries.Hands n) k l i h = ap (λ (x : Kernel). x.place) h.1 ∙ sym (ap (hand_moves k.place g.locked) h.0)
unit_place g (entries.Put q n) k l i h = ap (λ (x : Kernel). x.place) h
unit_place g entries.Done k l i h = ap (λ (x : Kernel). x.place) h.step
unit_place g _ k l i h = absurd h

pub unit_journal : (g : Ground) (e : Entry) (k l : Kernel) (i : Option SwapImage) → MadeBy g e k i l → l.journal ≡ append k.journal e
unit_journal g (entries.Zero q) k l i h = ap (λ (x : Kernel). x.journal) h
unit_journal g (entries.Copy q) k l i h = ap (λ (x : Kernel). x.journal) h
unit_journal g (entries.Get q lo n) k l i h = ap (λ (x : Kernel). x.journal) h
unit_journal g (entries.Reclaim q) k l i h = ap (λ (x : Kernel). x.journal) h
unit_journal g (entries.Hands n) k l i h = ap (λ (x : Kernel). x.journal) h.1 ∙ sym (ap (λ (m : ℕ). append k.journal (entries.Hands m)) h.0)
unit_journal g (entries.Put q n) k l i h = ap (λ (x : Kernel). x.journal) h
unit_journal g entries.Done k l i h = ap (λ (x : Kernel). x.journal) h.step
unit_journal g _ k l i h = absurd h

same_by : (k l m : Kernel) → l ≡ m → SameBeside k m → SameBeside k l
same_by k l m e s = subst (λ (x : Kernel). SameBeside k x) (sym e) s

pub unit_same : (g : Ground) (e : Entry) (k l : Kernel) (i : Option SwapImage) → MadeBy g e k i l → SameBeside k l
unit_same g (entries.Zero q) k l i h = same_by k l _ h (record { holdings = refl; processes = refl; next_pid = refl; next_sid = refl; stopped = refl })
unit_same g (entries.Copy q) k l i h = same_by k l _ h (record { holdings = refl; processes = refl; next_pid = refl; next_sid = refl; stopped = refl })
unit_same g (entries.Get q lo n) k l i h = same_by k l _ h (record { holdings = refl; processes = refl; next_pid = refl; next_sid = refl; stopped = refl })
unit_same g (entries.Reclaim q) k l i h = same_by k l _ h (record { holdings = refl; processes = refl; next_pid = refl; next_sid = refl; stopped = refl })
unit_same g (entries.Hands n) k l i h = same_by k l _ h.1 (record { holdings = refl; processes = refl; next_pid = refl; next_sid = refl; stopped = refl })
unit_same g (entries.Put q n) k l i h = same_by k l _ h (record { holdings = refl; processes = refl; next_pid = refl; next_sid = refl; stopped = refl })
unit_same g entries.Done k l i h = same_by k l _ h.step (record { holdings = refl; processes = refl; next_pid = refl; next_sid = refl; stopped = refl })
unit_same g _ k l i h = absurd h

pub unit_starts : (g : Ground) (e : Entry) (k l : Kernel) (i : Option SwapImage) → MadeBy g e k i l → l.starts ≡ starts_by e k.starts
unit_starts g (entries.Zero q) k l i h = ap (λ (x : Kernel). x.starts) h
unit_starts g (entries.Copy q) k l i h = ap (λ (x : Kernel). x.starts) h
unit_starts g (entries.Get q lo n) k l i h = ap (λ (x : Kernel). x.starts) h
unit_starts g (entries.Reclaim q) k l i h = ap (λ (x : Kernel). x.starts) h
unit_starts g (entries.Hands n) k l i h = ap (λ (x : Kernel). x.starts) h.1
unit_starts g (entries.Put q n) k l i h = ap (λ (x : Kernel). x.starts) h
unit_starts g entries.Done k l i h = ap (λ (x : Kernel). x.starts) h.step
unit_starts g _ k l i h = absurd h

-- the unit that forces a frame, and one that serves a page

pub forced_place : (g : Ground) (k l : Kernel) (i : Option SwapImage) → MadeBy g (force_entry k.place.transfers) k i l → l.place ≡ force k.place g.locked
forced_place g k l i h =
    unit_place g (force_entry k.place.transfers) k l i h
    ∙ forcing_place g.locked (length (append k.journal (force_entry k.place.transfers))) k.place

pub served_place : (g : Ground) (q : Page) (now : Bool) (e : Entry) (k l : Kernel) (i : Option SwapImage) → serve_unit k.place q now ≡ Some e
    → MadeBy g e k i l → l.place ≡ serve_step k.place g.locked q
served_place g q now e k l i s h =
    let u = unit_is k.place q now e s in
    unit_place g e k l i h ∙ ap (place_entry g.locked (length (append k.journal e)) k.place) u.1
    ∙ entry_steps g.locked (length (append k.journal e)) k.place q u.0

-- Units in order.

pub made_append : (g : Ground) (us vs : List Entry) (k l m : Kernel) (i j h : Option SwapImage) → Made g us k i l j → Made g vs l j m h
    → Made g (us ++ vs) k i m h
made_append g [] vs k l m i j h a b =
    subst (λ (x : Kernel). Made g vs x i m h) (sym a.0) (subst (λ (x : Option SwapImage). Made g vs l x m h) (sym a.1) b)
made_append g (e ∷ us) vs k l m i j h a b =
    record { next = a.next; image = a.image; made = a.made; told = a.told; rest = made_append g us vs a.next l m a.image j h a.rest b }

pub made_one : (g : Ground) (e : Entry) (k l : Kernel) (i j : Option SwapImage) → MadeBy g e k i l → ImageBy (files_named g.from.images) e k i j → Made g
    (e ∷ []) k i l j
made_one g e k l i j a b = record { next = l; image = j; made = a; told = b; rest = (refl, refl) }

pub made_journal : (g : Ground) (us : List Entry) (k l : Kernel) (i j : Option SwapImage) → Made g us k i l j → l.journal ≡ appended k.journal us
made_journal g [] k l i j a = sym (ap (λ (x : Kernel). x.journal) a.0)
made_journal g (e ∷ us) k l i j a =
    made_journal g us a.next l a.image j a.rest ∙ ap (λ (x : List Entry). appended x us) (unit_journal g e k a.next i a.made)

same_both : (k l m : Kernel) → SameBeside k l → SameBeside l m → SameBeside k m
same_both k l m a b = record {
  holdings = b.holdings ∙ a.holdings;
  processes = b.processes ∙ a.processes;
  next_pid = b.next_pid ∙ a.next_pid;
  next_sid = b.next_sid ∙ a.next_sid;
  stopped = b.stopped ∙ a.stopped;
}

pub made_same : (g : Ground) (us : List Entry) (k l : Kernel) (i j : Option SwapImage) → Made g us k i l j → SameBeside k l
made_same g [] k l i j a = subst (λ (x : Kernel). SameBeside k x) a.0 (record { holdings = refl; processes = refl; next_pid = refl; next_sid = refl; stopped = refl })
made_same g (e ∷ us) k l i j a = same_both k a.next l (unit_same g e k a.next i a.made) (made_same g us a.next l a.image j a.rest)

pub made_starts : (g : Ground) (us : List Entry) (k l : Kernel) (i j : Option SwapImage) → Made g us k i l j → l.starts ≡ starts_behind us k.starts
made_starts g [] k l i j a = sym (ap (λ (x : Kernel). x.starts) a.0)
made_starts g (e ∷ us) k l i j a =
    made_starts g us a.next l a.image j a.rest ∙ ap (starts_behind us) (unit_starts g e k a.next i a.made)

-- units that force a frame lead to the placement that forcing leads to
pub made_forces : (g : Ground) (us : List Entry) (k l : Kernel) (i j : Option SwapImage) (r : Placement) → Made g us k i l j
    → Forces us k.place g.locked r → l.place ≡ r
made_forces g [] k l i j r a f = sym (ap (λ (x : Kernel). x.place) a.0) ∙ f
made_forces g (e ∷ us) k l i j r a f =
    let forced : a.next.place ≡ force k.place g.locked = forced_place g k a.next i (subst (λ (u : Entry). MadeBy g u k i a.next) f.1 a.made) in
    made_forces g us a.next l a.image j r a.rest (subst (λ (p : Placement). Forces us p g.locked r) (sym forced) f.2)

-- Of a machine.

beside_both : (a b c : Standing) → IsSameBeside a b → IsSameBeside b c → IsSameBeside a c
beside_both a b c f g = record { params = g.params ∙ f.params; images = g.images ∙ f.images; before = g.before ∙ f.before }

pub makes_none : (g : Ground) (old new : Standing) (i j : Option SwapImage) → new ≡ old → j ≡ i → Makes g [] old new i j
makes_none g old new i j e f = record {
  made = (sym (ap (λ (s : Standing). s.kernel) e), sym f);
  beside = record { params = ap (λ (s : Standing). s.params) e; images = ap (λ (s : Standing). s.images) e; before = ap (λ (s : Standing). s.before) e };
}

pub makes_first : (g : Ground) (e : Entry) (us : List Entry) (old next new : Standing) (i h j : Option SwapImage) → MakesUnit g e old next i h
    → Makes g us next new h j → Makes g (e ∷ us) old new i j
makes_first g e us old next new i h j a b = record {
  made = record { next = next.kernel; image = h; made = a.made; told = a.told; rest = b.made };
  beside = beside_both old next new a.beside b.beside;
}

-- after a part that leaves its images, with the same files, the ground is the same
pub same_ground : (old next : Standing) (holds later : Option (List NamedFile)) (locked : List Page) → later ≡ holds → IsSameBeside old next
    → ground next later locked ≡ ground old holds locked
same_ground old next holds later locked e b =
    ap (λ (x : Option (List NamedFile)). ground next x locked) e
    ∙ ap (λ (ns : List ImageNamed). let g : Ground = record { locked = locked; from = record { images = ns; files = holds } } in g) b.images

pub makes_on : (us : List Entry) (old next new : Standing) (holds later : Option (List NamedFile)) (locked : List Page) (i j : Option SwapImage)
    → later ≡ holds → IsSameBeside old next
    → Makes (ground next later locked) us next new i j → Makes (ground old holds locked) us next new i j
makes_on us old next new holds later locked i j e b m = subst (λ (g : Ground). Makes g us next new i j) (same_ground old next holds later locked e b) m

pub makes_both : (g : Ground) (us vs : List Entry) (old next new : Standing) (i h j : Option SwapImage) → Makes g us old next i h
    → Makes g vs next new h j → Makes g (us ++ vs) old new i j
makes_both g us vs old next new i h j a b = record {
  made = made_append g us vs old.kernel next.kernel new.kernel i h j a.made b.made;
  beside = beside_both old next new a.beside b.beside;
}
