-- Machines that run on, and units of paging behind which they do.
use Rattle.std.proofs.Common.{◌≡◌, ℕ, ◌+◌, ◌≤◌, List, [], ◌∷◌, length, Option, refl, sym, ap, ◌∙◌, subst, arith}
use Rattle.vm_facts.specs.SwapImages.{SwapImage}
use Rattle.vm_facts.specs.declared.entry.Entry.{Entry}
use Rattle.vm_facts.specs.declared.entry.Entry.TheVariants as entries
use Rattle.flat_state.specs.Journal.{append, counted, instructions_of}
use Rattle.page_model.specs.Placement.{Placement}
use Rattle.kernel_model.specs.Kernel.{Kernel}
use Rattle.machine_state.specs.Machine.{Standing}
use Rattle.swapper.specs.LastMoves.{last_moves}
use Rattle.swapper.specs.Made.{Ground, MadeBy, Made, Makes}
use Rattle.swapper.proofs.PagingUnitsUnits.{unit_place, unit_journal}
use Rattle.step_units.specs.Ready.{CountsOn, Continues}
use Rattle.step_units.specs.Sizes.{SameSizes}
use Rattle.step_units.proofs.Placements.{entry_frames, entry_clear}
use Rattle.step_units.proofs.Journals.{counts_one}

-- Machines.

pub continues : (old new : Standing) (n : ℕ) → CountsOn old new n → new.kernel.place.due ≡ []
    → last_moves new.kernel.journal ≤ last_moves old.kernel.journal → Continues old new n
continues old new n on clear low = record { params = on.params; images = on.images; clear = clear; frames = on.frames; low = low; counted = on.counted }

pub runs_on : (old new : Standing) (n : ℕ) → Continues old new n → CountsOn old new n
runs_on old new n c = record { params = c.params; images = c.images; frames = c.frames; counted = c.counted }

pub runs_self : (m : Standing) → CountsOn m m 0
runs_self m = record { params = refl; images = refl; frames = refl; counted = omega arith }

pub runs_both : (a b c : Standing) (m n : ℕ) → CountsOn a b m → CountsOn b c n → CountsOn a c (m + n)
runs_both a b c m n s t = record {
  params = t.params ∙ s.params;
  images = t.images ∙ s.images;
  frames = t.frames ∙ s.frames;
  counted = sum (instructions_of a.kernel.journal) (instructions_of b.kernel.journal) (instructions_of c.kernel.journal) s.counted t.counted;
}
  where
    sum : (x y z : ℕ) → y ≡ x + m → z ≡ y + n → z ≡ x + (m + n)
    sum x y z e f = omega arith

pub continues_self : (m : Standing) → m.kernel.place.due ≡ [] → Continues m m 0
continues_self m d = continues m m 0 (runs_self m) d (omega arith)

pub continues_both : (a b c : Standing) (m n : ℕ) → Continues a b m → Continues b c n → Continues a c (m + n)
continues_both a b c m n s t = continues a c (m + n) (runs_both a b c m n (runs_on a b m s) (runs_on b c n t)) t.clear (let x = s.low in let y = t.low in omega arith)

-- after a call that counts none
pub continues_from : (a b c : Standing) (n : ℕ) → Continues a b 0 → Continues b c n → Continues a c n
continues_from a b c n s t =
    let e : 0 + n ≡ n = omega arith in subst (λ (x : ℕ). Continues a c x) e (continues_both a b c 0 n s t)

-- after an entry behind which the last one counts no moves
pub entry_on : (old new : Standing) (e : Entry) → SameSizes old new → new.kernel.place.due ≡ [] → length new.kernel.place.holds ≡ length old.kernel.place.holds
    → new.kernel.journal ≡ append old.kernel.journal e → last_moves (append old.kernel.journal e) ≡ 0 → Continues old new (counted e)
entry_on old new e same clear frames journal none = record {
  params = same.params;
  images = same.images;
  clear = clear;
  frames = frames;
  low = let last = ap last_moves journal ∙ none in omega arith;
  counted = counts_one old.kernel.journal new.kernel.journal e journal;
}

-- Units.

unit_counts : (g : Ground) (e : Entry) (k l : Kernel) (i : Option SwapImage) → MadeBy g e k i l → counted e ≡ 0
unit_counts g (entries.Ran pid n) k l i h = absurd h
unit_counts g (entries.Call pid number carry a b) k l i h = absurd h
unit_counts g (entries.Ended pid status) k l i h = absurd h
unit_counts g _ k l i h = refl

pub made_counted : (g : Ground) (us : List Entry) (k l : Kernel) (i j : Option SwapImage) → Made g us k i l j
    → instructions_of l.journal ≡ instructions_of k.journal
made_counted g [] k l i j m = sym (ap (λ (x : Kernel). instructions_of x.journal) m.0)
made_counted g (e ∷ us) k l i j m =
    let rest = made_counted g us m.next l m.image j m.rest in
    let one = counts_one k.journal m.next.journal e (unit_journal g e k m.next i m.made) in
    let none = unit_counts g e k m.next i m.made in
    omega arith

pub made_frames : (g : Ground) (us : List Entry) (k l : Kernel) (i j : Option SwapImage) → Made g us k i l j → length l.place.holds ≡ length k.place.holds
made_frames g [] k l i j m = sym (ap (λ (x : Kernel). length x.place.holds) m.0)
made_frames g (e ∷ us) k l i j m =
    made_frames g us m.next l m.image j m.rest
    ∙ ap (λ (p : Placement). length p.holds) (unit_place g e k m.next i m.made)
    ∙ entry_frames g.locked (length (append k.journal e)) k.place e

pub made_clear : (g : Ground) (us : List Entry) (k l : Kernel) (i j : Option SwapImage) → k.place.due ≡ [] → Made g us k i l j → l.place.due ≡ []
made_clear g [] k l i j c m = sym (ap (λ (x : Kernel). x.place.due) m.0) ∙ c
made_clear g (e ∷ us) k l i j c m =
    made_clear g us m.next l m.image j
    (ap (λ (p : Placement). p.due) (unit_place g e k m.next i m.made) ∙ entry_clear g.locked (length (append k.journal e)) k.place e c) m.rest

pub units_run : (g : Ground) (us : List Entry) (old new : Standing) (i j : Option SwapImage) → Makes g us old new i j → CountsOn old new 0
units_run g us old new i j m = record {
  params = m.beside.params;
  images = m.beside.images;
  frames = made_frames g us old.kernel new.kernel i j m.made;
  counted = let count = made_counted g us old.kernel new.kernel i j m.made in omega arith;
}

pub units_continue : (g : Ground) (us : List Entry) (old new : Standing) (i j : Option SwapImage) → old.kernel.place.due ≡ [] → Makes g us old new i j
    → last_moves new.kernel.journal ≤ last_moves old.kernel.journal → Continues old new 0
units_continue g us old new i j d m low = continues old new 0 (units_run g us old new i j m) (made_clear g us old.kernel new.kernel i j d m.made) low
