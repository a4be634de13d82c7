-- A paging entry leaves what stands.
use Rattle.std.proofs.Common.{◌≡◌, ◌⊎◌, inl, inr, ℕ, ◌*◌, ◌==◌, ◌≤◌, Bool, true, false, cond, List, [], ◌∷◌, length, refl, sym, ap, ◌∙◌, subst}
use Rattle.std.proofs.lemmas.List.{length-replicate}
use Rattle.flat_state.specs.Flat.{FlatState, Inputs, process_of, spaces_of}
use Rattle.vm_facts.specs.declared.page.Page.{Page}
use Rattle.vm_facts.specs.declared.page.Page.TheVariants.{Text}
use Rattle.vm_facts.specs.declared.entry.Entry.{Entry}
use Rattle.vm_facts.specs.declared.entry.Entry.TheVariants as entries
use Rattle.swap_book.specs.Holdings.{Holdings}
use Rattle.page_model.specs.Pages.{changed, numbered}
use Rattle.flat_state.specs.PageNames.{pages_from, number_of, same_page}
use Rattle.page_model.specs.Placement.{Placement, Residence, Due, due_page, space_number, slots_of}
use Rattle.page_model.specs.Moves.{done, reclaim, get_run}
use Rattle.page_model.specs.Hands.{hand_moves}
use Rattle.page_model.specs.Place.{due_after, filled, put_step, place_entry}
use Rattle.page_model.specs.Reading.{read_errand}
use Rattle.page_model.specs.Swapper.{is_out, residence_of}
use Rattle.page_model.specs.Ownership.{OwnsFrames, OneOwner}
use Rattle.kernel_model.specs.Sound.{Sound, lives}
use Rattle.kernel_model.specs.Coupled.{SameTables}
use Rattle.page_model.specs.Rank.{HandsStand}
use Rattle.flat_state.specs.Numbers.{AllBelow, AllDistinct}
use Rattle.kernel_model.specs.Numbers.{Numbered}
use Rattle.kernel_model.specs.Stands.{Stands, holds_some}
use Rattle.std.proofs.lemmas.Bool.{eqb-true}
use Rattle.page_laws.proofs.Moves.KeptHands.{KeepsHands, entry_keep}
use Rattle.page_laws.proofs.Moves.Stays.{Steady, done_steady}
use Rattle.page_laws.proofs.Bytes.Others.{put_steady}
use Rattle.page_laws.proofs.Blocks.Steps.{place_entry_one}
use Rattle.page_laws.proofs.Moves.Parts.{entry_parts}
use Rattle.page_laws.proofs.Due.Entries.{entry_due, get_due_list}
use Rattle.kernel_laws.proofs.Sound.Residing.{entry_resides}
use Rattle.kernel_laws.proofs.Sound.NumbersApart.{entry_numbers}
use Rattle.kernel_laws.proofs.Flat.Lists.{sid_of}
use Rattle.kernel_laws.proofs.Stands.Steps.{reclaim_due, moves_due}
use Rattle.kernel_laws.proofs.Machine.Shapes.{Shaped, shape_in, shaped_self, fit_shapes, filled_shaped, get_run_shaped, reclaim_shaped, put_step_shaped, moves_shaped, done_shaped}
use Rattle.run_laws.specs.Standing.{IsAllowed, machine_of, EachOnce, Placed}

-- Who is resident.

-- the spaces keep their sizes, and the texts theirs
pub record SameSizes (p q : Placement) : Type 0 where
  pub spaces : (sid : ℕ) → shape_in (numbered space_number sid q.spaces) ≡ shape_in (numbered space_number sid p.spaces)
  pub texts : (image : ℕ) → length (slots_of q (Text image 0)) ≡ length (slots_of p (Text image 0))

of_shape : (p q : Placement) → Shaped p q → SameSizes p q
of_shape p q s = record { spaces = s.spaces; texts = s.texts }

pub entry_sizes : (locked : List Page) (at : ℕ) (p : Placement) (e : Entry) → SameSizes p (place_entry locked at p e)
entry_sizes locked at p (entries.Zero q) = of_shape p (filled p q) (filled_shaped p q)
entry_sizes locked at p (entries.Get q lo n) = of_shape p (get_run p (read_errand p q) (pages_from q lo n)) (get_run_shaped p (read_errand p q) (pages_from q lo n))
entry_sizes locked at p (entries.Copy q) = of_shape p (filled p q) (filled_shaped p q)
entry_sizes locked at p (entries.Reclaim q) = of_shape p (reclaim p q) (reclaim_shaped p q)
entry_sizes locked at p (entries.Hands n) = of_shape p (hand_moves p locked n) (moves_shaped n p locked)
entry_sizes locked at p (entries.Put q n) = of_shape p (put_step p q (pages_from q (number_of q) n)) (put_step_shaped p q (pages_from q (number_of q) n))
entry_sizes locked at p entries.Done = of_shape p (done p) (done_shaped p)
entry_sizes locked at p (entries.SwapOut pid) = record { spaces = λ sid. refl; texts = λ i. refl }
entry_sizes locked at p (entries.SwapIn pid) = record { spaces = λ sid. refl; texts = λ i. refl }
entry_sizes locked at p _ = of_shape p p (shaped_self p)

-- who is out after a move of a residence was out before, or goes out by it
moved_or : (b : Bool) (rs : List Residence) (pid at n : ℕ)
    → (residence_of (changed (λ (r : Residence). r.pid) pid (λ (r : Residence). record r { out = b; since = at }) rs) n).out ≡ true
    → ((residence_of rs n).out ≡ true) ⊎ ((pid ≡ n) × (b ≡ true))
moved_or b [] pid at n h = inl h
moved_or b (r ∷ rs) pid at n h = go (moved_or b rs pid at n) (r.pid == pid) refl (r.pid == n) refl h
  where
    tail : List Residence
    tail = changed (λ (r : Residence). r.pid) pid (λ (r : Residence). record r { out = b; since = at }) rs

    go : ((residence_of tail n).out ≡ true → ((residence_of rs n).out ≡ true) ⊎ ((pid ≡ n) × (b ≡ true)))
        → (c : Bool) → (r.pid == pid) ≡ c → (d : Bool) → (r.pid == n) ≡ d → (residence_of (cond c (record r { out = b; since = at } ∷ rs) (r ∷ tail)) n).out ≡ true
        → ((residence_of (r ∷ rs) n).out ≡ true) ⊎ ((pid ≡ n) × (b ≡ true))
    go more true e true k h = inr (sym (eqb-true r.pid pid e) ∙ eqb-true r.pid n k, sym (ap (λ (x : Bool). (cond x (record r { out = b; since = at }) (residence_of rs n)).out) k) ∙ h)
    go more true e false k h = inl (ap (λ (x : Bool). (cond x r (residence_of rs n)).out) k ∙ (sym (ap (λ (x : Bool). (cond x (record r { out = b; since = at }) (residence_of rs n)).out) k) ∙ h))
    go more false e true k h = inl (ap (λ (x : Bool). (cond x r (residence_of rs n)).out) k ∙ (sym (ap (λ (x : Bool). (cond x r (residence_of tail n)).out) k) ∙ h))
    go more false e false k h = elim (more (sym (ap (λ (x : Bool). (cond x r (residence_of tail n)).out) k) ∙ h)) [
      | inl x ↦ inl (ap (λ (y : Bool). (cond y r (residence_of rs n)).out) k ∙ x)
      | inr x ↦ inr x
    ]

-- the process that an entry puts out
abbrev pub Leaver : Entry → ℕ → Type 0
Leaver (entries.SwapOut pid) n = pid ≡ n
Leaver e n = ⊥

still_out : (p q : Placement) (n : ℕ) → q.residents ≡ p.residents → is_out q n ≡ true → is_out p n ≡ true
still_out p q n e h = sym (ap (λ (rs : List Residence). (residence_of rs n).out) e) ∙ h

pub entry_out : (locked : List Page) (at : ℕ) (p : Placement) (e : Entry) (n : ℕ) → is_out (place_entry locked at p e) n ≡ true
    → (is_out p n ≡ true) ⊎ Leaver e n
entry_out locked at p (entries.Zero q) n h = inl (still_out p (filled p q) n (filled_shaped p q).residents h)
entry_out locked at p (entries.Get q lo m) n h = inl (still_out p (get_run p (read_errand p q) (pages_from q lo m)) n (get_run_shaped p (read_errand p q) (pages_from q lo m)).residents h)
entry_out locked at p (entries.Copy q) n h = inl (still_out p (filled p q) n (filled_shaped p q).residents h)
entry_out locked at p (entries.Reclaim q) n h = inl (still_out p (reclaim p q) n (reclaim_shaped p q).residents h)
entry_out locked at p (entries.Hands m) n h = inl (still_out p (hand_moves p locked m) n (moves_shaped m p locked).residents h)
entry_out locked at p (entries.Put q m) n h = inl (still_out p (put_step p q (pages_from q (number_of q) m)) n (put_step_shaped p q (pages_from q (number_of q) m)).residents h)
entry_out locked at p entries.Done n h = inl (still_out p (done p) n (done_shaped p).residents h)
entry_out locked at p (entries.SwapOut pid) n h = elim (moved_or true p.residents pid at n h) [
  | inl x ↦ inl x
  | inr x ↦ inr x.0
]
entry_out locked at p (entries.SwapIn pid) n h = elim (moved_or false p.residents pid at n h) [
  | inl x ↦ inl x
  | inr x ↦ absurd (let z = x.1 in cc)
]
entry_out locked at p _ n h = inl h

-- What is due.

once_after : (ds : List Due) (q : Page) → EachOnce ds → EachOnce (due_after ds q)
once_after [] q o = o
once_after (d ∷ ds) q o = go (same_page (due_page d) q)
  where
    go : (b : Bool) → EachOnce (cond b ds (d ∷ ds))
    go true = o.1
    go false = o

as_before : (p q : Placement) → q.due ≡ p.due → EachOnce p.due → EachOnce q.due
as_before p q e o = subst EachOnce (sym e) o

pub entry_once : (locked : List Page) (at : ℕ) (p : Placement) (e : Entry) → OwnsFrames p → EachOnce p.due → EachOnce (place_entry locked at p e).due
entry_once locked at p (entries.Zero q) o h = once_after p.due q h
entry_once locked at p (entries.Get q lo n) o h = as_before p (get_run p (read_errand p q) (pages_from q lo n)) (get_due_list p (read_errand p q) (pages_from q lo n)) h
entry_once locked at p (entries.Copy q) o h = once_after p.due q h
entry_once locked at p (entries.Reclaim q) o h = as_before p (reclaim p q) (reclaim_due p q) h
entry_once locked at p (entries.Hands n) o h = as_before p (hand_moves p locked n) (moves_due n p locked) h
entry_once locked at p (entries.Put q n) o h =
    let s : Steady p (put_step p q (pages_from q (number_of q) n)) = put_steady p q (pages_from q (number_of q) n) in as_before p (put_step p q (pages_from q (number_of q) n)) s.due h
entry_once locked at p entries.Done o h = let s : Steady p (done p) = done_steady p o in as_before p (done p) s.due h
entry_once locked at p _ o h = h

-- All of it.

pub bare_sound : (size : ℕ) (flat : FlatState) (p : Placement) (hs : Holdings) → OneOwner size (lives (machine_of flat p hs).processes) p hs
    → HandsStand p → length p.transfers ≤ 16 → Sound size (machine_of flat p hs)
bare_sound size flat p hs o h l = record { owner = o; tokens = length-replicate (length p.holds) []; hands = h; few_transfers = l }

-- who leaves holds a space
abbrev pub LeaverHolds : FlatState → Entry → Type 0
LeaverHolds flat e = (n : ℕ) → Leaver e n → holds_some (process_of flat n) ≡ true

-- a paging entry that may be made, behind which at most 16 transfers are in flight, leaves what stands
pub entry_placed : (A : Inputs) (flat : FlatState) (locked : List Page) (at : ℕ) (p : Placement) (hs : Holdings) (e : Entry) → IsAllowed p e
    → length (place_entry locked at p e).transfers ≤ 16
    → LeaverHolds flat e → Placed A flat p hs → Placed A flat (place_entry locked at p e) hs
entry_placed A flat locked at p hs e a l leaves s =
    let so : Sound A.swap_blocks (machine_of flat p hs) = s.sound in
    let o : OneOwner A.swap_blocks (lives (machine_of flat p hs).processes) p hs = so.owner in
    let k : KeepsHands p (place_entry locked at p e) = entry_keep locked at p e o.frames in
    let z : SameSizes p (place_entry locked at p e) = entry_sizes locked at p e in
    let t : SameTables (machine_of flat p hs) flat = s.tables in
    let n : Numbered (machine_of flat p hs) = s.numbered in
    let st : Stands A.images (machine_of flat p hs) flat = s.stands in
    record {
      sound =
          bare_sound A.swap_blocks flat (place_entry locked at p e) hs (place_entry_one A.swap_blocks (lives (machine_of flat p hs).processes) hs locked at p e o a.can a.shared) (k.stand so.hands) l;
      numbered = record {
        spaces_differ = subst AllDistinct (sym (entry_numbers locked at p e)) n.spaces_differ;
        spaces_below = subst (AllBelow flat.next_sid) (sym (entry_numbers locked at p e)) n.spaces_below;
        pids_differ = n.pids_differ;
        pids_below = n.pids_below;
        residents = λ m a. entry_resides locked at p e m (n.residents m a);
      };
      tables = record {
        processes = t.processes;
        next_pid = refl;
        next_sid = refl;
        spaces =
            λ sid. fit_shapes (numbered sid_of sid (spaces_of flat)) (numbered space_number sid p.spaces) (numbered space_number sid (place_entry locked at p e).spaces) (z.spaces sid) (t.spaces sid);
      };
      stands = record {
        starts = λ q h. refl;
        texts = λ i. st.texts i ∙ ap (λ (m : ℕ). 1024 * m) (sym (z.texts i));
        out = λ pid h. elim (entry_out locked at p e pid h) [
          | inl x ↦ st.out pid x
          | inr x ↦ leaves pid x
        ];
      };
      dues = entry_due locked at p e o.frames a.can a.leaves s.dues;
      once = entry_once locked at p e o.frames s.once;
      parts = entry_parts locked at p e o.frames a.can a.begins s.parts;
      frames = k.frames ∙ s.frames;
    }
