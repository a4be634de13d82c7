-- Pieces of swap space that find their places keep the whole machine coupled.
use Rattle.std.proofs.Common.{◌≡◌, ◌⊎◌, inl, inr, ℕ, Bool, true, false, List, [], ◌∷◌, ◌++◌, length, Option, Some, None, refl, sym, ap, ◌∙◌, arith, length-append}
use Rattle.std.specs.Prelude.{Ok, flat_map, replicate}
use Rattle.std.proofs.lemmas.List.{length-replicate}
use Rattle.flat_state.specs.Flat.{FlatState, NamedImage}
use Rattle.vm_facts.specs.declared.page.Page.{Page}
use Rattle.vm_facts.specs.declared.page.Page.TheVariants.{Data, Stack, Text}
use Rattle.vm_facts.specs.declared.page.PageState.{PageState}
use Rattle.vm_facts.specs.declared.page.PageState.TheVariants.{Unfilled, Valid, Invalid, Coming, Going, OnSwap}
use Rattle.vm_facts.specs.declared.regs.Regs.{Regs}
use Rattle.aout_image.specs.Image.{word_bytes}
use Rattle.swap_book.specs.declared.Owner.{Owner}
use Rattle.swap_book.specs.declared.Owner.TheVariants as owners
use Rattle.swap_book.specs.declared.Held.{Held}
use Rattle.swap_book.specs.Owners.{same_owner}
use Rattle.swap_book.specs.Holdings.{Holdings, of_owner, block_in}
use Rattle.swap_book.specs.Placing.{Wanted, place_all}
use Rattle.swap_book.proofs.GrowthLaws.{Added, place_all_adds}
use Rattle.swap_book.proofs.KeptLaws.{block_in_more}
use Rattle.page_model.specs.Pages.{Filling, Zeros, OfImage}
use Rattle.flat_state.specs.PageNames.{number_of}
use Rattle.page_model.specs.Placement.{Placement, Due, Start, CopyOf, Errand, Writes, Reads, FromSwap, FromFile, state_of, mark_of, filling_of, due_of_page, errand_at, parts_of, slots_of, IsThere}
use Rattle.page_model.specs.Place.{space_of_holding}
use Rattle.page_model.specs.Swapper.{is_out}
use Rattle.page_model.specs.Ownership.{owner_of, block_of}
use Rattle.page_model.specs.PageBytes.{Bytes, KeepsUnfilled, KeepsComing, IfSaved, KeepsBy, Keeps}
use Rattle.kernel_model.specs.Kernel.{Kernel}
use Rattle.kernel_model.specs.Coupled.{Coupled, KeepsRegs, beside_kernel}
use Rattle.kernel_model.specs.Sound.{TextFits}
use Rattle.page_model.specs.Stored.{stored, stored_at}
use Rattle.kernel_model.specs.UPage.{codes_of, u_page}
use Rattle.page_laws.proofs.Bytes.Couples.{Unmoved}
use Rattle.page_laws.proofs.Bytes.Changes.{changed_coupled}
use Rattle.kernel_laws.proofs.Machine.Done.{memory_length}
use Rattle.kernel_laws.proofs.Machine.Tables.{RegsAt, regs_at, coupled_of}

-- A block that was found is where it was.

owners_append : (owner : Owner) (hs gs : List Held) → of_owner owner (hs ++ gs) ≡ of_owner owner hs ++ of_owner owner gs
owners_append owner [] gs = refl
owners_append owner (h ∷ hs) gs = go (same_owner h.owner owner) (owners_append owner hs gs)
  where
    go : (b : Bool) → of_owner owner (hs ++ gs) ≡ of_owner owner hs ++ of_owner owner gs
        → Rattle.std.specs.Prelude.cond b (h ∷ of_owner owner (hs ++ gs)) (of_owner owner (hs ++ gs)) ≡ Rattle.std.specs.Prelude.cond b (h ∷ of_owner owner hs) (of_owner owner hs) ++ of_owner owner gs
    go true e = ap (λ (l : List Held). h ∷ l) e
    go false e = e

pub still_found : (size : ℕ) (hs new : Holdings) (ws : List Wanted) (owner : Owner) (v block : ℕ) → place_all size hs ws ≡ Ok new
    → block_in hs owner v ≡ Some block → block_in new owner v ≡ Some block
still_found size hs new ws owner v block e f =
    let a : Added hs new ws = place_all_adds size hs new ws e in
    block_in_more hs new (of_owner owner a.pieces) owner v block (ap (of_owner owner) a.is ∙ owners_append owner hs a.pieces) f

-- A page that had no blocks has nothing on swap that it needs.

unfilled_swap : (b : Bytes) (swap : Page → List ℕ) (w : Page) (d : Option Due) (x : Filling) → KeepsUnfilled b w d x
    → KeepsUnfilled (record b { swap = swap }) w d x
unfilled_swap b swap w None Zeros k = k
unfilled_swap b swap w None OfImage k = k
unfilled_swap b swap w (Some (Start r)) x k = k
unfilled_swap b swap w (Some (CopyOf r parent)) x k = k

without_blocks : (p : Placement) (b : Bytes) (swap : Page → List ℕ) (w : Page) (s : PageState) → b.swap w ≡ [] → length (b.memory w) ≡ 1024
    → KeepsBy p b w s → KeepsBy p (record b { swap = swap }) w s
without_blocks p b swap w s z l k = go s k
  where
    never : {C : Type 0} → b.swap w ≡ b.memory w → C
    never e = absurd (let h : 0 ≡ 1024 = ap length (sym z) ∙ ap length e ∙ l in omega arith)

    coming : (m : Bool) (e : Option Errand) → KeepsComing b w m e → KeepsComing (record b { swap = swap }) w m e
    coming m None h = h
    coming m (Some Writes) h = h
    coming m (Some (Reads FromSwap demanded)) h = never h
    coming m (Some (Reads FromFile demanded)) h = (h.0, h.1)

    saved : (q : Page) (m : Bool) → (b.swap q ≡ b.memory q → ⊥) → IfSaved b q m → IfSaved (record b { swap = swap }) q m
    saved (Data sid v) m n h = tt
    saved (Stack sid v) m n h = tt
    saved (Text image v) m n h = λ e. absurd (n (h e))

    go : (s : PageState) → KeepsBy p b w s → KeepsBy p (record b { swap = swap }) w s
    go Unfilled h = (unfilled_swap b swap w (due_of_page p.due w) (filling_of p w) h.0, h.1)
    go (Valid f) h = record { here = h.here; there = λ d. never (h.there d) }
    go (Invalid f) h = record { here = h.here; there = λ d. never (h.there d) }
    go (Coming f) h = coming (mark_of p w) (errand_at (parts_of p.transfers) f) h
    go (Going f) h = (h.0, saved w (mark_of p w) (λ e. never e) h.1)
    go OnSwap h = never h

-- a u page is never empty
u_some : (regs : Regs) (d s : ℕ) → [] ≡ u_page regs d s → ⊥
unfolding u_page
u_some regs d s e = let h = ap length e in let n = length-append (flat_map word_bytes (regs.r ++ codes_of regs ∷ d ∷ s ∷ [])) (replicate 948 0) in let z = length-replicate {A = ℕ} 948 0 in omega arith

-- The pieces that are asked for find their places.
pub takes_coupled : (size : ℕ) (k : Kernel) (images : List NamedImage) (image : List ℕ) (flat : FlatState) (ws : List Wanted) (new : Holdings)
    → TextFits images k.place
    → place_all size k.holdings ws ≡ Ok new → Coupled k images image flat → Coupled (record k { holdings = new }) images image flat
takes_coupled size k images image flat ws new fits e c =
    coupled_of l images image flat (record { processes = c.tables.processes; next_pid = c.tables.next_pid; next_sid = c.tables.next_sid; spaces = c.tables.spaces })
    (changed_coupled k.place k.place b (beside_kernel l images image flat) c.pages one c.pages.text c.pages.text_due) regs_now
  where
    l : Kernel
    l = record k { holdings = new }

    b : Bytes
    b = beside_kernel k images image flat

    one : (w : Page) → IsThere k.place w → (IsThere k.place w × Unmoved k.place k.place b (beside_kernel l images image flat) w) ⊎ Keeps k.place (beside_kernel l images image flat) w
    one w there = go (block_of k.holdings w) refl
      where
        go : (o : Option ℕ) → block_of k.holdings w ≡ o → (IsThere k.place w × Unmoved k.place k.place b (beside_kernel l images image flat) w) ⊎ Keeps k.place (beside_kernel l images image flat) w
        go (Some x) h = inl (
          there,
          record {
            slot = refl;
            due = refl;
            frames = λ g i. (refl, refl);
            swap = ap (stored_at image) (still_found size k.holdings new ws (owner_of w) (number_of w) x e h ∙ sym h);
            file = refl;
            start = refl;
            memory = refl;
            copied = inl (λ x. refl);
          },
        )
        go None h = inr (without_blocks k.place b (stored new image) w (state_of k.place w) (ap (stored_at image) h) (memory_length k images flat w c.tables fits there) (c.pages.each w there))

    regs_now : (n : ℕ) → RegsAt l image flat n
    regs_now n q p ea eb = go (is_out k.place n) (regs_at k images image flat c n q p ea eb)
      where
        found : (d s : ℕ) (o : Option ℕ) → block_in k.holdings (owners.U q.pid) 0 ≡ o → stored_at image (block_in k.holdings (owners.U q.pid) 0) ≡ u_page q.regs d s
            → stored_at image (block_in new (owners.U q.pid) 0) ≡ u_page q.regs d s
        found d s None h r = absurd (u_some q.regs d s (ap (stored_at image) (sym h) ∙ r))
        found d s (Some x) h r = ap (stored_at image) (still_found size k.holdings new ws (owners.U q.pid) 0 x e h ∙ sym h) ∙ r

        go : (out : Bool) → KeepsRegs k image out q p.regs (space_of_holding q.holding) → KeepsRegs l image out q p.regs (space_of_holding q.holding)
        go false r = r
        go true r =
            found (length (slots_of k.place (Data (space_of_holding q.holding) 0))) (length (slots_of k.place (Stack (space_of_holding q.holding) 0))) (block_in k.holdings (owners.U q.pid) 0) refl r
