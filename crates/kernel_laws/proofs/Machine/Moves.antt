-- A step that moves pages and bytes, and leaves processes and spaces, keeps the whole machine coupled.
use Rattle.std.proofs.Common.{◌≡◌, ◌≢◌, ◌⊎◌, inl, inr, ℕ, zero, suc, ◌<◌, Bool, true, false, cond, not, ◌||◌, List, [], ◌∷◌, length, map, Option, Some, None, refl, sym, ap, ◌∙◌, subst, arith}
use Rattle.flat_state.specs.Space.{Space}
use Rattle.flat_state.specs.Flat.{Process, FlatState, NamedImage, image_numbered, spaces_of}
use Rattle.vm_facts.specs.declared.page.Page.{Page}
use Rattle.vm_facts.specs.declared.page.Page.TheVariants.{Data, Stack, Text}
use Rattle.vm_facts.specs.declared.page.PageState.{PageState}
use Rattle.vm_facts.specs.declared.page.PageState.TheVariants.{Unfilled, Valid}
use Rattle.vm_facts.specs.declared.regs.Regs.{Regs}
use Rattle.vm_facts.specs.declared.entry.Entry.{Entry}
use Rattle.vm_facts.specs.declared.entry.Entry.TheVariants as entries
use Rattle.aout_image.specs.Image.{page_at}
use Rattle.swap_book.specs.declared.Owner.TheVariants as owners
use Rattle.swap_book.specs.Holdings.{Holdings, block_in}
use Rattle.flat_state.specs.Journal.{append}
use Rattle.page_model.specs.Pages.{Filling, Zeros, OfImage, numbered}
use Rattle.flat_state.specs.PageNames.{number_of, pages_from, same_page}
use Rattle.page_model.specs.Frames.{at_frame}
use Rattle.page_model.specs.Placement.{Placement, Residence, Due, Start, CopyOf, Reads, Source, state_of, is_dirty, filling_of, due_of_page, image_of, slots_of, IsThere}
use Rattle.page_model.specs.Moves.{fill_at, evict}
use Rattle.page_model.specs.Hands.{hand_move, hand_moves}
use Rattle.page_model.specs.Place.{filled, space_of_holding}
use Rattle.page_model.specs.Reading.{source_for, read_errand}
use Rattle.page_model.specs.Swapper.{is_out, residence_of}
use Rattle.page_model.specs.Conditions.{EachPage, CanEnter, HasSeat}
use Rattle.page_model.specs.Ownership.{OwnsFrames, OneOwner}
use Rattle.page_model.specs.PageBytes.{zeros, Bytes, bytes_in, IsInFrame, KeepsUnfilled, KeepsBy, Keeps, CouplesPages, SameBytes, with_frame, IsWritable, ReadsFrom}
use Rattle.kernel_model.specs.Kernel.{Kernel, Proc, StartBytes, start_bytes, starts_after, put_first, frame_bytes, copied_bytes, bytes_at, plain_step, zero_step, copy_step, note_step, get_step, reclaim_step, hand_step, push_step}
use Rattle.kernel_model.specs.Sound.{is_start, has_start, KeepsStarts, Sound, lives}
use Rattle.kernel_model.specs.Coupled.{outline_kept, memory_of, file_of, data_of, beside_kernel, SameTables, KeepsRegs, Coupled}
use Rattle.page_model.specs.Stored.{stored_at}
use Rattle.kernel_model.specs.UPage.{u_page}
use Rattle.page_laws.proofs.Lists.Pages.{page_cases, put_state}
use Rattle.flat_state.proofs.PageNames.{same_page_is}
use Rattle.page_laws.proofs.Lists.Runs.{each_page_both, pages_from_apart}
use Rattle.page_laws.proofs.Moves.Steps.{page_in}
use Rattle.page_laws.proofs.Ownership.Pages.{fill_enters}
use Rattle.page_model.specs.Runs.{run_in}
use Rattle.page_laws.proofs.Ownership.Serve.{run_in_enters}
use Rattle.page_laws.proofs.Ownership.Hands.{move_owner}
use Rattle.page_laws.proofs.Bytes.Pages.{filled_coupled, reclaim_coupled, keeps_at}
use Rattle.page_laws.proofs.Bytes.Runs.{run_in_reads, Reading, get_run_coupled, move_coupled, put_step_coupled}
use Rattle.page_laws.proofs.Bytes.Changes.{changed_coupled}
use Rattle.kernel_laws.proofs.Machine.Shapes.{Shaped, shaped_self, image_kept, sizes_kept, fit_shaped, filled_shaped, get_run_shaped, reclaim_shaped, put_step_shaped, moves_shaped}

-- Bytes.

-- the same bytes stand beside
pub alike_coupled : (p : Placement) (b c : Bytes) → ((w : Page) → SameBytes b c w) → CouplesPages p b → CouplesPages p c
alike_coupled p b c s k = changed_coupled p p b c k
    (λ w there. let x : SameBytes b c w = s w in inl (
      there,
      record {
        slot = refl;
        due = refl;
        frames = λ g e. (ap (λ (fs : List (List ℕ)). at_frame fs g []) x.frames, refl);
        swap = x.swap;
        file = x.file;
        start = x.start;
        memory = x.memory;
        copied = inl (λ parent. let y : SameBytes b c parent = s parent in y.memory);
      },
    ))
    (λ i v. let x : SameBytes b c (Text i v) = s (Text i v) in x.file ∙ k.text i v ∙ sym x.memory)
    k.text_due

-- the same bytes stand beside, but those that are kept for one page
pub record SameButStart (b c : Bytes) (v : Page) : Type 0 where
  pub frames : c.frames ≡ b.frames
  pub swap : (w : Page) → c.swap w ≡ b.swap w
  pub file : (w : Page) → c.file w ≡ b.file w
  pub start : (w : Page) → w ≢ v → c.start w ≡ b.start w
  pub memory : (w : Page) → c.memory w ≡ b.memory w

-- a valid page asks for no bytes that are kept for it
pub forgot_coupled : (p : Placement) (v : Page) (f : ℕ) (b c : Bytes) → state_of p v ≡ Valid f → SameButStart b c v → CouplesPages p b → CouplesPages p c
forgot_coupled p v f b c e s k =
    let one : (w : Page) → IsThere p w → (IsThere p w × Rattle.page_laws.proofs.Bytes.Couples.Unmoved p p b c w) ⊎ Keeps p c w = λ w there. elim (page_cases w v) [
      | inl h ↦ inr (subst (Keeps p c) (sym h) (here (subst (IsThere p) h there)))
      | inr n ↦ inl (
        there,
        record {
          slot = refl;
          due = refl;
          frames = λ g h. (frame g, refl);
          swap = s.swap w;
          file = s.file w;
          start = s.start w n;
          memory = s.memory w;
          copied = inl s.memory;
        },
      )
    ] in
    changed_coupled p p b c k one (λ i n. s.file (Text i n) ∙ k.text i n ∙ sym (s.memory (Text i n))) k.text_due
  where
    frame : (g : ℕ) → bytes_in c g ≡ bytes_in b g
    frame g = ap (λ (fs : List (List ℕ)). at_frame fs g []) s.frames

    here : IsThere p v → Keeps p c v
    here there =
        let was : IsInFrame b (is_dirty p v) f v = keeps_at p b v (Valid f) k there e in
        subst (KeepsBy p c v) (sym e) (record { here = frame f ∙ was.here ∙ sym (s.memory v); there = λ d. s.swap v ∙ was.there d ∙ sym (s.memory v) })

-- the files' pages, where each space has the image that it had
pub file_same : (images : List NamedImage) (p q : Placement) → Shaped p q → (w : Page) → file_of images q w ≡ file_of images p w
file_same images p q s (Data sid v) = ap (λ (i : ℕ). page_at v (data_of (image_numbered images i))) (image_kept p q s sid)
file_same images p q s _ = refl

-- Tables and registers.

pub tables_kept : (k l : Kernel) (flat : FlatState) → map outline_kept l.processes ≡ map outline_kept k.processes → l.next_pid ≡ k.next_pid
    → l.next_sid ≡ k.next_sid → Shaped k.place l.place → SameTables k flat → SameTables l flat
tables_kept k l flat ps np ns s t = record {
  processes = ps ∙ t.processes;
  next_pid = np ∙ t.next_pid;
  next_sid = ns ∙ t.next_sid;
  spaces = λ sid. fit_shaped k.place l.place (numbered (λ (x : Space). x.sid) sid (spaces_of flat)) sid s (t.spaces sid);
}

-- what the image has of the u page of a process
abbrev pub u_stored : Kernel → List ℕ → ℕ → List ℕ
u_stored k image pid = stored_at image (block_in k.holdings (owners.U pid) 0)

pub regs_kept : (k l : Kernel) (image after : List ℕ) (out : Bool) (q : Process) (kept : Regs) (sid : ℕ)
    → (out ≡ true → u_stored l after q.pid ≡ u_stored k image q.pid)
    → length (slots_of l.place (Data sid 0)) ≡ length (slots_of k.place (Data sid 0))
    → length (slots_of l.place (Stack sid 0)) ≡ length (slots_of k.place (Stack sid 0))
    → KeepsRegs k image out q kept sid → KeepsRegs l after out q kept sid
regs_kept k l image after false q kept sid u d s r = r
regs_kept k l image after true q kept sid u d s r =
    u refl ∙ r ∙ ap (λ (n : ℕ). u_page q.regs n (length (slots_of k.place (Stack sid 0)))) (sym d) ∙ ap (λ (n : ℕ). u_page q.regs (length (slots_of l.place (Data sid 0))) n) (sym s)

-- A machine with the same processes, over an image that has the same u pages, with pages that are coupled.
pub moved_coupled : (k l : Kernel) (images : List NamedImage) (image after : List ℕ) (flat : FlatState) → l.processes ≡ k.processes
    → l.next_pid ≡ k.next_pid → l.next_sid ≡ k.next_sid
    → ((pid : ℕ) → u_stored l after pid ≡ u_stored k image pid)
    → Shaped k.place l.place → CouplesPages l.place (beside_kernel l images after flat) → Coupled k images image flat → Coupled l images after flat
moved_coupled k l images image after flat ps np ns u s pages c = record {
  tables = tables_kept k l flat (ap (λ (xs : List Proc). map outline_kept xs) ps) np ns s c.tables;
  pages = pages;
  regs = λ q p e h. subst (λ (out : Bool). KeepsRegs l after out q p.regs (space_of_holding q.holding)) (sym (ap (λ (rs : List Residence). (residence_of rs q.pid).out) s.residents))
      (regs_kept k l image after (is_out k.place q.pid) q p.regs (space_of_holding q.holding) (λ o. u q.pid)
      (sizes_kept k.place l.place s (Data (space_of_holding q.holding) 0)) (sizes_kept k.place l.place s (Stack (space_of_holding q.holding) 0))
      (c.regs q p e (ap (numbered (λ (x : Proc). x.pid) q.pid) (sym ps) ∙ h)));
}

pub paged_coupled : (k l : Kernel) (images : List NamedImage) (image : List ℕ) (flat : FlatState) → l.processes ≡ k.processes
    → l.next_pid ≡ k.next_pid → l.next_sid ≡ k.next_sid → l.holdings ≡ k.holdings
    → Shaped k.place l.place → CouplesPages l.place (beside_kernel l images image flat) → Coupled k images image flat → Coupled l images image flat
paged_coupled k l images image flat ps np ns hs s pages c =
    moved_coupled k l images image image flat ps np ns (λ pid. ap (λ (x : Holdings). stored_at image (block_in x (owners.U pid) 0)) hs) s pages c

-- Entries.

pub note_coupled : (k : Kernel) (images : List NamedImage) (image : List ℕ) (flat : FlatState) (e : Entry) → Coupled k images image flat
    → Coupled (note_step k e) images image flat
note_coupled k images image flat e c = paged_coupled k (note_step k e) images image flat refl refl refl refl (shaped_self k.place) c.pages c

plain_coupled : (k : Kernel) (images : List NamedImage) (image : List ℕ) (flat : FlatState) (locked : List Page) (e : Entry)
    → Shaped k.place (plain_step k locked e).place
    → CouplesPages (plain_step k locked e).place (beside_kernel k images image flat) → Coupled k images image flat
    → Coupled (plain_step k locked e) images image flat
plain_coupled k images image flat locked e s pages c = paged_coupled k (plain_step k locked e) images image flat refl refl refl refl s
    (alike_coupled (plain_step k locked e).place (beside_kernel k images image flat) (beside_kernel (plain_step k locked e) images image flat)
    (λ w. record { frames = refl; swap = refl; file = file_same images k.place (plain_step k locked e).place s w; start = refl; memory = refl }) pages) c

module _ (size : ℕ) (k : Kernel) (images : List NamedImage) (image : List ℕ) (flat : FlatState) (q : Page) where
  pub get_coupled_step : (lo n : ℕ) → Sound size k → EachPage (CanEnter k.place) (pages_from q lo n)
      → EachPage (ReadsFrom k.place (source_for (state_of k.place q)) q) (pages_from q lo n) → Coupled k images image flat
      → Coupled (get_step k q lo n) images image flat
  get_coupled_step lo n so c r cp =
      let o : OneOwner size (lives k.processes) k.place k.holdings = so.owner in
      plain_coupled k images image flat [] (entries.Get q lo n) (get_run_shaped k.place (read_errand k.place q) (pages_from q lo n))
      (get_run_coupled k.place (source_for (state_of k.place q)) q (pages_from q lo n) (beside_kernel k images image flat) o.frames
      (each_page_both (CanEnter k.place) (ReadsFrom k.place (source_for (state_of k.place q)) q) (Reading k.place (source_for (state_of k.place q)) q) (pages_from q lo n) c r
      (λ v a d. record { enters = a; from = d }))
      (pages_from_apart q lo n) cp.pages) cp

  -- The read of a page with its run.
  pub read_coupled_step : Sound size k → CanEnter k.place q → ReadsFrom k.place (source_for (state_of k.place q)) q q → Coupled k images image flat
      → Coupled (get_step k q (run_in k.place q).lo (run_in k.place q).n) images image flat
  read_coupled_step so c r cp =
      get_coupled_step (run_in k.place q).lo (run_in k.place q).n so (run_in_enters k.place q c) (run_in_reads k.place (beside_kernel k images image flat) q cp.pages r) cp

  pub reclaim_coupled_step : Sound size k → Coupled k images image flat → Coupled (reclaim_step k q) images image flat
  reclaim_coupled_step so cp =
      let o : OneOwner size (lives k.processes) k.place k.holdings = so.owner in
      plain_coupled k images image flat [] (entries.Reclaim q) (reclaim_shaped k.place q) (reclaim_coupled k.place q (beside_kernel k images image flat) o.frames cp.pages) cp

moves_coupled : (n : ℕ) (p : Placement) (locked : List Page) (b : Bytes) → OwnsFrames p → CouplesPages p b → CouplesPages (hand_moves p locked n) b
moves_coupled zero p locked b o k = k
moves_coupled (suc n) p locked b o k = moves_coupled n (hand_move p locked) locked b (move_owner p locked o) (move_coupled p locked b o k)

pub hand_coupled_step : (size : ℕ) (k : Kernel) (images : List NamedImage) (image : List ℕ) (flat : FlatState) (locked : List Page) → Sound size k
    → Coupled k images image flat → Coupled (hand_step k locked) images image flat
hand_coupled_step size k images image flat locked so cp =
    let o : OneOwner size (lives k.processes) k.place k.holdings = so.owner in
    plain_coupled k images image flat locked (entries.Hands 1) (moves_shaped 1 k.place locked) (moves_coupled 1 k.place locked (beside_kernel k images image flat) o.frames cp.pages) cp

pub push_coupled_step : (size : ℕ) (k : Kernel) (images : List NamedImage) (image : List ℕ) (flat : FlatState) (q : Page) (n : ℕ) → Sound size k
    → HasSeat k.place q → EachPage (HasSeat k.place) (pages_from q (number_of q) n)
    → Coupled k images image flat → Coupled (push_step k q n) images image flat
push_coupled_step size k images image flat q n so h hs cp =
    let o : OneOwner size (lives k.processes) k.place k.holdings = so.owner in
    plain_coupled k images image flat [] (entries.Put q n) (put_step_shaped k.place q (pages_from q (number_of q) n))
    (put_step_coupled k.place q (pages_from q (number_of q) n) (beside_kernel k images image flat) o.frames h hs (pages_from_apart q (number_of q) n) cp.pages) cp

-- Fills.

filled_state : (p : Placement) (v : Page) (f : ℕ) (rest : List ℕ) → OwnsFrames p → CanEnter p v → p.free ≡ f ∷ rest → state_of (filled p v) v ≡ Valid f
filled_state p v f rest o c e =
    let t : Rattle.page_laws.proofs.Moves.Steps.Enters (evict p f) v f (Valid f) true p.transfers = fill_enters p v f rest o c e in
    subst (λ (fr : List ℕ). state_of (fill_at p v fr) v ≡ Valid f) (sym e) (put_state (evict p f) v (Valid f) true t.page_in)

-- other bytes in the first free frame, and what is kept for one page forgotten
abbrev filled_kernel : Kernel → Page → List ℕ → List StartBytes → Entry → Kernel
filled_kernel k v bytes ss e = record k { place = filled k.place v; frames = put_first k.place.free k.frames bytes; starts = ss; journal = append k.journal e }

fill_coupled_step : (size : ℕ) (k : Kernel) (images : List NamedImage) (image : List ℕ) (flat : FlatState) (v : Page) (bytes : List ℕ)
    (ss : List StartBytes) (e : Entry)
    → Sound size k → CanEnter k.place v → IsWritable v
    → 0 < length k.place.free → bytes ≡ memory_of images flat v → ((w : Page) → w ≢ v → start_bytes ss w ≡ start_bytes k.starts w) → Coupled k images image flat
    → Coupled (filled_kernel k v bytes ss e) images image flat
fill_coupled_step size k images image flat v bytes ss e so c w some is st cp = go k.place.free refl
  where
    o : OwnsFrames k.place
    o = let x : OneOwner size (lives k.processes) k.place k.holdings = so.owner in x.frames

    go : (fr : List ℕ) → k.place.free ≡ fr → Coupled (filled_kernel k v bytes ss e) images image flat
    go [] h = absurd (let l = ap length h in omega arith)
    go (f ∷ rest) h = paged_coupled k (filled_kernel k v bytes ss e) images image flat refl refl refl refl (filled_shaped k.place v)
        (forgot_coupled (filled k.place v) v f (with_frame (beside_kernel k images image flat) f bytes) (beside_kernel (filled_kernel k v bytes ss e) images image flat)
        (filled_state k.place v f rest o c h)
        (record {
          frames = ap (λ (fr : List ℕ). put_first fr k.frames bytes) h;
          swap = λ x. refl;
          file = λ x. file_same images k.place (filled k.place v) (filled_shaped k.place v) x;
          start = st;
          memory = λ x. refl;
        })
        (filled_coupled k.place v f rest (beside_kernel k images image flat) bytes o c h so.tokens w is cp.pages)) cp

-- what is kept for other pages stays
pub after_other : (ss : List StartBytes) (v w : Page) → w ≢ v → start_bytes (starts_after ss v) w ≡ start_bytes ss w
after_other [] v w n = refl
after_other (s ∷ ss) v w n = go (same_page s.page v) refl (after_other ss v w n)
  where
    miss : (x : Bool) → same_page s.page w ≡ x → same_page s.page v ≡ true → x ≡ false
    miss true h e = absurd (n (sym (same_page_is s.page w h) ∙ same_page_is s.page v e))
    miss false h e = refl

    go : (b : Bool) → same_page s.page v ≡ b → start_bytes (starts_after ss v) w ≡ start_bytes ss w → start_bytes (cond (not b) (s ∷ starts_after ss v) (starts_after ss v)) w ≡ start_bytes (s ∷ ss) w
    go true e ih = ih ∙ sym (ap (λ (x : Bool). cond x s.bytes (start_bytes ss w)) (miss (same_page s.page w) refl e))
    go false e ih = ap (λ (x : List ℕ). cond (same_page s.page w) s.bytes x) ih

unfilled_is : (k : Kernel) (images : List NamedImage) (image : List ℕ) (flat : FlatState) (q : Page) → Coupled k images image flat → IsThere k.place q
    → state_of k.place q ≡ Unfilled
    → KeepsUnfilled (beside_kernel k images image flat) q (due_of_page k.place.due q) (filling_of k.place q)
unfilled_is k images image flat q cp there e =
    let h : KeepsUnfilled (beside_kernel k images image flat) q (due_of_page k.place.due q) (filling_of k.place q)
    × Rattle.page_model.specs.PageBytes.IsUnsaved q (Rattle.page_model.specs.Placement.mark_of k.place q) =
    keeps_at k.place (beside_kernel k images image flat) q Unfilled cp.pages there e in
    h.0

-- nothing is kept for a page
pub no_start : (ss : List StartBytes) (q : Page) → has_start ss q ≡ false → start_bytes ss q ≡ zeros
no_start [] q e = refl
no_start (s ∷ ss) q e = go (same_page s.page q) e (no_start ss q)
  where
    go : (b : Bool) → (b || has_start ss q) ≡ false → (has_start ss q ≡ false → start_bytes ss q ≡ zeros) → cond b s.bytes (start_bytes ss q) ≡ zeros
    go true h ih = absurd cc
    go false h ih = ih h

-- A page of zeros.
pub zero_coupled : (size : ℕ) (k : Kernel) (images : List NamedImage) (image : List ℕ) (flat : FlatState) (q : Page) → Sound size k → KeepsStarts k
    → CanEnter k.place q → IsWritable q → 0 < length k.place.free
    → state_of k.place q ≡ Unfilled → due_of_page k.place.due q ≡ None → filling_of k.place q ≡ Zeros → Coupled k images image flat
    → Coupled (zero_step k q) images image flat
zero_coupled size k images image flat q so ks c w some e d x cp =
    let u : zeros ≡ memory_of images flat q = subst (KeepsUnfilled (beside_kernel k images image flat) q None) x
    (subst (λ (o : Option Due). KeepsUnfilled (beside_kernel k images image flat) q o (filling_of k.place q)) d (unfilled_is k images image flat q cp c.there e)) in
    fill_coupled_step size k images image flat q (start_bytes k.starts q) (starts_after k.starts q) (entries.Zero q) so c w some (no_start k.starts q (ks q (ap is_start d)) ∙ u)
    (λ v n. after_other k.starts q v n) cp

-- A new stack page 0 with what is kept for it.
pub start_coupled : (size : ℕ) (k : Kernel) (images : List NamedImage) (image : List ℕ) (flat : FlatState) (q r : Page) → Sound size k
    → CanEnter k.place q → IsWritable q → 0 < length k.place.free
    → state_of k.place q ≡ Unfilled → due_of_page k.place.due q ≡ Some (Start r) → Coupled k images image flat → Coupled (zero_step k q) images image flat
start_coupled size k images image flat q r so c w some e d cp =
    let u : start_bytes k.starts q ≡ memory_of images flat q =
    subst (λ (o : Option Due). KeepsUnfilled (beside_kernel k images image flat) q o (filling_of k.place q)) d (unfilled_is k images image flat q cp c.there e) in
    fill_coupled_step size k images image flat q (start_bytes k.starts q) (starts_after k.starts q) (entries.Zero q) so c w some u (λ v n. after_other k.starts q v n) cp

-- A child's page with the bytes of its parent's.
pub copy_coupled : (size : ℕ) (k : Kernel) (images : List NamedImage) (image : List ℕ) (flat : FlatState) (q r parent : Page) (f : ℕ) → Sound size k
    → CanEnter k.place q → IsWritable q → 0 < length k.place.free
    → state_of k.place q ≡ Unfilled → due_of_page k.place.due q ≡ Some (CopyOf r parent) → state_of k.place parent ≡ Valid f → Coupled k images image flat
    → Coupled (copy_step k q) images image flat
copy_coupled size k images image flat q r parent f so c w some e d h cp =
    let u : memory_of images flat parent ≡ memory_of images flat q =
    subst (λ (o : Option Due). KeepsUnfilled (beside_kernel k images image flat) q o (filling_of k.place q)) d (unfilled_is k images image flat q cp c.there e) in
    let i : IsInFrame (beside_kernel k images image flat) (is_dirty k.place parent) f parent =
    keeps_at k.place (beside_kernel k images image flat) parent (Valid f) cp.pages (page_in k.place parent f (ap Rattle.page_model.specs.Pages.frame_of h)) h in
    let b : copied_bytes k (due_of_page k.place.due q) ≡ frame_bytes k f = ap (copied_bytes k) d ∙ ap (λ (s : PageState). bytes_at k (Rattle.page_model.specs.Pages.frame_of s)) h in
    fill_coupled_step size k images image flat q (copied_bytes k (due_of_page k.place.due q)) k.starts (entries.Copy q) so c w some (b ∙ i.here ∙ u) (λ v n. refl) cp
