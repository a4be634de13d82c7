-- Instructions that ran, and processes that go out and come in, keep the whole machine coupled.
use Rattle.std.proofs.Common.{◌≡◌, ◌≢◌, ◌⊎◌, inl, inr, ℕ, ◌*◌, ◌≤◌, ◌==◌, Bool, true, false, cond, List, [], ◌∷◌, ◌++◌, length, map, Option, Some, IsSome, refl, sym, ap, ◌∙◌, subst, length-append, arith}
use Rattle.std.specs.Prelude.{flat_map, replicate}
use Rattle.std.proofs.lemmas.Bool.{cases_eq, eqb-true, ne_eqb}
use Rattle.flat_state.specs.Space.{Space}
use Rattle.flat_state.specs.Flat.{Holds, Process, FlatState, NamedImage, process_of, spaces_of, cleared}
use Rattle.vm_facts.specs.declared.page.Page.{Page}
use Rattle.vm_facts.specs.declared.page.Page.TheVariants.{Data, Stack, Text}
use Rattle.vm_facts.specs.declared.regs.Regs.{Regs}
use Rattle.vm_facts.specs.declared.entry.Entry.{Entry}
use Rattle.vm_facts.specs.declared.entry.Entry.TheVariants as entries
use Rattle.aout_image.specs.Image.{page_at, word_bytes}
use Rattle.swap_book.specs.Owners.{u_pieces}
use Rattle.swap_book.specs.declared.Owner.{Owner}
use Rattle.swap_book.specs.declared.Owner.TheVariants as owners
use Rattle.swap_book.specs.Holdings.{Holdings, block_in}
use Rattle.swap_book.specs.Book.{IsBook, IsPlace, ArePlacesApart}
use Rattle.swap_book.proofs.PlaceLaws.{places_apart_of}
use Rattle.flat_state.specs.declared.change.Change.{Change}
use Rattle.flat_state.specs.declared.change.Change.TheVariants.{Keep}
use Rattle.flat_state.specs.Change.{with_process, replaced, apply_change, changed, changed_if, changed_by}
use Rattle.page_model.specs.Pages.{numbered}
use Rattle.flat_state.specs.PageNames.{number_of}
use Rattle.page_model.specs.Placement.{Placement, Residence, slots_of, space_number}
use Rattle.page_model.specs.Place.{moved, space_of_holding}
use Rattle.page_model.specs.Swapper.{is_out, residence_of}
use Rattle.page_model.specs.PuttingOut.{IsResident}
use Rattle.page_model.specs.Ownership.{OwnsBlocks, OneOwner, owner_of, u_blocks}
use Rattle.page_model.specs.PageBytes.{SameBytes, CouplesPages}
use Rattle.flat_state.specs.Journal.{append}
use Rattle.kernel_model.specs.Coupled.{Fits, Outline, Coupled, SameTables, KeepsRegs, outline_kept, outline_of, memory_of, data_bytes_in, stack_bytes_in, beside_kernel}
use Rattle.kernel_model.specs.Kernel.{Kernel, Proc, with_regs, out_step, in_step}
use Rattle.kernel_model.specs.Sound.{Sound, has_life, lives, lives_in}
use Rattle.kernel_model.specs.UPage.{AreRegs, codes_of, u_page, regs_in}
use Rattle.page_model.specs.Stored.{stored_at, store_at}
use Rattle.vm_facts.specs.Swap.{blocks_at, put_blocks}
use Rattle.kernel_model.specs.ChangeStep.{ran_by, space_of_life}
use Rattle.page_laws.proofs.Swapper.Residences.{moved_own}
use Rattle.std.proofs.lemmas.Option.{same_Some}
use Rattle.vm_facts.proofs.Swap.{length-put_blocks, blocks_at-put_blocks_same}
use Rattle.kernel_laws.proofs.Registers.{regs_back_any}
use Rattle.kernel_laws.proofs.Flat.Numbered.{has_number, numbered_map, mapped_some}
use Rattle.vm_facts.proofs.Tests.{eq_self}
use Rattle.kernel_laws.proofs.Flat.Lists.{pid_of, sid_of, held, found_is, Parts, parts_at, replaced_at, replaced_not, same_held}
use Rattle.kernel_laws.proofs.Machine.Moves.{alike_coupled, regs_kept}
use Rattle.kernel_laws.proofs.Machine.Done.{some_of}
use Rattle.page_laws.proofs.Blocks.Places.{stored_other}
use Rattle.kernel_laws.proofs.Machine.Tables.{outline_at, space_same, kept_pid, all_fit, tables_of, RegsAt, regs_at, coupled_of}
use Rattle.kernel_model.specs.Unit.{proc_of}
use Rattle.page_laws.proofs.Lists.Pages.{mapped}

-- Changes of a process that holds a space.

pub applied : (images : List NamedImage) (flat : FlatState) (pid : ℕ) (regs : Regs) (change : Change) (q : Process) (s : Space)
    → process_of flat pid ≡ Some q → q.holding ≡ Holds s
    → apply_change images flat pid regs change ≡ changed images flat (record q { regs = regs }) s change
unfolding apply_change
applied images flat pid regs change q s e h = ap (changed_if images flat regs change) e ∙ ap (changed_by images flat (record q { regs = regs }) change) h

-- the process by its number
pub found_at : (flat : FlatState) (pid : ℕ) (q : Process) → process_of flat pid ≡ Some q → (q.pid ≡ pid) × (numbered pid_of pid flat.processes ≡ Some q)
found_at flat pid q e = let h : numbered pid_of pid flat.processes ≡ Some q = sym (found_is flat.processes pid) ∙ e in (has_number pid_of pid flat.processes q h, h)

pub found_self : (flat : FlatState) (pid : ℕ) (q : Process) → process_of flat pid ≡ Some q → numbered pid_of q.pid flat.processes ≡ Some q
found_self flat pid q e = let f = found_at flat pid q e in ap (λ (n : ℕ). numbered pid_of n flat.processes) f.0 ∙ f.1

-- the flat bytes of each page, where each space is as it was
pub memory_same : (images : List NamedImage) (flat after : FlatState)
    → ((sid : ℕ) → numbered sid_of sid (spaces_of after) ≡ numbered sid_of sid (spaces_of flat)) → (w : Page)
    → memory_of images after w ≡ memory_of images flat w
memory_same images flat after h (Data sid v) = ap (λ (o : Option Space). page_at v (data_bytes_in o)) (h sid)
memory_same images flat after h (Stack sid v) = ap (λ (o : Option Space). page_at v (stack_bytes_in o)) (h sid)
memory_same images flat after h (Text image v) = refl

-- Other registers.

regs_outlines : (pid : ℕ) (regs : Regs) (ps : List Proc) → map outline_kept (map (with_regs pid regs) ps) ≡ map outline_kept ps
regs_outlines pid regs [] = refl
regs_outlines pid regs (p ∷ ps) =
    ap (λ (x : Outline). x ∷ map outline_kept (map (with_regs pid regs) ps)) (go (p.pid == pid)) ∙ ap (λ (xs : List Outline). outline_kept p ∷ xs) (regs_outlines pid regs ps)
  where
    go : (b : Bool) → outline_kept (cond b (record p { regs = regs }) p) ≡ outline_kept p
    go true = refl
    go false = refl

pub with_regs_pid : (pid : ℕ) (regs : Regs) (p : Proc) → (with_regs pid regs p).pid ≡ p.pid
with_regs_pid pid regs p = go (p.pid == pid)
  where
    go : (b : Bool) → (cond b (record p { regs = regs }) p).pid ≡ p.pid
    go true = refl
    go false = refl

-- the process itself has them, and each other is as it was
regs_same : (pid : ℕ) (regs : Regs) (ps : List Proc) (p : Proc) → numbered kept_pid pid (map (with_regs pid regs) ps) ≡ Some p → p.regs ≡ regs
regs_same pid regs ps p e =
    let m : (x : Proc) × (numbered kept_pid pid ps ≡ Some x) × (with_regs pid regs x ≡ p) =
    mapped_some (with_regs pid regs) (numbered kept_pid pid ps) p (sym (numbered_map kept_pid (with_regs pid regs) (with_regs_pid pid regs) pid ps) ∙ e) in
    let n : m.0.pid ≡ pid = has_number kept_pid pid ps m.0 m.1 in
    ap (λ (x : Proc). x.regs) (sym m.2) ∙ ap (λ (b : Bool). (cond b (record m.0 { regs = regs }) m.0).regs) (ap (λ (i : ℕ). i == pid) n ∙ eq_self pid)

regs_other : (pid n : ℕ) (regs : Regs) (ps : List Proc) (p : Proc) → n ≢ pid → numbered kept_pid n (map (with_regs pid regs) ps) ≡ Some p
    → numbered kept_pid n ps ≡ Some p
regs_other pid n regs ps p d e =
    let m : (x : Proc) × (numbered kept_pid n ps ≡ Some x) × (with_regs pid regs x ≡ p) =
    mapped_some (with_regs pid regs) (numbered kept_pid n ps) p (sym (numbered_map kept_pid (with_regs pid regs) (with_regs_pid pid regs) n ps) ∙ e) in
    let i : m.0.pid ≡ n = has_number kept_pid n ps m.0 m.1 in
    m.1 ∙ ap Some (ap (λ (b : Bool). cond b (record m.0 { regs = regs }) m.0) (sym (ne_eqb m.0.pid pid (λ h. d (sym i ∙ h)))) ∙ m.2)

pub replaced_outlines : (ps : List Process) (q p : Process) → numbered pid_of p.pid ps ≡ Some q → outline_of p ≡ outline_of q
    → map outline_of (replaced ps p) ≡ map outline_of ps
replaced_outlines ps q p e h =
    let r : Parts ps q p = parts_at ps q p e in
    ap (map outline_of) r.new ∙ go r.front r.back ∙ sym (ap (map outline_of) r.old)
  where
    go : (xs ys : List Process) → map outline_of (xs ++ p ∷ ys) ≡ map outline_of (xs ++ q ∷ ys)
    go [] ys = ap (λ (x : Outline). x ∷ map outline_of ys) h
    go (x ∷ xs) ys = ap (λ (l : List Outline). outline_of x ∷ l) (go xs ys)

-- An instruction ran, and left these registers.
pub ran_coupled : (k : Kernel) (images : List NamedImage) (image : List ℕ) (flat : FlatState) (pid : ℕ) (regs : Regs) (e : Entry) (q : Process) (s : Space)
    → process_of flat pid ≡ Some q → q.holding ≡ Holds s → is_out k.place pid ≡ false
    → Coupled k images image flat → Coupled (ran_by k pid regs e) images image (apply_change images flat pid regs Keep)
ran_coupled k images image flat pid regs e q s f h out c =
    let l : Kernel = ran_by k pid regs e in
    let p : Process = record q { regs = regs } in
    let after : FlatState = with_process flat p in
    let t : SameTables k flat = c.tables in
    let at : q.pid ≡ pid = (found_at flat pid q f).0 in
    let found : numbered pid_of p.pid flat.processes ≡ Some q = found_self flat pid q f in
    let spaces : held (replaced flat.processes p) ≡ held flat.processes = same_held flat.processes q p found refl in
    let regs_now : (n : ℕ) → RegsAt l image after n = λ n a b ea eb. elim (cases_eq n pid) [
      | inl same ↦ (let is : p ≡ a = same_Some p a (sym (replaced_at flat.processes q p found) ∙ ap (λ (m : ℕ). numbered pid_of m (replaced flat.processes p)) (at ∙ sym same) ∙ ea) in
          subst (λ (o : Bool). KeepsRegs l image o a b.regs (space_of_holding a.holding)) (sym (ap (is_out k.place) same ∙ out))
          (regs_same pid regs k.processes b (ap (λ (m : ℕ). numbered kept_pid m l.processes) (sym same) ∙ eb) ∙ ap (λ (x : Process). x.regs) is))
      | inr d ↦ regs_at k images image flat c n a b (sym (replaced_not flat.processes p n (λ i. d (i ∙ at))) ∙ ea) (regs_other pid n regs k.processes b d eb)
    ] in
    subst (Coupled l images image) (sym (applied images flat pid regs Keep q s f h))
    (coupled_of l images image after (tables_of l after (regs_outlines pid regs k.processes ∙ t.processes ∙ sym (replaced_outlines flat.processes q p found refl)) t.next_pid t.next_sid
    (λ sid. subst (λ (xs : List Space). Fits (numbered sid_of sid xs) (numbered space_number sid k.place.spaces)) (sym spaces) (all_fit k flat t sid)))
    (alike_coupled k.place (beside_kernel k images image flat) (beside_kernel l images image after)
    (λ w. record { frames = refl; swap = refl; file = refl; start = refl; memory = memory_same images flat after (λ sid. ap (numbered sid_of sid) spaces) w }) c.pages)
    regs_now)

-- Who is out.

pub out_other : (rs : List Residence) (pid n : ℕ) (out : Bool) (at : ℕ) → n ≢ pid
    → (residence_of (Rattle.page_model.specs.Pages.changed (λ (r : Residence). r.pid) pid (λ (r : Residence). record r { out = out; since = at }) rs) n).out
    ≡ (residence_of rs n).out
out_other [] pid n out at d = refl
out_other (r ∷ rs) pid n out at d = go (r.pid == pid) refl (out_other rs pid n out at d)
  where
    go : (b : Bool) → (r.pid == pid) ≡ b → (residence_of (Rattle.page_model.specs.Pages.changed (λ (r : Residence). r.pid) pid (λ (r : Residence). record r { out = out; since = at }) rs) n).out
        ≡ (residence_of rs n).out
        → (residence_of (cond b (record r { out = out; since = at } ∷ rs)
        (r ∷ Rattle.page_model.specs.Pages.changed (λ (r : Residence). r.pid) pid (λ (r : Residence). record r { out = out; since = at }) rs)) n).out ≡ (residence_of (r ∷ rs) n).out
    go true e ih = let m : (r.pid == n) ≡ false = ne_eqb r.pid n (λ h. d (sym h ∙ eqb-true r.pid pid e)) in
        ap (λ (b : Bool). (cond b (record r { out = out; since = at }) (residence_of rs n)).out) m ∙ sym (ap (λ (b : Bool). (cond b r (residence_of rs n)).out) m)
    go false e ih = head (r.pid == n)
      where
        head : (b : Bool) → (cond b r (residence_of (Rattle.page_model.specs.Pages.changed (λ (r : Residence). r.pid) pid (λ (r : Residence). record r { out = out; since = at }) rs) n)).out
            ≡ (cond b r (residence_of rs n)).out
        head true = refl
        head false = ih

-- a process that isn't in the list is in
pub out_same : (rs : List Residence) (pid : ℕ) (out : Bool) (at : ℕ)
    → ((residence_of (Rattle.page_model.specs.Pages.changed (λ (r : Residence). r.pid) pid (λ (r : Residence). record r { out = out; since = at }) rs) pid).out
    ≡ out)
    ⊎ (((residence_of (Rattle.page_model.specs.Pages.changed (λ (r : Residence). r.pid) pid (λ (r : Residence). record r { out = out; since = at }) rs) pid).out
    ≡ false) × ((residence_of rs pid).out ≡ false))
out_same [] pid out at = inr (refl, refl)
out_same (r ∷ rs) pid out at = go (r.pid == pid) refl (out_same rs pid out at)
  where
    go : (b : Bool) → (r.pid == pid) ≡ b
        → ((residence_of (Rattle.page_model.specs.Pages.changed (λ (r : Residence). r.pid) pid (λ (r : Residence). record r { out = out; since = at }) rs) pid).out ≡ out)
        ⊎ (((residence_of (Rattle.page_model.specs.Pages.changed (λ (r : Residence). r.pid) pid (λ (r : Residence). record r { out = out; since = at }) rs) pid).out ≡ false)
        × ((residence_of rs pid).out ≡ false))
        → ((residence_of (cond b (record r { out = out; since = at } ∷ rs)
        (r ∷ Rattle.page_model.specs.Pages.changed (λ (r : Residence). r.pid) pid (λ (r : Residence). record r { out = out; since = at }) rs)) pid).out ≡ out)
        ⊎ (((residence_of (cond b (record r { out = out; since = at } ∷ rs) (r ∷ Rattle.page_model.specs.Pages.changed (λ (r : Residence). r.pid) pid
        (λ (r : Residence). record r { out = out; since = at }) rs)) pid).out ≡ false) × ((residence_of (r ∷ rs) pid).out ≡ false))
    go true e ih = inl (ap (λ (b : Bool). (cond b (record r { out = out; since = at }) (residence_of rs pid)).out) e)
    go false e ih = elim ih [
      | inl h ↦ inl
          (ap (λ (b : Bool). (cond b r (residence_of (Rattle.page_model.specs.Pages.changed (λ (r : Residence). r.pid) pid (λ (r : Residence). record r { out = out; since = at }) rs) pid)).out) e ∙ h)
      | inr h ↦ inr (
        ap (λ (b : Bool). (cond b r (residence_of (Rattle.page_model.specs.Pages.changed (λ (r : Residence). r.pid) pid (λ (r : Residence). record r { out = out; since = at }) rs) pid)).out) e ∙ h.0,
        ap (λ (b : Bool). (cond b r (residence_of rs pid)).out) e ∙ h.1,
      )
    ]

still_moved : (p : Placement) (pid : ℕ) (out : Bool) (at : ℕ) (b : Rattle.page_model.specs.PageBytes.Bytes) → CouplesPages p b
    → CouplesPages (moved p pid out at) b
still_moved p pid out at b k = Rattle.page_laws.proofs.Bytes.Runs.still_coupled p (moved p pid out at) b (λ w. refl) refl refl k

-- Coming in.

-- A process comes in with the registers that its u page holds.
pub in_coupled_any : (k : Kernel) (images : List NamedImage) (image : List ℕ) (flat : FlatState) (pid : ℕ) (regs : Regs) (q : Process)
    → process_of flat pid ≡ Some q → is_out k.place pid ≡ true → AreRegs q.regs
    → regs ≡ regs_in (stored_at image (block_in k.holdings (owners.U pid) 0)) → Coupled k images image flat → Coupled (in_step k pid regs) images image flat
in_coupled_any k images image flat pid regs q f out are is c =
    let t : SameTables k flat = c.tables in
    let at : q.pid ≡ pid = (found_at flat pid q f).0 in
    let now_in : is_out l.place pid ≡ false = elim (out_same k.place.residents pid false (length (append k.journal (entries.SwapIn pid)))) [
      | inl h ↦ h
      | inr h ↦ h.0
    ] in
    -- what it held before
    let stored_regs : (p : Proc) → numbered kept_pid pid k.processes ≡ Some p → regs ≡ q.regs = λ p e.
    let old : KeepsRegs k image true q p.regs (space_of_holding q.holding) =
    subst (λ (o : Bool). KeepsRegs k image o q p.regs (space_of_holding q.holding)) out (regs_at k images image flat c pid q p (found_at flat pid q f).1 e) in
    is ∙ ap (λ (n : ℕ). regs_in (stored_at image (block_in k.holdings (owners.U n) 0))) (sym at) ∙ ap regs_in old
    ∙ regs_back_any q.regs (length (slots_of k.place (Data (space_of_holding q.holding) 0))) (length (slots_of k.place (Stack (space_of_holding q.holding) 0))) are in
    let regs_now : (n : ℕ) → RegsAt l image flat n = λ n a b ea eb. elim (cases_eq n pid) [
      | inl same ↦ (let same_q : q ≡ a = same_Some q a (sym (found_at flat pid q f).1 ∙ ap (λ (m : ℕ). numbered pid_of m flat.processes) (sym same) ∙ ea) in
          let now : numbered kept_pid pid (map (with_regs pid regs) k.processes) ≡ Some b = ap (λ (m : ℕ). numbered kept_pid m l.processes) (sym same) ∙ eb in
          let was : (x : Proc) × (numbered kept_pid pid k.processes ≡ Some x) × (with_regs pid regs x ≡ b) =
          mapped_some (with_regs pid regs) (numbered kept_pid pid k.processes) b (sym (numbered_map kept_pid (with_regs pid regs) (with_regs_pid pid regs) pid k.processes) ∙ now) in
          subst (λ (o : Bool). KeepsRegs l image o a b.regs (space_of_holding a.holding)) (sym (ap (is_out l.place) same ∙ now_in))
          (regs_same pid regs k.processes b now ∙ stored_regs was.0 was.1 ∙ ap (λ (x : Process). x.regs) same_q))
      | inr d ↦ subst (λ (o : Bool). KeepsRegs l image o a b.regs (space_of_holding a.holding)) (sym (out_other k.place.residents pid n false (length (append k.journal (entries.SwapIn pid))) d))
          (regs_kept k l image image (is_out k.place n) a b.regs (space_of_holding a.holding) (λ o. refl) refl refl (regs_at k images image flat c n a b ea (regs_other pid n regs k.processes b d eb)))
    ] in
    coupled_of l images image flat
    (tables_of l flat (regs_outlines pid regs k.processes ∙ t.processes) t.next_pid t.next_sid (all_fit k flat t))
    (alike_coupled l.place (beside_kernel k images image flat) (beside_kernel l images image flat) (λ w. record { frames = refl; swap = refl; file = file_of_same w; start = refl; memory = refl })
    (still_moved k.place pid false (length (append k.journal (entries.SwapIn pid))) (beside_kernel k images image flat) c.pages))
    regs_now
  where
    l : Kernel
    l = in_step k pid regs

    file_of_same : (w : Page) → Rattle.kernel_model.specs.Coupled.file_of images l.place w ≡ Rattle.kernel_model.specs.Coupled.file_of images k.place w
    file_of_same (Data sid v) = refl
    file_of_same (Stack sid v) = refl
    file_of_same (Text i v) = refl

-- Going out.

pub u_length : (regs : Regs) (d s : ℕ) → AreRegs regs → length (u_page regs d s) ≡ 1024
unfolding u_page
u_length regs d s a =
    let zeros_length : length {A = ℕ} (replicate 948 0) ≡ 948 = Rattle.std.proofs.lemmas.List.length-replicate {A = ℕ} 948 0 in
    length-append (flat_map word_bytes (regs.r ++ codes_of regs ∷ d ∷ s ∷ [])) (replicate 948 0)
    ∙ (let h = words_length (regs.r ++ codes_of regs ∷ d ∷ s ∷ []) in let n = length-append regs.r (codes_of regs ∷ d ∷ s ∷ []) in let c = a.count in let z = zeros_length in omega arith)
  where
    words_length : (ws : List ℕ) → length (flat_map word_bytes ws) ≡ 4 * length ws
    words_length [] = refl
    words_length (w ∷ ws) = let h = words_length ws in let n = length-append (word_bytes w) (flat_map word_bytes ws) in omega arith

-- other blocks than those of this u page stay
u_other : (size : ℕ) (hs : Holdings) (image bytes : List ℕ) (pid x : ℕ) (owner : Owner) (v : ℕ) → IsBook size hs → 512 * size ≤ length image
    → length bytes ≡ 1024 → block_in hs (owners.U pid) 0 ≡ Some x → owner ≢ owners.U pid
    → stored_at (put_blocks image x bytes) (block_in hs owner v) ≡ stored_at image (block_in hs owner v)
u_other size hs image bytes pid x owner v book l lb e n =
    let a : ArePlacesApart size hs = places_apart_of size hs book in
    let p : IsPlace size hs (owners.U pid) x = a.own (owners.U pid) 0 x e in
    let w = p.within in
    stored_other image bytes x (block_in hs owner v) (omega arith) lb (λ y h. elim (a.apart (owners.U pid) owner 0 v x y e h) [
      | inl k ↦ absurd (n (sym k.0))
      | inr k ↦ k
    ])

u_own : (size : ℕ) (hs : Holdings) (image bytes : List ℕ) (pid x : ℕ) → IsBook size hs → 512 * size ≤ length image → length bytes ≡ 1024
    → block_in hs (owners.U pid) 0 ≡ Some x → blocks_at (put_blocks image x bytes) x ≡ bytes
u_own size hs image bytes pid x book l lb e =
    let a : ArePlacesApart size hs = places_apart_of size hs book in
    let p : IsPlace size hs (owners.U pid) x = a.own (owners.U pid) 0 x e in
    let w = p.within in
    blocks_at-put_blocks_same image bytes x (omega arith) lb

-- a process that lives has a u page
pub u_found : (size : ℕ) (k : Kernel) (pid : ℕ) → Sound size k → lives k.processes pid ≡ true → IsSome (block_in k.holdings (owners.U pid) 0)
u_found size k pid so alive =
    let o : OneOwner size (lives k.processes) k.place k.holdings = so.owner in
    let w : OwnsBlocks size (lives k.processes) k.place k.holdings = o.blocks in
    let a : ArePlacesApart size k.holdings = places_apart_of size k.holdings w.book in
    a.found (owners.U pid) 2 0 (w.u_held pid ∙ ap (λ (x : Bool). u_pieces (u_blocks x)) alive) (omega arith) (omega arith)

-- A process goes out: its registers and the sizes of its space are in its u page.
pub out_coupled : (size : ℕ) (k : Kernel) (images : List NamedImage) (image : List ℕ) (flat : FlatState) (pid : ℕ) (p : Proc) → Sound size k
    → 512 * size ≤ length image
    → numbered kept_pid pid k.processes ≡ Some p → has_life p.life ≡ true → AreRegs p.regs
    → IsResident k.place pid → is_out k.place pid ≡ false → Coupled k images image flat
    → Coupled (out_step k pid) images (store_at image (block_in k.holdings (owners.U pid) 0)
    (u_page p.regs (length (slots_of k.place (Data (space_of_life p.life) 0))) (length (slots_of k.place (Stack (space_of_life p.life) 0))))) flat
out_coupled size k images image flat pid p so li e alive are resides out c =
    let t : SameTables k flat = c.tables in
    let o : OneOwner size (lives k.processes) k.place k.holdings = so.owner in
    let book : IsBook size k.holdings =
    let w : OwnsBlocks size (lives k.processes) k.place k.holdings = o.blocks in w.book in
    let bytes : List ℕ = u_page p.regs (length (slots_of k.place (Data (space_of_life p.life) 0))) (length (slots_of k.place (Stack (space_of_life p.life) 0))) in
    let lb : length bytes ≡ 1024 = u_length p.regs (length (slots_of k.place (Data (space_of_life p.life) 0))) (length (slots_of k.place (Stack (space_of_life p.life) 0))) are in
    let block : (x : ℕ) × (block_in k.holdings (owners.U pid) 0 ≡ Some x) = some_of (block_in k.holdings (owners.U pid) 0) (u_found size k pid so (ap lives_in e ∙ alive)) in
    let after : List ℕ = put_blocks image block.0 bytes in
    let now_out : is_out l.place pid ≡ true = ap (λ (r : Residence). r.out) (moved_own k.place pid true (length (append k.journal (entries.SwapOut pid))) resides) in
    -- the process by itself: its registers are in its u page, whatever its record has
    let own : (a : Process) (kept : Regs) → numbered pid_of pid flat.processes ≡ Some a → KeepsRegs l after (is_out l.place pid) a kept (space_of_holding a.holding) = λ a kept ea.
    let sid_same : (a : Process) → numbered pid_of pid flat.processes ≡ Some a → space_of_life p.life ≡ space_of_holding a.holding = λ a ea.
    ap (λ (x : Outline). space_of_life x.life) (outline_at k.processes flat.processes t.processes pid p a e ea) ∙ space_same a.holding in
    let old : p.regs ≡ a.regs = subst (λ (z : Bool). KeepsRegs k image z a p.regs (space_of_holding a.holding)) out (regs_at k images image flat c pid a p ea e) in
    let i : a.pid ≡ pid = has_number pid_of pid flat.processes a ea in
    subst (λ (z : Bool). KeepsRegs l after z a kept (space_of_holding a.holding)) (sym now_out)
    (ap (λ (n : ℕ). stored_at after (block_in k.holdings (owners.U n) 0)) i ∙ ap (stored_at after) block.1 ∙ u_own size k.holdings image bytes pid block.0 book li lb block.1
    ∙ ap (λ (r : Regs). u_page r (length (slots_of k.place (Data (space_of_life p.life) 0))) (length (slots_of k.place (Stack (space_of_life p.life) 0)))) old
    ∙ ap (λ (s : ℕ). u_page a.regs (length (slots_of k.place (Data s 0))) (length (slots_of k.place (Stack s 0)))) (sid_same a ea)) in
    let regs_now : (n : ℕ) → RegsAt l after flat n = λ n a b ea eb.
    let u_number : (a b : ℕ) → owners.U a ≡ owners.U b → a ≡ b = λ a b h. cc in
    elim (cases_eq n pid) [
      | inl same ↦ subst (λ (m : ℕ). KeepsRegs l after (is_out l.place m) a b.regs (space_of_holding a.holding)) (sym same)
          (own a b.regs (ap (λ (m : ℕ). numbered pid_of m flat.processes) (sym same) ∙ ea))
      | inr d ↦ (let i : a.pid ≡ n = has_number pid_of n flat.processes a ea in
          subst (λ (z : Bool). KeepsRegs l after z a b.regs (space_of_holding a.holding)) (sym (out_other k.place.residents pid n true (length (append k.journal (entries.SwapOut pid))) d))
          (regs_kept k l image after (is_out k.place n) a b.regs (space_of_holding a.holding)
          (λ z. u_other size k.holdings image bytes pid block.0 (owners.U a.pid) 0 book li lb block.1 (λ h. d (sym i ∙ u_number a.pid pid h))) refl refl
          (regs_at k images image flat c n a b ea (regs_other pid n cleared k.processes b d eb))))
    ] in
    subst (λ (i : List ℕ). Coupled l images i flat) (sym (ap (λ (o : Option ℕ). store_at image o bytes) block.1))
    (coupled_of l images after flat (tables_of l flat (regs_outlines pid cleared k.processes ∙ t.processes) t.next_pid t.next_sid (all_fit k flat t))
    (alike_coupled l.place (beside_kernel k images image flat) (beside_kernel l images after flat)
    (λ w. record { frames = refl; swap = u_other size k.holdings image bytes pid block.0 (owner_of w) (number_of w) book li lb block.1 (not_u w); file = file_of_same w; start = refl; memory = refl })
    (still_moved k.place pid true (length (append k.journal (entries.SwapOut pid))) (beside_kernel k images image flat) c.pages))
    regs_now)
  where
    l : Kernel
    l = out_step k pid

    not_u : (w : Page) → owner_of w ≢ owners.U pid
    not_u (Data sid v) h = cc
    not_u (Stack sid v) h = cc
    not_u (Text i v) h = cc

    file_of_same : (w : Page) → Rattle.kernel_model.specs.Coupled.file_of images l.place w ≡ Rattle.kernel_model.specs.Coupled.file_of images k.place w
    file_of_same (Data sid v) = refl
    file_of_same (Stack sid v) = refl
    file_of_same (Text i v) = refl

-- the image is as long as it was
pub out_length : (size : ℕ) (k : Kernel) (image : List ℕ) (pid : ℕ) (p : Proc) (d s : ℕ) → Sound size k → 512 * size ≤ length image
    → numbered kept_pid pid k.processes ≡ Some p → has_life p.life ≡ true → AreRegs p.regs
    → length (store_at image (block_in k.holdings (owners.U pid) 0) (u_page p.regs d s)) ≡ length image
out_length size k image pid p d s so li e alive are =
    let o : OneOwner size (lives k.processes) k.place k.holdings = so.owner in
    let w : OwnsBlocks size (lives k.processes) k.place k.holdings = o.blocks in
    let a : ArePlacesApart size k.holdings = places_apart_of size k.holdings w.book in
    let b : (x : ℕ) × (block_in k.holdings (owners.U pid) 0 ≡ Some x) = some_of (block_in k.holdings (owners.U pid) 0) (u_found size k pid so (ap lives_in e ∙ alive)) in
    let y : IsPlace size k.holdings (owners.U pid) b.0 = a.own (owners.U pid) 0 b.0 b.1 in
    let z = y.within in
    ap (λ (i : Option ℕ). length (store_at image i (u_page p.regs d s))) b.1 ∙ length-put_blocks image (u_page p.regs d s) b.0 (omega arith) (u_length p.regs d s are)

-- Whatever the record has of a process that is out, the machine stands for the same.
pub left_coupled : (k : Kernel) (images : List NamedImage) (image : List ℕ) (flat : FlatState) (pid : ℕ) (regs : Regs) → is_out k.place pid ≡ true
    → Coupled k images image flat
    → Coupled (record k { processes = map (with_regs pid regs) k.processes }) images image flat
left_coupled k images image flat pid regs out c =
    let l : Kernel = record k { processes = map (with_regs pid regs) k.processes } in
    let t : SameTables k flat = c.tables in
    let regs_now : (n : ℕ) → RegsAt l image flat n = λ n a b ea eb. elim (cases_eq n pid) [
      | inl same ↦ (let there : is_out k.place n ≡ true = ap (is_out k.place) same ∙ out in
          let was : (x : Proc) × (numbered kept_pid n k.processes ≡ Some x) × (with_regs pid regs x ≡ b) =
          mapped_some (with_regs pid regs) (numbered kept_pid n k.processes) b (sym (numbered_map kept_pid (with_regs pid regs) (with_regs_pid pid regs) n k.processes) ∙ eb) in
          let old : KeepsRegs k image true a was.0.regs (space_of_holding a.holding) =
          subst (λ (o : Bool). KeepsRegs k image o a was.0.regs (space_of_holding a.holding)) there (regs_at k images image flat c n a was.0 ea was.1) in
          subst (λ (o : Bool). KeepsRegs l image o a b.regs (space_of_holding a.holding)) (sym there) old)
      | inr d ↦ regs_at k images image flat c n a b ea (regs_other pid n regs k.processes b d eb)
    ] in
    coupled_of l images image flat (tables_of l flat (regs_outlines pid regs k.processes ∙ t.processes) t.next_pid t.next_sid (all_fit k flat t)) c.pages regs_now

-- the record of who goes out has no registers then
pub out_record : (k : Kernel) (pid : ℕ) (p : Proc) → proc_of k pid ≡ Some p → proc_of (out_step k pid) pid ≡ Some (record p { regs = cleared })
out_record k pid p e = numbered_map kept_pid (with_regs pid cleared) (with_regs_pid pid cleared) pid k.processes ∙ ap (mapped (with_regs pid cleared)) e
    ∙ ap (λ (b : Bool). Some (cond b (record p { regs = cleared }) p)) (ap (λ (n : ℕ). n == pid) (has_number kept_pid pid k.processes p e) ∙ eq_self pid)
