-- Each step of the whole machine that moves pages or bytes keeps what is so of a machine that goes on.
use Rattle.std.proofs.Common.{◌≡◌, ℕ, ◌+◌, ◌≤◌, ◌==◌, Bool, true, false, cond, List, [], ◌∷◌, length, map, set, Option, Some, refl, sym, ap, ◌∙◌, subst, arith}
use Rattle.std.proofs.lemmas.Bool.{eqb-true}
use Rattle.vm_facts.specs.declared.page.Page.{Page}
use Rattle.vm_facts.specs.declared.page.Page.TheVariants.{Data, Stack, Text}
use Rattle.vm_facts.specs.declared.page.PageState.{PageState}
use Rattle.vm_facts.specs.declared.page.PageState.TheVariants.{Unfilled, Valid, Invalid, Coming, Going, OnSwap}
use Rattle.vm_facts.specs.declared.regs.Regs.{Regs}
use Rattle.vm_facts.specs.declared.entry.Entry.{Entry}
use Rattle.vm_facts.specs.declared.entry.Entry.TheVariants as entries
use Rattle.swap_book.specs.Owners.{u_pieces}
use Rattle.swap_book.specs.Holdings.{Holdings}
use Rattle.page_model.specs.Pages.{numbered}
use Rattle.page_model.specs.Frames.{set_frame}
use Rattle.page_model.specs.Placement.{Placement, Transfer, Part, Errand, Writes, Reads, state_of, due_of_page}
use Rattle.page_model.specs.Moves.{touch, touch_to}
use Rattle.page_model.specs.Place.{place_entry}
use Rattle.page_model.specs.Conditions.{begins, CanPlace, EntryShared, CanEnter, IsShared}
use Rattle.page_model.specs.Ownership.{OwnsFrames, OwnsBlocks, OneOwner, TextAside, u_blocks}
use Rattle.flat_state.specs.Flat.{cleared}
use Rattle.flat_state.specs.Journal.{append}
use Rattle.kernel_model.specs.Kernel.{Kernel, Proc, with_regs, start_bytes, copied_bytes, frame_bytes, put_first, read_into, landed_by, landed, plain_step, zero_step, copy_step, done_step, write_step, note_step, out_step, in_step, Life, New, HoldsSpace, LendsSpace, Ended}
use Rattle.kernel_model.specs.Sound.{Sound, has_life, lives, lives_in}
use Rattle.kernel_model.specs.ChangeStep.{ran_by, pass_step, pass_from, passed_life, space_of_life, life_of_proc}
use Rattle.page_laws.proofs.Lists.Local.{none_some}
use Rattle.std.proofs.lemmas.Option.{same_Some}
use Rattle.page_laws.proofs.Lists.Frames.{length_set_frame}
use Rattle.page_laws.proofs.Ownership.Pages.{touch_owner, touch_turns}
use Rattle.page_laws.proofs.Moves.Stays.{Steady}
use Rattle.page_laws.proofs.Bytes.Others.{touch_steady}
use Rattle.page_laws.proofs.Moves.KeptHands.{steady_keep, entry_keep}
use Rattle.page_laws.proofs.Blocks.Aside.{IsBusy, turn_aside, blocks_still, one_owner}
use Rattle.page_laws.proofs.Blocks.Steps.{place_entry_one}
use Rattle.page_laws.proofs.Moves.Transfers.{entry_count}

-- Entries.

-- A paging entry, after which at most 16 transfers are in flight.
pub entry_sound : (size : ℕ) (k : Kernel) (locked : List Page) (e : Entry) → Sound size k → CanPlace k.place e → EntryShared k.place e
    → length (Placement.transfers (place_entry locked (length (append k.journal e)) k.place e)) ≤ 16 → Sound size (plain_step k locked e)
entry_sound size k locked e s c sh l =
    let o : OneOwner size (lives k.processes) k.place k.holdings = s.owner in
    let h = entry_keep locked (length (append k.journal e)) k.place e o.frames in
    record {
      owner = place_entry_one size (lives k.processes) k.holdings locked (length (append k.journal e)) k.place e o c sh;
      tokens = s.tokens ∙ sym h.frames;
      hands = h.stand s.hands;
      few_transfers = l;
    }

-- A paging entry, where there is room for the transfers that it begins.
pub plain_sound : (size : ℕ) (k : Kernel) (locked : List Page) (e : Entry) → Sound size k → CanPlace k.place e → EntryShared k.place e
    → length k.place.transfers + begins e ≤ 16 → Sound size (plain_step k locked e)
plain_sound size k locked e s c sh l = entry_sound size k locked e s c sh (let n = entry_count locked (length (append k.journal e)) k.place e in omega arith)

-- other bytes in the frames, and another journal
frames_sound : (size : ℕ) (k : Kernel) (frames : List (List ℕ)) → Sound size k → length frames ≡ length k.frames → Sound size (record k { frames = frames })
frames_sound size k frames s e = record { owner = s.owner; tokens = e ∙ s.tokens; hands = s.hands; few_transfers = s.few_transfers }

pub first_length : (free : List ℕ) (frames : List (List ℕ)) (bytes : List ℕ) → length (put_first free frames bytes) ≡ length frames
first_length [] frames bytes = refl
first_length (f ∷ rest) frames bytes = length_set_frame frames f bytes

fill_sound : (size : ℕ) (k : Kernel) (q : Page) (e : Entry) → Sound size (plain_step k [] e) → (bytes : List ℕ)
    → Sound size (record (plain_step k [] e) { frames = put_first k.place.free k.frames bytes })
fill_sound size k q e s bytes = frames_sound size (plain_step k [] e) (put_first k.place.free k.frames bytes) s (first_length k.place.free k.frames bytes)

pub zero_sound : (size : ℕ) (k : Kernel) (q : Page) → Sound size k → CanEnter k.place q → IsShared k.place q → Sound size (zero_step k q)
zero_sound size k q s c sh =
    let t = fill_sound size k q (entries.Zero q) (plain_sound size k [] (entries.Zero q) s c sh (let l = s.few_transfers in omega arith)) (start_bytes k.starts q) in
    record { owner = t.owner; tokens = t.tokens; hands = t.hands; few_transfers = t.few_transfers }

pub copy_sound : (size : ℕ) (k : Kernel) (q : Page) → Sound size k → CanEnter k.place q → IsShared k.place q → Sound size (copy_step k q)
copy_sound size k q s c sh =
    let t = fill_sound size k q (entries.Copy q) (plain_sound size k [] (entries.Copy q) s c sh (let l = s.few_transfers in omega arith)) (copied_bytes k (due_of_page k.place.due q)) in
    record { owner = t.owner; tokens = t.tokens; hands = t.hands; few_transfers = t.few_transfers }

read_length : (xs : List Part) (read frames : List (List ℕ)) → length (read_into xs read frames) ≡ length frames
read_length [] read frames = refl
read_length (x ∷ xs) [] frames = refl
read_length (x ∷ xs) (bytes ∷ more) frames = read_length xs more (set_frame frames x.frame bytes) ∙ length_set_frame frames x.frame bytes

pub landed_length : (ts : List Transfer) (read frames : List (List ℕ)) → length (landed ts read frames) ≡ length frames
landed_length [] read frames = refl
landed_length (t ∷ ts) read frames = go t.errand
  where
    go : (e : Errand) → length (landed_by e t.parts read frames) ≡ length frames
    go Writes = refl
    go (Reads source demanded) = read_length t.parts read frames

-- The end of a transfer, whatever was read.
pub done_sound : (size : ℕ) (k : Kernel) (read : List (List ℕ)) → Sound size k → Sound size (done_step k read)
done_sound size k read s =
    let t = frames_sound size (plain_step k [] entries.Done) (landed k.place.transfers read k.frames) (plain_sound size k [] entries.Done s tt tt (let l = s.few_transfers in omega arith))
    (landed_length k.place.transfers read k.frames) in
    record { owner = t.owner; tokens = t.tokens; hands = t.hands; few_transfers = t.few_transfers }

-- User writes.

pub touch_aside : (p : Placement) (v : Page) → OwnsFrames p → TextAside p → TextAside (touch p v)
touch_aside p v o a = go v (state_of p v) refl
  where
    busy : (v : Page) (f : ℕ) → state_of p v ≡ Valid f → TextAside (Rattle.page_model.specs.Moves.turn p v (Valid f) true p.free p.transfers)
    busy v f e = turn_aside p v f (Valid f) true p.free p.transfers o (touch_turns p v f o e) a (subst (IsBusy p) (sym e) tt)

    go : (v : Page) (s : PageState) → state_of p v ≡ s → TextAside (touch_to p v s)
    go (Data sid n) (Valid f) e = busy (Data sid n) f e
    go (Data sid n) Unfilled e = a
    go (Data sid n) (Invalid f) e = a
    go (Data sid n) (Coming f) e = a
    go (Data sid n) (Going f) e = a
    go (Data sid n) OnSwap e = a
    go (Stack sid n) (Valid f) e = busy (Stack sid n) f e
    go (Stack sid n) Unfilled e = a
    go (Stack sid n) (Invalid f) e = a
    go (Stack sid n) (Coming f) e = a
    go (Stack sid n) (Going f) e = a
    go (Stack sid n) OnSwap e = a
    go (Text image n) s e = a

pub touch_transfers : (p : Placement) (v : Page) → (touch p v).transfers ≡ p.transfers
touch_transfers p v = go v (state_of p v)
  where
    go : (v : Page) (s : PageState) → (touch_to p v s).transfers ≡ p.transfers
    go (Data sid n) (Valid f) = refl
    go (Data sid n) Unfilled = refl
    go (Data sid n) (Invalid f) = refl
    go (Data sid n) (Coming f) = refl
    go (Data sid n) (Going f) = refl
    go (Data sid n) OnSwap = refl
    go (Stack sid n) (Valid f) = refl
    go (Stack sid n) Unfilled = refl
    go (Stack sid n) (Invalid f) = refl
    go (Stack sid n) (Coming f) = refl
    go (Stack sid n) (Going f) = refl
    go (Stack sid n) OnSwap = refl
    go (Text image n) s = refl

pub write_sound : (size : ℕ) (k : Kernel) (q : Page) (f at byte : ℕ) → Sound size k → Sound size (write_step k q f at byte)
write_sound size k q f at byte s =
    let o : OneOwner size (lives k.processes) k.place k.holdings = s.owner in
    let t : Steady k.place (touch k.place q) = touch_steady k.place q in
    let h = steady_keep k.place (touch k.place q) t in
    record {
      owner = one_owner size (lives k.processes) (touch k.place q) k.holdings (touch_owner k.place q o.frames)
          (blocks_still size (lives k.processes) k.place (touch k.place q) k.holdings t.sizes t.sharing o.blocks) (touch_aside k.place q o.frames o.aside);
      tokens = length_set_frame k.frames f (set (frame_bytes k f) at byte) ∙ s.tokens ∙ sym h.frames;
      hands = h.stand s.hands;
      few_transfers = let e = ap length (touch_transfers k.place q) in let l = s.few_transfers in omega arith;
    }

-- Entries that move no page.

pub note_sound : (size : ℕ) (k : Kernel) (e : Entry) → Sound size k → Sound size (note_step k e)
note_sound size k e s = record { owner = s.owner; tokens = s.tokens; hands = s.hands; few_transfers = s.few_transfers }

-- the same processes live
pub alive_owner : (size : ℕ) (a b : ℕ → Bool) (p : Placement) (hs : Holdings) → ((pid : ℕ) → b pid ≡ a pid) → OneOwner size a p hs → OneOwner size b p hs
alive_owner size a b p hs e o =
    let w : OwnsBlocks size a p hs = o.blocks in
    record {
      frames = o.frames;
      blocks =
          record { book = w.book; data_held = w.data_held; stack_held = w.stack_held; text_held = w.text_held; u_held = λ pid. w.u_held pid ∙ ap (λ (x : Bool). u_pieces (u_blocks x)) (sym (e pid)) };
      aside = o.aside;
      places = o.places;
    }

lives_head : (c : Bool) (x y : Proc) (xs ys : Option Proc) → has_life x.life ≡ has_life y.life → lives_in xs ≡ lives_in ys
    → lives_in (cond c (Some x) xs) ≡ lives_in (cond c (Some y) ys)
lives_head true x y xs ys e h = e
lives_head false x y xs ys e h = h

with_regs_life : (ps : List Proc) (pid : ℕ) (regs : Regs) (n : ℕ) → lives (map (with_regs pid regs) ps) n ≡ lives ps n
with_regs_life [] pid regs n = refl
with_regs_life (p ∷ ps) pid regs n = go (p.pid == pid) (with_regs_life ps pid regs n)
  where
    go : (b : Bool) → lives (map (with_regs pid regs) ps) n ≡ lives ps n → lives (cond b (record p { regs = regs }) p ∷ map (with_regs pid regs) ps) n ≡ lives (p ∷ ps) n
    go true ih = lives_head (p.pid == n) (record p { regs = regs }) p (numbered (λ (x : Proc). x.pid) n (map (with_regs pid regs) ps)) (numbered (λ (x : Proc). x.pid) n ps) refl ih
    go false ih = lives_head (p.pid == n) p p (numbered (λ (x : Proc). x.pid) n (map (with_regs pid regs) ps)) (numbered (λ (x : Proc). x.pid) n ps) refl ih

regs_sound : (size : ℕ) (k : Kernel) (pid : ℕ) (regs : Regs) → Sound size k → Sound size (record k { processes = map (with_regs pid regs) k.processes })
regs_sound size k pid regs s = record {
  owner = alive_owner size (lives k.processes) (lives (map (with_regs pid regs) k.processes)) k.place k.holdings (with_regs_life k.processes pid regs) s.owner;
  tokens = s.tokens;
  hands = s.hands;
  few_transfers = s.few_transfers;
}

-- A process comes in with its registers.
pub out_sound : (size : ℕ) (k : Kernel) (pid : ℕ) → Sound size k → Sound size (out_step k pid)
out_sound size k pid s =
    let t = regs_sound size (plain_step k [] (entries.SwapOut pid)) pid cleared (plain_sound size k [] (entries.SwapOut pid) s tt tt (let l = s.few_transfers in omega arith)) in
    record { owner = t.owner; tokens = t.tokens; hands = t.hands; few_transfers = t.few_transfers }

pub in_sound : (size : ℕ) (k : Kernel) (pid : ℕ) (regs : Regs) → Sound size k → Sound size (in_step k pid regs)
in_sound size k pid regs s =
    let t = regs_sound size (plain_step k [] (entries.SwapIn pid)) pid regs (plain_sound size k [] (entries.SwapIn pid) s tt tt (let l = s.few_transfers in omega arith)) in
    record { owner = t.owner; tokens = t.tokens; hands = t.hands; few_transfers = t.few_transfers }

-- An instruction leaves registers.
pub ran_sound : (size : ℕ) (k : Kernel) (pid : ℕ) (regs : Regs) (e : Entry) → Sound size k → Sound size (ran_by k pid regs e)
ran_sound size k pid regs e s =
    let t = regs_sound size k pid regs s in
    record { owner = t.owner; tokens = t.tokens; hands = t.hands; few_transfers = t.few_transfers }

-- A space that passes.

pub proc_number : (ps : List Proc) (n : ℕ) (q : Proc) → numbered (λ (x : Proc). x.pid) n ps ≡ Some q → q.pid ≡ n
proc_number [] n q e = none_some q e
proc_number (p ∷ ps) n q e = go (p.pid == n) refl e (proc_number ps n q)
  where
    go : (b : Bool) → (p.pid == n) ≡ b → cond b (Some p) (numbered (λ (x : Proc). x.pid) n ps) ≡ Some q → (numbered (λ (x : Proc). x.pid) n ps ≡ Some q → q.pid ≡ n) → q.pid ≡ n
    go true h k ih = ap (λ (x : Proc). x.pid) (sym (same_Some p q k)) ∙ eqb-true p.pid n h
    go false h k ih = ih k

-- who has another life has one still
lives_map : (life : Proc → Life) (ps : List Proc) (n : ℕ)
    → ((q : Proc) → numbered (λ (x : Proc). x.pid) n ps ≡ Some q → has_life (life q) ≡ has_life q.life)
    → lives (map (λ (q : Proc). record q { life = life q }) ps) n ≡ lives ps n
lives_map life [] n h = refl
lives_map life (p ∷ ps) n h = go (p.pid == n) h (lives_map life ps n)
  where
    go : (b : Bool) → ((q : Proc) → cond b (Some p) (numbered (λ (x : Proc). x.pid) n ps) ≡ Some q → has_life (life q) ≡ has_life q.life)
        → (((q : Proc) → numbered (λ (x : Proc). x.pid) n ps ≡ Some q → has_life (life q) ≡ has_life q.life) → lives (map (λ (q : Proc). record q { life = life q }) ps) n ≡ lives ps n)
        → lives_in (cond b (Some (record p { life = life p })) (numbered (λ (x : Proc). x.pid) n (map (λ (q : Proc). record q { life = life q }) ps)))
        ≡ lives_in (cond b (Some p) (numbered (λ (x : Proc). x.pid) n ps))
    go true k ih = k p refl
    go false k ih = ih k

passed_alive : (sid from to : ℕ) (receiver : Life) (q : Proc) → (q.pid ≡ from → has_life q.life ≡ true) → (q.pid ≡ to → has_life q.life ≡ true)
    → has_life (passed_life sid from to receiver q) ≡ has_life q.life
passed_alive sid from to receiver q a b = go (q.pid == from) (q.pid == to) refl refl
  where
    alive : (r : Life) → has_life (pass_from sid to r) ≡ true
    alive New = refl
    alive (HoldsSpace s) = refl
    alive (LendsSpace s c) = refl
    alive (Ended status) = refl

    go : (c d : Bool) → (q.pid == from) ≡ c → (q.pid == to) ≡ d → has_life (cond c (pass_from sid to receiver) (cond d (HoldsSpace sid) q.life)) ≡ has_life q.life
    go true d h k = alive receiver ∙ sym (a (eqb-true q.pid from h))
    go false true h k = sym (b (eqb-true q.pid to k))
    go false false h k = refl

-- Where the giver and the receiver live, a space passes and nobody else comes to life.
pub pass_lives : (k : Kernel) (from to : ℕ) → lives k.processes from ≡ true → lives k.processes to ≡ true → (n : ℕ)
    → lives (pass_step k from to).processes n ≡ lives k.processes n
pass_lives k from to a b n =
    let sid : ℕ = space_of_life (life_of_proc (numbered (λ (p : Proc). p.pid) from k.processes)) in
    let receiver : Life = life_of_proc (numbered (λ (p : Proc). p.pid) to k.processes) in
    let kept : (n : ℕ) (q : Proc) → numbered (λ (x : Proc). x.pid) n k.processes ≡ Some q → lives k.processes n ≡ true → has_life q.life ≡ true = λ n q e l. sym (ap lives_in e) ∙ l in
    let same : (n : ℕ) → lives (pass_step k from to).processes n ≡ lives k.processes n = λ n. lives_map (passed_life sid from to receiver) k.processes n (λ q e.
    passed_alive sid from to receiver q
    (λ h. kept n q e (ap (lives k.processes) (sym (proc_number k.processes n q e) ∙ h) ∙ a))
    (λ h. kept n q e (ap (lives k.processes) (sym (proc_number k.processes n q e) ∙ h) ∙ b))) in
    same n

-- Where the giver and the receiver live, a space may pass.
pub pass_sound : (size : ℕ) (k : Kernel) (from to : ℕ) → lives k.processes from ≡ true → lives k.processes to ≡ true → Sound size k
    → Sound size (pass_step k from to)
pass_sound size k from to a b s =
    let sid : ℕ = space_of_life (life_of_proc (numbered (λ (p : Proc). p.pid) from k.processes)) in
    let receiver : Life = life_of_proc (numbered (λ (p : Proc). p.pid) to k.processes) in
    let kept : (n : ℕ) (q : Proc) → numbered (λ (x : Proc). x.pid) n k.processes ≡ Some q → lives k.processes n ≡ true → has_life q.life ≡ true = λ n q e l. sym (ap lives_in e) ∙ l in
    let same : (n : ℕ) → lives (pass_step k from to).processes n ≡ lives k.processes n = λ n. lives_map (passed_life sid from to receiver) k.processes n (λ q e.
    passed_alive sid from to receiver q
    (λ h. kept n q e (ap (lives k.processes) (sym (proc_number k.processes n q e) ∙ h) ∙ a))
    (λ h. kept n q e (ap (lives k.processes) (sym (proc_number k.processes n q e) ∙ h) ∙ b))) in
    record {
      owner = alive_owner size (lives k.processes) (lives (pass_step k from to).processes) k.place k.holdings same s.owner;
      tokens = s.tokens;
      hands = s.hands;
      few_transfers = s.few_transfers;
    }
