-- A process's own step leaves what stands.
use Rattle.std.proofs.Common.{◌≡◌, ◌⊎◌, inl, inr, ℕ, ◌/◌, ◌<◌, ◌==◌, ◌||◌, ◌&&◌, Bool, true, false, not, nat_lt, List, [], ◌∷◌, length, map, Option, Some, Ok, refl, sym, ap, ap₂, ◌∙◌, subst, arith}
use Rattle.std.proofs.lemmas.Bool.Decides.{nat_tests}
use Rattle.vm_facts.specs.Answers.{ByteWrite}
use Rattle.flat_state.specs.Space.{Space, puts}
use Rattle.flat_state.specs.Flat.{Holding, Holds, Lends, Zombie, Process, FlatState, Inputs, process_of}
use Rattle.vm_facts.specs.declared.page.Page.{Page}
use Rattle.vm_facts.specs.declared.entry.Entry.{Entry}
use Rattle.swap_book.specs.declared.Owner.TheVariants as owners
use Rattle.swap_book.specs.Holdings.{Holdings}
use Rattle.swap_book.specs.Placing.{place_all}
use Rattle.flat_state.specs.declared.change.Change.{Change}
use Rattle.flat_state.specs.declared.change.Change.TheVariants.{Keep, Resize, Fork, Lend, Exec, Reap, Sleep, End}
use Rattle.flat_state.specs.Change.{replaced, with_process, wrote_by, wrote_if, apply_writes, apply_change, NamesChild, is_borrower}
use Rattle.flat_state.specs.Journal.{append}
use Rattle.page_model.specs.Pages.{numbered}
use Rattle.page_model.specs.Placement.{Placement, Residence, space_number, image_of, image_in, sharers, slots_of, parts_of}
use Rattle.page_model.specs.Moves.{touch, touch_all}
use Rattle.page_model.specs.Place.{Changing, changing_in, place_change, place_step, space_of_holding, space_of_process, data_count, facts_of}
use Rattle.page_model.specs.Swapper.{is_out, is_settled, residence_of, names_page}
use Rattle.vm_facts.specs.Pages.{is_of_space, is_of_text}
use Rattle.page_model.specs.Conditions.{LosesPages}
use Rattle.kernel_model.specs.Coupled.{Outline, Fits, SameTables, outline_of}
use Rattle.kernel_model.specs.Kernel.{Life, LendsSpace, life_of}
use Rattle.kernel_model.specs.Numbers.{SettlesFor}
use Rattle.kernel_model.specs.Start.{ImagesFit}
use Rattle.flat_state.specs.Numbers.{IsNumbered}
use Rattle.flat_state.specs.Lenders.{LendsStand}
use Rattle.kernel_model.specs.Stands.{Stands}
use Rattle.kernel_laws.proofs.Sound.Steps.{touch_transfers}
use Rattle.page_laws.proofs.Moves.Puts.{rest_by_puts, touch_all_kept}
use Rattle.page_laws.proofs.Moves.Stays.{Steady}
use Rattle.page_laws.proofs.Bytes.Others.{touch_steady}
use Rattle.kernel_laws.proofs.Machine.Shapes.{touch_shaped, image_kept}
use Rattle.kernel_laws.proofs.Machine.Swaps.{found_at, found_self}
use Rattle.kernel_laws.proofs.Flat.Lists.{found_is, replaced_at}
use Rattle.kernel_laws.proofs.Flat.Numbers.{writes_numbered}
use Rattle.kernel_laws.proofs.Flat.Lenders.{writes_lent}
use Rattle.flat_laws.proofs.Asking.{own_space, data_counted, stack_counted, change_same}
use Rattle.flat_model.specs.Calls.{stack_pages_of}
use Rattle.flat_model.specs.Step.{data_pages_of}
use Rattle.flat_model.specs.Asked.{given_up, change_wanted, is_shared, with_pages, without_text, without_own, without_owner}
use Rattle.run_model.specs.Act.{loses_pages}
use Rattle.run_laws.specs.Standing.{machine_of, Placed, Own}
use Rattle.kernel_model.specs.Invariant.{EntersImage}
use Rattle.run_laws.proofs.Writing.{SameSpace, puts_same, space_tables, touch_all_placed, writes_placed}
use Rattle.run_laws.proofs.OwnChanges.{ReadyChange, own_change}
use Rattle.kernel_laws.proofs.Kept.Changes.{GivesBack}
use Rattle.run_laws.proofs.BackChanges.{back_change}

-- The flat state and the placement once the bytes are written.

pub record Wrote (flat after : FlatState) (pid : ℕ) (q : Process) (s z : Space) : Type 0 where
  pub is : after ≡ with_process flat (record q { holding = Holds z })
  pub same : SameSpace s z

pub wrote : (flat : FlatState) (pid : ℕ) (ws : List ByteWrite) (q : Process) (s : Space) → process_of flat pid ≡ Some q → q.holding ≡ Holds s
    → Wrote flat (apply_writes flat pid ws) pid q s (puts s ws)
unfolding apply_writes
wrote flat pid ws q s f h = record { is = ap (wrote_if flat ws) f ∙ ap (wrote_by flat q ws) h; same = puts_same ws s }

pub wrote_process : (flat : FlatState) (pid : ℕ) (q : Process) (z : Space) → process_of flat pid ≡ Some q
    → process_of (with_process flat (record q { holding = Holds z })) pid ≡ Some (record q { holding = Holds z })
wrote_process flat pid q z f =
    found_is (replaced flat.processes (record q { holding = Holds z })) pid
    ∙ ap (λ (n : ℕ). numbered (λ (x : Process). x.pid) n (replaced flat.processes (record q { holding = Holds z }))) (sym (found_at flat pid q f).0)
    ∙ replaced_at flat.processes q (record q { holding = Holds z }) (found_self flat pid q f)

-- who lends to whom is seen by the outlines
abbrev lends_by : ℕ → Life → Bool
lends_by pid (LendsSpace sid child) = child == pid
lends_by pid _ = false

abbrev borrows_by : List Outline → ℕ → Bool
borrows_by [] pid = false
borrows_by (o ∷ os) pid = lends_by pid o.life || borrows_by os pid

borrows_is : (ps : List Process) (pid : ℕ) → is_borrower ps pid ≡ borrows_by (map outline_of ps) pid
borrows_is [] pid = refl
borrows_is (q ∷ ps) pid = ap (λ (b : Bool). b || is_borrower ps pid) (one q.holding) ∙ ap (λ (b : Bool). lends_by pid (life_of q.holding) || b) (borrows_is ps pid)
  where
    one : (h : Holding) → Rattle.flat_state.specs.Change.lends_to pid h ≡ lends_by pid (life_of h)
    one (Holds s) = refl
    one (Lends sid child) = refl
    one (Zombie status) = refl

pub borrows_same : (ps qs : List Process) (pid : ℕ) → map outline_of ps ≡ map outline_of qs → is_borrower ps pid ≡ is_borrower qs pid
borrows_same ps qs pid e = borrows_is ps pid ∙ ap (λ (os : List Outline). borrows_by os pid) e ∙ sym (borrows_is qs pid)

own_written : (x : Bool) (after : FlatState) (s z : Space) (hs : Holdings) → z.sid ≡ s.sid → z.image ≡ s.image
    → without_own x after z hs ≡ without_own x after s hs
own_written true after s z hs a i = refl
own_written false after s z hs a i = ap₂ (λ (n m : ℕ). without_text (is_shared after m) m (without_owner (owners.Stack n) (without_owner (owners.Data n) hs))) a i

-- what is given back, by the flat states before and after the bytes
pub given_written : (F G after : FlatState) (pid : ℕ) (s z : Space) (change : Change) (hs : Holdings) → z.sid ≡ s.sid → z.image ≡ s.image
    → is_borrower G.processes pid ≡ is_borrower F.processes pid
    → given_up G after pid z change hs ≡ given_up F after pid s change hs
given_written F G after pid s z (Resize d t) hs a i b = ap (λ (n : ℕ). with_pages (owners.Stack n) t (with_pages (owners.Data n) d hs)) a
given_written F G after pid s z (Exec image top) hs a i b = ap (λ (x : Bool). without_own x after z hs) b ∙ own_written (is_borrower F.processes pid) after s z hs a i
given_written F G after pid s z (End status) hs a i b =
    let us : Holdings = without_owner (owners.U pid) hs in
    ap (λ (x : Bool). without_own x after z us) b ∙ own_written (is_borrower F.processes pid) after s z us a i
given_written F G after pid s z _ hs a i b = refl

-- Touched pages.

pub touched_out : (qs : List Page) (p : Placement) (n : ℕ) → is_out (touch_all p qs) n ≡ is_out p n
touched_out [] p n = refl
touched_out (q ∷ qs) p n = touched_out qs (touch p q) n ∙ ap (λ (rs : List Residence). (residence_of rs n).out) (touch_shaped p q).residents

pub touched_due : (qs : List Page) (p : Placement) → (touch_all p qs).due ≡ p.due
touched_due qs p = (touch_all_kept rest_by_puts qs p).due

pub touched_settled : (qs : List Page) (p : Placement) (sid : ℕ) → is_settled (touch_all p qs) sid ≡ is_settled p sid
touched_settled [] p sid = refl
touched_settled (q ∷ qs) p sid =
    let t : Steady p (touch p q) = touch_steady p q in
    touched_settled qs (touch p q) sid
    ∙ ap (λ (ts : List Rattle.page_model.specs.Placement.Transfer). not (names_page (is_of_space sid) (parts_of ts))
    && not ((sharers (touch p q) (image_of (touch p q) sid) == 1) && names_page (is_of_text (image_of (touch p q) sid)) (parts_of ts))) (touch_transfers p q)
    ∙ ap (λ (i : ℕ). not (names_page (is_of_space sid) (parts_of p.transfers)) && not ((sharers (touch p q) i == 1) && names_page (is_of_text i) (parts_of p.transfers)))
    (image_kept p (touch p q) (touch_shaped p q) sid)
    ∙ ap (λ (n : ℕ). not (names_page (is_of_space sid) (parts_of p.transfers)) && not ((n == 1) && names_page (is_of_text (image_of p sid)) (parts_of p.transfers))) (t.sharing (image_of p sid))

-- Settling.

pub lt_or : (a b c d : ℕ) → (nat_lt a b || nat_lt c d) ≡ false → ((a < b) ⊎ (c < d)) → ⊥
lt_or a b c d e (inl l) = absurd (let k : nat_lt a b ≡ true = grind (arith, nat_tests) in let z : true ≡ false = sym (ap (λ (x : Bool). x || nat_lt c d) k) ∙ e in cc)
lt_or a b c d e (inr l) = absurd (let k : nat_lt c d ≡ true = grind (arith, nat_tests) in let z : true ≡ false = sym (or_true (nat_lt a b)) ∙ sym (ap (λ (x : Bool). nat_lt a b || x) k) ∙ e in cc)
  where
    or_true : (x : Bool) → (x || true) ≡ true
    or_true true = refl
    or_true false = refl

-- a space that goes or loses pages is settled, where the flat state says that it has to be
pub settles_for : (p : Placement) (s : Space) (b : Bool) (change : Change) → Own b change → Fits (Some s) (numbered space_number s.sid p.spaces)
    → (loses_pages s b change ≡ true → is_settled p s.sid ≡ true) → SettlesFor p s.sid change
settles_for p s b Keep o f h = tt
settles_for p s b (Resize d t) o f h = λ l. go l (nat_lt d (data_pages_of s) || nat_lt t (stack_pages_of s)) refl
  where
    go : LosesPages p s.sid d t → (x : Bool) → (nat_lt d (data_pages_of s) || nat_lt t (stack_pages_of s)) ≡ x → is_settled p s.sid ≡ true
    go l true e = h e
    go l false e = absurd (lt_or d (data_pages_of s) t (stack_pages_of s) e
        (subst (λ (n : ℕ). (d < n) ⊎ (t < stack_pages_of s)) (data_counted s (numbered space_number s.sid p.spaces) f)
        (subst (λ (n : ℕ). (d < data_count p s.sid) ⊎ (t < n)) (stack_counted s (numbered space_number s.sid p.spaces) f) l)))
settles_for p s b (Fork child) o f h = tt
settles_for p s b (Lend child) o f h = tt
settles_for p s true (Exec image top) o f h = absurd o
settles_for p s false (Exec image top) o f h = h refl
settles_for p s b (Reap child) o f h = tt
settles_for p s b Sleep o f h = tt
settles_for p s true (End status) o f h = absurd o
settles_for p s false (End status) o f h = h refl

-- a borrower gives back, or keeps
pub own_or : (b : Bool) (change : Change) → Own b change ⊎ ((b ≡ true) × GivesBack change)
own_or false change = inl (own_false change)
  where
    own_false : (x : Change) → Own false x
    own_false Keep = tt
    own_false (Resize d t) = tt
    own_false (Fork child) = tt
    own_false (Lend child) = tt
    own_false (Exec image top) = tt
    own_false (Reap child) = tt
    own_false Sleep = tt
    own_false (End status) = tt
own_or true Keep = inl tt
own_or true (Resize d t) = inl tt
own_or true (Fork child) = inl tt
own_or true (Lend child) = inl tt
own_or true (Exec image top) = inr (refl, tt)
own_or true (Reap child) = inl tt
own_or true Sleep = inl tt
own_or true (End status) = inr (refl, tt)

-- The whole step of a process.
pub record Making (A : Inputs) (flat : FlatState) (p : Placement) (hs found : Holdings) (pid : ℕ) (q : Process) (s : Space) (ws : List ByteWrite)
    (change : Change) : Type 0 where
  pub images : ImagesFit A.images
  pub numbers : IsNumbered flat
  pub lenders : LendsStand flat
  pub found_process : process_of flat pid ≡ Some q
  pub holds : q.holding ≡ Holds s
  pub resident : is_out p pid ≡ false
  pub clear : p.due ≡ []
  pub may : NamesChild (apply_writes flat pid ws) change
  pub execs : EntersImage A.images change
  pub pieces : place_all A.swap_blocks hs (change_wanted A.images flat s change) ≡ Ok found
  pub settles : loses_pages s (is_borrower flat.processes pid) change ≡ true → is_settled p s.sid ≡ true

pub step_placed : (A : Inputs) (flat : FlatState) (p : Placement) (hs found : Holdings) (pid : ℕ) (regs : Rattle.vm_facts.specs.declared.regs.Regs.Regs)
    (j : List Entry) (e : Entry) (q : Process) (s : Space) (ws : List ByteWrite) (written : List Page) (change : Change)
    → Making A flat p hs found pid q s ws change → Placed A flat p hs
    → Placed A (apply_change A.images (apply_writes flat pid ws) pid regs change) (place_step (facts_of A.images) flat pid
    (length (append j e)) written change p) (given_up flat (apply_change A.images (apply_writes flat pid ws) pid regs change) pid s change found)
step_placed A flat p hs found pid regs j e q s ws written change m st =
    let next : flat1.next_sid ≡ flat.next_sid = ap (λ (x : FlatState). x.next_sid) w.is in
    let made : Placed A after (place_change (record who { sid = z.sid; borrowed = is_borrower flat1.processes pid; next_sid = flat1.next_sid }) p1 change) (given_up flat1 after pid z change found) =
    go (own_or (is_borrower flat1.processes pid) change) in
    subst (λ (n : ℕ). Placed A after (place_change (record who { sid = n }) p1 change) (given_up flat after pid s change found))
    (sym (ap space_of_process m.found_process ∙ ap space_of_holding m.holds))
    (subst (Placed A after (place_change (record who { sid = s.sid }) p1 change))
    (given_written flat flat1 after pid s z change found same.sid same.image borrows)
    (subst (λ (n : ℕ). Placed A after (place_change (record who { sid = s.sid; next_sid = n }) p1 change) (given_up flat1 after pid z change found)) next
    (subst (λ (n : ℕ). Placed A after (place_change (record who { sid = n; next_sid = flat1.next_sid }) p1 change) (given_up flat1 after pid z change found)) same.sid
    (subst (λ (b : Bool). Placed A after (place_change (record who { sid = z.sid; borrowed = b; next_sid = flat1.next_sid }) p1 change) (given_up flat1 after pid z change found)) borrows
    made))))
  where
    who : Changing
    who = changing_in (facts_of A.images) flat pid (length (append j e))

    flat1 : FlatState
    flat1 = apply_writes flat pid ws

    p1 : Placement
    p1 = touch_all p written

    z : Space
    z = puts s ws

    after : FlatState
    after = apply_change A.images flat1 pid regs change

    w : Wrote flat flat1 pid q s z
    w = wrote flat pid ws q s m.found_process m.holds

    same : SameSpace s z
    same = w.same

    q1 : Process
    q1 = record q { holding = Holds z }

    here : process_of flat1 pid ≡ Some q1
    here = subst (λ (x : FlatState). process_of x pid ≡ Some q1) (sym w.is) (wrote_process flat pid q z m.found_process)

    st1 : Placed A flat1 p1 hs
    st1 = touch_all_placed A flat1 written p hs (writes_placed A flat p hs pid ws q s m.numbers m.found_process m.holds st)

    t0 : SameTables (machine_of flat p hs) flat
    t0 = st.tables

    t1 : SameTables (machine_of flat1 p1 hs) flat1
    t1 = st1.tables

    t01 : SameTables (machine_of flat p hs) flat1
    t01 = subst (SameTables (machine_of flat p hs)) (sym w.is) (space_tables (machine_of flat p hs) flat q s z m.numbers (found_self flat pid q m.found_process) m.holds same t0)

    numbers : IsNumbered flat1
    numbers = writes_numbered flat pid ws q s m.found_process m.holds m.numbers

    borrows : is_borrower flat1.processes pid ≡ is_borrower flat.processes pid
    borrows = borrows_same flat1.processes flat.processes pid (sym t01.processes ∙ t0.processes)

    sd : Stands A.images (machine_of flat p hs) flat
    sd = st.stands

    wanted : change_wanted A.images flat1 z change ≡ change_wanted A.images flat s change
    wanted = sym (change_same A.images (machine_of flat p hs) flat1 pid q1 z change m.images sd.texts st.numbered numbers t01 here refl)
        ∙ change_same A.images (machine_of flat p hs) flat pid q s change m.images sd.texts st.numbered m.numbers t0 m.found_process m.holds

    c : ReadyChange A flat1 p1 hs found pid q1 z change
    c = record {
      images = m.images;
      numbers = numbers;
      found_process = here;
      holds = refl;
      resident = touched_out written p pid ∙ m.resident;
      clear = touched_due written p ∙ m.clear;
      may = m.may;
      execs = m.execs;
      pieces = ap (place_all A.swap_blocks hs) wanted ∙ m.pieces;
    }

    fits1 : Fits (Some z) (numbered space_number z.sid p1.spaces)
    fits1 = subst (λ (o : Option Space). Fits o (numbered space_number z.sid p1.spaces)) (own_space flat1 pid q1 z numbers here refl) (t1.spaces z.sid)

    loses : (x : Change) (b : Bool) → loses_pages z b x ≡ loses_pages s b x
    loses Keep b = refl
    loses (Resize d t) b = ap₂ (λ (i k : ℕ). nat_lt d (i / 1024) || nat_lt t (k / 1024)) same.data_size same.stack_size
    loses (Fork child) b = refl
    loses (Lend child) b = refl
    loses (Exec image top) b = refl
    loses (Reap child) b = refl
    loses Sleep b = refl
    loses (End status) b = refl

    settled : loses_pages z (is_borrower flat1.processes pid) change ≡ true → is_settled p1 z.sid ≡ true
    settled l =
        ap (is_settled p1) same.sid ∙ touched_settled written p s.sid ∙ m.settles (sym (ap (λ (b : Bool). loses_pages s b change) borrows) ∙ sym (loses change (is_borrower flat1.processes pid)) ∙ l)

    go : Own (is_borrower flat1.processes pid) change ⊎ ((is_borrower flat1.processes pid ≡ true) × GivesBack change)
        → Placed A after (place_change (record who { sid = z.sid; borrowed = is_borrower flat1.processes pid; next_sid = flat1.next_sid }) p1 change) (given_up flat1 after pid z change found)
    go (inl o) = own_change A flat1 p1 hs found pid regs j e q1 z (is_borrower flat1.processes pid) change c refl o (settles_for p1 z (is_borrower flat1.processes pid) change o fits1 settled) st1
    go (inr (b, g)) =
        subst (λ (x : Bool). Placed A after (place_change (record who { sid = z.sid; borrowed = x; next_sid = flat1.next_sid }) p1 change) (given_up flat1 after pid z change found)) (sym b)
        (back_change A flat1 p1 hs found pid regs j e q1 z change c (writes_lent flat pid ws q s m.found_process m.holds m.lenders) b g st1)
