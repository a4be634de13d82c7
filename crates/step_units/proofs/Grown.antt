-- After growth of its stack a process touches what it touched before, and next the page of the byte for which it grew.
use Rattle.std.proofs.Common.{◌≡◌, ℕ, ◌+◌, ◌-◌, ◌*◌, ◌/◌, ◌≤◌, ◌&&◌, nat_lt, nat_le, Bool, true, false, List, [], ◌∷◌, ◌++◌, length, filter_map, append_assoc, Option, Some, None, Err, if◌then◌else◌, refl, sym, ap, ◌∙◌, arith}
use Rattle.std.specs.List.{cons_option}
use Rattle.std.proofs.lemmas.Bool.Decides.{nat_tests}
use Rattle.std.proofs.lemmas.List.{append-nil}
use Rattle.std.proofs.lemmas.List.Elements.{filter_map-append}
use Rattle.std.proofs.lemmas.Option.{same_Some}
use Rattle.vm_facts.specs.declared.page.Page.{Page}
use Rattle.vm_facts.specs.declared.page.Page.TheVariants.{Stack}
use Rattle.vm_facts.specs.declared.memory.ByteRead.{ByteRead}
use Rattle.vm_facts.specs.declared.memory.ByteRead.TheVariants as reads
use Rattle.vm_facts.specs.declared.memory.MayWrite.{MayWrite}
use Rattle.vm_facts.specs.declared.memory.MayWrite.TheVariants as tests
use Rattle.vm_facts.specs.declared.regs.Regs.{Regs}
use Rattle.user_vax.specs.Effects.{Effect}
use Rattle.user_vax.specs.Instruction.{instruction}
use Rattle.user_vax.specs.Laws.{refusal, read_refusal, test_refusal, EndsRefused}
use Rattle.user_vax.specs.Program.{Program, ByteAccess, ReadOf, TestOf, accesses}
use Rattle.user_vax.specs.declared.refused.Refused.TheVariants.{Below}
use Rattle.user_vax.proofs.Order.{keeps_order}
use Rattle.flat_state.specs.declared.spot.Spot.TheVariants as spots
use Rattle.flat_state.specs.Change.{resized_bytes, resized}
use Rattle.flat_state.specs.Flat.{Holding, Holds, Process, FlatState, Inputs, holds_space, is_ready, process_of}
use Rattle.flat_state.specs.Space.{Space, stack_top, stack_reach, stack_index, spot_by, spot_at, address_in, byte_at, may_write_at, answers_of}
use Rattle.flat_state.proofs.SpaceLaws.{length-resized_bytes}
use Rattle.run_laws.proofs.Shown.{is_touched}
use Rattle.flat_model.specs.Instruction.{instruction_in}
use Rattle.flat_model.specs.Step.{data_pages_of, pages_down_to}
use Rattle.flat_model.specs.Touched.{page_read, page_tested, page_of_access, accesses_after, distinct, touched}
use Rattle.kernel_model.specs.Coupled.{Fits}
use Rattle.page_model.specs.Pages.{SpacePages}
use Rattle.economy_laws.proofs.Extending.{distinct_more, Bigger, Reached, reached, grown_page, kept_pages, kept_unseen}
use Rattle.economy_laws.proofs.Growing.{below_spot}
use Rattle.economy_laws.proofs.Growth.{refused_accesses, all_accesses}

-- The byte for which the stack grew.

spot_grown : (a b l n x : ℕ) → spot_at a b l x ≡ spots.Below → x + l + 1 ≤ stack_top → stack_top ≤ x + n → spot_at a b n x ≡ spots.Stack (stack_index x)
unfolding spot_at
spot_grown a b l n x e low high =
    go (nat_lt x a) (nat_lt x (a + b)) (nat_le (stack_top - l) x && nat_lt x stack_top) (nat_le (stack_top - stack_reach) x && nat_lt x stack_top) e
  where
    now : (nat_le (stack_top - n) x && nat_lt x stack_top) ≡ true
    now = grind (arith, nat_tests)

    go : (p q z w : Bool) → spot_by p q z w a x ≡ spots.Below → spot_by p q (nat_le (stack_top - n) x && nat_lt x stack_top) w a x ≡ spots.Stack (stack_index x)
    go true q z w k = absurd cc
    go false true z w k = absurd cc
    go false false true w k = absurd cc
    go false false false w k = ap (λ (y : Bool). spot_by false false y w a x) now

-- the last of a list, or this where there is none
abbrev last_of : Option ByteAccess → List ByteAccess → Option ByteAccess
last_of o [] = o
last_of o (x ∷ xs) = last_of (Some x) xs

last_is : (o : Option ByteAccess) (xs : List ByteAccess) (x : ByteAccess) → last_of o (xs ++ x ∷ []) ≡ Some x
last_is o [] x = refl
last_is o (y ∷ xs) x = last_is (Some y) xs x

-- the page of an access of that byte
page_there : (x : Space) (d t a : ℕ) (last : ByteAccess) → refusal (answers_of x) last ≡ Some (Below a)
    → address_in (resized x d t) a ≡ spots.Stack (stack_index a)
    → page_of_access (resized x d t) last ≡ Some (Stack x.sid (stack_index a / 1024))
page_there x d t a (ReadOf b) h e = go (byte_at x (address_in x b)) h
  where
    go : (r : ByteRead) → read_refusal r b ≡ Some (Below a) → page_read (resized x d t) (address_in (resized x d t) b) ≡ Some (Stack x.sid (stack_index a / 1024))
    go (reads.Is byte) k = absurd cc
    go reads.Miss k = absurd cc
    go reads.Below k =
        let same : b ≡ a = cc in
        ap (λ (n : ℕ). page_read (resized x d t) (address_in (resized x d t) n)) same ∙ ap (page_read (resized x d t)) e
    go reads.Outside k = absurd cc
page_there x d t a (TestOf b) h e = go (may_write_at (address_in x b)) h
  where
    go : (r : MayWrite) → test_refusal r b ≡ Some (Below a) → page_tested (resized x d t) (address_in (resized x d t) b) ≡ Some (Stack x.sid (stack_index a / 1024))
    go tests.May k = absurd cc
    go tests.Miss k = absurd cc
    go tests.Below k =
        let same : b ≡ a = cc in
        ap (λ (n : ℕ). page_tested (resized x d t) (address_in (resized x d t) n)) same ∙ ap (page_tested (resized x d t)) e
    go tests.Text k = absurd cc
    go tests.Outside k = absurd cc

index_page : (a : ℕ) → stack_index a / 1024 ≡ pages_down_to a - 1
index_page a = omega arith

-- the new page is the last one that the stack has then
new_page : (x : Space) (d a : ℕ) (regs : Regs) → Bigger x d (pages_down_to a) a → instruction_in x regs ≡ Err (Below a)
    → Reached Effect x d (pages_down_to a) a (instruction regs)
    → grown_page x a ≡ Stack x.sid (pages_down_to a - 1)
new_page x d a regs b e r =
    let t : ℕ = pages_down_to a in
    let falls : EndsRefused (answers_of x) (accesses (answers_of x) (instruction regs)) (Below a) = (keeps_order (answers_of x) (instruction regs)).falls a e in
    let last : r.last ≡ falls.1 =
    same_Some r.last falls.1 (sym (last_is None r.before r.last) ∙ ap (last_of None) (sym r.old ∙ falls.2) ∙ last_is None falls.0 falls.1) in
    let bytes : length (resized_bytes t x.stack_bytes) ≡ 1024 * t = length-resized_bytes t x.stack_bytes in
    let data_size : length (resized_bytes d x.data_bytes) ≡ length x.data_bytes = length-resized_bytes d x.data_bytes ∙ sym b.data_pages in
    let high : stack_top ≤ a + length (resized_bytes t x.stack_bytes) = (let k = b.reach in omega arith) in
    let spot : address_in (resized x d t) a ≡ spots.Stack (stack_index a) =
    ap (λ (n : ℕ). spot_at (length x.text_bytes) n (length (resized_bytes t x.stack_bytes)) a) data_size
    ∙ spot_grown (length x.text_bytes) (length x.data_bytes) (length x.stack_bytes) (length (resized_bytes t x.stack_bytes)) a (below_spot x (instruction regs) a e) b.room high in
    same_Some (grown_page x a) (Stack x.sid (t - 1))
    (sym r.some ∙ ap (page_of_access (resized x d t)) last ∙ page_there x d t a falls.1 falls.4 spot ∙ ap (λ (n : ℕ). Some (Stack x.sid n)) (index_page a))

-- Its pages.

-- the pages of the accesses before growth, and of those after it
pages_grown : (s : Space) (d t a : ℕ) (p : Program Effect) (after : List ByteAccess) → Reached Effect s d t a p
    → (more : List Page) × (distinct (filter_map (page_of_access (resized s d t)) (accesses (answers_of (resized s d t)) p ++ after))
    ≡ distinct (filter_map (page_of_access s) (accesses (answers_of s) p)) ++ grown_page s a ∷ more)
pages_grown s d t a p after r =
    let old_page : ByteAccess → Option Page = page_of_access s in
    let new_page : ByteAccess → Option Page = page_of_access (resized s d t) in
    let xs : List Page = filter_map old_page r.before in
    let old : filter_map old_page (accesses (answers_of s) p) ≡ xs =
    ap (filter_map old_page) r.old ∙ filter_map-append old_page r.before (r.last ∷ []) ∙ ap (λ (o : Option Page). xs ++ cons_option o []) r.none ∙ append-nil xs in
    let new : filter_map new_page (accesses (answers_of (resized s d t)) p ++ after) ≡ xs ++ grown_page s a ∷ filter_map new_page (r.rest ++ after) =
    ap (λ (l : List ByteAccess). filter_map new_page (l ++ after)) r.new ∙ ap (filter_map new_page) (append_assoc r.before (r.last ∷ r.rest) after)
    ∙ filter_map-append new_page r.before (r.last ∷ r.rest ++ after)
    ∙ ap (λ (l : List Page). l ++ filter_map new_page (r.last ∷ r.rest ++ after)) (kept_pages s d t a r.before r.kept)
    ∙ ap (λ (o : Option Page). xs ++ cons_option o (filter_map new_page (r.rest ++ after))) r.some in
    let k = distinct_more xs (filter_map new_page (r.rest ++ after)) (grown_page s a) (kept_unseen s d t a r.before r.kept) in
    (k.0, ap distinct new ∙ k.1 ∙ ap (λ (l : List Page). distinct l ++ grown_page s a ∷ k.0) (sym old))

-- The process.

pub grown_ready : (p : Process) (x : Space) → is_ready p ≡ true → is_ready (record p { holding = Holds x }) ≡ true
grown_ready p x h = go p.asleep p.holding h
  where
    go : (b : Bool) (h : Holding) → (if b then false else holds_space h) ≡ true → (if b then false else true) ≡ true
    go true h e = absurd cc
    go false h e = refl

-- the sizes of a space and of one grown to a byte
pub grown_sizes : (s : Space) (o : Option SpacePages) (a : ℕ) → Fits (Some s) o → a + length s.stack_bytes + 1 ≤ stack_top
    → Bigger s (data_pages_of s) (pages_down_to a) a
grown_sizes s None a f l = absurd f
grown_sizes s (Some x) a f l =
    let d = f.data_size in
    let k = f.stack_size in
    record { paged = omega arith; data_pages = omega arith; stack_pages = omega arith; room = l; reach = omega arith }

pub touched_grown : (A : Inputs) (F G : FlatState) (pid : ℕ) (p : Process) (x : Space) (d a : ℕ) → process_of F pid ≡ Some p → p.holding ≡ Holds x
    → is_ready p ≡ true
    → process_of G pid ≡ Some (record p { regs = p.regs; holding = Holds (resized x d (pages_down_to a)) }) → Bigger x d (pages_down_to a) a
    → instruction_in x p.regs ≡ Err (Below a)
    → (more : List Page) × (touched A G pid ≡ touched A F pid ++ Stack x.sid (pages_down_to a - 1) ∷ more)
touched_grown A F G pid p x d a here holds ready there b e =
    let t : ℕ = pages_down_to a in
    let z : Space = resized x d t in
    let q : Process = record p { regs = p.regs; holding = Holds z } in
    let r : Reached Effect x d t a (instruction p.regs) = reached Effect x d t a (instruction p.regs) b e in
    let g = pages_grown x d t a (instruction p.regs) (accesses_after A.images G q z (instruction_in z p.regs)) r in
    let old : touched A F pid ≡ distinct (filter_map (page_of_access x) (accesses (answers_of x) (instruction p.regs))) =
    is_touched A F pid p x here ready holds ∙ ap (λ (l : List ByteAccess). distinct (filter_map (page_of_access x) l)) (refused_accesses A.images F p x a e) in
    let new : touched A G pid ≡ distinct (filter_map (page_of_access z) (accesses (answers_of z) (instruction p.regs) ++ accesses_after A.images G q z (instruction_in z p.regs))) =
    is_touched A G pid q z there (grown_ready p z ready) refl ∙ ap (λ (l : List ByteAccess). distinct (filter_map (page_of_access z) l)) (all_accesses A.images G q z) in
    (g.0, new ∙ g.1 ∙ ap (λ (l : List Page). l ++ grown_page x a ∷ g.0) (sym old) ∙ ap (λ (n : Page). touched A F pid ++ n ∷ g.0) (new_page x d a p.regs b e r))
