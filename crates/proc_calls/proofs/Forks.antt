-- What a fork asks of the machine, and what is so after its entry.
use Rattle.std.proofs.Common.{◌≡◌, ℕ, ◌+◌, ◌*◌, Bool, true, false, List, [], ◌∷◌, ◌++◌, length, Option, Some, None, IsSome, refl, sym, ap, ◌∙◌, subst, arith}
use Rattle.std.specs.Prelude.{Result, Ok, Err, IfOk, OnOk, is_ok}
use Rattle.std.proofs.lemmas.Bool.{ltb-true}
use Rattle.vm_facts.specs.declared.page.Page.{Page}
use Rattle.vm_facts.specs.declared.page.Page.TheVariants.{Data, Stack}
use Rattle.vm_facts.specs.declared.page.PageState.{PageState}
use Rattle.vm_facts.specs.declared.page.PageState.TheVariants.{Unfilled, Valid, Invalid, Coming, Going, OnSwap}
use Rattle.vm_facts.specs.declared.regs.Regs.{Regs}
use Rattle.vm_facts.specs.declared.entry.Entry.{Entry}
use Rattle.vm_facts.specs.declared.stop.Stop.{Stop}
use Rattle.aout_image.specs.declared.Image.{Image}
use Rattle.swap_dmap.specs.Chunks.{pieces}
use Rattle.swap_book.specs.declared.Owner.TheVariants as owners
use Rattle.swap_book.specs.Holdings.{Holdings, lengths}
use Rattle.swap_book.specs.Placing.{Wanted, wanted, more_pieces, place_all}
use Rattle.swap_book.proofs.OwnerLaws.{no_pieces}
use Rattle.flat_state.specs.Journal.{append}
use Rattle.flat_state.specs.declared.change.Change.TheVariants.{Keep, Fork}
use Rattle.flat_model.specs.declared.calls.Reply.TheVariants.{Fails}
use Rattle.flat_model.specs.Calls.{try_again, no_memory, replied, replied_both}
use Rattle.flat_model.specs.declared.calls.SystemCall.{SystemCall}
use Rattle.flat_model.specs.declared.calls.SystemCall.TheVariants as calls
use Rattle.flat_model.specs.Step.{call_entry}
use Rattle.page_model.specs.Pages.{Slot, SpacePages, data_in, stack_in}
use Rattle.page_model.specs.Placement.{Due, Start, CopyOf, slots_of}
use Rattle.page_model.specs.Place.{data_count, stack_count, copy_due, copies_from, fork_space}
use Rattle.kernel_model.specs.Kernel.{Life, Proc, Kernel}
use Rattle.kernel_model.specs.Sound.{Sound}
use Rattle.kernel_model.specs.Numbers.{Numbered}
use Rattle.kernel_model.specs.Asks.{asked, HasSpace}
use Rattle.kernel_model.specs.ChangeStep.{space_of_life, life_of_proc, change_if, change_step}
use Rattle.kernel_model.specs.Unit.{proc_of}
use Rattle.machine_state.specs.Want.{Want}
use Rattle.machine_state.specs.Going.{CanGoOn}
use Rattle.machine_state.specs.Wants.{wanted_of}
use Rattle.machine_state.specs.Machine.{Standing}
use Rattle.machine_state.specs.Applying.{CanApply, MayAct, facts_named}
use Rattle.machine_state.specs.Conditions.{KeepsFlat}
use Rattle.machine_state.specs.UserMemory.{CanLend}
use Rattle.machine_state.proofs.HoldingSteps.{next_is_new}
use Rattle.machine_state.proofs.FirstPieces.{all_more}
use Rattle.fault_fill.specs.LastMoves.{last_moves}
use Rattle.fault_fill.proofs.LastMoves.{last_of}
use Rattle.fault_fill.specs.Growth.{space_of_pid, with_pieces}
use Rattle.proc_calls.specs.declared.replying.Called.{Called}
use Rattle.proc_calls.specs.Answered.{Answered, Replied}
use Rattle.proc_calls.specs.Callers.{IsCaller}
use Rattle.proc_calls.specs.Making.{is_below_limit, finds_pieces, without_pieces, HasChild, MakesChildBy, MakesChild}
use Rattle.proc_calls.specs.Copying.{in_space, AreCopiesFrom, HasCopied}
use Rattle.proc_calls.specs.Forking.{fork_wants, HasNewSpace, ForkAnswered}
use Rattle.proc_calls.proofs.Callers.{caller_there, caller_lives, sound_now}
use Rattle.proc_calls.proofs.Makes.{no_u_page, u_want, u_asked, no_place, goes_on, has_child}

-- The next space has no number yet, and no pieces.

no_data : (size : ℕ) (k : Kernel) (hs : Holdings) → Sound size (record k { holdings = hs }) → Numbered k → lengths (owners.Data k.next_sid) hs ≡ []
no_data size k hs s n =
    s.owner.blocks.data_held k.next_sid ∙ ap (λ (x : Option SpacePages). pieces (2 * length (data_in x))) (next_is_new k n) ∙ no_pieces (owners.Data k.next_sid)

no_stack : (size : ℕ) (k : Kernel) (hs : Holdings) → Sound size (record k { holdings = hs }) → Numbered k → lengths (owners.Stack k.next_sid) hs ≡ []
no_stack size k hs s n =
    s.owner.blocks.stack_held k.next_sid ∙ ap (λ (x : Option SpacePages). pieces (2 * length (stack_in x))) (next_is_new k n) ∙ no_pieces (owners.Stack k.next_sid)

-- The pieces of the child that are looked for are those that the change asks for.

abbrev fork_list : ℕ → ℕ → ℕ → Want → List Want
fork_list sid a b w = record { owner = owners.Data sid; blocks = 2 * a } ∷ record { owner = owners.Stack sid; blocks = 2 * b } ∷ w ∷ []

-- the wants as they were told
pub wants_are : (k : Kernel) (parent sid child a b : ℕ) (w : Want) → sid ≡ k.next_sid → child ≡ k.next_pid → a ≡ data_count k.place parent
    → b ≡ stack_count k.place parent → w ≡ u_want child → fork_list sid a b w ≡ fork_wants k parent
wants_are k parent sid child a b w space process of_data of_stack of_u =
    ap (λ (n : ℕ). fork_list n a b w) space ∙ ap (λ (n : ℕ). fork_list k.next_sid n b w) of_data
    ∙ ap (λ (n : ℕ). fork_list k.next_sid (data_count k.place parent) n w) of_stack
    ∙ ap (fork_list k.next_sid (data_count k.place parent) (stack_count k.place parent)) (of_u ∙ ap u_want process)

module _ (k : Kernel) (size : ℕ) (s : Sound size k) (n : Numbered k) (parent : ℕ) where
  abbrev data_pieces : List Wanted
  data_pieces = wanted (owners.Data k.next_sid) (pieces (2 * data_count k.place parent))

  abbrev stack_pieces : List Wanted
  stack_pieces = wanted (owners.Stack k.next_sid) (pieces (2 * stack_count k.place parent))

  all_looked : wanted_of k.holdings (fork_wants k parent) ≡ data_pieces ++ (stack_pieces ++ wanted_of k.holdings (u_want k.next_pid ∷ []))
  all_looked =
      ap (λ (xs : List Wanted). xs ++ (more_pieces k.holdings (owners.Stack k.next_sid) (2 * stack_count k.place parent) ++ wanted_of k.holdings (u_want k.next_pid ∷ [])))
      (all_more k.holdings (owners.Data k.next_sid) (2 * data_count k.place parent) (no_data size k k.holdings s n))
      ∙ ap (λ (xs : List Wanted). data_pieces ++ (xs ++ wanted_of k.holdings (u_want k.next_pid ∷ [])))
      (all_more k.holdings (owners.Stack k.next_sid) (2 * stack_count k.place parent) (no_stack size k k.holdings s n))

pub fork_asks : (m : Standing) (pid child parent : ℕ) (ws : List Want) → ws ≡ fork_wants m.kernel parent → parent ≡ space_of_pid m.kernel pid
    → child ≡ m.kernel.next_pid → CanGoOn m
    → wanted_of m.kernel.holdings ws ≡ asked (facts_named m.images) m.kernel pid (Fork child)
fork_asks m pid child parent ws wants held named on =
    let now : Sound m.params.swap_blocks m.kernel = sound_now m on in
    let n = on.running.numbered in
    ap (wanted_of m.kernel.holdings) (wants ∙ ap (fork_wants m.kernel) held)
    ∙ all_looked m.kernel m.params.swap_blocks now n (space_of_pid m.kernel pid)
    ∙ ap (λ (xs : List Wanted). data_pieces m.kernel m.params.swap_blocks now n (space_of_pid m.kernel pid) ++ (stack_pieces m.kernel m.params.swap_blocks now n (space_of_pid m.kernel pid) ++ xs))
    (u_asked m.kernel.holdings m.kernel.next_pid (no_u_page m.params.swap_blocks m.kernel m.kernel.holdings now n))
    ∙ ap (λ (i : ℕ). asked (facts_named m.images) m.kernel pid (Fork i)) (sym named)

-- The entry may be made.

can_fork : (m : Standing) (pid : ℕ) (call : SystemCall) (regs : Regs) (hs : Holdings) → is_below_limit m.kernel ≡ true → IsCaller m pid
    → place_all m.params.swap_blocks m.kernel.holdings (asked (facts_named m.images) m.kernel pid (Fork m.kernel.next_pid)) ≡ Ok hs
    → CanApply (with_pieces m hs) pid (call_entry pid call regs) (Fork m.kernel.next_pid)
can_fork m pid call regs hs few c found = record {
  clear = c.clear;
  ready = record {
    alive = caller_lives m.kernel pid c.lends;
    next = refl;
    reaps = tt;
    space = subst (HasSpace m.kernel.place) (sym (ap space_of_life c.lends.holds)) c.lends.there;
  };
  acts = subst (λ (l : Life). MayAct l (Fork m.kernel.next_pid)) (sym c.lends.holds) tt;
  resident = c.lends.resident;
  returned = λ t. absurd (let z : false ≡ true = t in cc);
  entry = (refl, tt);
  whole = tt;
  few = λ t. ltb-true (length m.kernel.processes) 64 few;
  found = ap (λ (h : Holdings). place_all m.params.swap_blocks h (asked (facts_named m.images) m.kernel pid (Fork m.kernel.next_pid))) c.ready.whole ∙ found;
}

pub may_fork : (m asks : Standing) (pid child : ℕ) (call : SystemCall) (regs : Regs) (hs : Holdings) → asks ≡ with_pieces m hs → child ≡ m.kernel.next_pid
    → is_below_limit m.kernel ≡ true → IsCaller m pid
    → place_all m.params.swap_blocks m.kernel.holdings (asked (facts_named m.images) m.kernel pid (Fork child)) ≡ Ok hs
    → CanApply asks pid (call_entry pid call regs) (Fork child)
may_fork m asks pid child call regs hs is named few c found =
    subst (λ (n : ℕ). CanApply asks pid (call_entry pid call regs) (Fork n)) (sym named)
    (subst (λ (s : Standing). CanApply s pid (call_entry pid call regs) (Fork m.kernel.next_pid)) (sym is)
    (can_fork m pid call regs hs few c
    (ap (λ (n : ℕ). place_all m.params.swap_blocks m.kernel.holdings (asked (facts_named m.images) m.kernel pid (Fork n))) (sym named) ∙ found)))

-- What is due after the entry is copied from the parent's pages.

copies_both : (sid : ℕ) (xs ys : List Due) → AreCopiesFrom sid xs → AreCopiesFrom sid ys → AreCopiesFrom sid (xs ++ ys)
copies_both sid [] ys a b = b
copies_both sid (Start q ∷ xs) ys a b = absurd a
copies_both sid (CopyOf q parent ∷ xs) ys a b = (a.0, copies_both sid xs ys a.1 b)

one_copy : (sid : ℕ) (child parent : Page) (s : PageState) → parent ≡ in_space sid child → AreCopiesFrom sid (copy_due child parent s)
one_copy sid child parent Unfilled e = tt
one_copy sid child parent (Valid f) e = (e, tt)
one_copy sid child parent (Invalid f) e = (e, tt)
one_copy sid child parent (Coming f) e = (e, tt)
one_copy sid child parent (Going f) e = (e, tt)
one_copy sid child parent OnSwap e = (e, tt)

are_copies : (sid : ℕ) (child parent : ℕ → Page) (v : ℕ) (xs : List Slot) → ((n : ℕ) → parent n ≡ in_space sid (child n))
    → AreCopiesFrom sid (copies_from child parent v xs)
are_copies sid child parent v [] e = tt
are_copies sid child parent v (x ∷ xs) e =
    copies_both sid (copy_due (child v) (parent v) x.state) (copies_from child parent (v + 1) xs) (one_copy sid (child v) (parent v) x.state (e v))
    (are_copies sid child parent (v + 1) xs e)

-- The kernel after an entry of the call.

pub record IsBehind (k l : Kernel) (e : Entry) : Type 0 where
  pub frames : length l.place.holds ≡ length k.place.holds
  pub journal : l.journal ≡ append k.journal e

-- and after that by which there is a child
record HasDue (k l : Kernel) (sid : ℕ) (e : Entry) : Type 0 where
  behind : IsBehind k l e
  due : let forked = fork_space k.place sid k.next_sid in l.place.due ≡ forked.due
  copies : AreCopiesFrom sid l.place.due

forked_by : (images : List Image) (k : Kernel) (child : ℕ) (regs : Regs) (e : Entry) (o : Option Proc) → IsSome o
    → HasDue k (change_if images k regs e (Fork child) o) (space_of_life (life_of_proc o)) e
forked_by images k child regs e None s = absurd cc
forked_by images k child regs e (Some p) s =
    let sid = space_of_life p.life in
    let of_data = slots_of k.place (Data sid 0) in
    let of_stack = slots_of k.place (Stack sid 0) in
    record {
      behind = record { frames = refl; journal = refl };
      due = refl;
      copies = copies_both sid (copies_from (Data k.next_sid) (Data sid) 0 of_data) (copies_from (Stack k.next_sid) (Stack sid) 0 of_stack)
          (are_copies sid (Data k.next_sid) (Data sid) 0 of_data (λ n. refl)) (are_copies sid (Stack k.next_sid) (Stack sid) 0 of_stack (λ n. refl));
    }

-- of machines, where the pieces of the child were found before
behind_fork : (m new : Standing) (pid child : ℕ) (regs : Regs) (hs : Holdings) → IsCaller m pid
    → Answered (with_pieces m hs) new pid calls.Fork regs (Fork child)
    → HasDue m.kernel new.kernel (space_of_pid m.kernel pid) (call_entry pid calls.Fork regs)
behind_fork m new pid child regs hs c answer =
    let e : Entry = call_entry pid calls.Fork regs in
    let sid = space_of_pid m.kernel pid in
    let found : Kernel = record m.kernel { holdings = hs } in
    let b : HasDue found (change_step (facts_named m.images) found pid regs e (Fork child)) sid e =
    forked_by (facts_named m.images) found child regs e (proc_of m.kernel pid) (caller_there m.kernel pid c.lends) in
    subst (λ (l : Kernel). HasDue m.kernel l sid e) (sym answer.step)
    (record { behind = record { frames = b.behind.frames; journal = b.behind.journal }; due = b.due; copies = b.copies })

has_new_space : (old new : Standing) (pid child : ℕ) (regs : Regs) → IsCaller old pid → HasChild old new pid calls.Fork regs child (Fork child)
    → HasNewSpace old new pid regs child
has_new_space old new pid child regs c made =
    let b = behind_fork old new pid child (replied_both regs child 0) made.found c made.answer in
    record { made = made; due = b.due; copies = b.copies }

kept_by : (images : List Image) (k : Kernel) (regs : Regs) (e : Entry) (o : Option Proc) → IsSome o → IsBehind k (change_if images k regs e Keep o) e
kept_by images k regs e None s = absurd cc
kept_by images k regs e (Some p) s = record { frames = refl; journal = refl }

behind_kept : (m new : Standing) (pid : ℕ) (call : SystemCall) (regs : Regs) → CanLend m.kernel pid → Answered m new pid call regs Keep
    → IsBehind m.kernel new.kernel (call_entry pid call regs)
behind_kept m new pid call regs c answer =
    subst (λ (l : Kernel). IsBehind m.kernel l (call_entry pid call regs)) (sym answer.step)
    (kept_by (facts_named m.images) m.kernel regs (call_entry pid call regs) (proc_of m.kernel pid) (caller_there m.kernel pid c))

-- After the entry there are as many frames, and the last entry counts no moves.

pub record IsLow (old new : Standing) : Type 0 where
  pub params : new.params ≡ old.params
  pub images : new.images ≡ old.images
  pub frames : length new.kernel.place.holds ≡ length old.kernel.place.holds
  pub last : last_moves new.kernel.journal ≡ 0

is_low : (old new : Standing) (pid : ℕ) (call : SystemCall) (regs : Regs) → IsBehind old.kernel new.kernel (call_entry pid call regs)
    → new.params ≡ old.params → new.images ≡ old.images → IsLow old new
is_low old new pid call regs b params images = record {
  params = params;
  images = images;
  frames = b.frames;
  last = ap last_moves b.journal ∙ last_of old.kernel.journal (call_entry pid call regs);
}

kept_low : (old new : Standing) (pid : ℕ) (call : SystemCall) (regs : Regs) → CanLend old.kernel pid → Answered old new pid call regs Keep → IsLow old new
kept_low old new pid call regs c answer =
    is_low old new pid call regs (behind_kept old new pid call regs c answer) (ap (λ (s : Standing). s.params) answer.rest) (ap (λ (s : Standing). s.images) answer.rest)

low_by : (fewer finds : Bool) (old new : Standing) (pid child : ℕ) (regs : Regs) → IsCaller old pid
    → MakesChildBy fewer finds old new pid calls.Fork regs (HasNewSpace old new pid regs child) → IsLow old new
low_by false finds old new pid child regs c h = kept_low old new pid calls.Fork (replied regs true try_again) c.lends h
low_by true false old new pid child regs c h =
    let refused : Standing = without_pieces old pid in
    let lends : CanLend refused.kernel pid = record { sid = c.lends.sid; holds = c.lends.holds; there = c.lends.there; resident = c.lends.resident } in
    let low : IsLow refused new = kept_low refused new pid calls.Fork (replied regs true no_memory) lends h.answer in
    record { params = low.params; images = low.images; frames = low.frames; last = low.last }
low_by true true old new pid child regs c h =
    let b = behind_fork old new pid child (replied_both regs child 0) h.made.found c h.made.answer in
    is_low old new pid calls.Fork (replied_both regs child 0) b.behind (ap (λ (s : Standing). s.params) h.made.answer.rest) (ap (λ (s : Standing). s.images) h.made.answer.rest)

pub copied_behind : (old between new : Standing) → IsLow old between → HasCopied between new → HasCopied old new
copied_behind old between new l h = record {
  params = h.params ∙ l.params;
  images = h.images ∙ l.images;
  due = h.due;
  frames = h.frames ∙ l.frames;
  low = let a = h.low in let z = l.last in omega (arith, a, z);
}

pub fork_low : (old new : Standing) (pid : ℕ) (regs : Regs) → IsCaller old pid → ForkAnswered old new pid regs → IsLow old new
fork_low old new pid regs c h = low_by (is_below_limit old.kernel) (finds_pieces old pid (Fork old.kernel.next_pid)) old new pid old.kernel.next_pid regs c h

-- The call.

abbrev answers_as : Standing → Standing → ℕ → Regs → ℕ → Type 0
answers_as old new pid regs child = MakesChild old new pid calls.Fork regs (Fork child) (HasNewSpace old new pid regs child)

pub fork_refused : (r : Result Called Stop) (old between new : Standing) (pid child : ℕ) (regs : Regs) → between ≡ without_pieces old pid
    → KeepsFlat old.kernel between.kernel
    → child ≡ old.kernel.next_pid → is_below_limit old.kernel ≡ true → finds_pieces old pid (Fork child) ≡ false
    → IfOk r (Replied between new pid calls.Fork regs (Fails no_memory)) → OnOk r (ForkAnswered old new pid regs)
fork_refused (Ok called) old between new pid child regs is keeps named few none h =
    subst (answers_as old new pid regs) named (no_place old new pid calls.Fork regs (Fork child) (HasNewSpace old new pid regs child) between is keeps few none h.1)
fork_refused (Err stop) old between new pid child regs is keeps named few none h = tt

pub fork_entered : (r : Result Called Stop) (old asks new : Standing) (pid child : ℕ) (regs after : Regs) (hs : Holdings) → IsCaller old pid
    → asks ≡ with_pieces old hs
    → after ≡ replied_both regs child 0 → child ≡ old.kernel.next_pid → is_below_limit old.kernel ≡ true
    → place_all old.params.swap_blocks old.kernel.holdings (asked (facts_named old.images) old.kernel pid (Fork child)) ≡ Ok hs
    → OnOk r (Answered asks new pid calls.Fork after (Fork child)) → OnOk r (ForkAnswered old new pid regs)
fork_entered (Ok called) old asks new pid child regs after hs c is reply named few found answer =
    subst (answers_as old new pid regs) named
    (goes_on old new pid calls.Fork regs (Fork child) (HasNewSpace old new pid regs child) few (ap (λ (r : Result Holdings ℕ). is_ok r) found)
    (has_new_space old new pid child regs c (has_child old asks new pid child calls.Fork regs after (Fork child) hs is reply found answer)))
fork_entered (Err stop) old asks new pid child regs after hs c is reply named few found answer = tt
