-- What the touched pages suffice for.
use Rattle.std.proofs.Common.{◌≡◌, ℕ, ◌/◌, Bool, true, false, List, [], ◌∷◌, ◌++◌, filter_map, Option, Some, None, Result, Ok, Err, ℤ, refl, sym, ap, ◌∙◌, subst}
use Rattle.std.specs.List.{cons_option}
use Rattle.vm_facts.specs.Answers.{Answers, ByteWrite}
use Rattle.flat_state.specs.Space.{Space, address_in, byte_at, may_write_at, answers_of, put_at, put_in_space, puts}
use Rattle.flat_state.specs.Flat.{Holds, Process, FlatState, NamedImage, Inputs, process_of, is_ready}
use Rattle.vm_facts.specs.declared.memory.ByteRead.{ByteRead}
use Rattle.vm_facts.specs.declared.memory.ByteRead.TheVariants as bytes
use Rattle.vm_facts.specs.declared.memory.MayWrite.{MayWrite}
use Rattle.vm_facts.specs.declared.memory.MayWrite.TheVariants as tests
use Rattle.vm_facts.specs.declared.page.Page.{Page}
use Rattle.vm_facts.specs.declared.page.Page.TheVariants.{Data, Stack}
use Rattle.user_vax.specs.Program.{Program, Reads, Tests, ByteAccess, ReadOf, TestOf, run, after_read, after_test, accesses, rest_of_read, rest_of_test}
use Rattle.user_vax.specs.Effects.{Effect}
use Rattle.user_vax.specs.Instruction.{instruction, MayAll}
use Rattle.user_vax.specs.declared.refused.Refused.{Refused}
use Rattle.user_vax.specs.declared.refused.Refused.TheVariants.{Miss, Below, Signal}
use Rattle.user_vax.proofs.Allowed.{instruction_allowed}
use Rattle.flat_state.specs.declared.spot.Spot.{Spot}
use Rattle.flat_state.specs.declared.spot.Spot.TheVariants as spots
use Rattle.flat_state.specs.PageNames.{is_among}
use Rattle.flat_state.specs.Change.{apply_writes}
use Rattle.flat_state.proofs.SpaceLaws.{spot_after}
use Rattle.flat_model.specs.declared.calls.Reply.{Reply}
use Rattle.flat_model.specs.declared.calls.Reply.TheVariants as replies
use Rattle.flat_model.specs.declared.calls.SystemCall.{SystemCall}
use Rattle.flat_model.specs.Calls.{call_of, reply_of}
use Rattle.flat_model.specs.Instruction.{instruction_in}
use Rattle.flat_model.specs.Step.{Step, step_of, step_behind, called_step, replied_step, step_holding, step_if, flat_step, written_process, reply_behind}
use Rattle.flat_model.specs.Touched.{page_read, page_tested, page_of_access, call_accesses, accesses_behind, accesses_after, step_accesses, touched_in, touched_by, touched_if, touched, distinct}
use Rattle.flat_model.specs.Shown.{is_shown, read_where, test_where, shown}
use Rattle.flat_laws.specs.Shown.{IsOneOf, AreOf, IsCallOf}
use Rattle.flat_laws.proofs.Distinct.{among_first, among_later}
use Rattle.flat_laws.proofs.Pages.{among_distinct}

-- Answers that are alike.

abbrev IsAlike : Answers → Answers → ByteAccess → Type 0
IsAlike some other (ReadOf a) = some.read a ≡ other.read a
IsAlike some other (TestOf a) = some.may_write a ≡ other.may_write a

abbrev AreAlike : Answers → Answers → List ByteAccess → Type 0
AreAlike some other [] = Unit {0}
AreAlike some other (a ∷ list) = IsAlike some other a × AreAlike some other list

-- a computation whose accesses are answered alike comes to the same
same_run : {A : Type 0} (some other : Answers) (p : Program A) → AreAlike some other (accesses other p) → run some p ≡ run other p
same_run some other (Reads a next) h =
    ap (λ (answer : ByteRead). after_read answer a (λ byte. run some (next byte))) h.0 ∙ go (λ byte k. same_run some other (next byte) k) (other.read a) h.1
  where
    go : ((byte : ℕ) → AreAlike some other (accesses other (next byte)) → run some (next byte) ≡ run other (next byte)) → (answer : ByteRead)
        → AreAlike some other (rest_of_read answer (λ byte. accesses other (next byte))) → after_read answer a (λ byte. run some (next byte)) ≡ after_read answer a (λ byte. run other (next byte))
    go later (bytes.Is byte) k = later byte k
    go later bytes.Miss k = refl
    go later bytes.Below k = refl
    go later bytes.Outside k = refl
same_run some other (Tests a next) h =
    ap (λ (answer : MayWrite). after_test answer a (run some next)) h.0 ∙ go (λ k. same_run some other next k) (other.may_write a) h.1
  where
    go : (AreAlike some other (accesses other next) → run some next ≡ run other next) → (answer : MayWrite) → AreAlike some other (rest_of_test answer (accesses other next))
        → after_test answer a (run some next) ≡ after_test answer a (run other next)
    go later tests.May k = later k
    go later tests.Miss k = refl
    go later tests.Below k = refl
    go later tests.Text k = refl
    go later tests.Outside k = refl
same_run some other _ h = refl

-- Accesses to pages that are there.

abbrev AreShown : Space → List Page → List ByteAccess → Type 0
AreShown s pages [] = Unit {0}
AreShown s pages (a ∷ list) = (is_shown pages (page_of_access s a) ≡ true) × AreShown s pages list

alike : (s : Space) (pages : List Page) (list : List ByteAccess) → AreShown s pages list → AreAlike (shown s pages) (answers_of s) list
alike s pages [] h = tt
alike s pages (ReadOf a ∷ list) h = (ap (λ (b : Bool). read_where b (byte_at s (address_in s a))) h.0, alike s pages list h.1)
alike s pages (TestOf a ∷ list) h = (ap (λ (b : Bool). test_where b (may_write_at (address_in s a))) h.0, alike s pages list h.1)

-- all pages of a list are among others
abbrev AreAmong : List Page → List Page → Type 0
AreAmong pages xs = (q : Page) → is_among q xs ≡ true → is_among q pages ≡ true

first_among : (pages rest : List Page) (o : Option Page) → AreAmong pages (cons_option o rest) → (is_shown pages o ≡ true) × AreAmong pages rest
first_among pages rest None h = (refl, h)
first_among pages rest (Some r) h = (h r (among_first r rest), λ q i. h q (among_later q r rest i))

all_shown : (s : Space) (pages : List Page) (list : List ByteAccess) → AreAmong pages (filter_map (page_of_access s) list) → AreShown s pages list
all_shown s pages [] h = tt
all_shown s pages (a ∷ list) h =
    let parts = first_among pages (filter_map (page_of_access s) list) (page_of_access s a) h in
    (parts.0, all_shown s pages list parts.1)

front_shown : (s : Space) (pages : List Page) (list bs : List ByteAccess) → AreShown s pages (list ++ bs) → AreShown s pages list
front_shown s pages [] bs h = tt
front_shown s pages (a ∷ list) bs h = (h.0, front_shown s pages list bs h.1)

back_shown : (s : Space) (pages : List Page) (list bs : List ByteAccess) → AreShown s pages (list ++ bs) → AreShown s pages bs
back_shown s pages [] bs h = h
back_shown s pages (a ∷ list) bs h = back_shown s pages list bs h.1

-- Writes leave the pages of a space as they are.

access_after_at : (s : Space) (p : Spot) (byte : ℕ) (a : ByteAccess) → page_of_access (put_at s p byte) a ≡ page_of_access s a
access_after_at s p byte (ReadOf a) = ap (page_read (put_at s p byte)) (spot_after s p byte a) ∙ named p (address_in s a)
  where
    named : (p q : Spot) → page_read (put_at s p byte) q ≡ page_read s q
    named (spots.Text k) q = refl
    named (spots.Data k) (spots.Text i) = refl
    named (spots.Data k) (spots.Data i) = refl
    named (spots.Data k) (spots.Stack i) = refl
    named (spots.Data k) spots.Below = refl
    named (spots.Data k) spots.Outside = refl
    named (spots.Stack k) (spots.Text i) = refl
    named (spots.Stack k) (spots.Data i) = refl
    named (spots.Stack k) (spots.Stack i) = refl
    named (spots.Stack k) spots.Below = refl
    named (spots.Stack k) spots.Outside = refl
    named spots.Below q = refl
    named spots.Outside q = refl
access_after_at s p byte (TestOf a) = ap (page_tested (put_at s p byte)) (spot_after s p byte a) ∙ named p (address_in s a)
  where
    named : (p q : Spot) → page_tested (put_at s p byte) q ≡ page_tested s q
    named (spots.Text k) q = refl
    named (spots.Data k) (spots.Text i) = refl
    named (spots.Data k) (spots.Data i) = refl
    named (spots.Data k) (spots.Stack i) = refl
    named (spots.Data k) spots.Below = refl
    named (spots.Data k) spots.Outside = refl
    named (spots.Stack k) (spots.Text i) = refl
    named (spots.Stack k) (spots.Data i) = refl
    named (spots.Stack k) (spots.Stack i) = refl
    named (spots.Stack k) spots.Below = refl
    named (spots.Stack k) spots.Outside = refl
    named spots.Below q = refl
    named spots.Outside q = refl

access_after : (s : Space) (ws : List ByteWrite) (a : ByteAccess) → page_of_access (puts s ws) a ≡ page_of_access s a
access_after s [] a = refl
access_after s (w ∷ ws) a = access_after (put_in_space s w) ws a ∙ access_after_at s (address_in s w.address) w.byte a

shown_after : (s : Space) (ws : List ByteWrite) (pages : List Page) (list : List ByteAccess) → AreShown s pages list → AreShown (puts s ws) pages list
shown_after s ws pages [] h = tt
shown_after s ws pages (a ∷ list) h = (ap (is_shown pages) (access_after s ws a) ∙ h.0, shown_after s ws pages list h.1)

-- Touched pages.

abbrev touched_of : List NamedImage → FlatState → Process → Space → List Page
touched_of images F p s = distinct (filter_map (page_of_access s) (step_accesses images F p s))

module _ (A : Inputs) (F : FlatState) (pid : ℕ) (p : Process) (s : Space) where
  pub is_touched : process_of F pid ≡ Some p → is_ready p ≡ true → p.holding ≡ Holds s → touched A F pid ≡ touched_of A.images F p s
  unfolding touched
  is_touched here ready holds =
      ap (touched_if A.images F) here ∙ ap (λ (b : Bool). touched_by b A.images F p) ready ∙ ap (touched_in A.images F p) holds

  steps_shown : process_of F pid ≡ Some p → is_ready p ≡ true → p.holding ≡ Holds s → AreShown s (touched A F pid) (step_accesses A.images F p s)
  steps_shown here ready holds =
      subst (λ (pages : List Page). AreShown s pages (step_accesses A.images F p s)) (sym (is_touched here ready holds))
      (all_shown s (touched_of A.images F p s) (step_accesses A.images F p s) (λ q i. among_distinct q (filter_map (page_of_access s) (step_accesses A.images F p s)) i))

  pub instruction_shown : process_of F pid ≡ Some p → is_ready p ≡ true
      → p.holding ≡ Holds s → run (shown s (touched A F pid)) (instruction p.regs) ≡ instruction_in s p.regs
  unfolding step_accesses
  instruction_shown here ready holds =
      same_run (shown s (touched A F pid)) (answers_of s) (instruction p.regs)
      (alike s (touched A F pid) (accesses (answers_of s) (instruction p.regs))
      (front_shown s (touched A F pid) (accesses (answers_of s) (instruction p.regs)) (accesses_after A.images F p s (instruction_in s p.regs)) (steps_shown here ready holds)))

abbrev reply_program : List NamedImage → FlatState → Process → Space → Effect → SystemCall → Program Reply
reply_program images F p s effect call =
    reply_of images (apply_writes F p.pid effect.writes) (written_process p s effect.writes) (puts s effect.writes) call effect.regs

after_is : (A : Inputs) (F : FlatState) (p : Process) (s : Space) (effect : Effect) (call : SystemCall) → instruction_in s p.regs ≡ Ok effect
    → IsCallOf effect call
    → accesses_after A.images F p s (instruction_in s p.regs) ≡ accesses (answers_of (puts s effect.writes)) (reply_program A.images F p s effect call)
after_is A F p s effect call ok is =
    ap (accesses_after A.images F p s) ok ∙ ap (accesses_behind A.images F p s effect) is.is_number ∙ ap (call_accesses A.images F p s effect) is.names

pub reply_shown : (A : Inputs) (F : FlatState) (pid : ℕ) (p : Process) (s : Space) (effect : Effect) (call : SystemCall) → process_of F pid ≡ Some p
    → is_ready p ≡ true → p.holding ≡ Holds s
    → instruction_in s p.regs ≡ Ok effect → IsCallOf effect call
    → run (shown (puts s effect.writes) (touched A F pid)) (reply_program A.images F p s effect call)
    ≡ run (answers_of (puts s effect.writes)) (reply_program A.images F p s effect call)
unfolding step_accesses
reply_shown A F pid p s effect call here ready holds ok is =
    let back = back_shown s (touched A F pid) (accesses (answers_of s) (instruction p.regs)) (accesses_after A.images F p s (instruction_in s p.regs)) (steps_shown A F pid p s here ready holds) in
    let reply : AreShown s (touched A F pid) (accesses (answers_of (puts s effect.writes)) (reply_program A.images F p s effect call)) =
    subst (λ (list : List ByteAccess). AreShown s (touched A F pid) list) (after_is A F p s effect call ok is) back in
    same_run (shown (puts s effect.writes) (touched A F pid)) (answers_of (puts s effect.writes)) (reply_program A.images F p s effect call)
    (alike (puts s effect.writes) (touched A F pid) (accesses (answers_of (puts s effect.writes)) (reply_program A.images F p s effect call))
    (shown_after s effect.writes (touched A F pid) (accesses (answers_of (puts s effect.writes)) (reply_program A.images F p s effect call)) reply))

-- Writes.

where_may : (b : Bool) → test_where b tests.May ≡ tests.May → b ≡ true
where_may true h = refl
where_may false h = absurd cc

one_of : (s : Space) (pages : List Page) (p : Spot) → test_where (is_shown pages (page_tested s p)) (may_write_at p) ≡ tests.May
    → IsOneOf pages (page_tested s p)
one_of s pages (spots.Data i) h = where_may (is_among (Data s.sid (i / 1024)) pages) h
one_of s pages (spots.Stack i) h = where_may (is_among (Stack s.sid (i / 1024)) pages) h
one_of s pages _ h = absurd cc

written_shown : (s : Space) (pages : List Page) (ws : List ByteWrite) → MayAll (shown s pages) ws → AreOf s pages ws
written_shown s pages [] h = tt
written_shown s pages (w ∷ ws) h = (one_of s pages (address_in s w.address) h.0, written_shown s pages ws h.1)

module _ (images : List NamedImage) (F : FlatState) (p : Process) where
  replied_writes : (call : SystemCall) (effect : Effect) (reply : Reply) → (replied_step images F p call effect reply).writes ≡ effect.writes
  replied_writes call effect (replies.Fails error) = refl
  replied_writes call effect _ = refl

  called_writes : (s : Space) (refused : Bool) (effect : Effect) (call : Option SystemCall)
      → (called_step images F p s refused effect call).writes ≡ effect.writes
  called_writes s refused effect None = refl
  called_writes s refused effect (Some call) = replied_writes call effect (reply_behind images F p s refused call effect)

  behind_writes : (s : Space) (refused : Bool) (effect : Effect) (number : Option ℤ) → (step_behind images F p s refused effect number).writes ≡ effect.writes
  behind_writes s refused effect None = refl
  behind_writes s refused effect (Some number) = called_writes s refused effect (call_of number)

  step_writes : (s : Space) (refused : Bool) (pages : List Page) (result : Result Effect Refused)
      → ((effect : Effect) → result ≡ Ok effect → AreOf s pages effect.writes) → AreOf s pages (step_of images F p s refused result).writes
  step_writes s refused pages (Ok effect) h =
      subst (λ (ws : List ByteWrite). AreOf s pages ws) (sym (behind_writes s refused effect effect.call)) (h effect refl)
  step_writes s refused pages (Err (Miss a w)) h = tt
  step_writes s true pages (Err (Below a)) h = tt
  step_writes s false pages (Err (Below a)) h = tt
  step_writes s refused pages (Err (Signal n)) h = tt

is_step : (A : Inputs) (F : FlatState) (pid : ℕ) (p : Process) (s : Space) (refused : Bool) → process_of F pid ≡ Some p → p.holding ≡ Holds s
    → flat_step A F pid refused ≡ step_of A.images F p s refused (instruction_in s p.regs)
unfolding flat_step
is_step A F pid p s refused here holds = ap (step_if A.images F refused) here ∙ ap (step_holding A.images F p refused) holds

pub writes_shown : (A : Inputs) (F : FlatState) (pid : ℕ) (p : Process) (s : Space) (refused : Bool) → process_of F pid ≡ Some p → is_ready p ≡ true
    → p.holding ≡ Holds s → AreOf s (touched A F pid) (flat_step A F pid refused).writes
writes_shown A F pid p s refused here ready holds =
    subst (λ (step : Step). AreOf s (touched A F pid) step.writes) (sym (is_step A F pid p s refused here holds))
    (step_writes A.images F p s refused (touched A F pid) (instruction_in s p.regs)
    (λ effect ok. written_shown s (touched A F pid) effect.writes
    (instruction_allowed (shown s (touched A F pid)) p.regs effect (instruction_shown A F pid p s here ready holds ∙ ok))))
