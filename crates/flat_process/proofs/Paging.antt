-- Computations over a space of which only some pages are present.
use Rattle.std.proofs.Common.{◌≡◌, ℕ, ◌+◌, ◌-◌, ◌≤◌, ◌<◌, ◌==◌, Bool, true, false, not, ◌&&◌, ◌||◌, cond, List, [], ◌∷◌, ◌++◌, length, length-append, filter, append_assoc, Option, Some, None, Result, Ok, Err, refl, sym, ap, ◌∙◌, ap₂, subst, subst₂, arith, le_refl, le_trans, append-nil}
use Rattle.std.specs.Prelude.{◌/◌, ◌%◌, ◌*◌, ℤ, nat_le, slice_index}
use Rattle.std.specs.List.{cons_option}
use Rattle.std.proofs.lemmas.Bool.Decides.{nat_tests}
use Rattle.vm_facts.specs.Answers.{Answers, ByteWrite, read_by, put_byte as put_in}
use Rattle.flat_state.specs.Space.{Space, address_in, byte_at, may_write_at, answers_of, put_at, put_in_space, puts}
use Rattle.flat_state.specs.Flat.{Holding, Holds, Process, FlatState, NamedImage, Inputs, process_of, ready_if, can_step}
use Rattle.vm_facts.specs.declared.page.Page.{Page}
use Rattle.vm_facts.specs.declared.page.Page.TheVariants as pages
use Rattle.vm_facts.specs.declared.memory.ByteRead.TheVariants as reads
use Rattle.vm_facts.specs.declared.memory.MayWrite.{MayWrite}
use Rattle.vm_facts.specs.declared.memory.MayWrite.TheVariants as tests
use Rattle.vm_facts.specs.declared.regs.Regs.{Regs}
use Rattle.user_vax.specs.Program.{Program, Gives, Refuses, Reads, Tests, ◌>>=◌, run, after_read, after_test, ByteAccess, ReadOf, TestOf, accesses, rest_of_read, rest_of_test}
use Rattle.user_vax.specs.declared.refused.Refused.{Refused}
use Rattle.user_vax.specs.declared.refused.Refused.TheVariants.{Miss, Below as Falls, Signal}
use Rattle.flat_state.specs.declared.spot.Spot.{Spot}
use Rattle.flat_state.specs.declared.spot.Spot.TheVariants.{Text, Data, Stack, Below, Outside}
use Rattle.flat_state.specs.PageNames.{same_page, is_among}
use Rattle.flat_state.specs.Writes.{MayPut, Wrote}
use Rattle.flat_state.proofs.SpaceLaws.{spot_after, put_answers, wrote_puts, put_sid}
use Rattle.flat_model.specs.Touched.{page_read, page_tested, page_of_access, distinct, call_accesses, accesses_behind, accesses_after, step_accesses, touched_in, touched_by, touched_if, touched}
use Rattle.user_vax.specs.Effects.{Effect}
use Rattle.user_vax.specs.Instruction.{instruction, answer_of, answer_of_call, registers_after, writes_of}
use Rattle.user_vax.specs.declared.stepped.Stepped.{Stepped}
use Rattle.user_vax.specs.declared.stepped.Stepped.TheVariants as steps
use Rattle.user_vax.proofs.Runs.{then, run_bind}
use Rattle.flat_model.specs.Instruction.{instruction_in}
use Rattle.flat_model.specs.Calls.{call_of, reply_of, argument, exit_reply, break_reply, break_by, pages_up_to, stack_pages_of, data_limit, refusal_of}
use Rattle.flat_model.specs.declared.calls.Reply.TheVariants.{Exits}
use Rattle.std.proofs.lemmas.List.Elements.{filter_map-append}
use Rattle.user_step.proofs.Trying.{missed as answer_missed}
use Rattle.flat_state.proofs.PageLists.{left, AllAmong, among_kept, among_last, left_other, left_more, filter_both, filter_all}
use Rattle.flat_state.specs.Change.{apply_writes}
use Rattle.flat_model.specs.declared.calls.SystemCall.{SystemCall}
use Rattle.flat_model.specs.Step.{written_process}
use Rattle.flat_process.proofs.Hits.{space_hits}
use Rattle.flat_model.specs.Shown.{is_shown, read_where, test_where, shown}
use Rattle.flat_process.specs.Present.{WrotePresent, access_of, pages_of, with_page, gathered}

-- Lists that are gathered.

pub gathered_is : (ps pages : List Page) → gathered pages ps ≡ pages ++ filter (left pages) (distinct ps)
unfolding distinct
gathered_is [] pages = sym (append-nil pages)
gathered_is (p ∷ ps) pages = go (λ present. gathered_is ps present) (is_among p pages) refl
  where
    go : ((present : List Page) → gathered present ps ≡ present ++ filter (left present) (distinct ps)) → (b : Bool) → is_among p pages ≡ b
        → gathered (with_page b pages p) ps
        ≡ pages ++ cond (not b) (p ∷ filter (left pages) (filter (λ q. not (same_page p q)) (distinct ps))) (filter (left pages) (filter (λ q. not (same_page p q)) (distinct ps)))
    go more true h =
        more pages
        ∙ ap (λ (l : List Page). pages ++ l) (sym (filter_both (left pages) (λ q. not (same_page p q)) (left pages) (λ q. left_other pages p q h) (distinct ps)))
    go more false h =
        more (pages ++ p ∷ [])
        ∙ ap (λ (l : List Page). (pages ++ p ∷ []) ++ l)
        (sym (filter_both (left pages) (λ q. not (same_page p q)) (left (pages ++ p ∷ [])) (left_more pages p) (distinct ps)))
        ∙ append_assoc pages (p ∷ []) (filter (left pages) (filter (λ q. not (same_page p q)) (distinct ps)))

-- from none on, it is each page once
pub gathered_distinct : (ps : List Page) → gathered [] ps ≡ distinct ps
gathered_distinct ps = gathered_is ps [] ∙ filter_all (distinct ps)

pub gathered_more : (pages ps qs : List Page) → gathered pages (ps ++ qs) ≡ gathered (gathered pages ps) qs
gathered_more pages [] qs = refl
gathered_more pages (p ∷ ps) qs = gathered_more (with_page (is_among p pages) pages p) ps qs

gathered_none : (pages ps : List Page) → AllAmong pages ps → gathered pages ps ≡ pages
gathered_none pages [] all = refl
gathered_none pages (p ∷ ps) all = ap (λ (b : Bool). gathered (with_page b pages p) ps) all.0 ∙ gathered_none pages ps all.1

-- the first page that isn't there yet
gathered_next : (pages front back : List Page) (page : Page) → AllAmong pages front → is_among page pages ≡ false
    → gathered (pages ++ page ∷ []) (front ++ page ∷ back) ≡ gathered pages (front ++ page ∷ back)
gathered_next pages [] back page all new =
    ap (λ (b : Bool). gathered (with_page b (pages ++ page ∷ []) page) back) (among_last pages page)
    ∙ sym (ap (λ (b : Bool). gathered (with_page b pages page) back) new)
gathered_next pages (p ∷ ps) back page all new =
    ap (λ (b : Bool). gathered (with_page b (pages ++ page ∷ []) p) (ps ++ page ∷ back)) (among_kept pages page p all.0)
    ∙ gathered_next pages ps back page all.1 new
    ∙ sym (ap (λ (b : Bool). gathered (with_page b pages p) (ps ++ page ∷ back)) all.0)

with_length : (b : Bool) (pages : List Page) (p : Page) → length pages ≤ length (with_page b pages p)
with_length true pages p = le_refl (length pages)
with_length false pages p = let e = length-append pages (p ∷ []) in omega (arith, e)

gathered_length : (pages ps : List Page) → length pages ≤ length (gathered pages ps)
gathered_length pages [] = le_refl (length pages)
gathered_length pages (p ∷ ps) = le_trans (with_length (is_among p pages) pages p) (gathered_length (with_page (is_among p pages) pages p) ps)

-- A computation comes to the same as over the whole space, where the pages that it touches are present; or it misses
-- at the first page that isn't.

pub data Paging {A : Type 0} (s : Space) (present : List Page) (some whole : Result A Refused) (touched : List Page) : Type 0 where
  Whole : some ≡ whole → AllAmong present touched → Paging s present some whole touched
  Missing : (address : ℕ) (write : Bool) (page : Page) (front back : List Page) → some ≡ Err (Miss address write)
      → page_of_access s (access_of address write) ≡ Some page → is_among page present ≡ false → AllAmong present front → touched ≡ front ++ page ∷ back
      → Paging s present some whole touched

one_read : {A : Type 0} (s : Space) (present : List Page) (address byte : ℕ) (page : Page) (next : ℕ → Result A Refused)
    (whole : Result A Refused) (touched : List Page)
    → page_of_access s (ReadOf address) ≡ Some page → Paging s present (next byte) whole touched
    → (b : Bool) → is_among page present ≡ b → Paging s present (after_read (read_where b (reads.Is byte)) address next) whole (page ∷ touched)
one_read s present address byte page next whole touched is (Whole e all) true h = Whole e (h, all)
one_read s present address byte page next whole touched is (Missing a w p front back e k new all l) true h =
    Missing a w p (page ∷ front) back e k new (h, all) (ap (λ (ps : List Page). page ∷ ps) l)
one_read s present address byte page next whole touched is rest false h = Missing address false page [] touched refl is h tt refl

one_test : {A : Type 0} (s : Space) (present : List Page) (address : ℕ) (page : Page) (next whole : Result A Refused) (touched : List Page)
    → page_of_access s (TestOf address) ≡ Some page → Paging s present next whole touched
    → (b : Bool) → is_among page present ≡ b → Paging s present (after_test (test_where b tests.May) address next) whole (page ∷ touched)
one_test s present address page next whole touched is (Whole e all) true h = Whole e (h, all)
one_test s present address page next whole touched is (Missing a w p front back e k new all l) true h =
    Missing a w p (page ∷ front) back e k new (h, all) (ap (λ (ps : List Page). page ∷ ps) l)
one_test s present address page next whole touched is rest false h = Missing address true page [] touched refl is h tt refl

pub paging : {A : Type 0} (s : Space) (present : List Page) (p : Program A)
    → Paging s present (run (shown s present) p) (run (answers_of s) p) (pages_of s (accesses (answers_of s) p))
paging s present (Gives x) = Whole refl tt
paging s present (Refuses signal) = Whole refl tt
paging s present (Reads address next) =
    (elim (address_in s address) as (λ spot. address_in s address ≡ spot → Paging s present
    (after_read (read_where (is_shown present (page_read s spot)) (byte_at s spot)) address (λ byte. run (shown s present) (next byte)))
    (after_read (byte_at s spot) address (λ byte. run (answers_of s) (next byte)))
    (cons_option (page_read s spot) (pages_of s (rest_of_read (byte_at s spot) (λ byte. accesses (answers_of s) (next byte)))))) [
      | Text i ↦ λ e. one_read s present address (slice_index s.text_bytes i) (pages.Text s.image (i / 1024)) (λ byte. run (shown s present) (next byte)) _ _
          (ap (page_read s) e) (paging s present (next (slice_index s.text_bytes i))) (is_among (pages.Text s.image (i / 1024)) present) refl
      | Data i ↦ λ e. one_read s present address (slice_index s.data_bytes i) (pages.Data s.sid (i / 1024)) (λ byte. run (shown s present) (next byte)) _ _
          (ap (page_read s) e) (paging s present (next (slice_index s.data_bytes i))) (is_among (pages.Data s.sid (i / 1024)) present) refl
      | Stack i ↦ λ e. one_read s present address (slice_index s.stack_bytes i) (pages.Stack s.sid (i / 1024)) (λ byte. run (shown s present) (next byte)) _ _
          (ap (page_read s) e) (paging s present (next (slice_index s.stack_bytes i))) (is_among (pages.Stack s.sid (i / 1024)) present) refl
      | Below ↦ λ e. Whole refl tt
      | Outside ↦ λ e. Whole refl tt
    ]) refl
paging s present (Tests address next) =
    (elim (address_in s address) as (λ spot. address_in s address ≡ spot → Paging s present
    (after_test (test_where (is_shown present (page_tested s spot)) (may_write_at spot)) address (run (shown s present) next))
    (after_test (may_write_at spot) address (run (answers_of s) next))
    (cons_option (page_tested s spot) (pages_of s (rest_of_test (may_write_at spot) (accesses (answers_of s) next))))) [
      | Text i ↦ λ e. Whole refl tt
      | Data i ↦ λ e. one_test s present address (pages.Data s.sid (i / 1024)) (run (shown s present) next) _ _
          (ap (page_tested s) e) (paging s present next) (is_among (pages.Data s.sid (i / 1024)) present) refl
      | Stack i ↦ λ e. one_test s present address (pages.Stack s.sid (i / 1024)) (run (shown s present) next) _ _
          (ap (page_tested s) e) (paging s present next) (is_among (pages.Stack s.sid (i / 1024)) present) refl
      | Below ↦ λ e. Whole refl tt
      | Outside ↦ λ e. Whole refl tt
    ]) refl

-- a miss names a page that isn't there yet, and is the next of those that are touched
pub record Brings (s : Space) (present : List Page) (address : ℕ) (write : Bool) (touched : List Page) : Type 0 where
  pub page : Page
  pub named : page_of_access s (access_of address write) ≡ Some page
  pub same : gathered (present ++ page ∷ []) touched ≡ gathered present touched
  pub fewer : length present < length (gathered present touched)

pub missed : {A : Type 0} (s : Space) (present : List Page) (p : Program A) (address : ℕ) (write : Bool) → run (shown s present) p ≡ Err (Miss address write)
    → Brings s present address write (pages_of s (accesses (answers_of s) p))
missed {A = A} s present p address write h = go (run (shown s present) p) (pages_of s (accesses (answers_of s) p)) h (paging s present p)
  where
    go : (some : Result A Refused) (touched : List Page) → some ≡ Err (Miss address write) → Paging s present some (run (answers_of s) p) touched → Brings s present address write touched
    go some touched h (Whole e all) = absurd (space_hits s p address write (sym e ∙ h))
    go some touched h (Missing a w page front back e is new all l) =
        let both : Err (Miss a w) ≡ Err (Miss address write) = sym e ∙ h in
        let first : a ≡ address = cc in
        let second : w ≡ write = cc in
        let same = gathered_next present front back page all new in
        let longer = gathered_length (present ++ page ∷ []) (front ++ page ∷ back) in
        let lengths = ap length same in
        let one = length-append present (page ∷ []) in
        subst (Brings s present address write) (sym l) (record {
          page = page;
          named = ap₂ (λ (x : ℕ) (y : Bool). page_of_access s (access_of x y)) (sym first) (sym second) ∙ is;
          same = same;
          fewer = omega (arith, longer, lengths, one);
        })

-- one more page was brought in: fewer are left to come
pub record Brought (first present more touched : List Page) : Type 0 where
  pub same : gathered more touched ≡ gathered first touched
  pub fewer : length (gathered first touched) - length more < length (gathered first touched) - length present

pub brought : (s t : Space) (first present kept more touched : List Page) (address : ℕ) (write : Bool) → t ≡ s → kept ≡ present
    → Brings s present address write touched
    → gathered present touched ≡ gathered first touched → ((page : Page) → page_of_access t (access_of address write) ≡ Some page → more ≡ kept ++ page ∷ [])
    → Brought first present more touched
brought s t first present kept more touched address write space stay brings same pushed =
    let is : more ≡ present ++ brings.page ∷ [] =
    pushed brings.page (ap (λ (x : Space). page_of_access x (access_of address write)) space ∙ brings.named) ∙ ap (λ (ps : List Page). ps ++ brings.page ∷ []) stay in
    let longer : length more ≡ length present + 1 = ap length is ∙ length-append present (brings.page ∷ []) in
    let whole : length (gathered present touched) ≡ length (gathered first touched) = ap length same in
    let fewer = brings.fewer in
    record {
      same = ap (λ (ps : List Page). gathered ps touched) is ∙ brings.same ∙ same;
      fewer = omega (arith, longer, whole, fewer);
    }

-- where no access misses, all pages that are touched are there
pub hit : {A : Type 0} (s : Space) (present : List Page) (p : Program A)
    → ((address : ℕ) (write : Bool) → run (shown s present) p ≡ Err (Miss address write) → ⊥)
    → (run (shown s present) p ≡ run (answers_of s) p) × (gathered present (pages_of s (accesses (answers_of s) p)) ≡ present)
hit {A = A} s present p none = go (run (shown s present) p) none (paging s present p)
  where
    go : (some : Result A Refused) → ((address : ℕ) (write : Bool) → some ≡ Err (Miss address write) → ⊥) → Paging s present some (run (answers_of s) p) (pages_of s (accesses (answers_of s) p))
        → (some ≡ run (answers_of s) p) × (gathered present (pages_of s (accesses (answers_of s) p)) ≡ present)
    go some none (Whole e all) = (e, gathered_none present (pages_of s (accesses (answers_of s) p)) all)
    go some none (Missing a w page front back e is new all l) = absurd (none a w e)

-- An instruction over present pages.

module _ (s t : Space) (present left : List Page) (regs after : Regs) where
  -- what an instruction that missed left: all as it was, and a page to be brought in
  pub record Misses (address : ℕ) (write : Bool) : Type 0 where
    pub space : t ≡ s
    pub pages : left ≡ present
    pub registers : after ≡ regs
    pub brings : Brings s present address write (pages_of s (accesses (answers_of s) (instruction regs)))

  pub missed_answer : (stepped : Stepped) (address : ℕ) (write : Bool) → stepped ≡ answer_of (run (shown s present) (instruction regs))
      → after ≡ registers_after regs (run (shown s present) (instruction regs))
      → WrotePresent present s (writes_of (run (shown s present) (instruction regs))) left t → stepped ≡ steps.Miss address write → Misses address write
  missed_answer stepped address write answer registers wrote is =
      let miss = answer_missed (run (shown s present) (instruction regs)) address write (sym answer ∙ is) in
      record {
        space = sym (subst (λ (r : Result Effect Refused). Wrote s (writes_of r) t) miss wrote.wrote);
        pages = wrote.kept;
        registers = registers ∙ ap (registers_after regs) miss;
        brings = missed s present (instruction regs) address write miss;
      }

  -- what an instruction that didn't miss left: all as over the whole space, and the pages that it touches are there
  pub record Hits (stepped : Stepped) : Type 0 where
    pub answer : stepped ≡ answer_of (instruction_in s regs)
    pub registers : after ≡ registers_after regs (instruction_in s regs)
    pub space : t ≡ puts s (writes_of (instruction_in s regs))
    pub pages : left ≡ gathered present (pages_of s (accesses (answers_of s) (instruction regs)))

  pub hit_answer : (stepped : Stepped) → stepped ≡ answer_of (run (shown s present) (instruction regs))
      → after ≡ registers_after regs (run (shown s present) (instruction regs))
      → WrotePresent present s (writes_of (run (shown s present) (instruction regs))) left t
      → ((address : ℕ) (write : Bool) → stepped ≡ steps.Miss address write → ⊥) → Hits stepped
  hit_answer stepped answer registers wrote none =
      let whole = hit s present (instruction regs) (λ address write h. none address write (answer ∙ ap answer_of h)) in
      record {
        answer = answer ∙ ap answer_of whole.0;
        registers = registers ∙ ap (registers_after regs) whole.0;
        space = wrote_puts s t (writes_of (instruction_in s regs)) (subst (λ (r : Result Effect Refused). Wrote s (writes_of r) t) whole.0 wrote.wrote);
        pages = wrote.kept ∙ sym whole.1;
      }

-- the pages that an instruction touches
abbrev pub instruction_pages : Space → Regs → List Page
instruction_pages s regs = pages_of s (accesses (answers_of s) (instruction regs))

pub missed_from : (s t s₀ : Space) (first present kept more : List Page) (regs after regs₀ : Regs) (address : ℕ) (write : Bool)
    → Misses s t present kept regs after address write
    → s ≡ s₀ → regs ≡ regs₀ → gathered present (instruction_pages s₀ regs₀) ≡ gathered first (instruction_pages s₀ regs₀)
    → ((page : Page) → page_of_access t (access_of address write) ≡ Some page → more ≡ kept ++ page ∷ [])
    → Brought first present more (instruction_pages s₀ regs₀)
missed_from s t s₀ first present kept more regs after regs₀ address write misses space registers same pushed =
    brought s₀ t first present kept more (instruction_pages s₀ regs₀) address write (misses.space ∙ space) misses.pages
    (subst₂ (λ (x : Space) (y : Regs). Brings x present address write (instruction_pages x y)) space registers misses.brings) same pushed

pub hit_from : (s t s₀ : Space) (first present kept : List Page) (regs after regs₀ : Regs) (stepped : Stepped) → Hits s t present kept regs after stepped
    → s ≡ s₀ → regs ≡ regs₀ → gathered present (instruction_pages s₀ regs₀) ≡ gathered first (instruction_pages s₀ regs₀)
    → Hits s₀ t first kept regs₀ after stepped
hit_from s t s₀ first present kept regs after regs₀ stepped hits space registers same =
    let here = subst₂ (λ (x : Space) (y : Regs). Hits x t present kept y after stepped) space registers hits in
    record { answer = here.answer; registers = here.registers; space = here.space; pages = here.pages ∙ same }

-- What a call reads.

pub refused_then : {A B : Type 0} (memory : Answers) (p : Program A) (f : A → B) → refusal_of (run memory (p >>= λ x. Gives (f x))) ≡ refusal_of (run memory p)
refused_then {A = A} memory p f = ap refusal_of (run_bind memory p (λ x. Gives (f x))) ∙ go (run memory p)
  where
    go : (r : Result A Refused) → refusal_of (then r (λ x. run memory (Gives (f x)))) ≡ refusal_of r
    go (Ok x) = refl
    go (Err e) = refl

pub exit_reads : (memory : Answers) (regs : Regs) → refusal_of (run memory (exit_reply regs)) ≡ refusal_of (run memory (argument regs 1))
unfolding exit_reply
exit_reads memory regs = refused_then memory (argument regs 1) (λ code. Exits (code % 256 * 256))

pub break_reads : (memory : Answers) (s : Space) (regs : Regs) → refusal_of (run memory (break_reply s regs)) ≡ refusal_of (run memory (argument regs 1))
unfolding break_reply
break_reads memory s regs = refused_then memory (argument regs 1) (λ address. break_by (nat_le (pages_up_to s address) data_limit) regs (pages_up_to s address) (stack_pages_of s))

refused_so : {A : Type 0} (r : Result A Refused) (refused : Refused) → refusal_of r ≡ Err refused → r ≡ Err refused
refused_so (Ok x) refused h = absurd cc
refused_so {A = A} (Err e) refused h = let same : e ≡ refused = cc in ap (λ (x : Refused). Err x) same

pub missed_reads : {A : Type 0} (s : Space) (present : List Page) (p : Program A) (address : ℕ) (write : Bool) (asked : Result (Unit {0}) Refused)
    → asked ≡ refusal_of (run (shown s present) p) → asked ≡ Err (Miss address write) → Brings s present address write (pages_of s (accesses (answers_of s) p))
missed_reads s present p address write asked is h =
    missed s present p address write (refused_so (run (shown s present) p) (Miss address write) (sym is ∙ h))

pub hit_reads : {A : Type 0} (s : Space) (present : List Page) (p : Program A) (asked : Result (Unit {0}) Refused)
    → asked ≡ refusal_of (run (shown s present) p) → ((address : ℕ) (write : Bool) → asked ≡ Err (Miss address write) → ⊥)
    → present ≡ gathered present (pages_of s (accesses (answers_of s) p))
hit_reads s present p asked is none =
    sym (hit s present p (λ address write h. none address write (is ∙ ap refusal_of h))).1

-- from the first pages on, over the same space
pub hit_reads_from : {A : Type 0} (s s₀ : Space) (first present : List Page) (p : Program A) (asked : Result (Unit {0}) Refused)
    → asked ≡ refusal_of (run (shown s present) p) → ((address : ℕ) (write : Bool) → asked ≡ Err (Miss address write) → ⊥) → s ≡ s₀
    → gathered present (pages_of s₀ (accesses (answers_of s₀) p)) ≡ gathered first (pages_of s₀ (accesses (answers_of s₀) p))
    → present ≡ gathered first (pages_of s₀ (accesses (answers_of s₀) p))
hit_reads_from s s₀ first present p asked is none space same =
    subst (λ (x : Space). present ≡ gathered present (pages_of x (accesses (answers_of x) p))) space (hit_reads s present p asked is none) ∙ same

pub missed_reads_from : {A : Type 0} (s s₀ : Space) (first present more : List Page) (p : Program A) (address : ℕ) (write : Bool)
    (asked : Result (Unit {0}) Refused)
    → asked ≡ refusal_of (run (shown s present) p) → asked ≡ Err (Miss address write) → s ≡ s₀
    → gathered present (pages_of s₀ (accesses (answers_of s₀) p)) ≡ gathered first (pages_of s₀ (accesses (answers_of s₀) p))
    → ((page : Page) → page_of_access s (access_of address write) ≡ Some page → more ≡ present ++ page ∷ [])
    → Brought first present more (pages_of s₀ (accesses (answers_of s₀) p))
missed_reads_from s s₀ first present more p address write asked is h space same pushed =
    brought s₀ s first present present more (pages_of s₀ (accesses (answers_of s₀) p)) address write space refl
    (subst (λ (x : Space). Brings x present address write (pages_of x (accesses (answers_of x) p))) space (missed_reads s present p address write asked is h)) same pushed

-- Writes into present pages.

may_of : (b : Bool) (m : MayWrite) → test_where b m ≡ tests.May → m ≡ tests.May
may_of true m h = h
may_of false m h = absurd cc

pub present_may : (present : List Page) (s : Space) (address : ℕ) → (shown s present).may_write address ≡ tests.May
    → may_write_at (address_in s address) ≡ tests.May
present_may present s address h = may_of (is_shown present (page_tested s (address_in s address))) (may_write_at (address_in s address)) h

-- a byte that may be written is of a present page
may_there : (present : List Page) (s : Space) (spot : Spot) → test_where (is_shown present (page_tested s spot)) (may_write_at spot) ≡ tests.May
    → is_shown present (page_read s spot) ≡ true
may_there present s (Text i) h = absurd cc
may_there present s (Data i) h = go (is_among (pages.Data s.sid (i / 1024)) present) h
  where
    go : (b : Bool) → test_where b tests.May ≡ tests.May → b ≡ true
    go true k = refl
    go false k = absurd cc
may_there present s (Stack i) h = go (is_among (pages.Stack s.sid (i / 1024)) present) h
  where
    go : (b : Bool) → test_where b tests.May ≡ tests.May → b ≡ true
    go true k = refl
    go false k = absurd cc
may_there present s Below h = absurd cc
may_there present s Outside h = absurd cc

-- a write changes no page's name
pub read_kept : (s t : Space) (spot : Spot) → t.sid ≡ s.sid → t.image ≡ s.image → page_read t spot ≡ page_read s spot
read_kept s t (Text i) sids images = ap (λ (n : ℕ). Some (pages.Text n (i / 1024))) images
read_kept s t (Data i) sids images = ap (λ (n : ℕ). Some (pages.Data n (i / 1024))) sids
read_kept s t (Stack i) sids images = ap (λ (n : ℕ). Some (pages.Stack n (i / 1024))) sids
read_kept s t Below sids images = refl
read_kept s t Outside sids images = refl

pub tested_kept : (s t : Space) (spot : Spot) → t.sid ≡ s.sid → page_tested t spot ≡ page_tested s spot
tested_kept s t (Text i) sids = refl
tested_kept s t (Data i) sids = ap (λ (n : ℕ). Some (pages.Data n (i / 1024))) sids
tested_kept s t (Stack i) sids = ap (λ (n : ℕ). Some (pages.Stack n (i / 1024))) sids
tested_kept s t Below sids = refl
tested_kept s t Outside sids = refl

put_image : (s : Space) (spot : Spot) (byte : ℕ) → (put_at s spot byte).image ≡ s.image
put_image s (Text i) byte = refl
put_image s (Data i) byte = refl
put_image s (Stack i) byte = refl
put_image s Below byte = refl
put_image s Outside byte = refl

pub read_put : (s : Space) (w : ByteWrite) (a : ℕ) → page_read (put_in_space s w) (address_in (put_in_space s w) a) ≡ page_read s (address_in s a)
read_put s w a =
    ap (page_read (put_in_space s w)) (spot_after s (address_in s w.address) w.byte a)
    ∙ read_kept s (put_in_space s w) (address_in s a) (put_sid s (address_in s w.address) w.byte) (put_image s (address_in s w.address) w.byte)

pub tested_put : (s : Space) (w : ByteWrite) (a : ℕ) → page_tested (put_in_space s w) (address_in (put_in_space s w) a) ≡ page_tested s (address_in s a)
tested_put s w a =
    ap (page_tested (put_in_space s w)) (spot_after s (address_in s w.address) w.byte a)
    ∙ tested_kept s (put_in_space s w) (address_in s a) (put_sid s (address_in s w.address) w.byte)

byte_put : (present : List Page) (s : Space) (w : ByteWrite) (a : ℕ) → (shown s present).may_write w.address ≡ tests.May
    → read_where (is_shown present (page_read s (address_in s a))) (read_by (a == w.address) w.byte (byte_at s (address_in s a)))
    ≡ read_by (a == w.address) w.byte (read_where (is_shown present (page_read s (address_in s a))) (byte_at s (address_in s a)))
byte_put present s w a may = go (a == w.address) refl
  where
    go : (b : Bool) → (a == w.address) ≡ b
        → read_where (is_shown present (page_read s (address_in s a))) (read_by b w.byte (byte_at s (address_in s a)))
        ≡ read_by b w.byte (read_where (is_shown present (page_read s (address_in s a))) (byte_at s (address_in s a)))
    go true h =
        let same : a ≡ w.address = grind (arith, nat_tests) in
        ap (λ (b : Bool). read_where b (reads.Is w.byte))
        (ap (λ (x : ℕ). is_shown present (page_read s (address_in s x))) same ∙ may_there present s (address_in s w.address) may)
    go false h = refl

shown_put : (present : List Page) (s : Space) (w : ByteWrite) → MayPut s w.address → (shown s present).may_write w.address ≡ tests.May
    → shown (put_in_space s w) present ≡ put_in (shown s present) w
shown_put present s w may test = λ i. record {
  read = λ a. (
      ap (λ (o : Option Page). read_where (is_shown present o) (byte_at (put_in_space s w) (address_in (put_in_space s w) a))) (read_put s w a)
      ∙ ap (read_where (is_shown present (page_read s (address_in s a)))) (ap (λ (m : Answers). m.read a) (put_answers s w may))
      ∙ byte_put present s w a test
      ) i;
  may_write = λ a. (
      ap (λ (o : Option Page). test_where (is_shown present o) (may_write_at (address_in (put_in_space s w) a))) (tested_put s w a)
      ∙ ap (λ (spot : Spot). test_where (is_shown present (page_tested s (address_in s a))) (may_write_at spot)) (spot_after s (address_in s w.address) w.byte a)
      ) i;
}

pub present_put : (present : List Page) (s t : Space) (w : ByteWrite) → (shown s present).may_write w.address ≡ tests.May → Wrote s (w ∷ []) t
    → WrotePresent present s (w ∷ []) present t
present_put present s t w test h =
    subst (λ (x : Space). WrotePresent present s (w ∷ []) present x) h.1 (record { kept = refl; wrote = (h.0, refl); answers = shown_put present s w h.0 test })

-- A whole step: the instruction, and then what its call reads.

pub after_call : (images : List NamedImage) (F : FlatState) (p : Process) (s t : Space) (r : Result Effect Refused) (number : ℤ)
    (call : SystemCall) (regs : Regs)
    → steps.Call number ≡ answer_of r → call_of number ≡ Some call → regs ≡ registers_after p.regs r → t ≡ puts s (writes_of r)
    → accesses_after images F p s r
    ≡ accesses (answers_of t) (reply_of images (apply_writes F p.pid (writes_of r)) (written_process p s (writes_of r)) (puts s (writes_of r)) call regs)
after_call images F p s t (Ok effect) number call regs e found registers space = go effect.call e
  where
    go : (o : Option ℤ) → steps.Call number ≡ answer_of_call o
        → accesses_behind images F p s effect o ≡ accesses (answers_of t) (reply_of images (apply_writes F p.pid effect.writes) (written_process p s effect.writes) (puts s effect.writes) call regs)
    go None k = absurd cc
    go (Some other) k =
        let same : other ≡ number = cc in
        ap (call_accesses images F p s effect) (ap call_of same ∙ found)
        ∙ sym (ap₂ (λ (x : Space) (y : Regs). accesses (answers_of x) (reply_of images (apply_writes F p.pid effect.writes) (written_process p s effect.writes) (puts s effect.writes) call y)) space
        registers)
after_call images F p s t (Err (Miss a w)) number call regs e found registers space = absurd cc
after_call images F p s t (Err (Falls a)) number call regs e found registers space = absurd cc
after_call images F p s t (Err (Signal n)) number call regs e found registers space = absurd cc

puts_page : (s : Space) (ws : List ByteWrite) (access : ByteAccess) → page_of_access (puts s ws) access ≡ page_of_access s access
puts_page s [] access = refl
puts_page s (w ∷ ws) (ReadOf a) = puts_page (put_in_space s w) ws (ReadOf a) ∙ read_put s w a
puts_page s (w ∷ ws) (TestOf a) = puts_page (put_in_space s w) ws (TestOf a) ∙ tested_put s w a

pub puts_pages : (s : Space) (ws : List ByteWrite) (list : List ByteAccess) → pages_of (puts s ws) list ≡ pages_of s list
puts_pages s ws [] = refl
puts_pages s ws (access ∷ list) = ap₂ (λ (o : Option Page) (ps : List Page). cons_option o ps) (puts_page s ws access) (puts_pages s ws list)

pub stepped_pages : (images : List NamedImage) (F : FlatState) (p : Process) (s t : Space) (regs : Regs) (first present after : List Page) → p.regs ≡ regs
    → present ≡ gathered first (instruction_pages s regs) → t ≡ puts s (writes_of (instruction_in s regs))
    → after ≡ gathered present (pages_of t (accesses_after images F p s (instruction_in s regs)))
    → after ≡ gathered first (pages_of s (step_accesses images F p s))
unfolding step_accesses
stepped_pages images F p s t regs first present after same instr space rest =
    let more : List ByteAccess = accesses_after images F p s (instruction_in s regs) in
    rest
    ∙ ap (λ (x : Space). gathered present (pages_of x more)) space
    ∙ ap (gathered present) (puts_pages s (writes_of (instruction_in s regs)) more)
    ∙ ap (λ (ps : List Page). gathered ps (pages_of s more)) instr
    ∙ sym (gathered_more first (instruction_pages s regs) (pages_of s more))
    ∙ ap (gathered first) (sym (filter_map-append (page_of_access s) (accesses (answers_of s) (instruction regs)) more))
    ∙ ap (λ (x : Regs). gathered first (pages_of s (accesses (answers_of s) (instruction x) ++ accesses_after images F p s (instruction_in s x)))) (sym same)

-- the pages that a step touches from none on
pub touched_held : (images : List NamedImage) (F : FlatState) (p : Process) (h : Holding) (s t : Space) (first list : List Page) → h ≡ Holds s → t ≡ s
    → first ≡ []
    → list ≡ gathered first (pages_of t (step_accesses images F p t)) → list ≡ touched_in images F p h
touched_held images F p h s t first list held space none is =
    is
    ∙ ap (λ (x : Space). gathered first (pages_of x (step_accesses images F p x))) space
    ∙ ap (λ (ps : List Page). gathered ps (pages_of s (step_accesses images F p s))) none
    ∙ gathered_distinct (pages_of s (step_accesses images F p s))
    ∙ sym (ap (touched_in images F p) held)
