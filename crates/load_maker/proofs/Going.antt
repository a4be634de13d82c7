-- What the next step of a process at a stage is.
use Rattle.std.proofs.Common.{◌≡◌, ℕ, zero, suc, ◌+◌, ◌-◌, ◌*◌, ◌%◌, ◌^◌, ◌<◌, ◌==◌, Bool, true, false, List, [], ◌∷◌, length, None, Result, refl, sym, ap, ◌∙◌, subst, arith}
use Rattle.std.specs.Prelude.{if◌then◌else◌}
use Rattle.std.proofs.lemmas.Bool.Decides.{nat_tests}
use Rattle.vm_facts.specs.declared.regs.Regs.{Regs}
use Rattle.vm_facts.specs.declared.entry.Entry.TheVariants as entries
use Rattle.vax_alu.specs.declared.Sum.{Sum}
use Rattle.vax_alu.specs.Results.{sum_of, difference_of}
use Rattle.user_vax.specs.Effects.{Effect}
use Rattle.user_vax.specs.declared.refused.Refused.{Refused}
use Rattle.flat_state.specs.Space.{Space, puts}
use Rattle.flat_state.specs.Flat.{Holds, Process, FlatState, NamedImage}
use Rattle.flat_state.specs.declared.change.Change.TheVariants.{Keep}
use Rattle.flat_model.specs.Instruction.{instruction_in}
use Rattle.flat_model.specs.Step.{Step, step_of}
use Rattle.load_maker.specs.Stages.{LoadProgram, W, V, Stage, program_of, text_page, stage_address, data_pages, rounds_at, Bank, file, Says, AreLongwords, HasRounds, HasPages, is_first, IsAt, BeforeBreak, AtBreak, AtParting, AtBegin, AtRound, AtCount, AtChange, AtMove, AtPageEnd, AtRoundEnd, AtWait, BeforeWrite, AtWrite, BeforeExit, AtExit, BeforeExecve, AtExecve}
use Rattle.load_maker.proofs.Numbers.{Fallen, fallen, risen, page_word}
use Rattle.load_maker.proofs.Spaces.{SameSizes, puts_sizes, text_long, has_word}
use Rattle.load_maker.proofs.Instructions as code
use Rattle.std.specs.Int.{w32, from_le_bytes}
use Rattle.aout_image.specs.Image.{word_bytes}
use Rattle.load_maker.proofs.Instructions.{space_of, regs_of, stored, HasWord, Leaves, Alters}

-- ---- the space and the registers of a process at a stage

pub same_space : (pages : ℕ) (t : LoadProgram) (s : Space) → s.text_bytes ≡ text_page pages t → s ≡ space_of pages t s.sid s.image s.data_bytes s.stack_bytes
unfolding space_of
same_space pages t s e = ap (λ (bytes : List ℕ). let x : Space = record s { text_bytes = bytes } in x) e

pub same_regs : (b : Bank) (pc : ℕ) (r : Regs) → r.r ≡ file b pc → r ≡ regs_of b pc r.n r.z r.v r.c
unfolding regs_of
same_regs b pc r e = ap (λ (rs : List ℕ). let x : Regs = record r { r = rs } in x) e

-- the instruction that comes next, over the space and the registers as they are known
abbrev pub known : ℕ → LoadProgram → ℕ → Process → Space → Bank → Result Effect Refused
known pages t pc p s b =
    let r : Regs = p.regs in instruction_in (space_of pages t s.sid s.image s.data_bytes s.stack_bytes) (regs_of b pc r.n r.z r.v r.c)

pub known_is : (pages : ℕ) (k : Stage) (p : Process) (at : IsAt pages k p)
    → instruction_in at.space p.regs ≡ known pages (program_of k) (stage_address k) p at.space at.bank
known_is pages k p at =
    ap (λ (s : Space). instruction_in s p.regs) (same_space pages (program_of k) at.space at.text)
    ∙ ap (instruction_in (space_of pages (program_of k) (let s : Space = at.space in s.sid) (let s : Space = at.space in s.image) (let s : Space = at.space in s.data_bytes)
    (let s : Space = at.space in s.stack_bytes)))
    (same_regs at.bank (stage_address k) p.regs at.registers)

-- ---- a process that goes on

-- a process once it made a step, which keeps its space: its registers are the step's, and its writes are in the space
abbrev pub gone_on : Process → Space → Step → Process
gone_on p s S = record p { regs = S.regs; holding = Holds (puts s S.writes) }

pub record Ran (p : Process) (S : Step) (b : Bank) (pc : ℕ) : Type 0 where
  pub entries : S.entries ≡ entries.Ran p.pid 1 ∷ []
  pub change : S.change ≡ Keep
  pub regs : (let r : Regs = S.regs in r.r) ≡ file b pc

ran_of : (images : List NamedImage) (F : FlatState) (p : Process) (s : Space) (r : Result Effect Refused) (b : Bank) (pc : ℕ) → Leaves r b pc None
    → Ran p (step_of images F p s false r) b pc
unfolding regs_of
ran_of images F p s r b pc l =
    subst (λ (x : Result Effect Refused). Ran p (step_of images F p s false x) b pc) (sym l.is) (record { entries = refl; change = refl; regs = refl })

altered_of : (images : List NamedImage) (F : FlatState) (p : Process) (s : Space) (r : Result Effect Refused) (b : Bank) (pc a : ℕ) → Alters r b pc a
    → Ran p (step_of images F p s false r) b pc
unfolding regs_of
altered_of images F p s r b pc a l =
    subst (λ (x : Result Effect Refused). Ran p (step_of images F p s false x) b pc) (sym l.is) (record { entries = refl; change = refl; regs = refl })

-- a process at one stage, whose text and data are those of another
pub record Alike (pages : ℕ) (k new : Stage) : Type 0 where
  pub text : program_of new ≡ program_of k
  pub size : data_pages pages new ≡ data_pages pages k
  pub first : is_first new ≡ true → is_first k ≡ true

pub goes_to : (pages : ℕ) (k new : Stage) (p : Process) (at : IsAt pages k p) (S : Step) (b : Bank) → Alike pages k new
    → (let r : Regs = S.regs in r.r) ≡ file b (stage_address new) → AreLongwords b → Says pages new b → p.asleep ≡ false
    → IsAt pages new (gone_on p at.space S)
goes_to pages k new p at S b alike regs longwords says awake =
    let z : SameSizes at.space (puts at.space S.writes) = puts_sizes S.writes at.space in
    record {
      space = puts at.space S.writes;
      bank = b;
      holds = refl;
      text = z.text ∙ at.text ∙ ap (text_page pages) (sym alike.text);
      size = z.size ∙ at.size ∙ ap (λ (n : ℕ). 1024 * n) (sym alike.size);
      stack = z.stack ∙ at.stack;
      registers = regs;
      longwords = longwords;
      says = says;
      orphan = λ f. at.orphan (alike.first f);
      awake = λ w. awake;
    }

-- ---- longwords

pub stored_is : (old value : ℕ) → old < 2 ^ 32 → value < 2 ^ 32 → stored old value ≡ value
unfolding stored
stored_is old value a b = omega arith

low_is : (x : ℕ) → x < 2 ^ 32 → x % 256 ^ 4 ≡ x
low_is x a = omega arith

-- ---- one instruction, by the stage

-- the next step of a process at a stage
abbrev pub step_from : List NamedImage → FlatState → (p : Process) → Space → Step
step_from images F p s = step_of images F p s false (instruction_in s p.regs)

-- an instruction ran, and the process stands at a new stage
pub record Kept (images : List NamedImage) (F : FlatState) (pages : ℕ) (p : Process) (s : Space) (new : Stage) : Type 0 where
  pub entries : (step_from images F p s).entries ≡ entries.Ran p.pid 1 ∷ []
  pub change : (step_from images F p s).change ≡ Keep
  pub stands : IsAt pages new (gone_on p s (step_from images F p s))

kept_ran : (images : List NamedImage) (F : FlatState) (pages : ℕ) (k new : Stage) (p : Process) (at : IsAt pages k p) (b : Bank) → Alike pages k new
    → Ran p (step_of images F p at.space false (known pages (program_of k) (stage_address k) p at.space at.bank)) b (stage_address new)
    → AreLongwords b → Says pages new b → p.asleep ≡ false → Kept images F pages p at.space new
kept_ran images F pages k new p at b alike ran longwords says awake =
    let r : Ran p (step_from images F p at.space) b (stage_address new) =
    subst (λ (x : Result Effect Refused). Ran p (step_of images F p at.space false x) b (stage_address new)) (sym (known_is pages k p at)) ran in
    record { entries = r.entries; change = r.change; stands = goes_to pages k new p at (step_from images F p at.space) b alike r.regs longwords says awake }

kept_by : (images : List NamedImage) (F : FlatState) (pages : ℕ) (k new : Stage) (p : Process) (at : IsAt pages k p) (b : Bank) → Alike pages k new
    → Leaves (known pages (program_of k) (stage_address k) p at.space at.bank) b (stage_address new) None → AreLongwords b → Says pages new b → p.asleep ≡ false
    → Kept images F pages p at.space new
kept_by images F pages k new p at b alike l longwords says awake =
    kept_ran images F pages k new p at b alike (ran_of images F p at.space (known pages (program_of k) (stage_address k) p at.space at.bank) b (stage_address new) l) longwords says awake

with_ap : (b : Bank) (value : ℕ) → AreLongwords b → value < 2 ^ 32 → AreLongwords (record b { ap = stored b.ap value })
with_ap b value l v = let e = stored_is b.ap value l.ap v in record { r3 = l.r3; r4 = l.r4; r5 = l.r5; ap = omega (arith, e, v) }

with_r3 : (b : Bank) (value : ℕ) → AreLongwords b → value < 2 ^ 32 → AreLongwords (record b { r3 = stored b.r3 value })
with_r3 b value l v = let e = stored_is b.r3 value l.r3 v in record { r3 = omega (arith, e, v); r4 = l.r4; r5 = l.r5; ap = l.ap }

with_r4 : (b : Bank) (value : ℕ) → AreLongwords b → value < 2 ^ 32 → AreLongwords (record b { r4 = stored b.r4 value })
with_r4 b value l v = let e = stored_is b.r4 value l.r4 v in record { r3 = l.r3; r4 = omega (arith, e, v); r5 = l.r5; ap = l.ap }

pub will_break : (images : List NamedImage) (F : FlatState) (pages : ℕ) (p : Process) (at : IsAt pages (BeforeBreak) p) → p.asleep ≡ false
    → Kept images F pages p at.space (AtBreak)
will_break images F pages p at awake =
    let b : Bank = at.bank in let l : AreLongwords b = at.longwords in let s : Space = at.space in let r : Regs = p.regs in
    kept_by images F pages (BeforeBreak) (AtBreak) p at (record b { ap = stored b.ap 0xA0 }) (record { text = refl; size = refl; first = λ h. h })
    (code.w_will_break pages s.sid s.image s.data_bytes s.stack_bytes at.bank r.n r.z r.v r.c)
    (with_ap b 0xA0 l (omega arith)) (stored_is b.ap 0xA0 l.ap (omega arith)) awake

pub will_run : (images : List NamedImage) (F : FlatState) (pages : ℕ) (p : Process) (at : IsAt pages (BeforeExecve) p) → p.asleep ≡ false
    → Kept images F pages p at.space (AtExecve)
will_run images F pages p at awake =
    let b : Bank = at.bank in let l : AreLongwords b = at.longwords in let s : Space = at.space in let r : Regs = p.regs in
    kept_by images F pages (BeforeExecve) (AtExecve) p at (record b { ap = stored b.ap 0xC0 }) (record { text = refl; size = refl; first = λ h. absurd cc })
    (code.w_will_run pages s.sid s.image s.data_bytes s.stack_bytes at.bank r.n r.z r.v r.c)
    (with_ap b 0xC0 l (omega arith)) (stored_is b.ap 0xC0 l.ap (omega arith)) awake

module _ (images : List NamedImage) (F : FlatState) (pages : ℕ) (t : LoadProgram) (p : Process) where
  pub will_write : (at : IsAt pages (BeforeWrite t) p) → p.asleep ≡ false → Kept images F pages p at.space (AtWrite t)
  will_write at awake =
      let b : Bank = at.bank in let l : AreLongwords b = at.longwords in let s : Space = at.space in let r : Regs = p.regs in
      kept_by images F pages (BeforeWrite t) (AtWrite t) p at (record b { ap = stored b.ap 0xA8 }) (record { text = refl; size = refl; first = λ h. absurd cc })
      (code.will_write t pages s.sid s.image s.data_bytes s.stack_bytes at.bank r.n r.z r.v r.c)
      (with_ap b 0xA8 l (omega arith)) (stored_is b.ap 0xA8 l.ap (omega arith)) awake

  pub will_exit : (at : IsAt pages (BeforeExit t) p) → p.asleep ≡ false → Kept images F pages p at.space (AtExit t)
  will_exit at awake =
      let b : Bank = at.bank in let l : AreLongwords b = at.longwords in let s : Space = at.space in let r : Regs = p.regs in
      kept_by images F pages (BeforeExit t) (AtExit t) p at (record b { ap = stored b.ap 0xB8 }) (record { text = refl; size = refl; first = λ h. absurd cc })
      (code.will_exit t pages s.sid s.image s.data_bytes s.stack_bytes at.bank r.n r.z r.v r.c)
      (with_ap b 0xB8 l (omega arith)) (stored_is b.ap 0xB8 l.ap (omega arith)) awake

  pub begins : (at : IsAt pages (AtBegin t) p) → p.asleep ≡ false → Kept images F pages p at.space (AtRound t 29)
  begins at awake =
      let b : Bank = at.bank in let l : AreLongwords b = at.longwords in let s : Space = at.space in let r : Regs = p.regs in
      kept_by images F pages (AtBegin t) (AtRound t 29) p at (record b { r3 = stored b.r3 30 }) (record { text = refl; size = refl; first = λ h. h })
      (code.begins t pages s.sid s.image s.data_bytes s.stack_bytes at.bank r.n r.z r.v r.c)
      (with_r3 b 30 l (omega arith)) (record { some = omega arith; counted = stored_is b.r3 30 l.r3 (omega arith) }) awake

pub rounds : (images : List NamedImage) (F : FlatState) (pages : ℕ) (t : LoadProgram) (left : ℕ) (p : Process) (at : IsAt pages (AtRound t left) p)
    → p.asleep ≡ false → Kept images F pages p at.space (AtCount t left)
rounds images F pages t left p at awake =
    let b : Bank = at.bank in let l : AreLongwords b = at.longwords in let s : Space = at.space in let r : Regs = p.regs in
    let h : HasRounds left b = at.says in kept_by images F pages (AtRound t left) (AtCount t left) p at (record b { r4 = stored b.r4 1024 })
    (record { text = refl; size = refl; first = λ h. h })
    (code.rounds t pages s.sid s.image s.data_bytes s.stack_bytes at.bank r.n r.z r.v r.c)
    (with_r4 b 1024 l (omega arith)) ((record { some = h.some; counted = h.counted }, stored_is b.r4 1024 l.r4 (omega arith))) awake

pub loads : (images : List NamedImage) (F : FlatState) (pages : ℕ) (t : LoadProgram) (left : ℕ) (p : Process) (at : IsAt pages (AtCount t left) p) → 0 < pages
    → pages < 65
    → p.asleep ≡ false → Kept images F pages p at.space (AtChange t left (pages - 1))
loads images F pages t left p at some few awake =
    let b : Bank = at.bank in let l : AreLongwords b = at.longwords in let s : Space = at.space in let r : Regs = p.regs in
    let h : HasRounds left b × (b.r4 ≡ 1024) = at.says in let round : HasRounds left b = h.0 in
    let word : from_le_bytes w32 (word_bytes pages) ≡ pages = page_word pages few in
    let is : stored b.r5 (from_le_bytes w32 (word_bytes pages)) ≡ pages = ap (stored b.r5) word ∙ stored_is b.r5 pages l.r5 (omega (arith, few)) in
    kept_by images F pages (AtCount t left) (AtChange t left (pages - 1)) p at (record b { r5 = stored b.r5 (from_le_bytes w32 (word_bytes pages)) })
    (record { text = refl; size = refl; first = λ h. h })
    (code.loads t pages s.sid s.image s.data_bytes s.stack_bytes at.bank r.n r.z r.v r.c)
    (record { r3 = l.r3; r4 = l.r4; r5 = omega (arith, is, few); ap = l.ap })
    (record {
      round = record { some = round.some; counted = round.counted };
      some = omega (arith, some);
      counted = omega (arith, is, some);
      address = page_one pages b.r4 some h.1;
    }) awake
  where
    page_one : (n a : ℕ) → 0 < n → a ≡ 1024 → a ≡ 1024 * (n - (n - 1))
    page_one n a lt e = omega (arith, lt, e)

word_at : (pages more : ℕ) (t : LoadProgram) (sid image : ℕ) (bytes stack : List ℕ) (a : ℕ) → length bytes ≡ 1024 * pages → a ≡ 1024 * (pages - more)
    → more < pages → pages < 65
    → HasWord (space_of pages t sid image bytes stack) a
unfolding space_of
word_at pages more t sid image bytes stack a long is lt few =
    has_word (space_of pages t sid image bytes stack) a (text_long pages t) (omega (arith, is, lt)) (omega (arith, is, lt, long)) (omega (arith, is, few))

pub changes : (images : List NamedImage) (F : FlatState) (pages : ℕ) (t : LoadProgram) (left more : ℕ) (p : Process) (at : IsAt pages (AtChange t left more) p)
    → pages < 65
    → p.asleep ≡ false → Kept images F pages p at.space (AtMove t left more)
changes images F pages t left more p at few awake =
    let b : Bank = at.bank in let l : AreLongwords b = at.longwords in let s : Space = at.space in let r : Regs = p.regs in
    let h : HasPages pages left more (pages - more) b = at.says in let round : HasRounds left b = h.round in
    let there : HasWord (space_of pages t s.sid s.image s.data_bytes s.stack_bytes) b.r4 = word_at pages more t s.sid s.image s.data_bytes s.stack_bytes b.r4 at.size h.address h.some few in
    kept_ran images F pages (AtChange t left more) (AtMove t left more) p at b (record { text = refl; size = refl; first = λ h. h })
    (altered_of images F p s (known pages t (rounds_at t + 17) p s b) b (rounds_at t + 19) b.r4 (code.changes t pages s.sid s.image s.data_bytes s.stack_bytes b r.n r.z r.v r.c there))
    l (record { round = record { some = round.some; counted = round.counted }; some = h.some; counted = h.counted; address = h.address }) awake

pub moves : (images : List NamedImage) (F : FlatState) (pages : ℕ) (t : LoadProgram) (left more : ℕ) (p : Process) (at : IsAt pages (AtMove t left more) p)
    → pages < 65
    → p.asleep ≡ false → Kept images F pages p at.space (AtPageEnd t left more)
moves images F pages t left more p at few awake =
    let b : Bank = at.bank in let l : AreLongwords b = at.longwords in let s : Space = at.space in let r : Regs = p.regs in
    let h : HasPages pages left more (pages - more) b = at.says in let round : HasRounds left b = h.round in
    let is : stored b.r4 (after b.r4) ≡ 1024 * (pages - more + 1) = next b.r4 (pages - more) h.address (omega (arith, few)) l.r4 in
    kept_by images F pages (AtMove t left more) (AtPageEnd t left more) p at (record b { r4 = stored b.r4 (after b.r4) }) (record { text = refl; size = refl; first = λ h. h })
    (code.moves t pages s.sid s.image s.data_bytes s.stack_bytes at.bank r.n r.z r.v r.c)
    (record { r3 = l.r3; r4 = omega (arith, is, few); r5 = l.r5; ap = l.ap })
    (record { round = record { some = round.some; counted = round.counted }; some = h.some; counted = h.counted; address = is }) awake
  where
    after : ℕ → ℕ
    after a = let sum : Sum = sum_of (a % 256 ^ 4) 0x400 in sum.value

    next : (a at : ℕ) → a ≡ 1024 * at → at < 65 → a < 2 ^ 32 → stored a (after a) ≡ 1024 * (at + 1)
    next a at e lt small =
        let low : a % 256 ^ 4 ≡ 1024 * at = low_is a small ∙ e in
        let sum : after a ≡ 1024 * (at + 1) = ap (λ (x : ℕ). let r : Sum = sum_of x 0x400 in r.value) low ∙ risen at lt in
        ap (stored a) sum ∙ stored_is a (1024 * (at + 1)) small (omega (arith, lt))

-- what an index in a register is, once it went down
index_falls : (x left : ℕ) → x ≡ left + 1 → left < 65 → difference_of (x % 256 ^ 4) 1 ≡ difference_of (left + 1) 1
index_falls x left e lt = ap (λ (y : ℕ). difference_of y 1) (low_is x (omega (arith, e, lt)) ∙ e)

suc_not : (n : ℕ) → (suc n == 0) ≡ false
suc_not n = grind (arith, nat_tests)

pub closes_on : (images : List NamedImage) (F : FlatState) (pages : ℕ) (t : LoadProgram) (left more : ℕ) (p : Process)
    (at : IsAt pages (AtPageEnd t left (suc more)) p) → pages < 65
    → p.asleep ≡ false → Kept images F pages p at.space (AtChange t left more)
closes_on images F pages t left more p at few awake =
    let b : Bank = at.bank in let l : AreLongwords b = at.longwords in let s : Space = at.space in let r : Regs = p.regs in
    let h : HasPages pages left (suc more) (pages - suc more + 1) b = at.says in let round : HasRounds left b = h.round in
    let lt : suc more < 65 = omega (arith, h.some, few) in
    let f : Fallen (difference_of (suc more + 1) 1) (suc more) = fallen (suc more) lt in
    let sum : Sum = difference_of (b.r5 % 256 ^ 4) 1 in
    let same : difference_of (b.r5 % 256 ^ 4) 1 ≡ difference_of (suc more + 1) 1 = index_falls b.r5 (suc more) h.counted lt in
    let value : (let x : Sum = difference_of (b.r5 % 256 ^ 4) 1 in x.value) ≡ suc more = ap (λ (x : Sum). x.value) same ∙ f.value in
    let is : stored b.r5 (let x : Sum = difference_of (b.r5 % 256 ^ 4) 1 in x.value) ≡ suc more = ap (stored b.r5) value ∙ stored_is b.r5 (suc more) l.r5 (omega (arith, lt)) in
    kept_by images F pages (AtPageEnd t left (suc more)) (AtChange t left more) p at (record b { r5 = stored b.r5 (let x : Sum = difference_of (b.r5 % 256 ^ 4) 1 in x.value) })
    (record { text = refl; size = refl; first = λ h. h })
    (subst (λ (x : Result Effect Refused). Leaves x (record b { r5 = stored b.r5 (let x : Sum = difference_of (b.r5 % 256 ^ 4) 1 in x.value) }) (rounds_at t + 17) None)
    (sym (code.closes t pages s.sid s.image s.data_bytes s.stack_bytes at.bank r.n r.z r.v r.c))
    (code.five_on b (rounds_at t + 29) (rounds_at t + 17) r.n r.z r.v r.c sum (ap (λ (x : Sum). x.n) same ∙ f.n) (ap (λ (x : Sum). x.z) same ∙ (f.z ∙ suc_not more))))
    (record { r3 = l.r3; r4 = l.r4; r5 = omega (arith, is, lt); ap = l.ap })
    (record { round = record { some = round.some; counted = round.counted }; some = omega (arith, h.some); counted = omega (arith, is); address = back b.r4 h.address h.some }) awake
  where
    back : (a : ℕ) → a ≡ 1024 * (pages - suc more + 1) → suc more < pages → a ≡ 1024 * (pages - more)
    back a e lt = omega (arith, e, lt)

pub closes_off : (images : List NamedImage) (F : FlatState) (pages : ℕ) (t : LoadProgram) (left : ℕ) (p : Process) (at : IsAt pages (AtPageEnd t left zero) p)
    → p.asleep ≡ false → Kept images F pages p at.space (AtRoundEnd t left)
closes_off images F pages t left p at awake =
    let b : Bank = at.bank in let l : AreLongwords b = at.longwords in let s : Space = at.space in let r : Regs = p.regs in
    let h : HasPages pages left 0 (pages - 0 + 1) b = at.says in let round : HasRounds left b = h.round in
    let f : Fallen (difference_of 1 1) 0 = fallen 0 (omega arith) in
    let sum : Sum = difference_of (b.r5 % 256 ^ 4) 1 in
    let same : difference_of (b.r5 % 256 ^ 4) 1 ≡ difference_of 1 1 = index_falls b.r5 0 h.counted (omega arith) in
    let value : (let x : Sum = difference_of (b.r5 % 256 ^ 4) 1 in x.value) ≡ 0 = ap (λ (x : Sum). x.value) same ∙ f.value in
    let is : stored b.r5 (let x : Sum = difference_of (b.r5 % 256 ^ 4) 1 in x.value) ≡ 0 = ap (stored b.r5) value ∙ stored_is b.r5 0 l.r5 (omega arith) in
    kept_by images F pages (AtPageEnd t left zero) (AtRoundEnd t left) p at (record b { r5 = stored b.r5 (let x : Sum = difference_of (b.r5 % 256 ^ 4) 1 in x.value) })
    (record { text = refl; size = refl; first = λ h. h })
    (subst (λ (x : Result Effect Refused). Leaves x (record b { r5 = stored b.r5 (let x : Sum = difference_of (b.r5 % 256 ^ 4) 1 in x.value) }) (rounds_at t + 29) None)
    (sym (code.closes t pages s.sid s.image s.data_bytes s.stack_bytes at.bank r.n r.z r.v r.c))
    (code.five_off b (rounds_at t + 29) (rounds_at t + 17) r.n r.z r.v r.c sum (ap (λ (x : Sum). x.n) same ∙ f.n) (ap (λ (x : Sum). x.z) same ∙ f.z)))
    (record { r3 = l.r3; r4 = l.r4; r5 = omega (arith, is); ap = l.ap })
    (record { some = round.some; counted = round.counted }) awake

pub repeats_on : (images : List NamedImage) (F : FlatState) (pages : ℕ) (t : LoadProgram) (left : ℕ) (p : Process) (at : IsAt pages (AtRoundEnd t (suc left)) p)
    → p.asleep ≡ false → Kept images F pages p at.space (AtRound t left)
repeats_on images F pages t left p at awake =
    let b : Bank = at.bank in let l : AreLongwords b = at.longwords in let s : Space = at.space in let r : Regs = p.regs in
    let round : HasRounds (suc left) b = at.says in
    let lt : suc left < 65 = omega (arith, round.some) in
    let f : Fallen (difference_of (suc left + 1) 1) (suc left) = fallen (suc left) lt in
    let sum : Sum = difference_of (b.r3 % 256 ^ 4) 1 in
    let same : difference_of (b.r3 % 256 ^ 4) 1 ≡ difference_of (suc left + 1) 1 = index_falls b.r3 (suc left) round.counted lt in
    let value : (let x : Sum = difference_of (b.r3 % 256 ^ 4) 1 in x.value) ≡ suc left = ap (λ (x : Sum). x.value) same ∙ f.value in
    let is : stored b.r3 (let x : Sum = difference_of (b.r3 % 256 ^ 4) 1 in x.value) ≡ suc left = ap (stored b.r3) value ∙ stored_is b.r3 (suc left) l.r3 (omega (arith, lt)) in
    kept_by images F pages (AtRoundEnd t (suc left)) (AtRound t left) p at (record b { r3 = stored b.r3 (let x : Sum = difference_of (b.r3 % 256 ^ 4) 1 in x.value) })
    (record { text = refl; size = refl; first = λ h. h })
    (subst (λ (x : Result Effect Refused). Leaves x (record b { r3 = stored b.r3 (let x : Sum = difference_of (b.r3 % 256 ^ 4) 1 in x.value) }) (rounds_at t + 3) None)
    (sym (code.repeats t pages s.sid s.image s.data_bytes s.stack_bytes at.bank r.n r.z r.v r.c))
    (code.three_on b (code.end_or t) (rounds_at t + 3) r.n r.z r.v r.c sum (ap (λ (x : Sum). x.n) same ∙ f.n) (ap (λ (x : Sum). x.z) same ∙ (f.z ∙ suc_not left))))
    (record { r3 = omega (arith, is, lt); r4 = l.r4; r5 = l.r5; ap = l.ap })
    (record { some = omega (arith, round.some); counted = omega (arith, is) }) awake

-- the stage after a program's rounds
abbrev pub after_rounds : LoadProgram → Stage
after_rounds W = AtWait
after_rounds V = BeforeWrite V

pub repeats_off : (images : List NamedImage) (F : FlatState) (pages : ℕ) (t : LoadProgram) (p : Process) (at : IsAt pages (AtRoundEnd t zero) p)
    → p.asleep ≡ false → Kept images F pages p at.space (after_rounds t)
repeats_off images F pages W p at awake =
    let b : Bank = at.bank in let l : AreLongwords b = at.longwords in let s : Space = at.space in let r : Regs = p.regs in
    let round : HasRounds 0 b = at.says in
    let f : Fallen (difference_of 1 1) 0 = fallen 0 (omega arith) in
    let sum : Sum = difference_of (b.r3 % 256 ^ 4) 1 in
    let same : difference_of (b.r3 % 256 ^ 4) 1 ≡ difference_of 1 1 = index_falls b.r3 0 round.counted (omega arith) in
    let value : (let x : Sum = difference_of (b.r3 % 256 ^ 4) 1 in x.value) ≡ 0 = ap (λ (x : Sum). x.value) same ∙ f.value in
    let is : stored b.r3 (let x : Sum = difference_of (b.r3 % 256 ^ 4) 1 in x.value) ≡ 0 = ap (stored b.r3) value ∙ stored_is b.r3 0 l.r3 (omega arith) in
    kept_by images F pages (AtRoundEnd W zero) AtWait p at (record b { r3 = stored b.r3 (let x : Sum = difference_of (b.r3 % 256 ^ 4) 1 in x.value) })
    (record { text = refl; size = refl; first = λ h. h })
    (subst (λ (x : Result Effect Refused). Leaves x (record b { r3 = stored b.r3 (let x : Sum = difference_of (b.r3 % 256 ^ 4) 1 in x.value) }) 0x30 None)
    (sym (code.repeats W pages s.sid s.image s.data_bytes s.stack_bytes at.bank r.n r.z r.v r.c))
    (code.three_off b 0x30 (rounds_at W + 3) r.n r.z r.v r.c sum (ap (λ (x : Sum). x.n) same ∙ f.n) (ap (λ (x : Sum). x.z) same ∙ f.z)))
    (record { r3 = omega (arith, is); r4 = l.r4; r5 = l.r5; ap = l.ap })
    tt awake
repeats_off images F pages V p at awake =
    let b : Bank = at.bank in let l : AreLongwords b = at.longwords in let s : Space = at.space in let r : Regs = p.regs in
    let round : HasRounds 0 b = at.says in
    let f : Fallen (difference_of 1 1) 0 = fallen 0 (omega arith) in
    let sum : Sum = difference_of (b.r3 % 256 ^ 4) 1 in
    let same : difference_of (b.r3 % 256 ^ 4) 1 ≡ difference_of 1 1 = index_falls b.r3 0 round.counted (omega arith) in
    let value : (let x : Sum = difference_of (b.r3 % 256 ^ 4) 1 in x.value) ≡ 0 = ap (λ (x : Sum). x.value) same ∙ f.value in
    let is : stored b.r3 (let x : Sum = difference_of (b.r3 % 256 ^ 4) 1 in x.value) ≡ 0 = ap (stored b.r3) value ∙ stored_is b.r3 0 l.r3 (omega arith) in
    kept_by images F pages (AtRoundEnd V zero) (BeforeWrite V) p at (record b { r3 = stored b.r3 (let x : Sum = difference_of (b.r3 % 256 ^ 4) 1 in x.value) })
    (record { text = refl; size = refl; first = λ h. absurd cc })
    (subst (λ (x : Result Effect Refused). Leaves x (record b { r3 = stored b.r3 (let x : Sum = difference_of (b.r3 % 256 ^ 4) 1 in x.value) }) 0x22 None)
    (sym (code.repeats V pages s.sid s.image s.data_bytes s.stack_bytes at.bank r.n r.z r.v r.c))
    (code.three_off b 0x22 (rounds_at V + 3) r.n r.z r.v r.c sum (ap (λ (x : Sum). x.n) same ∙ f.n) (ap (λ (x : Sum). x.z) same ∙ f.z)))
    (record { r3 = omega (arith, is); r4 = l.r4; r5 = l.r5; ap = l.ap })
    tt awake

-- ---- after the fork

pub parts : (images : List NamedImage) (F : FlatState) (pages : ℕ) (child : Bool) (p : Process) (at : IsAt pages (AtParting child) p) → p.asleep ≡ false
    → Kept images F pages p at.space (if child then BeforeExecve else AtBegin W)
parts images F pages true p at awake =
    let b : Bank = at.bank in let l : AreLongwords b = at.longwords in let s : Space = at.space in let r : Regs = p.regs in
    kept_by images F pages (AtParting true) BeforeExecve p at b (record { text = refl; size = refl; first = λ h. absurd cc })
    (subst (λ (x : ℕ). Leaves (instruction_in (space_of pages W s.sid s.image s.data_bytes s.stack_bytes) (regs_of (record b { r1 = x }) 0x0d r.n r.z r.v r.c)) (record b { r1 = x }) 0x46
    None) (sym at.says)
    (code.w_parts_1 pages s.sid s.image s.data_bytes s.stack_bytes at.bank r.n r.z r.v r.c)) l tt awake
parts images F pages false p at awake =
    let b : Bank = at.bank in let l : AreLongwords b = at.longwords in let s : Space = at.space in let r : Regs = p.regs in
    kept_by images F pages (AtParting false) (AtBegin W) p at b (record { text = refl; size = refl; first = λ h. refl })
    (subst (λ (x : ℕ). Leaves (instruction_in (space_of pages W s.sid s.image s.data_bytes s.stack_bytes) (regs_of (record b { r1 = x }) 0x0d r.n r.z r.v r.c)) (record b { r1 = x }) 0x10
    None) (sym at.says)
    (code.w_parts_0 pages s.sid s.image s.data_bytes s.stack_bytes at.bank r.n r.z r.v r.c)) l tt awake
