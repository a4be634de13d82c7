-- Where a process of a load's workload is in its program, and what it has there. The pages are those that each program changes.
use Rattle.std.specs.Prelude.{◌≡◌, ℕ, ◌+◌, ◌-◌, ◌*◌, ◌^◌, ◌<◌, Bool, true, false, List, [], ◌∷◌, length}
use Rattle.aout_image.specs.Image.{in_pages}
use Rattle.vm_facts.specs.declared.regs.Regs.{Regs}
use Rattle.flat_state.specs.Space.{Space}
use Rattle.flat_state.specs.Flat.{Holds, Zombie, Process}
use Rattle.load_maker.specs.Programs.{w_bytes, v_bytes}

-- the two programs
pub data LoadProgram : Type 0 where
  W : LoadProgram
  V : LoadProgram

-- The stages of a process, by the instruction that comes next. Where a number of rounds or pages is named, so many are left after this one.
pub data Stage : Type 0 where
  -- `w` loads the address of its break's argument
  BeforeBreak : Stage
  AtBreak : Stage
  AtFork : Stage
  -- `w` tests which process it is after the fork: the child or not
  AtParting : (child : Bool) → Stage
  -- 30 rounds begin
  AtBegin : LoadProgram → Stage
  -- a round begins: the address of the first page is loaded
  AtRound : LoadProgram → (rounds : ℕ) → Stage
  -- the number of pages is loaded
  AtCount : LoadProgram → (rounds : ℕ) → Stage
  -- a page is changed
  AtChange : LoadProgram → (rounds pages : ℕ) → Stage
  -- the address of the next page is made
  AtMove : LoadProgram → (rounds pages : ℕ) → Stage
  -- a page is done
  AtPageEnd : LoadProgram → (rounds pages : ℕ) → Stage
  -- a round is done
  AtRoundEnd : LoadProgram → (rounds : ℕ) → Stage
  -- `w` waits for its child
  AtWait : Stage
  -- the address of the write's arguments is loaded
  BeforeWrite : LoadProgram → Stage
  AtWrite : LoadProgram → Stage
  -- the address of the exit's argument is loaded
  BeforeExit : LoadProgram → Stage
  AtExit : LoadProgram → Stage
  -- the child of `w` loads the address of its execve's arguments
  BeforeExecve : Stage
  AtExecve : Stage
  -- it has ended
  Gone : Stage

-- the program of a stage
abbrev pub program_of : Stage → LoadProgram
program_of (AtBegin t) = t
program_of (AtRound t r) = t
program_of (AtCount t r) = t
program_of (AtChange t r p) = t
program_of (AtMove t r p) = t
program_of (AtPageEnd t r p) = t
program_of (AtRoundEnd t r) = t
program_of (BeforeWrite t) = t
program_of (AtWrite t) = t
program_of (BeforeExit t) = t
program_of (AtExit t) = t
program_of _ = W

-- the page of text of a program
unfoldable pub text_page : ℕ → LoadProgram → List ℕ
text_page pages W = in_pages 1 (w_bytes pages)
text_page pages V = in_pages 1 (v_bytes pages)

-- where the rounds begin in a program
abbrev pub rounds_at : LoadProgram → ℕ
rounds_at W = 0x10
rounds_at V = 0x02

-- where its end begins
abbrev pub end_at : LoadProgram → ℕ
end_at W = 0x34
end_at V = 0x22

-- the address of the instruction that comes next
abbrev pub stage_address : Stage → ℕ
stage_address BeforeBreak = 0x02
stage_address AtBreak = 0x09
stage_address AtFork = 0x0b
stage_address (AtParting child) = 0x0d
stage_address (AtBegin t) = rounds_at t
stage_address (AtRound t r) = rounds_at t + 3
stage_address (AtCount t r) = rounds_at t + 10
stage_address (AtChange t r p) = rounds_at t + 17
stage_address (AtMove t r p) = rounds_at t + 19
stage_address (AtPageEnd t r p) = rounds_at t + 26
stage_address (AtRoundEnd t r) = rounds_at t + 29
stage_address AtWait = 0x30
stage_address (BeforeWrite t) = end_at t
stage_address (AtWrite t) = end_at t + 7
stage_address (BeforeExit t) = end_at t + 9
stage_address (AtExit t) = end_at t + 16
stage_address BeforeExecve = 0x46
stage_address AtExecve = 0x4d
stage_address Gone = 0

-- the pages of data at a stage
abbrev pub data_pages : ℕ → Stage → ℕ
data_pages pages BeforeBreak = 8
data_pages pages AtBreak = 8
data_pages pages _ = pages

-- the registers but PC
pub record Bank : Type 0 where
  pub r0 : ℕ
  pub r1 : ℕ
  pub r2 : ℕ
  pub r3 : ℕ
  pub r4 : ℕ
  pub r5 : ℕ
  pub r6 : ℕ
  pub r7 : ℕ
  pub r8 : ℕ
  pub r9 : ℕ
  pub r10 : ℕ
  pub r11 : ℕ
  pub ap : ℕ
  pub fp : ℕ
  pub sp : ℕ

-- the sixteen registers, PC last
abbrev pub file : Bank → ℕ → List ℕ
file b pc =
    b.r0 ∷ b.r1 ∷ b.r2 ∷ b.r3 ∷ b.r4 ∷ b.r5 ∷ b.r6 ∷ b.r7 ∷ b.r8 ∷ b.r9 ∷ b.r10 ∷ b.r11 ∷ b.ap ∷ b.fp ∷ b.sp ∷ pc ∷ []

-- 1 for the child of a fork, 0 for its parent
abbrev pub one_of : Bool → ℕ
one_of true = 1
one_of false = 0

-- so many rounds are left, of 30
pub record HasRounds (rounds : ℕ) (b : Bank) : Type 0 where
  pub some : rounds < 30
  pub counted : b.r3 ≡ rounds + 1

-- the page with so many after it is the next, or the one before it was
pub record HasPages (pages rounds left at : ℕ) (b : Bank) : Type 0 where
  pub round : HasRounds rounds b
  pub some : left < pages
  pub counted : b.r5 ≡ left + 1
  pub address : b.r4 ≡ 1024 * at

-- what the registers say at a stage
abbrev pub Says : ℕ → Stage → Bank → Type 0
Says pages AtBreak b = b.ap ≡ 0xA0
Says pages (AtParting child) b = b.r1 ≡ one_of child
Says pages (AtRound t r) b = HasRounds r b
Says pages (AtCount t r) b = HasRounds r b × (b.r4 ≡ 1024)
Says pages (AtChange t r p) b = HasPages pages r p (pages - p) b
Says pages (AtMove t r p) b = HasPages pages r p (pages - p) b
Says pages (AtPageEnd t r p) b = HasPages pages r p (pages - p + 1) b
Says pages (AtRoundEnd t r) b = HasRounds r b
Says pages (AtWrite t) b = b.ap ≡ 0xA8
Says pages (AtExit t) b = b.ap ≡ 0xB8
Says pages AtExecve b = b.ap ≡ 0xC0
Says pages _ b = Unit {0}

-- the registers that the programs load are longwords
pub record AreLongwords (b : Bank) : Type 0 where
  pub r3 : b.r3 < 2 ^ 32
  pub r4 : b.r4 < 2 ^ 32
  pub r5 : b.r5 < 2 ^ 32
  pub ap : b.ap < 2 ^ 32

-- the program is `w`
abbrev pub is_w : LoadProgram → Bool
is_w W = true
is_w V = false

-- one of the first processes, up to its wait for the child
abbrev pub is_first : Stage → Bool
is_first BeforeBreak = true
is_first AtBreak = true
is_first AtFork = true
is_first (AtParting false) = true
is_first (AtParting true) = false
is_first (AtBegin t) = is_w t
is_first (AtRound t r) = is_w t
is_first (AtCount t r) = is_w t
is_first (AtChange t r p) = is_w t
is_first (AtMove t r p) = is_w t
is_first (AtPageEnd t r p) = is_w t
is_first (AtRoundEnd t r) = is_w t
is_first AtWait = true
is_first _ = false

-- it has ended
abbrev pub is_gone : Stage → Bool
is_gone Gone = true
is_gone _ = false

-- it waits for a child
abbrev pub is_waiting : Stage → Bool
is_waiting AtWait = true
is_waiting _ = false

-- a process is at a stage: it holds a space with its program's text and so many pages, and its registers say so
pub record IsAt (pages : ℕ) (stage : Stage) (p : Process) : Type 0 where
  pub space : Space
  pub bank : Bank
  pub holds : p.holding ≡ Holds space
  pub text : space.text_bytes ≡ text_page pages (program_of stage)
  pub size : length space.data_bytes ≡ 1024 * data_pages pages stage
  pub stack : length space.stack_bytes ≡ 1024
  pub registers : (let regs : Regs = p.regs in regs.r) ≡ file bank (stage_address stage)
  pub longwords : AreLongwords bank
  pub says : Says pages stage bank
  pub orphan : is_first stage ≡ true → p.parent ≡ 0
  pub awake : is_waiting stage ≡ false → p.asleep ≡ false

-- a process stands at a stage, or it has ended
pub data StandsAtStage (pages : ℕ) (stage : Stage) (p : Process) : Type 0 where
  Lives : is_gone stage ≡ false → IsAt pages stage p → StandsAtStage pages stage p
  Ended : stage ≡ Gone → (status : ℕ) → p.holding ≡ Zombie status → p.asleep ≡ false → StandsAtStage pages stage p

-- each process stands at the stage in its place
abbrev pub AllStand : ℕ → List Stage → List Process → Type 0
AllStand pages [] [] = Unit {0}
AllStand pages [] (p ∷ ps) = ⊥
AllStand pages (k ∷ ks) [] = ⊥
AllStand pages (k ∷ ks) (p ∷ ps) = StandsAtStage pages k p × AllStand pages ks ps
