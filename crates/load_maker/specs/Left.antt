-- What is still to come of a process of a load's workload, with what its child does, at each stage; and what a whole load counts.
use Rattle.std.specs.Prelude.{◌≡◌, ℕ, zero, suc, ◌+◌, ◌*◌, true, false, List, [], ◌∷◌, codes}
use Rattle.flat_state.specs.Flat.{NamedImage, Inputs}
use Rattle.load_maker.specs.Programs.{w_bytes, v_bytes}
use Rattle.load_maker.specs.Load.{load_pages, one_page_image, w_bss, v_bss}
use Rattle.load_maker.specs.declared.counts.Counts.{Counts}
use Rattle.load_maker.specs.Stages.{LoadProgram, W, V, Stage, BeforeBreak, AtBreak, AtFork, AtParting, AtBegin, AtRound, AtCount, AtChange, AtMove, AtPageEnd, AtRoundEnd, AtWait, BeforeWrite, AtWrite, BeforeExit, AtExit, BeforeExecve, AtExecve, Gone}

-- ---- a load

-- the images of a load by their names: `w` and `v`, which change so many pages
abbrev pub images_for : ℕ → List NamedImage
images_for pages =
    record { name = codes "w"; image = one_page_image (w_bytes pages) w_bss }
    ∷ record { name = codes "v"; image = one_page_image (v_bytes pages) (v_bss pages) }
    ∷ []

-- Inputs of a run of a load: its two images, four processes of the first, 8,192 blocks of swap, and at most 200,000 instructions. The
-- schedule and the number of frames may be any.
pub record IsLoad (number : ℕ) (A : Inputs) : Type 0 where
  pub images : A.images ≡ images_for (load_pages number)
  pub first : A.first ≡ 1 ∷ 1 ∷ 1 ∷ 1 ∷ []
  pub swap : A.swap_blocks ≡ 8192
  pub limit : A.limit ≡ 200000

-- what a load counts: its four processes fork, all eight end, nothing is refused, and each writes two bytes
abbrev pub load_counts : ℕ → Counts
load_counts number = record {
  instructions = 72 + 720 * (load_pages number + 1);
  processes = 8;
  ended = 8;
  refused = 0;
  bytes_out = 16;
}

-- ---- what is left

-- the instructions from the end of the rounds on
abbrev pub end_left : LoadProgram → ℕ
end_left W = 5
end_left V = 4

-- the instructions of so many whole rounds: three for each page, and three more
unfoldable pub rounds_left : ℕ → ℕ → ℕ
rounds_left pages zero = 0
rounds_left pages (suc rounds) = 3 * pages + 3 + rounds_left pages rounds

-- the instructions from the test at a round's end on
abbrev pub repeat_left : ℕ → LoadProgram → ℕ → ℕ
repeat_left pages t rounds = 1 + (rounds_left pages rounds + end_left t)

-- the instructions from a program's rounds on
abbrev pub program_left : ℕ → LoadProgram → ℕ
program_left pages t = 1 + (rounds_left pages 30 + end_left t)

-- the instructions that are left, those of the child too where it is still to come
abbrev pub instructions_left : ℕ → Stage → ℕ
instructions_left pages BeforeBreak = 4 + (program_left pages W + (3 + program_left pages V))
instructions_left pages AtBreak = 3 + (program_left pages W + (3 + program_left pages V) + 0)
instructions_left pages AtFork = 2 + (program_left pages W + (3 + program_left pages V) + 0)
instructions_left pages (AtParting false) = 1 + program_left pages W
instructions_left pages (AtParting true) = 3 + program_left pages V
instructions_left pages BeforeExecve = 2 + program_left pages V
instructions_left pages AtExecve = 1 + program_left pages V
instructions_left pages (AtBegin t) = program_left pages t
instructions_left pages (AtRound t r) = 2 + (3 * pages + repeat_left pages t r)
instructions_left pages (AtCount t r) = 1 + (3 * pages + repeat_left pages t r)
instructions_left pages (AtChange t r p) = 3 + (3 * p + repeat_left pages t r)
instructions_left pages (AtMove t r p) = 2 + (3 * p + repeat_left pages t r)
instructions_left pages (AtPageEnd t r p) = 1 + (3 * p + repeat_left pages t r)
instructions_left pages (AtRoundEnd t r) = repeat_left pages t r
instructions_left pages AtWait = 5
instructions_left pages (BeforeWrite t) = 4
instructions_left pages (AtWrite t) = 3
instructions_left pages (BeforeExit t) = 2
instructions_left pages (AtExit t) = 1
instructions_left pages Gone = 0

-- the forks that are left
abbrev pub forks_left : Stage → ℕ
forks_left BeforeBreak = 1
forks_left AtBreak = 1
forks_left AtFork = 1
forks_left _ = 0

-- the ends that are left, the child's too where it is still to come
abbrev pub ends_left : Stage → ℕ
ends_left BeforeBreak = 2
ends_left AtBreak = 2
ends_left AtFork = 2
ends_left Gone = 0
ends_left _ = 1

-- the bytes that are still to be written, the child's too where it is still to come
abbrev pub bytes_left : Stage → ℕ
bytes_left BeforeBreak = 4
bytes_left AtBreak = 4
bytes_left AtFork = 4
bytes_left (BeforeExit t) = 0
bytes_left (AtExit t) = 0
bytes_left Gone = 0
bytes_left _ = 2

-- the most blocks of swap space that are still asked for, by the child too where it is still to come
abbrev pub blocks_left : Stage → ℕ
blocks_left BeforeBreak = 708
blocks_left AtBreak = 708
blocks_left AtFork = 516
blocks_left (AtParting true) = 258
blocks_left BeforeExecve = 258
blocks_left AtExecve = 258
blocks_left _ = 0

-- what is left at all stages together
abbrev pub total : (Stage → ℕ) → List Stage → ℕ
total f [] = 0
total f (k ∷ ks) = f k + total f ks
