-- The texts of the answers: lines of counts, of victims, and of sizes.
use Rattle.std.specs.Prelude.{ℕ, ◌+◌, ◌-◌, ◌*◌, ◌/◌, List, [], ◌∷◌, ◌++◌, length, map, Option, Some, None, codes, decimal}
use Rattle.std.specs.List.{flat_map, range_with_len}
use Rattle.vm_facts.specs.declared.page.Page.{Page}
use Rattle.flat_model.specs.Touched.{distinct}
use Rattle.run_text.specs.Text.{page_text, part}
use Rattle.command_edge.specs.Ending.{numbered_line}
use Rattle.page_opt.specs.declared.Victim.{Victim}
use Rattle.stack_dist.specs.Lru.{lru_faults}
use Rattle.policy_faults.specs.Policies.{fifo_faults, clock_faults, hands_faults}
use Rattle.reference_answers.specs.Grammar.{page_word}
use Rattle.reference_answers.specs.Numbers.{numbers_of, page_numbered}

-- how many references there are, and how many pages among them
abbrev pub counted_text : List Page → List ℕ
counted_text refs = numbered_line (codes "references ") (length refs) ++ numbered_line (codes "pages ") (length (distinct refs))

-- a page after a space, where there is one
abbrev pub some_page_text : Option Page → List ℕ
some_page_text None = []
some_page_text (Some page) = page_text page

-- the number of a reference, and the page that leaves at it
abbrev pub victim_line : List Page → Victim → List ℕ
victim_line pages victim = codes "v " ++ decimal victim.at ++ some_page_text (page_numbered pages victim.page) ++ codes "\n"

-- the least faults with so many frames, and the victims of a plan that has them
abbrev pub optimum_text : List Page → ℕ → ℕ → List Victim → List ℕ
optimum_text refs frames faults victims =
    counted_text refs ++
    numbered_line (codes "frames ") frames ++
    numbered_line (codes "least faults ") faults ++
    flat_map (victim_line (distinct refs)) victims

-- a line for each size of memory in pages, rising from one on: the size, and the faults at it
unfoldable pub size_lines : ℕ → List ℕ → List ℕ
size_lines size [] = []
size_lines size (faults ∷ more) = decimal size ++ part faults ++ codes "\n" ++ size_lines (size + 1) more

-- the faults of LRU at each size from 1 to so many pages
abbrev pub lru_curve : List ℕ → ℕ → List ℕ
lru_curve refs pages = map (lru_faults refs) (range_with_len 1 pages)

-- the faults of LRU at each size up to as many as there are pages
abbrev pub curve_text : List Page → List ℕ
curve_text refs = counted_text refs ++ size_lines 1 (lru_curve (numbers_of refs) (length (distinct refs)))

-- the line of a reference
abbrev pub reference_line : Page → List ℕ
reference_line page = page_word page ++ codes "\n"

-- the references, one a line
abbrev pub references_text : List Page → List ℕ
references_text refs = flat_map reference_line refs

-- a line for each policy: its name, and how many faults it has
abbrev pub policy_lines : (fifo clock hands lru least : ℕ) → List ℕ
policy_lines fifo clock hands lru least =
    numbered_line (codes "fifo ") fifo ++
    numbered_line (codes "clock ") clock ++
    numbered_line (codes "hands ") hands ++
    numbered_line (codes "lru ") lru ++
    numbered_line (codes "least ") least

-- the faults of the policies on references to pages with these numbers, with so many frames and the front hand so many of them ahead,
-- beside the least of any plan
abbrev pub policies_text : List ℕ → (frames ahead least : ℕ) → List ℕ
policies_text refs frames ahead least =
    policy_lines (fifo_faults refs frames) (clock_faults refs frames) (hands_faults refs frames ahead) (lru_faults refs frames) least

-- the numbers of frames that are asked: so many, each of them so many more than the one before
abbrev pub first_numbers : (from every count : ℕ) → List ℕ
first_numbers from every count = map (λ k. from + k * every) (range_with_len 0 count)

-- FROM, FROM + EVERY, .. up to TO
abbrev pub frame_numbers : (from to every : ℕ) → List ℕ
frame_numbers from to every = first_numbers from every ((to - from) / every + 1)

-- the same counts in a line, after the number of frames
abbrev pub policies_line : (frames fifo clock hands lru least : ℕ) → List ℕ
policies_line frames fifo clock hands lru least =
    decimal frames ++
    codes " fifo" ++ part fifo ++
    codes " clock" ++ part clock ++
    codes " hands" ++ part hands ++
    codes " lru" ++ part lru ++
    codes " least" ++ part least ++ codes "\n"

-- the faults of the policies with so many frames, a quarter of which the front hand is ahead
abbrev pub sweep_line : List ℕ → (frames least : ℕ) → List ℕ
sweep_line refs frames least =
    policies_line frames (fifo_faults refs frames) (clock_faults refs frames) (hands_faults refs frames (frames / 4)) (lru_faults refs frames) least
