-- Where a load begins and ends, and what its journal counts.
use Rattle.std.proofs.Common.{◌≡◌, ◌≢◌, ◌⊎◌, inl, inr, ℕ, zero, suc, ◌+◌, ◌*◌, ◌<◌, ◌==◌, Bool, true, false, cond, not, ◌&&◌, ◌||◌, nat_le, List, [], ◌∷◌, map, find, Option, Some, None, Result, Ok, Err, refl, sym, ap, ◌∙◌, subst, arith, eq-eqb}
use Rattle.std.specs.Prelude.{if◌then◌else◌}
use Rattle.std.specs.List.{sum_by}
use Rattle.std.proofs.lemmas.List.{length-replicate}
use Rattle.std.proofs.lemmas.Bool.{and_parts, eqb-true, leb-true}
use Rattle.vm_facts.specs.declared.entry.Entry.{Entry}
use Rattle.vm_facts.specs.declared.entry.Entry.TheVariants as entries
use Rattle.aout_image.specs.Image.{pages_for}
use Rattle.resource_map.specs.Room.{lowest_room, lowest, has_room, all_pass}
use Rattle.swap_dmap.specs.Chunks.{pieces, chunk, chunk_start, lowest_below as lowest_chunk, chunks_holding, last_piece, text_pieces}
use Rattle.swap_book.specs.Holdings.{Holdings, fit, is_in, is_held}
use Rattle.swap_book.specs.Placing.{place_all}
use Rattle.flat_state.specs.Flat.{Holding, Process, NamedImage, Inputs, holds_space, is_ready, ready_if, can_step, start_process, start_processes, start_regs, new_space, argument_area}
use Rattle.flat_state.specs.Change.{is_zombie}
use Rattle.flat_state.specs.Numbers.{IsAbsent, AllDistinct, IsNumbered}
use Rattle.flat_state.specs.Journal.{appended, counted, instructions_of}
use Rattle.flat_model.specs.Asked.{first_held, start_held}
use Rattle.run_model.specs.State.{State, start}
use Rattle.run_model.specs.Next.{next_unit}
use Rattle.run_model.specs.Kinds.{ProcessRuns as RunsUnder}
use Rattle.run_model.specs.Lawful.{Reaches, IsLawful}
use Rattle.run_laws.specs.Flowing.{Awaits, WaitsBy, Flows}
use Rattle.run_laws.specs.Running.{IsRun, CanRun, IsIdle}
use Rattle.run_laws.proofs.Finishing.{finished_ends}
use Rattle.run_laws.proofs.Flows.{on_steps}
use Rattle.run_laws.proofs.Wholes.{start_run, reached_run, reached_lawful}
use Rattle.economy_laws.proofs.Counting.{counted_in, Ignores, appended_counts, appended_instructions, sums}
use Rattle.load_maker.specs.Programs.{w_bytes}
use Rattle.load_maker.specs.Load.{load_pages, one_page_image, w_bss}
use Rattle.load_maker.specs.declared.counts.Counts.{Counts}
use Rattle.process_counts.specs.Counts.{output_length}
use Rattle.load_maker.specs.Counts.{counts_of}
use Rattle.load_maker.specs.Stages.{Stage, Bank, text_page, BeforeBreak, AtWait, Gone, is_first, is_waiting, IsAt, StandsAtStage, Lives, Ended, AllStand}
use Rattle.load_maker.specs.Left.{images_for, IsLoad, load_counts, rounds_left, instructions_left, forks_left, ends_left, bytes_left, total}
use Rattle.load_maker.specs.LoadLaws.{IsUnderWay}
use Rattle.load_maker.proofs.Pieces.{AllUnder}
use Rattle.load_maker.proofs.Sleepers.{lives_for, has_live, AllAwaited, NoneZero, none_zero}
use Rattle.load_maker.proofs.Calling.{fresh_bank}
use Rattle.load_maker.proofs.Family.{forks_of, ends_of, Family}
use Rattle.load_maker.proofs.Loading.{pending, Stands, IsLoadRun, refusals_of, Through, through}

-- ---- the start

w_named : ℕ → NamedImage
w_named pages = record { name = 0x77 ∷ []; image = one_page_image (w_bytes pages) w_bss }

start_bank : Bank
start_bank = record fresh_bank { sp = 0x7fffebe8 }

begins : (pages pid : ℕ) → StandsAtStage pages BeforeBreak (start_process pid 1 (w_named pages))
unfolding w_named start_bank text_page start_regs argument_area
begins pages pid = Lives refl (record {
  space = new_space pid 1 (one_page_image (w_bytes pages) w_bss) ((0x77 ∷ []) ∷ []);
  bank = start_bank;
  holds = refl;
  text = refl;
  size = length-replicate (1024 * pages_for 8192) (let z : ℕ = 0 in z);
  stack = refl;
  registers = refl;
  longwords = record { r3 = omega arith; r4 = omega arith; r5 = omega arith; ap = omega arith };
  says = tt;
  orphan = λ f. refl;
  awake = λ w. refl;
})

-- four of them
pub four : List Stage
four = BeforeBreak ∷ BeforeBreak ∷ BeforeBreak ∷ BeforeBreak ∷ []

begin_family : (pages : ℕ) → Family pages four (start_processes (images_for pages) 1 (1 ∷ 1 ∷ 1 ∷ 1 ∷ []))
unfolding four w_named
begin_family pages = record {
  stand = (begins pages 1, (begins pages 2, (begins pages 3, (begins pages 4, tt))));
  awaited = ((λ s. absurd cc), ((λ s. absurd cc), ((λ s. absurd cc), ((λ s. absurd cc), tt))));
}

under_by : ℕ → Holdings → Bool
under_by high [] = true
under_by high (h ∷ hs) = nat_le (h.start + h.length) high && under_by high hs

under_of : (high : ℕ) (hs : Holdings) → under_by high hs ≡ true → AllUnder high hs
unfolding under_by
under_of high [] e = tt
under_of high (h ∷ hs) e = let a = and_parts (nat_le (h.start + h.length) high) (under_by high hs) e in (leb-true (h.start + h.length) high a.0, under_of high hs a.1)

ok_under : Result Holdings ℕ → Bool
ok_under (Ok hs) = under_by 300 hs
ok_under (Err pid) = false

low_start : (A : Inputs) (pages : ℕ) → ok_under (start_held (record A { images = images_for pages; first = 1 ∷ 1 ∷ 1 ∷ 1 ∷ []; swap_blocks = 8192 })) ≡ true
unfolding ok_under under_by first_held place_all fit is_in is_held pieces chunk chunk_start lowest_chunk chunks_holding last_piece text_pieces lowest_room lowest has_room all_pass
low_start A pages = refl

starts_low : (number : ℕ) (A : Inputs) (hs : Holdings) → IsLoad number A → start_held A ≡ Ok hs → AllUnder 300 hs
unfolding ok_under
starts_low number A hs load found =
    under_of 300 hs (sym (ap ok_under found)
    ∙ (ap (λ (x : List NamedImage). ok_under (start_held (record A { images = x }))) load.images
    ∙ (ap (λ (x : List ℕ). ok_under (start_held (record A { images = images_for (load_pages number); first = x }))) load.first
    ∙ (ap (λ (n : ℕ). ok_under (start_held (record A { images = images_for (load_pages number); first = 1 ∷ 1 ∷ 1 ∷ 1 ∷ []; swap_blocks = n }))) load.swap
    ∙ low_start A (load_pages number)))))

start_stands : (number : ℕ) (A : Inputs) (hs : Holdings) → IsLoad number A → start_held A ≡ Ok hs → Stands (load_pages number) four 300 (start A hs)
unfolding four
start_stands number A hs load found = record {
  family = subst (λ (x : List NamedImage). Family (load_pages number) four (start_processes x 1 A.first)) (sym load.images)
      (subst (λ (x : List ℕ). Family (load_pages number) four (start_processes (images_for (load_pages number)) 1 x)) (sym load.first) (begin_family (load_pages number)));
  few = omega arith;
  served = λ pid. refl;
  under = starts_low number A hs load found;
  room = omega arith;
}

is_load_run : (number : ℕ) (A : Inputs) → IsLoad number A → IsLoadRun (load_pages number) A
is_load_run number A load = record { low = omega arith; high = omega arith; images = load.images; swap = load.swap }

-- ---- where nobody can step

abbrev pub AllIdle : List Process → Type 0
AllIdle [] = Unit {0}
AllIdle (p ∷ ps) = (is_ready p ≡ false) × AllIdle ps

absent_none : (n : ℕ) (ps : List Process) → IsAbsent n (map (λ (r : Process). r.pid) ps) → find (λ r. r.pid == n) ps ≡ None
absent_none n [] h = refl
absent_none n (p ∷ ps) h = go (p.pid == n) refl (absent_none n ps h.1)
  where
    go : (b : Bool) → (p.pid == n) ≡ b → find (λ r. r.pid == n) ps ≡ None → cond b (Some p) (find (λ r. r.pid == n) ps) ≡ None
    go true e later = absurd (h.0 (eqb-true p.pid n e))
    go false e later = later

all_idle : (ps : List Process) → AllDistinct (map (λ (r : Process). r.pid) ps) → NoneZero ps
    → ((pid : ℕ) → pid ≢ 0 → ready_if (find (λ r. r.pid == pid) ps) ≡ false) → AllIdle ps
all_idle [] own none idle = tt
all_idle (p ∷ ps) own none idle = (first, all_idle ps own.1 none.1 later)
  where
    first : is_ready p ≡ false
    first = sym (ap (λ (b : Bool). ready_if (cond b (Some p) (find (λ r. r.pid == p.pid) ps))) (eq-eqb p.pid p.pid refl)) ∙ idle p.pid none.0

    later : (pid : ℕ) → pid ≢ 0 → ready_if (find (λ r. r.pid == pid) ps) ≡ false
    later pid some = go (p.pid == pid) refl
      where
        go : (b : Bool) → (p.pid == pid) ≡ b → ready_if (find (λ r. r.pid == pid) ps) ≡ false
        go true e = ap ready_if (absent_none pid ps (subst (λ (n : ℕ). IsAbsent n (map (λ (r : Process). r.pid) ps)) (eqb-true p.pid pid e) own.0))
        go false e = sym (ap (λ (b : Bool). ready_if (cond b (Some p) (find (λ r. r.pid == pid) ps))) e) ∙ idle pid some

-- who lives and can't step waits
waits_of : (pages : ℕ) (k : Stage) (p : Process) (at : IsAt pages k p) → is_ready p ≡ false → is_waiting k ≡ true
waits_of pages k p at idle = go (is_waiting k) refl
  where
    asleep : p.asleep ≡ true
    asleep = by p.asleep refl
      where
        by : (b : Bool) → p.asleep ≡ b → p.asleep ≡ true
        by true e = e
        by false e = absurd (let no : true ≡ false = sym (ap holds_space at.holds) ∙ (sym (ap (λ (b : Bool). if b then false else holds_space p.holding) e) ∙ idle) in cc)

    go : (b : Bool) → is_waiting k ≡ b → is_waiting k ≡ true
    go true e = e
    go false e = absurd (let no : false ≡ true = sym (at.awake e) ∙ asleep in cc)

first_waits : (k : Stage) → is_waiting k ≡ true → is_first k ≡ true
first_waits AtWait h = refl
first_waits _ h = absurd cc

none_live : (pages : ℕ) (ks : List Stage) (ps : List Process) (n : ℕ) → n ≢ 0 → AllStand pages ks ps → AllIdle ps → has_live n ps ≡ true → ⊥
none_live pages [] [] n some st idle h = absurd cc
none_live pages [] (p ∷ ps) n some st idle h = absurd st
none_live pages (k ∷ ks) [] n some st idle h = absurd st
none_live pages (k ∷ ks) (p ∷ ps) n some st idle h = go (λ z. none_live pages ks ps n some st.1 idle.1 z) (lives_for n p) refl h
  where
    child : StandsAtStage pages k p → lives_for n p ≡ true → ⊥
    child (Ended e status z a) l = let b = and_parts (p.parent == n) (not (is_zombie p.holding)) l in let no : false ≡ true = sym (ap (λ (x : Holding). not (is_zombie x)) z) ∙ b.1 in absurd
        cc
    child (Lives g at) l =
        let b = and_parts (p.parent == n) (not (is_zombie p.holding)) l in
        some (sym (eqb-true p.parent n b.0) ∙ at.orphan (first_waits k (waits_of pages k p at idle.0)))

    go : (has_live n ps ≡ true → ⊥) → (b : Bool) → lives_for n p ≡ b → (b || has_live n ps) ≡ true → ⊥
    go later true e z = child st.0 e
    go later false e z = later z

all_gone : (pages : ℕ) (ks : List Stage) (ps all : List Process) (f : Stage → ℕ) → f Gone ≡ 0 → AllStand pages ks ps → AllIdle ps → AllAwaited all ps
    → NoneZero ps
    → ((n : ℕ) → n ≢ 0 → has_live n all ≡ true → ⊥) → total f ks ≡ 0
all_gone pages [] [] all f z st idle awaited none dead = refl
all_gone pages [] (p ∷ ps) all f z st idle awaited none dead = absurd st
all_gone pages (k ∷ ks) [] all f z st idle awaited none dead = absurd st
all_gone pages (k ∷ ks) (p ∷ ps) all f z st idle awaited none dead = go st.0 (all_gone pages ks ps all f z st.1 idle.1 awaited.1 none.1 dead)
  where
    asleep : (at : IsAt pages k p) → p.asleep ≡ true
    asleep at = by p.asleep refl
      where
        by : (b : Bool) → p.asleep ≡ b → p.asleep ≡ true
        by true e = e
        by false e = absurd (let no : true ≡ false = sym (ap holds_space at.holds) ∙ (sym (ap (λ (b : Bool). if b then false else holds_space p.holding) e) ∙ idle.0) in cc)

    go : StandsAtStage pages k p → total f ks ≡ 0 → f k + total f ks ≡ 0
    go (Ended e status h a) later = let x : f k ≡ 0 = ap f e ∙ z in omega (arith, x, later)
    go (Lives g at) later = absurd (dead p.pid none.0 (awaited.0 (asleep at)))

-- ---- the whole

rounds_all : (pages : ℕ) → rounds_left pages 30 ≡ 90 * pages + 90
unfolding rounds_left
rounds_all pages = omega arith

four_left : (pages : ℕ) → total (instructions_left pages) four ≡ 72 + 720 * (pages + 1)
unfolding four
four_left pages = let e = rounds_all pages in omega (arith, e)

above_zero : (n : ℕ) → n ≢ 0 → 0 < n
above_zero zero h = absurd (h refl)
above_zero (suc n) h = omega arith

zero_none : (ps : List Process) → NoneZero ps → find (λ r. r.pid == 0) ps ≡ None
zero_none [] h = refl
zero_none (p ∷ ps) h = go (p.pid == 0) refl (zero_none ps h.1)
  where
    go : (b : Bool) → (p.pid == 0) ≡ b → find (λ r. r.pid == 0) ps ≡ None → cond b (Some p) (find (λ r. r.pid == 0) ps) ≡ None
    go true e later = absurd (h.0 (eqb-true p.pid 0 e))
    go false e later = later

-- nobody can step
nobody : (A : Inputs) (s : State) → IsIdle A s → NoneZero s.point.flat.processes → (pid : ℕ) → can_step s.point.flat pid ≡ false
nobody A s idle none zero = ap ready_if (zero_none s.point.flat.processes none)
nobody A s idle none (suc n) = idle.idle (suc n) (omega arith)

none_pending : (A : Inputs) (s : State) (o : Option Entry) → WaitsBy A s o → ((pid : ℕ) → can_step s.point.flat pid ≡ false) → pending o ≡ 0
none_pending A s (Some (entries.Out pid bytes)) w idle =
    let a : Awaits A s pid = w in let run : RunsUnder A s pid a.now = a.runs in
    absurd (let no : true ≡ false = sym (on_steps A s s.mark pid a.now run.on) ∙ idle pid in cc)
none_pending A s _ w idle = refl

-- what units of a load count, of which nothing is left
pub record CountsAll (pages : ℕ) (us : List Entry) : Type 0 where
  pub instructions : counted_in counted us ≡ 72 + 720 * (pages + 1)
  pub forks : counted_in forks_of us ≡ 4
  pub ends : counted_in ends_of us ≡ 8
  pub bytes : counted_in output_length us ≡ 16
  pub refused : counted_in refusals_of us ≡ 0

-- a load's run, as far as it went
pub load_through : (number : ℕ) (A : Inputs) (hs : Holdings) (journal : List Entry) (s : State) → IsLoad number A → CanRun A hs → (r : Reaches A journal s)
    → (let begin : State = start A r.holdings in Through (load_pages number) four begin s r.units)
load_through number A hs journal s load can r =
    through (load_pages number) r.units four 300 A (start A r.holdings) s (is_load_run number A load) can.images
    (start_run A r.holdings (record { images = can.images; first = can.first; frames = can.frames; pieces = r.found })) (start_stands number A r.holdings load r.found) r.follows

counts_all : (number : ℕ) (A : Inputs) (hs : Holdings) (journal : List Entry) (s : State) → IsLoad number A → CanRun A hs → (r : Reaches A journal s)
    → next_unit A s ≡ None
    → CountsAll (load_pages number) r.units
unfolding four
counts_all number A hs journal s load can r none = by (finished_ends A journal s (record { lawful = law; none = none }))
  where
    pages : ℕ
    pages = load_pages number

    law : IsLawful A journal s
    law = reached_lawful A hs journal s can r

    run : IsRun A s
    run = reached_run A hs journal s can r

    t : Through (load_pages number) four (start A r.holdings) s r.units
    t = load_through number A hs journal s load can r

    st : Stands (load_pages number) t.now t.high s
    st = t.stands

    fam : Family (load_pages number) t.now s.point.flat.processes
    fam = st.family

    nums : IsNumbered s.point.flat
    nums = run.numbers

    flows : Flows A s
    flows = run.flows

    zeros : NoneZero s.point.flat.processes
    zeros = none_zero s.point.flat.processes nums.parents

    count : counted_in counted r.units ≡ s.count
    count = let e : instructions_of (appended [] r.units) ≡ counted_in counted r.units = appended_instructions r.units [] ∙ (omega arith) in sym e ∙ (ap instructions_of r.joined ∙ law.count)

    small : (n : ℕ) → n < 65 → 72 + 720 * (n + 1) < 200000
    small n lt = omega (arith, lt)

    by : (s.count ≡ A.limit) ⊎ IsIdle A s → CountsAll (load_pages number) r.units
    by (inl full) =
        absurd (let a = t.instructions in let b = four_left (load_pages number) in let c : counted_in counted r.units ≡ 200000 = count ∙ (full ∙ load.limit) in
        let d = small (load_pages number) (omega arith) in over (counted_in counted r.units) (total (instructions_left (load_pages number)) four)
        (total (instructions_left (load_pages number)) t.now) (72 + 720 * (load_pages number + 1)) a b c d)
      where
        over : (n m l k : ℕ) → m ≡ n + l → m ≡ k → n ≡ 200000 → k < 200000 → ⊥
        over n m l k e f g h = absurd (let no : 0 < 0 = omega (arith, e, f, g, h) in omega arith)
    by (inr idle) = record {
      instructions = all (total (instructions_left (load_pages number)) four) _ _ t.instructions (gone (instructions_left (load_pages number)) refl) ∙ four_left (load_pages number);
      forks = all 4 _ _ t.forks (gone forks_left refl);
      ends = all 8 _ _ t.ends (gone ends_left refl);
      bytes = bytes (counted_in output_length r.units) (total bytes_left t.now) (pending s.point.last) t.bytes (gone bytes_left refl)
          (none_pending A s s.point.last flows.waits (nobody A s idle zeros));
      refused = t.refused;
    }
      where
        idles : AllIdle s.point.flat.processes
        idles = all_idle s.point.flat.processes nums.pids zeros (λ pid some. idle.idle pid (above_zero pid some))

        gone : (f : Stage → ℕ) → f Gone ≡ 0 → total f t.now ≡ 0
        gone f z = all_gone (load_pages number) t.now s.point.flat.processes s.point.flat.processes f z fam.stand idles fam.awaited zeros
            (λ n some h. none_live (load_pages number) t.now s.point.flat.processes n some fam.stand idles h)

        all : (a b c : ℕ) → a ≡ b + c → c ≡ 0 → b ≡ a
        all a b c e f = omega (arith, e, f)

        bytes : (b c p : ℕ) → 16 + p ≡ b + (c + 0) → c ≡ 0 → p ≡ 0 → b ≡ 16
        bytes b c p e f g = omega (arith, e, f, g)

same_counts : (a b c d e f g h i j : ℕ) → a ≡ b → c ≡ d → e ≡ f → g ≡ h → i ≡ j
    → (let x : Counts = record { instructions = a; processes = c; ended = e; refused = g; bytes_out = i } in x) ≡
    (let x : Counts = record { instructions = b; processes = d; ended = f; refused = h; bytes_out = j } in x)
same_counts a b c d e f g h i j k l m n o = cc

-- the journal of a load that is finished counts what the number says
pub finished_counts : (number : ℕ) (A : Inputs) (hs : Holdings) (journal : List Entry) (s : State) → IsLoad number A → CanRun A hs → Reaches A journal s
    → next_unit A s ≡ None
    → counts_of 4 journal ≡ load_counts number
finished_counts number A hs journal s load can r none =
    let c : CountsAll (load_pages number) r.units = counts_all number A hs journal s load can r none in
    same_counts _ _ _ _ _ _ _ _ _ _
    (sym (ap instructions_of r.joined) ∙ (appended_instructions r.units [] ∙ (plus_none (counted_in counted r.units) ∙ c.instructions)))
    (ap (λ (n : ℕ). 4 + n) (counts forks_of (record { ran = λ p n. refl; hands = λ n. refl }) ∙ c.forks))
    (counts ends_of (record { ran = λ p n. refl; hands = λ n. refl }) ∙ c.ends)
    (counts refusals_of (record { ran = λ p n. refl; hands = λ n. refl }) ∙ c.refused)
    (counts output_length (record { ran = λ p n. refl; hands = λ n. refl }) ∙ c.bytes)
  where
    plus_none : (n : ℕ) → 0 + n ≡ n
    plus_none n = omega arith

    counts : (f : Entry → ℕ) → Ignores f → sum_by f journal ≡ counted_in f r.units
    counts f i = sums f journal ∙ (ap (counted_in f) (sym r.joined) ∙ (appended_counts f i r.units [] ∙ plus_none (counted_in f r.units)))

-- at each place of a load's run what was counted and what is left make the whole
pub under_way : (number : ℕ) (A : Inputs) (hs : Holdings) (journal : List Entry) (s : State) → IsLoad number A → CanRun A hs → Reaches A journal s
    → IsUnderWay number journal s
unfolding four
under_way number A hs journal s load can r =
    let t = load_through number A hs journal s load can r in let st : Stands (load_pages number) t.now t.high s = t.stands in let fam : Family (load_pages number) t.now
    s.point.flat.processes = st.family in
    record {
      stages = t.now;
      stand = fam.stand;
      instructions = whole (instructions_of journal) (counted_in counted r.units) (total (instructions_left (load_pages number)) four) (total (instructions_left (load_pages number)) t.now)
          (72 + 720 * (load_pages number + 1)) (sym (ap instructions_of r.joined) ∙ appended_instructions r.units []) t.instructions (four_left (load_pages number));
      children = whole _ (counted_in forks_of r.units) 4 (total forks_left t.now) 4 (counts forks_of (record { ran = λ p n. refl; hands = λ n. refl })) t.forks refl;
      ended = whole _ (counted_in ends_of r.units) 8 (total ends_left t.now) 8 (counts ends_of (record { ran = λ p n. refl; hands = λ n. refl })) t.ends refl;
      refused = counts refusals_of (record { ran = λ p n. refl; hands = λ n. refl }) ∙ (plus_none (counted_in refusals_of r.units) ∙ t.refused);
    }
  where
    plus_none : (n : ℕ) → 0 + n ≡ n
    plus_none n = omega arith

    whole : (a b c d e : ℕ) → a ≡ 0 + b → c ≡ b + d → c ≡ e → a + d ≡ e
    whole a b c d e h k l = omega (arith, h, k, l)

    counts : (f : Entry → ℕ) → Ignores f → sum_by f journal ≡ 0 + counted_in f r.units
    counts f i = sums f journal ∙ (ap (counted_in f) (sym r.joined) ∙ appended_counts f i r.units [])
