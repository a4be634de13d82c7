-- What a step of a load's process makes of all of them, and what it spends of what is left.
use Rattle.std.proofs.Common.{◌≡◌, ◌≢◌, ℕ, zero, suc, ◌+◌, ◌-◌, ◌*◌, ◌<◌, ◌≤◌, ◌==◌, Bool, true, false, cond, not, ◌&&◌, List, [], ◌∷◌, ◌++◌, length, map, filter, find, Some, refl, sym, ap, ◌∙◌, subst, arith}
use Rattle.std.proofs.lemmas.List.{length-replicate}
use Rattle.std.proofs.lemmas.Bool.{and_parts, eqb-true}
use Rattle.std.proofs.lemmas.Option.{same_Some}
use Rattle.vm_facts.specs.declared.regs.Regs.{Regs}
use Rattle.vm_facts.specs.declared.entry.Entry.{Entry}
use Rattle.vm_facts.specs.declared.entry.Entry.TheVariants as entries
use Rattle.aout_image.specs.Image.{pages_for}
use Rattle.flat_state.specs.Space.{Space, puts}
use Rattle.flat_state.specs.Flat.{Holds, Process, FlatState, NamedImage, process_of, space_with, start_page, argument_area}
use Rattle.flat_state.specs.declared.change.Change.{Change}
use Rattle.flat_state.specs.declared.change.Change.TheVariants.{Keep, Resize, Fork, Exec, Reap, Sleep}
use Rattle.std.specs.Prelude.{slice_set}
use Rattle.flat_state.specs.Change.{replaced, is_zombie, is_zombie_child, child_of, resized, awake, apply_writes}
use Rattle.flat_state.specs.Numbers.{AllDistinct}
use Rattle.flat_state.specs.Journal.{counted}
use Rattle.flat_state.proofs.SpaceLaws.{length-resized_bytes}
use Rattle.flat_model.specs.Step.{Step}
use Rattle.flat_model.specs.Asked.{change_wanted}
use Rattle.run_laws.proofs.Finding.{found_by_number, zombie_passes}
use Rattle.flat_laws.specs.Visible.{is_end}
use Rattle.process_counts.specs.Counts.{output_length}
use Rattle.load_maker.specs.Counts.{is_granted_fork}
use Rattle.load_maker.specs.Programs.{v_bytes}
use Rattle.load_maker.specs.Load.{one_page_image, v_bss}
use Rattle.load_maker.specs.Stages.{LoadProgram, W, V, Stage, text_page, end_at, Bank, AreLongwords, is_gone, IsAt, StandsAtStage, Lives, Ended, AllStand, BeforeBreak, AtBreak, AtFork, AtParting, AtBegin, AtRound, AtCount, AtChange, AtMove, AtPageEnd, AtRoundEnd, AtWait, BeforeWrite, AtWrite, BeforeExit, AtExit, BeforeExecve, AtExecve, Gone}
use Rattle.load_maker.specs.Left.{images_for, rounds_left, instructions_left, forks_left, ends_left, bytes_left, blocks_left, total}
use Rattle.load_maker.proofs.Pieces.{AreWithin, asked}
use Rattle.load_maker.proofs.Spaces.{SameSizes, puts_sizes}
use Rattle.load_maker.proofs.Standings.{Put, one_more, total_more, Fewer, LeavesOut, sifted, mapped, parted, roused, none_returned, heads, few_heads}
use Rattle.load_maker.proofs.Sleepers.{lives_for, has_live, AllAwaited, goes_more, goes_replaced, goes_sifted, awaited_to, awaited_more, awaited_replaced, awaited_sifted, NoneZero, left_by, zombies_out, Ends, awaited_left, awaited_gone, left_zombies, leaves_zombies, found_zombies, AllZombies, zombies_put, live_found}
use Rattle.load_maker.proofs.Going.{gone_on, step_from, Kept, Alike, goes_to, after_rounds}
use Rattle.load_maker.proofs.Going as going
use Rattle.load_maker.proofs.Calling as calling
use Rattle.load_maker.proofs.Calling.{Did, output_of, fresh_bank, Waited, Slept, Reaped, Failed}
use Rattle.load_maker.proofs.Changing.{Steps, kept_list, slept_list, resized_list, forked_list, entered_list, reaped_list, ghost_of, ended_list, none_written}
use Rattle.load_maker.proofs.Wanting.{Asks, resize_asks, fork_asks, exec_asks}

-- ---- what is spent

-- the forks that an entry says were granted
abbrev pub forks_of : Entry → ℕ
forks_of e = cond (is_granted_fork e) 1 0

-- the ends that an entry says
abbrev pub ends_of : Entry → ℕ
ends_of e = cond (is_end e) 1 0

-- of one process that goes from a stage to the next
pub record Falls (pages : ℕ) (old new : Stage) (e : Entry) (out most : ℕ) : Type 0 where
  pub instructions : instructions_left pages old ≡ counted e + instructions_left pages new
  pub forks : forks_left old ≡ forks_of e + forks_left new
  pub ends : ends_left old ≡ ends_of e + ends_left new
  pub bytes : bytes_left old ≡ out + bytes_left new
  pub blocks : most + blocks_left new ≤ blocks_left old
  pub heads : heads new ≤ heads old

-- of all of them
pub record Spent (pages : ℕ) (old new : List Stage) (e : Entry) (out most : ℕ) : Type 0 where
  pub instructions : total (instructions_left pages) old ≡ counted e + total (instructions_left pages) new
  pub forks : total forks_left old ≡ forks_of e + total forks_left new
  pub ends : total ends_left old ≡ ends_of e + total ends_left new
  pub bytes : total bytes_left old ≡ out + total bytes_left new
  pub blocks : most + total blocks_left new ≤ total blocks_left old
  pub heads : total heads new ≤ total heads old

sum_is : (a b c d e : ℕ) → a + b ≡ c + d → b ≡ e + d → c ≡ e + a
sum_is a b c d e h k = omega (arith, h, k)

sum_below : (a b c d e : ℕ) → a + b ≡ c + d → e + d ≤ b → e + a ≤ c
sum_below a b c d e h k = omega (arith, h, k)

pub spent : (pages : ℕ) (ks : List Stage) (old new : Stage) (ps : List Process) (e : Entry) (out blocks : ℕ) (put : Put pages ks old new ps)
    → Falls pages old new e out blocks
    → Spent pages ks put.stages e out blocks
spent pages ks old new ps e out blocks put f = record {
  instructions = sum_is (total (instructions_left pages) put.stages) _ _ _ _ (put.totals (instructions_left pages)) f.instructions;
  forks = sum_is (total forks_left put.stages) _ _ _ _ (put.totals forks_left) f.forks;
  ends = sum_is (total ends_left put.stages) _ _ _ _ (put.totals ends_left) f.ends;
  bytes = sum_is (total bytes_left put.stages) _ _ _ _ (put.totals bytes_left) f.bytes;
  blocks = sum_below (total blocks_left put.stages) _ _ _ _ (put.totals blocks_left) f.blocks;
  heads = sum_less (total heads put.stages) _ _ _ (put.totals heads) f.heads;
}
  where
    sum_less : (a b c d : ℕ) → a + b ≡ c + d → d ≤ b → a ≤ c
    sum_less a b c d h k = omega (arith, h, k)

-- ---- all processes

pub record Family (pages : ℕ) (stages : List Stage) (ps : List Process) : Type 0 where
  pub stand : AllStand pages stages ps
  pub awaited : AllAwaited ps ps

-- a step that comes to its end with an entry, before which so many bytes were written
pub record Came (pages : ℕ) (stages : List Stage) (images : List NamedImage) (F : FlatState) (s : Space) (S : Step) (e : Entry) (out : ℕ) : Type 0 where
  pub now : List Stage
  pub family : Family pages now (let G : FlatState = S.after in G.processes)
  pub within : AreWithin (change_wanted images F s S.change)
  pub spent : Spent pages stages now e out (asked (change_wanted images F s S.change))

pub data Went (pages : ℕ) (stages : List Stage) (images : List NamedImage) (F : FlatState) (p : Process) (s : Space) (S : Step) : Type 0 where
  One : (e : Entry) → S.entries ≡ e ∷ [] → output_length e ≡ 0 → Came pages stages images F s S e 0 → Went pages stages images F p s S
  Two : (bytes : List ℕ) (e : Entry) → S.entries ≡ entries.Out p.pid bytes ∷ e ∷ [] → output_length e ≡ 0 → Came pages stages images F s S e (length bytes)
      → Went pages stages images F p s S

-- a process that lives has the children that it had, where it has the parent that it had
live_same : (n : ℕ) (p q : Process) → q.parent ≡ p.parent → is_zombie q.holding ≡ false → lives_for n p ≡ true → lives_for n q ≡ true
live_same n p q parent lives h =
    let a = and_parts (p.parent == n) (not (is_zombie p.holding)) h in
    ap (λ (b : Bool). q.parent == n && not b) lives ∙ (ap (λ (m : ℕ). m == n && true) parent ∙ ap (λ (b : Bool). b && true) a.0)

-- what is known of the process that steps
pub record Stepping (pages : ℕ) (stages : List Stage) (F : FlatState) (pid : ℕ) (p : Process) (k : Stage) : Type 0 where
  pub low : 40 ≤ pages
  pub high : pages < 65
  pub family : Family pages stages F.processes
  pub found : process_of F pid ≡ Some p
  pub number : p.pid ≡ pid
  pub awake : p.asleep ≡ false
  pub at : IsAt pages k p
  pub put : (q : Process) (new : Stage) → q.pid ≡ p.pid → StandsAtStage pages new q → Put pages stages k new (replaced F.processes q)
  pub own : AllDistinct (map (λ (r : Process). r.pid) F.processes)
  pub none : NoneZero F.processes
  pub few : total heads stages ≤ 8

-- another process in the place of the one that steps
put_family : (pages : ℕ) (stages : List Stage) (F : FlatState) (pid : ℕ) (p : Process) (k new : Stage) (h : Stepping pages stages F pid p k) (q : Process)
    (put : Put pages stages k new (replaced F.processes q)) → q.pid ≡ p.pid → q.parent ≡ p.parent → is_zombie q.holding ≡ false
    → (q.asleep ≡ true → has_live q.pid F.processes ≡ true) → Family pages put.stages (replaced F.processes q)
put_family pages stages F pid p k new h q put number parent lives awaited =
    let f : Family pages stages F.processes = h.family in
    record {
      stand = put.stand;
      awaited = awaited_to F.processes (replaced F.processes q) (replaced F.processes q)
          (λ n. goes_replaced n pid F.processes p q h.found number (live_same n p q parent lives))
          (awaited_replaced F.processes F.processes q f.awaited awaited);
    }

-- a step after which another process is in its place
came_put : (pages : ℕ) (stages : List Stage) (images : List NamedImage) (F : FlatState) (pid : ℕ) (p : Process) (k new : Stage)
    (h : Stepping pages stages F pid p k) (s : Space) (S : Step) (q : Process)
    (e : Entry) (out blocks : ℕ) (change : Change) → S.change ≡ change → (let G : FlatState = S.after in G.processes) ≡ replaced F.processes q
    → q.pid ≡ p.pid → q.parent ≡ p.parent
    → is_zombie q.holding ≡ false → (q.asleep ≡ true → has_live q.pid F.processes ≡ true) → StandsAtStage pages new q
    → Asks (change_wanted images F s change) blocks → Falls pages k new e out blocks
    → Came pages stages images F s S e out
came_put pages stages images F pid p k new h s S q e out blocks change is list number parent lives awaited stands asks falls =
    let put : Put pages stages k new (replaced F.processes q) = h.put q new number stands in
    let all : Spent pages stages put.stages e out blocks = spent pages stages k new (replaced F.processes q) e out blocks put falls in
    record {
      now = put.stages;
      family = subst (Family pages put.stages) (sym list) (put_family pages stages F pid p k new h q put number parent lives awaited);
      within = subst (λ (c : Change). AreWithin (change_wanted images F s c)) (sym is) asks.within;
      spent = subst (λ (c : Change). Spent pages stages put.stages e out (asked (change_wanted images F s c))) (sym is) (fewer (asked (change_wanted images F s change)) put.stages asks.few
          all);
    }
  where
    fewer : (n : ℕ) (now : List Stage) → n ≤ blocks → Spent pages stages now e out blocks → Spent pages stages now e out n
    fewer n now le a = record { instructions = a.instructions; forks = a.forks; ends = a.ends; bytes = a.bytes; blocks = let b = a.blocks in omega (arith, le, b); heads = a.heads }

-- ---- an instruction that ran

no_sleep : (p : Process) → p.asleep ≡ false → {X : Type 0} → p.asleep ≡ true → X
no_sleep p a s = absurd (let no : false ≡ true = sym a ∙ s in cc)

kept_went : (pages : ℕ) (stages : List Stage) (images : List NamedImage) (F : FlatState) (pid : ℕ) (p : Process) (k new : Stage) (s : Space)
    → Stepping pages stages F pid p k
    → Steps images F pid p s (step_from images F p s) → Kept images F pages p s new → is_gone new ≡ false → Falls pages k new (entries.Ran p.pid 1) 0 0
    → Went pages stages images F p s (step_from images F p s)
kept_went pages stages images F pid p k new s h steps kept gone falls =
    One (entries.Ran p.pid 1) kept.entries refl
    (came_put pages stages images F pid p k new h s (step_from images F p s) (gone_on p s (step_from images F p s)) (entries.Ran p.pid 1) 0 0 Keep kept.change
    (kept_list images F pid p s (step_from images F p s) steps kept.change) refl refl refl (λ a. no_sleep p h.awake a) (Lives gone kept.stands) (record { within = tt; few = omega arith })
    falls)

ran_falls : (pages pid : ℕ) (old new : Stage) → instructions_left pages old ≡ 1 + instructions_left pages new → forks_left old ≡ forks_left new
    → ends_left old ≡ ends_left new
    → bytes_left old ≡ bytes_left new → blocks_left new ≤ blocks_left old → Falls pages old new (entries.Ran pid 1) 0 0
ran_falls pages pid old new i f x o b = record {
  instructions = i;
  forks = omega (arith, f);
  ends = omega (arith, x);
  bytes = omega (arith, o);
  blocks = omega (arith, b);
  heads = omega (arith, f);
}

rounds_suc : (pages r : ℕ) → rounds_left pages (suc r) ≡ 3 * pages + 3 + rounds_left pages r
unfolding rounds_left
rounds_suc pages r = refl

rounds_none : (pages : ℕ) → rounds_left pages 0 ≡ 0
unfolding rounds_left
rounds_none pages = refl

rounds_first : (pages : ℕ) → rounds_left pages 30 ≡ 3 * pages + 3 + rounds_left pages 29
unfolding rounds_left
rounds_first pages = refl

-- ---- calls

breaks_went : (pages : ℕ) (stages : List Stage) (images : List NamedImage) (F : FlatState) (pid : ℕ) (p : Process)
    (h : Stepping pages stages F pid p AtBreak) → (let at : IsAt pages AtBreak p = h.at in
    Steps images F pid p at.space (step_from images F p at.space) → Went pages stages images F p at.space (step_from images F p at.space))
breaks_went pages stages images F pid p h steps =
    let at : IsAt pages AtBreak p = h.at in let s : Space = at.space in let S : Step = step_from images F p at.space in
    let d : Did (step_from images F p at.space) p 17 (record at.bank { r0 = 0 }) 0x0b (Resize pages 1) = calling.breaks images F pages p at h.high in
    let z : SameSizes at.space (puts at.space S.writes) = puts_sizes S.writes at.space in
    let q : Process = record (gone_on p at.space (step_from images F p at.space)) { holding = Holds (resized (puts at.space S.writes) pages 1) } in
    let l : AreLongwords at.bank = at.longwords in
    let stands : IsAt pages AtFork (record (gone_on p at.space (step_from images F p at.space)) { holding = Holds (resized (puts at.space S.writes) pages 1) }) = record {
      space = resized (puts at.space S.writes) pages 1;
      bank = record at.bank { r0 = 0 };
      holds = refl;
      text = z.text ∙ at.text;
      size = length-resized_bytes pages (let x : Space = puts at.space S.writes in x.data_bytes);
      stack = length-resized_bytes 1 (let x : Space = puts at.space S.writes in x.stack_bytes);
      registers = d.regs;
      longwords = record { r3 = l.r3; r4 = l.r4; r5 = l.r5; ap = l.ap };
      says = tt;
      orphan = λ f. at.orphan f;
      awake = λ w. h.awake;
    } in
    One (entries.Call p.pid 17 false d.r0 d.r1) d.entries refl
    (came_put pages stages images F pid p AtBreak AtFork h at.space (step_from images F p at.space) (record (gone_on p at.space (step_from images F p at.space))
    { holding = Holds (resized (puts at.space S.writes) pages 1) })
    (entries.Call p.pid 17 false d.r0 d.r1) 0 192 (Resize pages 1) d.change
    (resized_list images F pid p at.space (step_from images F p at.space) pages 1 steps d.change) refl refl refl (λ a. no_sleep p h.awake a) (Lives refl stands)
    (resize_asks images F at.space pages h.low h.high at.size at.stack)
    (record { instructions = omega arith; forks = refl; ends = refl; bytes = refl; blocks = omega arith; heads = omega arith }))

writes_went : (pages : ℕ) (stages : List Stage) (images : List NamedImage) (F : FlatState) (pid : ℕ) (t : LoadProgram) (p : Process)
    (h : Stepping pages stages F pid p (AtWrite t)) → (let at : IsAt pages (AtWrite t) p = h.at in
    Steps images F pid p at.space (step_from images F p at.space) → Went pages stages images F p at.space (step_from images F p at.space))
writes_went pages stages images F pid t p h steps =
    let at : IsAt pages (AtWrite t) p = h.at in let l : AreLongwords at.bank = at.longwords in let b : Bank = at.bank in
    let d : calling.Wrote (step_from images F p at.space) p (output_of t) (record at.bank { r0 = 2 }) (end_at t + 9) = calling.writes images F pages t p at in
    let stands : IsAt pages (BeforeExit t) (gone_on p at.space (step_from images F p at.space)) =
    goes_to pages (AtWrite t) (BeforeExit t) p at (step_from images F p at.space) (record at.bank { r0 = 2 }) (record { text = refl; size = refl; first = λ f. absurd cc }) d.regs
    (record { r3 = l.r3; r4 = l.r4; r5 = l.r5; ap = l.ap }) tt h.awake in
    Two (output_of t) (entries.Call p.pid 4 false 2 b.r1) d.entries refl
    (came_put pages stages images F pid p (AtWrite t) (BeforeExit t) h at.space (step_from images F p at.space) (gone_on p at.space (step_from images F p at.space))
    (entries.Call p.pid 4 false 2 b.r1) (length (output_of t)) 0 Keep d.change
    (kept_list images F pid p at.space (step_from images F p at.space) steps d.change) refl refl refl (λ a. no_sleep p h.awake a) (Lives refl stands)
    (record { within = tt; few = omega arith })
    (record { instructions = refl; forks = refl; ends = refl; bytes = two t; blocks = omega arith; heads = omega arith }))
  where
    two : (u : LoadProgram) → 2 ≡ length (output_of u) + 0
    two W = refl
    two V = refl

page_long : length (start_page []) ≡ 1024
unfolding argument_area
page_long = refl

runs_went : (pages : ℕ) (stages : List Stage) (F : FlatState) (pid : ℕ) (p : Process) (h : Stepping pages stages F pid p AtExecve)
    → (let at : IsAt pages AtExecve p = h.at in
    Steps (images_for pages) F pid p at.space (step_from (images_for pages) F p at.space)
    → Went pages stages (images_for pages) F p at.space (step_from (images_for pages) F p at.space))
unfolding text_page
runs_went pages stages F pid p h steps =
    let at : IsAt pages AtExecve p = h.at in let S : Step = step_from (images_for pages) F p at.space in
    let named : NamedImage = record { name = 0x76 ∷ []; image = one_page_image (v_bytes pages) (v_bss pages) } in
    let d : Did (step_from (images_for pages) F p at.space) p 59 fresh_bank 2 (Exec 2 (start_page [])) = calling.runs F pages p at in
    let q : Process = record (gone_on p at.space (step_from (images_for pages) F p at.space)) {
      holding = Holds (space_with F.next_sid 2 (one_page_image (v_bytes pages) (v_bss pages))
          (start_page []));
    } in
    let stands : IsAt pages (AtBegin V) (record (gone_on p at.space (step_from (images_for pages) F p at.space)) {
      holding = Holds
          (space_with F.next_sid 2 (one_page_image (v_bytes pages) (v_bss pages)) (start_page []));
    }) = record {
      space = space_with F.next_sid 2 (one_page_image (v_bytes pages) (v_bss pages)) (start_page []);
      bank = fresh_bank;
      holds = refl;
      text = refl;
      size = length-replicate (1024 * pages_for (1024 * pages)) (let z : ℕ = 0 in z) ∙ whole pages;
      stack = page_long;
      registers = d.regs;
      longwords = record { r3 = omega arith; r4 = omega arith; r5 = omega arith; ap = omega arith };
      says = tt;
      orphan = λ f. absurd cc;
      awake = λ w. h.awake;
    } in
    let put = h.put (record (gone_on p at.space (step_from (images_for pages) F p at.space)) {
      holding = Holds (space_with F.next_sid 2 (one_page_image (v_bytes pages) (v_bss pages))
          (start_page []));
    }) (AtBegin V) refl (Lives refl stands) in
    One (entries.Call p.pid 59 false d.r0 d.r1) d.entries refl
    (came_put pages stages (images_for pages) F pid p AtExecve (AtBegin V) h at.space (step_from (images_for pages) F p at.space)
    (record (gone_on p at.space (step_from (images_for pages) F p at.space)) { holding = Holds (space_with F.next_sid 2 (one_page_image (v_bytes pages) (v_bss pages)) (start_page [])) })
    (entries.Call p.pid 59 false d.r0 d.r1) 0 258 (Exec 2 (start_page [])) d.change
    (entered_list (images_for pages) F pid p at.space (step_from (images_for pages) F p at.space) 2 named (start_page []) steps d.change refl
    ∙ none_returned pages put.stages _ p.pid _ put.stand)
    refl refl refl (λ a. no_sleep p h.awake a) (Lives refl stands)
    (exec_asks F at.space pages (start_page []) h.low h.high)
    (record { instructions = refl; forks = refl; ends = refl; bytes = refl; blocks = omega arith; heads = omega arith }))
  where
    whole : (n : ℕ) → 1024 * pages_for (1024 * n) ≡ 1024 * n
    whole n = omega arith

-- ---- fork

found_own : (F : FlatState) (pid : ℕ) (p : Process) → process_of F pid ≡ Some p → p.pid ≡ pid → process_of F p.pid ≡ Some p
found_own F pid p f e = subst (λ (n : ℕ). process_of F n ≡ Some p) (sym e) f

-- one more process, which is awake
more_family : (pages : ℕ) (ks : List Stage) (ps : List Process) (k : Stage) (c : Process) → Family pages ks ps → StandsAtStage pages k c → c.asleep ≡ false
    → Family pages (ks ++ k ∷ []) (ps ++ c ∷ [])
more_family pages ks ps k c f s a = record {
  stand = one_more pages ks ps k c f.stand s;
  awaited = awaited_to ps (ps ++ c ∷ []) (ps ++ c ∷ []) (λ n. goes_more n ps c) (awaited_more ps ps c f.awaited a);
}

forked_spent : (pages : ℕ) (old now : List Stage) (pid r0 r1 most : ℕ) → ((f : Stage → ℕ) → total f now + f AtFork ≡ total f old + f (AtParting false))
    → most ≤ 258
    → Spent pages old (now ++ AtParting true ∷ []) (entries.Call pid 2 false r0 r1) 0 most
forked_spent pages old now pid r0 r1 most totals few = record {
  instructions = let a = totals (instructions_left pages) in let b = total_more (instructions_left pages) now (AtParting true) in omega (arith, a, b);
  forks = let a = totals forks_left in let b = total_more forks_left now (AtParting true) in omega (arith, a, b);
  ends = let a = totals ends_left in let b = total_more ends_left now (AtParting true) in omega (arith, a, b);
  bytes = let a = totals bytes_left in let b = total_more bytes_left now (AtParting true) in omega (arith, a, b);
  blocks = let a = totals blocks_left in let b = total_more blocks_left now (AtParting true) in omega (arith, a, b, few);
  heads = let a = totals heads in let b = total_more heads now (AtParting true) in omega (arith, a, b);
}

forks_went : (pages : ℕ) (stages : List Stage) (images : List NamedImage) (F : FlatState) (pid : ℕ) (p : Process) (h : Stepping pages stages F pid p AtFork)
    → (let at : IsAt pages AtFork p = h.at in
    Steps images F pid p at.space (step_from images F p at.space) → Went pages stages images F p at.space (step_from images F p at.space))
forks_went pages stages images F pid p h steps =
    let at : IsAt pages AtFork p = h.at in let l : AreLongwords at.bank = at.longwords in let S : Step = step_from images F p at.space in let fam : Family pages stages F.processes = h.family
    in
    let same : apply_writes F p.pid [] ≡ F = none_written F p at.space (found_own F pid p h.found h.number) at.holds in
    let few : length (apply_writes F p.pid []).processes < 64 = ap_few (apply_writes F p.pid []) same (few_heads pages stages F.processes fam.stand) h.few in
    let child : ℕ = (apply_writes F p.pid []).next_pid in
    let d : Did (step_from images F p at.space) p 2 (record at.bank { r0 = (apply_writes F p.pid []).next_pid; r1 = 0 }) 0x0d (Fork (apply_writes F p.pid []).next_pid) = calling.forks
    images F pages p at few in
    let z : SameSizes at.space (puts at.space S.writes) = puts_sizes S.writes at.space in
    let mine : IsAt pages (AtParting false) (gone_on p at.space (step_from images F p at.space)) =
    goes_to pages AtFork (AtParting false) p at (step_from images F p at.space) (record at.bank { r0 = (apply_writes F p.pid []).next_pid; r1 = 0 })
    (record { text = refl; size = refl; first = λ f. refl }) d.regs
    (record { r3 = l.r3; r4 = l.r4; r5 = l.r5; ap = l.ap }) refl h.awake in
    let its : IsAt pages (AtParting true) (child_of (gone_on p at.space (step_from images F p at.space)) (apply_writes F p.pid []).next_pid
    (record (puts at.space S.writes) { sid = F.next_sid })) = record {
      space = record (puts at.space S.writes) { sid = F.next_sid };
      bank = record at.bank { r0 = p.pid; r1 = 1 };
      holds = refl;
      text = z.text ∙ at.text;
      size = z.size ∙ at.size;
      stack = z.stack ∙ at.stack;
      registers = ap (λ (rs : List ℕ). slice_set (slice_set rs 0 p.pid) 1 1) d.regs;
      longwords = record { r3 = l.r3; r4 = l.r4; r5 = l.r5; ap = l.ap };
      says = refl;
      orphan = λ f. absurd cc;
      awake = λ w. refl;
    } in
    let put : Put pages stages AtFork (AtParting false) (replaced F.processes (gone_on p at.space (step_from images F p at.space))) = h.put (gone_on p at.space (step_from images F p at.space))
    (AtParting false) refl (Lives refl mine) in
    let both : Family pages put.stages (replaced F.processes (gone_on p at.space (step_from images F p at.space))) =
    put_family pages stages F pid p AtFork (AtParting false) h (gone_on p at.space (step_from images F p at.space)) put refl refl refl (λ a. no_sleep p h.awake a) in
    let asks = fork_asks images F at.space pages (apply_writes F p.pid []).next_pid h.low h.high at.size at.stack in
    One (entries.Call p.pid 2 false d.r0 d.r1) d.entries refl (record {
      now = put.stages ++ AtParting true ∷ [];
      family = subst (Family pages (put.stages ++ AtParting true ∷ [])) (sym (forked_list images F pid p at.space (step_from images F p at.space) (apply_writes F p.pid []).next_pid steps
          d.change))
          (more_family pages put.stages (replaced F.processes (gone_on p at.space (step_from images F p at.space))) (AtParting true) _ both (Lives refl its) refl);
      within = subst (λ (c : Change). AreWithin (change_wanted images F at.space c)) (sym d.change) asks.within;
      spent = subst (λ (c : Change). Spent pages stages (put.stages ++ AtParting true ∷ []) (entries.Call p.pid 2 false d.r0 d.r1) 0 (asked (change_wanted images F at.space c))) (sym d.change)
          (forked_spent pages stages put.stages p.pid d.r0 d.r1 (asked (change_wanted images F at.space (Fork (apply_writes F p.pid []).next_pid))) put.totals asks.few);
    })
  where
    ap_few : (G : FlatState) → G ≡ F → length F.processes + total forks_left stages ≤ total heads stages → total heads stages ≤ 8 → length G.processes < 64
    ap_few G e a b = subst (λ (H : FlatState). length H.processes < 64) (sym e) (omega (arith, a, b))

-- ---- exit

ended_falls : (pages pid : ℕ) (t : LoadProgram) → Falls pages (AtExit t) Gone (entries.Ended pid 0) 0 0
ended_falls pages pid t = record { instructions = refl; forks = refl; ends = refl; bytes = refl; blocks = omega arith; heads = omega arith }

-- less is left where zombies go
fewer_spent : (pages : ℕ) (old now : List Stage) (ps : List Process) (e : Entry) (out most : ℕ) → Spent pages old now e out most → (f : Fewer pages now ps)
    → Spent pages old f.stages e out most
fewer_spent pages old now ps e out most s f = record {
  instructions = let a = f.totals (instructions_left pages) refl in let b = s.instructions in omega (arith, a, b);
  forks = let a = f.totals forks_left refl in let b = s.forks in omega (arith, a, b);
  ends = let a = f.totals ends_left refl in let b = s.ends in omega (arith, a, b);
  bytes = let a = f.totals bytes_left refl in let b = s.bytes in omega (arith, a, b);
  blocks = let a = f.totals blocks_left refl in let b = s.blocks in omega (arith, a, b);
  heads = let a = f.fewer heads in let b = s.heads in omega (arith, a, b);
}

exits_went : (pages : ℕ) (stages : List Stage) (images : List NamedImage) (F : FlatState) (pid : ℕ) (t : LoadProgram) (p : Process)
    (h : Stepping pages stages F pid p (AtExit t)) → (let at : IsAt pages (AtExit t) p = h.at in
    Steps images F pid p at.space (step_from images F p at.space) → Went pages stages images F p at.space (step_from images F p at.space))
exits_went pages stages images F pid t p h steps = go (p.parent == 0) refl
  where
    at : IsAt pages (AtExit t) p
    at = h.at

    fam : Family pages stages F.processes
    fam = h.family

    S : Step
    S = step_from images F p at.space

    d : calling.Ended S p
    d = calling.exits images F pages t p at

    ghost : Process
    ghost = ghost_of p at.space S 0

    put : Put pages stages (AtExit t) Gone (replaced F.processes ghost)
    put = h.put ghost Gone refl (Ended refl 0 refl h.awake)

    own : find (λ r. r.pid == p.pid) F.processes ≡ Some p
    own = found_own F pid p h.found h.number

    ends : Ends p.pid F.processes p ghost
    ends = record { found = own; number = refl; same = refl; awake = h.awake; own = h.own; awaited = fam.awaited }

    first : Fewer pages put.stages (filter (λ r. not (is_zombie_child p.pid r)) (replaced F.processes ghost))
    first = sifted pages put.stages (replaced F.processes ghost) (λ r. not (is_zombie_child p.pid r)) put.stand (zombies_out p.pid (replaced F.processes ghost))

    all : AllStand pages first.stages (left_by p.pid F.processes ghost)
    all = mapped pages first.stages (filter (λ r. not (is_zombie_child p.pid r)) (replaced F.processes ghost)) _ (λ k q. parted pages p.pid k q) first.stand

    once : Spent pages stages first.stages (entries.Ended p.pid 0) 0 0
    once = fewer_spent pages stages put.stages _ (entries.Ended p.pid 0) 0 0 (spent pages stages (AtExit t) Gone (replaced F.processes ghost) (entries.Ended p.pid 0) 0 0 put
        (ended_falls pages p.pid t)) first

    none : AreWithin (change_wanted images F at.space S.change)
    none = subst (λ (c : Change). AreWithin (change_wanted images F at.space c)) (sym d.change) tt

    asks : (now : List Stage) → Spent pages stages now (entries.Ended p.pid 0) 0 0
        → Spent pages stages now (entries.Ended p.pid 0) 0 (asked (change_wanted images F at.space S.change))
    asks now a = subst (λ (c : Change). Spent pages stages now (entries.Ended p.pid 0) 0 (asked (change_wanted images F at.space c))) (sym d.change) a

    list : (b : Bool) → (p.parent == 0) ≡ b → (let G : FlatState = S.after in G.processes)
        ≡ cond b (filter (λ r. not (r.pid == p.pid)) (left_by p.pid F.processes ghost)) (map (awake p.parent) (left_by p.pid F.processes ghost))
    list b e = ended_list images F pid p at.space S 0 steps d.change (none_returned pages put.stages (replaced F.processes ghost) p.pid (puts at.space S.writes) put.stand) b e

    go : (b : Bool) → (p.parent == 0) ≡ b → Went pages stages images F p at.space S
    go true e =
        let out : LeavesOut (λ r. not (r.pid == p.pid)) (left_by p.pid F.processes ghost) = left_zombies p.pid F.processes p ghost own refl refl h.own in
        let last : Fewer pages first.stages (filter (λ r. not (r.pid == p.pid)) (left_by p.pid F.processes ghost)) = sifted pages first.stages (left_by p.pid F.processes ghost)
        (λ r. not (r.pid == p.pid)) all out in
        One (entries.Ended p.pid 0) d.entries refl (record {
          now = last.stages;
          family = subst (Family pages last.stages) (sym (list true e)) (record {
            stand = last.stand;
            awaited = awaited_gone p.pid F.processes p ghost ends h.none (eqb-true p.parent 0 e)
                out;
          });
          within = none;
          spent = asks last.stages (fewer_spent pages stages first.stages _ (entries.Ended p.pid 0) 0 0 once last);
        })
    go false e =
        One (entries.Ended p.pid 0) d.entries refl (record {
          now = first.stages;
          family = subst (Family pages first.stages) (sym (list false e)) (record {
            stand = mapped pages first.stages (left_by p.pid F.processes ghost) (awake p.parent) (λ k q. roused pages p.parent k q) all;
            awaited = awaited_left p.pid F.processes p ghost ends;
          });
          within = none;
          spent = asks first.stages once;
        })

-- ---- wait

waited_falls : (pages pid r0 r1 : ℕ) (failed : Bool) → Falls pages AtWait (BeforeWrite W) (entries.Call pid 84 failed r0 r1) 0 0
waited_falls pages pid r0 r1 true = record { instructions = refl; forks = refl; ends = refl; bytes = refl; blocks = omega arith; heads = omega arith }
waited_falls pages pid r0 r1 false = record { instructions = refl; forks = refl; ends = refl; bytes = refl; blocks = omega arith; heads = omega arith }

waits_went : (pages : ℕ) (stages : List Stage) (images : List NamedImage) (F : FlatState) (pid : ℕ) (p : Process) (h : Stepping pages stages F pid p AtWait)
    → (let at : IsAt pages AtWait p = h.at in
    Steps images F pid p at.space (step_from images F p at.space) → Went pages stages images F p at.space (step_from images F p at.space))
waits_went pages stages images F pid p h steps = go (subst (λ (G : FlatState). Waited G p (let at : IsAt pages AtWait p = h.at in at.bank)
    (step_from images F p (let at : IsAt pages AtWait p = h.at in at.space))) same (calling.waits images F pages p h.at))
  where
    at : IsAt pages AtWait p
    at = h.at

    fam : Family pages stages F.processes
    fam = h.family

    own : process_of F p.pid ≡ Some p
    own = found_own F pid p h.found h.number

    same : apply_writes F p.pid [] ≡ F
    same = none_written F p at.space own at.holds

    S : Step
    S = step_from images F p at.space

    l : AreLongwords at.bank
    l = at.longwords

    apart : (zombie : Process) → find (is_zombie_child p.pid) F.processes ≡ Some zombie → p.pid ≢ zombie.pid
    apart zombie f e =
        let alone : find (λ r. r.pid == zombie.pid) F.processes ≡ Some zombie = found_by_number (is_zombie_child p.pid) F.processes zombie h.own f in
        let mine : find (λ r. r.pid == zombie.pid) F.processes ≡ Some p = subst (λ (n : ℕ). find (λ r. r.pid == n) F.processes ≡ Some p) e own in
        let is : p ≡ zombie = same_Some p zombie (sym mine ∙ alone) in
        let z : is_zombie zombie.holding ≡ true = (and_parts (zombie.parent == p.pid) (is_zombie zombie.holding) (zombie_passes p.pid F.processes zombie f)).1 in
        let no : false ≡ true = sym (ap is_zombie at.holds) ∙ (ap (λ (q : Process). is_zombie q.holding) is ∙ z) in absurd cc

    reaps : (zombie : Process) (status : ℕ) → find (is_zombie_child p.pid) F.processes ≡ Some zombie
        → Did S p 84 (record at.bank { r0 = zombie.pid; r1 = status }) 0x34 (Reap zombie.pid)
        → Went pages stages images F p at.space S
    reaps zombie status f d =
        let stands : IsAt pages (BeforeWrite W) (gone_on p at.space S) =
        goes_to pages AtWait (BeforeWrite W) p at S (record at.bank { r0 = zombie.pid; r1 = status }) (record { text = refl; size = refl; first = λ f. absurd cc }) d.regs
        (record { r3 = l.r3; r4 = l.r4; r5 = l.r5; ap = l.ap }) tt h.awake in
        let put : Put pages stages AtWait (BeforeWrite W) (replaced F.processes (gone_on p at.space S)) = h.put (gone_on p at.space S) (BeforeWrite W) refl (Lives refl stands) in
        let both : Family pages put.stages (replaced F.processes (gone_on p at.space S)) = put_family pages stages F pid p AtWait (BeforeWrite W) h (gone_on p at.space S) put refl refl refl
        (λ a. no_sleep p h.awake a) in
        let z : is_zombie zombie.holding ≡ true = (and_parts (zombie.parent == p.pid) (is_zombie zombie.holding) (zombie_passes p.pid F.processes zombie f)).1 in
        let dead : AllZombies zombie.pid (replaced F.processes (gone_on p at.space S)) =
        zombies_put zombie.pid F.processes (gone_on p at.space S) (apart zombie f) (found_zombies zombie.pid F.processes zombie
        (found_by_number (is_zombie_child p.pid) F.processes zombie h.own f) z h.own) in
        let out : LeavesOut (λ r. not (r.pid == zombie.pid)) (replaced F.processes (gone_on p at.space S)) = leaves_zombies zombie.pid (replaced F.processes (gone_on p at.space S)) dead in
        let less : Fewer pages put.stages (filter (λ r. not (r.pid == zombie.pid)) (replaced F.processes (gone_on p at.space S))) =
        sifted pages put.stages (replaced F.processes (gone_on p at.space S)) (λ r. not (r.pid == zombie.pid)) put.stand out in
        let once : Spent pages stages less.stages (entries.Call p.pid 84 false d.r0 d.r1) 0 0 =
        fewer_spent pages stages put.stages _ (entries.Call p.pid 84 false d.r0 d.r1) 0 0 (spent pages stages AtWait (BeforeWrite W) _ (entries.Call p.pid 84 false d.r0 d.r1) 0 0 put
        (waited_falls pages p.pid d.r0 d.r1 false)) less in
        One (entries.Call p.pid 84 false d.r0 d.r1) d.entries refl (record {
          now = less.stages;
          family = subst (Family pages less.stages) (sym (reaped_list images F pid p at.space S zombie.pid steps d.change (apart zombie f))) (record {
            stand = less.stand;
            awaited = awaited_to (replaced F.processes (gone_on p at.space S)) _ _ (λ n. goes_sifted n (replaced F.processes (gone_on p at.space S)) (λ r. not (r.pid == zombie.pid)) out)
                (awaited_sifted (replaced F.processes (gone_on p at.space S)) (replaced F.processes (gone_on p at.space S)) (λ r. not (r.pid == zombie.pid)) both.awaited);
          });
          within = subst (λ (c : Change). AreWithin (change_wanted images F at.space c)) (sym d.change) tt;
          spent = subst (λ (c : Change). Spent pages stages less.stages (entries.Call p.pid 84 false d.r0 d.r1) 0 (asked (change_wanted images F at.space c))) (sym d.change) once;
        })

    go : Waited F p at.bank S → Went pages stages images F p at.space S
    go (Reaped zombie status f d) = reaps zombie status f d
    go (Failed r0 r1 e c w regs) =
        let stands : IsAt pages (BeforeWrite W) (gone_on p at.space S) =
        goes_to pages AtWait (BeforeWrite W) p at S (record at.bank { r0 = r0 }) (record { text = refl; size = refl; first = λ f. absurd cc }) regs
        (record { r3 = l.r3; r4 = l.r4; r5 = l.r5; ap = l.ap }) tt h.awake in
        One (entries.Call p.pid 84 true r0 r1) e refl
        (came_put pages stages images F pid p AtWait (BeforeWrite W) h at.space S (gone_on p at.space S) (entries.Call p.pid 84 true r0 r1) 0 0 Keep c
        (kept_list images F pid p at.space S steps c) refl refl refl (λ a. no_sleep p h.awake a) (Lives refl stands) (record { within = tt; few = omega arith })
        (waited_falls pages p.pid r0 r1 true))
    go (Slept child f n e c w regs) =
        let z : SameSizes at.space (puts at.space S.writes) = puts_sizes S.writes at.space in
        let stands : IsAt pages AtWait (record (gone_on p at.space S) { asleep = true }) = record {
          space = puts at.space S.writes;
          bank = at.bank;
          holds = refl;
          text = z.text ∙ at.text;
          size = z.size ∙ at.size;
          stack = z.stack ∙ at.stack;
          registers = ap (λ (r : Regs). r.r) regs ∙ at.registers;
          longwords = at.longwords;
          says = tt;
          orphan = at.orphan;
          awake = λ w. absurd cc;
        } in
        One (entries.Sleeps p.pid) e refl
        (came_put pages stages images F pid p AtWait AtWait h at.space S (record (gone_on p at.space S) { asleep = true }) (entries.Sleeps p.pid) 0 0 Sleep c
        (slept_list images F pid p at.space S steps c) refl refl refl (λ a. live_found p.pid F.processes child f n) (Lives refl stands) (record { within = tt; few = omega arith })
        (record { instructions = refl; forks = refl; ends = refl; bytes = refl; blocks = omega arith; heads = omega arith }))

-- ---- each stage

loads_sum : (pages r : ℕ) → 40 ≤ pages → 1 + (3 * pages + r) ≡ 1 + (3 + (3 * (pages - 1) + r))
loads_sum pages r low = omega (arith, low)

pub went : (pages : ℕ) (stages : List Stage) (F : FlatState) (pid : ℕ) (p : Process) (k : Stage) (h : Stepping pages stages F pid p k) → is_gone k ≡ false
    → (let at : IsAt pages k p = h.at in
    Steps (images_for pages) F pid p at.space (step_from (images_for pages) F p at.space)
    → Went pages stages (images_for pages) F p at.space (step_from (images_for pages) F p at.space))
went pages stages F pid p BeforeBreak h g steps =
    kept_went pages stages (images_for pages) F pid p BeforeBreak AtBreak _ h steps (going.will_break (images_for pages) F pages p h.at h.awake) refl
    (ran_falls pages p.pid BeforeBreak AtBreak (omega arith) refl refl refl (omega arith))
went pages stages F pid p AtBreak h g steps = breaks_went pages stages (images_for pages) F pid p h steps
went pages stages F pid p AtFork h g steps = forks_went pages stages (images_for pages) F pid p h steps
went pages stages F pid p (AtParting true) h g steps =
    kept_went pages stages (images_for pages) F pid p (AtParting true) BeforeExecve _ h steps (going.parts (images_for pages) F pages true p h.at h.awake) refl
    (ran_falls pages p.pid (AtParting true) BeforeExecve (omega arith) refl refl refl (omega arith))
went pages stages F pid p (AtParting false) h g steps =
    kept_went pages stages (images_for pages) F pid p (AtParting false) (AtBegin W) _ h steps (going.parts (images_for pages) F pages false p h.at h.awake) refl
    (ran_falls pages p.pid (AtParting false) (AtBegin W) refl refl refl refl (omega arith))
went pages stages F pid p (AtBegin t) h g steps =
    kept_went pages stages (images_for pages) F pid p (AtBegin t) (AtRound t 29) _ h steps (going.begins (images_for pages) F pages t p h.at h.awake) refl
    (ran_falls pages p.pid (AtBegin t) (AtRound t 29) (let e = rounds_first pages in omega (arith, e)) refl refl refl (omega arith))
went pages stages F pid p (AtRound t r) h g steps =
    kept_went pages stages (images_for pages) F pid p (AtRound t r) (AtCount t r) _ h steps (going.rounds (images_for pages) F pages t r p h.at h.awake) refl
    (ran_falls pages p.pid (AtRound t r) (AtCount t r) (omega arith) refl refl refl (omega arith))
went pages stages F pid p (AtCount t r) h g steps =
    kept_went pages stages (images_for pages) F pid p (AtCount t r) (AtChange t r (pages - 1)) _ h steps (going.loads (images_for pages) F pages t r p h.at (let a = h.low in omega (arith, a))
    h.high h.awake) refl
    (ran_falls pages p.pid (AtCount t r) (AtChange t r (pages - 1)) (loads_sum pages _ h.low) refl refl refl (omega arith))
went pages stages F pid p (AtChange t r m) h g steps =
    kept_went pages stages (images_for pages) F pid p (AtChange t r m) (AtMove t r m) _ h steps (going.changes (images_for pages) F pages t r m p h.at h.high h.awake) refl
    (ran_falls pages p.pid (AtChange t r m) (AtMove t r m) (omega arith) refl refl refl (omega arith))
went pages stages F pid p (AtMove t r m) h g steps =
    kept_went pages stages (images_for pages) F pid p (AtMove t r m) (AtPageEnd t r m) _ h steps (going.moves (images_for pages) F pages t r m p h.at h.high h.awake) refl
    (ran_falls pages p.pid (AtMove t r m) (AtPageEnd t r m) (omega arith) refl refl refl (omega arith))
went pages stages F pid p (AtPageEnd t r zero) h g steps =
    kept_went pages stages (images_for pages) F pid p (AtPageEnd t r zero) (AtRoundEnd t r) _ h steps (going.closes_off (images_for pages) F pages t r p h.at h.awake) refl
    (ran_falls pages p.pid (AtPageEnd t r zero) (AtRoundEnd t r) (omega arith) refl refl refl (omega arith))
went pages stages F pid p (AtPageEnd t r (suc m)) h g steps =
    kept_went pages stages (images_for pages) F pid p (AtPageEnd t r (suc m)) (AtChange t r m) _ h steps (going.closes_on (images_for pages) F pages t r m p h.at h.high h.awake) refl
    (ran_falls pages p.pid (AtPageEnd t r (suc m)) (AtChange t r m) (omega arith) refl refl refl (omega arith))
went pages stages F pid p (AtRoundEnd t (suc r)) h g steps =
    kept_went pages stages (images_for pages) F pid p (AtRoundEnd t (suc r)) (AtRound t r) _ h steps (going.repeats_on (images_for pages) F pages t r p h.at h.awake) refl
    (ran_falls pages p.pid (AtRoundEnd t (suc r)) (AtRound t r) (let e = rounds_suc pages r in omega (arith, e)) refl refl refl (omega arith))
went pages stages F pid p (AtRoundEnd W zero) h g steps =
    kept_went pages stages (images_for pages) F pid p (AtRoundEnd W zero) AtWait _ h steps (going.repeats_off (images_for pages) F pages W p h.at h.awake) refl
    (ran_falls pages p.pid (AtRoundEnd W zero) AtWait (let e = rounds_none pages in omega (arith, e)) refl refl refl (omega arith))
went pages stages F pid p (AtRoundEnd V zero) h g steps =
    kept_went pages stages (images_for pages) F pid p (AtRoundEnd V zero) (BeforeWrite V) _ h steps (going.repeats_off (images_for pages) F pages V p h.at h.awake) refl
    (ran_falls pages p.pid (AtRoundEnd V zero) (BeforeWrite V) (let e = rounds_none pages in omega (arith, e)) refl refl refl (omega arith))
went pages stages F pid p AtWait h g steps = waits_went pages stages (images_for pages) F pid p h steps
went pages stages F pid p (BeforeWrite t) h g steps =
    kept_went pages stages (images_for pages) F pid p (BeforeWrite t) (AtWrite t) _ h steps (going.will_write (images_for pages) F pages t p h.at h.awake) refl
    (ran_falls pages p.pid (BeforeWrite t) (AtWrite t) (omega arith) refl refl refl (omega arith))
went pages stages F pid p (AtWrite t) h g steps = writes_went pages stages (images_for pages) F pid t p h steps
went pages stages F pid p (BeforeExit t) h g steps =
    kept_went pages stages (images_for pages) F pid p (BeforeExit t) (AtExit t) _ h steps (going.will_exit (images_for pages) F pages t p h.at h.awake) refl
    (ran_falls pages p.pid (BeforeExit t) (AtExit t) (omega arith) refl refl refl (omega arith))
went pages stages F pid p (AtExit t) h g steps = exits_went pages stages (images_for pages) F pid t p h steps
went pages stages F pid p BeforeExecve h g steps =
    kept_went pages stages (images_for pages) F pid p BeforeExecve AtExecve _ h steps (going.will_run (images_for pages) F pages p h.at h.awake) refl
    (ran_falls pages p.pid BeforeExecve AtExecve (omega arith) refl refl refl (omega arith))
went pages stages F pid p AtExecve h g steps = runs_went pages stages F pid p h steps
went pages stages F pid p Gone h g steps = absurd cc
