-- After `Grew` its process touches what it touched, and at least one page more.
use Rattle.std.proofs.Common.{◌≡◌, ℕ, ◌+◌, ◌≤◌, Bool, true, false, List, [], ◌∷◌, ◌++◌, length, filter_map, Option, Some, None, Result, Err, if◌then◌else◌, refl, sym, ap, ◌∙◌, subst, arith}
use Rattle.flat_state.specs.Space.{Space, stack_top, answers_of}
use Rattle.flat_state.specs.Flat.{Holding, Holds, Process, FlatState, NamedImage, Inputs, holds_space, is_ready, ready_if, process_of}
use Rattle.vm_facts.specs.declared.regs.Regs.{Regs}
use Rattle.vm_facts.specs.declared.page.Page.{Page}
use Rattle.vm_facts.specs.declared.entry.Entry.TheVariants as entries
use Rattle.user_vax.specs.Effects.{Effect}
use Rattle.user_vax.specs.Instruction.{instruction}
use Rattle.user_vax.specs.Program.{ByteAccess, accesses}
use Rattle.user_vax.specs.declared.refused.Refused.{Refused}
use Rattle.user_vax.specs.declared.refused.Refused.TheVariants.{Below}
use Rattle.flat_state.specs.declared.change.Change.TheVariants.{Resize}
use Rattle.flat_state.specs.Change.{with_process, changed_if, apply_change, wrote_by, wrote_if, apply_writes, resized}
use Rattle.kernel_model.specs.Coupled.{Fits, SameTables}
use Rattle.page_model.specs.Pages.{SpacePages, numbered}
use Rattle.page_model.specs.Placement.{space_number}
use Rattle.run_laws.proofs.FlatLawsAsking.{own_space}
use Rattle.run_laws.proofs.Others.{number_of_found}
use Rattle.run_laws.proofs.Shown.{is_touched}
use Rattle.flat_model.specs.Instruction.{instruction_in}
use Rattle.flat_model.specs.Run.{step_at, is_refused}
use Rattle.flat_model.specs.Step.{Step, data_pages_of, pages_down_to}
use Rattle.flat_model.specs.Touched.{page_of_access, accesses_after, step_accesses, distinct, touched}
use Rattle.run_model.specs.After.{after}
use Rattle.run_model.specs.Kinds.{ProcessRuns}
use Rattle.run_laws.specs.Standing.{machine_of, Placed}
use Rattle.run_laws.proofs.Acts.{Stepper, stepper, Stepped, Completes, completes}
use Rattle.run_laws.proofs.Flows.{Acted, Settles, Refuses, Steps, acted, on_steps}
use Rattle.economy_laws.specs.Stretch.{Extends, GrowthTouches}
use Rattle.economy_laws.proofs.Stretching.{open_last}
use Rattle.economy_laws.proofs.Sleeping.{Does, does}
use Rattle.economy_laws.proofs.Steps.{Grows, grows_of}
use Rattle.run_laws.proofs.Forms.{step_is}
use Rattle.economy_laws.proofs.Idle.{open_due, stepped_by}
use Rattle.run_laws.proofs.Finding.{found_after}
use Rattle.economy_laws.proofs.Growing.{below_spot, spot_below}
use Rattle.economy_laws.proofs.Extending.{Bigger, Reached, reached, pages_extend}

-- the process once its stack has grown
pub grown_process : (images : List NamedImage) (F : FlatState) (pid : ℕ) (q : Process) (s : Space) (regs : Regs) (d t : ℕ) → process_of F pid ≡ Some q
    → q.holding ≡ Holds s
    → process_of (apply_change images (apply_writes F pid []) pid regs (Resize d t)) pid ≡ Some (record q { regs = regs; holding = Holds (resized s d t) })
unfolding apply_change apply_writes
grown_process images F pid q s regs d t e h =
    let n : q.pid ≡ pid = number_of_found F.processes pid q e in
    let written : wrote_if F [] (process_of F pid) ≡ with_process F (record q { holding = Holds s }) = ap (wrote_if F []) e ∙ ap (wrote_by F q []) h in
    let found : process_of (with_process F (record q { holding = Holds s })) pid ≡ Some (record q { holding = Holds s }) = found_after F pid q (record q { holding = Holds s }) e n in
    ap (λ (G : FlatState). process_of (changed_if images G regs (Resize d t) (process_of G pid)) pid) written
    ∙ ap (λ (o : Option Process). process_of (changed_if images (with_process F (record q { holding = Holds s })) regs (Resize d t) o) pid) found
    ∙ found_after (with_process F (record q { holding = Holds s })) pid (record q { holding = Holds s }) (record q { regs = regs; holding = Holds (resized s d t) }) found n

still_ready : (b : Bool) (h : Holding) → (if b then false else holds_space h) ≡ true → (if b then false else true) ≡ true
still_ready true h e = absurd cc
still_ready false h e = refl

-- the accesses of an instruction that found no stack, and those of any
pub refused_accesses : (images : List NamedImage) (F : FlatState) (p : Process) (s : Space) (a : ℕ) → instruction_in s p.regs ≡ Err (Below a)
    → step_accesses images F p s ≡ accesses (answers_of s) (instruction p.regs)
unfolding step_accesses
refused_accesses images F p s a e = ap (λ (r : Result Effect Refused). accesses (answers_of s) (instruction p.regs) ++ accesses_after images F p s r) e
    ∙ Rattle.std.proofs.lemmas.List.append-nil (accesses (answers_of s) (instruction p.regs))

pub all_accesses : (images : List NamedImage) (F : FlatState) (p : Process) (s : Space)
    → step_accesses images F p s ≡ accesses (answers_of s) (instruction p.regs) ++ accesses_after images F p s (instruction_in s p.regs)
unfolding step_accesses
all_accesses images F p s = refl

extends_as : (xs ys zs ws : List Page) → zs ≡ xs → ws ≡ ys → Extends xs ys → Extends zs ws
extends_as xs ys zs ws e f k = record { next = k.next; more = k.more; is = f ∙ k.is ∙ ap (λ (l : List Page). l ++ k.next ∷ k.more) (sym e) }

sizes_for : (s : Space) (o : Option SpacePages) (a : ℕ) → Fits (Some s) o → a + length s.stack_bytes + 1 ≤ stack_top
    → Bigger s (data_pages_of s) (pages_down_to a) a
sizes_for s None a f l = absurd f
sizes_for s (Some x) a f l = let d = f.data_size in let k = f.stack_size in record {
  paged = omega arith;
  data_pages = omega arith;
  stack_pages = omega arith;
  room = l;
  reach = omega arith;
}

pub growth_touches : (A : Inputs) → GrowthTouches A
growth_touches A s pid pages r h = by (acted A s pid (entries.Grew pid pages) d.act)
  where
    d : Does A s (entries.Grew pid pages) pid
    d = does A s (entries.Grew pid pages) pid h refl

    by : Acted A s pid (entries.Grew pid pages) → Extends (touched A s.point.flat pid) (touched A (after A s (entries.Grew pid pages)).point.flat pid)
    by (Settles i) = absurd cc
    by (Refuses i) = absurd cc
    by (Steps f g i) =
        let run : ProcessRuns A s pid d.now = d.runs in
        let steps = on_steps A s s.mark pid d.now run.on in
        let w : Stepper s.point.flat pid = stepper s.point.flat pid steps in
        let q : Process = w.process in
        let sp : Space = w.space in
        let full : Stepped A s (entries.Grew pid pages) = record { pid = pid; now = d.now; runs = d.runs; ends = tt; unrefused = f; unsettling = g; next = i } in
        let c : Completes A s.point pid (entries.Grew pid pages) = completes A s.point pid (entries.Grew pid pages) tt i in
        let es : (step_at A s.point pid).entries ≡ entries.Grew pid pages ∷ [] =
        sym (open_due s.point.last pid (step_at A s.point pid).entries (open_last A s (entries.Grew pid pages) pid r h refl refl)) ∙ c.due in
        let st = step_is A s.point.flat pid (is_refused s.point.last pid) w.process w.space w.here w.holds in
        let gr : Grows A.images s.point.flat w.process w.space (is_refused s.point.last pid) (instruction_in w.space q.regs) =
        grows_of A.images s.point.flat w.process w.space (is_refused s.point.last pid) (instruction_in w.space q.regs) pid pages (sym (ap (λ (S : Step). S.entries) st) ∙ es) in
        let change : (step_at A s.point pid).change ≡ Resize (data_pages_of w.space) (pages_down_to gr.address) = ap (λ (S : Step). S.change) (st ∙ gr.step) in
        let writes : (step_at A s.point pid).writes ≡ [] = ap (λ (S : Step). S.writes) (st ∙ gr.step) in
        let regs : (step_at A s.point pid).regs ≡ q.regs = ap (λ (S : Step). S.regs) (st ∙ gr.step) in
        let low = spot_below (length sp.text_bytes) (length sp.data_bytes) (length sp.stack_bytes) gr.address (below_spot w.space (instruction q.regs) gr.address gr.below) in
        let placed : Placed A s.point.flat s.place s.holdings = r.placed in
        let tables : SameTables (machine_of s.point.flat s.place s.holdings) s.point.flat = placed.tables in
        let fits = subst (λ (o : Option Space). Fits o (numbered space_number sp.sid s.place.spaces)) (own_space s.point.flat pid w.process w.space r.numbers w.here w.holds) (tables.spaces sp.sid) in
        let bigger = sizes_for w.space (numbered space_number sp.sid s.place.spaces) gr.address fits low in
        let ready : is_ready w.process ≡ true = sym (ap ready_if w.here) ∙ steps in
        let flat : (after A s (entries.Grew pid pages)).point.flat ≡ apply_change A.images (apply_writes s.point.flat pid []) pid q.regs (Resize (data_pages_of w.space) (pages_down_to gr.address)) =
        stepped_by A s (entries.Grew pid pages) full r
        ∙ ap (λ (ws : List Rattle.vm_facts.specs.Answers.ByteWrite). apply_change A.images (apply_writes s.point.flat pid ws) pid (step_at A s.point pid).regs (step_at A s.point pid).change) writes
        ∙ ap (λ (x : Regs). apply_change A.images (apply_writes s.point.flat pid []) pid x (step_at A s.point pid).change) regs
        ∙ ap (apply_change A.images (apply_writes s.point.flat pid []) pid q.regs) change in
        let found : process_of (after A s (entries.Grew pid pages)).point.flat pid
        ≡ Some (record w.process { regs = q.regs; holding = Holds (resized w.space (data_pages_of w.space) (pages_down_to gr.address)) }) =
        ap (λ (F : FlatState). process_of F pid) flat ∙ grown_process A.images s.point.flat pid w.process w.space q.regs (data_pages_of w.space) (pages_down_to gr.address) w.here w.holds in
        let reach : Reached Effect w.space (data_pages_of w.space) (pages_down_to gr.address) gr.address (instruction q.regs) =
        reached Effect w.space (data_pages_of w.space) (pages_down_to gr.address) gr.address (instruction q.regs) bigger gr.below in
        let old : touched A s.point.flat pid ≡ distinct (filter_map (page_of_access w.space) (accesses (answers_of w.space) (instruction q.regs))) =
        is_touched A s.point.flat pid w.process w.space w.here ready w.holds
        ∙ ap (λ (l : List ByteAccess). distinct (filter_map (page_of_access w.space) l)) (refused_accesses A.images s.point.flat w.process w.space gr.address gr.below) in
        behind (after A s (entries.Grew pid pages)).point.flat w.process (resized w.space (data_pages_of w.space) (pages_down_to gr.address)) found (still_ready q.asleep q.holding ready)
        (λ more. extends_as (distinct (filter_map (page_of_access w.space) (accesses (answers_of w.space) (instruction q.regs)))) (distinct (filter_map (page_of_access (resized w.space
        (data_pages_of w.space) (pages_down_to gr.address))) (accesses (answers_of (resized w.space (data_pages_of w.space) (pages_down_to gr.address))) (instruction q.regs) ++ more)))
        (touched A s.point.flat pid) (distinct (filter_map (page_of_access (resized w.space (data_pages_of w.space) (pages_down_to gr.address)))
        (accesses (answers_of (resized w.space (data_pages_of w.space) (pages_down_to gr.address))) (instruction q.regs) ++ more))) old refl
        (pages_extend Effect w.space (data_pages_of w.space) (pages_down_to gr.address) gr.address (instruction q.regs) more reach))
      where
        behind : (G : FlatState) (p : Process) (z : Space) → process_of G pid ≡ Some (record p { regs = p.regs; holding = Holds z }) → (if p.asleep then false else true) ≡ true
            → ((more : List ByteAccess) → Extends (touched A s.point.flat pid) (distinct (filter_map (page_of_access z) (accesses (answers_of z) (instruction p.regs) ++ more))))
            → Extends (touched A s.point.flat pid) (touched A G pid)
        behind G p z e k more =
            let x = more (accesses_after A.images G (record p { regs = p.regs; holding = Holds z }) z (instruction_in z p.regs)) in
            extends_as (touched A s.point.flat pid) (distinct
            (filter_map (page_of_access z) (accesses (answers_of z) (instruction p.regs) ++ accesses_after A.images G (record p { regs = p.regs; holding = Holds z }) z (instruction_in z p.regs))))
            (touched A s.point.flat pid) (touched A G pid) refl
            (is_touched A G pid (record p { regs = p.regs; holding = Holds z }) z e k refl
            ∙ ap (λ (l : List ByteAccess). distinct (filter_map (page_of_access z) l)) (all_accesses A.images G (record p { regs = p.regs; holding = Holds z }) z)) x
