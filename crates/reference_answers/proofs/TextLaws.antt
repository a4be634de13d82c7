-- Texts, line by line.
use Rattle.std.proofs.Common.{◌≡◌, ℕ, ◌+◌, ◌<◌, ◌≤◌, length, get_or, drop, List, ◌++◌, sym, ap, ◌∙◌, append_assoc, append-nil}
use Rattle.std.specs.Prelude.{codes, decimal}
use Rattle.std.specs.List.{flat_map}
use Rattle.std.proofs.lemmas.List.{drop_more, drop_all}
use Rattle.vm_facts.specs.declared.page.Page.{Page}
use Rattle.flat_model.specs.Touched.{distinct}
use Rattle.run_text.specs.Text.{part}
use Rattle.command_edge.specs.Ending.{numbered_line}
use Rattle.page_opt.specs.declared.Victim.{Victim}
use Rattle.stack_dist.specs.Lru.{lru_faults}
use Rattle.policy_faults.specs.Policies.{fifo_faults, clock_faults, hands_faults}
use Rattle.reference_answers.specs.Texts.{counted_text, victim_line, optimum_text, size_lines, policy_lines, policies_text}

flat_line : (t a b e r : List ℕ) → t ++ a ++ b ++ e ++ r ≡ t ++ (a ++ b ++ e ++ r)
flat_line t a b e r = ap (λ x. x ++ e ++ r) (append_assoc t a b) ∙ ap (λ x. x ++ r) (append_assoc t (a ++ b) e) ∙ append_assoc t (a ++ b ++ e) r

-- the line of one more size
pub sizes_step : (text new curve : List ℕ) (i size d : ℕ) → i < length curve → new ≡ text ++ decimal size ++ part (get_or curve i d) ++ codes "\n"
    → new ++ size_lines (size + 1) (drop (i + 1) curve) ≡ text ++ size_lines size (drop i curve)
unfolding size_lines
sizes_step text new curve i size d lt e =
    ap (λ t. t ++ size_lines (size + 1) (drop (i + 1) curve)) e
    ∙ flat_line text (decimal size) (part (get_or curve i d)) (codes "\n") (size_lines (size + 1) (drop (i + 1) curve))
    ∙ sym (ap (λ l. text ++ size_lines size l) (drop_more curve i d lt))

pub sizes_end : (text all curve : List ℕ) (i size : ℕ) → length curve ≤ i → text ++ size_lines size (drop i curve) ≡ all → text ≡ all
unfolding size_lines
sizes_end text all curve i size le e = sym (ap (λ l. text ++ size_lines size l) (drop_all i curve le) ∙ append-nil text) ∙ e

-- the lines of the counts
pub is_counted : (refs : List Page) (text : List ℕ) (n k : ℕ) → text ≡ numbered_line (codes "references ") n ++ numbered_line (codes "pages ") k
    → n ≡ length refs → k ≡ length (distinct refs) → text ≡ counted_text refs
is_counted refs text n k e references pages =
    e ∙ ap (λ m. numbered_line (codes "references ") m ++ numbered_line (codes "pages ") k) references
    ∙ ap (λ m. numbered_line (codes "references ") (length refs) ++ numbered_line (codes "pages ") m) pages

-- the text of an optimum, part by part
pub is_optimum_text : (refs pages : List Page) (frames faults : ℕ) (victims vs : List Victim) (t0 t1 t2 t3 : List ℕ)
    → t0 ≡ counted_text refs → t1 ≡ t0 ++ numbered_line (codes "frames ") frames → t2 ≡ t1 ++ numbered_line (codes "least faults ") faults
    → t3 ≡ t2 ++ flat_map (victim_line pages) vs → pages ≡ distinct refs → vs ≡ victims → t3 ≡ optimum_text refs frames faults victims
is_optimum_text refs pages frames faults victims vs t0 t1 t2 t3 e0 e1 e2 e3 ps v =
    let a = numbered_line (codes "frames ") frames in
    let b = numbered_line (codes "least faults ") faults in
    e3 ∙ ap (λ t. t ++ flat_map (victim_line pages) vs) (e2 ∙ ap (λ t. t ++ b) (e1 ∙ ap (λ t. t ++ a) e0))
    ∙ ap (λ qs. counted_text refs ++ a ++ b ++ flat_map (victim_line qs) vs) ps
    ∙ ap (λ ws. counted_text refs ++ a ++ b ++ flat_map (victim_line (distinct refs)) ws) v

-- the text about policies, by the numbers in it
pub is_policies_text : (refs numbers : List ℕ) (frames ahead least fifo clock hands lru : ℕ) (text : List ℕ) → refs ≡ numbers
    → text ≡ policy_lines fifo clock hands lru least
    → fifo ≡ fifo_faults refs frames → clock ≡ clock_faults refs frames → hands ≡ hands_faults refs frames ahead → lru ≡ lru_faults refs frames
    → text ≡ policies_text numbers frames ahead least
is_policies_text refs numbers frames ahead least fifo clock hands lru text same lines f c h l =
    lines
    ∙ ap (λ k. policy_lines k clock hands lru least) f
    ∙ ap (λ k. policy_lines (fifo_faults refs frames) k hands lru least) c
    ∙ ap (λ k. policy_lines (fifo_faults refs frames) (clock_faults refs frames) k lru least) h
    ∙ ap (λ k. policy_lines (fifo_faults refs frames) (clock_faults refs frames) (hands_faults refs frames ahead) k least) l
    ∙ ap (λ ns. policies_text ns frames ahead least) same
