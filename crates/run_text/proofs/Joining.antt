-- Joining while writing gives the text of the joined entries.
use Rattle.std.proofs.Common.{◌≡◌, ℕ, ◌+◌, ◌<◌, Bool, true, false, List, [], ◌∷◌, ◌++◌, length, get_or, drop, refl, sym, ◌∙◌, ap, subst, append_assoc, add_assoc, arith, drop-cons, add-one, codes}
use Rattle.std.specs.Prelude.{Option, Some, None, ◌==◌}
use Rattle.std.proofs.lemmas.List.{append-nil}
use Rattle.vm_facts.specs.declared.entry.Entry.{Entry}
use Rattle.vm_facts.specs.declared.entry.Entry.TheVariants.{Event, Turn, Ran, Out, Grew, Call, Refused, Sleeps, Ended, Zero, Get, Copy, Reclaim, Hands, Put, SwapOut, SwapIn, Owners}
use Rattle.vm_facts.specs.declared.entry.Entry.TheVariants as entry
use Rattle.run_text.specs.declared.waiting.Run.{Run}
use Rattle.run_text.specs.Text.{part, parts, line_of, lines_of, is_paging, join_before, join_ran, joined, unless, without_paging}
use Rattle.run_text.specs.Running.{waiting, waiting_text, text_unless_same, lengthened, text_at, run_after}
use Rattle.std.proofs.lemmas.Bool.Decides.{nat_tests}

ended_parts : (x y z : List ℕ) → (x ++ []) ++ (y ++ z) ≡ (x ++ (y ++ [])) ++ z
ended_parts x y z = ap (λ (u : List ℕ). u ++ (y ++ z)) (append-nil x) ∙ sym (append_assoc x y z) ∙ ap (λ (u : List ℕ). (x ++ u) ++ z) (sym (append-nil y))

-- the line of a `Ran`, number by number
pub ran_line : (pid count : ℕ) → (codes "r" ++ parts (pid ∷ [])) ++ (part count ++ codes "\n") ≡ line_of (Ran pid count)
unfolding line_of
ran_line pid count = ap (λ (z : List ℕ). codes "r" ++ z) (ended_parts (part pid) (part count) (codes "\n"))

same_process : (p : ℕ) → (p == p) ≡ true
same_process p = grind (arith, nat_tests)

-- two `Ran` of one process before joined entries
join_same_by : (p m n q k : ℕ) (es : List Entry) (b : Bool) → (p == q) ≡ b → join_before (Ran p m) (join_ran b p n q k es) ≡ join_ran b p (m + n) q k es
join_same_by p m n q k es true h = ap (λ (t : Bool). join_ran t p m p (n + k) es) (same_process p) ∙ ap (λ (c : ℕ). Ran p c ∷ es) (sym (add_assoc m n k))
join_same_by p m n q k es false h = ap (λ (t : Bool). join_ran t p m p n (Ran q k ∷ es)) (same_process p)

join_same : (p m n : ℕ) (xs : List Entry) → join_before (Ran p m) (join_before (Ran p n) xs) ≡ join_before (Ran p (m + n)) xs
join_same p m n [] = ap (λ (t : Bool). join_ran t p m p n []) (same_process p)
join_same p m n (Ran q k ∷ es) = join_same_by p m n q k es (p == q) refl
join_same p m n (e ∷ es) = ap (λ (t : Bool). join_ran t p m p n (e ∷ es)) (same_process p)

-- a `Ran` of another process before joined entries
join_other_by : (a m p n q k : ℕ) (es : List Entry) (b : Bool) → (a == p) ≡ false
    → join_before (Ran a m) (join_ran b p n q k es) ≡ Ran a m ∷ join_ran b p n q k es
join_other_by a m p n q k es true h = ap (λ (t : Bool). join_ran t a m p (n + k) es) h
join_other_by a m p n q k es false h = ap (λ (t : Bool). join_ran t a m p n (Ran q k ∷ es)) h

join_other : (a m p n : ℕ) (xs : List Entry) → (a == p) ≡ false → join_before (Ran a m) (join_before (Ran p n) xs) ≡ Ran a m ∷ join_before (Ran p n) xs
join_other a m p n [] h = ap (λ (t : Bool). join_ran t a m p n []) h
join_other a m p n (Ran q k ∷ es) h = join_other_by a m p n q k es (p == q) h
join_other a m p n (e ∷ es) h = ap (λ (t : Bool). join_ran t a m p n (e ∷ es)) h

-- where a `Ran` comes
step_ran : (r : Run) (p n : ℕ) (xs : List Entry) (b : Bool) → (r.pid == p) ≡ b
    → lines_of (join_before (Ran r.pid r.count) (join_before (Ran p n) xs))
    ≡ text_unless_same b r ++ lines_of (join_before (Ran (lengthened b r p n).pid (lengthened b r p n).count) xs)
step_ran r p n xs true h =
    let e : r.pid ≡ p = grind (arith, nat_tests) in
    ap (λ (es : List Entry). lines_of es)
    (subst (λ (q : ℕ). join_before (Ran r.pid r.count) (join_before (Ran q n) xs) ≡ join_before (Ran r.pid (r.count + n)) xs) e (join_same r.pid r.count n xs))
step_ran r p n xs false h = ap (λ (es : List Entry). lines_of es) (join_other r.pid r.count p n xs h)

-- where an entry comes
pub step : (run : Option Run) (e : Entry) (es : List Entry)
    → lines_of (joined (waiting run ++ unless (is_paging e) e es)) ≡ text_at run e ++ lines_of (joined (waiting (run_after run e) ++ es))
step None (Ran p n) es = refl
step (Some r) (Ran p n) es = step_ran r p n (joined es) (r.pid == p) refl
step run (Zero page) es = refl
step run (Get page lo n) es = refl
step run (Copy page) es = refl
step run (Reclaim page) es = refl
step run (Hands count) es = refl
step run (Put page n) es = refl
step run entry.Done es = refl
step run (SwapOut pid) es = refl
step run (SwapIn pid) es = refl
step run (Owners free used moving held) es = refl
step None e es = refl
step (Some r) e es = sym (append_assoc (line_of (Ran r.pid r.count)) (line_of e) (lines_of (joined es)))

-- the entries that are left, at an entry
left_at : (es : List Entry) (i : ℕ) (e : Entry) → i < length es → get_or es i e ≡ e
    → without_paging (drop i es) ≡ unless (is_paging e) e (without_paging (drop (i + 1) es))
left_at es i e h is =
    let split : drop i es ≡ e ∷ drop (i + 1) es = subst (λ (k : ℕ). drop i es ≡ get_or es i e ∷ drop k es) (sym (add-one i)) (drop-cons es i e h) ∙ ap (λ (x : Entry). x ∷ drop (i + 1) es) is in
    ap (λ (xs : List Entry). without_paging xs) split

-- the text of what waits and of the entries that are left, at an entry
pub joined_at : (run : Option Run) (es : List Entry) (i : ℕ) (e : Entry) → i < length es → get_or es i e ≡ e
    → lines_of (joined (waiting run ++ without_paging (drop i es)))
    ≡ text_at run e ++ lines_of (joined (waiting (run_after run e) ++ without_paging (drop (i + 1) es)))
joined_at run es i e h is =
    ap (λ (xs : List Entry). lines_of (joined (waiting run ++ xs))) (left_at es i e h is) ∙ step run e (without_paging (drop (i + 1) es))

-- the same with what waits then
pub joined_then : (run run' : Option Run) (es : List Entry) (i : ℕ) (e : Entry) → i < length es → get_or es i e ≡ e → run' ≡ run_after run e
    → lines_of (joined (waiting run ++ without_paging (drop i es))) ≡ text_at run e ++ lines_of (joined (waiting run' ++ without_paging (drop (i + 1) es)))
joined_then run run' es i e h is after =
    joined_at run es i e h is ∙ ap (λ (r : Option Run). text_at run e ++ lines_of (joined (waiting r ++ without_paging (drop (i + 1) es)))) (sym after)

waiting_lines : (run : Option Run) → lines_of (joined (waiting run ++ [])) ≡ waiting_text run
waiting_lines None = refl
waiting_lines (Some r) = append-nil (line_of (Ran r.pid r.count))

-- where no entry is left
pub joined_end : (run : Option Run) {left : List Entry} → left ≡ [] → lines_of (joined (waiting run ++ without_paging left)) ≡ waiting_text run
joined_end run {left} none = ap (λ (xs : List Entry). lines_of (joined (waiting run ++ without_paging xs))) none ∙ waiting_lines run
