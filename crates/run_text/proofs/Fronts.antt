-- A schedule is judged by its front: as many bytes as 65,536 good lines can have, and 21 more.
use Rattle.std.proofs.Common.{◌≡◌, ◌⊎◌, inl, inr, ℕ, ◌+◌, ◌*◌, ◌≤◌, Bool, true, false, List, [], ◌∷◌, ◌++◌, length, take, drop, refl, sym, ◌∙◌, ap, subst, arith, length-append, codes}
use Rattle.std.specs.Prelude.{◌==◌}
use Rattle.std.proofs.lemmas.List.{take-append-drop, length-take-le}
use Rattle.vm_facts.specs.declared.event.Event.{Event}
use Rattle.vm_facts.specs.declared.event.Event.TheVariants.{Dispatch, Interrupt, Hands, Swapper, Audit}
use Rattle.run_text.specs.Lines.{begin_line, lines_in, AreLines, IsFirstBad}
use Rattle.run_text.specs.Schedule.{IsEvent, IsEventLine, IsReadSchedule}
use Rattle.run_text.specs.declared.limits.TheConstants.{SCHEDULE_LINES}
use Rattle.run_text.specs.declared.answers.Schedule.{Schedule}
use Rattle.run_text.specs.declared.answers.Schedule.TheVariants.{Is, BadLine}

-- the bytes of some lines
abbrev total : List (List ℕ) → ℕ
total [] = 0
total (l ∷ ls) = length l + total ls

total-append : (xs ys : List (List ℕ)) → total (xs ++ ys) ≡ total xs + total ys
total-append [] ys = omega arith
total-append (x ∷ xs) ys = omega (arith, total-append xs ys)

begun : (t : Bool) (b : ℕ) (ls : List (List ℕ)) → total (begin_line t b ls) ≡ total ls + 1
begun true b ls = omega arith
begun false b [] = omega arith
begun false b (l ∷ ls) = omega arith

-- no byte is lost between lines
total_lines : (bytes : List ℕ) → total (lines_in bytes) ≡ length bytes
unfolding lines_in
total_lines [] = refl
total_lines (b ∷ bs) = omega (arith, begun (b == 10) b (lines_in bs), total_lines bs)

-- the lines of a text are those of a longer one, but for the last, which may go on there
abbrev Extends : List (List ℕ) → List (List ℕ) → Type 0
Extends [] ms = Unit {0}
Extends (l ∷ ls) [] = ⊥
Extends (l ∷ []) (m ∷ ms) = length l ≤ length m
Extends (l ∷ k ∷ ls) (m ∷ ms) = (m ≡ l) × Extends (k ∷ ls) ms

begins : (t : Bool) (b : ℕ) (ls ms : List (List ℕ)) → Extends ls ms → Extends (begin_line t b ls) (begin_line t b ms)
begins true b [] ms e = omega arith
begins true b (l ∷ ls) ms e = (refl, e)
begins false b [] [] e = omega arith
begins false b [] (m ∷ ms) e = omega arith
begins false b (l ∷ ls) [] e = absurd e
begins false b (l ∷ []) (m ∷ ms) e = omega (arith, e)
begins false b (l ∷ k ∷ ls) (m ∷ ms) e = (ap (λ (x : List ℕ). b ∷ x) e.0, e.1)

lines_extend : (bytes more : List ℕ) → Extends (lines_in bytes) (lines_in (bytes ++ more))
unfolding lines_in
lines_extend [] more = tt
lines_extend (b ∷ bs) more = begins (b == 10) b (lines_in bs) (lines_in (bs ++ more)) (lines_extend bs more)

-- a line of the longer text at the place of one of the shorter: the same, or the last, which may go on
record Standing (before after : List (List ℕ)) (bad : List ℕ) (ms : List (List ℕ)) : Type 0 where
  line : List ℕ
  behind : List (List ℕ)
  split : ms ≡ before ++ line ∷ behind
  same : (line ≡ bad) ⊎ ((after ≡ []) × (length bad ≤ length line))

stands_first : (bad : List ℕ) (after ms : List (List ℕ)) → Extends (bad ∷ after) ms → Standing [] after bad ms
stands_first bad [] [] e = absurd e
stands_first bad (k ∷ ls) [] e = absurd e
stands_first bad [] (m ∷ ms) e = record { line = m; behind = ms; split = refl; same = inr (refl, e) }
stands_first bad (k ∷ ls) (m ∷ ms) e = record { line = m; behind = ms; split = refl; same = inl e.0 }

stands_behind : (x : List ℕ) (before after ms : List (List ℕ)) (bad m : List ℕ) → m ≡ x → Standing before after bad ms
    → Standing (x ∷ before) after bad (m ∷ ms)
stands_behind x before after ms bad m e s = record {
  line = s.line;
  behind = s.behind;
  split = ap (λ (y : List ℕ). y ∷ ms) e ∙ ap (λ (ys : List (List ℕ)). x ∷ ys) s.split;
  same = s.same;
}

stands : (before after ms : List (List ℕ)) (bad : List ℕ) → Extends (before ++ bad ∷ after) ms → Standing before after bad ms
stands [] after ms bad e = stands_first bad after ms e
stands (x ∷ []) after [] bad e = absurd e
stands (x ∷ []) after (m ∷ ms) bad e = stands_behind x [] after ms bad m e.0 (stands_first bad after ms e.1)
stands (x ∷ y ∷ before) after [] bad e = absurd e
stands (x ∷ y ∷ before) after (m ∷ ms) bad e = stands_behind x (y ∷ before) after ms bad m e.0 (stands (y ∷ before) after ms bad e.1)

-- the line of an event has at most 20 bytes
text_short : (e : Event) (text : List ℕ) → IsEvent e text → length text ≤ 19
text_short (Dispatch pid count) text is =
    let p = is.0 in
    let n = is.1 in
    let a = length-append (codes "d ") (p ++ (codes " " ++ n)) in
    let b = length-append p (codes " " ++ n) in
    let c = length-append (codes " ") n in
    let d : length text ≡ length (codes "d " ++ (p ++ (codes " " ++ n))) = ap (λ (x : List ℕ). length x) is.4 in
    omega (arith, a, b, c, d, is.2.1, is.3.1)
text_short Interrupt text is = let d : length text ≡ 1 = ap (λ (x : List ℕ). length x) is in omega (arith, d)
text_short (Hands count) text is =
    let a = length-append (codes "h ") is.0 in
    let d : length text ≡ length (codes "h " ++ is.0) = ap (λ (x : List ℕ). length x) is.2 in
    omega (arith, a, d, is.1.1)
text_short Swapper text is = let d : length text ≡ 1 = ap (λ (x : List ℕ). length x) is in omega (arith, d)
text_short Audit text is = let d : length text ≡ 1 = ap (λ (x : List ℕ). length x) is in omega (arith, d)

line_short : (e : Event) (line : List ℕ) → IsEventLine e line → length line ≤ 20
line_short e line is =
    let a = length-append is.0 (codes "\n") in
    let b : length line ≡ length (is.0 ++ codes "\n") = ap (λ (x : List ℕ). length x) is.1 in
    let c : length (codes "\n") ≡ 1 = refl in
    omega (arith, a, b, c, text_short e is.0 is.2)

lines_short : (es : List Event) (ls : List (List ℕ)) → AreLines IsEventLine es ls → (total ls ≤ 20 * length ls) × (length ls ≡ length es)
lines_short [] [] are = (omega arith, refl)
lines_short [] (l ∷ ls) are = absurd are
lines_short (e ∷ es) [] are = absurd are
lines_short (e ∷ es) (l ∷ ls) are =
    let more = lines_short es ls are.1 in
    (omega (arith, line_short e l are.0, more.0), omega (arith, more.1))

-- such a front isn't good
front_not_good : (front : List ℕ) (es : List Event) → length front ≡ 1310741 → AreLines IsEventLine es (lines_in front) → length es ≤ SCHEDULE_LINES → ⊥
front_not_good front es len are few =
    let short = lines_short es (lines_in front) are in
    absurd (omega (arith, total_lines front, len, short.0, short.1, few))

-- a bad last line of such a front has more bytes than an event's
last_is_long : (front bad : List ℕ) (es : List Event) (before after : List (List ℕ)) (n : ℕ) → length front ≡ 1310741
    → lines_in front ≡ before ++ bad ∷ after → after ≡ []
    → AreLines IsEventLine es before → n ≡ length before + 1 → n ≤ SCHEDULE_LINES + 1 → 21 ≤ length bad
last_is_long front bad es before after n len split none are number within =
    let short = lines_short es before are in
    let all : total (lines_in front) ≡ total (before ++ bad ∷ after) = ap total split in
    let parts = total-append before (bad ∷ after) in
    let last : total after ≡ 0 = ap total none in
    omega (arith, total_lines front, len, all, parts, last, short.0, number, within)

bad_still : (front more : List ℕ) (n : ℕ) → length front ≡ 1310741 → IsFirstBad IsEventLine SCHEDULE_LINES n (lines_in front)
    → IsFirstBad IsEventLine SCHEDULE_LINES n (lines_in (front ++ more))
bad_still front more n len b = record {
  items = b.items;
  before = b.before;
  bad = s.line;
  after = s.behind;
  split = s.split;
  number = b.number;
  good = b.good;
  none = λ few e is. none_by s.same few e is;
  within = b.within;
}
  where
    s : Standing b.before b.after b.bad (lines_in (front ++ more))
    s = stands b.before b.after (lines_in (front ++ more)) b.bad (subst (λ (ls : List (List ℕ)). Extends ls (lines_in (front ++ more))) b.split (lines_extend front more))

    none_by : (s.line ≡ b.bad) ⊎ ((b.after ≡ []) × (length b.bad ≤ length s.line)) → n ≤ SCHEDULE_LINES → (e : Event) → IsEventLine e s.line → ⊥
    none_by (inl same) few e is = b.none few e (subst (λ (l : List ℕ). IsEventLine e l) same is)
    none_by (inr last) few e is =
        absurd (omega (arith, line_short e s.line is, last.1, last_is_long front b.bad b.items b.before b.after n len b.split last.0 b.good b.number b.within))

-- what a long schedule's front reads as, the schedule reads as
pub front_reads : (front more : List ℕ) (schedule : Schedule) → length front ≡ 1310741 → IsReadSchedule front schedule → IsReadSchedule (front ++ more) schedule
front_reads front more (Is events) len is = absurd (front_not_good front events.items len is.0 is.1)
front_reads front more (BadLine n) len is = bad_still front more n len is

-- the same of a front of so many bytes at most
pub schedule_by_front : (bytes : List ℕ) (count : ℕ) (schedule : Schedule) → (count ≡ length bytes) ⊎ ((count ≡ 1310741) × (count ≤ length bytes))
    → IsReadSchedule (take count bytes) schedule → IsReadSchedule bytes schedule
schedule_by_front bytes count schedule (inl all) is = subst (λ (b : List ℕ). IsReadSchedule b schedule) (subst (λ (n : ℕ). take n bytes ≡ bytes) (sym all) (take_all bytes)) is
  where
    take_all : (b : List ℕ) → take (length b) b ≡ b
    take_all [] = refl
    take_all (x ∷ xs) = ap (λ (ys : List ℕ). x ∷ ys) (take_all xs)
schedule_by_front bytes count schedule (inr long) is =
    subst (λ (b : List ℕ). IsReadSchedule b schedule) (take-append-drop count bytes)
    (front_reads (take count bytes) (drop count bytes) schedule (front_length bytes count long.1 ∙ long.0) is)
  where
    front_length : (b : List ℕ) (n : ℕ) → n ≤ length b → length (take n b) ≡ n
    front_length b n h = length-take-le n b h
