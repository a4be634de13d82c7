-- The last line of a text.
use Rattle.std.proofs.Common.{◌≡◌, ◌≢◌, ℕ, zero, suc, ◌+◌, ◌-◌, ◌<◌, ◌≤◌, Bool, true, false, List, [], ◌∷◌, ◌++◌, length, take, drop, get_or, append_assoc, refl, sym, ap, ◌∙◌, subst, arith}
use Rattle.std.specs.Prelude.{◌==◌, slice_index}
use Rattle.std.proofs.lemmas.Bool.Decides.{nat_tests}
use Rattle.std.proofs.lemmas.List.{append-nil, take-append-drop, length-drop, get_or-drop, take_more}
use Rattle.run_text.specs.Lines.{begin_line, lines_in}
use Rattle.replay_command.specs.LastLine.{is_fault_line, unless_fault, without_fault_line, IsLastStart}

-- a text without a line feed but its last byte is one line
one_step : (x : ℕ) (xs : List ℕ) (end : Bool) → (x == 10) ≡ end → end ≡ false → lines_in xs ≡ xs ∷ [] → begin_line end x (lines_in xs) ≡ (x ∷ xs) ∷ []
one_step x xs true e other line = absurd cc
one_step x xs false e other line = ap (begin_line false x) line

other_byte : (x : ℕ) → x ≢ 10 → (x == 10) ≡ false
other_byte x other = grind (arith, nat_tests)

one_line : (xs : List ℕ) → 0 < length xs → ((k : ℕ) → k + 1 < length xs → get_or xs k 0 ≢ 10) → lines_in xs ≡ xs ∷ []
unfolding lines_in
one_line [] some last = absurd (omega arith)
one_line (x ∷ []) some last = go (x == 10)
  where
    go : (end : Bool) → begin_line end x [] ≡ (x ∷ []) ∷ []
    go true = refl
    go false = refl
one_line (x ∷ y ∷ ys) some last =
    one_step x (y ∷ ys) (x == 10) refl (other_byte x (last 0 (omega arith)))
    (one_line (y ∷ ys) (omega arith) (λ k below. last (suc k) (omega (arith, below))))

-- a text has a line unless it is empty
some_line : (end : Bool) (x : ℕ) (ls : List (List ℕ)) → 0 < length (begin_line end x ls)
some_line true x ls = omega arith
some_line false x [] = omega arith
some_line false x (l ∷ ls) = omega arith

begin_before : (end : Bool) (x : ℕ) (ls more : List (List ℕ)) → 0 < length ls → begin_line end x (ls ++ more) ≡ begin_line end x ls ++ more
begin_before true x ls more some = refl
begin_before false x [] more some = absurd (omega (arith, some))
begin_before false x (l ∷ ls) more some = refl

-- lines after a line feed
lines_behind : (front rest : List ℕ) → lines_in (front ++ 10 ∷ rest) ≡ lines_in (front ++ 10 ∷ []) ++ lines_in rest
unfolding lines_in
lines_behind [] rest = refl
lines_behind (x ∷ []) rest = begin_before (x == 10) x (begin_line true 10 []) (lines_in rest) (omega arith)
lines_behind (x ∷ y ∷ ys) rest =
    ap (begin_line (x == 10) x) (lines_behind (y ∷ ys) rest)
    ∙ begin_before (x == 10) x (lines_in (y ∷ ys ++ 10 ∷ [])) (lines_in rest) (some_line (y == 10) y (lines_in (ys ++ 10 ∷ [])))

-- leaving out the last line
leaves_last : (ls : List (List ℕ)) (line : List ℕ) → without_fault_line (ls ++ line ∷ []) ≡ ls ++ unless_fault (is_fault_line line) line
leaves_last [] line = refl
leaves_last (l ∷ []) line = ap (λ (xs : List (List ℕ)). l ∷ xs) (leaves_last [] line)
leaves_last (l ∷ m ∷ ls) line = ap (λ (xs : List (List ℕ)). l ∷ xs) (leaves_last (m ∷ ls) line)

-- the lines before the last one, and it
front_lines : (bytes : List ℕ) (start : ℕ) → (0 < start → slice_index bytes (start - 1) ≡ 10) → start < length bytes
    → lines_in (drop start bytes) ≡ drop start bytes ∷ [] → lines_in bytes ≡ lines_in (take start bytes) ++ drop start bytes ∷ []
unfolding lines_in
front_lines bytes zero behind below line = line
front_lines bytes (suc n) behind below line =
    let at : get_or bytes n 0 ≡ 10 = subst (λ (k : ℕ). get_or bytes k 0 ≡ 10) (let e : suc n - 1 ≡ n = omega arith in e) (behind (omega arith)) in
    let front : take (suc n) bytes ≡ take n bytes ++ 10 ∷ []
    = subst (λ (k : ℕ). take k bytes ≡ take n bytes ++ 10 ∷ []) (let e : n + 1 ≡ suc n = omega arith in e)
    (take_more bytes n 0 (omega (arith, below)) ∙ ap (λ (b : ℕ). take n bytes ++ b ∷ []) at) in
    let last = drop (suc n) bytes in
    ap lines_in (sym (take-append-drop (suc n) bytes) ∙ ap (λ (xs : List ℕ). xs ++ last) front ∙ append_assoc (take n bytes) (10 ∷ []) last)
    ∙ lines_behind (take n bytes) last ∙ ap (λ (xs : List ℕ). lines_in xs ++ lines_in last) (sym front)
    ∙ ap (λ (ls : List (List ℕ)). lines_in (take (suc n) bytes) ++ ls) line

last_line : (bytes : List ℕ) (start : ℕ) → 0 < length bytes → IsLastStart bytes start → lines_in bytes ≡ lines_in (take start bytes) ++ drop start bytes ∷ []
last_line bytes start some begins =
    let below = begins.some some in
    front_lines bytes start begins.behind below
    (one_line (drop start bytes) (omega (arith, length-drop start bytes, below))
    (λ k within. subst (λ (b : ℕ). b ≢ 10) (sym (get_or-drop start bytes k 0)) (begins.last (start + k) (omega arith) (omega (arith, within, length-drop start bytes, below)))))

-- a last line that is the line of a fault is left out, and another one stays
pub fault_left_out : (bytes : List ℕ) (start : ℕ) → IsLastStart bytes start → is_fault_line (drop start bytes) ≡ true
    → lines_in (take start bytes) ≡ without_fault_line (lines_in bytes)
fault_left_out [] start begins fault = absurd (no_fault start fault)
  where
    no_fault : (start : ℕ) → is_fault_line (drop start []) ≡ true → ⊥
    no_fault zero fault = cc
    no_fault (suc n) fault = cc
fault_left_out (b ∷ bs) start begins fault =
    let bytes = b ∷ bs in
    let front = lines_in (take start bytes) in
    sym (ap without_fault_line (last_line bytes start (omega arith) begins) ∙ leaves_last front (drop start bytes)
    ∙ ap (λ (t : Bool). front ++ unless_fault t (drop start bytes)) fault ∙ append-nil front)

pub other_stays : (bytes : List ℕ) (start : ℕ) → IsLastStart bytes start → is_fault_line (drop start bytes) ≡ false
    → lines_in bytes ≡ without_fault_line (lines_in bytes)
unfolding lines_in
other_stays [] start begins other = refl
other_stays (b ∷ bs) start begins other =
    let bytes = b ∷ bs in
    let front = lines_in (take start bytes) in
    let whole = last_line bytes start (omega arith) begins in
    whole ∙ sym (ap without_fault_line whole ∙ leaves_last front (drop start bytes) ∙ ap (λ (t : Bool). front ++ unless_fault t (drop start bytes)) other)

-- a text has no more lines than bytes
pub few_lines : (bytes : List ℕ) → length (lines_in bytes) ≤ length bytes
unfolding lines_in
few_lines [] = omega arith
few_lines (b ∷ bs) = one_more (b == 10) b (lines_in bs) (length bs) (few_lines bs)
  where
    one_more : (end : Bool) (b : ℕ) (ls : List (List ℕ)) (n : ℕ) → length ls ≤ n → length (begin_line end b ls) ≤ suc n
    one_more true b ls n few = omega (arith, few)
    one_more false b [] n few = omega arith
    one_more false b (l ∷ ls) n few = omega (arith, few)
